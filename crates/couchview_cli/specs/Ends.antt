-- How the run of a session ends.
use Rattle.std.specs.Prelude.{◌≡◌, ◌≢◌, ◌⊎◌, ℕ, List, [], ◌∷◌, ◌++◌, Option, length}
use Rattle.std.specs.Io.KnownBytes.{Appends, Consumes, IsAtEnd}
use Rattle.view_ports.specs.declared.run_end.RunEnd.{RunEnd}
use Rattle.view_ports.specs.declared.run_end.RunEnd.TheVariants.{InputEnded, SinkFailed}
use Rattle.view_ports.specs.declared.folder.Folder.{Ghosts as Folders}
use Rattle.view_ports.specs.declared.servers.Servers.{Ghosts as Servers}
use Rattle.view_ports.specs.Disk.{IfTold, LeavesOnly, Tells}
use Rattle.view_ports.specs.Exchanges.{Exchange, IsPrefixOf, LeadsTo, lines_of, text_of}
use Rattle.view_ports.specs.Lines.{IsCut}
use Rattle.view_ports.specs.Runs.{AreFirst, AreLines, Run}
use Rattle.line_loop.specs.declared.loop_end.LoopEnd.{LoopEnd}
use Rattle.line_loop.specs.declared.loop_end.LoopEnd.TheVariants as loop_end
use Rattle.line_loop.specs.Loops.{HasReadBy}
use Rattle.view_engine.specs.declared.halt.StepFault.{StepFault}
use Rattle.view_engine.specs.Calls.{Scene}
use Rattle.view_engine.specs.Disks.{IsFitFor}
use Rattle.view_engine.specs.Moments.{Moment}
use Rattle.view_engine.specs.Refusals.{request_of}
use Rattle.view_engine.specs.Worlds.{at_start}
use Rattle.couchview_cli.specs.Serving.{HaveRoom, MeetsClash, width}
use Rattle.couchview_cli.specs.Session.{HasCome, IsUnanswered, Origin, StepsOf}

module _ {F C : Type 0} (f : Folders F) (s : Servers C) (origin : Origin) (IsOver : Type 0) (held now : Option (List ℕ)) (bytes : List ℕ) (after : Scene F C) where
  -- a session that read these bytes came to this end
  pub record Ended (end : RunEnd) : Type 0 where
    pub gained : List ℕ
    pub moment : Moment
    pub run : Run (StepsOf s.functions s.honest origin) IsOver (at_start origin.opening width origin.faults) bytes gained end moment
    pub has_come : HasCome f s origin after moment
    pub fits : HaveRoom s.functions s.honest origin.languages origin.opening moment.world origin.disk (f.disk after.folder) run.exchanges
    pub wrote : Appends held now gained

  -- a session that read these bytes was cut short in the line in hand; the lines before it are answered
  pub record CutOff (fault : StepFault) : Type 0 where
    pub exchanges : List Exchange
    pub lines : List (List ℕ)
    pub rest : List ℕ
    pub line : List ℕ
    pub more : List (List ℕ)
    pub mid : Scene F C
    pub moment : Moment
    pub cut : IsCut bytes lines rest
    pub answered : AreLines IsOver lines rest (lines_of exchanges ++ line ∷ more)
    pub leads : LeadsTo (StepsOf s.functions s.honest origin) (at_start origin.opening width origin.faults) exchanges moment
    pub has_come : HasCome f s origin mid moment
    pub fits : HaveRoom s.functions s.honest origin.languages origin.opening moment.world origin.disk (f.disk mid.folder) exchanges
    pub halts : IsUnanswered f s mid after line fault
    pub fit : IfTold (f.disk mid.folder) (λ d. IsFitFor (request_of line) (moment.world))
    pub wrote : Appends held now (text_of exchanges)

  -- a session that read these bytes met designs that clash; what the sink gained begins with the replies to the lines before, unless the sink
  -- failed in one of these
  pub record HasClashed (end : LoopEnd StepFault) : Type 0 where
    pub gained : List ℕ
    pub wrote : Appends held now gained
    pub meets : MeetsClash s.functions s.honest origin.languages origin.opening origin.disk origin.faults bytes
    pub replies : IsPrefixOf (text_of meets.exchanges) gained ⊎ ((end ≡ loop_end.Run SinkFailed) × IsPrefixOf gained (text_of meets.exchanges))
    pub whole : end ≢ loop_end.Run InputEnded → AreFirst IsOver meets.lines meets.rest (lines_of meets.exchanges ++ meets.line ∷ [])
    pub since : Tells meets.mid (f.disk after.folder) (LeavesOnly (λ image. Unit {0}))

  abbrev pub EndsBy : LoopEnd StepFault → Type 0
  EndsBy (loop_end.Run end) = Ended end
  EndsBy (loop_end.Stopped fault) = CutOff fault

-- a session that began at the origin read the bytes that the source lost, and came to this end, or met designs that clash
pub record Comes {F C : Type 0} (f : Folders F) (s : Servers C) (origin : Origin) (after : Scene F C) (left left' held held' : Option (List ℕ)) (end : LoopEnd StepFault) : Type 0 where
  pub bytes : List ℕ
  pub reads : Consumes left left' bytes
  pub counts : HasReadBy end (length bytes)
  pub ends : EndsBy f s origin (IsAtEnd left') held held' bytes after end ⊎ HasClashed f s origin (IsAtEnd left') held held' bytes after end
