-- How far a run over lines has come, and how it ends, in the words of what answers the lines.
use Rattle.std.specs.Prelude.{◌≡◌, ◌≤◌, ℕ, List, ◌∷◌, ◌++◌, Option, length}
use Rattle.std.specs.Io.KnownBytes.{Appends, Consumes, IsAtEnd}
use Rattle.view_ports.specs.declared.run_end.RunEnd.{RunEnd}
use Rattle.view_ports.specs.declared.run_end.RunEnd.TheVariants.{InputEnded, SinkFailed, SourceFailed, OutOfMemory, InputTooLong}
use Rattle.view_ports.specs.Exchanges.{Exchange, LeadsTo, IsPrefixOf, lines_of, text_of}
use Rattle.view_ports.specs.Lines.{IsCut, ended, kept}
use Rattle.view_ports.specs.Runs.{AreLines, HasRead, Reached, Run, input_limit}
use Rattle.line_loop.specs.declared.loop_end.LoopEnd.{LoopEnd}
use Rattle.line_loop.specs.declared.loop_end.LoopEnd.TheVariants as loop_end
use Rattle.line_loop.specs.declared.responder.Responder.{Ghosts as Responds}

-- the sink failed in this text
abbrev pub FailsIn : Option (List ℕ) → Option (List ℕ) → List ℕ → Type 0
FailsIn before after text = (part : List ℕ) × IsPrefixOf part text × Appends before after part

-- how many bytes a run with this end has read: any number where it ended in a line
abbrev pub HasReadBy : {E : Type 0} → LoopEnd E → ℕ → Type 0
HasReadBy (loop_end.Run end) count = HasRead end count
HasReadBy (loop_end.Stopped error) count = count ≤ input_limit

-- the input ended, the sink failed, the source failed
abbrev pub HasEnded : {E : Type 0} → LoopEnd E → Type 0
HasEnded end = end ≡ loop_end.Run InputEnded

abbrev pub HasSinkFailed : {E : Type 0} → LoopEnd E → Type 0
HasSinkFailed end = end ≡ loop_end.Run SinkFailed

abbrev pub HasSourceFailed : {E : Type 0} → LoopEnd E → Type 0
HasSourceFailed end = end ≡ loop_end.Run SourceFailed

-- a run may come to this end whatever number of bytes it has read
abbrev pub IsEarly : {E : Type 0} → LoopEnd E → Type 0
IsEarly end = (count : ℕ) → count ≤ input_limit → HasReadBy end count

-- where a run stands: the responder, what is kept of the line that no newline has ended yet, and what the sink holds
pub record Scene (R : Type 0) : Type 0 where
  pub responder : R
  pub line : List ℕ
  pub held : Option (List ℕ)

abbrev pub scene : {R : Type 0} → R → List ℕ → Option (List ℕ) → Scene R
scene responder line held = record { responder = responder; line = line; held = held }

module _ {R E : Type 0} (r : Responds R E) where
  -- a step of a run: a line is answered with a text
  abbrev pub Steps : R → Exchange → R → Type 0
  Steps before exchange after = r.answers before exchange.line after × (exchange.text ≡ r.text after)

  -- a run that has read these bytes has answered each line that ended in them, and keeps the line that no newline has ended yet
  pub record Progress (start : R) (first : Option (List ℕ)) (bytes : List ℕ) (now : Scene R) : Type 0 where
    pub reached : Reached Steps start bytes
    pub stands : now.responder ≡ reached.after
    pub pending : now.line ≡ kept r.line_limit reached.rest
    pub wrote : Appends first now.held (text_of reached.exchanges)

  -- a run that read these bytes came to this end; `Ended` says that the input has ended
  pub record Finishes (Ended : Type 0) (start after : R) (first now : Option (List ℕ)) (bytes : List ℕ) (end : RunEnd) : Type 0 where
    pub gained : List ℕ
    pub run : Run Steps Ended start bytes gained end after
    pub wrote : Appends first now gained

  -- a run that read these bytes was cut short in a line that was not answered, for this reason; those before it are answered
  pub record IsCutShort (Ended : Type 0) (start after : R) (first now : Option (List ℕ)) (bytes : List ℕ) (error : E) : Type 0 where
    pub exchanges : List Exchange
    pub lines : List (List ℕ)
    pub rest : List ℕ
    pub line : List ℕ
    pub more : List (List ℕ)
    pub mid : R
    pub cut : IsCut bytes lines rest
    pub answered : AreLines Ended lines rest (lines_of exchanges ++ line ∷ more)
    pub leads : LeadsTo Steps start exchanges mid
    pub stops : r.stops mid line error after
    pub wrote : Appends first now (text_of exchanges)

  abbrev pub Ends : Type 0 → R → R → Option (List ℕ) → Option (List ℕ) → List ℕ → LoopEnd E → Type 0
  Ends Ended start after first now bytes (loop_end.Run end) = Finishes Ended start after first now bytes end
  Ends Ended start after first now bytes (loop_end.Stopped error) = IsCutShort Ended start after first now bytes error

  -- what a run did: it read the bytes that the source lost, and came to this end
  pub record Loops (start after : R) (left left' held held' : Option (List ℕ)) (end : LoopEnd E) : Type 0 where
    pub bytes : List ℕ
    pub reads : Consumes left left' bytes
    pub counts : HasReadBy end (length bytes)
    pub ends : Ends (IsAtEnd left') start after held held' bytes end

  -- a line was answered, and the sink has the text
  abbrev pub AnswersInto : R → R → Option (List ℕ) → Option (List ℕ) → List ℕ → Type 0
  AnswersInto before after held held' line = r.answers before line after × Appends held held' (r.text after)

  -- a line was not answered, and the sink has nothing of it, or it failed in the text
  abbrev pub FailsInto : R → R → Option (List ℕ) → Option (List ℕ) → LoopEnd E → List ℕ → Type 0
  FailsInto before after held held' (loop_end.Run InputEnded) line = ⊥
  FailsInto before after held held' (loop_end.Run SinkFailed) line = r.answers before line after × FailsIn held held' (r.text after)
  FailsInto before after held held' (loop_end.Run SourceFailed) line = ⊥
  FailsInto before after held held' (loop_end.Run OutOfMemory) line = ⊥
  FailsInto before after held held' (loop_end.Run InputTooLong) line = ⊥
  FailsInto before after held held' (loop_end.Stopped error) line = r.stops before line error after × (held' ≡ held)

  -- however a run came to the old scene, with more bytes it comes to the new one
  abbrev pub Goes : Scene R → Scene R → List ℕ → Type 0
  Goes old new more = (start : R) (first : Option (List ℕ)) (bytes : List ℕ) → Progress start first bytes old → Progress start first (bytes ++ more) new

  -- however it came to the old scene, it comes to this end: where the input has ended, with more bytes, and with a line and whatever is
  -- behind it
  abbrev pub Comes : Scene R → R → Option (List ℕ) → LoopEnd E → Type 0
  Comes old after now end = (start : R) (first : Option (List ℕ)) (bytes : List ℕ) → Progress start first bytes old → Ends (Unit {0}) start after first now bytes end

  abbrev pub ComesBy : Scene R → R → Option (List ℕ) → List ℕ → LoopEnd E → Type 0
  ComesBy old after now more end = (start : R) (first : Option (List ℕ)) (bytes : List ℕ) → Progress start first bytes old → Ends ⊥ start after first now (bytes ++ more) end

  abbrev pub ComesIn : Scene R → R → Option (List ℕ) → List ℕ → LoopEnd E → Type 0
  ComesIn old after now line end = (start : R) (first : Option (List ℕ)) (bytes more : List ℕ) → Progress start first bytes old → Ends ⊥ start after first now (bytes ++ ended line ++ more) end
