-- The talk of an update without faults, log lines aside: which lines are said and heard, in which order.
use Rattle.std.specs.Prelude.{◌≡◌, ◌<◌, ℕ, zero, suc, min, List, [], ◌∷◌, ◌++◌, length, map, take, drop, Option, Some}
use Rattle.std.specs.List.{flat_map}
use Rattle.json_terms.specs.Json.{Json}
use Rattle.view_ports.specs.declared.command.Command.{Command}
use Rattle.view_ports.specs.declared.command.Command.TheVariants.{Reset, AddFun, MapDoc}
use Rattle.query_protocol.specs.CommandLines.{command_line}
use Rattle.query_protocol.specs.declared.reply.Kind.{Kind}
use Rattle.query_protocol.specs.declared.reply.Reply.{Reply}
use Rattle.query_protocol.specs.declared.reply.Reply.TheVariants.{Log, Yes, Rows, Value, Compile}
use Rattle.query_protocol.specs.Replies.{reply_of}
use Rattle.child_pool.specs.Histories.{Turn, starts, says, hears, last_heard}
use Rattle.child_pool.specs.Causes.{kind_of}

-- a turn that is due on a slot: a child is started, a command's line is said, or any proper answer to a command is heard, where so
-- many sources were added
pub data Due : Type 0 where
  start_child : ℕ → Due
  say : ℕ → Command → Due
  hear : ℕ → Command → ℕ → Due

abbrev pub IsAnswer : Reply → Type 0
IsAnswer Log = ⊥
IsAnswer Compile = ⊥
IsAnswer Yes = Unit {0}
IsAnswer (Rows rows) = Unit {0}
IsAnswer (Value value) = Unit {0}

pub record IsProperAnswer (kind : Kind) (line : List ℕ) : Type 0 where
  pub reply : Reply
  pub answer : IsAnswer reply
  pub reads : reply_of kind line ≡ Some reply

abbrev pub IsTurn : Due → Turn → Type 0
IsTurn (start_child slot) (starts at) = at ≡ slot
IsTurn (say slot command) (says at line) = (at ≡ slot) × (line ≡ command_line command)
IsTurn (hear slot command count) (hears at line) = (at ≡ slot) × IsProperAnswer (kind_of command count) line
IsTurn (say slot command) (hears at line) = ⊥
IsTurn (hear slot command count) (says at line) = ⊥
IsTurn (start_child slot) (says at line) = ⊥
IsTurn (start_child slot) (hears at line) = ⊥
IsTurn (say slot command) (starts at) = ⊥
IsTurn (hear slot command count) (starts at) = ⊥

-- these turns are those that are due, one by one
abbrev pub AreTurns : List Due → List Turn → Type 0
AreTurns [] [] = Unit {0}
AreTurns [] (turn ∷ turns) = ⊥
AreTurns (due ∷ dues) [] = ⊥
AreTurns (due ∷ dues) (turn ∷ turns) = IsTurn due turn × AreTurns dues turns

-- these turns are the first of those that are due, and one line more may have been heard
pub record AreCutShort (slot : ℕ) (dues : List Due) (turns : List Turn) : Type 0 where
  pub done : List Due
  pub left : List Due
  pub all : dues ≡ done ++ left
  pub said : List Turn
  pub are : AreTurns done said
  pub last : Option (List ℕ)
  pub is : turns ≡ said ++ last_heard slot last

-- the same in a pool of this width: the line more was heard on one of the slots below it
abbrev pub AreCutShortIn : ℕ → List Due → List Turn → Type 0
AreCutShortIn width dues turns = (slot : ℕ) × (slot < width) × AreCutShort slot dues turns

-- a command is said, and its answer is heard before anything else
abbrev pub asks : ℕ → Command → ℕ → List Due
asks slot command count = say slot command ∷ hear slot command count ∷ []

-- the commands that set a child up for these sources: it is reset, and each source is added
abbrev pub setup : List (List ℕ) → List Command
setup sources = Reset ∷ map AddFun sources

-- a slot is made ready: it is asked each of them
abbrev pub ready : ℕ → List (List ℕ) → List Due
ready slot sources = flat_map (λ command. asks slot command 0) (setup sources)

-- the first slots are made ready, in rising order
abbrev pub ready_slots : ℕ → ℕ → List (List ℕ) → List Due
ready_slots slot zero sources = []
ready_slots slot (suc count) sources = ready slot sources ++ ready_slots (suc slot) count sources

-- a wave: each document is said to a slot of its own, in slot order, and then the answers are heard in slot order
abbrev pub each_said : ℕ → List (List (List ℕ × Json)) → List Due
each_said slot [] = []
each_said slot (document ∷ documents) = say slot (MapDoc document) ∷ each_said (suc slot) documents

abbrev pub each_heard : ℕ → ℕ → List (List (List ℕ × Json)) → List Due
each_heard slot count [] = []
each_heard slot count (document ∷ documents) = hear slot (MapDoc document) count ∷ each_heard (suc slot) count documents

abbrev pub wave : ℕ → List (List (List ℕ × Json)) → List Due
wave count documents = each_said 0 documents ++ each_heard 0 count documents

-- documents in waves of as many as the width, fewer in the last; the first number bounds how many waves there are
abbrev pub waves : ℕ → ℕ → ℕ → List (List (List ℕ × Json)) → List Due
waves zero width count documents = []
waves (suc most) width count [] = []
waves (suc most) width count (document ∷ documents) = wave count (take width (document ∷ documents)) ++ waves most width count (drop width (document ∷ documents))

-- the talk of an update that maps these documents by these sources with so many slots; where there is no document nothing is said
abbrev pub talk_of : List (List ℕ) → List (List (List ℕ × Json)) → ℕ → List Due
talk_of sources documents width =
    ready_slots 0 (min width (length documents)) sources ++ waves (length documents) width (length sources) documents
