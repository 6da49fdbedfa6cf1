-- Runs of a program that reads request lines, answers them in order, and ends with a status.
use Rattle.std.specs.Prelude.{◌≡◌, ◌⊎◌, ℕ, ◌^◌, ◌<◌, ◌≤◌, List, ◌++◌}
use Rattle.view_ports.specs.declared.run_end.RunEnd.{RunEnd}
use Rattle.view_ports.specs.declared.run_end.RunEnd.TheVariants.{InputEnded, SinkFailed, SourceFailed, OutOfMemory, InputTooLong}
use Rattle.view_ports.specs.Lines.{IsCut, last_line}
use Rattle.view_ports.specs.Exchanges.{Exchange, LeadsTo, lines_of, text_of, IsPrefixOf}

-- the exit status
abbrev pub status_of : RunEnd → ℕ
status_of InputEnded = 0
status_of SinkFailed = 4
status_of SourceFailed = 5
status_of OutOfMemory = 6
status_of InputTooLong = 8

-- how many bytes a run reads at most
abbrev pub input_limit : ℕ
input_limit = 2 ^ 40

-- how many bytes a run with this end has read
abbrev pub HasRead : RunEnd → ℕ → Type 0
HasRead InputEnded count = count < input_limit
HasRead SinkFailed count = count ≤ input_limit
HasRead SourceFailed count = count < input_limit
HasRead OutOfMemory count = count ≤ input_limit
HasRead InputTooLong count = count ≡ input_limit

-- all lines of what was read: `rest`, which stands after the last newline, is one only where the input has ended
abbrev pub AreLines : Type 0 → List (List ℕ) → List ℕ → List (List ℕ) → Type 0
AreLines Ended lines rest all = (all ≡ lines) ⊎ (Ended × (all ≡ lines ++ last_line rest))

-- the first of these lines
abbrev pub AreFirst : Type 0 → List (List ℕ) → List ℕ → List (List ℕ) → Type 0
AreFirst Ended lines rest first = (all : List (List ℕ)) × AreLines Ended lines rest all × IsPrefixOf first all

-- which of the lines read are answered, where `rest` is what was read after the last newline
abbrev pub IsAnswered : Type 0 → RunEnd → List (List ℕ) → List ℕ → List (List ℕ) → Type 0
IsAnswered Ended InputEnded lines rest answered = answered ≡ lines ++ last_line rest
IsAnswered Ended SinkFailed lines rest answered = AreFirst Ended lines rest answered
IsAnswered Ended SourceFailed lines rest answered = answered ≡ lines
IsAnswered Ended OutOfMemory lines rest answered = AreFirst Ended lines rest answered
IsAnswered Ended InputTooLong lines rest answered = answered ≡ lines

-- what the sink gained of the text of all exchanges
abbrev pub IsWritten : RunEnd → List ℕ → List ℕ → Type 0
IsWritten InputEnded text gained = gained ≡ text
IsWritten SinkFailed text gained = IsPrefixOf gained text
IsWritten SourceFailed text gained = gained ≡ text
IsWritten OutOfMemory text gained = gained ≡ text
IsWritten InputTooLong text gained = gained ≡ text

-- a run that read these bytes, that wrote what the sink gained, and that led from one state to another:
-- the bytes are cut into lines, and each line that is answered is a step; `Ended` says that the input has ended
pub record Run {W : Type 0} (step : W → Exchange → W → Type 0) (Ended : Type 0) (before : W) (bytes gained : List ℕ) (end : RunEnd) (after : W) : Type 0 where
  pub exchanges : List Exchange
  pub lines : List (List ℕ)
  pub rest : List ℕ
  pub cut : IsCut bytes lines rest
  pub answered : IsAnswered Ended end lines rest (lines_of exchanges)
  pub leads : LeadsTo step before exchanges after
  pub written : IsWritten end (text_of exchanges) gained

-- how far a run has come that has read these bytes: each line that ended in them is answered, and `rest` stands after the last newline
pub record Reached {W : Type 0} (step : W → Exchange → W → Type 0) (before : W) (bytes : List ℕ) : Type 0 where
  pub exchanges : List Exchange
  pub rest : List ℕ
  pub after : W
  pub cut : IsCut bytes (lines_of exchanges) rest
  pub leads : LeadsTo step before exchanges after
