-- What serving lines does, in terms of what the ports tell.
use Rattle.std.specs.Prelude.{◌≡◌, ◌<◌, ◌⊎◌, ℕ, List, [], Option, Some, None, length}
use Rattle.std.specs.Io.KnownBytes.{Consumes, Appends, IsAtEnd}
use Rattle.view_ports.specs.declared.run_end.RunEnd.{RunEnd}
use Rattle.view_ports.specs.Exchanges.{Exchange}
use Rattle.view_ports.specs.Lines.{ended}
use Rattle.view_ports.specs.Runs.{Run, HasRead, status_of, input_limit}
use Rattle.map_server.specs.Replies.{answer_text, sources_after_line}

-- a line is answered with a text and a newline, and the sources are those after the line
pub record AnswersLine (sources : List (List ℕ)) (exchange : Exchange) (after : List (List ℕ)) : Type 0 where
  pub text : exchange.text ≡ ended (answer_text sources exchange.line)
  pub then : after ≡ sources_after_line sources exchange.line

-- what the ports tell at one moment: the bytes that the source has left, and those that the sink holds
pub record Outside : Type 0 where
  pub left : Option (List ℕ)
  pub held : Option (List ℕ)

-- a run from no sources that reads the bytes that the source lost, that writes what the sink gained, and that ends with
-- this status
pub record Serves (before after : Outside) (status : ℕ) : Type 0 where
  pub bytes : List ℕ
  pub gained : List ℕ
  pub end : RunEnd
  pub sources : List (List ℕ)
  pub ends : status ≡ status_of end
  pub reads : Consumes before.left after.left bytes
  pub counts : HasRead end (length bytes)
  pub writes : Appends before.held after.held gained
  pub runs : Run AnswersLine (IsAtEnd after.left) [] bytes gained end sources

-- the status is 8 exactly where as many bytes were read as a run reads at most, unless the sink failed or memory ran out
-- in a line of them
pub record StopsAtLimit (before after : Option (List ℕ)) (status : ℕ) : Type 0 where
  pub bytes : List ℕ
  pub reads : Consumes before after bytes
  pub limited : status ≡ 8 → length bytes ≡ input_limit
  pub stopped : length bytes ≡ input_limit → (status ≡ 8) ⊎ ((status ≡ 4) ⊎ (status ≡ 6))

-- the source tells its bytes, and they are fewer than a run reads at most
abbrev pub IsShort : Option (List ℕ) → Type 0
IsShort None = ⊥
IsShort (Some bytes) = length bytes < input_limit
