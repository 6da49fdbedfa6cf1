-- What a line is answered with, whatever the folder holds.
use Rattle.std.specs.Prelude.{◌≡◌, ◌≢◌, ◌⊎◌, ℕ, List, [], IfErr}
use Rattle.view_ports.specs.Lines.{ended}
use Rattle.view_engine.specs.Calls.{IsReplyLine}
use Rattle.view_engine.specs.declared.refusal.Refusal.TheVariants.{NoMemory as OutOfMemory}
use Rattle.view_engine.specs.Refusals.{refusal_text, request_of}

-- a line is answered with one reply line, which isn't empty, and an empty one with nothing; a line that is no request is refused
-- as that, unless memory runs out
pub record IsReplied (line text : List ℕ) : Type 0 where
  pub none : line ≡ [] → text ≡ []
  pub some : line ≢ [] → (reply : List ℕ) × IsReplyLine reply × (text ≡ ended reply)
  pub refused : line ≢ [] → IfErr (request_of line) (λ refusal. (text ≡ ended (refusal_text refusal)) ⊎ (text ≡ ended (refusal_text OutOfMemory)))
