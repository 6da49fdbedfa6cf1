-- What was passed is of the class.
use Rattle.std.proofs.Common.{◌≡◌, ◌≤◌, ◌-◌, take, length, true}
use Rattle.map_lang.specs.Tokens.{all_pass}
use Rattle.map_lang.specs.Lexing.{passes}
use Rattle.map_lang.proofs.lex.run_of.Given as goal

abbrev pub invariant-loop-len : goal.invariant-loop-len
invariant-loop-len l = (l.len ≤ length l.bytes) × (all_pass (passes l.class) (take l.len l.bytes) ≡ true)

abbrev pub decreases-loop-len : goal.decreases-loop-len
decreases-loop-len l = length l.bytes - l.len
