-- The search goes on in what is left.
use Rattle.std.proofs.Common.{◌≡◌, drop}
use Rattle.map_lang.specs.Grammar.{is_among}
use Rattle.map_lang.proofs.expressions.is_among.Given as goal

abbrev pub invariant-loop-bound : goal.invariant-loop-bound
invariant-loop-bound l = is_among l.name l.names ≡ is_among l.name (drop l.bound-index l.names)
