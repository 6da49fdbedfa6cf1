-- What a summer of nothing gives: one value, which takes no bytes.
use Rattle.std.specs.Prelude.{ℕ, List, []}
use Rattle.tree_laws.specs.Meaning.{Meaning}

abbrev pub no_bytes : Unit {0} → List ℕ
no_bytes sum = []

abbrev pub no_meaning : {T : Type 0} → Meaning T (Unit {0})
no_meaning = record { value = λ items. tt; spelled = no_bytes }
