-- The values of a summer at one of its states, values that are taken for others, and none.
use Rattle.std.specs.Prelude.{◌≡◌, ℕ, List, []}
use Rattle.tree_laws.specs.declared.summer.Summer.{Ghosts as Summers}
use Rattle.tree_laws.specs.Meaning.{Values}

-- the values of a summer in this state
abbrev pub values_of : {T M Sum Fault : Type 0} → Summers M T Sum Fault → M → Values T Sum
values_of m state = record { meaning = m.meaning state; fits = m.fits state; lawful = m.lawful state }

-- no values: any bytes will do as a summary, and nothing is said of them
abbrev pub no_values : {T : Type 0} → Values T (List ℕ)
no_values = record { meaning = record { value = λ items. []; spelled = λ bytes. bytes }; fits = λ bytes. Unit {0}; lawful = ⊥ }

-- The others spell each value that fits here as these do, and it fits there too; and they are lawful only where these are, and then
-- each list of items has the same value.
pub record PassFor {T S : Type 0} (these others : Values T S) : Type 0 where
  pub spelled : (sum : S) → others.meaning.spelled sum ≡ these.meaning.spelled sum
  pub fits : (sum : S) → these.fits sum → others.fits sum
  pub lawful : others.lawful → these.lawful
  pub value : others.lawful → (items : List T) → others.meaning.value items ≡ these.meaning.value items
