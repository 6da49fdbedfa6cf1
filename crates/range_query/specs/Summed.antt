-- The value of a group of rows by a summer.
use Rattle.std.specs.Prelude.{◌≡◌, ◌≢◌, ℕ, List, [], All, map}
use Rattle.json_terms.specs.declared.term.Row.{Row}
use Rattle.tree_laws.specs.Meaning.{Meaning, joined}

-- it is the summer's value of the rows, where the summer is lawful
abbrev pub IsGroupSum : {S : Type 0} → Type 0 → Meaning Row S → List Row → S → Type 0
IsGroupSum Lawful m group sum = Lawful → sum ≡ m.value group

-- and these are the values of parts of them, of which none is empty
pub record ArePartSums {S : Type 0} (Lawful : Type 0) (m : Meaning Row S) (group : List Row) (sums : List S) : Type 0 where
  pub parts : List (List Row)
  pub joins : joined parts ≡ group
  pub whole : All (λ part. part ≢ []) parts
  pub each : Lawful → sums ≡ map m.value parts

-- the text is that of such a value, which is one of those that fit
pub record IsSummedText {S : Type 0} (text_of : S → List ℕ) (Fits : S → Type 0) (Lawful : Type 0) (m : Meaning Row S) (group : List Row) (text : List ℕ) : Type 0 where
  pub sum : S
  pub is : IsGroupSum Lawful m group sum
  pub fits : Fits sum
  pub shown : text ≡ text_of sum
