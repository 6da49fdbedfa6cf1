-- What stands in a store of nodes, and what is kept of it.
use Rattle.std.specs.Prelude.{◌≡◌, ℕ, ◌+◌, ◌≤◌, List, ◌++◌, Option, Some, None, All, Contains, length}
use Rattle.std.specs.List.{sum_by}

-- the bytes at each place, where something stands there
abbrev pub Places : Type 0
Places = ℕ → Option (List ℕ)

-- whatever stands in the one stands in the other
abbrev pub Extends : Places → Places → Type 0
Extends old new = (at : ℕ) (bytes : List ℕ) → old at ≡ Some bytes → new at ≡ Some bytes

-- a store that tells what stands in it goes on telling, and keeps it; one that doesn't tell never begins to
abbrev pub KeepsPlaces : Option Places → Option Places → Type 0
KeepsPlaces None new = new ≡ None
KeepsPlaces (Some old) None = ⊥
KeepsPlaces (Some old) (Some new) = Extends old new

-- of what stands in a store, where it tells that
abbrev pub WhereTold : Option Places → (Places → Type 0) → Type 0
WhereTold told P = (there : Places) → told ≡ Some there → P there

-- what pieces take in a store: the bytes of each, and 8 more
abbrev pub pieces_size : List (List ℕ) → ℕ
pieces_size pieces = sum_by (λ piece. length piece + 8) pieces

-- from one size to another no more bytes come than the pieces take that were put between
abbrev pub Growing : List (List ℕ) → List (List ℕ) → ℕ → ℕ → Type 0
Growing before after old new = new + pieces_size before ≤ old + pieces_size after

-- each entry that a list with the newest first got since is such
abbrev pub EachSince : {X : Type 0} → (X → Type 0) → List X → List X → Type 0
EachSince {X} P old new = (more : List X) × (new ≡ more ++ old) × All P more

-- it is one of those
abbrev pub IsSince : {X : Type 0} → X → List X → List X → Type 0
IsSince {X} x old new = (more : List X) × (new ≡ more ++ old) × Contains more x

-- a number doesn't fall, and rises by so much at most
pub record RisesBy (most before now : ℕ) : Type 0 where
  pub later : before ≤ now
  pub within : now ≤ before + most
