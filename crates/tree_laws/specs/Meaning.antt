-- What the values of lists of items are.
use Rattle.std.specs.Prelude.{◌≡◌, ◌≢◌, ◌≤◌, ◌^◌, ◌↔◌, ℕ, List, [], All, map, length}
use Rattle.std.specs.List.{flat_map}

-- the value of each list of items that isn't empty, and its bytes
pub record Meaning (T S : Type 0) : Type 0 where
  pub value : List T → S
  pub spelled : S → List ℕ

-- what values mean, which of them there are, and whether what is kept of items is the value of exactly these
pub record Values (T S : Type 0) : Type 1 where
  pub meaning : Meaning T S
  pub fits : S → Type 0
  pub lawful : Type 0

-- so many items have a value at most: as many as a list in memory may have
abbrev pub item_limit : ℕ
item_limit = 2 ^ 63

-- the bytes of a value are so many at most
abbrev pub sum_limit : ℕ
sum_limit = 2 ^ 23

abbrev pub joined : {T : Type 0} → List (List T) → List T
joined parts = flat_map (λ part. part) parts

-- the value of these items, where the summer is lawful
abbrev pub IsLeafValue : {T S : Type 0} → Type 0 → Meaning T S → List T → S → Type 0
IsLeafValue Lawful m items sum = Lawful → items ≢ [] → length items ≤ item_limit → sum ≡ m.value items

-- the value of all items together, wherever these are the values of parts of which none is empty
abbrev pub IsJoinValue : {T S : Type 0} → (T → Type 0) → Type 0 → Meaning T S → List S → S → Type 0
IsJoinValue {T} Fits Lawful m sums sum =
    Lawful → (parts : List (List T)) → parts ≢ [] → All (λ part. part ≢ []) parts → All Fits (joined parts) → length (joined parts) ≤ item_limit
    → sums ≡ map m.value parts → sum ≡ m.value (joined parts)

-- ---- what calls may do

-- nothing is a step, and steps one after another are one
pub record AreSteps {A : Type 0} (Goes : A → A → Type 0) : Type 0 where
  pub none : (a : A) → Goes a a
  pub both : (a b c : A) → Goes a b → Goes b c → Goes a c

-- a fault has its cause behind steps too
abbrev pub StaysCaused : {A F : Type 0} → (A → A → Type 0) → (A → A → F → Type 0) → Type 0
StaysCaused {A} {F} Goes Fails = (a b c : A) (fault : F) → Goes a b → Fails b c fault → Fails a c fault

-- what is noted of the way from one state to another stays noted with more steps behind it or before it, and with a call behind it that
-- failed
pub record StaysNoted {A F X : Type 0} (Goes : A → A → Type 0) (Fails : A → A → F → Type 0) (Notes : A → A → X → Type 0) : Type 0 where
  pub behind : (a b c : A) (x : X) → Notes a b x → Goes b c → Notes a c x
  pub before : (a b c : A) (x : X) → Goes a b → Notes b c x → Notes a c x
  pub failed : (a b c : A) (x : X) (fault : F) → Notes a b x → Fails b c fault → Notes a c x

-- so it does where nothing is noted
pub nothing_noted : {A F X : Type 0} (Goes : A → A → Type 0) (Fails : A → A → F → Type 0) → StaysNoted Goes Fails (λ (a b : A) (x : X). Unit {0})
nothing_noted Goes Fails = record { behind = λ a b c x noted goes. tt; before = λ a b c x goes noted. tt; failed = λ a b c x fault noted fails. tt }

-- no step changes what values mean and which of them fit; where they were lawful they stay so, and where they can be had they could be
-- had before
pub record KeepsMeaning {A T S : Type 0} (Goes : A → A → Type 0) (means : A → Meaning T S) (Lawful Usable : A → Type 0) (Fits : A → S → Type 0) : Type 0 where
  pub meaning : (a b : A) → Goes a b → means b ≡ means a
  pub lawful : (a b : A) → Goes a b → Lawful a → Lawful b
  pub usable : (a b : A) → Goes a b → Usable b → Usable a
  pub fits : (a b : A) (sum : S) → Goes a b → Fits a sum ↔ Fits b sum
