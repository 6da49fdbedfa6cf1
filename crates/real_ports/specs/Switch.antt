-- Query servers of two kinds behind one port: one path is the built-in servers', and every other path the others'.
use Rattle.std.specs.Prelude.{◌≡◌, ◌<◌, ◌+◌, ℕ, List, bytes_eq, slice_index_or, Bool, false, if◌then◌else◌, Option, Some, None, MatchBool}
use Rattle.view_ports.specs.Calls.{Call, Session, child, slot_of, start, stop}
use Rattle.view_ports.specs.Functions.{Functions}
use Rattle.view_ports.specs.Servers.{Goes}
use Rattle.real_ports.specs.declared.switch.Switch.{Switch}

-- the functions of a path
abbrev pub functions_at : List ℕ → (List ℕ → Functions) → (List ℕ → Functions) → List ℕ → Functions
functions_at own built_in others path = if bytes_eq path own then built_in path else others path

-- the paths that are honest
abbrev pub HonestAt : List ℕ → (List ℕ → Type 0) → (List ℕ → Type 0) → List ℕ → Type 0
HonestAt own built_in others path = MatchBool (bytes_eq path own) (built_in path) (others path)

-- the child of a slot was started by the built-in path, or by another one
abbrev pub IsOn : List ℕ → Bool → Option Session → Type 0
IsOn own is_built_in None = Unit {0}
IsOn own is_built_in (Some s) = bytes_eq s.path own ≡ is_built_in

-- the child of a slot is that of its side, and the other side has none there
pub record IsSlot (own : List ℕ) (is_built_in : Bool) (slot built_in other : Option Session) : Type 0 where
  pub same : slot ≡ (if is_built_in then built_in else other)
  pub alone : (if is_built_in then other else built_in) ≡ None
  pub path : IsOn own is_built_in slot

-- These may be the calls where each side may have had calls that leave it the children of its slots.
pub record Follows (own : List ℕ) (built_in others : List Call → Type 0) (sides : List Bool) (calls : List Call) : Type 0 where
  pub built_in_calls : List Call
  pub other_calls : List Call
  pub follows : built_in built_in_calls
  pub follow : others other_calls
  pub slots : (slot : ℕ) → slot < 9 → IsSlot own (slice_index_or sides slot false) (child slot calls) (child slot built_in_calls) (child slot other_calls)

-- ---- the calls on the parts, by what each part follows

module _ {P A B : Type 0} (built_in : A → List Call → Type 0) (others : B → List Call → Type 0) where
  -- these may be the calls on both parts together
  abbrev pub FollowsBoth : List ℕ → Switch P A B → List Call → Type 0
  FollowsBoth own s calls = Follows own (built_in s.built_in) (others s.others) s.sides calls

  abbrev pub BothGo : List ℕ → Call → Switch P A B → Switch P A B → Type 0
  BothGo own call old new = Goes (FollowsBoth own old) (FollowsBoth own new) call

  -- the part of the slot's side had the call, and the other part is as it was
  abbrev pub OnePartHad : Call → Switch P A B → Switch P A B → Type 0
  OnePartHad call old new =
      MatchBool (slice_index_or old.sides (slot_of call) false)
      (Goes (built_in old.built_in) (built_in new.built_in) call × (new.others ≡ old.others))
      (Goes (others old.others) (others new.others) call × (new.built_in ≡ old.built_in))

  -- the part of the path had the start, and the other part ended its child of the slot and did nothing else
  abbrev pub OnePartStarted : List ℕ → ℕ → List ℕ → Bool → Switch P A B → Switch P A B → Type 0
  OnePartStarted own slot path started old new =
      MatchBool (bytes_eq path own)
      (Goes (built_in old.built_in) (built_in new.built_in) (start slot path started) × Goes (others old.others) (others new.others) (stop slot))
      (Goes (others old.others) (others new.others) (start slot path started) × Goes (built_in old.built_in) (built_in new.built_in) (stop slot))

-- the faults of both parts together
abbrev pub faults_of_both : {P A B : Type 0} → (A → ℕ) → (B → ℕ) → Switch P A B → ℕ
faults_of_both built_in others s = built_in s.built_in + others s.others
