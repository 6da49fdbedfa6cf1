-- What a list of edits leaves of a list of items.
use Rattle.std.specs.Prelude.{◌≡◌, ◌≢◌, ◌⊎◌, ◌+◌, ℕ, List, [], ◌∷◌, ◌++◌, filter, All, Contains, length, if◌then◌else◌}
use Rattle.std.specs.declared.cmp.Ordering.{Ordering}
use Rattle.std.specs.declared.cmp.Ordering.TheVariants.{Equal}
use Rattle.std.specs.Ordering.{is_lt, is_gt, is_eq}
use Rattle.std.specs.List.Sorted.{IsStrictlySortedBy}
use Rattle.reduce_tree.specs.declared.edit.Edit.{Edit}
use Rattle.reduce_tree.specs.declared.edit.Edit.TheVariants.{Remove, Insert}

abbrev pub edit_key : {T : Type 0} → Edit T → T
edit_key (Remove key) = key
edit_key (Insert key) = key

-- an insertion puts its item there, a removal nothing
abbrev pub placed_of : {T : Type 0} → Edit T → List T
placed_of (Remove key) = []
placed_of (Insert key) = key ∷ []

-- the items before the first edit's, what takes its place, and what the other edits leave of the items after it
abbrev pub applied : {T : Type 0} → (T → T → Ordering) → List (Edit T) → List T → List T
applied order [] items = items
applied order (e ∷ es) items = filter (λ x. is_lt (order x (edit_key e))) items ++ (placed_of e ++ applied order es (filter (λ x. is_gt (order x (edit_key e))) items))

-- the edits name their items in order, each once
abbrev pub AreEdits : {T : Type 0} → (T → T → Ordering) → List (Edit T) → Type 0
AreEdits order edits = IsStrictlySortedBy (λ a b. order (edit_key a) (edit_key b)) edits

-- no edit names an item that compares equal to this one
abbrev pub IsUnnamed : {T : Type 0} → (T → T → Ordering) → List (Edit T) → T → Type 0
IsUnnamed order edits x = All (λ e. order x (edit_key e) ≢ Equal) edits

-- an item is there where it was inserted, or was there before and no edit names it; and the items rise
pub record IsEdited {T : Type 0} (order : T → T → Ordering) (edits : List (Edit T)) (items after : List T) : Type 0 where
  pub comes : (x : T) → Contains edits (Insert x) → Contains after x
  pub stays : (x : T) → Contains items x → IsUnnamed order edits x → Contains after x
  pub only : (x : T) → Contains after x → Contains edits (Insert x) ⊎ (Contains items x × IsUnnamed order edits x)
  pub rises : IsStrictlySortedBy order after

-- the edit is a removal, and no item compares equal to the one that it names
abbrev pub RemovesNone : {T : Type 0} → (T → T → Ordering) → List T → Edit T → Type 0
RemovesNone order items (Remove key) = All (λ x. order x key ≢ Equal) items
RemovesNone order items (Insert key) = ⊥

-- all of the edits are such
abbrev pub RemoveNone : {T : Type 0} → (T → T → Ordering) → List (Edit T) → List T → Type 0
RemoveNone order edits items = All (RemovesNone order items) edits

-- how many of the edits insert an item
abbrev pub insertions : {T : Type 0} → List (Edit T) → ℕ
insertions [] = 0
insertions (e ∷ es) = length (placed_of e) + insertions es

-- the list without its first item where that compares equal to the key
abbrev pub IsWithoutEqual : {T : Type 0} → (T → T → Ordering) → T → List T → List T → Type 0
IsWithoutEqual order key [] after = after ≡ []
IsWithoutEqual order key (x ∷ xs) after = after ≡ (if is_eq (order x key) then xs else (x ∷ xs))
