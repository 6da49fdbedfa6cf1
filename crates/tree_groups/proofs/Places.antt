-- Places among the open indexes.
use Rattle.std.specs.Prelude.{◌≡◌, ◌≢◌, ◌<◌, ◌+◌, ℕ, List, [], ◌∷◌, length, take, drop, remove, Option, Some, None, All, Contains, slice_get, slice_index_or, slice_set, AllPairs}
use Rattle.std.specs.List.{AllWithin, HoldsAt}
use Rattle.std.specs.Option.{MatchOption}
use Rattle.std.proofs.Common.{◌++◌, arith, ap, refl, sym, ◌∙◌, subst, suc, ⊎_elim}
use Rattle.std.proofs.lemmas.Bool.{cases_eq, cases_lt}
use Rattle.std.proofs.lemmas.List.{get_or-set_other, get_or-set_same, length-set, get_or-drop, get_or-take, length-drop, length-take, take-append-drop, take_more}
use Rattle.std.proofs.lemmas.Option.{get_or_from_slice_get, slice_get-get_or, slice_get_within}
use Rattle.std.proofs.lemmas.List.Elements.{All-append, All-contains_itself, All-drop, All-from_all_within, All-same, All-take, Contains-append_cases, Contains-append_left, Contains-append_right, Contains-get_or, Contains-push_cases}
use Rattle.view_ports.specs.declared.file_name.Stem.{Stem}
use Rattle.view_ports.specs.declared.file_name.Stem.TheVariants.{Docs as DocsStem, View}
use Rattle.tree_index.specs.declared.index.Index.{Index}
use Rattle.tree_index.specs.Index.{stem_of}
use Rattle.tree_index.specs.Index.{views_of}
use Rattle.tree_groups.specs.declared.groups.Groups.{Groups}
use Rattle.tree_groups.specs.Groups.{open_of, IsClosed, IsGroup, IsPlaceOf, StayOpen}

-- an element at a place within a list
get : {X : Type 0} (xs : List X) (i : ℕ) → i < length xs → X
get [] i within = absurd (omega (arith, within))
get (x ∷ xs) i within = slice_index_or (x ∷ xs) i x

pub place_found : (groups : Groups) (stem : Stem) (place : Option ℕ)
    → MatchOption place (AllWithin (λ index. stem_of index ≢ stem) (open_of groups) 0 (length (open_of groups))) (λ i. (i < length (open_of groups)) × HoldsAt (λ index. stem_of index ≡ stem) (open_of groups) i × AllWithin (λ index. stem_of index ≢ stem) (open_of groups) 0 i)
    → IsPlaceOf groups stem place
place_found groups stem None none = All-from_all_within (λ index. stem_of index ≢ stem) (open_of groups) none
place_found groups stem (Some i) found =
    let index = get (open_of groups) i found.0 in
    (slice_index_or (open_of groups) i index, slice_get-get_or (open_of groups) i index found.0, found.1 index)

-- no two open indexes are of the same files
pub one_place : (groups : Groups) (stem : Stem) (i j : ℕ) (one other : Index) → slice_get (open_of groups) i ≡ Some one → slice_get (open_of groups) j ≡ Some other → stem_of one ≡ stem → stem_of other ≡ stem → i ≡ j
one_place groups stem i j one other at_one at_other of_one of_other =
    let xs = open_of groups in
    let first = slice_get_within xs i one at_one in
    let second = slice_get_within xs j other at_other in
    let stem_first : stem_of (slice_index_or xs i one) ≡ stem = ap stem_of (get_or_from_slice_get xs i one one at_one) ∙ of_one in
    let stem_second : stem_of (slice_index_or xs j one) ≡ stem = ap stem_of (get_or_from_slice_get xs j other one at_other) ∙ of_other in
    ⊎_elim
    (λ lower. absurd (groups.apart i j one lower second (stem_first ∙ sym stem_second)))
    (λ below. ⊎_elim (λ upper. absurd (groups.apart j i one upper first (stem_second ∙ sym stem_first))) (λ above. omega (arith, below, above)) (cases_lt j i))
    (cases_lt i j)

-- the one index in a place
pub one_index : (groups : Groups) (place : ℕ) (one other : Index) → slice_get (open_of groups) place ≡ Some one → slice_get (open_of groups) place ≡ Some other → one ≡ other
one_index groups place one other first second = sym (get_or_from_slice_get (open_of groups) place one one first) ∙ get_or_from_slice_get (open_of groups) place other one second

-- ---- none is open as a signature's, of so many views

module _ (groups : Groups) (own : List ℕ) (views : ℕ) where
  abbrev pub IsAbsent : Type 0
  IsAbsent = (place : ℕ) (index : Index) → IsGroup groups place own views index → ⊥

  pub none_there : All (λ index. stem_of index ≢ View own) (open_of groups) → IsAbsent
  none_there none place index group = none place index (slice_get_within (open_of groups) place index group.there) (ap stem_of (get_or_from_slice_get (open_of groups) place index index group.there) ∙ group.named)

  pub other_number : (place : ℕ) (found : IsPlaceOf groups (View own) (Some place)) → views_of found.0 ≢ views → IsAbsent
  other_number place found differs at index group =
      let same : at ≡ place = one_place groups (View own) at place index found.0 group.there found.1 group.named found.2 in
      let it : index ≡ found.0 = one_index groups place index found.0 (subst (λ (k : ℕ). slice_get (open_of groups) k ≡ Some index) same group.there) found.1 in
      differs (sym (ap views_of it) ∙ group.number)

-- ---- one is closed

module _ (groups : Groups) (stem : Stem) (place : ℕ) (found : IsPlaceOf groups stem (Some place)) where
  abbrev IsOther : Index → Type 0
  IsOther index = stem_of index ≢ stem

  within : place < length (open_of groups)
  within = slice_get_within (open_of groups) place found.0 found.1

  here : (d : Index) → stem_of (slice_index_or (open_of groups) place d) ≡ stem
  here d = ap stem_of (get_or_from_slice_get (open_of groups) place found.0 d found.1) ∙ found.2

  before : All IsOther (take place (open_of groups))
  before k d below =
      let long = length-take place (open_of groups) in
      let lower : k < place = omega (arith, long, below) in
      subst IsOther (sym (get_or-take place (open_of groups) k d lower)) (λ same. groups.apart k place d lower within (same ∙ sym (here d)))

  behind : All IsOther (drop (suc place) (open_of groups))
  behind k d below =
      let long = length-drop (suc place) (open_of groups) in
      let upper : suc place + k < length (open_of groups) = omega (arith, long, below) in
      subst IsOther (sym (get_or-drop (suc place) (open_of groups) k d)) (λ same. groups.apart place (suc place + k) d (omega arith) upper (here d ∙ sym same))

  -- an open index of other files stands before it or behind it
  beside : (x : Index) → stem_of x ≢ stem → Contains (open_of groups) x → Contains (remove (open_of groups) place) x
  beside x differs there =
      let xs = open_of groups in
      let next : place + 1 ≡ suc place = omega arith in
      let whole : take (place + 1) xs ++ drop (suc place) xs ≡ xs = ap (λ (n : ℕ). take n xs ++ drop (suc place) xs) next ∙ take-append-drop (suc place) xs in
      ⊎_elim
      (λ early. ⊎_elim
      (λ before. Contains-append_left (take place xs) (drop (suc place) xs) x before)
      (λ same. absurd (differs (sym (ap stem_of same) ∙ here x)))
      (Contains-push_cases (take place xs) (slice_index_or xs place x) x (subst (λ (l : List Index). Contains l x) (take_more xs place x within) early)))
      (λ late. Contains-append_right (take place xs) (drop (suc place) xs) x late)
      (Contains-append_cases (take (place + 1) xs) (drop (suc place) xs) x (subst (λ (l : List Index). Contains l x) (sym whole) there))

  pub closed : (groups' : Groups) → open_of groups' ≡ remove (open_of groups) place → IsClosed stem groups groups'
  closed groups' removed = record {
    gone = All-same IsOther (open_of groups') (remove (open_of groups) place) removed (All-append IsOther (take place (open_of groups)) (drop (suc place) (open_of groups)) before behind);
    others = All-same (Contains (open_of groups)) (open_of groups') (remove (open_of groups) place) removed
        (All-append (Contains (open_of groups)) (take place (open_of groups)) (drop (suc place) (open_of groups))
        (All-take (Contains (open_of groups)) place (open_of groups) (All-contains_itself (open_of groups)))
        (All-drop (Contains (open_of groups)) (suc place) (open_of groups) (All-contains_itself (open_of groups))));
    stay = λ k d below differs. subst (λ (l : List Index). Contains l (slice_index_or (open_of groups) k d)) (sym removed)
        (beside (slice_index_or (open_of groups) k d) differs (Contains-get_or (open_of groups) k d below));
  }

-- nothing is closed
pub none_close : (groups groups' : Groups) (stem : Stem) → open_of groups' ≡ open_of groups → StayOpen stem groups groups'
none_close groups groups' stem same k d below differs =
    subst (λ (l : List Index). Contains l (slice_index_or (open_of groups) k d)) (sym same) (Contains-get_or (open_of groups) k d below)

pub none_closed : (groups : Groups) (stem : Stem) → IsPlaceOf groups stem None → IsClosed stem groups groups
none_closed groups stem none = record { gone = none; others = All-contains_itself (open_of groups); stay = none_close groups groups stem refl }

-- ---- one is exchanged for another of the same files

module _ (groups : Groups) (place : ℕ) (before after : Index) (there : slice_get (open_of groups) place ≡ Some before) (same : stem_of after ≡ stem_of before) where
  stem_set : (i : ℕ) (d : Index) → stem_of (slice_index_or (slice_set (open_of groups) place after) i d) ≡ stem_of (slice_index_or (open_of groups) i d)
  stem_set i d =
      let xs = open_of groups in
      ⊎_elim
      (λ is. ap (λ m. stem_of (slice_index_or (slice_set xs place after) m d)) is ∙ ap stem_of (get_or-set_same xs place after d (slice_get_within xs place before there)) ∙ same
      ∙ sym (ap stem_of (get_or_from_slice_get xs place before d there)) ∙ ap (λ m. stem_of (slice_index_or xs m d)) (sym is))
      (λ differs. ap stem_of (get_or-set_other xs place i after d differs))
      (cases_eq i place)

  long_set : (i : ℕ) → i < length (slice_set (open_of groups) place after) → i < length (open_of groups)
  long_set i below = let long = length-set (open_of groups) place after in omega (arith, long, below)

  set_apart : AllPairs (λ one other. stem_of one ≢ stem_of other) (slice_set (open_of groups) place after)
  set_apart i j d lower below = λ is. groups.apart i j d lower (long_set j below) (sym (stem_set i d) ∙ is ∙ stem_set j d)

  set_of_views : All (λ index. stem_of index ≢ DocsStem) (slice_set (open_of groups) place after)
  set_of_views i d below = λ is. groups.of_views i d (long_set i below) (sym (stem_set i d) ∙ is)

  pub exchanged_apart : (items : List Index) → items ≡ slice_set (open_of groups) place after → AllPairs (λ one other. stem_of one ≢ stem_of other) items
  exchanged_apart items is = subst (AllPairs (λ (one : Index) (other : Index). stem_of one ≢ stem_of other)) (sym is) set_apart

  pub exchanged_of_views : (items : List Index) → items ≡ slice_set (open_of groups) place after → All (λ index. stem_of index ≢ DocsStem) items
  exchanged_of_views items is = All-same (λ index. stem_of index ≢ DocsStem) items (slice_set (open_of groups) place after) is set_of_views
