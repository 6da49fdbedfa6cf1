-- The runs of groups are the rows, none is empty, and of rows in order each is a whole group.
use Rattle.std.specs.Prelude.{◌≡◌, ◌≢◌, suc, ◌+◌, List, [], ◌∷◌, ◌++◌, Bool, true, false, IsSorted, IsTrue, filter, refl, if◌then◌else◌}
use Rattle.std.specs.List.{AllByRecursion}
use Rattle.std.proofs.Common.{ap, sym, ◌∙◌, subst, arith, get_or}
use Rattle.std.specs.declared.cmp.Ordering.{Ordering}
use Rattle.std.specs.declared.cmp.Ordering.TheVariants.{Less, Equal, Greater}
use Rattle.std.specs.Ordering.{is_eq, is_le, is_lt, ordering_reverse, ordering_then}
use Rattle.std.proofs.lemmas.List.Elements.{recursion_from_All}
use Rattle.std.proofs.lemmas.List.Sorted.{ranks_by, sorted_far}
use Rattle.json_terms.specs.Json.{Json}
use Rattle.json_terms.specs.Seen.{json}
use Rattle.json_terms.specs.declared.term.Row.{Row}
use Rattle.raw_collation.specs.declared.group.Level.{Level}
use Rattle.raw_collation.specs.Collation.{json_cmp, rows_cmp}
use Rattle.raw_collation.specs.Groups.{group_of}
use Rattle.raw_collation.proofs.Groups.{equal_just_where_one}
use Rattle.raw_collation.proofs.Runs.{are_runs}
use Rattle.raw_collation.proofs.Totals.{json_cmp_total, rows_cmp_total}
use Rattle.tree_laws.specs.Meaning.{joined}
use Rattle.view_model.specs.Groups.{before_runs, is_same_group, runs}
use Rattle.view_model.specs.GroupLaws.{NoRunIsEmpty, RunsAreTheRows, RunsAreWholeGroups}

-- ---- lists

-- what is true of each element of the joined lists is true in each list
front_part : {X : Type 0} (P : X → Type 0) (xs ys : List X) → AllByRecursion P (xs ++ ys) → AllByRecursion P xs
front_part P [] ys h = tt
front_part P (x ∷ xs) ys h = (h.0, front_part P xs ys h.1)

back_part : {X : Type 0} (P : X → Type 0) (xs ys : List X) → AllByRecursion P (xs ++ ys) → AllByRecursion P ys
back_part P [] ys h = h
back_part P (x ∷ xs) ys h = back_part P xs ys h.1

in_parts : {X : Type 0} (P : X → Type 0) (parts : List (List X)) → AllByRecursion P (joined parts) → AllByRecursion (AllByRecursion P) parts
in_parts P [] h = tt
in_parts P (part ∷ parts) h = (front_part P part (joined parts) h, in_parts P parts (back_part P part (joined parts) h))

passing : {X : Type 0} (test : X → Bool) (xs : List X) → AllByRecursion (λ x. test x ≡ true) (filter test xs)
passing test [] = tt
passing test (x ∷ xs) =
    elim (test x) as (λ b. test x ≡ b → AllByRecursion (λ y. test y ≡ true) (if b then x ∷ filter test xs else filter test xs)) [
      | true ↦ λ is. (is, passing test xs)
      | false ↦ λ is. passing test xs
    ] refl

-- ---- rows in order

up_by_first : (a b : Ordering) → is_lt (ordering_then a b) ≡ false → IsTrue (is_le (ordering_reverse a))
up_by_first Less b up = cc
up_by_first Equal b up = refl
up_by_first Greater b up = refl

-- a row that isn't less has no lower key
key_up : (x y : Row) → is_lt (rows_cmp y x) ≡ false → IsTrue (is_le (json_cmp (json x.key) (json y.key)))
key_up x y up =
    let back : ordering_reverse (json_cmp (json y.key) (json x.key)) ≡ json_cmp (json x.key) (json y.key) = sym (json_cmp_total.antisymm (json x.key) (json y.key)) in
    subst (λ o. IsTrue (is_le o)) back (up_by_first (json_cmp (json y.key) (json x.key)) _ up)

sorted_rest : (row : Row) (rows : List Row) → IsSorted rows_cmp (row ∷ rows) → IsSorted rows_cmp rows
sorted_rest row rows up k d low high =
    let next : suc k + 1 ≡ suc (k + 1) = omega arith in
    subst (λ j. is_lt (rows_cmp (get_or (row ∷ rows) j d) (get_or rows k d)) ≡ false) next (up (suc k) d (omega arith) (omega arith))

-- the keys behind the first are no lower
first_is_least : (row : Row) (rows : List Row) → IsSorted rows_cmp (row ∷ rows) → AllByRecursion (λ r. IsTrue (is_le (json_cmp (json row.key) (json r.key)))) (row ∷ rows)
first_is_least row rows up =
    recursion_from_All (λ r. IsTrue (is_le (json_cmp (json row.key) (json r.key)))) (row ∷ rows)
    (λ k d within. key_up row (get_or (row ∷ rows) k d)
    (sorted_far (λ x y. is_lt (rows_cmp x y)) (ranks_by rows_cmp_total (λ x. x)) (row ∷ rows) up 0 k d (omega arith) within))

module _ (level : Level) where
  abbrev group : Row → Json
  group row = group_of level (json row.key)

  -- of this group
  abbrev has : Json → Row → Bool
  has key row = is_eq (json_cmp key (group row))

  abbrev same : Row → Row → Bool
  same one other = is_same_group level one other

  one_group : (x y : Row) → same x y ≡ true → group x ≡ group y
  one_group x y is = (equal_just_where_one (group x) (group y)).0 is

  are_same : (x y : Row) → group x ≡ group y → same x y ≡ true
  are_same x y is = (equal_just_where_one (group x) (group y)).1 is

  are_apart : (x y : Row) → (group x ≡ group y → ⊥) → same x y ≡ false
  are_apart x y differ =
      elim (same x y) as (λ b. same x y ≡ b → b ≡ false) [
        | true ↦ λ is. absurd (differ (one_group x y is))
        | false ↦ λ is. refl
      ] refl

  apart_back : (x y : Row) → same x y ≡ false → same y x ≡ false
  apart_back x y apart = are_apart y x (λ is. let e : same x y ≡ true = are_same x y (sym is) in absurd (cc))

  -- ---- the runs are the rows

  joined_before : (row : Row) (all : List (List Row)) → joined (before_runs level row all) ≡ row ∷ joined all
  joined_before row [] = refl
  joined_before row ([] ∷ others) = refl
  joined_before row ((next ∷ run) ∷ others) =
      elim (same row next) as (λ b. joined (if b then (row ∷ next ∷ run) ∷ others else (row ∷ []) ∷ (next ∷ run) ∷ others) ≡ row ∷ next ∷ (run ++ joined others)) [
        | true ↦ refl
        | false ↦ refl
      ]

  runs_joined : (rows : List Row) → joined (runs level rows) ≡ rows
  runs_joined [] = refl
  runs_joined (row ∷ rows) = joined_before row (runs level rows) ∙ ap (λ rs. row ∷ rs) (runs_joined rows)

  some_before : (row : Row) (all : List (List Row)) → AllByRecursion (λ run. run ≢ []) all → AllByRecursion (λ run. run ≢ []) (before_runs level row all)
  some_before row [] some = (λ e. cc, tt)
  some_before row ([] ∷ others) some = (λ e. cc, some.1)
  some_before row ((next ∷ run) ∷ others) some =
      elim (same row next) as (λ b. AllByRecursion (λ run. run ≢ []) (if b then (row ∷ next ∷ run) ∷ others else (row ∷ []) ∷ (next ∷ run) ∷ others)) [
        | true ↦ (λ e. cc, some.1)
        | false ↦ (λ e. cc, some)
      ]

  runs_some : (rows : List Row) → AllByRecursion (λ run. run ≢ []) (runs level rows)
  runs_some [] = tt
  runs_some (row ∷ rows) = some_before row (runs level rows) (runs_some rows)

  -- ---- each run is a whole group

  abbrev AreWhole : List Row → List (List Row) → Type 0
  AreWhole rows all = AllByRecursion (λ run. AllByRecursion (λ row. run ≡ filter (same row) rows) run) all

  -- none of the rows is of the group
  abbrev Lack : Json → List (List Row) → Type 0
  Lack key all = AllByRecursion (AllByRecursion (λ row. has key row ≡ false)) all

  -- the runs behind the first lack its group
  abbrev LackFirst : List (List Row) → Type 0
  LackFirst [] = Unit {0}
  LackFirst ([] ∷ others) = ⊥
  LackFirst ((row ∷ run) ∷ others) = Lack (group row) others

  -- a row of another group before all makes no difference
  run_behind : (row : Row) (rows run part : List Row) → AllByRecursion (λ r. run ≡ filter (same r) rows) part → AllByRecursion (λ r. same row r ≡ false) part
      → AllByRecursion (λ r. run ≡ filter (same r) (row ∷ rows)) part
  run_behind row rows run [] is apart = tt
  run_behind row rows run (r ∷ part) is apart =
      (is.0 ∙ sym (ap (λ b. if b then row ∷ filter (same r) rows else filter (same r) rows) (apart_back row r apart.0)), run_behind row rows run part is.1 apart.1)

  runs_behind : (row : Row) (rows : List Row) (all : List (List Row)) → AreWhole rows all → Lack (group row) all → AreWhole (row ∷ rows) all
  runs_behind row rows [] whole lack = tt
  runs_behind row rows (run ∷ all) whole lack = (run_behind row rows run run whole.0 lack.0, runs_behind row rows all whole.1 lack.1)

  -- a row of the same group before a run
  run_longer : (row : Row) (rows run part : List Row) → AllByRecursion (λ r. run ≡ filter (same r) rows) part → AllByRecursion (λ r. same row r ≡ true) part
      → AllByRecursion (λ r. row ∷ run ≡ filter (same r) (row ∷ rows)) part
  run_longer row rows run [] is together = tt
  run_longer row rows run (r ∷ part) is together =
      let back : same r row ≡ true = are_same r row (sym (one_group row r together.0)) in
      (ap (λ rs. row ∷ rs) is.0 ∙ sym (ap (λ b. if b then row ∷ filter (same r) rows else filter (same r) rows) back), run_longer row rows run part is.1 together.1)

  whole_longer : (row next : Row) (rows run : List Row) → group next ≡ group row → AllByRecursion (λ r. next ∷ run ≡ filter (same r) rows) (next ∷ run)
      → AllByRecursion (λ r. row ∷ next ∷ run ≡ filter (same r) (row ∷ rows)) (row ∷ next ∷ run)
  whole_longer row next rows run one whole =
      let of_row : next ∷ run ≡ filter (same row) rows = whole.0 ∙ ap (λ key. filter (has key) rows) one in
      let itself : same row row ≡ true = are_same row row refl in
      let together : AllByRecursion (λ r. same row r ≡ true) (next ∷ run) =
      subst (λ rs. AllByRecursion (λ r. same row r ≡ true) rs) (sym of_row) (passing (same row) rows) in
      (ap (λ rs. row ∷ rs) of_row ∙ sym (ap (λ b. if b then row ∷ filter (same row) rows else filter (same row) rows) itself), run_longer row rows (next ∷ run) (next ∷ run) whole together)

  whole_alone : (row : Row) (rows : List Row) → AllByRecursion (λ r. same row r ≡ false) rows → row ∷ [] ≡ filter (same row) (row ∷ rows)
  whole_alone row rows apart =
      ap (λ rs. row ∷ rs) (sym (none rows apart)) ∙ sym (ap (λ b. if b then row ∷ filter (same row) rows else filter (same row) rows) (are_same row row refl))
    where
      none : (rs : List Row) → AllByRecursion (λ r. same row r ≡ false) rs → filter (same row) rs ≡ []
      none [] apart = refl
      none (r ∷ rs) apart = ap (λ b. if b then r ∷ filter (same row) rs else filter (same row) rs) apart.0 ∙ none rs apart.1

  -- behind a row of another group, in order, no row is of the group before it
  lacks_behind : (row next : Row) (rows : List Row) → IsTrue (is_le (json_cmp (json row.key) (json next.key))) → same row next ≡ false
      → AllByRecursion (λ r. IsTrue (is_le (json_cmp (json next.key) (json r.key)))) rows → AllByRecursion (λ r. same row r ≡ false) rows
  lacks_behind row next [] first apart up = tt
  lacks_behind row next (r ∷ rows) first apart up = (
    are_apart row r (λ is.
        let e : same row next ≡ true = are_same row next (sym (are_runs level (json row.key) (json next.key) (json r.key) first up.0 is)) in absurd (cc)),
    lacks_behind row next rows first apart up.1,
  )

  pub record IsGrouped (rows : List Row) (all : List (List Row)) : Type 0 where
    pub whole : AreWhole rows all
    pub lack : LackFirst all

  grouped_more : (row next : Row) (rows run : List Row) (others : List (List Row)) (together : Bool) → same row next ≡ together
      → (together ≡ false → AllByRecursion (λ r. same row r ≡ false) rows)
      → AllByRecursion (λ run. run ≢ []) ((next ∷ run) ∷ others) → joined ((next ∷ run) ∷ others) ≡ rows → IsGrouped rows ((next ∷ run) ∷ others)
      → IsGrouped (row ∷ rows) (if together then (row ∷ next ∷ run) ∷ others else (row ∷ []) ∷ (next ∷ run) ∷ others)
  grouped_more row next rows run others true is apart some are h =
      let one : group next ≡ group row = sym (one_group row next is) in
      let lack : Lack (group row) others = subst (λ key. Lack key others) one h.lack in
      record {
        whole = (whole_longer row next rows run one h.whole.0, runs_behind row rows others h.whole.1 lack);
        lack = lack;
      }
  grouped_more row next rows run others false is apart some are h =
      let all : AllByRecursion (λ r. same row r ≡ false) rows = apart refl in
      let lack : Lack (group row) ((next ∷ run) ∷ others) =
      in_parts (λ r. same row r ≡ false) ((next ∷ run) ∷ others) (subst (λ rs. AllByRecursion (λ r. same row r ≡ false) rs) (sym are) all) in
      record {
        whole = ((whole_alone row rows all, tt), runs_behind row rows ((next ∷ run) ∷ others) h.whole lack);
        lack = lack;
      }

  grouped_before : (row : Row) (rows : List Row) (all : List (List Row)) → IsSorted rows_cmp (row ∷ rows)
      → AllByRecursion (λ run. run ≢ []) all → joined all ≡ rows → IsGrouped rows all → IsGrouped (row ∷ rows) (before_runs level row all)
  grouped_before row rows [] up some are h =
      let alone : row ∷ [] ≡ filter (same row) (row ∷ rows) =
      subst (λ rs. row ∷ [] ≡ filter (same row) (row ∷ rs)) are (whole_alone row [] tt) in
      record { whole = ((alone, tt), tt); lack = tt }
  grouped_before row rows ([] ∷ others) up some are h = absurd (some.0 refl)
  grouped_before row rows ((next ∷ run) ∷ others) up some are h =
      let behind : List Row = run ++ joined others in
      let order : IsSorted rows_cmp (row ∷ next ∷ behind) = subst (λ rs. IsSorted rows_cmp (row ∷ rs)) (sym are) up in
      let least = first_is_least next behind (sorted_rest row (next ∷ behind) order) in
      let first = first_is_least row (next ∷ behind) order in
      grouped_more row next rows run others (same row next) refl
      (λ apart. subst (λ rs. AllByRecursion (λ r. same row r ≡ false) rs) are (lacks_behind row next (next ∷ behind) first.1.0 apart least))
      some are h

  grouped : (rows : List Row) → IsSorted rows_cmp rows → IsGrouped rows (runs level rows)
  grouped [] up = record { whole = tt; lack = tt }
  grouped (row ∷ rows) up =
      grouped_before row rows (runs level rows) up (runs_some rows) (runs_joined rows) (grouped rows (sorted_rest row rows up))

pub runs_are_the_rows : RunsAreTheRows
runs_are_the_rows level rows = runs_joined level rows

pub no_run_is_empty : NoRunIsEmpty
no_run_is_empty level rows = runs_some level rows

pub runs_are_whole_groups : RunsAreWholeGroups
runs_are_whole_groups level rows up = (grouped level rows up).whole
