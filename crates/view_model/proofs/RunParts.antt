-- The runs of a list are its first run and the runs of the rest, and the runs of its front and its last run.
use Rattle.std.specs.Prelude.{◌≡◌, ℕ, zero, suc, ◌+◌, ◌-◌, ◌<◌, ◌≤◌, List, [], ◌∷◌, ◌++◌, ◌==◌, Bool, true, false, refl, drop, take, length, reverse, if◌then◌else◌}
use Rattle.std.proofs.Common.{ap, sym, ◌∙◌, arith, get_or, inl, inr, subst}
use Rattle.std.proofs.lemmas.List.{get_or-drop, get_or-take, get_or_read, length-drop, length-take-le, reverse-append}
use Rattle.std.proofs.lemmas.Bool.{cases_lt, eqb-true}
use Rattle.json_terms.specs.declared.term.Row.{Row}
use Rattle.raw_collation.specs.declared.group.Level.{Level}
use Rattle.view_model.specs.Groups.{before_runs, is_same_group, one_group, runs}
use Rattle.view_model.specs.Progress.{walked}

module _ (level : Level) where
  -- neighbours, of which the second stands at this place, are of one group or not
  abbrev pub Neighbours : List Row → ℕ → Bool → Type 0
  Neighbours rows k together = (d : Row) → is_same_group level (get_or rows (k - 1) d) (get_or rows k d) ≡ together

  -- all from one place up to another are
  abbrev pub AreOneRun : List Row → ℕ → ℕ → Type 0
  AreOneRun rows from to = (k : ℕ) → from < k → k < to → Neighbours rows k true

  -- the first of a list begins its runs
  abbrev Begins : Row → List (List Row) → Type 0
  Begins row all = (run : List Row) × (others : List (List Row)) × (all ≡ (row ∷ run) ∷ others)

  chosen : (row next : Row) (run : List Row) (others : List (List Row)) (together : Bool)
      → Begins row (if together then (row ∷ next ∷ run) ∷ others else (row ∷ []) ∷ (next ∷ run) ∷ others)
  chosen row next run others true = (next ∷ run, others, refl)
  chosen row next run others false = ([], (next ∷ run) ∷ others, refl)

  begins : (row : Row) (all : List (List Row)) → Begins row (before_runs level row all)
  begins row [] = ([], [], refl)
  begins row ([] ∷ others) = ([], others, refl)
  begins row ((next ∷ run) ∷ others) = chosen row next run others (is_same_group level row next)

  -- one more before them
  apart_before : (row next : Row) (run : List Row) (others all : List (List Row)) → all ≡ (next ∷ run) ∷ others → is_same_group level row next ≡ false
      → before_runs level row all ≡ (row ∷ []) ∷ all
  apart_before row next run others all is apart =
      ap (before_runs level row) is ∙ ap (λ (b : Bool). if b then (row ∷ next ∷ run) ∷ others else (row ∷ []) ∷ (next ∷ run) ∷ others) apart
      ∙ ap (λ rs. (row ∷ []) ∷ rs) (sym is)

  if-append : (together : Bool) (xs ys zs : List (List Row)) → (if together then xs ++ zs else ys ++ zs) ≡ (if together then xs else ys) ++ zs
  if-append true xs ys zs = refl
  if-append false xs ys zs = refl

  more_behind : (row next : Row) (run : List Row) (others all more : List (List Row)) → all ≡ (next ∷ run) ∷ others
      → before_runs level row (all ++ more) ≡ before_runs level row all ++ more
  more_behind row next run others all more is =
      ap (λ rs. before_runs level row (rs ++ more)) is
      ∙ if-append (is_same_group level row next) ((row ∷ next ∷ run) ∷ others) ((row ∷ []) ∷ (next ∷ run) ∷ others) more
      ∙ ap (λ rs. before_runs level row rs ++ more) (sym is)

  -- a list is cut between two groups
  abbrev IsCut : List Row → ℕ → Type 0
  IsCut rows place = (k : ℕ) (d : Row) → suc k ≡ place → place < length rows → is_same_group level (get_or rows k d) (get_or rows place d) ≡ false

  cut_runs : (rows : List Row) (place : ℕ) → IsCut rows place → runs level rows ≡ runs level (take place rows) ++ runs level (drop place rows)
  cut_runs rows zero cut = refl
  cut_runs [] (suc place) cut = refl
  cut_runs (row ∷ []) (suc zero) cut = refl
  cut_runs (row ∷ next ∷ rows) (suc zero) cut =
      let first = begins next (runs level rows) in
      apart_before row next first.0 first.1 (runs level (next ∷ rows)) first.2 (cut 0 row refl (omega arith))
  cut_runs (row ∷ []) (suc (suc place)) cut = refl
  cut_runs (row ∷ next ∷ rows) (suc (suc place)) cut =
      let later : IsCut (next ∷ rows) (suc place) = λ k d e h. cut (suc k) d (ap suc e) (omega arith) in
      let first = begins next (runs level (take place rows)) in
      ap (before_runs level row) (cut_runs (next ∷ rows) (suc place) later)
      ∙ more_behind row next first.0 first.1 (runs level (next ∷ take place rows)) (runs level (drop place rows)) first.2

  -- a list of one group
  one_run : (rows : List Row) → 0 < length rows → ((k : ℕ) (d : Row) → suc k < length rows → is_same_group level (get_or rows k d) (get_or rows (suc k) d) ≡ true) → runs level rows ≡ rows ∷ []
  one_run [] some together = absurd (omega arith)
  one_run (row ∷ []) some together = refl
  one_run (row ∷ next ∷ rows) some together =
      ap (before_runs level row) (one_run (next ∷ rows) (omega arith) (λ k d h. together (suc k) d (omega arith)))
      ∙ ap (λ (b : Bool). if b then (row ∷ next ∷ rows) ∷ [] else (row ∷ []) ∷ (next ∷ rows) ∷ []) (together 0 row (omega arith))

  -- neighbours that were read
  pub neighbours : (rows : List Row) (k : ℕ) (a b : Row) (together : Bool) → k < length rows → a ≡ get_or rows (k - 1) a → b ≡ get_or rows k b → is_same_group level a b ≡ together
      → Neighbours rows k together
  neighbours rows k a b together within first second is d =
      ap (λ r. is_same_group level r (get_or rows k d)) (sym (get_or_read rows (k - 1) a (omega arith) first d))
      ∙ ap (λ r. is_same_group level a r) (sym (get_or_read rows k b within second d)) ∙ is

  pub more_at_end : (rows : List Row) (from to : ℕ) → AreOneRun rows from to → Neighbours rows to true → AreOneRun rows from (to + 1)
  more_at_end rows from to all last k low high = elim (cases_lt k to) [
    | inl below ↦ all k low below
    | inr above ↦ let e : to ≡ k = omega arith in subst (λ (j : ℕ). Neighbours rows j true) e last
  ]

  pub more_at_start : (rows : List Row) (from to : ℕ) → AreOneRun rows from to → Neighbours rows from true → AreOneRun rows (from - 1) to
  more_at_start rows from to all first k low high = elim (cases_lt from k) [
    | inl above ↦ all k above high
    | inr below ↦ let e : from ≡ k = omega arith in subst (λ (j : ℕ). Neighbours rows j true) e first
  ]

  -- as neighbours are counted
  cut_at : (rows : List Row) (place : ℕ) → (place < length rows → 0 < place → Neighbours rows place false) → IsCut rows place
  cut_at rows place ended k d e h =
      let before : place - 1 ≡ k = omega arith in
      ap (λ j. is_same_group level (get_or rows j d) (get_or rows place d)) (sym before) ∙ ended h (omega arith) d

  pub first_found : (rows : List Row) (end : ℕ) → 0 < end → end ≤ length rows → AreOneRun rows 0 end → (end < length rows → Neighbours rows end false)
      → runs level rows ≡ take end rows ∷ runs level (drop end rows)
  first_found rows end some within together ended =
      let long : length (take end rows) ≡ end = length-take-le end rows within in
      cut_runs rows end (cut_at rows end (λ h positive. ended h))
      ∙ ap (λ rs. rs ++ runs level (drop end rows))
      (one_run (take end rows) (omega arith)
      (λ k d h. let back : suc k - 1 ≡ k = omega arith in
      ap (λ r. is_same_group level r (get_or (take end rows) (suc k) d)) (get_or-take end rows k d (omega arith))
      ∙ ap (λ r. is_same_group level (get_or rows k d) r) (get_or-take end rows (suc k) d (omega arith))
      ∙ ap (λ j. is_same_group level (get_or rows j d) (get_or rows (suc k) d)) (sym back)
      ∙ together (suc k) (omega arith) (omega arith) d))

  pub last_found : (rows : List Row) (start : ℕ) → start < length rows → AreOneRun rows start (length rows) → (0 < start → Neighbours rows start false)
      → runs level rows ≡ runs level (take start rows) ++ (drop start rows ∷ [])
  last_found rows start within together ended =
      let long : length (drop start rows) ≡ length rows - start = length-drop start rows in
      cut_runs rows start (cut_at rows start (λ h positive. ended positive))
      ∙ ap (λ rs. runs level (take start rows) ++ rs)
      (one_run (drop start rows) (omega arith)
      (λ k d h. let back : start + suc k - 1 ≡ start + k = omega arith in
      ap (λ r. is_same_group level r (get_or (drop start rows) (suc k) d)) (get_or-drop start rows k d)
      ∙ ap (λ r. is_same_group level (get_or rows (start + k) d) r) (get_or-drop start rows (suc k) d)
      ∙ ap (λ j. is_same_group level (get_or rows j d) (get_or rows (start + suc k) d)) (sym back)
      ∙ together (start + suc k) (omega arith) (omega arith) d))

-- ---- as a query walks them

pub no_rows : (rows : List Row) (empty : Bool) → empty ≡ (length rows == 0) → empty ≡ true → rows ≡ []
no_rows [] empty is e = refl
no_rows (row ∷ rows) empty is e = absurd (omega (arith, eqb-true (length (row ∷ rows)) 0 (sym is ∙ e)))

walked_none : (level : Level) (descending : Bool) → walked descending (runs level []) ≡ []
walked_none level true = refl
walked_none level false = refl

pub no_runs : (level : Level) (descending : Bool) (rows : List Row) → rows ≡ [] → walked descending (runs level rows) ≡ []
no_runs level descending rows none = ap (λ rs. walked descending (runs level rs)) none ∙ walked_none level descending

pub no_group : (group : List Row) (empty : Bool) → empty ≡ (length group == 0) → empty ≡ true → one_group group ≡ []
no_group [] empty is e = refl
no_group (row ∷ rows) empty is e = absurd (omega (arith, eqb-true (length (row ∷ rows)) 0 (sym is ∙ e)))

pub a_group : (group : List Row) (empty : Bool) → empty ≡ (length group == 0) → empty ≡ false → one_group group ≡ group ∷ []
a_group [] empty is e = cc
a_group (row ∷ rows) empty is e = refl

pub some_group : (group : List Row) → 0 < length group → one_group group ≡ group ∷ []
some_group [] some = absurd (omega arith)
some_group (row ∷ rows) some = refl

pub walked_up : (level : Level) (descending : Bool) (rows run rest : List Row) → descending ≡ false → runs level rows ≡ run ∷ runs level rest
    → walked descending (runs level rows) ≡ run ∷ walked descending (runs level rest)
walked_up level true rows run rest up is = cc
walked_up level false rows run rest up is = is

pub walked_down : (level : Level) (descending : Bool) (rows run rest : List Row) → descending ≡ true → runs level rows ≡ runs level rest ++ (run ∷ [])
    → walked descending (runs level rows) ≡ run ∷ walked descending (runs level rest)
walked_down level true rows run rest down is = ap reverse is ∙ reverse-append (runs level rest) (run ∷ [])
walked_down level false rows run rest down is = cc
