-- The entry of a document among those of a back-index, by how many stand before its id, and calls that only read.
use Rattle.std.proofs.Common.{◌≡◌, ◌≢◌, ◌+◌, ◌≤◌, ◌<◌, ◌∙◌, ℕ, suc, Bool, true, false, cond, List, [], ◌∷◌, ◌++◌, All, get_or, length, map, take, refl, sym, ap, subst, length-append, arith}
use Rattle.std.specs.Prelude.{Contains, MatchOption, Option, Some, bytes_eq, if◌then◌else◌}
use Rattle.std.specs.List.{filter}
use Rattle.std.specs.List.Sorted.{IsStrictlySortedBy}
use Rattle.std.specs.Ordering.{is_lt, nat_cmp}
use Rattle.std.specs.Cmp.Lexicographic.{slice_cmp}
use Rattle.std.specs.declared.cmp.Ordering.TheVariants.{Less}
use Rattle.std.proofs.lemmas.Cmp.{nat_list_cmp_total, tied_itself}
use Rattle.std.proofs.lemmas.List.{map-append, map_more}
use Rattle.std.proofs.lemmas.List.Elements.{All-append, All-cons, All-contains, All-nil, All-weaker, Contains-append_right}
use Rattle.std.proofs.lemmas.Slice.Eq.{bytes_eq-Decides}
use Rattle.json_terms.specs.declared.term.Row.{Row}
use Rattle.tree_laws.specs.declared.store.NodeSource.{Ghosts as Sources}
use Rattle.tree_query.specs.Calls.{OnlyReads}
use Rattle.tree_query.specs.Ranges.{numbered}
use Rattle.tree_query.proofs.Before.{filter_few, none_taken}
use Rattle.tree_query.proofs.Order.{filter_none, sorted_across, sorted_back}
use Rattle.row_exchange.specs.declared.doc_rows.DocRows.{DocRows}
use Rattle.row_exchange.specs.Replaced.{ids_of}
use Rattle.index_items.specs.declared.back_row.BackRow.{BackRow}
use Rattle.index_items.specs.BackIndex.{IsBackIndex, places_in}
use Rattle.index_items.specs.BackItem.{BackEntry, entry_cmp}
use Rattle.index_items.specs.BeforeIdLaws.{before_is_front}
use Rattle.index_items.proofs.Rising.{contains-here}
use Rattle.index_trees.specs.Edits.{old_places}

-- ---- calls that only read

module _ {S F : Type 0} (s : Sources S F) where
  pub reads_on : (m n most : ℕ) (a b c : S) (x y z : ℕ) → m + n ≤ most → OnlyReads s m a b x y → OnlyReads s n b c y z → OnlyReads s most a c x z
  reads_on m n most a b c x y z few h k =
      record {
        nodes = k.nodes ∙ h.nodes;
        size = k.size ∙ h.size;
        puts = k.puts ∙ h.puts;
        steps = record { later = omega (arith, h.steps.later, k.steps.later); within = omega (arith, few, h.steps.within, k.steps.within) };
        reads = record { later = omega (arith, h.reads.later, k.reads.later); within = omega (arith, h.reads.within, k.reads.within, h.steps.later, k.steps.later) };
      }

-- ---- entries around an id

module _ (id : List ℕ) where
  -- the entry stands before the id
  abbrev pub is_before : BackEntry → Bool
  is_before entry = is_lt (slice_cmp nat_cmp entry.id id)

  -- it is that of another document
  abbrev pub IsOther : BackEntry → Type 0
  IsOther entry = entry.id ≢ id

  before_other : (entry : BackEntry) → is_before entry ≡ true → IsOther entry
  before_other entry before same =
      let tied = tied_itself nat_list_cmp_total id in
      let here : is_before entry ≡ false = ap (λ own. is_lt (slice_cmp nat_cmp own id)) same ∙ ap is_lt tied in
      let both : true ≡ false = sym before ∙ here in
      absurd (cc)

  -- what comes behind an entry that doesn't stand before the id isn't that of the document
  behind_other : (x y : BackEntry) → is_before x ≡ false → entry_cmp x y ≡ Less → IsOther y
  behind_other x y stops less same =
      let before : is_before x ≡ true = ap (λ own. is_lt (slice_cmp nat_cmp x.id own)) (sym same) ∙ ap is_lt less in
      let both : true ≡ false = sym before ∙ stops in
      absurd (cc)

  none_by : (x : BackEntry) (xs : List BackEntry) (b : Bool) → is_before x ≡ b → length (cond b (x ∷ filter is_before xs) (filter is_before xs)) ≡ suc (length xs) → (length (filter is_before xs) ≡ length xs → All IsOther xs) → All IsOther (x ∷ xs)
  none_by x xs true is count rest = All-cons IsOther x xs (before_other x is) (rest (omega (arith, count)))
  none_by x xs false is count rest = absurd (omega (arith, count, filter_few is_before xs))

  -- where all stand before the id none is the document's
  pub all_before : (entries : List BackEntry) → length (filter is_before entries) ≡ length entries → All IsOther entries
  all_before [] count = All-nil IsOther
  all_before (x ∷ xs) count = none_by x xs (is_before x) refl count (all_before xs)

  -- the first entry that doesn't stand before the id: all others are those of other documents
  pub record IsFirst (entries : List BackEntry) (count : ℕ) : Type 0 where
    pub front : List BackEntry
    pub entry : BackEntry
    pub rest : List BackEntry
    pub whole : entries ≡ front ++ entry ∷ rest
    pub number : count ≡ length front
    pub before : All IsOther front
    pub behind : All IsOther rest

  first_by : (x : BackEntry) (xs : List BackEntry) (b : Bool) → is_before x ≡ b → IsStrictlySortedBy entry_cmp (x ∷ xs) → length (cond b (x ∷ filter is_before xs) (filter is_before xs)) < suc (length xs)
      → (length (filter is_before xs) < length xs → IsFirst xs (length (filter is_before xs))) → IsFirst (x ∷ xs) (length (cond b (x ∷ filter is_before xs) (filter is_before xs)))
  first_by x xs true is rise less rest =
      let k = rest (omega (arith, less)) in
      record { front = x ∷ k.front; entry = k.entry; rest = k.rest; whole = ap (λ ys. x ∷ ys) k.whole; number = omega (arith, k.number); before = All-cons IsOther x k.front (before_other x is) k.before; behind = k.behind }
  first_by x xs false is rise less rest =
      let later = sorted_across entry_cmp [] x xs rise in
      let none : filter is_before xs ≡ [] = filter_none is_before xs (none_taken entry_cmp is_before (before_is_front id) x xs is later) in
      record {
        front = [];
        entry = x;
        rest = xs;
        whole = refl;
        number = ap length none;
        before = All-nil IsOther;
        behind = All-weaker (λ y. entry_cmp x y ≡ Less) IsOther (λ y less. behind_other x y is less) xs later;
      }

  pub first_behind : (entries : List BackEntry) → IsStrictlySortedBy entry_cmp entries → length (filter is_before entries) < length entries → IsFirst entries (length (filter is_before entries))
  first_behind [] rise less = absurd (omega arith)
  first_behind (x ∷ xs) rise less = first_by x xs (is_before x) refl rise less (first_behind xs (sorted_back entry_cmp (x ∷ []) xs rise))

  module _ (views : List (List Row)) (entries : List BackEntry) (are : IsBackIndex views entries) where
    no_places : (places : List BackRow) → places_in views id ≡ places → All IsOther entries → places ≡ []
    no_places [] is others = refl
    no_places (here ∷ places) is others =
        let entry : BackEntry = record { id = id; rows = here ∷ places } in
        absurd (All-contains IsOther entries entry others ((are entry).1 (record { some = λ none. absurd (cc); all = sym is })) refl)

    -- a document without an entry has no rows
    pub none_stands : All IsOther entries → [] ≡ places_in views id
    none_stands others = sym (no_places (places_in views id) refl others)

    first_there : (count : ℕ) → (first : IsFirst entries count) → Contains entries first.entry
    first_there count first = subst (λ ys. Contains ys first.entry) (sym first.whole) (Contains-append_right first.front (first.entry ∷ first.rest) first.entry (contains-here first.entry first.rest))

    picked_by : (count : ℕ) (first : IsFirst entries count) (b : Bool) → bytes_eq first.entry.id id ≡ b → (if b then first.entry.rows else []) ≡ places_in views id
    picked_by count first true same =
        let own : first.entry.id ≡ id = (bytes_eq-Decides first.entry.id id).0 same in
        ((are first.entry).0 (first_there count first)).all ∙ ap (places_in views) own
    picked_by count first false same =
        let other : IsOther first.entry = λ own. (let both : true ≡ false = sym ((bytes_eq-Decides first.entry.id id).1 own) ∙ same in absurd (cc)) in
        none_stands (subst (All IsOther) (sym first.whole) (All-append IsOther first.front (first.entry ∷ first.rest) first.before (All-cons IsOther first.entry first.rest other first.behind)))

    -- its rows where it is the document's, and else none
    pub picked_rows : (count : ℕ) (first : IsFirst entries count) (got : Option BackEntry) (rows : List BackRow) → got ≡ Some first.entry
        → MatchOption got (rows ≡ []) (λ entry. rows ≡ (if bytes_eq entry.id id then entry.rows else [])) → rows ≡ places_in views id
    picked_rows count first got rows is says =
        let here : rows ≡ (if bytes_eq first.entry.id id then first.entry.rows else []) = subst (λ (item : Option BackEntry). MatchOption item (rows ≡ []) (λ entry. rows ≡ (if bytes_eq entry.id id then entry.rows else []))) is says in
        here ∙ picked_by count first (bytes_eq first.entry.id id) refl

-- ---- the item with a number

pub one_numbered : {X : Type 0} (front : List X) (x : X) (rest : List X) (n : ℕ) → n ≡ length front → numbered n (n + 1) (front ++ x ∷ rest) ≡ x ∷ []
one_numbered [] x rest n is = ap (λ k. numbered k (k + 1) (x ∷ rest)) is
one_numbered (y ∷ front) x rest n is =
    let more : suc (length front) + 1 ≡ suc (length front + 1) = omega arith in
    ap (λ k. numbered k (k + 1) (y ∷ (front ++ x ∷ rest))) is ∙ ap (λ k. numbered (suc (length front)) k (y ∷ (front ++ x ∷ rest))) more ∙ one_numbered front x rest (length front) refl

-- ---- the places of several documents

pub places_more : (views : List (List Row)) (changes : List DocRows) (change : DocRows) (i : ℕ) (olds after : List (List BackRow)) (rows : List BackRow) → i < length changes → change ≡ get_or changes i change
    → olds ≡ old_places (take i changes) views → rows ≡ places_in views change.id → after ≡ olds ++ rows ∷ [] → after ≡ old_places (take (i + 1) changes) views
places_more views changes change i olds after rows within at before is more =
    let ids : ids_of (take (i + 1) changes) ≡ ids_of (take i changes) ++ change.id ∷ [] =
    map_more (λ (own : DocRows). own.id) changes i change within ∙ ap (λ (own : DocRows). ids_of (take i changes) ++ own.id ∷ []) (sym at) in
    let all : old_places (take (i + 1) changes) views ≡ old_places (take i changes) views ++ places_in views change.id ∷ [] =
    ap (map (places_in views)) ids ∙ map-append (places_in views) (ids_of (take i changes)) (change.id ∷ []) in
    more ∙ ap (λ list. list ++ rows ∷ []) before ∙ ap (λ list. old_places (take i changes) views ++ list ∷ []) is ∙ sym all

pub one_longer : {X : Type 0} (olds after : List X) (x : X) (i : ℕ) → length olds ≡ i → after ≡ olds ++ x ∷ [] → length after ≡ i + 1
one_longer olds after x i long more = omega (arith, long, ap length more, length-append olds (x ∷ []))
