-- The last writes that were read so far: their numbers rise, and their ids are distinct.
use Rattle.std.specs.Prelude.{◌≡◌, ◌<◌, ◌≤◌, ◌++◌, ◌∷◌, ℕ, suc, List, [], map, bytes_eq, Bool, true, false, Some, All, AllPairs}
use Rattle.std.specs.List.{AllByRecursion, IsDistinct}
use Rattle.std.proofs.Common.{refl, sym, ap, ◌∙◌, subst, arith}
use Rattle.std.proofs.lemmas.List.Elements.{All-head, All-map, All-tail, All-weaker}
use Rattle.std.proofs.lemmas.Slice.Eq.{bytes_eq-Decides}
use Rattle.design_docs.specs.History.{Write}
use Rattle.doc_file.specs.declared.docs.Docs.{Docs}
use Rattle.doc_file.specs.declared.docs.changes.Change.{Change}
use Rattle.doc_file.specs.declared.entry.LastWrite.{LastWrite}
use Rattle.doc_file.specs.Changes.{last_number, numbered, AreInOrder, IsChange}
use Rattle.doc_file.specs.Docs.{last_of}
use Rattle.child_pool.specs.declared.doc_rows.DocRowLists.{DocRowLists}
use Rattle.view_model.proofs.Distinct.{change_ids}
use Rattle.row_exchange.specs.Changed.{changed_rows}
use Rattle.row_exchange.specs.Replaced.{ids_of}
use Rattle.row_exchange.proofs.Updating.{ids_written}
use Rattle.change_mapper.specs.Written.{AreRising, IsLastWrite}

-- ---- rising numbers

pub last-append : (seq : ℕ) (changes more : List (ℕ × Write)) → last_number seq (changes ++ more) ≡ last_number (last_number seq changes) more
last-append seq [] more = refl
last-append seq (c ∷ changes) more = last-append c.0 changes more

pub rising-append : (seq : ℕ) (changes more : List (ℕ × Write)) → AreRising seq changes → AreRising (last_number seq changes) more → AreRising seq (changes ++ more)
rising-append seq [] more rise later = later
rising-append seq (c ∷ changes) more rise later = (rise.0, rising-append c.0 changes more rise.1 later)

rising_from : (seq : ℕ) (changes : List Change) → All (λ (c : Change). seq < c.seq) changes → AllPairs (λ (c later : Change). c.seq < later.seq) changes → AreRising seq (map numbered changes)
rising_from seq [] after rise = tt
rising_from seq (c ∷ changes) after rise = (
  All-head (λ (x : Change). seq < x.seq) c changes after,
  rising_from c.seq changes (λ k d within. rise 0 (suc k) d (omega arith) (omega (arith, within))) (λ i j d below within. rise (suc i) (suc j) d (omega (arith, below)) (omega (arith, within))),
)

pub rising_page : (seq : ℕ) (changes : List Change) → AreInOrder seq changes → AreRising seq (map numbered changes)
rising_page seq changes order = rising_from seq changes order.after order.rise

-- ---- last writes are of distinct ids

module _ (docs : Docs) (bytes : List ℕ) where
  same_number : (one other : ℕ × Write) → IsLastWrite docs bytes one → IsLastWrite docs bytes other → (one.1).id ≡ (other.1).id → one.0 ≡ other.0
  same_number one other is that same =
      let found : Some is.last ≡ Some that.last = sym is.found ∙ ap (λ id. last_of docs id) same ∙ that.found in
      let last : is.last ≡ that.last = cc in
      is.seq ∙ ap (λ (l : LastWrite). l.seq) last ∙ sym that.seq

  apart : (one other : ℕ × Write) → IsLastWrite docs bytes one → IsLastWrite docs bytes other → one.0 < other.0 → bytes_eq (one.1).id (other.1).id ≡ false
  apart one other is that less = by_test (bytes_eq (one.1).id (other.1).id) refl
    where
      by_test : (b : Bool) → bytes_eq (one.1).id (other.1).id ≡ b → bytes_eq (one.1).id (other.1).id ≡ false
      by_test false test = test
      by_test true test = let same = same_number one other is that ((bytes_eq-Decides (one.1).id (other.1).id).0 test) in absurd (omega (arith, same, less))

  -- no later one is of the same id
  apart_ids : (one : ℕ × Write) (seq : ℕ) (more : List (ℕ × Write)) → IsLastWrite docs bytes one → one.0 ≤ seq → AreRising seq more → All (IsLastWrite docs bytes) more
      → AllByRecursion (λ id. bytes_eq (one.1).id id ≡ false) (change_ids more)
  apart_ids one seq [] is low rise all = tt
  apart_ids one seq (c ∷ more) is low rise all = (
    apart one c is (All-head (IsLastWrite docs bytes) c more all) (omega (arith, low, rise.0)),
    apart_ids one c.0 more is (omega (arith, low, rise.0)) rise.1 (All-tail (IsLastWrite docs bytes) c more all),
  )

  distinct_ids : (seq : ℕ) (changes : List (ℕ × Write)) → AreRising seq changes → All (IsLastWrite docs bytes) changes → IsDistinct bytes_eq (change_ids changes)
  unfolding IsDistinct
  distinct_ids seq [] rise all = tt
  distinct_ids seq (c ∷ changes) rise all =
      let rest = All-tail (IsLastWrite docs bytes) c changes all in
      (apart_ids c c.0 changes (All-head (IsLastWrite docs bytes) c changes all) (omega arith) rise.1 rest, distinct_ids c.0 changes rise.1 rest)

  -- so their rows name no document twice
  pub rows_distinct : (seq : ℕ) (changes : List (ℕ × Write)) → AreRising seq changes → All (IsLastWrite docs bytes) changes → (count : ℕ) (lists : DocRowLists)
      → IsDistinct bytes_eq (ids_of (changed_rows count changes lists))
  rows_distinct seq changes rise all count lists = subst (IsDistinct bytes_eq) (sym (ids_written count changes lists)) (distinct_ids seq changes rise all)

  -- what was read of a page are last writes
  pub page_last : (page : List Change) → All (IsChange docs bytes) page → All (IsLastWrite docs bytes) (map numbered page)
  page_last page each =
      All-map (IsLastWrite docs bytes) numbered page
      (All-weaker (IsChange docs bytes) (λ (c : Change). IsLastWrite docs bytes (numbered c)) (λ c is. record { last = is.last; found = is.found; seq = is.seq; document = is.document }) page each)
