-- Which last writes the changes are of that were read so far, and that their bodies aren't damaged.
use Rattle.std.specs.Prelude.{◌≡◌, ◌⊎◌, ◌<◌, ◌≤◌, ℕ, List, [], ◌∷◌, ◌++◌, length, map, get_or, Bool, true, false, bytes_eq, if◌then◌else◌, Option, Some, None, All, Contains}
use Rattle.std.proofs.Common.{zero, suc, refl, sym, ap, ◌∙◌, subst, inl, inr, arith}
use Rattle.std.proofs.lemmas.Bool.{cases_lt}
use Rattle.std.proofs.lemmas.List.{map-append}
use Rattle.std.proofs.lemmas.List.Elements.{All-contains, All-head, All-tail, Contains-append_left, Contains-append_right}
use Rattle.json_terms.specs.Json.{Json}
use Rattle.design_docs.specs.History.{Write}
use Rattle.doc_file.specs.declared.docs.Docs.{Docs}
use Rattle.doc_file.specs.declared.docs.changes.Change.{Change}
use Rattle.doc_file.specs.declared.entry.Entry.{Entry}
use Rattle.doc_file.specs.declared.entry.LastWrite.{LastWrite}
use Rattle.doc_file.specs.Changes.{last_number, numbered, AreWhole, IsStored}
use Rattle.doc_file.specs.Docs.{entries_of, last_of}
use Rattle.doc_file.specs.Held.{find_last, HasBody}
use Rattle.change_mapper.specs.Written.{AreUndamaged, CoverAll, CoverUpTo, HasNumber, IsLastWrite}

-- ---- elements of lists

contains_later : {X : Type 0} (x first : X) (xs : List X) → Contains xs x → Contains (first ∷ xs) x
contains_later x first xs there = (suc there.0, omega (arith, there.1), there.2)

-- an element of a list that was mapped comes from one of the list
from_map : {X Y : Type 0} (g : X → Y) (xs : List X) (y : Y) → Contains (map g xs) y → (x : X) × Contains xs x × (g x ≡ y)
from_map g [] y there = absurd (omega (arith, there.1))
from_map g (x ∷ xs) y (zero, within, is) = (x, (0, omega arith, refl), is)
from_map g (x ∷ xs) y (suc k, within, is) = let found = from_map g xs y (k, omega (arith, within), is) in (found.0, contains_later found.0 x xs found.1, found.2)

-- what is found of an id is that of an entry
abbrev HasEntry : List Entry → LastWrite → Type 0
HasEntry entries last = (entry : Entry) × Contains entries entry × (entry.last ≡ last)

found_when : (here : Bool) (id : List ℕ) (last : LastWrite) (entry : Entry) (entries : List Entry) → (if here then Some entry.last else find_last id entries) ≡ Some last
    → (find_last id entries ≡ Some last → HasEntry entries last) → HasEntry (entry ∷ entries) last
found_when true id last entry entries found rest = (entry, (0, omega arith, refl), (let same : entry.last ≡ last = cc in same))
found_when false id last entry entries found rest = let there = rest found in (there.0, contains_later there.0 entry entries there.1, there.2)

found_there : (id : List ℕ) (last : LastWrite) (entries : List Entry) → find_last id entries ≡ Some last → HasEntry entries last
found_there id last [] found = absurd (let clash : ⊥ = cc in clash)
found_there id last (entry ∷ entries) found = found_when (bytes_eq id entry.id) id last entry entries found (λ later. found_there id last entries later)

-- ---- numbers of changes

-- the last number of some changes is less than one that is greater than all of theirs
last_below : (low number : ℕ) (changes : List Change) → low < number → All (λ change. change.seq < number) changes → last_number low (map numbered changes) < number
last_below low number [] less all = less
last_below low number (change ∷ changes) less all =
    last_below change.seq number changes (All-head (λ (c : Change). c.seq < number) change changes all) (All-tail (λ (c : Change). c.seq < number) change changes all)

-- ---- numbers of last writes

numbers_of : (changes : List Change) → map (λ (c : ℕ × Write). c.0) (map numbered changes) ≡ map (λ (c : Change). c.seq) changes
numbers_of [] = refl
numbers_of (c ∷ changes) = ap (λ rest. c.seq ∷ rest) (numbers_of changes)

first_numbers : (changes more : List (ℕ × Write)) (number : ℕ) → HasNumber changes number → HasNumber (changes ++ more) number
first_numbers changes more number there =
    subst (λ (l : List ℕ). Contains l number) (sym (map-append (λ (c : ℕ × Write). c.0) changes more))
    (Contains-append_left (map (λ (c : ℕ × Write). c.0) changes) (map (λ (c : ℕ × Write). c.0) more) number there)

later_numbers : (changes : List (ℕ × Write)) (page : List Change) (number : ℕ) → Contains (map (λ (c : Change). c.seq) page) number → HasNumber (changes ++ map numbered page) number
later_numbers changes page number there =
    subst (λ (l : List ℕ). Contains l number) (sym (map-append (λ (c : ℕ × Write). c.0) changes (map numbered page)))
    (Contains-append_right (map (λ (c : ℕ × Write). c.0) changes) (map (λ (c : ℕ × Write). c.0) (map numbered page)) number
    (subst (λ (l : List ℕ). Contains l number) (sym (numbers_of page)) there))

module _ (docs : Docs) where
  -- before the first page
  pub none_read : (seq after : ℕ) → after ≡ seq → CoverUpTo docs seq after []
  none_read seq after same = λ k d in' behind low. absurd (omega (arith, same))

  -- one page more
  module _ (seq after limit : ℕ) (changes : List (ℕ × Write)) (page : List Change) (so_far : CoverUpTo docs seq after changes) (whole : AreWhole docs after limit page) where
    abbrev Tells : ℕ → Type 0
    Tells number = after < number → Contains (map (λ (c : Change). c.seq) page) number ⊎ ((length page ≡ limit) × All (λ (c : Change). c.seq < number) page)

    pub covers_on : CoverUpTo docs seq (last_number after (map numbered page)) (changes ++ map numbered page)
    covers_on = λ k d in' behind low. by_order (get_or (entries_of docs) k d).last.seq (so_far k d in' behind) (whole k d in') low (cases_lt after (get_or (entries_of docs) k d).last.seq)
      where
        by_told : (number : ℕ) → after < number → number ≤ last_number after (map numbered page)
            → Contains (map (λ (c : Change). c.seq) page) number ⊎ ((length page ≡ limit) × All (λ (c : Change). c.seq < number) page) → HasNumber (changes ++ map numbered page) number
        by_told number later low (inl there) = later_numbers changes page number there
        by_told number later low (inr full) = absurd (omega (arith, low, last_below after number page later full.1))

        by_order : (number : ℕ) → (number ≤ after → HasNumber changes number) → Tells number → number ≤ last_number after (map numbered page) → (after < number) ⊎ (number ≤ after)
            → HasNumber (changes ++ map numbered page) number
        by_order number old new low (inl later) = by_told number later low (new later)
        by_order number old new low (inr first) = first_numbers changes (map numbered page) number (old first)

    -- behind a page that isn't full there is none
    pub covers_all : length page < limit → CoverAll docs seq (changes ++ map numbered page)
    covers_all few = λ k d in' behind. by_order (get_or (entries_of docs) k d).last.seq (so_far k d in' behind) (whole k d in') (cases_lt after (get_or (entries_of docs) k d).last.seq)
      where
        by_told : (number : ℕ) → Contains (map (λ (c : Change). c.seq) page) number ⊎ ((length page ≡ limit) × All (λ (c : Change). c.seq < number) page) → HasNumber (changes ++ map numbered page) number
        by_told number (inl there) = later_numbers changes page number there
        by_told number (inr full) = absurd (omega (arith, few, full.0))

        by_order : (number : ℕ) → (number ≤ after → HasNumber changes number) → Tells number → (after < number) ⊎ (number ≤ after) → HasNumber (changes ++ map numbered page) number
        by_order number old new (inl later) = by_told number (new later)
        by_order number old new (inr first) = first_numbers changes (map numbered page) number (old first)

-- ---- what was read is undamaged

module _ (docs : Docs) (bytes : List ℕ) where
  never_stored : (id : List ℕ) (last : LastWrite) (document : Option Json) → last.deleted ≡ false → ((t : Json) → HasBody id bytes last t → ⊥) → IsStored id bytes last document → ⊥
  never_stored id last None live none stored = let clash : ⊥ = cc (live, stored) in clash
  never_stored id last (Some t) live none stored = none t stored.1

  -- one of them has the number of each entry after `seq`
  read_there : (changes : List (ℕ × Write)) (number : ℕ) → All (IsLastWrite docs bytes) changes → HasNumber changes number → (change : ℕ × Write) × IsLastWrite docs bytes change × (change.0 ≡ number)
  read_there changes number each there =
      let found = from_map (λ (c : ℕ × Write). c.0) changes number there in
      (found.0, All-contains (IsLastWrite docs bytes) changes found.0 each found.1, found.2)

  pub undamaged_all : (seq : ℕ) (changes : List (ℕ × Write)) → CoverAll docs seq changes → All (IsLastWrite docs bytes) changes → AreUndamaged docs bytes seq
  undamaged_all seq changes all each at spoiled =
      let has : HasNumber changes (spoiled.last).seq =
      let there = found_there spoiled.id spoiled.last (entries_of docs) spoiled.found in
      subst (λ (last : LastWrite). seq < last.seq → HasNumber changes last.seq) there.2
      (All-contains (λ (e : Entry). seq < (e.last).seq → HasNumber changes (e.last).seq) (entries_of docs) there.0 all there.1) spoiled.after in
      let read = read_there changes (spoiled.last).seq each has in
      let change : ℕ × Write = read.0 in
      let is : IsLastWrite docs bytes change = read.1 in
      let document : Option Json = (change.1).document in
      record {
        other = (change.1).id;
        apart = λ same.
            let found : Some is.last ≡ Some spoiled.last = sym is.found ∙ ap (last_of docs) same ∙ spoiled.found in
            let last_is : is.last ≡ spoiled.last = cc in
            never_stored spoiled.id spoiled.last document spoiled.live (spoiled.spoiled).1
            (subst (λ (id : List ℕ). IsStored id bytes spoiled.last document) same (subst (λ (last : LastWrite). IsStored (change.1).id bytes last document) last_is is.document));
        last = is.last;
        found = is.found;
        same = sym is.seq ∙ read.2;
        document = document;
        stored = is.document;
      }
