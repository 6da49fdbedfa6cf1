-- The values of files of a list by name, after a change of one of them.
use Rattle.std.proofs.Common.{◌≡◌, ◌≢◌, inl, inr, ℕ, ◌<◌, List, [], ◌∷◌, ◌++◌, zero, suc, Bool, cond, true, false, length, get_or, refl, sym, ap, ◌∙◌, subst, arith}
use Rattle.std.proofs.lemmas.Bool.{cases_Bool, cond-true, cond-false}
use Rattle.std.proofs.Math.ListN.{set}
use Rattle.view_ports.specs.declared.file_name.FileName.{FileName}
use Rattle.crash_disk.specs.Names.{is_same}
use Rattle.crash_disk.specs.SameNames.{names_split, is_same_true, is_same_false}
use Rattle.crash_disk.specs.Named.{value_in, IsAbsentIn, AreApartIn, IsIndexIn}

module _ {E : Type 0} (name_of : E → FileName) where
  pub absent_by_index : (name : FileName) (files : List E) → ((k : ℕ) (d : E) → k < length files → name_of (get_or files k d) ≢ name) → IsAbsentIn name_of name files
  absent_by_index name [] none = tt
  absent_by_index name (file ∷ files) none = (none 0 file (omega arith), absent_by_index name files (λ k d below. none (suc k) d (omega arith)))

  pub absent_at : (name : FileName) (files : List E) (at : ℕ) (d : E) → IsAbsentIn name_of name files → at < length files → name_of (get_or files at d) ≢ name
  absent_at name [] at d absent below = absurd (omega arith)
  absent_at name (file ∷ files) zero d absent below = absent.0
  absent_at name (file ∷ files) (suc at) d absent below = absent_at name files at d absent.1 (omega arith)

  absent_set : (name : FileName) (files : List E) (at : ℕ) (d file : E) → IsAbsentIn name_of name files → at < length files → name_of file ≡ name_of (get_or files at d) → IsAbsentIn name_of name (set files at file)
  absent_set name [] at d file absent below is = absurd (omega arith)
  absent_set name (first ∷ files) zero d file absent below is = ((λ same. absent.0 (sym is ∙ same)), absent.1)
  absent_set name (first ∷ files) (suc at) d file absent below is = (absent.0, absent_set name files at d file absent.1 (omega arith) is)

  pub apart_set : (files : List E) (at : ℕ) (d file : E) → AreApartIn name_of files → at < length files → name_of file ≡ name_of (get_or files at d) → AreApartIn name_of (set files at file)
  apart_set [] at d file apart below is = absurd (omega arith)
  apart_set (first ∷ files) zero d file apart below is = (subst (λ n. IsAbsentIn name_of n files) (sym is) apart.0, apart.1)
  apart_set (first ∷ files) (suc at) d file apart below is = (absent_set (name_of first) files at d file apart.0 (omega arith) is, apart_set files at d file apart.1 (omega arith) is)

  absent_push : (name : FileName) (files : List E) (file : E) → IsAbsentIn name_of name files → name_of file ≢ name → IsAbsentIn name_of name (files ++ file ∷ [])
  absent_push name [] file absent differ = (differ, tt)
  absent_push name (first ∷ files) file absent differ = (absent.0, absent_push name files file absent.1 differ)

  apart_push : (files : List E) (file : E) → AreApartIn name_of files → IsAbsentIn name_of (name_of file) files → AreApartIn name_of (files ++ file ∷ [])
  apart_push [] file apart absent = (tt, tt)
  apart_push (first ∷ files) file apart absent = (absent_push (name_of first) files file apart.0 (λ same. absent.0 (sym same)), apart_push files file apart.1 absent.1)

  -- a push that may have failed
  pub apart_pushed : (files new : List E) (file : E) (ok : Bool) → new ≡ cond ok (files ++ file ∷ []) files → AreApartIn name_of files → IsAbsentIn name_of (name_of file) files → AreApartIn name_of new
  apart_pushed files new file ok is apart absent =
      elim (cases_Bool ok) [
        | inl done ↦ subst (AreApartIn name_of) (sym (is ∙ cond-true ok (files ++ file ∷ []) files done)) (apart_push files file apart absent)
        | inr failed ↦ subst (AreApartIn name_of) (sym (is ∙ cond-false ok (files ++ file ∷ []) files failed)) apart
      ]

module _ {E V : Type 0} (name_of : E → FileName) (value_of : E → V) (none : V) where
  pub value_absent : (name : FileName) (files : List E) → IsAbsentIn name_of name files → value_in name_of value_of none files name ≡ none
  value_absent name [] absent = refl
  value_absent name (file ∷ files) absent =
      ap (λ b. cond b (value_of file) (value_in name_of value_of none files name)) (is_same_false (name_of file) name absent.0) ∙ value_absent name files absent.1

  pub value_at : (name : FileName) (files : List E) (at : ℕ) (d : E) → AreApartIn name_of files → at < length files → name_of (get_or files at d) ≡ name
      → value_in name_of value_of none files name ≡ value_of (get_or files at d)
  value_at name [] at d apart below is = absurd (omega arith)
  value_at name (file ∷ files) zero d apart below is =
      ap (λ b. cond b (value_of file) (value_in name_of value_of none files name)) (is_same_true (name_of file) name is)
  value_at name (file ∷ files) (suc at) d apart below is =
      let differ : name_of file ≢ name = λ same. absent_at name_of (name_of file) files at d apart.0 (omega arith) (is ∙ sym same) in
      ap (λ b. cond b (value_of file) (value_in name_of value_of none files name)) (is_same_false (name_of file) name differ)
      ∙ value_at name files at d apart.1 (omega arith) is

  -- one file is changed
  value_set : (files : List E) (at : ℕ) (d file : E) (name : FileName) → AreApartIn name_of files → at < length files → name_of file ≡ name_of (get_or files at d)
      → value_in name_of value_of none (set files at file) name ≡ cond (is_same (name_of file) name) (value_of file) (value_in name_of value_of none files name)
  value_set [] at d file name apart below is = absurd (omega arith)
  value_set (first ∷ files) zero d file name apart below is =
      elim (names_split (name_of file) name) [
        | inl same ↦ rw same.1 refl
        | inr other ↦
            let differ : is_same (name_of first) name ≡ false = subst (λ n. is_same n name ≡ false) is other.1 in
            rw (other.1, differ) refl
      ]
  value_set (first ∷ files) (suc at) d file name apart below is =
      let rest : value_in name_of value_of none (set files at file) name ≡ cond (is_same (name_of file) name) (value_of file) (value_in name_of value_of none files name) = value_set files at d file name apart.1 (omega arith) is in
      elim (names_split (name_of file) name) [
        | inl same ↦
            let differ : is_same (name_of first) name ≡ false = is_same_false (name_of first) name (λ it. absent_at name_of (name_of first) files at d apart.0 (omega arith) (sym is ∙ same.0 ∙ sym it)) in
            rw (rest, differ, same.1) refl
        | inr other ↦ rw (rest, other.1) refl
      ]

  -- a file without a value is put behind the others
  pub value_push : (files : List E) (file : E) (name : FileName) → value_of file ≡ none → value_in name_of value_of none (files ++ file ∷ []) name ≡ value_in name_of value_of none files name
  value_push [] file name is = elim (names_split (name_of file) name) [ inl same ↦ rw same.1 is | inr other ↦ rw other.1 refl ]
  value_push (first ∷ files) file name is = ap (cond (is_same (name_of first) name) (value_of first)) (value_push files file name is)

  -- A step on the value of the file with a name, by the place of the file in the list.
  pub step_at : (name : FileName) (files : List E) (at : ℕ) (d file : E) (step : V → V) → AreApartIn name_of files → IsIndexIn name_of name files at
      → d ≡ get_or files at d → name_of file ≡ name_of d → value_of file ≡ step (value_of d)
      → (n : FileName) → value_in name_of value_of none (set files at file) n ≡ cond (is_same name n) (step (value_in name_of value_of none files n)) (value_in name_of value_of none files n)
  step_at name files at d file step apart is_at is named value n =
      let there : name_of (get_or files at d) ≡ name = is_at.1 d in
      let named' : name_of file ≡ name_of (get_or files at d) = named ∙ ap name_of is in
      let changed : value_in name_of value_of none (set files at file) n ≡ cond (is_same (name_of file) n) (value_of file) (value_in name_of value_of none files n) = value_set files at d file n apart is_at.0 named' in
      let renamed : is_same (name_of file) n ≡ is_same name n = ap (λ m. is_same m n) (named' ∙ there) in
      let old : value_in name_of value_of none files name ≡ value_of d = value_at name files at d apart is_at.0 there ∙ ap value_of (sym is) in
      changed ∙ ap (λ b. cond b (value_of file) (value_in name_of value_of none files n)) renamed ∙
      elim (names_split name n) [
        | inl same ↦ rw same.1 (value ∙ ap step (sym old ∙ ap (value_in name_of value_of none files) same.0))
        | inr other ↦ rw other.1 refl
      ]

  pub step_absent : (name : FileName) (files : List E) (step : V → V) → IsAbsentIn name_of name files → step none ≡ none
      → (n : FileName) → value_in name_of value_of none files n ≡ cond (is_same name n) (step (value_in name_of value_of none files n)) (value_in name_of value_of none files n)
  step_absent name files step absent still n =
      let empty : value_in name_of value_of none files name ≡ none = value_absent name files absent in
      elim (names_split name n) [
        | inl same ↦
            let here : value_in name_of value_of none files n ≡ none = ap (value_in name_of value_of none files) (sym same.0) ∙ empty in
            rw same.1 (here ∙ sym still ∙ ap step (sym here))
        | inr other ↦ rw other.1 refl
      ]

module _ {V : Type 0} where
  pub cond_same : (b : Bool) (value : V) → cond b value value ≡ value
  cond_same true value = refl
  cond_same false value = refl
