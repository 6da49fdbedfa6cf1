-- The steps of reading entries one after another, and of writing them.
use Rattle.std.proofs.Common.{◌≡◌, ◌+◌, ◌-◌, ◌<◌, ◌≤◌, ◌^◌, ℕ, zero, suc, List, [], ◌∷◌, ◌++◌, length, cond, nat_le, nat_eq, Option, Some, None, option_and_then, slice_get, get_or, nat_cmp, ap, sym, ◌∙◌, subst, arith}
use Rattle.std.proofs.lemmas.Bool.{cond-true, le-leb}
use Rattle.std.specs.Ordering.{is_lt}
use Rattle.std.specs.Cmp.Lexicographic.{slice_cmp}
use Rattle.doc_file.specs.declared.entry.Entry.{Entry}
use Rattle.doc_file.specs.Record.{IdsFit}
use Rattle.doc_file.specs.Reading.{follows, entry_after, entries_from, whole_entries}

pub entries_from-next : (done : List Entry) (n k : ℕ) (bytes : List ℕ) (e : Entry) (behind : List ℕ) → n ≡ suc k → entry_after done bytes ≡ Some (e, behind) → entries_from done n bytes ≡ entries_from (done ++ e ∷ []) k behind
entries_from-next done n k bytes e behind more is =
    ap (λ j. entries_from done j bytes) more ∙ ap (option_and_then (λ (r : Entry × List ℕ). entries_from (done ++ r.0 ∷ []) k r.1)) is

pub entries_from-none : (done : List Entry) (n k : ℕ) (bytes : List ℕ) → n ≡ suc k → entry_after done bytes ≡ None → entries_from done n bytes ≡ None
entries_from-none done n k bytes more is =
    ap (λ j. entries_from done j bytes) more ∙ ap (option_and_then (λ (r : Entry × List ℕ). entries_from (done ++ r.0 ∷ []) k r.1)) is

pub entries_from-end : (done : List Entry) (n : ℕ) (bytes : List ℕ) → n ≡ 0 → entries_from done n bytes ≡ Some (done, bytes)
entries_from-end done n bytes end = ap (λ j. entries_from done j bytes) end

follows-at : (es : List Entry) (k : ℕ) (e : Entry) (id : List ℕ) → length es ≡ suc k → slice_get es k ≡ Some e → follows id es ≡ is_lt (slice_cmp nat_cmp e.id id)
follows-at [] k e id long h = absurd (omega arith)
follows-at (x ∷ []) zero e id long h = let same : x ≡ e = cc in ap (λ y. is_lt (slice_cmp nat_cmp y.id id)) same
follows-at (x ∷ []) (suc k) e id long h = absurd (omega arith)
follows-at (x ∷ y ∷ es) zero e id long h = absurd (omega arith)
follows-at (x ∷ y ∷ es) (suc k) e id long h = follows-at (y ∷ es) k e id (omega arith) h

pub follows-last : (es : List Entry) (e : Entry) (id : List ℕ) → slice_get es (length es - 1) ≡ Some e → follows id es ≡ is_lt (slice_cmp nat_cmp e.id id)
follows-last [] e id h = absurd cc
follows-last (x ∷ es) e id h = follows-at (x ∷ es) (length (x ∷ es) - 1) e id (omega arith) h

pub IdsFit-at : (es : List Entry) (i : ℕ) (e : Entry) → i < length es → e ≡ get_or es i e → IdsFit es → length e.id + 33 < 2 ^ 32
IdsFit-at [] i e within is fit = absurd (omega arith)
IdsFit-at (x ∷ es) zero e within is fit = subst (λ y. length y.id + 33 < 2 ^ 32) (sym is) fit.0
IdsFit-at (x ∷ es) (suc i) e within is fit = IdsFit-at es i e (omega arith) is fit.1

pub whole_entries-is : (n : ℕ) (bytes : List ℕ) (all : Option (List Entry × List ℕ)) → n ≤ length bytes → entries_from [] n bytes ≡ all
    → whole_entries n bytes ≡ option_and_then (λ (r : List Entry × List ℕ). cond (nat_eq (length r.1) 0) (Some r.0) None) all
whole_entries-is n bytes all within is =
    cond-true (nat_le n (length bytes)) (option_and_then (λ (r : List Entry × List ℕ). cond (nat_eq (length r.1) 0) (Some r.0) None) (entries_from [] n bytes)) None (le-leb n (length bytes) within)
    ∙ ap (option_and_then (λ (r : List Entry × List ℕ). cond (nat_eq (length r.1) 0) (Some r.0) None)) is
