-- Entries whose ids rise strictly.
use Rattle.std.proofs.Common.{◌≡◌, inl, inr, ℕ, List, [], ◌∷◌, get_or, Some, Ordering, Less, Equal, Greater, nat_cmp, is_eq, refl, ap, ◌∙◌}
use Rattle.std.specs.Prelude.{true, false, bytes_eq, All}
use Rattle.std.specs.Cmp.{first_so, second_so}
use Rattle.std.specs.Cmp.Lexicographic.{slice_cmp}
use Rattle.std.specs.List.{list_all}
use Rattle.std.specs.Ordering.{is_lt, match_ordering}
use Rattle.std.proofs.lemmas.Bool.{and_from}
use Rattle.std.proofs.lemmas.Cmp.{nat_list_cmp_total}
use Rattle.std.proofs.lemmas.List.Elements.{All-cons, All-nil}
use Rattle.std.proofs.lemmas.List.Sums.{AllPass-from_list_all}
use Rattle.std.proofs.lemmas.Map.Text.{is_eq-slice_cmp}
use Rattle.doc_file.specs.declared.entry.LastWrite.{LastWrite}
use Rattle.doc_file.specs.declared.entry.Entry.{Entry}
use Rattle.doc_file.specs.Held.{find_last}
use Rattle.doc_file.specs.Record.{precedes, rise, AreEntries, ComesBefore}
use Rattle.doc_file.specs.Stored.{entry_of, with_last}
use Rattle.doc_file.proofs.Entries.{is_lt-Less}
use Rattle.design_docs.proofs.Ids.{bool_cases, bytes_eq-same, equal_id, same_id, turned}
use Rattle.doc_file.proofs.Setting.{list_all-weaker, list_all-with_last}

-- an id below another is below all that the other is below
precedes_too : (id other : List ℕ) (es : List Entry) → slice_cmp nat_cmp id other ≡ Less → list_all (precedes other) es ≡ true → list_all (precedes id) es ≡ true
precedes_too id other es less all = list_all-weaker (precedes other) (precedes id) es (λ e is. ap is_lt (nat_list_cmp_total.trans id other e.id less (is_lt-Less (slice_cmp nat_cmp other e.id) is))) all

precedes_all : (id : List ℕ) (es : List Entry) → ComesBefore id es → AreEntries es → list_all (precedes id) es ≡ true
precedes_all id [] before are = refl
precedes_all id (e ∷ es) before are = and_from (precedes id e) (list_all (precedes id) es) (ap is_lt before) (precedes_too id e.id es before (precedes_all e.id es are.1 are.2))

pub rise_of_entries : (es : List Entry) → AreEntries es → rise es ≡ true
rise_of_entries [] are = refl
rise_of_entries (e ∷ es) are = and_from (list_all (precedes e.id) es) (rise es) (precedes_all e.id es are.1 are.2) (rise_of_entries es are.2)

-- ---- setting one

rise_match : (o : Ordering) (id : List ℕ) (last : LastWrite) (e : Entry) (es : List Entry) → slice_cmp nat_cmp id e.id ≡ o → rise (e ∷ es) ≡ true → rise (with_last id last es) ≡ true
    → rise (match_ordering o (entry_of id last ∷ e ∷ es) (entry_of id last ∷ es) (e ∷ with_last id last es)) ≡ true
rise_match Less id last e es is all rest =
    and_from (list_all (precedes id) (e ∷ es)) (rise (e ∷ es))
    (and_from (precedes id e) (list_all (precedes id) es) (ap is_lt is) (precedes_too id e.id es is (first_so (list_all (precedes e.id) es) (rise es) all))) all
rise_match Equal id last e es is all rest = ap (λ i. rise (entry_of i last ∷ es)) (equal_id id e.id is) ∙ all
rise_match Greater id last e es is all rest =
    and_from (list_all (precedes e.id) (with_last id last es)) (rise (with_last id last es))
    (list_all-with_last (precedes e.id) id last es (ap is_lt (turned id e.id is)) (first_so (list_all (precedes e.id) es) (rise es) all)) rest

pub rise-with_last : (id : List ℕ) (last : LastWrite) (es : List Entry) → rise es ≡ true → rise (with_last id last es) ≡ true
rise-with_last id last [] all = refl
rise-with_last id last (e ∷ es) all = rise_match (slice_cmp nat_cmp id e.id) id last e es refl all (rise-with_last id last es (second_so (list_all (precedes e.id) es) (rise es) all))

-- ---- an entry is what is found of its id

less_differs : (a b : List ℕ) → slice_cmp nat_cmp a b ≡ Less → bytes_eq b a ≡ false
less_differs a b less = elim (bool_cases (bytes_eq b a)) [
  | inl same ↦
      let back : bytes_eq a b ≡ true = ap (bytes_eq a) (same_id b a same) ∙ bytes_eq-same a in
      let test = is_eq-slice_cmp a b in
      absurd (let clash : ⊥ = cc (ap is_eq less) in clash)
  | inr is ↦ is
]

pub found_of_rise : (es : List Entry) → rise es ≡ true → All (λ (e : Entry). find_last e.id es ≡ Some e.last) es
found_of_rise [] all = All-nil (λ (e : Entry). find_last e.id [] ≡ Some e.last)
found_of_rise (e ∷ es) all =
    All-cons (λ (x : Entry). find_last x.id (e ∷ es) ≡ Some x.last) e es (rw (bytes_eq-same e.id) refl)
    (λ k d in'.
    let above : precedes e.id (get_or es k d) ≡ true = AllPass-from_list_all (precedes e.id) es (first_so (list_all (precedes e.id) es) (rise es) all) k d in' in
    let differs = less_differs e.id (get_or es k d).id (is_lt-Less (slice_cmp nat_cmp e.id (get_or es k d).id) above) in
    rw differs (found_of_rise es (second_so (list_all (precedes e.id) es) (rise es) all) k d in'))
