-- Setting the last write of an id among the entries.
use Rattle.std.proofs.Common.{◌≡◌, ◌⊎◌, inl, inr, ℕ, ◌+◌, ◌≤◌, List, [], ◌∷◌, length, Option, Some, Ordering, Less, Equal, Greater, nat_cmp, is_eq, refl, sym, ap, ◌∙◌, subst, arith}
use Rattle.std.specs.Prelude.{Bool, true, false, bytes_eq, cond}
use Rattle.std.specs.List.{list_all}
use Rattle.std.specs.Cmp.{first_so, second_so}
use Rattle.std.specs.Ordering.{match_ordering}
use Rattle.std.specs.Cmp.Lexicographic.{slice_cmp}
use Rattle.design_docs.proofs.Ids.{bool_cases, equal_id, greater_differs, same_id, turned}
use Rattle.doc_file.specs.declared.entry.LastWrite.{LastWrite}
use Rattle.doc_file.specs.declared.entry.Entry.{Entry}
use Rattle.doc_file.specs.Record.{IsEntry, AreEntries, ComesBefore}
use Rattle.doc_file.specs.Held.{find_last}
use Rattle.doc_file.specs.Stored.{entry_of, with_last}

-- ---- what is found of an id

abbrev found_of : List ℕ → List ℕ → LastWrite → List Entry → Option LastWrite
found_of other id last entries = cond (bytes_eq other id) (Some last) (find_last other entries)

found_match : (o : Ordering) (other id : List ℕ) (last : LastWrite) (e : Entry) (es : List Entry) → slice_cmp nat_cmp id e.id ≡ o
    → find_last other (with_last id last es) ≡ found_of other id last es
    → find_last other (match_ordering o (entry_of id last ∷ e ∷ es) (entry_of id last ∷ es) (e ∷ with_last id last es)) ≡ found_of other id last (e ∷ es)
found_match Less other id last e es is rest = refl
found_match Equal other id last e es is rest =
    let same = equal_id id e.id is in
    by_cases (bool_cases (bytes_eq other id))
  where
    by_cases : (bytes_eq other id ≡ true) ⊎ (bytes_eq other id ≡ false) → cond (bytes_eq other id) (Some last) (find_last other es) ≡ cond (bytes_eq other id) (Some last) (cond (bytes_eq other e.id) (Some e.last) (find_last other es))
    by_cases (inl yes_there) = rw (yes_there) refl
    by_cases (inr no_there) =
        let there : bytes_eq other e.id ≡ false = ap (bytes_eq other) (sym (equal_id id e.id is)) ∙ no_there in
        rw (no_there, there) refl
found_match Greater other id last e es is rest = by_cases (bool_cases (bytes_eq other e.id))
  where
    by_cases : (bytes_eq other e.id ≡ true) ⊎ (bytes_eq other e.id ≡ false)
        → cond (bytes_eq other e.id) (Some e.last) (find_last other (with_last id last es)) ≡ cond (bytes_eq other id) (Some last) (cond (bytes_eq other e.id) (Some e.last) (find_last other es))
    by_cases (inl here) = elim (bool_cases (bytes_eq other id)) [
      | inl clash ↦ absurd (greater_differs id e.id is (sym (same_id other id clash) ∙ same_id other e.id here))
      | inr differs ↦ rw (here, differs) refl
    ]
    by_cases (inr there) = rw (there) rest

pub find_last-with_last : (other id : List ℕ) (last : LastWrite) (entries : List Entry) → find_last other (with_last id last entries) ≡ cond (bytes_eq other id) (Some last) (find_last other entries)
find_last-with_last other id last [] = refl
find_last-with_last other id last (e ∷ es) = found_match (slice_cmp nat_cmp id e.id) other id last e es refl (find_last-with_last other id last es)

-- ---- the ids still rise

before_match : (id : List ℕ) (o : Ordering) (a b c : List Entry) → ComesBefore id a → ComesBefore id b → ComesBefore id c → ComesBefore id (match_ordering o a b c)
before_match id Less a b c p q r = p
before_match id Equal a b c p q r = q
before_match id Greater a b c p q r = r

before_with_last : (first id : List ℕ) (last : LastWrite) (es : List Entry) → slice_cmp nat_cmp first id ≡ Less → ComesBefore first es → ComesBefore first (with_last id last es)
before_with_last first id last [] less before = less
before_with_last first id last (e ∷ es) less before =
    before_match first (slice_cmp nat_cmp id e.id) (entry_of id last ∷ e ∷ es) (entry_of id last ∷ es) (e ∷ with_last id last es) less less before

entries_match : (o : Ordering) (id : List ℕ) (last : LastWrite) (e : Entry) (es : List Entry) → slice_cmp nat_cmp id e.id ≡ o → IsEntry (entry_of id last) → AreEntries (e ∷ es) → AreEntries (with_last id last es)
    → AreEntries (match_ordering o (entry_of id last ∷ e ∷ es) (entry_of id last ∷ es) (e ∷ with_last id last es))
entries_match Less id last e es is new all rest = (new, is, all)
entries_match Equal id last e es is new all rest = (new, subst (λ name. ComesBefore name es) (sym (equal_id id e.id is)) all.1, all.2)
entries_match Greater id last e es is new all rest = (all.0, before_with_last e.id id last es (turned id e.id is) all.1, rest)

pub AreEntries-with_last : (id : List ℕ) (last : LastWrite) (entries : List Entry) → IsEntry (entry_of id last) → AreEntries entries → AreEntries (with_last id last entries)
AreEntries-with_last id last [] new all = (new, tt, tt)
AreEntries-with_last id last (e ∷ es) new all = entries_match (slice_cmp nat_cmp id e.id) id last e es refl new all (AreEntries-with_last id last es new all.2)

length_match : (o : Ordering) (id : List ℕ) (last : LastWrite) (e : Entry) (es : List Entry) → length (with_last id last es) ≤ length es + 1
    → length (match_ordering o (entry_of id last ∷ e ∷ es) (entry_of id last ∷ es) (e ∷ with_last id last es)) ≤ length (e ∷ es) + 1
length_match Less id last e es rest = omega arith
length_match Equal id last e es rest = omega arith
length_match Greater id last e es rest = omega arith

pub length-with_last : (id : List ℕ) (last : LastWrite) (entries : List Entry) → length (with_last id last entries) ≤ length entries + 1
length-with_last id last [] = omega arith
length-with_last id last (e ∷ es) = length_match (slice_cmp nat_cmp id e.id) id last e es (length-with_last id last es)

-- ---- a test that each entry passes

all_match : (p : Entry → Bool) (o : Ordering) (id : List ℕ) (last : LastWrite) (e : Entry) (es : List Entry) → p (entry_of id last) ≡ true → list_all p (e ∷ es) ≡ true → list_all p (with_last id last es) ≡ true
    → list_all p (match_ordering o (entry_of id last ∷ e ∷ es) (entry_of id last ∷ es) (e ∷ with_last id last es)) ≡ true
all_match p Less id last e es new all rest = rw new all
all_match p Equal id last e es new all rest = rw new (second_so (p e) (list_all p es) all)
all_match p Greater id last e es new all rest = rw (first_so (p e) (list_all p es) all) rest

pub list_all-with_last : (p : Entry → Bool) (id : List ℕ) (last : LastWrite) (entries : List Entry) → p (entry_of id last) ≡ true → list_all p entries ≡ true → list_all p (with_last id last entries) ≡ true
list_all-with_last p id last [] new all = rw new refl
list_all-with_last p id last (e ∷ es) new all =
    all_match p (slice_cmp nat_cmp id e.id) id last e es new all (list_all-with_last p id last es new (second_so (p e) (list_all p es) all))

pub list_all-weaker : (p q : Entry → Bool) (entries : List Entry) → ((e : Entry) → p e ≡ true → q e ≡ true) → list_all p entries ≡ true → list_all q entries ≡ true
list_all-weaker p q [] then all = refl
list_all-weaker p q (e ∷ es) then all = rw (then e (first_so (p e) (list_all p es) all)) (list_all-weaker p q es then (second_so (p e) (list_all p es) all))

passes_match : (p : Entry → Bool) (id : List ℕ) (last : LastWrite) (e : Entry) (es : List Entry) → (bytes_eq id e.id ≡ true) ⊎ (bytes_eq id e.id ≡ false) → find_last id (e ∷ es) ≡ Some last → list_all p (e ∷ es) ≡ true
    → (find_last id es ≡ Some last → p (entry_of id last) ≡ true) → p (entry_of id last) ≡ true
passes_match p id last e es (inl here) is all rest =
    let found : Some e.last ≡ Some last = sym (rw here refl) ∙ is in
    let last_is : e.last ≡ last = cc in
    let entry_is : e ≡ entry_of id last = λ i. record { id = sym (same_id id e.id here) i; last = last_is i } in
    subst (λ x. p x ≡ true) entry_is (first_so (p e) (list_all p es) all)
passes_match p id last e es (inr there) is all rest = rest (sym (rw there refl) ∙ is)

-- what is found passes it
pub passes : (p : Entry → Bool) (id : List ℕ) (last : LastWrite) (entries : List Entry) → find_last id entries ≡ Some last → list_all p entries ≡ true → p (entry_of id last) ≡ true
passes p id last [] is all = absurd (let clash : ⊥ = cc in clash)
passes p id last (e ∷ es) is all =
    passes_match p id last e es (bool_cases (bytes_eq id e.id)) is all (λ found. passes p id last es found (second_so (p e) (list_all p es) all))
