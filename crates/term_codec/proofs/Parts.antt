-- The steps of reading parts one after another.
use Rattle.std.proofs.Common.{◌≡◌, ◌<◌, ◌≤◌, ℕ, suc, List, [], ◌∷◌, ◌++◌, length, cond, nat_le, Option, Some, None, option_map, option_and_then, ap, ◌∙◌, arith}
use Rattle.std.proofs.lemmas.Bool.{cond-true, le-leb, leb-true}
use Rattle.json_terms.specs.Json.{Json, array, object, items_of, members_of}
use Rattle.term_codec.specs.Reading.{Reader, count_in, text_in, follows, items_from, array_of_count, array_in, member_after, members_from, object_of_count, object_in}
use Rattle.term_codec.proofs.Words.{cond_none}

pub array_in-none : (one : Reader) (bytes : List ℕ) → count_in bytes ≡ None → array_in one bytes ≡ None
unfolding array_in
array_in-none one bytes h = ap (option_and_then (λ (r : ℕ × List ℕ). array_of_count one r.0 r.1)) h

pub array_in-count : (one : Reader) (bytes : List ℕ) (n : ℕ) (rest : List ℕ) → count_in bytes ≡ Some (n, rest) → array_in one bytes ≡ array_of_count one n rest
unfolding array_in
array_in-count one bytes n rest h = ap (option_and_then (λ (r : ℕ × List ℕ). array_of_count one r.0 r.1)) h

pub object_in-none : (one : Reader) (bytes : List ℕ) → count_in bytes ≡ None → object_in one bytes ≡ None
unfolding object_in
object_in-none one bytes h = ap (option_and_then (λ (r : ℕ × List ℕ). object_of_count one r.0 r.1)) h

pub object_in-count : (one : Reader) (bytes : List ℕ) (n : ℕ) (rest : List ℕ) → count_in bytes ≡ Some (n, rest) → object_in one bytes ≡ object_of_count one n rest
unfolding object_in
object_in-count one bytes n rest h = ap (option_and_then (λ (r : ℕ × List ℕ). object_of_count one r.0 r.1)) h

pub array_of_count-short : (one : Reader) (n : ℕ) (bytes : List ℕ) → length bytes < n → array_of_count one n bytes ≡ None
array_of_count-short one n bytes short =
    ap (option_map (λ (r : List Json × List ℕ). (array (items_of r.0), r.1))) (cond_none (nat_le n (length bytes)) (items_from one [] n bytes) (λ h. let within = leb-true n (length bytes) h in omega arith))

pub object_of_count-short : (one : Reader) (n : ℕ) (bytes : List ℕ) → length bytes < n → object_of_count one n bytes ≡ None
object_of_count-short one n bytes short =
    ap (option_map (λ (r : List (List ℕ × Json) × List ℕ). (object (members_of r.0), r.1))) (cond_none (nat_le n (length bytes)) (members_from one [] n bytes) (λ h. let within = leb-true n (length bytes) h in omega arith))

pub array_of_count-is : (one : Reader) (n : ℕ) (bytes : List ℕ) (all : Option (List Json × List ℕ)) → n ≤ length bytes → items_from one [] n bytes ≡ all
    → array_of_count one n bytes ≡ option_map (λ (r : List Json × List ℕ). (array (items_of r.0), r.1)) all
array_of_count-is one n bytes all within is =
    ap (option_map (λ (r : List Json × List ℕ). (array (items_of r.0), r.1))) (cond-true (nat_le n (length bytes)) (items_from one [] n bytes) None (le-leb n (length bytes) within) ∙ is)

pub object_of_count-is : (one : Reader) (n : ℕ) (bytes : List ℕ) (all : Option (List (List ℕ × Json) × List ℕ)) → n ≤ length bytes → members_from one [] n bytes ≡ all
    → object_of_count one n bytes ≡ option_map (λ (r : List (List ℕ × Json) × List ℕ). (object (members_of r.0), r.1)) all
object_of_count-is one n bytes all within is =
    ap (option_map (λ (r : List (List ℕ × Json) × List ℕ). (object (members_of r.0), r.1))) (cond-true (nat_le n (length bytes)) (members_from one [] n bytes) None (le-leb n (length bytes) within) ∙ is)

pub items_from-next : (one : Reader) (done : List Json) (n k : ℕ) (bytes : List ℕ) (t : Json) (behind : List ℕ) → n ≡ suc k → one bytes ≡ Some (t, behind) → items_from one done n bytes ≡ items_from one (done ++ t ∷ []) k behind
items_from-next one done n k bytes t behind more is =
    ap (λ m. items_from one done m bytes) more ∙ ap (option_and_then (λ (r : Json × List ℕ). items_from one (done ++ r.0 ∷ []) k r.1)) is

pub items_from-none : (one : Reader) (done : List Json) (n k : ℕ) (bytes : List ℕ) → n ≡ suc k → one bytes ≡ None → items_from one done n bytes ≡ None
items_from-none one done n k bytes more is =
    ap (λ m. items_from one done m bytes) more ∙ ap (option_and_then (λ (r : Json × List ℕ). items_from one (done ++ r.0 ∷ []) k r.1)) is

pub items_from-end : (one : Reader) (done : List Json) (n : ℕ) (bytes : List ℕ) → n ≡ 0 → items_from one done n bytes ≡ Some (done, bytes)
items_from-end one done n bytes end = ap (λ m. items_from one done m bytes) end

pub members_from-next : (one : Reader) (done : List (List ℕ × Json)) (n k : ℕ) (bytes : List ℕ) (m : List ℕ × Json) (behind : List ℕ) → n ≡ suc k → member_after one done bytes ≡ Some (m, behind)
    → members_from one done n bytes ≡ members_from one (done ++ m ∷ []) k behind
members_from-next one done n k bytes m behind more is =
    ap (λ j. members_from one done j bytes) more ∙ ap (option_and_then (λ (r : (List ℕ × Json) × List ℕ). members_from one (done ++ r.0 ∷ []) k r.1)) is

pub members_from-none : (one : Reader) (done : List (List ℕ × Json)) (n k : ℕ) (bytes : List ℕ) → n ≡ suc k → member_after one done bytes ≡ None → members_from one done n bytes ≡ None
members_from-none one done n k bytes more is =
    ap (λ j. members_from one done j bytes) more ∙ ap (option_and_then (λ (r : (List ℕ × Json) × List ℕ). members_from one (done ++ r.0 ∷ []) k r.1)) is

pub members_from-end : (one : Reader) (done : List (List ℕ × Json)) (n : ℕ) (bytes : List ℕ) → n ≡ 0 → members_from one done n bytes ≡ Some (done, bytes)
members_from-end one done n bytes end = ap (λ m. members_from one done m bytes) end

pub member_after-no_name : (one : Reader) (done : List (List ℕ × Json)) (bytes : List ℕ) → text_in bytes ≡ None → member_after one done bytes ≡ None
member_after-no_name one done bytes h = ap (option_and_then (λ (r : List ℕ × List ℕ). cond (follows r.0 done) (option_map (λ v. ((r.0, v.0), v.1)) (one r.1)) None)) h

pub member_after-name : (one : Reader) (done : List (List ℕ × Json)) (bytes name behind : List ℕ) → text_in bytes ≡ Some (name, behind)
    → member_after one done bytes ≡ cond (follows name done) (option_map (λ (v : Json × List ℕ). ((name, v.0), v.1)) (one behind)) None
member_after-name one done bytes name behind h = ap (option_and_then (λ (r : List ℕ × List ℕ). cond (follows r.0 done) (option_map (λ v. ((r.0, v.0), v.1)) (one r.1)) None)) h
