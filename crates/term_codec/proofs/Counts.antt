-- Counting parts, and that the parts of a value within the limits are so too.
use Rattle.std.proofs.Common.{◌≡◌, ◌^◌, ◌<◌, ℕ, zero, suc, List, [], ◌∷◌, ◌++◌, ◌∙◌, map, length, get_or, refl, ap, sym, subst, arith}
use Rattle.json_terms.specs.declared.term.Term.{Term}
use Rattle.json_terms.specs.declared.term.Member.{Member}
use Rattle.std.proofs.lemmas.List.{append_assoc}
use Rattle.json_terms.specs.Json.{Json, array, object, items_of, members_of}
use Rattle.json_terms.specs.Seen.{json, pair_of}
use Rattle.term_codec.specs.Spelling.{spelling, items_spelling, members_spelling, items_count, members_count, count_bytes}
use Rattle.term_codec.specs.SpelledAt.{CountsFit, ItemsFit, MembersFit}

pub items_count-items_of : (ts : List Json) → items_count (items_of ts) ≡ length ts
items_count-items_of [] = refl
items_count-items_of (t ∷ ts) = ap suc (items_count-items_of ts)

pub members_count-members_of : (ms : List (List ℕ × Json)) → members_count (members_of ms) ≡ length ms
members_count-members_of [] = refl
members_count-members_of (m ∷ ms) = ap suc (members_count-members_of ms)

-- the element at i of a slice of terms
pub CountsFit-at : (ts : List Term) (i : ℕ) (t : Term) → i < length ts → t ≡ get_or ts i t → ItemsFit (items_of (map json ts)) → CountsFit (json t)
CountsFit-at [] i t within is fit = absurd (omega arith)
CountsFit-at (x ∷ ts) zero t within is fit = subst (λ u. CountsFit (json u)) (sym is) fit.0
CountsFit-at (x ∷ ts) (suc i) t within is fit = CountsFit-at ts i t (omega arith) is fit.1

-- the member at i of a slice of members
pub MemberFits-at : (ms : List Member) (i : ℕ) (m : Member) → i < length ms → m ≡ get_or ms i m → MembersFit (members_of (map pair_of ms)) → (length m.name < 2 ^ 32) × CountsFit (json m.value)
MemberFits-at [] i m within is fit = absurd (omega arith)
MemberFits-at (x ∷ ms) zero m within is fit = subst (λ n. (length n.name < 2 ^ 32) × CountsFit (json n.value)) (sym is) (fit.0, fit.1)
MemberFits-at (x ∷ ms) (suc i) m within is fit = MemberFits-at ms i m (omega arith) is fit.2

-- the parts of an array as they are written
pub put_array : (old : List ℕ) (len : ℕ) (ts slice : List Json) → slice ≡ ts → len ≡ length ts → ((old ++ 6 ∷ []) ++ count_bytes len) ++ items_spelling (items_of slice) ≡ old ++ spelling (array (items_of ts))
put_array old len ts slice same long =
    (λ i. ((old ++ 6 ∷ []) ++ count_bytes (long i)) ++ items_spelling (items_of (same i)))
    ∙ ap (λ n. ((old ++ 6 ∷ []) ++ count_bytes n) ++ items_spelling (items_of ts)) (sym (items_count-items_of ts))
    ∙ append_assoc (old ++ 6 ∷ []) (count_bytes (items_count (items_of ts))) (items_spelling (items_of ts))
    ∙ append_assoc old (6 ∷ []) (count_bytes (items_count (items_of ts)) ++ items_spelling (items_of ts))

-- the parts of an object as they are written
pub put_object : (old : List ℕ) (len : ℕ) (ms slice : List (List ℕ × Json)) → slice ≡ ms → len ≡ length ms → ((old ++ 5 ∷ []) ++ count_bytes len) ++ members_spelling (members_of slice) ≡ old ++ spelling (object (members_of ms))
put_object old len ms slice same long =
    (λ i. ((old ++ 5 ∷ []) ++ count_bytes (long i)) ++ members_spelling (members_of (same i)))
    ∙ ap (λ n. ((old ++ 5 ∷ []) ++ count_bytes n) ++ members_spelling (members_of ms)) (sym (members_count-members_of ms))
    ∙ append_assoc (old ++ 5 ∷ []) (count_bytes (members_count (members_of ms))) (members_spelling (members_of ms))
    ∙ append_assoc old (5 ∷ []) (count_bytes (members_count (members_of ms)) ++ members_spelling (members_of ms))
