-- The parts of an item in bytes: what is spelled at the front is read.
use Rattle.std.proofs.Common.{◌≡◌, ℕ, List, ◌++◌, length, take, drop, ◌-◌, ◌==◌, [], ◌∷◌, Bool, true, false, Option, Some, None, Bor, refl, sym, ap, ◌∙◌, arith, length-append}
use Rattle.std.proofs.lemmas.Bool.{eqb-true}
use Rattle.std.proofs.lemmas.List.{append-nil}
use Rattle.std.proofs.Math.Seq.{take-append_seam, drop-append_seam}
use Rattle.json_terms.specs.Json.{Json}
use Rattle.json_terms.specs.Seen.{json}
use Rattle.json_terms.specs.Terms.{IsTerm}
use Rattle.json_terms.specs.declared.term.Term.{Term}
use Rattle.term_codec.specs.Spelling.{spelling, text_bytes, count_bytes}
use Rattle.term_codec.specs.SpelledAt.{IsWithin, IsSpelledAt}
use Rattle.term_codec.proofs.Words.{some-pair}
use Rattle.builtin_reduces.specs.Front.{read_of}
use Rattle.builtin_reduces.specs.Kept.{item_bytes}

minus_none : (n : ℕ) → n - 0 ≡ n
minus_none n = omega arith

-- a term that is spelled at the front
pub spelled_front : (t : Json) (bytes rest : List ℕ) → IsWithin t → IsTerm t → bytes ≡ spelling t ++ rest → IsSpelledAt t bytes 0 (length (spelling t))
spelled_front t bytes rest within typed is = record {
  term = typed;
  within = within;
  inside = omega (arith, ap length is, length-append (spelling t) rest);
  spelled = ap (λ n. take n bytes) (minus_none (length (spelling t))) ∙ ap (take (length (spelling t))) is ∙ take-append_seam (spelling t) rest;
}

-- the bytes behind it
pub behind_front : (t : Json) (bytes rest : List ℕ) (end : ℕ) → bytes ≡ spelling t ++ rest → length (spelling t) ≡ end → drop end bytes ≡ rest
behind_front t bytes rest end is long = (λ i. drop (sym long i) (is i)) ∙ drop-append_seam (spelling t) rest

-- ---- an option of a value and the bytes behind it

pub none_read : {A : Type 0} (found : Option (A × Bor (List ℕ))) (x : A) (rest : List ℕ) → found ≡ None → read_of found ≡ Some (x, rest) → ⊥
none_read {A} found x rest none is = let both : ◌≡◌ {A = Option (A × List ℕ)} None (Some (x, rest)) = sym (ap (read_of {A = A}) none) ∙ is in absurd cc

pub read_is : {A : Type 0} (found : Option (A × Bor (List ℕ))) (x : A) (behind : Bor (List ℕ)) (y : A) (rest : List ℕ) → found ≡ Some (x, behind) → read_of found ≡ Some (y, rest) → (x ≡ y) × (behind.now ≡ rest)
read_is {A} found x behind y rest some is = some-pair (x, behind.now) (y, rest) (sym (ap (read_of {A = A}) some) ∙ is)

-- ---- the parts of a row

pub no_bytes : (bytes : List ℕ) → (length bytes == 0) ≡ true → bytes ≡ []
no_bytes [] h = refl
no_bytes (byte ∷ bytes) h = absurd (omega (arith, eqb-true (length (byte ∷ bytes)) 0 h))

pub some_bytes : (bytes : List ℕ) (empty : Bool) → bytes ≡ [] → empty ≡ (length bytes == 0) → empty ≡ false → ⊥
some_bytes bytes empty is tested failed = let passed : empty ≡ true = tested ∙ ap (λ bs. length bs == 0) is in let both : true ≡ false = sym passed ∙ failed in absurd cc

pub row_read : (key value : Term) (id text : List ℕ) (place : ℕ) (bytes behind_key behind_id behind_place rest : List ℕ) → bytes ≡ spelling (json key) ++ behind_key → behind_key ≡ text_bytes text ++ behind_id → behind_id ≡ count_bytes place ++ behind_place
    → behind_place ≡ spelling (json value) ++ rest → rest ≡ [] → id ≡ text → item_bytes (record { key = key; id = id; place = place; value = value }) ≡ bytes
row_read key value id text place bytes behind_key behind_id behind_place rest of_key of_id of_place of_value none same =
    let last : behind_place ≡ spelling (json value) = of_value ∙ ap (λ bs. spelling (json value) ++ bs) none ∙ append-nil (spelling (json value)) in
    let from_place : behind_id ≡ count_bytes place ++ spelling (json value) = of_place ∙ ap (λ bs. count_bytes place ++ bs) last in
    let from_id : behind_key ≡ text_bytes id ++ (count_bytes place ++ spelling (json value)) = of_id ∙ (λ i. text_bytes (sym same i) ++ from_place i) in
    sym (of_key ∙ ap (λ bs. spelling (json key) ++ bs) from_id)
