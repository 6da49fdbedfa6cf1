-- Ids compared.
use Rattle.std.proofs.Common.{◌≡◌, ◌⊎◌, inl, inr, ℕ, List, Less, Equal, Greater, nat_cmp, is_eq, refl, sym, ap, ◌∙◌}
use Rattle.std.specs.Prelude.{Bool, true, false, bytes_eq}
use Rattle.std.specs.Ordering.{ordering_reverse}
use Rattle.std.specs.Cmp.Lexicographic.{slice_cmp}
use Rattle.std.proofs.lemmas.Cmp.{nat_list_cmp_total}
use Rattle.std.proofs.lemmas.Map.Text.{is_eq-slice_cmp}
use Rattle.std.proofs.lemmas.Slice.Eq.{bytes_eq-Decides}

pub same_id : (a b : List ℕ) → bytes_eq a b ≡ true → a ≡ b
same_id a b is = (bytes_eq-Decides a b).0 is

pub bytes_eq-same : (a : List ℕ) → bytes_eq a a ≡ true
bytes_eq-same a = (bytes_eq-Decides a a).1 refl

pub equal_id : (a b : List ℕ) → slice_cmp nat_cmp a b ≡ Equal → a ≡ b
equal_id a b equal = same_id a b (sym (is_eq-slice_cmp a b) ∙ ap is_eq equal)

-- an id that is greater is another
pub greater_differs : (a b : List ℕ) → slice_cmp nat_cmp a b ≡ Greater → a ≡ b → ⊥
greater_differs a b greater same =
    let equal : bytes_eq a b ≡ true = ap (bytes_eq a) (sym same) ∙ bytes_eq-same a in
    let test : is_eq (slice_cmp nat_cmp a b) ≡ true = is_eq-slice_cmp a b ∙ equal in
    let other : is_eq (slice_cmp nat_cmp a b) ≡ false = ap is_eq greater in
    let clash : ⊥ = cc in clash

pub turned : (a b : List ℕ) → slice_cmp nat_cmp a b ≡ Greater → slice_cmp nat_cmp b a ≡ Less
turned a b greater = nat_list_cmp_total.antisymm b a ∙ ap ordering_reverse greater

pub bool_cases : (b : Bool) → (b ≡ true) ⊎ (b ≡ false)
bool_cases true = inl refl
bool_cases false = inr refl
