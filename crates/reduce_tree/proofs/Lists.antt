-- Lists taken apart.
use Rattle.std.proofs.Common.{◌≡◌, ℕ, zero, suc, List, [], ◌∷◌, ◌++◌, length, get_or, ◌<◌, remove, refl, ap, arith}

-- a list of which the first was taken
pub first_taken : {X : Type 0} (xs ys : List X) (x : X) → 0 < length xs → x ≡ get_or xs 0 x → ys ≡ remove xs 0 → xs ≡ x ∷ ys
first_taken [] ys x h e r = absurd (omega arith)
first_taken (z ∷ xs) ys x h e r = cc

pub last_taken : {X : Type 0} (xs ys : List X) (x : X) (i : ℕ) → suc i ≡ length xs → x ≡ get_or xs i x → ys ≡ remove xs i → xs ≡ ys ++ x ∷ []
last_taken [] ys x i e v r = absurd (omega arith)
last_taken (z ∷ []) ys x zero e v r = cc
last_taken (z ∷ []) ys x (suc i) e v r = absurd (omega arith)
last_taken (z ∷ w ∷ xs) ys x zero e v r = absurd (omega arith)
last_taken (z ∷ w ∷ xs) ys x (suc i) e v r =
    let k = last_taken (w ∷ xs) (remove (w ∷ xs) i) x i (omega arith) v refl in
    let r' : ys ≡ z ∷ remove (w ∷ xs) i = r in
    rw r' (ap (λ t. z ∷ t) k)

pub none_long : {X : Type 0} (xs : List X) → length xs ≡ 0 → xs ≡ []
none_long [] e = refl
none_long (x ∷ xs) e = absurd (omega arith)
