-- Lists taken apart, and what tests say of numbers.
use Rattle.std.specs.Prelude.{IsOk, is_ok, if◌then◌else◌}
use Rattle.std.proofs.Common.{◌≡◌, ◌↔◌, ◌==◌, ◌-◌, ℕ, zero, suc, Bool, true, false, Result, Ok, Err, List, [], ◌∷◌, length, get_or, ◌<◌, remove, refl, arith}
use Rattle.std.proofs.lemmas.Bool.Decides.{nat_tests}

pub first_taken : {X : Type 0} (xs ys : List X) (x : X) → 0 < length xs → x ≡ get_or xs 0 x → ys ≡ remove xs 0 → xs ≡ x ∷ ys
first_taken [] ys x h e r = absurd (omega arith)
first_taken (z ∷ xs) ys x h e r = cc

pub none_long : {X : Type 0} (xs : List X) → length xs ≡ 0 → xs ≡ []
none_long [] e = refl
none_long (x ∷ xs) e = absurd (omega arith)

pub level_above : (level : ℕ) → false ≡ (level == 0) → level ≡ suc (level - 1)
level_above zero e = absurd (cc)
level_above (suc level) e = omega arith

pub none_from_test : (n : ℕ) (b : Bool) → b ≡ (n == 0) → b ≡ true → n ≡ 0
none_from_test n b e h = grind (arith, nat_tests)

pub level_of_leaves : (level : ℕ) → true ≡ (level == 0) → level ≡ 0
level_of_leaves level e = none_from_test level true e refl

pub some_from_test : (n : ℕ) (b : Bool) → b ≡ (n == 0) → b ≡ false → 0 < n
some_from_test n b e h = grind (arith, nat_tests)

pub false_unless : (b : Bool) → (b ≡ true → ⊥) → b ≡ false
false_unless true h = absurd (h refl)
false_unless false h = refl

pub some_height : (h n : ℕ) → ((h ≡ 0) ↔ (n ≡ 0)) → 0 < n → 0 < h
some_height zero n e some = absurd (omega (arith, e.0 refl, some))
some_height (suc h) n e some = omega arith

-- what a call that can't fail leaves
pub taken_ok : {A E : Type 0} {X : Type 0} (result : Result A E) (new done undone : X) → IsOk result → new ≡ (if is_ok result then done else undone) → new ≡ done
taken_ok (Ok value) new done undone h e = e
taken_ok (Err fault) new done undone h e = let b : false ≡ true = h in absurd (cc)
