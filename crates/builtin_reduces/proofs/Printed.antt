-- Numbers that are printed one by one.
use Rattle.std.specs.Prelude.{◌≡◌, ℤ, ℕ, List, ◌∷◌, ◌++◌, Bool, true, false, refl}
use Rattle.std.proofs.Common.{ap, sym, ◌∙◌, append_assoc}
use Rattle.std.specs.Fmt.{signed_decimal}
use Rattle.builtin_reduces.specs.Text.{more_numbers, numbers_text}
use Rattle.builtin_reduces.specs.Written.{comma_if}

-- with a comma before the first, if one was printed before
abbrev pub numbers_after : Bool → List ℤ → List ℕ
numbers_after true ns = more_numbers ns
numbers_after false ns = numbers_text ns

number_first : (later : Bool) (n : ℤ) (rest : List ℤ) → numbers_after later (n ∷ rest) ≡ (comma_if later ++ signed_decimal n) ++ more_numbers rest
number_first true n rest = refl
number_first false n rest = refl

-- one more number is printed, and what is left is one number less
pub one_more : (later : Bool) (n : ℤ) (left rest : List ℤ) (mid new whole : List ℕ) → left ≡ n ∷ rest → mid ++ numbers_after later left ≡ whole
    → new ≡ mid ++ (comma_if later ++ signed_decimal n) → new ++ numbers_after true rest ≡ whole
one_more later n left rest mid new whole is before added =
    ap (λ text. text ++ more_numbers rest) added ∙ append_assoc mid (comma_if later ++ signed_decimal n) (more_numbers rest)
    ∙ ap (λ text. mid ++ text) (sym (number_first later n rest)) ∙ ap (λ ns. mid ++ numbers_after later ns) (sym is) ∙ before

-- this stands behind the bytes at the start
pub record Behind (start text bytes : List ℕ) : Type 0 where
  pub is : bytes ≡ start ++ text

pub first : {start bytes : List ℕ} (piece : List ℕ) → bytes ≡ start ++ piece → Behind start piece bytes
first piece e = record { is = e }

-- one more piece
pub then : {start text mid bytes : List ℕ} (piece : List ℕ) → Behind start text mid → bytes ≡ mid ++ piece → Behind start (text ++ piece) bytes
then {start} {text} {mid} {bytes} piece b e = record { is = e ∙ ap (λ before. before ++ piece) b.is ∙ append_assoc start text piece }
