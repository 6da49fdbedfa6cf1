-- Pieces that are appended one after another.
use Rattle.std.specs.Prelude.{◌≡◌, ◌++◌, ℕ, List}
use Rattle.std.proofs.Common.{ap, ◌∙◌, append_assoc}

pub appended3 : (o a b c : List ℕ) {n m p : List ℕ} → n ≡ o ++ a → m ≡ n ++ b → p ≡ m ++ c → p ≡ o ++ (a ++ b ++ c)
appended3 o a b c first second third = third ∙ ap (λ x. x ++ c) (second ∙ ap (λ x. x ++ b) first) ∙ simp append_assoc

pub appended5 : (o a b c d e : List ℕ) {n m p q r : List ℕ} → n ≡ o ++ a → m ≡ n ++ b → p ≡ m ++ c → q ≡ p ++ d → r ≡ q ++ e
    → r ≡ o ++ (a ++ b ++ c ++ d ++ e)
appended5 o a b c d e first second third fourth fifth =
    fifth ∙ ap (λ x. x ++ e) (fourth ∙ ap (λ x. x ++ d) (third ∙ ap (λ x. x ++ c) (second ∙ ap (λ x. x ++ b) first))) ∙ simp append_assoc

pub appended7 : (o a b c d e f g : List ℕ) {n m p q r s t : List ℕ} → n ≡ o ++ a → m ≡ n ++ b → p ≡ m ++ c → q ≡ p ++ d → r ≡ q ++ e → s ≡ r ++ f → t ≡ s ++ g
    → t ≡ o ++ (a ++ b ++ c ++ d ++ e ++ f ++ g)
appended7 o a b c d e f g first second third fourth fifth sixth seventh =
    seventh ∙ ap (λ x. x ++ g) (sixth ∙ ap (λ x. x ++ f) (appended5 o a b c d e first second third fourth fifth)) ∙ simp append_assoc

pub appended9 : (o a b c d e f g h i : List ℕ) {n m p q r s t u v : List ℕ} → n ≡ o ++ a → m ≡ n ++ b → p ≡ m ++ c → q ≡ p ++ d → r ≡ q ++ e → s ≡ r ++ f → t ≡ s ++ g → u ≡ t ++ h → v ≡ u ++ i
    → v ≡ o ++ (a ++ b ++ c ++ d ++ e ++ f ++ g ++ h ++ i)
appended9 o a b c d e f g h i first second third fourth fifth sixth seventh eighth ninth =
    ninth ∙ ap (λ x. x ++ i) (eighth ∙ ap (λ x. x ++ h) (appended7 o a b c d e f g first second third fourth fifth sixth seventh)) ∙ simp append_assoc
