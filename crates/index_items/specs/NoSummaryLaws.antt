-- The laws of a summer of nothing.
use Rattle.std.proofs.Common.{◌≡◌, ◌≤◌, ◌↔◌, length, refl, sym, ap, ◌∙◌, subst, arith}
use Rattle.tree_laws.specs.Meaning.{Meaning, AreSteps, KeepsMeaning, sum_limit}
use Rattle.tree_laws.specs.Spelled.{IsSpelledOnce}
use Rattle.index_items.specs.NoSummary.{no_bytes}

-- ---- calls that change nothing

abbrev pub Same : {A : Type 0} → A → A → Type 0
Same a b = b ≡ a

pub same_are_steps : {A : Type 0} → AreSteps {A = A} Same
same_are_steps = record { none = λ a. refl; both = λ a b c first second. second ∙ first }

pub same_keeps : {A T S : Type 0} (means : A → Meaning T S) (Lawful Usable : A → Type 0) (Fits : A → S → Type 0) → KeepsMeaning Same means Lawful Usable Fits
same_keeps {A} means Lawful Usable Fits = record {
  meaning = λ a b same. ap means same;
  lawful = λ a b same h. subst Lawful (sym same) h;
  usable = λ a b same h. subst Usable same h;
  fits = λ a b sum same. let P : A → Type 0 = λ x. Fits a sum ↔ Fits x sum in subst P (sym same) (λ h. h, λ h. h);
}

-- ---- the one value

pub one_value : IsSpelledOnce (λ (sum : Unit {0}). Unit {0}) no_bytes
one_value x y fx fy same = refl

pub value_is_short : (sum : Unit {0}) → Unit {0} → length (no_bytes sum) ≤ sum_limit
value_is_short sum fits = omega arith
