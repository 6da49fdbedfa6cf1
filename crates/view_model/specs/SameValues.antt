-- Values of groups whose calls change nothing.
use Rattle.std.proofs.Common.{ℕ, List, subst}
use Rattle.json_terms.specs.declared.term.Row.{Row}
use Rattle.builtin_reduces.specs.SummerLaws.{Same}
use Rattle.view_model.specs.GroupValues.{KeepsValues}

pub same_keeps_values : {A : Type 0} (IsValue : A → List Row → List ℕ → Type 0) → KeepsValues Same IsValue
same_keeps_values {A} IsValue = record {
  value = λ a b group text same h. subst (λ (x : A). IsValue x group text) same h;
}
