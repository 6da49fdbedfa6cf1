-- What a trait of the values of groups promises.
use Rattle.std.specs.Prelude.{ℕ, List}
use Rattle.json_terms.specs.declared.term.Row.{Row}
use Rattle.view_model.specs.declared.group_values.AnswerFault.{AnswerFault}
use Rattle.view_model.specs.declared.group_values.AnswerFault.TheVariants.{Values, NoMemory}

-- a fault of the values has its cause; where memory ran out elsewhere, all values that were asked for until then were had
abbrev pub IsCaused : {F : Type 0} → Type 0 → (F → Type 0) → AnswerFault F → Type 0
IsCaused Goes Fails (Values fault) = Fails fault
IsCaused Goes Fails NoMemory = Goes

-- a text that may be the value of rows after a step may be it before
pub record KeepsValues {A : Type 0} (Goes : A → A → Type 0) (IsValue : A → List Row → List ℕ → Type 0) : Type 0 where
  pub value : (a b : A) (group : List Row) (text : List ℕ) → Goes a b → IsValue b group text → IsValue a group text
