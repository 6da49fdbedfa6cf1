-- By a built-in reduce a group has one value, and so an answer is one text.
use Rattle.std.specs.Prelude.{◌≡◌, ℕ, List}
use Rattle.std.proofs.Common.{ap, ◌∙◌}
use Rattle.json_terms.specs.declared.term.Row.{Row}
use Rattle.design_docs.specs.declared.design.Builtin.{Builtin}
use Rattle.query_args.specs.declared.query.Query.{Query}
use Rattle.tree_laws.specs.Meaning.{Meaning}
use Rattle.builtin_reduces.specs.declared.sum.BuiltinSum.{BuiltinSum}
use Rattle.builtin_reduces.specs.BuiltinMeaning.{builtin_meaning}
use Rattle.builtin_reduces.specs.Text.{sum_text}
use Rattle.view_model.specs.Answer.{IsAnswer, answer}
use Rattle.view_model.specs.Values.{builtin_text}
use Rattle.view_model.proofs.OneAnswer.{one_answer, weaker_answer}
use Rattle.range_query.specs.Summed.{IsSummedText}

module _ (kind : Builtin) (Fits : BuiltinSum → Type 0) (Lawful : Type 0) (lawful : Lawful) (m : Meaning Row BuiltinSum) (means : m ≡ builtin_meaning kind) where
  pub builtin_value : (group : List Row) (text : List ℕ) → IsSummedText sum_text Fits Lawful m group text → text ≡ builtin_text kind group
  builtin_value group text is = is.shown ∙ ap sum_text (is.is lawful ∙ ap (λ own. own.value group) means)

  pub builtin_answer : (query : Query) (seq : ℕ) (rows : List Row) (text : List ℕ) → IsAnswer (IsSummedText sum_text Fits Lawful m) query seq rows text
      → text ≡ answer (builtin_text kind) query seq rows
  builtin_answer query seq rows text is =
      one_answer (builtin_text kind) query seq rows text
      (weaker_answer (IsSummedText sum_text Fits Lawful m) (λ group own. own ≡ builtin_text kind group) builtin_value query seq rows text is)
