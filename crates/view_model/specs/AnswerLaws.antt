-- The laws of answers.
use Rattle.std.specs.Prelude.{◌≡◌, ℕ, List}
use Rattle.json_terms.specs.declared.term.Row.{Row}
use Rattle.query_args.specs.declared.query.Query.{Query}
use Rattle.view_model.specs.Answer.{answer, IsAnswer}

-- where the value of each group is one text, so is an answer
abbrev pub IsOneAnswer : Type 0
IsOneAnswer =
    (value : List Row → List ℕ) (query : Query) (seq : ℕ) (rows : List Row) (text : List ℕ) → IsAnswer (λ group own. own ≡ value group) query seq rows text
    → text ≡ answer value query seq rows

-- and there is one
abbrev pub HasAnswer : Type 0
HasAnswer = (value : List Row → List ℕ) (query : Query) (seq : ℕ) (rows : List Row) → IsAnswer (λ group own. own ≡ value group) query seq rows (answer value query seq rows)
