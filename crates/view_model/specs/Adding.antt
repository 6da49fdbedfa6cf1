-- What is written of a reply where it may be one of several texts.
use Rattle.std.specs.Prelude.{ℕ, List, Bool}
use Rattle.std.specs.List.{AllZip}
use Rattle.json_terms.specs.declared.term.Row.{Row}
use Rattle.raw_collation.specs.declared.group.Level.{Level}
use Rattle.query_args.specs.declared.query.Query.{Query}
use Rattle.view_ports.specs.Lines.{IsLine}
use Rattle.view_model.specs.declared.reply.Reply.{Reply}
use Rattle.view_model.specs.Answer.{IsAnswer, group_text, keyed}
use Rattle.view_model.specs.Progress.{texts_after}
use Rattle.view_model.specs.Written.{Adds}

-- a text of which this holds was written, and it is one line
pub record AddsSome (IsText : List ℕ → Type 0) (old new : Reply) : Type 0 where
  pub text : List ℕ
  pub is : IsText text
  pub adds : Adds old new text
  pub line : IsLine text

-- The answer was written, in which each value is such a text.
abbrev pub AddsAnswer : (List Row → List ℕ → Type 0) → Query → ℕ → List Row → Reply → Reply → Type 0
AddsAnswer IsValue query seq rows old new = AddsSome (IsAnswer IsValue query seq rows) old new

-- These groups were written, with a comma between any two, and before the first where something was written before; each value is such
-- a text.
pub record AddsGroups (IsValue : List Row → List ℕ → Type 0) (level : Level) (later : Bool) (groups : List (List Row)) (old new : Reply) : Type 0 where
  pub values : List (List ℕ)
  pub each : AllZip IsValue groups values
  pub adds : Adds old new (texts_after group_text later (keyed level groups values))
  pub line : IsLine (texts_after group_text later (keyed level groups values))
