-- What an index keeps: the rows of each view at a sequence.
use Rattle.std.specs.Prelude.{◌≡◌, ◌≤◌, ℕ, List, [], map, length, false, Option, Some, None}
use Rattle.json_terms.specs.declared.term.Row.{Row}
use Rattle.view_ports.specs.Functions.{Functions}
use Rattle.design_docs.specs.History.{Write}
use Rattle.view_model.specs.Since.{first}
use Rattle.view_model.specs.Rows.{rows_of, spoiled, RiseStrictly}
use Rattle.design_docs.specs.declared.design.View.{View}
use Rattle.std.specs.List.{AllByRecursion}

-- the sequence, and the rows of each view
pub record Picture : Type 0 where
  pub seq : ℕ
  pub rows : List (List Row)

-- no picture counts as one of no write, without rows
abbrev pub picture_or_none : List View → Option Picture → Picture
picture_or_none views None = record { seq = 0; rows = map (λ view. []) views }
picture_or_none views (Some picture) = picture

-- the picture shows the views at its sequence, which the history has reached, and they could be answered there
pub record IsTrueOf (functions : Functions) (views : List View) (history : List Write) (picture : Picture) : Type 0 where
  pub within : picture.seq ≤ length history
  pub rows : picture.rows ≡ rows_of functions views (first picture.seq history)
  pub sound : spoiled functions views (first picture.seq history) ≡ false

-- the picture has a list of rows for each view, and each list rises strictly
pub record IsShaped (views : List View) (picture : Picture) : Type 0 where
  pub each_view : length picture.rows ≡ length views
  pub rises : AllByRecursion RiseStrictly picture.rows
