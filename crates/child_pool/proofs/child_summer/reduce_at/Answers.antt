-- The reduce of the view in a place.
use Rattle.std.proofs.Common.{List, ◌∙◌, ap}
use Rattle.design_docs.specs.declared.design.View.{View}
use Rattle.child_pool.specs.ReduceTalk.{reduce_in}
use Rattle.child_pool.proofs.Joining.{reduce_past, reduce_there}
use Rattle.child_pool.proofs.child_summer.reduce_at.Goals as goal

pub returns-in_err-view : goal.returns-in_err-view
returns-in_err-view c = rw c.from_residual.ensures (reduce_past c.as_slice.result.now c.args.view c.in_err-view.ensures.lookup.0 ∙ ap (λ (views : List View). reduce_in views c.args.view) c.as_slice.ensures)

pub returns : goal.returns
returns c = reduce_there c.as_slice.result.now c.args.view c.in_ok-view.view.now c.in_ok-view.ensures.lookup.0 c.in_ok-view.ensures.lookup.1 ∙ ap (λ (views : List View). reduce_in views c.args.view) c.as_slice.ensures
