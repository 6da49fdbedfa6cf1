use Rattle.fresh_view.proofs.TheViews.{fresh_rows-views}
use Rattle.fresh_view.proofs.laws.fresh_rows_are_the_views.Goals as goal

pub returns : goal.returns
returns c = fresh_rows-views
