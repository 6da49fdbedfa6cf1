-- What the definition of the rows says of a history.
use Rattle.std.specs.Prelude.{◌≡◌, ℕ, List}
use Rattle.design_docs.specs.History.{Write, changes_after}
use Rattle.map_server.specs.Pick.{pick}
use Rattle.view_model.specs.Rows.{view_rows}
use Rattle.fresh_view.specs.Fresh.{fresh_rows}

-- the rows from the last writes of a history are those of the view over it
abbrev pub FreshRowsAreTheViews : Type 0
FreshRowsAreTheViews = (source : List ℕ) (history : List Write) → fresh_rows source (changes_after 0 history) ≡ view_rows pick source history
