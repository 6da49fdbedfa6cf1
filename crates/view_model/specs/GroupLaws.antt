-- The laws of the runs of groups.
use Rattle.std.specs.Prelude.{◌≡◌, ◌≢◌, List, [], filter, IsSorted}
use Rattle.std.specs.List.{AllByRecursion}
use Rattle.json_terms.specs.declared.term.Row.{Row}
use Rattle.raw_collation.specs.declared.group.Level.{Level}
use Rattle.raw_collation.specs.Collation.{rows_cmp}
use Rattle.tree_laws.specs.Meaning.{joined}
use Rattle.view_model.specs.Groups.{is_same_group, runs}

-- the runs one after another are the rows
abbrev pub RunsAreTheRows : Type 0
RunsAreTheRows = (level : Level) (rows : List Row) → joined (runs level rows) ≡ rows

-- no run is empty
abbrev pub NoRunIsEmpty : Type 0
NoRunIsEmpty = (level : Level) (rows : List Row) → AllByRecursion (λ run. run ≢ []) (runs level rows)

-- of rows in order, a run is all rows of the group of each row in it
abbrev pub RunsAreWholeGroups : Type 0
RunsAreWholeGroups =
    (level : Level) (rows : List Row) → IsSorted rows_cmp rows
    → AllByRecursion (λ run. AllByRecursion (λ row. run ≡ filter (is_same_group level row) rows) run) (runs level rows)
