use Rattle.std.proofs.Common.{◌≡◌, List, length, map, drop, bytes_eq}
use Rattle.std.specs.Map.{lookup}
use Rattle.json_terms.specs.declared.term.Row.{Row}
use Rattle.design_docs.specs.Laws.{entry_of as named}
use Rattle.view_engine.specs.View.{rows_in}
use Rattle.view_engine.specs.ViewQuery.{reduce_named}
use Rattle.view_engine.proofs.engine.view.place_of.Given as goal

-- none of the views so far has the name
abbrev pub invariant-loop-place : goal.invariant-loop-place
invariant-loop-place l = (lookup (λ key. bytes_eq key l.name) (map named (drop l.place l.views)) ≡ lookup (λ key. bytes_eq key l.name) (map named l.views))
    × ((rows : List (List Row)) → length rows ≡ length l.views → rows_in (drop l.place l.views) (drop l.place rows) l.name ≡ rows_in l.views rows l.name)
    × (reduce_named l.name (drop l.place l.views) ≡ reduce_named l.name l.views)
