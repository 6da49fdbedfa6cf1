use Rattle.std.proofs.Common.{◌≡◌, ◌++◌, drop}
use Rattle.design_docs.specs.Design.{map_sources}
use Rattle.child_pool.proofs.pool.calls.sources_of.Given as goal

-- the sources so far and those of the views that are left are all
abbrev pub invariant-loop-view : goal.invariant-loop-view
invariant-loop-view l = l.sources.items ++ map_sources (drop l.view-index l.views) ≡ map_sources l.views
