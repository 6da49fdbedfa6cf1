-- The pages so far are mapped.
use Rattle.std.specs.Prelude.{◌-◌, ◌^◌, ℕ, List}
use Rattle.design_docs.specs.History.{Write}
use Rattle.change_mapper.specs.Mapped.{outer}
use Rattle.change_mapper.specs.Pages.{HasComeTo}
use Rattle.change_mapper.proofs.mapping.map_changes.Given as goal

abbrev pub invariant-loop-rows : goal.invariant-loop-rows
invariant-loop-rows g l =
    let old = outer l.initial.folder l.initial.servers l.initial.pool in
    (changes : List (ℕ × Write)) × HasComeTo g.F.Folder g.C.Servers l.docs l.design l.seq old (outer l.folder l.servers l.pool) l.progress changes l.rows.items

abbrev pub decreases-loop-rows : goal.decreases-loop-rows
decreases-loop-rows g l = 2 ^ 64 - l.progress.after
