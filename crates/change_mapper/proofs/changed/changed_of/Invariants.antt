use Rattle.std.specs.Prelude.{map}
use Rattle.doc_file.specs.Changes.{numbered}
use Rattle.change_mapper.specs.Changed.{AreChangedOf}
use Rattle.change_mapper.proofs.changed.changed_of.Given as goal

-- what is there is what the changes so far leave
abbrev pub invariant-loop-change : goal.invariant-loop-change
invariant-loop-change l =
    (goal.iterator-loop-change).can_next l.change-iterator ×
    (goal.iterator-loop-change).is_finite l.change-iterator ×
    AreChangedOf (map numbered l.yielded) (record { written = l.written; documents = l.documents })
