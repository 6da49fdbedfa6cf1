use Rattle.std.proofs.Common.{◌≡◌, length}
use Rattle.std.specs.Vec.Iter.{into_iter_items, into_iter_len}
use Rattle.json_terms.proofs.Converted.{AreItemsWith, AreMembersWith, ComeAfter}
use Rattle.json_terms.proofs.read.+convert.Given as goal

abbrev pub invariant-convert_items-loop-value : goal.invariant-convert_items-loop-value
invariant-convert_items-loop-value l =
    (goal.iterator-convert_items-loop-value).can_next l.value-iterator ×
    (goal.iterator-convert_items-loop-value).is_finite l.value-iterator ×
    (into_iter_len l.value-iterator ≡ length (into_iter_items l.value-iterator)) ×
    AreItemsWith l.fn.values.items l.terms (into_iter_items l.value-iterator)

abbrev pub invariant-convert_members-loop-name : goal.invariant-convert_members-loop-name
invariant-convert_members-loop-name l =
    (goal.iterator-convert_members-loop-name).can_next l.name-iterator ×
    (goal.iterator-convert_members-loop-name).is_finite l.name-iterator ×
    AreMembersWith l.fn.map.entries l.members l.name-iterator ×
    ComeAfter l.members l.name-iterator
