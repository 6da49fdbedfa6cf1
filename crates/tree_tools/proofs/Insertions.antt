-- No more is inserted than there are edits.
use Rattle.std.proofs.Common.{◌≤◌, List, [], ◌∷◌, length, arith}
use Rattle.reduce_tree.specs.declared.edit.Edit.{Edit}
use Rattle.reduce_tree.specs.declared.edit.Edit.TheVariants.{Remove, Insert}
use Rattle.reduce_tree.specs.Applied.{insertions}

pub insertions_within : {T : Type 0} (edits : List (Edit T)) → insertions edits ≤ length edits
insertions_within [] = omega arith
insertions_within (Remove key ∷ es) = let rest = insertions_within es in omega arith
insertions_within (Insert key ∷ es) = let rest = insertions_within es in omega arith
