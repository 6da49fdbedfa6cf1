-- Which numbers trees have, as a test.
use Rattle.std.specs.Prelude.{◌-◌, ◌^◌, List, Bool, ◌&&◌, nat_eq, nat_le, if◌then◌else◌}
use Rattle.std.specs.List.{list_all}
use Rattle.tree_laws.specs.declared.tree.Tree.{Tree}

-- those that a tree may have: no items where it has no height, and else as many as that needs, and 2^40 at most
abbrev pub is_size : Tree → Bool
is_size tree = nat_le tree.count (2 ^ 40) && (if nat_eq tree.height 0 then nat_eq tree.count 0 else nat_le (8 ^ (tree.height - 1)) tree.count)

abbrev pub are_sizes : List Tree → Tree → Bool
are_sizes views back = list_all is_size views && is_size back
