-- The place before an item is one between items.
use Rattle.std.proofs.Common.{◌≡◌, true, refl, ap}
use Rattle.std.specs.declared.cmp.Ordering.{Ordering}
use Rattle.std.specs.declared.cmp.Ordering.TheVariants.{Less, Equal, Greater}
use Rattle.std.specs.Ordering.{is_lt}
use Rattle.json_terms.specs.declared.term.Row.{Row}
use Rattle.builtin_reduces.specs.Kept.{item_cmp}
use Rattle.builtin_reduces.specs.ItemLaws.{item_cmp_total}

-- what is less is so
less : (r : Ordering) → is_lt r ≡ true → r ≡ Less
less Less is = refl
less Equal is = absurd cc
less Greater is = absurd cc

-- what is before an item of the front is in the front
pub before_is_front : (b x y : Row) → item_cmp x y ≡ Less → is_lt (item_cmp y b) ≡ true → is_lt (item_cmp x b) ≡ true
before_is_front b x y first second = ap is_lt (item_cmp_total.trans x y b first (less (item_cmp y b) second))
