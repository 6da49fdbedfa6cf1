-- The place before an id is one between items of the back-index.
use Rattle.std.proofs.Common.{◌≡◌, ℕ, List, true, refl, ap}
use Rattle.std.specs.declared.cmp.Ordering.{Ordering}
use Rattle.std.specs.declared.cmp.Ordering.TheVariants.{Less, Equal, Greater}
use Rattle.std.specs.Ordering.{is_lt, nat_cmp}
use Rattle.std.specs.Cmp.Lexicographic.{slice_cmp}
use Rattle.std.proofs.lemmas.Cmp.{nat_list_cmp_total}
use Rattle.index_items.specs.BackItem.{BackEntry, entry_cmp}

-- what is less is so
less : (r : Ordering) → is_lt r ≡ true → r ≡ Less
less Less is = refl
less Equal is = absurd cc
less Greater is = absurd cc

-- what is before an item of the front is in the front
pub before_is_front : (b : List ℕ) (x y : BackEntry) → entry_cmp x y ≡ Less → is_lt (slice_cmp nat_cmp y.id b) ≡ true → is_lt (slice_cmp nat_cmp x.id b) ≡ true
before_is_front b x y first second = ap is_lt (nat_list_cmp_total.trans x.id y.id b first (less (slice_cmp nat_cmp y.id b) second))
