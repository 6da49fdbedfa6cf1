-- Both lists have the same elements.
use Rattle.index_items.specs.BackItem.{entry_cmp}
use Rattle.index_items.specs.BackLaws.{entry_cmp_total}
use Rattle.index_items.proofs.Rising.{rising_same}
use Rattle.index_items.proofs.laws.back_indexes_are_one.Goals as goal

pub returns : goal.returns
returns c = λ views xs ys rise_x rise_y of_x of_y. rising_same entry_cmp entry_cmp_total xs ys rise_x rise_y (λ entry. (λ h. (of_y entry).1 ((of_x entry).0 h), λ h. (of_x entry).1 ((of_y entry).0 h)))
