-- The entry of the row's document holds all its rows, so this one too.
use Rattle.std.proofs.Common.{refl, subst}
use Rattle.std.specs.Prelude.{Contains}
use Rattle.index_items.specs.BackIndex.{IsEntryOf, back_row, places_in}
use Rattle.index_items.specs.BackItem.{BackEntry}
use Rattle.index_items.proofs.Places.{row_in_places}
use Rattle.index_items.proofs.Rising.{contains-none}
use Rattle.index_items.proofs.laws.entries_hold_all_rows.Goals as goal

pub returns : goal.returns
returns c = λ views entries is view row has.
    let there = row_in_places views view row has in
    let entry : BackEntry = record { id = row.id; rows = places_in views row.id } in
    let of : IsEntryOf views entry = record { some = λ none. contains-none (back_row view row) (subst (λ rows. Contains rows (back_row view row)) none there); all = refl } in
    (entry, record { there = (is entry).1 of; of = refl; holds = there })
