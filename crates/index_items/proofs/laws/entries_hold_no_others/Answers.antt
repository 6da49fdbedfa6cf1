-- An entry holds where the rows of its document stand.
use Rattle.std.proofs.Common.{subst}
use Rattle.std.specs.Prelude.{Contains}
use Rattle.index_items.proofs.Places.{place_has_row}
use Rattle.index_items.proofs.laws.entries_hold_no_others.Goals as goal

pub returns : goal.returns
returns c = λ views entries is entry place there inside.
    place_has_row views entry.id place (subst (λ rows. Contains rows place) ((is entry).0 there).all inside)
