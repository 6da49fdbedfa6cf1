-- Only an array of two names a view.
use Rattle.std.specs.Prelude.{◌≡◌, map}
use Rattle.std.proofs.Common.{sym}
use Rattle.json_terms.specs.Seen.{json}
use Rattle.view_engine.proofs.OtherForms.{view_name_in-other}
use Rattle.view_engine.proofs.forms.view_name.Goals as goal

pub returns-in_default-pair : goal.returns-in_default-pair
returns-in_default-pair c =
    let same : map json c.into_vec.result.items ≡ c.in-Array.names = c.into_vec.ensures in
    rw (c.in-Array.is, ← same) (sym (view_name_in-other c.into_vec.result.items (rw c.in_default-pair.is at c.pair.ensures.other)))
