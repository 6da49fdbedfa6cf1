-- The name is none of the ten.
use Rattle.view_engine.proofs.OtherForms.{form_of_one-other}
use Rattle.view_engine.proofs.forms.recognize_one.Goals as goal

pub returns : goal.returns
returns c =
    let other = c.in_default in
    form_of_one-other _ _ _ c.as_str.ensures other.not-all_docs other.not-cleanup other.not-close other.not-compact other.not-compact_docs other.not-delete other.not-get other.not-info other.not-put other.not-view
