-- The number of the last change.
use Rattle.std.specs.Prelude.{◌≡◌, ◌-◌, List, Some, length, slice_get}
use Rattle.std.proofs.Common.{sym, ◌∙◌, subst}
use Rattle.doc_file.specs.declared.docs.changes.Change.{Change}
use Rattle.doc_file.proofs.Pages.{last_is}
use Rattle.doc_file.proofs.docs.changes.Changes.last_seq.Goals as goal

pub returns-in-Some : goal.returns-in-Some
returns-in-Some c =
    sym (last_is c.args.seq c.args.self.now c.in-Some.change.now
    (subst (λ (xs : List Change). slice_get xs (length xs - 1) ≡ Some c.in-Some.change.now) (c.as_slice.ensures.value ∙ c.self.view_is) (sym c.in-Some.ensures.value)))
