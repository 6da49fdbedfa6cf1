-- The new element is a term, so the elements still are.
use Rattle.json_terms.proofs.Pushed.{AreTerms-push}
use Rattle.json_terms.proofs.term.Terms.push.Goals as goal

pub invariant_of-self-2 : goal.invariant_of-self-2
invariant_of-self-2 c = rw c.in_ok-push.ensures.items (AreTerms-push _ _ c.self.invariant c.validity.ensures)
