-- The new member's name comes last, so the names still rise.
use Rattle.std.specs.Prelude.{map, IsUtf8}
use Rattle.std.proofs.Common.{subst}
use Rattle.json_terms.specs.Json.{members_of}
use Rattle.json_terms.specs.Terms.{ComesAfter}
use Rattle.json_terms.specs.Seen.{pair_of}
use Rattle.json_terms.proofs.Pushed.{AreMembers-push}
use Rattle.json_terms.proofs.term.Members.push.Goals as goal

pub invariant_of-self-2 : goal.invariant_of-self-2
invariant_of-self-2 c =
    let after : ComesAfter c.args.name (members_of (map pair_of c.self.inside.entries.items)) = rw c.self.view_is (c.requires) in
    let utf8 : IsUtf8 c.args.name = subst IsUtf8 c.as_str-utf8.ensures c.as_str-utf8.utf8 in
    rw c.in_ok-push.ensures.items (AreMembers-push _ _ c.self.invariant after utf8 c.validity.ensures)
