-- The reply in this place is that of the list.
use Rattle.std.proofs.Common.{◌≡◌, ◌++◌, ℕ, List, OnOk, subst}
use Rattle.couchview_cli.proofs.Shown.{reply_there}
use Rattle.couchview_cli.proofs.load.append_reply.Goals as goal

pub returns-in-Some : goal.returns-in-Some
returns-in-Some c =
    subst (λ (t : List ℕ). OnOk c.append_line.result (c.append_line.new.text.items ≡ c.args.text.now.items ++ t))
    (reply_there c.args.replies.now c.args.place c.in-Some.reply.now c.in-Some.ensures.lookup.0 c.in-Some.ensures.lookup.1) c.append_line.ensures
