-- The lines are cut, and four texts stand one behind the other.
use Rattle.std.proofs.Common.{◌+◌, ◌∙◌, ◌++◌, ℕ, List, map, ap, Bor}
use Rattle.view_ports.specs.Lines.{ended}
use Rattle.couchview_cli.specs.Showing.{reply_at}
use Rattle.couchview_cli.proofs.Shown.{four_texts}
use Rattle.couchview_cli.proofs.load.compose.Goals as goal

pub returns : goal.returns
returns c =
    let texts : List (Bor (List ℕ)) → List (List ℕ) = λ lines. map (λ line. line.now) lines in
    let replies = texts c.in_ok-replies.replies.items in
    let first = c.args.requests.now.first_view in
    let second = c.args.requests.now.second_view in
    record {
      replies = replies;
      rest = c.in_ok-replies.ensures.0;
      cut = c.in_ok-replies.ensures.1;
      is = four_texts (reply_at replies first) (reply_at replies second) (ended c.args.fresh.now) (reply_at replies (second + 1)) c.new-text.result.items c.append_reply.new.text.items c.append_reply-2.new.text.items c.append_line.new.text.items c.append_reply-3.new.text.items
          c.new-text.ensures.items
          (c.in_ok-append_reply.ensures ∙ ap (λ (lines : List (Bor (List ℕ))). c.new-text.result.items ++ reply_at (texts lines) first) c.deref.ensures.value)
          (c.in_ok-append_reply-2.ensures ∙ ap (λ (lines : List (Bor (List ℕ))). c.append_reply.new.text.items ++ reply_at (texts lines) second) c.deref-2.ensures.value)
          c.in_ok-append_line.ensures
          (c.in_ok-append_reply-3.ensures ∙ ap (λ (lines : List (Bor (List ℕ))). c.append_line.new.text.items ++ reply_at (texts lines) (second + 1)) c.deref-3.ensures.value);
    }
