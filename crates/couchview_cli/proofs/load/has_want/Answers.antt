-- The next line isn't the refusal, and in the end there are no more.
use Rattle.std.proofs.Common.{◌≡◌, ◌∙◌, true, sym, true≢false}
use Rattle.couchview_cli.proofs.Shown.{cut_shorter, none_first, none_last, none_next, some_next}
use Rattle.couchview_cli.proofs.load.has_want.Goals as goal

pub loop-reply-init : goal.loop-reply-init
loop-reply-init c = none_first c.args.written.now

pub loop-reply-smaller : goal.loop-reply-smaller
loop-reply-smaller c = cut_shorter c.loop-reply.rest.now c.in-Some.reply.now c.in-Some.behind.now c.in-Some.ensures.1

pub loop-reply-preserved : goal.loop-reply-preserved
loop-reply-preserved c =
    none_next c.args.written.now c.loop-reply.rest.now c.in-Some.reply.now c.in-Some.behind.now c.loop-reply.invariant c.in-Some.ensures.0 c.in-Some.ensures.1
    (λ is. let yes : c.is_no_memory.result ≡ true = c.is_no_memory.ensures.1 is in true≢false (sym yes ∙ c.if-is_no_memory.false))

pub returns-then-is_no_memory-clause-some : goal.returns-then-is_no_memory-clause-some
returns-then-is_no_memory-clause-some c = λ is.
    some_next c.args.written.now c.loop-reply.rest.now c.in-Some.reply.now c.in-Some.behind.now c.loop-reply.invariant c.in-Some.ensures.1 (c.is_no_memory.ensures.0 c.if-is_no_memory.true)

pub returns-clause-none : goal.returns-clause-none
returns-clause-none c = λ is. none_last c.args.written.now c.loop-reply.rest.now c.loop-reply.invariant c.in_default.ensures
