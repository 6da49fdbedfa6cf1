-- What was read is the input of the run, and how it ends is the end of the run.
use Rattle.std.proofs.Common.{◌≡◌, ◌<◌, ◌≤◌, ◌++◌, List, ℕ, [], length, take, drop, ap, ◌∙◌, refl, subst, append-nil, length-append, length-take, arith}
use Rattle.std.proofs.lemmas.List.{take-append-le}
use Rattle.std.proofs.KnownBytes.{Consumes-nil, Consumes-trans, Consumes-kept}
use Rattle.std.specs.Io.KnownBytes.{Consumes}
use Rattle.view_ports.specs.declared.run_end.RunEnd.TheVariants.{InputEnded, SourceFailed, InputTooLong}
use Rattle.line_loop.specs.declared.loop_end.LoopEnd.TheVariants as loop_end
use Rattle.line_loop.proofs.Progressing.{Progress-same, Progress-start}
use Rattle.line_loop.proofs.Ending.{Ends-map, Ends-same, Ends-source_failed, Ends-too_long, Loops-ended, early_unended, early_unfailed}
use Rattle.line_loop.proofs.reading.run.Goals as goal

pub loop-taken-init : goal.loop-taken-init
loop-taken-init g c = ([], Consumes-nil _, refl, omega arith, Progress-start g.R.Responder c.args.responder.now c.args.pending.now.line.items _ c.requires.start, c.requires.ready, c.requires.limit, omega arith, omega arith)

pub returns-in-Ok-finish-clause-loops : goal.returns-in-Ok-finish-clause-loops
returns-in-Ok-finish-clause-loops g c =
    let done = c.loop-taken.invariant in
    let left = g.S.Source.left in
    let none : take c.in-Ok-eq0.field-0 c.read.new.into ≡ [] = ap (λ (n : ℕ). take n c.read.new.into) c.in-Ok-eq0.field-0-test in
    let kept : Consumes (left c.loop-taken.source) (left c.read.new.self) [] = subst (Consumes (left c.loop-taken.source) (left c.read.new.self)) none c.in-Ok-eq0.ensures.bytes.0 in
    let reads : Consumes (left c.args.source.now) (left c.read.new.self) done.0 =
    subst (Consumes (left c.args.source.now) (left c.read.new.self)) (append-nil done.0) (Consumes-trans _ _ _ done.0 [] done.1 kept) in
    let room : 0 < length c.read.new.into =
    omega (arith, done.2, c.loop-taken-test, c.read.auto.into, length-take c.min-most.result c.loop-taken.piece, c.min-most.ensures, c.requires.room) in
    let is_end = c.in-Ok-eq0.ensures.bytes.1 c.in-Ok-eq0.field-0-test room in
    Loops-ended g.R.Responder _ _ _ _ _ _ done.0 (loop_end.Run InputEnded) reads (omega (arith, done.2))
    (Ends-map g.R.Responder (λ (u : Unit {0}). is_end) _ _ _ _ _ (loop_end.Run InputEnded) (c.in-Ok-finish.ensures.ok _ _ done.0 done.4))

pub returns-in-Err-finish-clause-loops : goal.returns-in-Err-finish-clause-loops
returns-in-Err-finish-clause-loops g c =
    let done = c.loop-taken.invariant in
    let left = g.S.Source.left in
    let none : take c.in-Ok-eq0.field-0 c.read.new.into ≡ [] = ap (λ (n : ℕ). take n c.read.new.into) c.in-Ok-eq0.field-0-test in
    let kept : Consumes (left c.loop-taken.source) (left c.read.new.self) [] = subst (Consumes (left c.loop-taken.source) (left c.read.new.self)) none c.in-Ok-eq0.ensures.bytes.0 in
    let reads : Consumes (left c.args.source.now) (left c.read.new.self) done.0 =
    subst (Consumes (left c.args.source.now) (left c.read.new.self)) (append-nil done.0) (Consumes-trans _ _ _ done.0 [] done.1 kept) in
    let room : 0 < length c.read.new.into =
    omega (arith, done.2, c.loop-taken-test, c.read.auto.into, length-take c.min-most.result c.loop-taken.piece, c.min-most.ensures, c.requires.room) in
    let is_end = c.in-Ok-eq0.ensures.bytes.1 c.in-Ok-eq0.field-0-test room in
    Loops-ended g.R.Responder _ _ _ _ _ _ done.0 c.in-Err-finish.end reads (c.in-Err-finish.ensures.early (length done.0) (omega (arith, done.2, done.3)))
    (Ends-map g.R.Responder (λ (u : Unit {0}). is_end) _ _ _ _ _ c.in-Err-finish.end (c.in-Err-finish.ensures.err _ _ done.0 done.4))

pub returns-in-Err-clause-loops : goal.returns-in-Err-clause-loops
returns-in-Err-clause-loops g c =
    let done = c.loop-taken.invariant in
    Loops-ended g.R.Responder _ _ _ _ _ _ done.0 (loop_end.Run SourceFailed) (Consumes-kept _ _ _ done.0 done.1 c.in-Err.ensures.bytes) (omega (arith, done.2)) (Ends-source_failed done.4 _)

pub returns-in-Err-feed-clause-loops : goal.returns-in-Err-feed-clause-loops
returns-in-Err-feed-clause-loops g c =
    let done = c.loop-taken.invariant in
    let into = c.read.new.into in
    let count = c.in-Ok.count in
    let got = take count into in
    let fed : take count (into ++ drop c.min-most.result c.loop-taken.piece) ≡ got = take-append-le count into _ c.in-Ok.ensures.bound.0 in
    let size : length (done.0 ++ got) ≤ 1099511627776 =
    omega (arith, done.2, done.3, length-append done.0 got, length-take count into, c.in-Ok.ensures.bound.0, c.read.auto.into, length-take c.min-most.result c.loop-taken.piece, c.min-most.ensures) in
    Loops-ended g.R.Responder _ _ _ _ _ _ (done.0 ++ got) c.in-Err-feed.end (Consumes-trans _ _ _ _ _ done.1 c.in-Ok.ensures.bytes.0) (c.in-Err-feed.ensures.early (length (done.0 ++ got)) size)
    (Ends-same g.R.Responder _ _ _ _ _ _ _ c.in-Err-feed.end (ap (λ (l : List ℕ). done.0 ++ l) fed)
    (Ends-map g.R.Responder (λ (never : ⊥). absurd never) _ _ _ _ _ c.in-Err-feed.end (c.in-Err-feed.ensures.err _ _ done.0 done.4)))

pub loop-taken-preserved : goal.loop-taken-preserved
loop-taken-preserved g c =
    let done = c.loop-taken.invariant in
    let into = c.read.new.into in
    let count = c.in-Ok.count in
    let got = take count into in
    let fed : take count (into ++ drop c.min-most.result c.loop-taken.piece) ≡ got = take-append-le count into _ c.in-Ok.ensures.bound.0 in
    let room : length into ≤ c.min-most.result = omega (arith, c.read.auto.into, length-take c.min-most.result c.loop-taken.piece) in (
      done.0 ++ got,
      Consumes-trans _ _ _ _ _ done.1 c.in-Ok.ensures.bytes.0,
      omega (arith, done.2, length-append done.0 got, length-take count into, c.in-Ok.ensures.bound.0),
      omega (arith, done.3, room, c.in-Ok.ensures.bound.0, c.min-most.ensures),
      Progress-same (c.in-Ok-feed.ensures.ok _ _ done.0 done.4) (done.0 ++ got) (ap (λ (l : List ℕ). done.0 ++ l) fed),
      c.in-Ok-feed.ensures.ready,
      c.feed.ensures.limit ∙ done.6,
      omega (arith, done.7, c.in-Ok.ensures.cause.later),
      omega (arith, done.8, c.in-Ok-feed.ensures.cause.later),
    )

pub returns-clause-loops : goal.returns-clause-loops
returns-clause-loops g c =
    let done = c.loop-taken.invariant in
    Loops-ended g.R.Responder _ _ _ _ _ _ done.0 (loop_end.Run InputTooLong) done.1 (omega (arith, done.2, done.3)) (Ends-too_long done.4 _)

pub returns-in-Err-finish-clause-source_failed : goal.returns-in-Err-finish-clause-source_failed
returns-in-Err-finish-clause-source_failed g c = λ is. absurd (early_unfailed c.in-Err-finish.end c.in-Err-finish.ensures.early is)

pub returns-in-Err-feed-clause-ended : goal.returns-in-Err-feed-clause-ended
returns-in-Err-feed-clause-ended g c = λ is. absurd (early_unended c.in-Err-feed.end c.in-Err-feed.ensures.early is)

pub returns-in-Err-feed-clause-source_failed : goal.returns-in-Err-feed-clause-source_failed
returns-in-Err-feed-clause-source_failed g c = λ is. absurd (early_unfailed c.in-Err-feed.end c.in-Err-feed.ensures.early is)
