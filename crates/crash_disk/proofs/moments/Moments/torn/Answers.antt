use Rattle.std.proofs.Common.{◌≡◌, ℕ, ◌+◌, ◌<◌, List, length, get_or, take, sym, ap, ◌∙◌, subst, arith}
use Rattle.std.proofs.lemmas.List.{take_all}
use Rattle.view_ports.specs.declared.file_name.FileName.{FileName}
use Rattle.view_ports.specs.File.{File}
use Rattle.crash_disk.specs.declared.did.Did.{Did}
use Rattle.crash_disk.specs.HeldFiles.{bytes_in}
use Rattle.crash_disk.specs.Moments.{Fits, AllFit, after, disk_after, disk_at}
use Rattle.crash_disk.specs.PendingFiles.{file_in}
use Rattle.crash_disk.proofs.Clock.{before_next}
use Rattle.crash_disk.proofs.Sound.{after_same, fit_at, fit_take, fits_same}
use Rattle.crash_disk.proofs.moments.Moments.torn.Goals as goal

pub apply-requires : goal.apply-requires
apply-requires c =
    let moments = c.args.self.now in
    let start = disk_at (bytes_in moments.start) in
    let shown : List Did = c.deref.result.now in
    let earlier : List Did = take c.args.call shown in
    let did : Did = c.did-item.result in
    let same : shown ≡ moments.log.items = c.deref.ensures.value in
    let fit : AllFit start.now earlier = subst (λ log. AllFit start.now (take c.args.call log)) (sym same) (fit_take start.now moments.log.items c.args.call moments.fit) in
    let below : c.loop-did.did-index < length earlier = omega arith in
    let fits : Fits did (disk_after start (take c.loop-did.did-index earlier)).now =
    subst (λ d. Fits d (disk_after start (take c.loop-did.did-index earlier)).now) (sym c.did-item.is) (fit_at start earlier c.loop-did.did-index did fit below) in
    fits_same did (file_in c.loop-did.pending) (disk_after start (take c.loop-did.did-index earlier)).now c.loop-did.invariant fits

pub loop-did-preserved : goal.loop-did-preserved
loop-did-preserved c = λ name.
    let start = disk_at (bytes_in c.args.self.now.start) in
    let shown : List Did = c.deref.result.now in
    let earlier : List Did = take c.args.call shown in
    let did : Did = c.did-item.result in
    let i : ℕ = c.loop-did.did-index in
    let below : i < length earlier = omega arith in
    let next : (disk_after start (take (i + 1) earlier)).now ≡ after (get_or earlier i did) (disk_after start (take i earlier)).now = before_next start earlier i did below in
    c.in_ok-apply.ensures name
    ∙ after_same did (file_in c.loop-did.pending) (disk_after start (take i earlier)).now c.loop-did.invariant name
    ∙ ap (λ d. after d (disk_after start (take i earlier)).now name) c.did-item.is
    ∙ ap (λ (files : FileName → File). files name) (sym next)

pub apply-requires-then-not-syncs : goal.apply-requires-then-not-syncs
apply-requires-then-not-syncs c =
    let moments = c.args.self.now in
    let start = disk_at (bytes_in moments.start) in
    let log : List Did = moments.log.items in
    let shown : List Did = c.deref.result.now in
    let call : ℕ = c.args.call in
    let last : Did = c.index-last.result.now in
    let same : shown ≡ log = c.deref.ensures.value in
    let done : take c.loop-did.did-index (take call shown) ≡ take call log = take_all c.loop-did.did-index (take call shown) (omega arith) ∙ ap (take call) same in
    let fits : Fits last (disk_after start (take call log)).now =
    subst (λ d. Fits d (disk_after start (take call log)).now) (sym c.index-last.ensures) (fit_at start log call last moments.fit c.requires) in
    fits_same last (file_in c.loop-did.pending) (disk_after start (take call log)).now
    (λ name. c.loop-did.invariant name ∙ ap (λ dids. (disk_after start dids).now name) done) fits
