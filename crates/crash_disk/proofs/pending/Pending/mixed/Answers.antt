use Rattle.std.proofs.Common.{◌≡◌, ℕ, ◌<◌, Vec, Global, length, get_or, sym, ap, ◌∙◌, subst, arith}
use Rattle.view_ports.specs.File.{IsImage, IsOneOf}
use Rattle.crash_disk.specs.Pending.{file_of}
use Rattle.crash_disk.proofs.Patches.{image_base, one_of_at, patched_next, zeroed_next}
use Rattle.crash_disk.proofs.pending.Pending.mixed.Goals as goal
use Rattle.crash_disk.proofs.pending.Pending.mixed.Goals.{then-next-eq1, else-next-eq1, in-0, in-1, in_default}

pub loop-range-init : goal.loop-range-init
loop-range-init c =
    let file = file_of c.args.self.now in
    let long : length c.in_ok-image.image.items ≡ c.index.result.now = c.in_ok-image.ensures.long in
    let at : c.index.result.now ≡ get_or file.lengths c.next-length.result c.index.result.now = c.index.ensures in
    let below : c.next-length.result < length file.lengths = omega (arith, c.args.self.now.lengths.ok.0) in
    image_base file c.in_ok-image.image.items
    (subst (IsOneOf file.lengths) (sym (long ∙ at)) (one_of_at file.lengths c.next-length.result c.index.result.now below))
    (λ place within. c.in_ok-image.ensures.bytes place (omega arith) ∙ ap (λ bytes. get_or bytes place 0) c.deref.ensures.value)

pub loop-range-preserved : goal.loop-range-preserved
loop-range-preserved c =
    let file = file_of c.args.self.now in
    elim c.if-next-eq1.branch [
      | then-next-eq1 w ↦
          subst (λ (image : Vec ℕ Global). IsImage file image.items) (sym w.image-is)
          (zeroed_next file c.deref-range-items.result.now c.loop-range.range-index _ _ _ c.deref-range-items.ensures.value (omega arith) w.fill.ensures c.loop-range.invariant)
      | else-next-eq1 w ↦ subst (λ (image : Vec ℕ Global). IsImage file image.items) (sym w.image-is) c.loop-range.invariant
    ]

pub loop-range-2-preserved : goal.loop-range-2-preserved
loop-range-2-preserved c =
    let file = file_of c.args.self.now in
    elim c.match-next.branch [
      | in-0 w ↦ subst (λ (image : Vec ℕ Global). IsImage file image.items) (sym w.image-is) c.loop-range-2.invariant
      | in-1 w ↦
          subst (λ (image : Vec ℕ Global). IsImage file image.items) (sym w.image-is)
          (patched_next file c.deref-range-items-2.result.now c.loop-range-2.range-index _ _ _ c.deref-range-items-2.ensures.value (omega arith) w.copy.ensures.patched c.loop-range-2.invariant)
      | in_default w ↦
          subst (λ (image : Vec ℕ Global). IsImage file image.items) (sym w.image-is)
          (patched_next file c.deref-range-items-2.result.now c.loop-range-2.range-index _ _ _ c.deref-range-items-2.ensures.value (omega arith) w.fill-in_default.ensures.patched c.loop-range-2.invariant)
    ]
