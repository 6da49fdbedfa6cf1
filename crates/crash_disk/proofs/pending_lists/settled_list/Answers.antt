use Rattle.std.proofs.Common.{◌≡◌, ◌+◌, List, [], ◌∷◌, ◌++◌, take, refl, sym, ap, ◌∙◌, subst, arith}
use Rattle.std.proofs.lemmas.List.{take_more}
use Rattle.view_ports.specs.File.{settled}
use Rattle.crash_disk.specs.declared.held_file.HeldFile.{HeldFile}
use Rattle.crash_disk.specs.declared.pending_file.PendingFile.{PendingFile}
use Rattle.crash_disk.specs.PendingList.{AreMatched, IsSettled}
use Rattle.crash_disk.proofs.PendingLists.{matched_push}
use Rattle.crash_disk.proofs.pending_lists.settled_list.Goals as goal

pub loop-file-preserved : goal.loop-file-preserved
loop-file-preserved c =
    let held = c.args.held.now in
    let i = c.loop-file.file-index in
    let one : HeldFile = c.file-item.result in
    let new : PendingFile = record { name = one.name; pending = c.in_ok-settled.field-0 } in
    let more : take (i + 1) held ≡ take i held ++ one ∷ [] = take_more held i one (omega arith) ∙ ap (λ file. take i held ++ file ∷ []) (sym c.file-item.is) in
    let matched = matched_push IsSettled c.loop-file.files.items (take i held) new one c.loop-file.invariant refl (c.in_ok-settled.ensures ∙ ap settled c.deref.ensures.value) in
    subst (λ files. AreMatched IsSettled files (take (i + 1) held)) (sym {A = List PendingFile} c.in_ok-push.ensures.items)
    (subst (AreMatched IsSettled (c.loop-file.files.items ++ new ∷ [])) (sym {A = List HeldFile} more) matched)
