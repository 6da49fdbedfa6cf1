use Rattle.std.proofs.Common.{◌≡◌, ◌+◌, List, [], ◌∷◌, ◌++◌, take, refl, sym, ap, ◌∙◌, subst, arith}
use Rattle.std.proofs.lemmas.List.{take_more}
use Rattle.crash_disk.specs.Chosen.{IsChosen}
use Rattle.crash_disk.specs.declared.held_file.HeldFile.{HeldFile}
use Rattle.crash_disk.specs.declared.pending_file.PendingFile.{PendingFile}
use Rattle.crash_disk.specs.PendingList.{AreMatched}
use Rattle.crash_disk.proofs.PendingLists.{matched_push}
use Rattle.crash_disk.proofs.pending_lists.image_list.Goals as goal

pub loop-file-preserved : goal.loop-file-preserved
loop-file-preserved c =
    let files = c.args.files.now in
    let choice = c.args.choice in
    let i = c.loop-file.file-index in
    let one : PendingFile = c.file-item.result in
    let new : HeldFile = record { name = one.name; bytes = c.in_ok-image.field-0 } in
    let more : take (i + 1) files ≡ take i files ++ one ∷ [] = take_more files i one (omega arith) ∙ ap (λ file. take i files ++ file ∷ []) (sym c.file-item.is) in
    let matched = matched_push (IsChosen choice) (take i files) c.loop-file.held.items one new c.loop-file.invariant refl c.in_ok-image.ensures in
    subst (AreMatched (IsChosen choice) (take (i + 1) files)) (sym {A = List HeldFile} c.in_ok-push.ensures.items)
    (subst (λ fs. AreMatched (IsChosen choice) fs (c.loop-file.held.items ++ new ∷ [])) (sym {A = List PendingFile} more) matched)
