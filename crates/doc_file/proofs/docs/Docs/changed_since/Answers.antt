-- The calls for the changes change nothing, so what they find stood there from the first.
use Rattle.std.proofs.Common.{◌≡◌, ◌++◌, ◌∷◌, [], ◌+◌, ℕ, Some, None, Err, false, option_map, subst, sym, ◌∙◌, arith, rules}
use Rattle.json_terms.specs.Seen.{json}
use Rattle.view_ports.specs.declared.file_name.FileName.{FileName}
use Rattle.view_ports.proofs.Told.{told_now}
use Rattle.gate_file.specs.GateFile.{name_of}
use Rattle.gate_file.specs.declared.fault.GateFault.TheVariants.{Damaged}
use Rattle.gate_file.proofs.Looks.{told_none_then}
use Rattle.doc_file.specs.declared.fault.DocFault.TheVariants.{Gate}
use Rattle.doc_file.specs.Changes.{IsNext, IsSpoiledAfter, IsStored}
use Rattle.doc_file.specs.Docs.{bytes_in, entries_of, file_of, IsAt, IsLoaded, IsSpoiled}
use Rattle.doc_file.proofs.Progress.{bytes_back, never_spoiled, so_far_more, spoiled_after, whole_full, written_full, written_none, IsSoFar}
use Rattle.doc_file.proofs.docs.Docs.changed_since.Goals as goal

pub returns-in_err-load_change-in-Some-clause-sound : goal.returns-in_err-load_change-in-Some-clause-sound
returns-in_err-load_change-in-Some-clause-sound g c = λ history.
    let docs = c.args.self.now in
    let e = c.in-Some.entry.now in
    let next : IsNext c.loop-index.after (entries_of docs) (Some e) = subst (λ es. IsNext c.loop-index.after es (Some e)) c.as_slice.ensures.value c.in-Some.ensures in
    told_now (g.F.Folder.disk c.args.folder.now)
    (λ d. (n : FileName) (at : ℕ) → c.load_change.result ≡ Err (Gate (Damaged n at)) → (n ≡ name_of (file_of docs)) × ((e.last).deleted ≡ false) × IsSpoiled e.id (bytes_in docs d.now) (Some e.last) at)
    (λ d. IsAt docs d.now history → (n : FileName) (at : ℕ) → c.from_residual.result ≡ Err (Gate (Damaged n at)) → ⊥)
    (λ d is at n place failed.
    let was : c.load_change.result ≡ Err (Gate (Damaged n place)) = search rules in
    let found = is n place was in
    never_spoiled docs c.args.seq c.args.n c.loop-index.after c.loop-index._index (g.F.Folder.disk c.args.folder.now) c.loop-index.items.items c.loop-index.invariant.so_far e next d.now place history at found.1 found.2)
    (bytes_back docs (g.F.Folder.disk c.args.folder.now) (g.F.Folder.disk c.loop-index.folder) c.loop-index.invariant.disk
    (λ bytes. (n : FileName) (at : ℕ) → c.load_change.result ≡ Err (Gate (Damaged n at)) → (n ≡ name_of (file_of docs)) × ((e.last).deleted ≡ false) × IsSpoiled e.id bytes (Some e.last) at)
    c.load_change.ensures.damaged)

pub returns-in_err-load_change-in-Some-clause-damaged : goal.returns-in_err-load_change-in-Some-clause-damaged
returns-in_err-load_change-in-Some-clause-damaged g c =
    let docs = c.args.self.now in
    let e = c.in-Some.entry.now in
    let next : IsNext c.loop-index.after (entries_of docs) (Some e) = subst (λ es. IsNext c.loop-index.after es (Some e)) c.as_slice.ensures.value c.in-Some.ensures in
    told_now (g.F.Folder.disk c.args.folder.now)
    (λ d. (n : FileName) (at : ℕ) → c.load_change.result ≡ Err (Gate (Damaged n at)) → (n ≡ name_of (file_of docs)) × ((e.last).deleted ≡ false) × IsSpoiled e.id (bytes_in docs d.now) (Some e.last) at)
    (λ d. IsLoaded docs d.now → (n : FileName) (at : ℕ) → c.from_residual.result ≡ Err (Gate (Damaged n at)) → (n ≡ name_of (file_of docs)) × IsSpoiledAfter docs (bytes_in docs d.now) c.args.seq at)
    (λ d is loaded n place failed.
    let was : c.load_change.result ≡ Err (Gate (Damaged n place)) = search rules in
    let found = is n place was in
    (found.0, spoiled_after docs c.args.seq c.args.n c.loop-index.after c.loop-index._index (g.F.Folder.disk c.args.folder.now) c.loop-index.items.items c.loop-index.invariant.so_far e next d.now place loaded found.1 found.2))
    (bytes_back docs (g.F.Folder.disk c.args.folder.now) (g.F.Folder.disk c.loop-index.folder) c.loop-index.invariant.disk
    (λ bytes. (n : FileName) (at : ℕ) → c.load_change.result ≡ Err (Gate (Damaged n at)) → (n ≡ name_of (file_of docs)) × ((e.last).deleted ≡ false) × IsSpoiled e.id bytes (Some e.last) at)
    c.load_change.ensures.damaged)

pub returns-in_err-load_change-in-Some-clause-disk : goal.returns-in_err-load_change-in-Some-clause-disk
returns-in_err-load_change-in-Some-clause-disk g c =
    told_none_then (g.F.Folder.disk c.args.folder.now) (g.F.Folder.disk c.loop-index.folder) (g.F.Folder.disk c.load_change.new.folder) c.loop-index.invariant.disk c.load_change.ensures.disk

pub returns-in_err-push-in-Some-clause-disk : goal.returns-in_err-push-in-Some-clause-disk
returns-in_err-push-in-Some-clause-disk g c =
    told_none_then (g.F.Folder.disk c.args.folder.now) (g.F.Folder.disk c.loop-index.folder) (g.F.Folder.disk c.load_change.new.folder) c.loop-index.invariant.disk c.load_change.ensures.disk

pub loop-index-preserved : goal.loop-index-preserved
loop-index-preserved g c =
    let docs = c.args.self.now in
    let e = c.in-Some.entry.now in
    let change = c.in_ok-load_change-in-Some.field-0 in
    let before = g.F.Folder.disk c.args.folder.now in
    let next : IsNext c.loop-index.after (entries_of docs) (Some e) = subst (λ es. IsNext c.loop-index.after es (Some e)) c.as_slice.ensures.value c.in-Some.ensures in
    let so_far : IsSoFar docs c.args.seq c.args.n (e.last).seq (c.loop-index._index + 1) before (c.loop-index.items.items ++ change ∷ []) =
    so_far_more docs c.args.seq c.args.n c.loop-index.after c.loop-index._index before c.loop-index.items.items c.loop-index.invariant.so_far e next change c.loop-index-test.true
    c.in_ok-load_change-in-Some.ensures.seq c.in_ok-load_change-in-Some.ensures.id c.in_ok-load_change-in-Some.ensures.body
    (bytes_back docs before (g.F.Folder.disk c.loop-index.folder) c.loop-index.invariant.disk (λ bytes. IsStored e.id bytes e.last (option_map json change.doc)) c.in_ok-load_change-in-Some.ensures.held) in
    let was = c.in_ok-load_change-in-Some.was in
    let still : g.F.Folder.faults c.load_change.new.folder ≡ g.F.Folder.faults c.loop-index.folder = c.load_change.ensures.cause.still (λ is. (let no : ⊥ = cc in no)) in
    let first = c.loop-index.invariant.reads in
    let second = c.load_change.ensures.reads in
    record {
      so_far = subst (IsSoFar docs c.args.seq c.args.n (e.last).seq (c.loop-index._index + 1) before) (sym c.in_ok-push-in-Some.ensures.items) so_far;
      disk = told_none_then before (g.F.Folder.disk c.loop-index.folder) (g.F.Folder.disk c.load_change.new.folder) c.loop-index.invariant.disk c.load_change.ensures.disk;
      faults = still ∙ c.loop-index.invariant.faults;
      reads = record { later = omega (arith, first.later, second.later); within = omega (arith, first.within, second.within) };
    }

pub returns-in-None-clause-written : goal.returns-in-None-clause-written
returns-in-None-clause-written g c =
    let docs = c.args.self.now in
    let next : IsNext c.loop-index.after (entries_of docs) None = subst (λ es. IsNext c.loop-index.after es None) c.as_slice.ensures.value c.in-None.ensures in
    written_none docs c.args.seq c.args.n c.loop-index.after c.loop-index._index (g.F.Folder.disk c.args.folder.now) c.loop-index.items.items c.loop-index.invariant.so_far next

pub returns-clause-written : goal.returns-clause-written
returns-clause-written g c =
    written_full c.args.self.now c.args.seq c.args.n c.loop-index.after c.loop-index._index (g.F.Folder.disk c.args.folder.now) c.loop-index.items.items c.loop-index.invariant.so_far (omega arith)

pub returns-clause-whole : goal.returns-clause-whole
returns-clause-whole g c =
    whole_full c.args.self.now c.args.seq c.args.n c.loop-index.after c.loop-index._index (g.F.Folder.disk c.args.folder.now) c.loop-index.items.items c.loop-index.invariant.so_far (omega arith)
