use Rattle.std.specs.Prelude.{◌≡◌, ◌≢◌, List, Result, Ok, Err}
use Rattle.std.proofs.Common.{sym, ap, ◌∙◌, subst}
use Rattle.view_ports.proofs.DiskRuns.{none_same}
use Rattle.view_ports.proofs.Told.{told_after}
use Rattle.view_ports.specs.Disk.{MovesNone}
use Rattle.view_ports.specs.File.{File}
use Rattle.view_ports.specs.declared.file_name.FileName.{FileName}
use Rattle.doc_file.specs.declared.docs.Info.{Info}
use Rattle.doc_file.specs.Docs.{seq_of as written}
use Rattle.row_exchange.specs.declared.doc_rows.DocRows.{DocRows}
use Rattle.change_mapper.specs.Mapped.{outer, MapsChanges}
use Rattle.tree_index.specs.Calls.{IsOpen}
use Rattle.tree_index.specs.Index.{seq_of}
use Rattle.tree_updater.specs.declared.fault.UpdateFault.{UpdateFault}
use Rattle.tree_updater.specs.Faults.{by_index, by_mapping}
use Rattle.tree_updater.specs.Sides.{side, IsRolledBack}
use Rattle.tree_updater.specs.Updates.{Updates}
use Rattle.tree_updater.specs.Writes.{Writes}
use Rattle.change_mapper.proofs.OnlyReading.{failed_as}
use Rattle.tree_updater.proofs.Rolled.{open_back, views_back}
use Rattle.tree_updater.proofs.Updated.{stays, unmapped, was_written}
use Rattle.tree_updater.proofs.updating.update.Goals as goal

pub returns-then-seq-newest : goal.returns-then-seq-newest
returns-then-seq-newest g c =
    let old = side c.args.folder.now c.args.servers.now c.args.pool.now c.args.index.now c.args.cache.now c.args.steps.now in
    stays g.F.Folder g.C.Servers c.args.docs.now c.args.design.now old (sym c.seq-seq.ensures ∙ c.if-seq-newest.true ∙ ap (λ (info : Info). info.update_seq) c.info-newest.ensures.kept)

pub returns-in_err-rows : goal.returns-in_err-rows
returns-in_err-rows g c =
    let docs = c.args.docs.now in
    let design = c.args.design.now in
    let old = side c.args.folder.now c.args.servers.now c.args.pool.now c.args.index.now c.args.cache.now c.args.steps.now in
    let between = outer c.map_changes.new.folder c.map_changes.new.servers c.map_changes.new.pool in
    let rolled = c.roll_back.new.self in
    let back : IsRolledBack c.args.index.now rolled = record { same = c.roll_back.ensures.same; file = c.roll_back.ensures.file; settled = c.roll_back.ensures.settled } in
    let left = side c.map_changes.new.folder c.map_changes.new.servers c.map_changes.new.pool rolled c.args.cache.now c.args.steps.now in
    let newest_is : c.info-newest.result.update_seq ≡ written docs = ap (λ (info : Info). info.update_seq) c.info-newest.ensures.kept in
    let differs : seq_of c.args.index.now ≢ written docs = λ same. c.if-seq-newest.false (c.seq-seq.ensures ∙ same ∙ sym newest_is) in
    let fault = c.in_err-rows.field-0.0 in
    subst (λ (result : Result (Unit {0}) UpdateFault). Updates g.F.Folder g.C.Servers docs design old left result) (sym (failed_as c.from_residual.result (by_mapping fault) c.from_residual.ensures))
    (unmapped g.F.Folder g.C.Servers docs design old rolled back between differs fault
    (subst (λ n. MapsChanges g.F.Folder g.C.Servers docs design n (outer c.args.folder.now c.args.servers.now c.args.pool.now) between (Err fault)) c.seq-seq.ensures c.in_err-rows.ensures))

pub write_rows-requires-clause-index : goal.write_rows-requires-clause-index
write_rows-requires-clause-index g c =
    let rolled = c.roll_back.new.self in
    let back : IsRolledBack c.args.index.now rolled = record { same = c.roll_back.ensures.same; file = c.roll_back.ensures.file; settled = c.roll_back.ensures.settled } in
    told_after (g.F.Folder.disk c.args.folder.now) (g.F.Folder.disk c.map_changes.new.folder) (λ d. IsOpen c.args.index.now d.now) (λ d. IsOpen rolled d.now) MovesNone
    (λ a b is none. open_back c.args.index.now rolled back b.now (subst (λ (files : FileName → File). IsOpen c.args.index.now files) (let all : a.now ≡ b.now = λ i name. sym (none_same a b none name) i in all) is))
    c.requires.index c.in_ok-rows.ensures.reads.disk

pub write_rows-requires-clause-number : goal.write_rows-requires-clause-number
write_rows-requires-clause-number g c =
    let rolled = c.roll_back.new.self in
    let back : IsRolledBack c.args.index.now rolled = record { same = c.roll_back.ensures.same; file = c.roll_back.ensures.file; settled = c.roll_back.ensures.settled } in
    views_back c.args.index.now rolled back ∙ c.requires.number

pub write_rows-requires-clause-settled : goal.write_rows-requires-clause-settled
write_rows-requires-clause-settled g c = c.roll_back.ensures.settled

pub returns-in_err-write_rows : goal.returns-in_err-write_rows
returns-in_err-write_rows g c =
    let docs = c.args.docs.now in
    let design = c.args.design.now in
    let old = side c.args.folder.now c.args.servers.now c.args.pool.now c.args.index.now c.args.cache.now c.args.steps.now in
    let between = outer c.map_changes.new.folder c.map_changes.new.servers c.map_changes.new.pool in
    let rolled = c.roll_back.new.self in
    let back : IsRolledBack c.args.index.now rolled = record { same = c.roll_back.ensures.same; file = c.roll_back.ensures.file; settled = c.roll_back.ensures.settled } in
    let mid = side c.map_changes.new.folder c.map_changes.new.servers c.map_changes.new.pool rolled c.args.cache.now c.args.steps.now in
    let new = side c.write_rows.new.folder c.write_rows.new.servers c.write_rows.new.pool c.write_rows.new.index c.write_rows.new.cache c.write_rows.new.steps in
    let newest_is : c.info-newest.result.update_seq ≡ written docs = ap (λ (info : Info). info.update_seq) c.info-newest.ensures.kept in
    let differs : seq_of c.args.index.now ≢ written docs = λ same. c.if-seq-newest.false (c.seq-seq.ensures ∙ same ∙ sym newest_is) in
    let rows = c.in_ok-rows.rows.items in
    let fault = c.in_err-write_rows.field-0.0 in
    let result = c.from_residual-in_err-write_rows.result in
    subst (λ (result : Result (Unit {0}) UpdateFault). Updates g.F.Folder g.C.Servers docs design old new result) (sym (failed_as result (by_index fault) c.from_residual-in_err-write_rows.ensures))
    (was_written g.F.Folder g.C.Servers docs design old rolled back between differs rows
    (subst (λ n. MapsChanges g.F.Folder g.C.Servers docs design n (outer c.args.folder.now c.args.servers.now c.args.pool.now) between (Ok rows)) c.seq-seq.ensures c.in_ok-rows.ensures)
    new (Err fault)
    (subst (λ n. Writes g.F.Folder g.C.Servers design rows n mid new (Err fault)) newest_is
    (subst (λ (rs : List DocRows). Writes g.F.Folder g.C.Servers design rs c.info-newest.result.update_seq mid new (Err fault)) c.as_slice-rows.ensures.value c.in_err-write_rows.ensures)))

pub returns : goal.returns
returns g c =
    let docs = c.args.docs.now in
    let design = c.args.design.now in
    let old = side c.args.folder.now c.args.servers.now c.args.pool.now c.args.index.now c.args.cache.now c.args.steps.now in
    let between = outer c.map_changes.new.folder c.map_changes.new.servers c.map_changes.new.pool in
    let rolled = c.roll_back.new.self in
    let back : IsRolledBack c.args.index.now rolled = record { same = c.roll_back.ensures.same; file = c.roll_back.ensures.file; settled = c.roll_back.ensures.settled } in
    let mid = side c.map_changes.new.folder c.map_changes.new.servers c.map_changes.new.pool rolled c.args.cache.now c.args.steps.now in
    let new = side c.write_rows.new.folder c.write_rows.new.servers c.write_rows.new.pool c.write_rows.new.index c.write_rows.new.cache c.write_rows.new.steps in
    let newest_is : c.info-newest.result.update_seq ≡ written docs = ap (λ (info : Info). info.update_seq) c.info-newest.ensures.kept in
    let differs : seq_of c.args.index.now ≢ written docs = λ same. c.if-seq-newest.false (c.seq-seq.ensures ∙ same ∙ sym newest_is) in
    let rows = c.in_ok-rows.rows.items in
    was_written g.F.Folder g.C.Servers docs design old rolled back between differs rows
    (subst (λ n. MapsChanges g.F.Folder g.C.Servers docs design n (outer c.args.folder.now c.args.servers.now c.args.pool.now) between (Ok rows)) c.seq-seq.ensures c.in_ok-rows.ensures)
    new (Ok tt)
    (subst (λ n. Writes g.F.Folder g.C.Servers design rows n mid new (Ok tt)) newest_is
    (subst (λ (rs : List DocRows). Writes g.F.Folder g.C.Servers design rs c.info-newest.result.update_seq mid new (Ok tt)) c.as_slice-rows.ensures.value c.in_ok-write_rows.ensures))
