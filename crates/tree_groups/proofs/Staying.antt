-- An index that was updated is of the same files and of as many views.
use Rattle.std.specs.Prelude.{◌≡◌, List, Result, Ok, Err}
use Rattle.std.proofs.Common.{ap, ◌∙◌, ⊎_elim}
use Rattle.std.proofs.lemmas.Bool.{cases_eq}
use Rattle.view_ports.specs.declared.file_name.FileName.{FileName}
use Rattle.view_ports.specs.declared.folder.Folder.{Ghosts as Folders}
use Rattle.view_ports.specs.declared.servers.Servers.{Ghosts as Servers}
use Rattle.design_docs.specs.declared.design.Design.{Design}
use Rattle.doc_file.specs.declared.docs.Docs.{Docs}
use Rattle.doc_file.specs.Docs.{seq_of as written}
use Rattle.row_exchange.specs.declared.doc_rows.DocRows.{DocRows}
use Rattle.change_mapper.specs.declared.fault.MappingFault.{MappingFault}
use Rattle.tree_index.specs.declared.index.Index.{Index}
use Rattle.tree_index.specs.Index.{last_of, seq_of, stem_of, views_of}
use Rattle.tree_index.proofs.Sizes.{same_number}
use Rattle.tree_updater.specs.declared.fault.UpdateFault.{UpdateFault}
use Rattle.tree_updater.specs.Sides.{IsRolledBack, Side}
use Rattle.tree_updater.specs.Updates.{MapsThenWrites, ThenWrites, Updates}

pub record IsOfSame (old new : Index) : Type 0 where
  pub stem : stem_of new ≡ stem_of old
  pub number : views_of new ≡ views_of old

rolled_same : (old now : Index) → IsRolledBack old now → IsOfSame old now
rolled_same old now back = record { stem = ap (λ (n : FileName). n.stem) back.same.name; number = same_number (last_of old) (last_of now) back.same.last }

pub updated_same : {F C : Type 0} (f : Folders F) (s : Servers C) (docs : Docs) (design : Design) (old new : Side F C) (result : Result (Unit {0}) UpdateFault) → Updates f s docs design old new result → IsOfSame old.index new.index
updated_same f s docs design old new result updates = ⊎_elim
    (λ newest. let same = (updates.idle newest).1 in record { stem = ap (λ (side : Side _ _). stem_of side.index) same; number = ap (λ (side : Side _ _). views_of side.index) same })
    (λ differs. let due = updates.due differs in by_mapped due due.mapped due.writes) (cases_eq (seq_of old.index) (written docs))
  where
    by_mapped : (due : MapsThenWrites f s docs design old new result) (mapped : Result (List DocRows) MappingFault) → ThenWrites f s docs design old new due.between due.rolled mapped result → IsOfSame old.index new.index
    by_mapped due (Ok rows) writes =
        let rolled = rolled_same old.index due.rolled due.back in
        record { stem = ap (λ (n : FileName). n.stem) writes.1.name ∙ rolled.stem; number = writes.1.number ∙ rolled.number }
    by_mapped due (Err fault) writes =
        let rolled = rolled_same old.index due.rolled due.back in
        record { stem = ap (λ (side : Side _ _). stem_of side.index) writes.1 ∙ rolled.stem; number = ap (λ (side : Side _ _). views_of side.index) writes.1 ∙ rolled.number }
