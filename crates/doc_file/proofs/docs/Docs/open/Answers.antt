-- The root record is read once the pair is opened, and a read changes nothing.
use Rattle.std.proofs.Common.{◌≡◌, ℕ, List, length, Option, inl, inr, sym, Err, IfOk, subst, rules}
use Rattle.view_ports.specs.Disk.{Disk, IfTold, Moves, MovesNone, Tells}
use Rattle.view_ports.specs.File.{File}
use Rattle.gate_file.specs.declared.gate.GateFile.{GateFile}
use Rattle.gate_file.specs.GateFile.{commits_of, name_of, root_of}
use Rattle.view_ports.specs.declared.file_name.FileName.{FileName}
use Rattle.view_ports.specs.declared.file_name.Stem.TheVariants.{Docs as DocsStem}
use Rattle.view_ports.proofs.Told.{told_after, told_back, told_given, told_now, told_pair, told_then}
use Rattle.view_ports.proofs.DiskRuns.{none_same}
use Rattle.gate_file.specs.declared.fault.GateFault.TheVariants.{Damaged}
use Rattle.gate_file.specs.Open.{found, opened, AreFitSlots, IsOpened, WhileOpening}
use Rattle.gate_file.specs.Pair.{own_bytes}
use Rattle.gate_file.proofs.Numbered.{commits_opened}
use Rattle.gate_file.proofs.Opened.{opened_damaged, opened_holds, opened_open, opening_stands, undamaged}
use Rattle.gate_file.proofs.Openings.{failed_open}
use Rattle.gate_file.proofs.Stretches.{moves_then_none, told_end, IsOpened-same}
use Rattle.doc_file.specs.declared.fault.DocFault.TheVariants.{Gate}
use Rattle.doc_file.specs.declared.record.RootRecord.{RootRecord}
use Rattle.doc_file.specs.declared.docs.Docs.{Docs}
use Rattle.doc_file.specs.Docs.{file_of, HoldsHistory, IsAt, IsDamagedAt, IsDocsFile, IsLoaded, IsOpen}
use Rattle.doc_file.specs.Held.{HoldsRoot, HoldsWrites, SpellsRoot}
use Rattle.design_docs.specs.History.{Write}
use Rattle.doc_file.proofs.Carried.{writes_of_root}
use Rattle.doc_file.proofs.Stores.{at_writes, counted_kept}
use Rattle.doc_file.proofs.docs.Docs.open.Goals as goal

pub returns-in_err-root-clause-disk : goal.returns-in_err-root-clause-disk
returns-in_err-root-clause-disk g c =
    told_then (g.F.Folder.disk c.args.folder.now) (g.F.Folder.disk c.open.new.folder) (g.F.Folder.disk c.load_root.new.folder)
    (λ old new. Moves (λ name. name.stem ≡ DocsStem) (WhileOpening DocsStem old.now) (λ files. IfOk c.open.result (λ gate. IsOpened gate old.now files)) old new) MovesNone
    (λ old new. Moves (λ name. name.stem ≡ DocsStem) (WhileOpening DocsStem old.now) (λ files. IfOk c.from_residual-in_err-root.result (λ docs. IsOpened (file_of docs) old.now files)) old new)
    (λ a b d first none. moves_then_none (λ name. name.stem ≡ DocsStem) (WhileOpening DocsStem a.now) (λ files. IfOk c.open.result (λ gate. IsOpened gate a.now files))
    (λ files. IfOk c.from_residual-in_err-root.result (λ docs. IsOpened (file_of docs) a.now files)) a b d
    (λ ended same. failed_open c.from_residual-in_err-root.result (λ docs. IsOpened (file_of docs) a.now d.now) c.from_residual-in_err-root.ensures.0) first none)
    c.open.ensures.disk c.load_root.ensures.disk

pub returns-clause-disk : goal.returns-clause-disk
returns-clause-disk g c =
    let file = c.in_ok-file.file in
    told_then (g.F.Folder.disk c.args.folder.now) (g.F.Folder.disk c.open.new.folder) (g.F.Folder.disk c.load_root.new.folder)
    (λ old new. Moves (λ name. name.stem ≡ DocsStem) (WhileOpening DocsStem old.now) (λ files. IfOk c.open.result (λ gate. IsOpened gate old.now files)) old new) MovesNone
    (λ old new. Moves (λ name. name.stem ≡ DocsStem) (WhileOpening DocsStem old.now) (λ files. IsOpened file old.now files) old new)
    (λ a b d first none. moves_then_none (λ name. name.stem ≡ DocsStem) (WhileOpening DocsStem a.now) (λ files. IfOk c.open.result (λ gate. IsOpened gate a.now files))
    (λ files. IsOpened file a.now files) a b d
    (λ ended same. IsOpened-same file a.now b.now d.now (subst (λ r. IfOk r (λ gate. IsOpened gate a.now b.now)) c.in_ok-file.was ended) same) first none)
    c.open.ensures.disk c.load_root.ensures.disk

abbrev Opens : GateFile → (FileName → File) → Type 0
Opens file old = file ≡ opened DocsStem old

pub returns-in_err-file-clause-damaged : goal.returns-in_err-file-clause-damaged
returns-in_err-file-clause-damaged g c =
    told_now (g.F.Folder.disk c.args.folder.now) _ _
    (λ d damaged n at failed. let was : c.open.result ≡ Err (Damaged n at) = search rules in inl (damaged n at was))
    c.open.ensures.damaged

pub returns-in_err-root-clause-damaged : goal.returns-in_err-root-clause-damaged
returns-in_err-root-clause-damaged g c =
    let file = c.in_ok-file.file in
    let fit_first : Disk FileName → Type 0 = λ d. AreFitSlots DocsStem d.now → (n : FileName) (at : ℕ) → c.from_residual-in_err-root.result ≡ Err (Gate (Damaged n at)) → IsDamagedAt d.now n at in
    told_pair (g.F.Folder.disk c.args.folder.now) (λ d. AreFitSlots DocsStem d.now) fit_first _ (λ d fit found. found fit) c.in_ok-file.ensures.sound
    (told_pair (g.F.Folder.disk c.args.folder.now) (λ d. Opens file d.now) (λ d. Opens file d.now → fit_first d) fit_first
    (λ d file_is found. found file_is)
    c.in_ok-file.ensures.opened
    (told_back (g.F.Folder.disk c.args.folder.now) (g.F.Folder.disk c.open.new.folder) (λ d. Opens file d.now → fit_first d) _ _
    (λ a b moved lacks file_is fit n at failed.
    let was : c.load_root.result ≡ Err (Gate (Damaged n at)) = search rules in
    let is = subst (λ r. IfOk r (λ gate. IsOpened gate a.now b.now)) c.in_ok-file.was moved.ended in
    inr (
      fit,
      opened_damaged DocsStem file a.now b.now file_is is SpellsRoot n at (record {
        place = c.load_root.ensures.place n at was;
        none = λ x spelled. lacks n at was x.0 x.1 (counted_kept (own_bytes file b.now) x.0 x.1 (root_of file) (commits_of file) is.keeps.counted spelled);
      }),
    ))
    c.open.ensures.disk c.load_root.ensures.damaged))

-- what the root record holds is held in the end
held_end : (file : GateFile) (root : RootRecord) (mid new : Option (Disk FileName)) → IfTold mid (λ d. HoldsRoot (root_of file) (commits_of file) (d.now (name_of file)).seen root.seq root.entries.items) → Tells mid new MovesNone
    → IfTold new (λ d. HoldsRoot (root_of file) (commits_of file) (d.now (name_of file)).seen root.seq root.entries.items)
held_end file root mid new held none =
    told_after mid new (λ d. HoldsRoot (root_of file) (commits_of file) (d.now (name_of file)).seen root.seq root.entries.items) (λ d. HoldsRoot (root_of file) (commits_of file) (d.now (name_of file)).seen root.seq root.entries.items) MovesNone
    (λ a b is moved. subst (λ f. HoldsRoot (root_of file) (commits_of file) f.seen root.seq root.entries.items) (sym (none_same a b moved (name_of file))) is) held none

pub returns-in_err-file-clause-stands : goal.returns-in_err-file-clause-stands
returns-in_err-file-clause-stands g c = λ history holds.
    opening_stands DocsStem HoldsWrites writes_of_root (g.F.Folder.disk c.args.folder.now) (g.F.Folder.disk c.open.new.folder) history (λ old files. IfOk c.open.result (λ gate. IsOpened gate old files)) _
    (λ a b is ended. failed_open c.from_residual.result _ c.from_residual.ensures.0) holds c.open.ensures.disk

pub returns-in_err-file-clause-sound : goal.returns-in_err-file-clause-sound
returns-in_err-file-clause-sound g c = λ history.
    told_now (g.F.Folder.disk c.args.folder.now) _ _
    (λ d damaged holds n at failed. let was : c.open.result ≡ Err (Damaged n at) = search rules in undamaged DocsStem HoldsWrites d.now history n at holds (damaged n at was))
    c.open.ensures.damaged

pub returns-in_err-root-clause-stands : goal.returns-in_err-root-clause-stands
returns-in_err-root-clause-stands g c = λ history holds.
    opening_stands DocsStem HoldsWrites writes_of_root (g.F.Folder.disk c.args.folder.now) (g.F.Folder.disk c.load_root.new.folder) history (λ old files. IfOk c.from_residual-in_err-root.result (λ docs. IsOpened (file_of docs) old files)) _
    (λ a b is ended. failed_open c.from_residual-in_err-root.result _ c.from_residual-in_err-root.ensures.0) holds (returns-in_err-root-clause-disk g c)

pub returns-in_err-root-clause-sound : goal.returns-in_err-root-clause-sound
returns-in_err-root-clause-sound g c = λ history.
    let file = c.in_ok-file.file in
    told_pair (g.F.Folder.disk c.args.folder.now) (λ d. Opens file d.now) (λ d. Opens file d.now → HoldsHistory d.now history → (n : FileName) (at : ℕ) → c.from_residual-in_err-root.result ≡ Err (Gate (Damaged n at)) → ⊥) _
    (λ d file_is never holds n at failed. never file_is holds n at failed)
    c.in_ok-file.ensures.opened
    (told_back (g.F.Folder.disk c.args.folder.now) (g.F.Folder.disk c.open.new.folder) (λ d. Opens file d.now → HoldsHistory d.now history → (n : FileName) (at : ℕ) → c.from_residual-in_err-root.result ≡ Err (Gate (Damaged n at)) → ⊥) _ _
    (λ a b moved damaged file_is holds n at failed.
    let was : c.load_root.result ≡ Err (Gate (Damaged n at)) = search rules in
    let is = subst (λ r. IfOk r (λ gate. IsOpened gate a.now b.now)) c.in_ok-file.was moved.ended in
    let held = opened_holds DocsStem file a.now b.now file_is is HoldsWrites writes_of_root history holds in
    damaged n at was (length history) held.entries (counted_kept (own_bytes file b.now) (length history) held.entries (root_of file) (commits_of file) is.keeps.counted held.holds))
    c.open.ensures.disk c.load_root.ensures.damaged)

-- the object that is opened, whose root record is loaded
module _ (docs : Docs) (old new : FileName → File) (file_is : file_of docs ≡ opened DocsStem old) (is : IsOpened (file_of docs) old new) (loaded : IsLoaded docs new) where
  opens : IsOpen docs new
  opens = record { pair = opened_open DocsStem (file_of docs) old new file_is is; commits = commits_opened DocsStem (file_of docs) old file_is; loaded = loaded }

  opens_at : (history : List Write) → HoldsHistory old history → IsAt docs new history
  opens_at history holds = at_writes docs new opens history (opened_holds DocsStem (file_of docs) old new file_is is HoldsWrites writes_of_root history holds)

pub returns-clause-open : goal.returns-clause-open
returns-clause-open g c =
    let file = c.in_ok-file.file in
    told_after (g.F.Folder.disk c.args.folder.now) (g.F.Folder.disk c.load_root.new.folder) (λ d. Opens file d.now) _ (λ a b. Moves IsDocsFile (WhileOpening DocsStem a.now) (λ files. IsOpened file a.now files) a b × HoldsRoot (root_of file) (commits_of file) (b.now (name_of file)).seen c.in_ok-root.root.seq c.in_ok-root.root.entries.items)
    (λ a b file_is told. opens _ a.now b.now file_is told.0.ended told.1)
    c.in_ok-file.ensures.opened
    (told_end (g.F.Folder.disk c.args.folder.now) (g.F.Folder.disk c.load_root.new.folder) (λ a b. Moves IsDocsFile (WhileOpening DocsStem a.now) (λ files. IsOpened file a.now files) a b) (λ d. HoldsRoot (root_of file) (commits_of file) (d.now (name_of file)).seen c.in_ok-root.root.seq c.in_ok-root.root.entries.items)
    (returns-clause-disk g c) (held_end file c.in_ok-root.root (g.F.Folder.disk c.open.new.folder) (g.F.Folder.disk c.load_root.new.folder) c.in_ok-root.ensures.held c.load_root.ensures.disk))

-- what is known of the files at the end of an opening
abbrev Ends : GateFile → RootRecord → (FileName → File) → (FileName → File) → Type 0
Ends file root old files = Opens file old × IsOpened file old files × HoldsRoot (root_of file) (commits_of file) (files (name_of file)).seen root.seq root.entries.items

opens_with : (file : GateFile) (root : RootRecord) (old new : Option (Disk FileName)) → IfTold old (λ d. Opens file d.now)
    → Tells old new (λ a b. Moves IsDocsFile (WhileOpening DocsStem a.now) (λ files. IsOpened file a.now files) a b × HoldsRoot (root_of file) (commits_of file) (b.now (name_of file)).seen root.seq root.entries.items)
    → Tells old new (λ a b. Moves IsDocsFile (WhileOpening DocsStem a.now) (Ends file root a.now) a b)
opens_with file root old new known told =
    told_given old new (λ d. Opens file d.now) (λ a b. Moves IsDocsFile (WhileOpening DocsStem a.now) (λ files. IsOpened file a.now files) a b × HoldsRoot (root_of file) (commits_of file) (b.now (name_of file)).seen root.seq root.entries.items)
    (λ a b. Moves IsDocsFile (WhileOpening DocsStem a.now) (Ends file root a.now) a b)
    (λ a b is both. record { moments = both.0.moments; others = both.0.others; ended = (is, both.0.ended, both.1) }) known told

pub returns-clause-stands : goal.returns-clause-stands
returns-clause-stands g c = λ history holds.
    let file = c.in_ok-file.file in
    opening_stands DocsStem HoldsWrites writes_of_root (g.F.Folder.disk c.args.folder.now) (g.F.Folder.disk c.load_root.new.folder) history (Ends file c.in_ok-root.root) _
    (λ a b is ended. opens_at _ a.now b.now ended.0 ended.1 ended.2 history is) holds
    (opens_with file c.in_ok-root.root (g.F.Folder.disk c.args.folder.now) (g.F.Folder.disk c.load_root.new.folder) c.in_ok-file.ensures.opened
    (told_end (g.F.Folder.disk c.args.folder.now) (g.F.Folder.disk c.load_root.new.folder) (λ a b. Moves IsDocsFile (WhileOpening DocsStem a.now) (λ files. IsOpened file a.now files) a b) (λ d. HoldsRoot (root_of file) (commits_of file) (d.now (name_of file)).seen c.in_ok-root.root.seq c.in_ok-root.root.entries.items)
    (returns-clause-disk g c) (held_end file c.in_ok-root.root (g.F.Folder.disk c.open.new.folder) (g.F.Folder.disk c.load_root.new.folder) c.in_ok-root.ensures.held c.load_root.ensures.disk)))
