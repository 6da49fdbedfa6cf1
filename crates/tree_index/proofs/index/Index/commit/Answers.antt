-- All that takes memory is done before the disk is asked, and then the record is published.
use Rattle.std.specs.Prelude.{◌≡◌, ℕ, List, All, OnOk, Result, Ok, Err, Some, length, ◌++◌}
use Rattle.std.proofs.Common.{ap, sym, ◌∙◌, subst, inl, inr, refl, rules}
use Rattle.view_ports.proofs.DiskRuns.{on_ok}
use Rattle.gate_file.specs.Calls.{too_long, used_up}
use Rattle.gate_file.specs.declared.fault.GateFault.{GateFault}
use Rattle.gate_file.specs.declared.gate.GateFile.{GateFile}
use Rattle.gate_file.specs.GateFile.{name_of}
use Rattle.gate_file.specs.Publish.{published, IsFull, IsTooLong, IsUsedUp}
use Rattle.gate_file.proofs.Stepped.{ended_err}
use Rattle.tree_laws.specs.declared.tree.Tree.{Tree}
use Rattle.view_model.specs.Picture.{Picture}
use Rattle.index_items.specs.RootRecord.{root_bytes, IsFitTree, IsRootOf}
use Rattle.tree_index.specs.declared.fault.IndexFault.{IndexFault}
use Rattle.tree_index.specs.declared.index.Index.{Index}
use Rattle.tree_index.specs.Calls.{next_picture, next_size, IsAt, IsOpen, IsWhole}
use Rattle.tree_index.specs.Index.{file_of, next_of, stem_of}
use Rattle.tree_index.specs.Trees.{seen}
use Rattle.tree_index.proofs.Committing.{at_now, bytes_stay, none_stays, open_published, others_stay_published, others_unmoved, publishes, stays_at, whole_published, Written}
use Rattle.tree_index.proofs.index.Index.commit.Goals as goal

-- what is written is the root record of the next trees
as_written : (index : Index) (seq : ℕ) (views : List Tree) → views ≡ (next_of index).views.items
    → ((offset : ℕ) → All (IsFitTree offset) views → IsFitTree offset (next_of index).back → IsRootOf (length views) offset (root_bytes seq views (next_of index).back) seq views (next_of index).back)
    → Written index seq
as_written index seq views same written =
    subst (λ vs. (offset : ℕ) → All (IsFitTree offset) vs → IsFitTree offset (next_of index).back → IsRootOf (length vs) offset (root_bytes seq vs (next_of index).back) seq vs (next_of index).back) same written

pub returns-in_err-write_root : goal.returns-in_err-write_root
returns-in_err-write_root g c =
    let index = c.args.self.now in
    let next = next_picture c.args.seq index in
    record {
      file = search rules;
      picture = search rules;
      trees = search rules;
      settled = search rules;
      name = search rules;
      kept = search rules;
      untouched = search rules;
      full = λ is. (refl, refl);
      stands = λ functions views picture at. stays_at functions views index (g.F.Folder.disk c.args.folder.now) picture next (λ files. OnOk c.from_residual.result (IsAt functions views index files (Some next) × IsWhole index files))
          (λ files. ended_err c.from_residual.result (IsAt functions views index files (Some next) × IsWhole index files) c.from_residual.ensures.0) at;
      stays = none_stays index (g.F.Folder.disk c.args.folder.now) c.from_residual.result (λ P. ended_err c.from_residual.result P c.from_residual.ensures.0);
      others = others_unmoved (g.F.Folder.disk c.args.folder.now) (stem_of index) (λ files. OnOk c.from_residual.result (IsOpen index files)) (λ files. ended_err c.from_residual.result _ c.from_residual.ensures.0);
      long = record { only = search rules; always = λ is. inr (search rules) };
      spent = record { only = search rules; always = λ is. inr (search rules) };
      faults = search rules;
      cause = search rules;
      reads = search rules;
    }

pub returns-in_err-publish : goal.returns-in_err-publish
returns-in_err-publish g c =
    let index = c.args.self.now in
    let seq = c.args.seq in
    let bytes_are : c.as_slice-2.result.now ≡ root_bytes seq (next_of index).views.items (next_of index).back = c.as_slice-2.ensures.value ∙ c.in_ok-write_root.ensures.bytes ∙ (λ i. c.new-bytes.ensures.items i ++ root_bytes seq (c.as_slice.ensures.value i) (next_of index).back) in
    let written : Written index seq = as_written index seq c.as_slice.result.now c.as_slice.ensures.value (λ offset each last. c.in_ok-write_root.ensures.is_root offset each last) in
    let size : length c.as_slice-2.result.now ≡ next_size seq index = ap length bytes_are in
    record {
      file = search rules;
      picture = search rules;
      trees = search rules;
      settled = search rules;
      name = c.publish.ensures.name;
      kept = search rules;
      untouched = search rules;
      stands = λ functions views picture at. publishes index seq c.as_slice-2.result.now bytes_are written functions views (g.F.Folder.disk c.args.folder.now) (g.F.Folder.disk c.publish.new.folder) picture c.publish.result _
          (λ a b is_at others ended. ended_err c.from_residual-in_err-publish.result _ c.from_residual-in_err-publish.ensures.0) at c.publish.ensures.disk;
      full = λ is.
          let whole : IsFull (file_of index) (length c.as_slice-2.result.now) = subst (IsFull (file_of index)) (sym size) is in
          (c.publish.ensures.err whole, c.publish.ensures.untouched whole);
      stays = bytes_stay index c.as_slice-2.result.now (g.F.Folder.disk c.args.folder.now) (g.F.Folder.disk c.publish.new.folder) c.publish.result c.from_residual-in_err-publish.result
          (λ P so. ended_err c.from_residual-in_err-publish.result P c.from_residual-in_err-publish.ensures.0) c.publish.ensures.disk;
      others = others_stay_published index c.as_slice-2.result.now (g.F.Folder.disk c.args.folder.now) (g.F.Folder.disk c.publish.new.folder) c.publish.result _
          (λ a b is_open others ended. ended_err c.from_residual-in_err-publish.result _ c.from_residual-in_err-publish.ensures.0) c.requires.open c.publish.ensures.disk;
      long = record {
        only = λ failed. let told : IsTooLong (file_of index) (length c.as_slice-2.result.now) = search rules in subst (IsTooLong (file_of index)) size told;
        always = λ is. let failed : c.publish.result ≡ Err (too_long (file_of index)) = c.publish.ensures.long.0 (subst (IsTooLong (file_of index)) (sym size) is) in inl (search rules);
      };
      spent = record {
        only = λ failed. let told : IsUsedUp (file_of index) (length c.as_slice-2.result.now) = search rules in subst (IsUsedUp (file_of index)) size told;
        always = λ is. let failed : c.publish.result ≡ Err (used_up (file_of index)) = c.publish.ensures.spent.0 (subst (IsUsedUp (file_of index)) (sym size) is) in inl (search rules);
      };
      faults = search rules;
      cause = search rules;
      reads = search rules;
    }

-- what was published was not too much
never_full : {T : Type 0} (gate : GateFile) (size : ℕ) (result : Result T GateFault) (done : T) → result ≡ Ok done → (IsTooLong gate size → result ≡ Err (too_long gate)) → (IsUsedUp gate size → result ≡ Err (used_up gate))
    → IsFull gate size → ⊥
never_full gate size result done was long spent (inl is) = let failed = long is in cc
never_full gate size result done was long spent (inr is) = let failed = spent is in cc

pub returns : goal.returns
returns g c =
    let index = c.args.self.now in
    let now = c.settle.new.self in
    let seq = c.args.seq in
    let bytes_are : c.as_slice-2.result.now ≡ root_bytes seq (next_of index).views.items (next_of index).back = c.as_slice-2.ensures.value ∙ c.in_ok-write_root.ensures.bytes ∙ (λ i. c.new-bytes.ensures.items i ++ root_bytes seq (c.as_slice.ensures.value i) (next_of index).back) in
    let written : Written index seq = as_written index seq c.as_slice.result.now c.as_slice.ensures.value (λ offset each last. c.in_ok-write_root.ensures.is_root offset each last) in
    let size : length c.as_slice-2.result.now ≡ next_size seq index = ap length bytes_are in
    let file : file_of now ≡ published (file_of index) (length c.as_slice-2.result.now) 0 = c.settle.ensures.file ∙ c.in_ok-publish.ensures.done in
    record {
      file = file ∙ ap (λ n. published (file_of index) n 0) size;
      picture = c.settle.ensures.picture;
      trees = c.settle.ensures.last;
      settled = record { rows = c.settle.ensures.rows ∙ sym (ap (λ (p : Picture). p.rows) c.settle.ensures.picture); trees = ap seen c.settle.ensures.next ∙ sym c.settle.ensures.last };
      name = ap name_of c.settle.ensures.file ∙ c.publish.ensures.name;
      kept = search rules;
      untouched = search rules;
      stands = λ functions views picture at. publishes index seq c.as_slice-2.result.now bytes_are written functions views (g.F.Folder.disk c.args.folder.now) (g.F.Folder.disk c.publish.new.folder) picture c.publish.result _
          (λ a b is_at others ended.
          let done = on_ok c.publish.result c.in_ok-publish.field-0 _ c.in_ok-publish.was ended in (
            at_now index seq c.as_slice-2.result.now bytes_are written now file c.settle.ensures.last (ap seen c.settle.ensures.next) a b is_at.is_open others done c.settle.ensures.picture c.settle.ensures.rows functions views picture is_at,
            whole_published index seq c.as_slice-2.result.now bytes_are written now file c.settle.ensures.last (ap seen c.settle.ensures.next) a b is_at.is_open others done c.settle.ensures.picture,
          )) at c.publish.ensures.disk;
      full = λ is.
          let whole : IsFull (file_of index) (length c.as_slice-2.result.now) = subst (IsFull (file_of index)) (sym size) is in
          absurd (never_full (file_of index) (length c.as_slice-2.result.now) c.publish.result c.in_ok-publish.field-0 c.in_ok-publish.was c.publish.ensures.long.0 c.publish.ensures.spent.0 whole);
      stays = bytes_stay {X = Unit {0}} {Y = IndexFault} index c.as_slice-2.result.now (g.F.Folder.disk c.args.folder.now) (g.F.Folder.disk c.publish.new.folder) c.publish.result (Ok tt)
          (λ P so. on_ok c.publish.result c.in_ok-publish.field-0 P c.in_ok-publish.was so) c.publish.ensures.disk;
      others = others_stay_published index c.as_slice-2.result.now (g.F.Folder.disk c.args.folder.now) (g.F.Folder.disk c.publish.new.folder) c.publish.result _
          (λ a b is_open others ended. open_published index seq c.as_slice-2.result.now bytes_are written now file c.settle.ensures.last (ap seen c.settle.ensures.next) a b is_open others (on_ok c.publish.result c.in_ok-publish.field-0 _ c.in_ok-publish.was ended) c.settle.ensures.picture) c.requires.open c.publish.ensures.disk;
      long = record {
        only = search rules;
        always = λ is. absurd (never_full (file_of index) (length c.as_slice-2.result.now) c.publish.result c.in_ok-publish.field-0 c.in_ok-publish.was c.publish.ensures.long.0 c.publish.ensures.spent.0 (inl (subst (IsTooLong (file_of index)) (sym size) is)));
      };
      spent = record {
        only = search rules;
        always = λ is. absurd (never_full (file_of index) (length c.as_slice-2.result.now) c.publish.result c.in_ok-publish.field-0 c.in_ok-publish.was c.publish.ensures.long.0 c.publish.ensures.spent.0 (inr (subst (IsUsedUp (file_of index)) (sym size) is)));
      };
      faults = search rules;
      cause = search rules;
      reads = search rules;
    }
