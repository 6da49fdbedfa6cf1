-- All that takes memory is done before the disk is asked, and then the draft is published.
use Rattle.std.proofs.Common.{◌≡◌, ◌⊎◌, ◌+◌, ◌≤◌, ◌<◌, ◌^◌, ◌∷◌, ℕ, inl, inr, length, OnOk, IfErr, Result, Err, option_map, refl, sym, ap, ◌∙◌, subst, rules}
use Rattle.std.proofs.lemmas.Bool.{cases_lt}
use Rattle.json_terms.specs.Seen.{json}
use Rattle.gate_file.specs.declared.fault.GateFault.{GateFault}
use Rattle.gate_file.specs.declared.fault.GateFault.TheVariants.{DiskFault}
use Rattle.gate_file.specs.declared.gate.GateFile.{GateFile}
use Rattle.gate_file.specs.Calls.{too_long, used_up, IsWriteFault}
use Rattle.gate_file.specs.GateFile.{commits_of, start_of}
use Rattle.gate_file.specs.Publish.{IsFull, IsTooLong, IsUsedUp}
use Rattle.gate_file.proofs.Stepped.{ended_err}
use Rattle.doc_file.specs.Docs.{file_of, IsAt}
use Rattle.doc_file.specs.declared.rev.Rev.{Rev}
use Rattle.doc_file.specs.Held.{find_last}
use Rattle.doc_file.specs.Stored.{generation_in, write_of}
use Rattle.doc_file.proofs.Standing.{generation_room}
use Rattle.doc_file.proofs.Storing.{counted_now, order_now, others_published, others_still, publishes, room_now, stays_at, told_at, told_open}
use Rattle.doc_file.proofs.docs.Docs.store.Goals as goal

-- a file whose disk failed was not full
not_full : {T : Type 0} (gate : GateFile) (size : ℕ) (result : Result T GateFault) → (IsTooLong gate size → result ≡ Err (too_long gate)) → (IsUsedUp gate size → result ≡ Err (used_up gate))
    → result ≡ Err DiskFault → (start_of gate + size ≤ 2 ^ 40) × (commits_of gate < 2 ^ 50)
not_full {T} gate size result long spent failed = by_length (cases_lt (2 ^ 40) (start_of gate + size))
  where
    by_commits : start_of gate + size ≤ 2 ^ 40 → (commits_of gate < 2 ^ 50) ⊎ (2 ^ 50 ≤ commits_of gate) → (start_of gate + size ≤ 2 ^ 40) × (commits_of gate < 2 ^ 50)
    by_commits short (inl few) = (short, few)
    by_commits short (inr many) = let full = spent (many, short) in absurd (let no : ⊥ = cc in no)

    by_length : (2 ^ 40 < start_of gate + size) ⊎ (start_of gate + size ≤ 2 ^ 40) → (start_of gate + size ≤ 2 ^ 40) × (commits_of gate < 2 ^ 50)
    by_length (inl more) = let full = long more in absurd (let no : ⊥ = cc in no)
    by_length (inr short) = by_commits short (cases_lt (commits_of gate) (2 ^ 50))

pub make_draft-requires-clause-counted : goal.make_draft-requires-clause-counted
make_draft-requires-clause-counted g c =
    subst (λ es. generation_in (find_last c.args.id es) ≤ c.args.self.now.seq) (sym c.as_slice.ensures.value)
    (generation_room (commits_of c.args.self.now.file) c.args.self.now.seq c.args.self.now.entries.items c.args.id c.args.self.now.counted)

pub returns-in_err-rev-clause-stored : goal.returns-in_err-rev-clause-stored
returns-in_err-rev-clause-stored g c = record {
  wrote = search rules;
  is_open = search rules;
  stands = λ history at.
      let write = write_of history c.args.id (option_map json c.args.content) in
      stays_at c.args.self.now (g.F.Folder.disk c.args.folder.now) history write (λ files. OnOk c.from_residual.result (IsAt c.args.self.now files (write ∷ history)))
      (λ files. ended_err c.from_residual.result (IsAt c.args.self.now files (write ∷ history)) c.from_residual.ensures.0) at;
  others = others_still (g.F.Folder.disk c.args.folder.now);
  long = search rules;
  short = search rules;
  spent = search rules;
  few = search rules;
  failed = search rules;
  cause = search rules;
  reads = search rules;
}

-- all but a fault of the disk leaves the object and the folder as they were
kept_whole : {F T : Type 0} (gate gate' : GateFile) (size : ℕ) (old new : F) (result : Result T GateFault) (fault : GateFault) → result ≡ Err fault → IfErr result (IsWriteFault gate)
    → (result ≡ Err (too_long gate) → IsTooLong gate size) → (result ≡ Err (used_up gate) → IsUsedUp gate size) → (IsFull gate size → gate' ≡ gate) → (IsFull gate size → new ≡ old)
    → (fault ≡ DiskFault) ⊎ ((gate' ≡ gate) × (new ≡ old))
kept_whole {T = T} gate gate' size old new result fault is faults long spent same untouched = by_fault (subst (λ (r : Result T GateFault). IfErr r (IsWriteFault gate)) is faults)
  where
    by_fault : IsWriteFault gate fault → (fault ≡ DiskFault) ⊎ ((gate' ≡ gate) × (new ≡ old))
    by_fault (inl failed) = inl failed
    by_fault (inr (inl full)) = let more = long (is ∙ ap Err full) in inr (same (inl more), untouched (inl more))
    by_fault (inr (inr full)) = let many = spent (is ∙ ap Err full) in inr (same (inr many), untouched (inr many))

pub returns-in_err-publish-clause-stored : goal.returns-in_err-publish-clause-stored
returns-in_err-publish-clause-stored g c = record {
  wrote = search rules;
  is_open = search rules;
  stands = λ history at.
      publishes c.args.self.now c.args.id (option_map json c.args.content) c.in_ok-rev.field-0 c.start-start.result c.start-start.ensures c.as_slice.result.now c.as_slice.ensures.value c.in_ok-rev.ensures
      c.requires.room c.requires.storable c.as_slice-2.result.now c.as_slice-2.ensures.value c.in_ok-rev.field-0.body refl
      (g.F.Folder.disk c.args.folder.now) (g.F.Folder.disk c.publish.new.folder) history c.publish.result _
      (λ a b is_at others ended. ended_err c.from_residual-in_err-publish.result _ c.from_residual-in_err-publish.ensures.0) at c.publish.ensures.disk;
  others = others_published c.args.self.now c.as_slice-2.result.now c.in_ok-rev.field-0.body c.publish.result (g.F.Folder.disk c.args.folder.now) (g.F.Folder.disk c.publish.new.folder) c.requires.open c.publish.ensures.disk;
  long = search rules;
  short = search rules;
  spent = search rules;
  few = search rules;
  failed = λ is.
      let was : c.publish.result ≡ Err DiskFault = search rules in
      let fits = not_full (file_of c.args.self.now) (length c.as_slice-2.result.now) c.publish.result c.publish.ensures.long.0 c.publish.ensures.spent.0 was in
      let short = fits.0 in
      (search rules, fits.1);
  cause = search rules;
  reads = search rules;
}

pub invariant_of-self-2-clause-counted : goal.invariant_of-self-2-clause-counted
invariant_of-self-2-clause-counted g c =
    counted_now c.args.self.now c.args.id (option_map json c.args.content) c.in_ok-rev.field-0 c.start-start.result c.start-start.ensures c.as_slice.result.now c.as_slice.ensures.value c.in_ok-rev.ensures
    c.requires.room c.requires.storable c.as_slice-2.result.now c.as_slice-2.ensures.value c.in_ok-rev.field-0.body refl c.in_ok-publish.ensures.few c.publish.new.self c.in_ok-publish.ensures.done

pub invariant_of-self-2-clause-room : goal.invariant_of-self-2-clause-room
invariant_of-self-2-clause-room g c =
    room_now c.args.self.now c.args.id (option_map json c.args.content) c.in_ok-rev.field-0 c.start-start.result c.start-start.ensures c.as_slice.result.now c.as_slice.ensures.value c.in_ok-rev.ensures
    c.requires.room c.requires.storable c.as_slice-2.result.now c.as_slice-2.ensures.value c.in_ok-rev.field-0.body refl

pub invariant_of-self-2-clause-order : goal.invariant_of-self-2-clause-order
invariant_of-self-2-clause-order g c =
    order_now c.args.self.now c.args.id (option_map json c.args.content) c.in_ok-rev.field-0 c.start-start.result c.start-start.ensures c.as_slice.result.now c.as_slice.ensures.value c.in_ok-rev.ensures
    c.requires.room c.requires.storable c.as_slice-2.result.now c.as_slice-2.ensures.value c.in_ok-rev.field-0.body refl

pub returns-clause-stored : goal.returns-clause-stored
returns-clause-stored g c = record {
  wrote = record { next = search rules; counted = search rules; entered = search rules };
  is_open =
      told_open c.args.self.now c.args.id (option_map json c.args.content) c.in_ok-rev.field-0 c.start-start.result c.start-start.ensures c.as_slice.result.now c.as_slice.ensures.value c.in_ok-rev.ensures
      c.requires.room c.requires.storable c.as_slice-2.result.now c.as_slice-2.ensures.value c.in_ok-rev.field-0.body refl
      c.in_ok-publish.ensures.few _ c.in_ok-publish.ensures.done (ap (λ (r : Rev). r.seq) c.in_ok-rev.ensures.rev) refl
      c.publish.result c.in_ok-publish.field-0 c.in_ok-publish.was (g.F.Folder.disk c.args.folder.now) (g.F.Folder.disk c.publish.new.folder) c.requires.open c.publish.ensures.disk;
  stands = λ history at.
      told_at c.args.self.now c.args.id (option_map json c.args.content) c.in_ok-rev.field-0 c.start-start.result c.start-start.ensures c.as_slice.result.now c.as_slice.ensures.value c.in_ok-rev.ensures
      c.requires.room c.requires.storable c.as_slice-2.result.now c.as_slice-2.ensures.value c.in_ok-rev.field-0.body refl
      c.in_ok-publish.ensures.few _ c.in_ok-publish.ensures.done (ap (λ (r : Rev). r.seq) c.in_ok-rev.ensures.rev) refl
      c.publish.result c.in_ok-publish.field-0 c.in_ok-publish.was (g.F.Folder.disk c.args.folder.now) (g.F.Folder.disk c.publish.new.folder) history at c.publish.ensures.disk;
  others = others_published c.args.self.now c.as_slice-2.result.now c.in_ok-rev.field-0.body c.publish.result (g.F.Folder.disk c.args.folder.now) (g.F.Folder.disk c.publish.new.folder) c.requires.open c.publish.ensures.disk;
  long = search rules;
  short = search rules;
  spent = search rules;
  few = search rules;
  failed = search rules;
  cause = search rules;
  reads = search rules;
}
