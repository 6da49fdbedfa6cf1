-- The signatures of the live designs, collected id by id.
use Rattle.std.specs.Prelude.{◌≡◌, ◌<◌, ◌+◌, ◌++◌, ℕ, List, [], ◌∷◌, length, take, slice_index_or, Some, true, Contains, Result, Ok, Err}
use Rattle.std.proofs.Common.{sym, ap, ◌∙◌, subst, ⊎_elim, arith}
use Rattle.std.proofs.lemmas.List.{take_more}
use Rattle.std.proofs.lemmas.List.Elements.{All-contains, Contains-append_left, Contains-push, Contains-push_cases}
use Rattle.json_terms.specs.Json.{Json}
use Rattle.design_docs.specs.Documents.{is_design_id}
use Rattle.view_ports.specs.Disk.{IfTold, MovesNone, Tells}
use Rattle.view_ports.specs.declared.folder.Folder.{Ghosts as Folders}
use Rattle.view_ports.specs.File.{File}
use Rattle.view_ports.specs.declared.file_name.FileName.{FileName}
use Rattle.view_ports.proofs.DiskRuns.{none_refl, none_same}
use Rattle.view_ports.proofs.Told.{told_back, told_refl}
use Rattle.doc_file.specs.declared.docs.Docs.{Docs}
use Rattle.doc_file.specs.Docs.{last_of, IsAt}
use Rattle.doc_file.proofs.Lives.{live_entry, one_live}
use Rattle.design_docs.specs.History.{Write, live_document}
use Rattle.view_signature.specs.Signature.{signature_of}
use Rattle.view_engine.specs.Cleaning.{AreLiveSignatures, IsSignatureOf}
use Rattle.view_engine.specs.HeldDesigns.{AreHeldSignatures, IsSignatureIn}
use Rattle.doc_file.specs.Designs.{AreDesignIds, AreDesignsOf, IsLiveEntry}
use Rattle.view_engine.specs.declared.halt.Halt.{Halt}
use Rattle.view_engine.specs.declared.halt.Halt.TheVariants.{Stopped}
use Rattle.view_engine.specs.declared.halt.StepFault.TheVariants.{NoMemory}
use Rattle.view_engine.specs.Disks.{Reads}
use Rattle.view_engine.proofs.Unmoved.{IsAt-none}

module _ (IsOf : List ℕ → List ℕ → Type 0) where
  -- each signature is that of one of these ids, and each of these ids has its own
  pub record AreSignaturesOf (ids sigs : List (List ℕ)) : Type 0 where
    pub each : (sig : List ℕ) → Contains sigs sig → (id : List ℕ) × Contains ids id × IsOf id sig
    pub all : (id : List ℕ) → Contains ids id → (sig : List ℕ) × Contains sigs sig × IsOf id sig

  pub no_signatures : AreSignaturesOf [] []
  no_signatures = record { each = λ sig is. absurd (let no = is.1 in omega (arith, no)); all = λ id is. absurd (let no = is.1 in omega (arith, no)) }

  pub one_signature_more : (ids sigs : List (List ℕ)) (i : ℕ) (id sig : List ℕ) → i < length ids → id ≡ slice_index_or ids i id → AreSignaturesOf (take i ids) sigs → IsOf id sig → AreSignaturesOf (take (i + 1) ids) (sigs ++ sig ∷ [])
  one_signature_more ids sigs i id sig within here so_far is =
      let more : take (i + 1) ids ≡ take i ids ++ id ∷ [] = take_more ids i id within ∙ ap (λ x. take i ids ++ x ∷ []) (sym here) in
      record {
        each = λ s there. ⊎_elim
            (λ before. let of = so_far.each s before in (of.0, subst (λ (l : List (List ℕ)). Contains l of.0) (sym more) (Contains-append_left (take i ids) (id ∷ []) of.0 of.1), of.2))
            (λ same. (id, subst (λ (l : List (List ℕ)). Contains l id) (sym more) (Contains-push (take i ids) id), subst (IsOf id) same is))
            (Contains-push_cases sigs sig s there);
        all = λ n there. ⊎_elim
            (λ before. let of = so_far.all n before in (of.0, Contains-append_left sigs (sig ∷ []) of.0 of.1, of.2))
            (λ same. (sig, Contains-push sigs sig, subst (λ k. IsOf k sig) same is))
            (Contains-push_cases (take i ids) id n (subst (λ (l : List (List ℕ)). Contains l n) more there));
      }

-- over a history they are those of its live designs
module _ (history : List Write) where
  pub live_signatures : (ids sigs : List (List ℕ)) → AreDesignsOf history ids → AreSignaturesOf (IsSignatureOf history) ids sigs → AreLiveSignatures history sigs
  live_signatures ids sigs designs are sig = (
    λ there.
        let of = are.each sig there in
        let known = All-contains (λ id. (is_design_id id ≡ true) × ((document : Json) × (live_document history id ≡ Some document))) ids of.0 designs.each of.1 in
        record { id = of.0; document = (of.2).0; of_design = known.0; live = (of.2).1; signed = (of.2).2 },
    λ live.
        let of = are.all live.id (designs.all live.id live.document live.of_design live.live) in
        let same : Some (of.2).0 ≡ Some live.document = sym (of.2).1 ∙ live.live in
        let one : (of.2).0 ≡ live.document = cc in
        subst (Contains sigs) (sym (of.2).2 ∙ ap signature_of one ∙ live.signed) of.1,
  )

-- and over any files those of the documents that stand there
module _ (docs : Docs) (bytes : List ℕ) where
  pub held_signatures : (ids sigs : List (List ℕ)) → AreDesignIds docs ids → AreSignaturesOf (IsSignatureIn docs bytes) ids sigs → AreHeldSignatures docs bytes sigs
  held_signatures ids sigs designs are = record {
    whole = λ id of_design live. let of = are.all id (designs.all id of_design live) in ((of.2).0, (of.2).1);
    each = λ sig. (
      λ there.
          let of = are.each sig there in
          let known = All-contains (λ id. (is_design_id id ≡ true) × IsLiveEntry (last_of docs id)) ids of.0 designs.each of.1 in
          record { id = of.0; of_design = known.0; signed = of.2 },
      λ held.
          let of = are.all held.id (designs.all held.id held.of_design (live_entry held.id bytes (last_of docs held.id) (held.signed).0 (held.signed).1)) in
          let one = one_live held.id bytes (last_of docs held.id) (of.2).0 (held.signed).0 (of.2).1 (held.signed).1 in
          subst (Contains sigs) (sym (of.2).2 ∙ ap signature_of one ∙ (held.signed).2) of.1,
    );
  }

-- ---- the folder meanwhile

abbrev pub so_far : Result (Unit {0}) Halt
so_far = Ok tt

module _ {F : Type 0} (f : Folders F) (docs : Docs) where
  -- nothing was read
  pub reads_nothing : (folder : F) → Reads f docs folder folder so_far
  reads_nothing folder = record { disk = told_refl (f.disk folder) MovesNone none_refl; why = tt; later = omega arith }

  module _ (old new : F) where
    pub reads_done : (T : Type 0) (value : T) → Reads f docs old new so_far → Reads f {T = T} docs old new (Ok value)
    reads_done T value reads = record { disk = reads.disk; why = tt; later = reads.later }

    pub reads_failed : (S T : Type 0) (halt : Halt) → Reads f {T = S} docs old new (Err halt) → Reads f {T = T} docs old new (Err halt)
    reads_failed S T halt reads = record { disk = reads.disk; why = reads.why; later = reads.later }

    -- memory ran out
    pub reads_spent : (T : Type 0) → Reads f docs old new so_far → Reads f {T = T} docs old new (Err (Stopped NoMemory))
    reads_spent T reads = record { disk = reads.disk; why = tt; later = reads.later }

    -- what is said of the files after reading is said of them before
    pub files_before : (P : (FileName → File) → Type 0) → Tells (f.disk old) (f.disk new) MovesNone → IfTold (f.disk new) (λ d. P d.now) → IfTold (f.disk old) (λ d. P d.now)
    files_before P none known = told_back (f.disk old) (f.disk new) (λ d. P d.now) (λ d. P d.now) MovesNone (λ a b same is. subst P (λ i. λ n. none_same a b same n i) is) none known

    -- what is said over the history after reading is said over it before
    pub at_history_before : (history : List Write) (P : Type 0) → Tells (f.disk old) (f.disk new) MovesNone → IfTold (f.disk new) (λ d. IsAt docs d.now history → P) → IfTold (f.disk old) (λ d. IsAt docs d.now history → P)
    at_history_before history P none known = told_back (f.disk old) (f.disk new) (λ d. IsAt docs d.now history → P) (λ d. IsAt docs d.now history → P) MovesNone (λ a b same is at. is (IsAt-none docs history a b at same)) none known
