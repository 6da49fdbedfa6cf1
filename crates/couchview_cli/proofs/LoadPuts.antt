-- Each put of a load was accepted: the history has a write of each.
use Rattle.std.specs.Prelude.{bytes_eq, cond, is_none, zero, suc}
use Rattle.std.proofs.Common.{◌≡◌, ◌≢◌, ◌≤◌, ◌<◌, ◌^◌, ◌+◌, ◌%◌, ◌==◌, ◌∙◌, ◌++◌, ℕ, List, [], ◌∷◌, length, map, Bool, true, false, codes, Option, Some, None, inl, inr, refl, sym, ap, subst, arith, length-append}
use Rattle.std.specs.List.{filter, range_with_len}
use Rattle.std.proofs.lemmas.List.{length-map}
use Rattle.std.proofs.lemmas.Slice.Eq.{bytes_eq-Decides}
use Rattle.std.proofs.lemmas.Bool.{cases_eq}
use Rattle.std.proofs.lemmas.List.FromFn.{length-map-range_with_len}
use Rattle.std.proofs.lemmas.List.Sums.{sum_by-cons}
use Rattle.json_terms.specs.Json.{Json}
use Rattle.design_docs.specs.Documents.{id_of}
use Rattle.view_ports.specs.Disk.{Disk}
use Rattle.view_ports.specs.Exchanges.{Exchange, LeadsTo, lines_of}
use Rattle.view_ports.specs.Functions.{Functions}
use Rattle.view_ports.specs.Lines.{ended}
use Rattle.view_ports.specs.declared.file_name.FileName.{FileName}
use Rattle.doc_file.specs.Accepted.{state_after, state_of}
use Rattle.doc_file.specs.Accepted.State.{known, unseen}
use Rattle.design_docs.specs.History.{Write, generation, last_seq, last_write}
use Rattle.doc_file.specs.Incoming.{deletes, given_revision}
use Rattle.design_docs.specs.Revision.{revision}
use Rattle.doc_file.specs.Writes.{write_refusal, IsAcceptedPut}
use Rattle.doc_file.proofs.Histories.{generation-none}
use Rattle.view_engine.specs.declared.refusal.Refusal.TheVariants.{NoMemory as OutOfMemory}
use Rattle.view_engine.specs.Moments.{Moment}
use Rattle.view_engine.specs.Put.{put_write}
use Rattle.view_engine.specs.Refusals.{refusal_text, request_of}
use Rattle.view_engine.specs.Steps.{Answers}
use Rattle.view_engine.specs.World.{World}
use Rattle.load_lines.specs.Documents.{document, document_id, raised}
use Rattle.load_lines.specs.Lines.{first_lines, put_line, second_lines, thirds_to}
use Rattle.load_lines.proofs.Ids.{document_id-inj, document_id-not_load}
use Rattle.load_lines.proofs.Writable.{deletes-document, deletes-raised, given-document, given-raised, id_of-document, id_of-raised, IsWritable-document, IsWritable-raised}
use Rattle.couchview_cli.specs.Loading.{load_lines, NoneWants}
use Rattle.couchview_cli.specs.Serving.{Steps}
use Rattle.couchview_cli.proofs.LoadMeaning.{design_write, unlike}
use Rattle.couchview_cli.proofs.LoadRequests.{document_asks, put_some, raised_asks, AsksPut}
use Rattle.couchview_cli.proofs.LoadSame.{put_writes}
use Rattle.couchview_cli.proofs.LoadWhole.{answers, design_stored, parts_of}

-- ---- the state of an id after one more write

module _ (write : Write) (older : List Write) (id : List ℕ) where
  counted : (b : Bool) → bytes_eq id write.id ≡ b → generation (write ∷ older) id ≡ cond b 1 0 + generation older id
  counted b is = sum_by-cons (λ (w : Write). cond (bytes_eq id w.id) 1 0) write older ∙ ap (λ (c : Bool). cond c 1 0 + generation older id) is

  -- a write of another id leaves it
  state_of_other : bytes_eq id write.id ≡ false → state_of (write ∷ older) id ≡ state_of older id
  state_of_other other =
      let last : last_write (write ∷ older) id ≡ last_write older id = rw other refl in
      let count : generation (write ∷ older) id ≡ generation older id = counted false other ∙ omega arith in
      let seq : last_seq (write ∷ older) id ≡ last_seq older id = rw other refl in
      λ i. state_after (last i) (revision (count i) (seq i))

  -- the first write of the id makes it known
  state_of_first : bytes_eq id write.id ≡ true → last_write older id ≡ None → is_none write.document ≡ false → state_of (write ∷ older) id ≡ known (revision 1 (length older + 1)) false
  state_of_first same none stores =
      let last : last_write (write ∷ older) id ≡ Some write = rw same refl in
      let before = generation-none older id none in
      let count : generation (write ∷ older) id ≡ 1 = counted true same ∙ omega (arith, before) in
      let seq : last_seq (write ∷ older) id ≡ length older + 1 = rw same (omega arith) in
      (λ i. state_after (last i) (revision (count i) (seq i))) ∙ ap (known (revision 1 (length older + 1))) stores

state_of_none : (history : List Write) (id : List ℕ) → last_write history id ≡ None → state_of history id ≡ unseen
state_of_none history id none = ap (λ (last : Option Write). state_after last (revision (generation history id) (last_seq history id))) none

-- ---- the documents of a load in a history

-- document j was written once, as the write behind those of the design and of the documents before it
abbrev IsOnce : List Write → ℕ → Type 0
IsOnce history j = state_of history (document_id j) ≡ known (revision 1 (j + 1)) false

-- so was each of n documents from document a on
abbrev AreOnce : List Write → ℕ → ℕ → Type 0
AreOnce history a n = (j : ℕ) → a ≤ j → j < a + n → IsOnce history j

-- the design was written, and each document before this one once, and no other
record HasLoaded (history : List Write) (next : ℕ) : Type 0 where
  pub long : length history ≡ next
  pub once : (j : ℕ) → 1 ≤ j → j < next → IsOnce history j
  pub none : (j : ℕ) → next ≤ j → j ≤ 20000 → last_write history (document_id j) ≡ None

has_design : HasLoaded (design_write ∷ []) 1
has_design = record {
  long = refl;
  once = λ j least below. absurd (omega arith);
  none = λ j least most. rw (unlike (document_id j) (codes "_design/load") (document_id-not_load j)) refl;
}

bytes_eq-same : (a : List ℕ) → bytes_eq a a ≡ true
bytes_eq-same a = (bytes_eq-Decides a a).1 refl

-- one more write, of document k
module _ (write : Write) (history : List Write) (k : ℕ) (is : write.id ≡ document_id k) (few : k ≤ 20000) where
  is_apart : (j : ℕ) → j ≤ 20000 → j ≢ k → bytes_eq (document_id j) write.id ≡ false
  is_apart j most other = ap (bytes_eq (document_id j)) is ∙ unlike (document_id j) (document_id k) (λ same. other (document_id-inj j k (omega arith) (omega arith) same))

  -- another document stays as it was
  once_still : (j : ℕ) → j ≤ 20000 → j ≢ k → IsOnce history j → IsOnce (write ∷ history) j
  once_still j most other once = state_of_other write history (document_id j) (is_apart j most other) ∙ once

  -- the first write of the next document
  loaded_next : is_none write.document ≡ false → HasLoaded history k → HasLoaded (write ∷ history) (k + 1)
  loaded_next stores has = record {
    long = let l = has.long in omega (arith, l);
    once = λ j least below. elim (cases_eq j k) [
      | inl same ↦ subst (IsOnce (write ∷ history)) (sym same) newest
      | inr other ↦ once_still j (omega (arith, below, few)) other (has.once j least (omega (arith, below, other)))
    ];
    none = λ j least most. rw (is_apart j most (λ same. omega (arith, same, least))) (has.none j (omega (arith, least)) most);
  }
    where
      newest : IsOnce (write ∷ history) k
      newest =
          state_of_first write history (document_id k) (ap (bytes_eq (document_id k)) is ∙ bytes_eq-same (document_id k)) (has.none k (omega arith) few) stores
          ∙ ap (λ (n : ℕ). known (revision 1 (n + 1)) false) has.long

-- ---- the puts of a load

module _ (functions : List ℕ → Functions) (honest : List ℕ → Type 0) (seed : ℕ) (low : seed < 2 ^ 31) where
  abbrev Step : Moment → Exchange → Moment → Type 0
  Step = Answers functions honest []

  put_adds : (before : Moment) (e : Exchange) (after : Moment) (doc : Json) → AsksPut doc → e.line ≡ put_line doc → IsAcceptedPut (state_of (before.world).history (id_of doc)) doc
      → e.text ≢ ended (refusal_text OutOfMemory) → Step before e after → (after.world).history ≡ put_write before.world doc ∷ (before.world).history
  put_adds before e after doc asks line accepted done step =
      put_writes functions honest before e after doc asks.0 (ap request_of line ∙ asks.1) asks.2 accepted (λ is. put_some doc (sym line ∙ is)) done step

  -- the next document is put
  document_put : (k : ℕ) → k ≤ 20000 → (before : Moment) (e : Exchange) (after : Moment) → e.line ≡ put_line (document seed k) → e.text ≢ ended (refusal_text OutOfMemory) → Step before e after
      → HasLoaded (before.world).history k → HasLoaded (after.world).history (k + 1)
  document_put k few before e after line done step has =
      let accepted : IsAcceptedPut (state_of (before.world).history (id_of (document seed k))) (document seed k) = record { writable = IsWritable-document seed k low (omega arith); accepted = accepts } in
      let added = put_adds before e after (document seed k) (document_asks seed k low few) line accepted done step in
      subst (λ (h : List Write). HasLoaded h (k + 1)) (sym added) (loaded_next (put_write before.world (document seed k)) (before.world).history k (id_of-document seed k) few stores has)
    where
      stores : is_none (put_write before.world (document seed k)).document ≡ false
      stores = rw (deletes-document seed k) refl

      accepts : write_refusal (state_of (before.world).history (id_of (document seed k))) (deletes (document seed k)) (given_revision (document seed k)) ≡ None
      accepts = rw (deletes-document seed k, given-document seed k, id_of-document seed k, has.none k (omega arith) few) refl

  -- n documents from document a on are
  documents_put : (a n : ℕ) (before : Moment) (es : List Exchange) (after : Moment) → a + n ≤ 20001 → lines_of es ≡ map (λ k. put_line (document seed k)) (range_with_len a n)
      → NoneWants es → LeadsTo Step before es after → HasLoaded (before.world).history a → HasLoaded (after.world).history (a + n)
  documents_put a zero before [] after few same done leads has =
      let no_more : a ≡ a + 0 = omega arith in
      subst (HasLoaded (after.world).history) no_more (subst (λ (m : Moment). HasLoaded (m.world).history a) (sym leads) has)
  documents_put a zero before (e ∷ es) after few same done leads has = absurd (let never : ⊥ = cc in never)
  documents_put a (suc n) before [] after few same done leads has = absurd (let never : ⊥ = cc in never)
  documents_put a (suc n) before (e ∷ es) after few same done leads has =
      let line : e.line ≡ put_line (document seed a) = cc in
      let rest : lines_of es ≡ map (λ k. put_line (document seed k)) (range_with_len (a + 1) n) = cc in
      let next = document_put a (omega arith) before e leads.0 line done.0 leads.1 has in
      let one_more : (a + 1) + n ≡ a + suc n = omega arith in
      subst (HasLoaded (after.world).history) one_more (documents_put (a + 1) n leads.0 es after (omega (arith, few)) rest done.1 leads.2 next)

  -- a document that was written once is put again, raised
  raised_put : (k : ℕ) → k ≤ 20000 → (before : Moment) (e : Exchange) (after : Moment) → e.line ≡ put_line (raised seed k) → e.text ≢ ended (refusal_text OutOfMemory) → Step before e after
      → IsOnce (before.world).history k → (after.world).history ≡ put_write before.world (raised seed k) ∷ (before.world).history
  raised_put k few before e after line done step once =
      put_adds before e after (raised seed k) (raised_asks seed k low few) line (record { writable = IsWritable-raised seed k low (omega arith); accepted = accepts }) done step
    where
      accepts : write_refusal (state_of (before.world).history (id_of (raised seed k))) (deletes (raised seed k)) (given_revision (raised seed k)) ≡ None
      accepts = rw (deletes-raised seed k, given-raised seed k, id_of-raised seed k, once, bytes_eq-same (revision 1 (k + 1))) refl

  -- these of n documents from document a on are, and each put adds a write
  abbrev AddEach : ℕ → ℕ → List ℕ → Type 0
  AddEach a n ks = (before : Moment) (es : List Exchange) (after : Moment) → lines_of es ≡ map (λ k. put_line (raised seed k)) ks → NoneWants es → LeadsTo Step before es after
      → AreOnce (before.world).history a n → length (after.world).history ≡ length (before.world).history + length es

  with_or_without : (a n : ℕ) (ks : List ℕ) (b : Bool) → a + suc n ≤ 20001 → AddEach (a + 1) n ks → AddEach a (suc n) (cond b (a ∷ ks) ks)
  with_or_without a n ks true few others before [] after same done leads once = absurd (let never : ⊥ = cc in never)
  with_or_without a n ks true few others before (e ∷ es) after same done leads once =
      let line : e.line ≡ put_line (raised seed a) = cc in
      let rest : lines_of es ≡ map (λ k. put_line (raised seed k)) ks = cc in
      let write = put_write before.world (raised seed a) in
      let added = raised_put a (omega (arith, few)) before e leads.0 line done.0 leads.1 (once a (omega arith) (omega arith)) in
      let other = once_still write (before.world).history a (id_of-raised seed a) (omega (arith, few)) in
      let still : AreOnce (write ∷ (before.world).history) (a + 1) n =
      λ j least below. other j (omega (arith, below, few)) (λ same. omega (arith, same, least)) (once j (omega (arith, least)) (omega (arith, below))) in
      let more = ap length added in
      others leads.0 es after rest done.1 leads.2 (subst (λ (h : List Write). AreOnce h (a + 1) n) (sym added) still) ∙ omega (arith, more)
  with_or_without a n ks false few others before es after same done leads once = others before es after same done leads (λ j least below. once j (omega (arith, least)) (omega (arith, below)))

  thirds_put : (a n : ℕ) → a + n ≤ 20001 → AddEach a n (filter (λ k. k % 3 == 0) (range_with_len a n))
  thirds_put a zero few before [] after same done leads once = ap (λ (m : Moment). length (m.world).history) leads ∙ omega arith
  thirds_put a zero few before (e ∷ es) after same done leads once = absurd (let never : ⊥ = cc in never)
  thirds_put a (suc n) few before es after same done leads once =
      with_or_without a n (filter (λ k. k % 3 == 0) (range_with_len (a + 1) n)) (a % 3 == 0) few (thirds_put (a + 1) n (omega (arith, few))) before es after same done leads once

-- ---- a load

length-first_lines : (docs seed : ℕ) → length (first_lines docs seed) ≡ 1 + docs
unfolding first_lines
length-first_lines docs seed = let l = length-map-range_with_len (λ k. put_line (document seed k)) 1 docs in omega (arith, l)

second_lines-are : (docs seed : ℕ) → second_lines docs seed ≡ map (λ k. put_line (raised seed k)) (thirds_to docs)
unfolding second_lines
second_lines-are docs seed = refl

module _ (functions : List ℕ → Functions) (honest : List ℕ → Type 0) (opening : World) (d : Disk FileName) (docs seed : ℕ) (low : seed < 2 ^ 31) (few : docs ≤ 20000) where
  -- the history has a write of each put
  pub each_put : (start end : Moment) (es : List Exchange) → lines_of es ≡ load_lines docs seed → NoneWants es → LeadsTo (Steps functions honest [] opening (Some d)) start es end → (start.world).history ≡ []
      → length (end.world).history ≡ length (first_lines docs seed ++ second_lines docs seed)
  each_put start end es same done leads none =
      let parts = parts_of functions honest opening d docs seed start end es same done leads in
      let m1 = parts.after_firsts in
      let m2 = parts.after_view in
      let m3 = parts.after_seconds in
      let first = design_stored functions honest opening d docs seed start m1 parts.firsts parts.of_firsts parts.firsts_done parts.loads none in
      let loaded : HasLoaded (m1.world).history (1 + docs) =
      documents_put functions honest seed low 1 docs first.1 first.0 m1 (omega (arith, few)) first.2 first.3 (answers functions honest opening d first.1 first.0 m1 first.4) (subst (λ (h : List Write). HasLoaded h 1) (sym first.5) has_design) in
      let once : AreOnce (m2.world).history 1 docs = λ j least below. subst (λ (h : List Write). IsOnce h j) (sym parts.viewed) (loaded.once j least below) in
      let raises = answers functions honest opening d m2 parts.seconds m3 parts.raises in
      let added = thirds_put functions honest seed low 1 docs (omega (arith, few)) m2 parts.seconds m3 (parts.of_seconds ∙ second_lines-are docs seed) parts.seconds_done raises once in
      let before = ap length parts.viewed ∙ loaded.long in
      let firsts = length-first_lines docs seed in
      let seconds = sym (length-map parts.seconds (λ (e : Exchange). e.line)) ∙ ap length parts.of_seconds in
      let both = length-append (first_lines docs seed) (second_lines docs seed) in
      ap length parts.told ∙ added ∙ omega (arith, before, seconds, firsts, both)
