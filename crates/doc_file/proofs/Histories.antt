-- The history after one more write.
use Rattle.std.proofs.Common.{◌≡◌, ◌⊎◌, inl, inr, ℕ, ◌+◌, List, [], ◌∷◌, length, Option, Some, None, refl, sym, ap, ◌∙◌, subst, arith}
use Rattle.std.specs.Prelude.{Bool, true, false, bytes_eq, cond, filter, is_none}
use Rattle.std.proofs.lemmas.List.Sums.{length-filter}
use Rattle.doc_file.specs.declared.entry.LastWrite.{LastWrite}
use Rattle.doc_file.specs.declared.entry.Entry.{Entry}
use Rattle.design_docs.specs.History.{Write, generation, last_seq, last_write}
use Rattle.json_terms.specs.Json.{Json}
use Rattle.doc_file.specs.Accepted.{state_after, state_in, state_of}
use Rattle.doc_file.specs.Accepted.State.{known}
use Rattle.design_docs.specs.Revision.{revision}
use Rattle.doc_file.specs.Held.{IsKept, KeepsLast, KeepsDocument, KeepsEach, find_last}
use Rattle.doc_file.specs.Stored.{generation_in, with_last}
use Rattle.design_docs.proofs.Ids.{bool_cases, same_id, bytes_eq-same}
use Rattle.doc_file.proofs.Setting.{find_last-with_last}

-- a write of the id is the newest of the id
last_write_match : (write : Write) (older : List Write) (id : List ℕ) (w : Write) → (bytes_eq id write.id ≡ true) ⊎ (bytes_eq id write.id ≡ false) → last_write (write ∷ older) id ≡ Some w
    → (last_write older id ≡ Some w → w.id ≡ id) → w.id ≡ id
last_write_match write older id w (inl here) is rest =
    let found : Some write ≡ Some w = sym (rw here refl) ∙ is in
    let same : write ≡ w = cc in
    ap (λ (v : Write). v.id) (sym same) ∙ sym (same_id id write.id here)
last_write_match write older id w (inr there) is rest = rest (sym (rw there refl) ∙ is)

pub last_write-id : (history : List Write) (id : List ℕ) (w : Write) → last_write history id ≡ Some w → w.id ≡ id
last_write-id [] id w is = absurd (let clash : ⊥ = cc in clash)
last_write-id (write ∷ older) id w is = last_write_match write older id w (bool_cases (bytes_eq id write.id)) is (last_write-id older id w)

generation_yes : (write : Write) (older : List Write) (id : List ℕ) → bytes_eq id write.id ≡ true → generation (write ∷ older) id ≡ generation older id + 1
generation_yes write older id is =
    let P : Write → Bool = λ w. bytes_eq id w.id in
    let counted : length (filter P (write ∷ older)) ≡ generation older id + 1 = rw is (omega (arith, length-filter P older)) in
    sym (length-filter P (write ∷ older)) ∙ counted

generation_no : (write : Write) (older : List Write) (id : List ℕ) → bytes_eq id write.id ≡ false → generation (write ∷ older) id ≡ generation older id
generation_no write older id is =
    let P : Write → Bool = λ w. bytes_eq id w.id in
    let counted : length (filter P (write ∷ older)) ≡ generation older id = rw is (length-filter P older) in
    sym (length-filter P (write ∷ older)) ∙ counted

none_match : (write : Write) (older : List Write) (id : List ℕ) → (bytes_eq id write.id ≡ true) ⊎ (bytes_eq id write.id ≡ false) → last_write (write ∷ older) id ≡ None
    → (last_write older id ≡ None → generation older id ≡ 0) → generation (write ∷ older) id ≡ 0
none_match write older id (inl here) is rest =
    let found : last_write (write ∷ older) id ≡ Some write = rw here refl in
    absurd (let clash : ⊥ = cc (found, is) in clash)
none_match write older id (inr there) is rest =
    let passed : last_write (write ∷ older) id ≡ last_write older id = rw there refl in
    generation_no write older id there ∙ rest (sym passed ∙ is)

pub generation-none : (history : List Write) (id : List ℕ) → last_write history id ≡ None → generation history id ≡ 0
generation-none [] id is = refl
generation-none (write ∷ older) id is = none_match write older id (bool_cases (bytes_eq id write.id)) is (generation-none older id)

-- the generation that is kept
kept_generation : (history : List Write) (bytes id : List ℕ) (last : Option LastWrite) (write : Option Write) → last_write history id ≡ write → KeepsLast history bytes last write → generation_in last ≡ generation history id
kept_generation history bytes id None None is keeps = sym (generation-none history id is)
kept_generation history bytes id None (Some write) is keeps = absurd keeps
kept_generation history bytes id (Some last) None is keeps = absurd keeps
kept_generation history bytes id (Some last) (Some write) is keeps = keeps.generation ∙ ap (generation history) (last_write-id history id write is)

pub generation_kept : (history : List Write) (bytes : List ℕ) (entries : List Entry) → KeepsEach history bytes entries → (id : List ℕ) → generation_in (find_last id entries) ≡ generation history id
generation_kept history bytes entries each id = kept_generation history bytes id (find_last id entries) (last_write history id) refl (each id)

-- ---- one more write

module _ (history : List Write) (write : Write) where
  seq_here : last_seq (write ∷ history) write.id ≡ length (write ∷ history)
  seq_here = rw (bytes_eq-same write.id) refl

  generation_here : generation (write ∷ history) write.id ≡ generation history write.id + 1
  generation_here = generation_yes write history write.id (bytes_eq-same write.id)

  seq_there : (id : List ℕ) → bytes_eq id write.id ≡ false → last_seq (write ∷ history) id ≡ last_seq history id
  seq_there id differs = rw differs refl

  generation_there : (id : List ℕ) → bytes_eq id write.id ≡ false → generation (write ∷ history) id ≡ generation history id
  generation_there id differs = generation_no write history id differs

  -- what is kept of another id
  keeps_there : (bytes id : List ℕ) (last : Option LastWrite) (old : Option Write) → bytes_eq id write.id ≡ false → last_write history id ≡ old → KeepsLast history bytes last old → KeepsLast (write ∷ history) bytes last old
  keeps_there bytes id None None differs is keeps = tt
  keeps_there bytes id None (Some old) differs is keeps = absurd keeps
  keeps_there bytes id (Some last) None differs is keeps = absurd keeps
  keeps_there bytes id (Some last) (Some old) differs is keeps =
      let own : bytes_eq old.id write.id ≡ false = ap (λ i. bytes_eq i write.id) (last_write-id history id old is) ∙ differs in
      record {
        seq = keeps.seq ∙ sym (seq_there old.id own);
        generation = keeps.generation ∙ sym (generation_there old.id own);
        document = keeps.document;
      }

  -- with the entry of its id set, what is kept of each id is its last write
  pub each_written : (bytes : List ℕ) (entries : List Entry) (last : LastWrite) → KeepsEach history bytes entries
      → last.seq ≡ length history + 1 → last.generation ≡ generation history write.id + 1 → KeepsDocument write.id bytes last write.document
      → KeepsEach (write ∷ history) bytes (with_last write.id last entries)
  each_written bytes entries last each seq count document = λ id.
      subst (λ found. KeepsLast (write ∷ history) bytes found (last_write (write ∷ history) id)) (sym (find_last-with_last id write.id last entries)) (by_cases id (bool_cases (bytes_eq id write.id)))
    where
      here : IsKept (write ∷ history) bytes last write
      here = record {
        seq = sym (seq_here ∙ sym (seq ∙ omega arith));
        generation = count ∙ sym generation_here;
        document = document;
      }

      by_cases : (id : List ℕ) → (bytes_eq id write.id ≡ true) ⊎ (bytes_eq id write.id ≡ false) → KeepsLast (write ∷ history) bytes (cond (bytes_eq id write.id) (Some last) (find_last id entries)) (last_write (write ∷ history) id)
      by_cases id (inl same) = rw (same) here
      by_cases id (inr differs) = rw (differs) (keeps_there bytes id (find_last id entries) (last_write history id) differs refl (each id))

-- ---- the state of an id

kept_state : (history : List Write) (bytes id : List ℕ) (last : Option LastWrite) (write : Option Write) → last_write history id ≡ write → KeepsLast history bytes last write
    → state_in last ≡ state_after write (revision (generation history id) (last_seq history id))
kept_state history bytes id None None is keeps = refl
kept_state history bytes id None (Some write) is keeps = absurd keeps
kept_state history bytes id (Some last) None is keeps = absurd keeps
kept_state history bytes id (Some last) (Some write) is keeps =
    let own = last_write-id history id write is in
    let g : last.generation ≡ generation history id = keeps.generation ∙ ap (generation history) own in
    let s : last.seq ≡ last_seq history id = keeps.seq ∙ ap (last_seq history) own in
    λ i. known (revision (g i) (s i)) (deleted_is last write.document keeps.document i)
  where
    deleted_is : (l : LastWrite) (document : Option Json) → KeepsDocument write.id bytes l document → l.deleted ≡ is_none document
    deleted_is l None keeps = keeps
    deleted_is l (Some d) keeps = keeps.0

pub state_kept : (history : List Write) (bytes : List ℕ) (entries : List Entry) → KeepsEach history bytes entries → (id : List ℕ) → state_in (find_last id entries) ≡ state_of history id
state_kept history bytes entries each id = kept_state history bytes id (find_last id entries) (last_write history id) refl (each id)
