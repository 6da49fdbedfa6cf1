-- The changes that were found so far.
use Rattle.std.proofs.Common.{◌≡◌, ◌⊎◌, inl, inr, ℕ, suc, zero, ◌+◌, ◌-◌, ◌<◌, ◌≤◌, List, [], ◌∷◌, ◌++◌, length, map, take, get_or, Option, Some, None, refl, sym, ap, ◌∙◌, subst, arith, append-nil, append_assoc, length-append}
use Rattle.std.specs.Prelude.{◌^◌, false, true, option_map, All, AllPairs, Contains}
use Rattle.std.proofs.lemmas.Bool.{cases_lt}
use Rattle.std.proofs.lemmas.List.{map-append}
use Rattle.std.proofs.lemmas.List.Elements.{All-contains, All-nil, All-push, Contains-append_left, Contains-push}
use Rattle.std.proofs.lemmas.List.Quantifiers.{all_pairs_push}
use Rattle.std.proofs.lemmas.List.Sums.{AllPass-from_list_all}
use Rattle.std.proofs.lemmas.Bool.Decides.{nat_tests}
use Rattle.json_terms.specs.Json.{Json}
use Rattle.json_terms.specs.Seen.{json}
use Rattle.view_ports.specs.Disk.{Disk, IfTold, Tells, MovesNone}
use Rattle.view_ports.specs.File.{File}
use Rattle.view_ports.specs.declared.file_name.FileName.{FileName}
use Rattle.view_ports.proofs.Told.{told_all, told_back, told_now, told_pair}
use Rattle.view_ports.proofs.DiskRuns.{none_same}
use Rattle.gate_file.specs.GateFile.{commits_of, name_of, root_of}
use Rattle.doc_file.specs.declared.docs.Docs.{Docs}
use Rattle.doc_file.specs.declared.docs.changes.Change.{Change}
use Rattle.doc_file.specs.declared.entry.Entry.{Entry}
use Rattle.doc_file.specs.Record.{AreEntries}
use Rattle.doc_file.specs.Changes.{numbered, AreInOrder, AreWhole, HasDocument, HasShortId, IsChange, IsNext, IsSpoiledAfter, IsStored}
use Rattle.doc_file.specs.Counts.{has_room}
use Rattle.doc_file.specs.Docs.{bytes_in, entries_of, file_of, last_of, seq_of, IsAt, IsLoaded, IsSpoiled}
use Rattle.doc_file.specs.Held.{find_last}
use Rattle.design_docs.specs.History.{Write, changes_after}
use Rattle.doc_file.proofs.Since.{are_entries, change_is, found_entries, none_left, not_spoiled}

pub record IsSoFar (docs : Docs) (seq n after index : ℕ) (before : Option (Disk FileName)) (items : List Change) : Type 0 where
  pub count : length items ≡ index
  pub within : index ≤ n
  pub low : seq ≤ after
  pub above : All (λ change. seq < change.seq) items
  pub below : All (λ change. change.seq ≤ after) items
  pub rise : AllPairs (λ change later. change.seq < later.seq) items
  pub whole : All (λ entry. seq < (entry.last).seq → (entry.last).seq ≤ after → Contains (map (λ change. change.seq) items) (entry.last).seq) (entries_of docs)
  pub bodies : All HasDocument items
  pub short : All HasShortId items
  pub each : IfTold before (λ d. IsLoaded docs d.now → All (IsChange docs (bytes_in docs d.now)) items)
  pub written : (history : List Write) → IfTold before (λ d. IsAt docs d.now history → map numbered items ++ take (n - index) (changes_after after history) ≡ take n (changes_after seq history))

loaded_entries : (docs : Docs) (files : FileName → File) → IsLoaded docs files → AreEntries (entries_of docs)
loaded_entries docs files loaded = are_entries (root_of (file_of docs)) (commits_of (file_of docs)) (bytes_in docs files) (seq_of docs) (entries_of docs) loaded

pub so_far_none : (docs : Docs) (seq n : ℕ) (before : Option (Disk FileName)) → IsSoFar docs seq n seq 0 before []
so_far_none docs seq n before = record {
  count = refl;
  within = omega arith;
  low = omega arith;
  above = All-nil (λ (change : Change). seq < change.seq);
  below = All-nil (λ (change : Change). change.seq ≤ seq);
  rise = λ i j d before' in'. absurd (omega arith);
  whole = λ k d in' behind low. absurd (omega arith);
  bodies = All-nil HasDocument;
  short = All-nil HasShortId;
  each = told_all before (λ d. IsLoaded docs d.now → All (IsChange docs (bytes_in docs d.now)) []) (λ d loaded. All-nil (IsChange docs (bytes_in docs d.now)));
  written = λ history. told_all before (λ d. IsAt docs d.now history → take (n - 0) (changes_after seq history) ≡ take n (changes_after seq history))
      (λ d at. let all : n - 0 ≡ n = omega arith in ap (λ m. take m (changes_after seq history)) all);
}

order : (a b : ℕ) → (a ≤ b) ⊎ (b < a)
order a b = elim (cases_lt b a) [ inl less ↦ inr less | inr most ↦ inl most ]

take_nil : {A : Type 0} (n : ℕ) → take n (let none : List A = [] in none) ≡ []
take_nil zero = refl
take_nil (suc n) = refl

-- ---- one more change

module _ (docs : Docs) (seq n after index : ℕ) (before : Option (Disk FileName)) (items : List Change) (so_far : IsSoFar docs seq n after index before items) (e : Entry) (next : IsNext after (entries_of docs) (Some e)) where
  pub found_next : AreEntries (entries_of docs) → last_of docs e.id ≡ Some e.last
  found_next are = All-contains (λ (x : Entry). find_last x.id (entries_of docs) ≡ Some x.last) (entries_of docs) e (found_entries (entries_of docs) are) next.0

  short_next : Contains (entries_of docs) e → length e.id < 2 ^ 32
  short_next there = let room : has_room e ≡ true = All-contains (λ (x : Entry). has_room x ≡ true) (entries_of docs) e (AllPass-from_list_all has_room (entries_of docs) docs.room) there in grind (arith, nat_tests)

  module _ (change : Change) (more : index < n) (seq_is : change.seq ≡ (e.last).seq) (id_is : change.id ≡ e.id) where
    numbered_is : (doc : Option Json) → option_map json change.doc ≡ doc → numbered change ≡ ((e.last).seq, record { id = e.id; document = doc })
    numbered_is doc is = λ i. (seq_is i, record { id = id_is i; document = is i })

    written_more : (files : FileName → File) (history : List Write) → IsAt docs files history → IsStored e.id (bytes_in docs files) e.last (option_map json change.doc)
        → map numbered items ++ take (n - index) (changes_after after history) ≡ take n (changes_after seq history)
        → map numbered (items ++ change ∷ []) ++ take (n - (index + 1)) (changes_after (e.last).seq history) ≡ take n (changes_after seq history)
    written_more files history at stored was =
        let rest : List (ℕ × Write) = changes_after (e.last).seq history in
        let left : n - index ≡ suc (n - (index + 1)) = omega arith in
        let first : changes_after after history ≡ numbered change ∷ rest =
        change_is history (bytes_in docs files) (entries_of docs) (loaded_entries docs files at.is_open.loaded) at.each after e (option_map json change.doc) next stored
        ∙ ap (λ x. x ∷ rest) (sym (numbered_is (option_map json change.doc) refl)) in
        ap (λ l. l ++ take (n - (index + 1)) rest) (map-append numbered items (change ∷ []))
        ∙ append_assoc (map numbered items) (numbered change ∷ []) (take (n - (index + 1)) rest)
        ∙ ap (λ m. map numbered items ++ take m (numbered change ∷ rest)) (sym left)
        ∙ ap (λ l. map numbered items ++ take (n - index) l) (sym first)
        ∙ was

    whole_more : All (λ (entry : Entry). seq < (entry.last).seq → (entry.last).seq ≤ (e.last).seq → Contains (map (λ (c : Change). c.seq) (items ++ change ∷ [])) (entry.last).seq) (entries_of docs)
    whole_more = λ k d in' behind low. by_cases (get_or (entries_of docs) k d) behind (so_far.whole k d in' behind) (next.2 k d in') low
      where
        numbers : map (λ (c : Change). c.seq) (items ++ change ∷ []) ≡ map (λ (c : Change). c.seq) items ++ (e.last).seq ∷ []
        numbers = map-append (λ (c : Change). c.seq) items (change ∷ []) ∙ ap (λ s. map (λ (c : Change). c.seq) items ++ s ∷ []) seq_is

        by_order : (s : ℕ) → (s ≤ after → Contains (map (λ (c : Change). c.seq) items) s) → (after < s → (e.last).seq ≤ s) → s ≤ (e.last).seq → (s ≤ after) ⊎ (after < s) → Contains (map (λ (c : Change). c.seq) (items ++ change ∷ [])) s
        by_order s old new low (inl first) = subst (λ l. Contains l s) (sym numbers) (Contains-append_left (map (λ (c : Change). c.seq) items) ((e.last).seq ∷ []) s (old first))
        by_order s old new low (inr then) =
            let high = new then in
            let same : (e.last).seq ≡ s = omega arith in
            subst (λ l. Contains l s) (sym numbers) (subst (Contains (map (λ (c : Change). c.seq) items ++ (e.last).seq ∷ [])) same (Contains-push (map (λ (c : Change). c.seq) items) (e.last).seq))

        by_cases : (entry : Entry) → seq < (entry.last).seq → ((entry.last).seq ≤ after → Contains (map (λ (c : Change). c.seq) items) (entry.last).seq) → (after < (entry.last).seq → (e.last).seq ≤ (entry.last).seq)
            → (entry.last).seq ≤ (e.last).seq → Contains (map (λ (c : Change). c.seq) (items ++ change ∷ [])) (entry.last).seq
        by_cases entry behind old new low = by_order (entry.last).seq old new low (order (entry.last).seq after)

    pub so_far_more : HasDocument change → IfTold before (λ d. IsStored e.id (bytes_in docs d.now) e.last (option_map json change.doc)) → IsSoFar docs seq n (e.last).seq (index + 1) before (items ++ change ∷ [])
    so_far_more body stored = record {
      count = let long = length-append items (change ∷ []) in omega (arith, so_far.count);
      within = omega arith;
      low = omega (arith, so_far.low, next.1);
      above = All-push (λ (c : Change). seq < c.seq) items change so_far.above (omega (arith, so_far.low, next.1));
      below = All-push (λ (c : Change). c.seq ≤ (e.last).seq) items change (λ k d in'. let low = so_far.below k d in' in omega (arith, next.1)) (omega arith);
      rise = all_pairs_push (λ (c : Change) (later : Change). c.seq < later.seq) items change so_far.rise (λ k d in'. let low = so_far.below k d in' in omega (arith, next.1));
      whole = whole_more;
      bodies = All-push HasDocument items change so_far.bodies body;
      short = All-push HasShortId items change so_far.short (subst (λ id. length id < 2 ^ 32) (sym id_is) (short_next next.0));
      each = told_pair before (λ d. IsLoaded docs d.now → All (IsChange docs (bytes_in docs d.now)) items) (λ d. IsStored e.id (bytes_in docs d.now) e.last (option_map json change.doc))
          (λ d. IsLoaded docs d.now → All (IsChange docs (bytes_in docs d.now)) (items ++ change ∷ []))
          (λ d old new loaded. All-push (IsChange docs (bytes_in docs d.now)) items change (old loaded) (record {
            last = e.last;
            found = ap (last_of docs) id_is ∙ found_next (loaded_entries docs d.now loaded);
            seq = seq_is;
            document = subst (λ id. IsStored id (bytes_in docs d.now) e.last (option_map json change.doc)) (sym id_is) new;
          }))
          so_far.each stored;
      written = λ history. told_pair before (λ d. IsAt docs d.now history → map numbered items ++ take (n - index) (changes_after after history) ≡ take n (changes_after seq history))
          (λ d. IsStored e.id (bytes_in docs d.now) e.last (option_map json change.doc))
          (λ d. IsAt docs d.now history → map numbered (items ++ change ∷ []) ++ take (n - (index + 1)) (changes_after (e.last).seq history) ≡ take n (changes_after seq history))
          (λ d old new at. written_more d.now history at new (old at)) (so_far.written history) stored;
    }

  -- a body that no document spells
  pub spoiled_after : (files : FileName → File) (at : ℕ) → IsLoaded docs files → (e.last).deleted ≡ false → IsSpoiled e.id (bytes_in docs files) (Some e.last) at → IsSpoiledAfter docs (bytes_in docs files) seq at
  spoiled_after files at loaded live spoiled = record {
    id = e.id;
    last = e.last;
    found = found_next (loaded_entries docs files loaded);
    after = omega (arith, so_far.low, next.1);
    live = live;
    spoiled = spoiled;
  }

  pub never_spoiled : (files : FileName → File) (at : ℕ) (history : List Write) → IsAt docs files history → (e.last).deleted ≡ false → IsSpoiled e.id (bytes_in docs files) (Some e.last) at → ⊥
  never_spoiled files at history is live spoiled =
      not_spoiled history (bytes_in docs files) (entries_of docs) (loaded_entries docs files is.is_open.loaded) is.each e.id e.last (found_next (loaded_entries docs files is.is_open.loaded)) live spoiled.1

-- ---- all changes

module _ (docs : Docs) (seq n after index : ℕ) (before : Option (Disk FileName)) (items : List Change) (so_far : IsSoFar docs seq n after index before items) where
  pub in_order : AreInOrder seq items
  in_order = record { after = so_far.above; rise = so_far.rise }

  pub whole_none : IsNext after (entries_of docs) None → AreWhole docs seq n items
  whole_none next = λ k d in' behind. inl (so_far.whole k d in' behind (next k d in'))

  pub written_none : IsNext after (entries_of docs) None → (history : List Write) → IfTold before (λ d. IsAt docs d.now history → map numbered items ≡ take n (changes_after seq history))
  written_none next history =
      told_now before (λ d. IsAt docs d.now history → map numbered items ++ take (n - index) (changes_after after history) ≡ take n (changes_after seq history))
      (λ d. IsAt docs d.now history → map numbered items ≡ take n (changes_after seq history))
      (λ d was at.
      let none : changes_after after history ≡ [] = none_left history (bytes_in docs d.now) (entries_of docs) (loaded_entries docs d.now at.is_open.loaded) at.each after next in
      sym (ap (λ l. map numbered items ++ take (n - index) l) none ∙ ap (λ l. map numbered items ++ l) (take_nil (n - index)) ∙ append-nil (map numbered items)) ∙ was at)
      (so_far.written history)

  module _ (full : n ≤ index) where
    pub whole_full : AreWhole docs seq n items
    whole_full = λ k d in' behind. by_order (get_or (entries_of docs) k d).last.seq (so_far.whole k d in' behind) (order (get_or (entries_of docs) k d).last.seq after)
      where
        by_order : (s : ℕ) → (s ≤ after → Contains (map (λ (c : Change). c.seq) items) s) → (s ≤ after) ⊎ (after < s) → Contains (map (λ (c : Change). c.seq) items) s ⊎ ((length items ≡ n) × All (λ (c : Change). c.seq < s) items)
        by_order s old (inl first) = inl (old first)
        by_order s old (inr then) = inr (omega (arith, so_far.count, so_far.within, full), λ k d in'. let low = so_far.below k d in' in omega arith)

    pub written_full : (history : List Write) → IfTold before (λ d. IsAt docs d.now history → map numbered items ≡ take n (changes_after seq history))
    written_full history =
        told_now before (λ d. IsAt docs d.now history → map numbered items ++ take (n - index) (changes_after after history) ≡ take n (changes_after seq history))
        (λ d. IsAt docs d.now history → map numbered items ≡ take n (changes_after seq history))
        (λ d was at. let left : n - index ≡ 0 = omega (arith, full) in
        sym (ap (λ m. map numbered items ++ take m (changes_after after history)) left ∙ append-nil (map numbered items)) ∙ was at)
        (so_far.written history)

-- what stands on a disk after calls that changed nothing stood there before
module _ (docs : Docs) (old new : Option (Disk FileName)) (none : Tells old new MovesNone) where
  same_bytes : (a b : Disk FileName) → MovesNone a b → bytes_in docs b.now ≡ bytes_in docs a.now
  same_bytes a b moved = ap (λ (f : File). f.seen) (none_same a b moved (name_of (file_of docs)))

  pub bytes_back : (P : List ℕ → Type 0) → IfTold new (λ d. P (bytes_in docs d.now)) → IfTold old (λ d. P (bytes_in docs d.now))
  bytes_back P told = told_back old new (λ d. P (bytes_in docs d.now)) (λ d. P (bytes_in docs d.now)) MovesNone (λ a b moved is. subst P (same_bytes a b moved) is) none told
