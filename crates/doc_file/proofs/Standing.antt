-- What the documents' file stands for while a write is stored, and after it.
use Rattle.std.proofs.Common.{◌≡◌, ℕ, ◌+◌, ◌^◌, ◌<◌, ◌≤◌, List, [], ◌∷◌, ◌++◌, length, take, Option, Some, None, IsUtf8, refl, sym, ap, ◌∙◌, subst, arith, append_assoc, append-nil, length-append}
use Rattle.std.specs.Prelude.{true, is_none, nat_le, MatchOption}
use Rattle.std.specs.List.{list_all}
use Rattle.std.proofs.Math.Seq.{take-append_seam, drop-append_seam}
use Rattle.std.proofs.lemmas.Bool.Decides.{nat_tests}
use Rattle.json_terms.specs.Json.{Json}
use Rattle.term_codec.specs.Spelling.{spelling}
use Rattle.gate_file.specs.declared.root.Root.{Root}
use Rattle.gate_file.specs.declared.gate.GateFile.{GateFile}
use Rattle.gate_file.specs.GateFile.{start_of}
use Rattle.gate_file.specs.Header.{data_start}
use Rattle.gate_file.specs.Open.{IsPart}
use Rattle.gate_file.specs.Shown.{HasAll}
use Rattle.gate_file.proofs.Published.{has_all_more}
use Rattle.doc_file.specs.declared.entry.LastWrite.{LastWrite}
use Rattle.doc_file.specs.declared.entry.Entry.{Entry}
use Rattle.doc_file.specs.declared.rev.Rev.{Rev}
use Rattle.doc_file.specs.Record.{IsEntry, IsRoot, AreEntries, record_bytes}
use Rattle.doc_file.specs.Counts.{is_counted, are_counted, most_writes}
use Rattle.design_docs.specs.History.{AreStored, IsStoredAs, Write, generation}
use Rattle.doc_file.specs.Held.{HoldsRoot, HoldsWrites, IsBodyOf, KeepsDocument, KeepsEach, find_last}
use Rattle.doc_file.specs.Stored.{body_of, entry_of, generation_in, last_of, next_rev, place_in, revised, with_last, write_of}
use Rattle.std.specs.Cmp.{first_so, second_so}
use Rattle.doc_file.proofs.Setting.{passes, list_all-with_last, list_all-weaker, AreEntries-with_last}
use Rattle.doc_file.proofs.Histories.{each_written, generation_kept}
use Rattle.doc_file.proofs.Carried.{carried_each}

-- the part of a list between two others
part_between : (front part behind : List ℕ) → IsPart (front ++ (part ++ behind)) (length front) (length part) part
part_between front part behind = record {
  long = refl;
  same = sym (ap (take (length part)) (drop-append_seam front (part ++ behind)) ∙ take-append_seam part behind);
}

-- the last part of a list
part_last : (front middle part : List ℕ) → IsPart (front ++ (middle ++ part)) (length front + length middle) (length part) part
part_last front middle part =
    let whole : (front ++ middle) ++ (part ++ []) ≡ front ++ (middle ++ part) = ap (λ l. (front ++ middle) ++ l) (append-nil part) ∙ append_assoc front middle part in
    subst (λ bytes. IsPart bytes (length front + length middle) (length part) part) whole
    (subst (λ n. IsPart ((front ++ middle) ++ (part ++ [])) n (length part) part) (length-append front middle) (part_between (front ++ middle) part []))

-- the entry that is found is counted
generation_small : (seq : ℕ) (entries : List Entry) (id : List ℕ) (found : Option LastWrite) → find_last id entries ≡ found → list_all (is_counted seq) entries ≡ true → generation_in found ≤ seq
generation_small seq entries id None is all = omega arith
generation_small seq entries id (Some last) is all =
    let passed : is_counted seq (entry_of id last) ≡ true = passes (is_counted seq) id last entries is all in
    grind (arith, nat_tests)

-- one more write is counted
counted_more : (seq : ℕ) (e : Entry) → is_counted seq e ≡ true → is_counted (seq + 1) e ≡ true
counted_more seq e is = grind (arith, nat_tests)

-- there is room for one more write
pub seq_room : (commits seq : ℕ) (entries : List Entry) → are_counted commits seq entries ≡ true → seq + 1 < 2 ^ 63
seq_room commits seq entries counted =
    let le : nat_le seq (most_writes commits) ≡ true = first_so (nat_le seq (most_writes commits)) (list_all (is_counted seq) entries) counted in
    let most : seq ≤ most_writes commits = grind (arith, nat_tests) in
    omega arith

pub generation_room : (commits seq : ℕ) (entries : List Entry) (id : List ℕ) → are_counted commits seq entries ≡ true → generation_in (find_last id entries) ≤ seq
generation_room commits seq entries id counted =
    generation_small seq entries id (find_last id entries) refl (second_so (nat_le seq (most_writes commits)) (list_all (is_counted seq) entries) counted)

module _ (gate : GateFile) (seq : ℕ) (entries : List Entry) (id : List ℕ) (rev : Rev) (document : Option Json) where
  abbrev last : LastWrite
  last = last_of (start_of gate) rev document

  abbrev entries' : List Entry
  entries' = with_last id (last_of (start_of gate) rev document) entries

  module _ (rev_is : rev ≡ next_rev seq entries id) (counted : are_counted gate.commits seq entries ≡ true) (few : gate.commits < 2 ^ 50) where
    generation_is : rev.generation ≡ generation_in (find_last id entries) + 1
    generation_is = ap (λ (r : Rev). r.generation) rev_is

    seq_is : rev.seq ≡ seq + 1
    seq_is = ap (λ (r : Rev). r.seq) rev_is

    most : seq ≤ most_writes gate.commits
    most = let le : nat_le seq (most_writes gate.commits) ≡ true = first_so (nat_le seq (most_writes gate.commits)) (list_all (is_counted seq) entries) counted in grind (arith, nat_tests)

    each_counted : list_all (is_counted seq) entries ≡ true
    each_counted = second_so (nat_le seq (most_writes gate.commits)) (list_all (is_counted seq) entries) counted

    generation_most : rev.generation ≤ seq + 1
    generation_most = omega (arith, generation_is, generation_small seq entries id (find_last id entries) refl each_counted)

    new_counted : is_counted (seq + 1) (entry_of id (last_of (start_of gate) rev document)) ≡ true
    new_counted =
        let p : 0 < rev.generation = omega (arith, generation_is) in
        let q : rev.generation ≤ rev.seq = omega (arith, generation_most, seq_is) in
        let r : rev.seq ≤ seq + 1 = omega (arith, seq_is) in
        grind (arith, nat_tests)

    pub counted_written : are_counted (gate.commits + 1) (seq + 1) entries' ≡ true
    counted_written =
        let le : seq + 1 ≤ most_writes (gate.commits + 1) = omega (arith, most, few) in
        let test : nat_le (seq + 1) (most_writes (gate.commits + 1)) ≡ true = grind (arith, nat_tests) in
        let all : list_all (is_counted (seq + 1)) entries' ≡ true = list_all-with_last (is_counted (seq + 1)) id (last_of (start_of gate) rev document) entries new_counted
        (list_all-weaker (is_counted seq) (is_counted (seq + 1)) entries (counted_more seq) each_counted) in
        rw test all

    pub seq_small : seq + 1 < 2 ^ 64
    seq_small = omega (arith, most, few)

    module _ (are : AreEntries entries) (utf8 : IsUtf8 id) (short : length id + 33 < 2 ^ 32) (small : start_of gate < 2 ^ 64) (body_small : length (body_of document) < 2 ^ 32) where
      new_entry : IsEntry (entry_of id (last_of (start_of gate) rev document))
      new_entry = record {
        utf8 = utf8;
        short = short;
        last = record {
          seq = omega (arith, seq_is, seq_small);
          generation = omega (arith, generation_most, seq_small);
          offset = place_small document;
          length = body_small;
          tombstone = tombstone document;
        };
      }
        where
          place_small : (d : Option Json) → place_in (start_of gate) (is_none d) < 2 ^ 64
          place_small None = omega arith
          place_small (Some d) = small

          tombstone : (d : Option Json) → is_none d ≡ true → (place_in (start_of gate) (is_none d) ≡ 0) × (length (body_of d) ≡ 0)
          tombstone None is = (refl, refl)
          tombstone (Some d) is = absurd (let clash : ⊥ = cc in clash)

      pub root_written : length entries' < 2 ^ 64 → IsRoot (seq + 1) entries'
      root_written many = record {
        small = seq_small;
        few = many;
        each = AreEntries-with_last id (last_of (start_of gate) rev document) entries new_entry are;
      }

      -- ---- the file with its new root, as it is written

      module _ (front record_part : List ℕ) (front_long : length front ≡ start_of gate) (many : length entries' < 2 ^ 64)
          (record_is : record_part ≡ record_bytes (seq + 1) entries') (next : Root) (at : next.offset ≡ start_of gate + length (body_of document)) (long : next.length ≡ length record_part) where
        start_behind : data_start ≤ start_of gate
        start_behind = omega arith

        pub holds_written : (commits : ℕ) → commits ≡ gate.commits + 1 → HoldsRoot (Some next) commits (front ++ (body_of document ++ record_part)) (seq + 1) entries'
        holds_written commits commits_is = (
          root_written many,
          ap (λ n. are_counted n (seq + 1) entries') commits_is ∙ counted_written,
          subst (IsPart (front ++ (body_of document ++ record_part)) next.offset next.length) record_is part,
        )
          where
            part : IsPart (front ++ (body_of document ++ record_part)) next.offset next.length record_part
            part = subst (λ o. IsPart (front ++ (body_of document ++ record_part)) o next.length record_part) (ap (λ n. n + length (body_of document)) front_long ∙ sym at)
                (subst (λ n. IsPart (front ++ (body_of document ++ record_part)) (length front + length (body_of document)) n record_part) (sym long) (part_last front (body_of document) record_part))

        body_written : (d : Option Json) → d ≡ document → ((t : Json) → d ≡ Some t → IsBodyOf id t) → KeepsDocument id (front ++ (body_of document ++ record_part)) (last_of (start_of gate) rev d) d
        body_written None is body = refl
        body_written (Some t) is body = (refl, start_behind, record { body = body t refl; spelled = part })
          where
            whole : front ++ (spelling t ++ record_part) ≡ front ++ (body_of document ++ record_part)
            whole = ap (λ (o : Option Json). front ++ (body_of o ++ record_part)) is

            part : IsPart (front ++ (body_of document ++ record_part)) (start_of gate) (length (spelling t)) (spelling t)
            part = subst (λ bytes. IsPart bytes (start_of gate) (length (spelling t)) (spelling t)) whole
                (subst (λ n. IsPart (front ++ (spelling t ++ record_part)) n (length (spelling t)) (spelling t)) front_long (part_between front (spelling t) record_part))

        -- over a history that the bytes before hold
        module _ (history : List Write) (content : Option Json) (document_is : document ≡ revised content rev) (count : seq ≡ length history)
            (old : List ℕ) (older : HasAll old front) (each : KeepsEach history old entries) (body : (t : Json) → document ≡ Some t → IsBodyOf id t)
            (are_stored : AreStored history) (storable : (t : Json) → document ≡ Some t → IsStoredAs id t) where
          generations : rev.generation ≡ generation history id + 1
          generations = generation_is ∙ ap (λ n. n + 1) (generation_kept history old entries each id)

          numbers : rev.seq ≡ length history + 1
          numbers = seq_is ∙ ap (λ n. n + 1) count

          document_written : document ≡ (write_of history id content).document
          document_written = document_is ∙ ap (λ r. revised content r) rev_same
            where
              rev_same : rev ≡ record { generation = generation history id + 1; seq = length history + 1 }
              rev_same = λ i. record { generation = generations i; seq = numbers i }

          each_here : KeepsEach (write_of history id content ∷ history) (front ++ (body_of document ++ record_part)) entries'
          each_here =
              each_written history (write_of history id content) (front ++ (body_of document ++ record_part)) entries (last_of (start_of gate) rev document)
              (carried_each old (front ++ (body_of document ++ record_part)) (has_all_more old front (body_of document ++ record_part) older) history entries each)
              numbers generations
              (subst (KeepsDocument id (front ++ (body_of document ++ record_part)) (last_of (start_of gate) rev document)) document_written (body_written document refl body))

          stored_here : (d : Option Json) → document ≡ d → MatchOption d (Unit {0}) (IsStoredAs id)
          stored_here None is = tt
          stored_here (Some t) is = storable t is

          pub writes_written : next.number ≡ gate.commits + 1 → HoldsWrites (Some next) (front ++ (body_of document ++ record_part)) (write_of history id content ∷ history)
          writes_written number = record {
            entries = entries';
            holds = subst (λ n. HoldsRoot (Some next) next.number (front ++ (body_of document ++ record_part)) n entries') (ap (λ n. n + 1) count ∙ omega arith) (holds_written next.number number);
            each = each_here;
            stored = (stored_here (write_of history id content).document document_written, are_stored);
          }
