-- The counts of a history are those of what is kept.
use Rattle.std.proofs.Common.{◌≡◌, ℕ, ◌+◌, List, [], ◌∷◌, length, map, Option, Some, None, Ordering, Less, Equal, Greater, nat_cmp, refl, sym, ap, ◌∙◌, subst, arith}
use Rattle.std.specs.Prelude.{Bool, ◌&&◌, true, false, not, bytes_eq, cond, count_by, is_none, option_map, T}
use Rattle.std.specs.List.{filter_map, cons_option}
use Rattle.std.proofs.lemmas.List.Sums.{sum_by-cons}
use Rattle.std.specs.Ordering.{eq_by_cmp, is_lt, match_ordering}
use Rattle.std.specs.Cmp.Lexicographic.{slice_cmp}
use Rattle.std.specs.BTreeMap.{insert_entry}
use Rattle.std.specs.FinMap.Entries.{below_all, by_order, find, find-put, is_sorted, is_sorted-put, put, same_entries}
use Rattle.std.specs.FinMap.{nat_cmp-IsAntisymmetric, slice_cmp-IsAntisymmetric}
use Rattle.std.proofs.lemmas.Cmp.{nat_list_cmp_total}
use Rattle.std.proofs.lemmas.Map.Text.{is_eq-slice_cmp}
use Rattle.json_terms.specs.Json.{Json}
use Rattle.view_ports.specs.File.{File}
use Rattle.view_ports.specs.declared.file_name.FileName.{FileName}
use Rattle.gate_file.specs.GateFile.{commits_of, root_of}
use Rattle.doc_file.specs.declared.docs.Docs.{Docs}
use Rattle.doc_file.specs.declared.entry.LastWrite.{LastWrite}
use Rattle.doc_file.specs.declared.entry.Entry.{Entry}
use Rattle.doc_file.specs.Docs.{bytes_in, entries_of, file_of, info_in, info_of, seq_of, IsAt}
use Rattle.doc_file.specs.Held.{KeepsEach, find_last}
use Rattle.design_docs.specs.History.{Write, last_write, last_writes, live, stored}
use Rattle.doc_file.specs.Record.{AreEntries, ComesBefore}
use Rattle.doc_file.proofs.Known.{kept_flag, same_flag, write_flag}
use Rattle.doc_file.proofs.Since.{are_entries}

-- each id, and whether its last write is a deletion
abbrev kept_flags : List Entry → List (List ℕ × Bool)
kept_flags es = map (λ (e : Entry). (e.id, (e.last).deleted)) es

abbrev write_flags : List (List ℕ × Write) → List (List ℕ × Bool)
write_flags ws = map (λ (w : List ℕ × Write). (w.0, is_none (w.1).document)) ws

-- ---- of the entries

before_rest : (id : List ℕ) (e : Entry) (es : List Entry) → slice_cmp nat_cmp id e.id ≡ Less → ComesBefore e.id es → ComesBefore id es
before_rest id e [] less before = tt
before_rest id e (f ∷ es) less before = nat_list_cmp_total.trans id e.id f.id less before

joined : (a b : Bool) → T a → T b → T (a && b)
joined true b p q = q
joined false b p q = p

below : (id : List ℕ) (es : List Entry) → ComesBefore id es → AreEntries es → T (below_all (slice_cmp nat_cmp) id (kept_flags es))
below id [] before are = tt
below id (e ∷ es) before are = joined (is_lt (slice_cmp nat_cmp id e.id)) (below_all (slice_cmp nat_cmp) id (kept_flags es)) (subst (λ o. T (is_lt o)) (sym before) tt) (below id es (before_rest id e es before are.1) are.2)

entries_sorted : (es : List Entry) → AreEntries es → T (is_sorted (slice_cmp nat_cmp) (kept_flags es))
entries_sorted [] are = tt
entries_sorted (e ∷ es) are = joined (below_all (slice_cmp nat_cmp) e.id (kept_flags es)) (is_sorted (slice_cmp nat_cmp) (kept_flags es)) (below e.id es are.1 are.2) (entries_sorted es are.2)

-- the flag that is found
flag_when : (b : Bool) (e : Entry) (es : List Entry) (id : List ℕ) → option_map (λ (l : LastWrite). l.deleted) (cond b (Some e.last) (find_last id es)) ≡ cond b (Some (e.last).deleted) (kept_flag (find_last id es))
flag_when true e es id = refl
flag_when false e es id = refl

find_kept : (id : List ℕ) (es : List Entry) → find (slice_cmp nat_cmp) id (kept_flags es) ≡ kept_flag (find_last id es)
find_kept id [] = refl
find_kept id (e ∷ es) =
    ap (λ r. cond (eq_by_cmp (slice_cmp nat_cmp) id e.id) (Some (e.last).deleted) r) (find_kept id es)
    ∙ ap (λ b. cond b (Some (e.last).deleted) (kept_flag (find_last id es))) (is_eq-slice_cmp id e.id)
    ∙ sym (flag_when (bytes_eq id e.id) e es id)

-- ---- of the last writes

insert_match : (o : Ordering) (id : List ℕ) (write : Write) (w : List ℕ × Write) (ws : List (List ℕ × Write))
    → write_flags (insert_entry (slice_cmp nat_cmp) ws id write) ≡ put (slice_cmp nat_cmp) id (is_none write.document) (write_flags ws)
    → write_flags (match_ordering o ((id, write) ∷ w ∷ ws) ((w.0, write) ∷ ws) (w ∷ insert_entry (slice_cmp nat_cmp) ws id write))
    ≡ by_order o ((id, is_none write.document) ∷ write_flags (w ∷ ws)) ((w.0, is_none write.document) ∷ write_flags ws) ((w.0, is_none (w.1).document) ∷ put (slice_cmp nat_cmp) id (is_none write.document) (write_flags ws))
insert_match Less id write w ws rest = refl
insert_match Equal id write w ws rest = refl
insert_match Greater id write w ws rest = ap (λ l. (w.0, is_none (w.1).document) ∷ l) rest

flags-insert : (id : List ℕ) (write : Write) (ws : List (List ℕ × Write)) → write_flags (insert_entry (slice_cmp nat_cmp) ws id write) ≡ put (slice_cmp nat_cmp) id (is_none write.document) (write_flags ws)
flags-insert id write [] = refl
flags-insert id write (w ∷ ws) = insert_match (slice_cmp nat_cmp id w.0) id write w ws (flags-insert id write ws)

writes_sorted : (history : List Write) → T (is_sorted (slice_cmp nat_cmp) (write_flags (last_writes history)))
writes_sorted [] = tt
writes_sorted (write ∷ older) =
    subst (λ l. T (is_sorted (slice_cmp nat_cmp) l)) (sym (flags-insert write.id write (last_writes older)))
    (is_sorted-put (slice_cmp nat_cmp) nat_list_cmp_total write.id (is_none write.document) (write_flags (last_writes older)) (writes_sorted older))

write_when : (b : Bool) (write : Write) (older : Option Write) → write_flag (cond b (Some write) older) ≡ cond b (Some (is_none write.document)) (write_flag older)
write_when true write older = refl
write_when false write older = refl

find_written : (id : List ℕ) (history : List Write) → find (slice_cmp nat_cmp) id (write_flags (last_writes history)) ≡ write_flag (last_write history id)
find_written id [] = refl
find_written id (write ∷ older) =
    ap (find (slice_cmp nat_cmp) id) (flags-insert write.id write (last_writes older))
    ∙ find-put (slice_cmp nat_cmp) nat_list_cmp_total id write.id (is_none write.document) (write_flags (last_writes older))
    ∙ ap (λ r. cond (eq_by_cmp (slice_cmp nat_cmp) id write.id) (Some (is_none write.document)) r) (find_written id older)
    ∙ ap (λ b. cond b (Some (is_none write.document)) (write_flag (last_write older id))) (is_eq-slice_cmp id write.id)
    ∙ sym (write_when (bytes_eq id write.id) write (last_write older id))

-- ---- both are the same

same_flags : (history : List Write) (bytes : List ℕ) (entries : List Entry) → AreEntries entries → KeepsEach history bytes entries → kept_flags entries ≡ write_flags (last_writes history)
same_flags history bytes entries are each =
    same_entries (slice_cmp nat_cmp) nat_list_cmp_total (slice_cmp-IsAntisymmetric nat_cmp-IsAntisymmetric) (kept_flags entries) (write_flags (last_writes history)) (entries_sorted entries are) (writes_sorted history)
    (λ id. find_kept id entries ∙ same_flag history bytes (find_last id entries) (last_write history id) (each id) ∙ sym (find_written id history))

count_map : {A B : Type 0} (g : A → B) (p : B → Bool) (xs : List A) → count_by (λ a. p (g a)) xs ≡ count_by p (map g xs)
count_map g p [] = refl
count_map g p (x ∷ xs) =
    sum_by-cons (λ a. cond (p (g a)) 1 0) x xs ∙ ap (λ n. cond (p (g x)) 1 0 + n) (count_map g p xs) ∙ sym (sum_by-cons (λ b. cond (p b) 1 0) (g x) (map g xs))

live_match : (id : List ℕ) (document : Option Json) (rest : List (List ℕ × Json)) → length (cons_option (option_map (λ d. (id, d)) document) rest) ≡ cond (not (is_none document)) 1 0 + length rest
live_match id None rest = omega arith
live_match id (Some d) rest = omega arith

live_count : (ws : List (List ℕ × Write)) → length (filter_map stored ws) ≡ count_by (λ (w : List ℕ × Write). not (is_none (w.1).document)) ws
live_count [] = refl
live_count (w ∷ ws) =
    live_match w.0 (w.1).document (filter_map stored ws) ∙ ap (λ n. cond (not (is_none (w.1).document)) 1 0 + n) (live_count ws)
    ∙ sym (sum_by-cons (λ (x : List ℕ × Write). cond (not (is_none (x.1).document)) 1 0) w ws)

counted_flags : (p : Bool → Bool) (history : List Write) (bytes : List ℕ) (entries : List Entry) → AreEntries entries → KeepsEach history bytes entries
    → count_by (λ (e : Entry). p (e.last).deleted) entries ≡ count_by (λ (w : List ℕ × Write). p (is_none (w.1).document)) (last_writes history)
counted_flags p history bytes entries are each =
    count_map (λ (e : Entry). (e.id, (e.last).deleted)) (λ x. p x.1) entries
    ∙ ap (count_by (λ (x : List ℕ × Bool). p x.1)) (same_flags history bytes entries are each)
    ∙ sym (count_map (λ (w : List ℕ × Write). (w.0, is_none (w.1).document)) (λ x. p x.1) (last_writes history))

pub info_is : (docs : Docs) (files : FileName → File) (history : List Write) → IsAt docs files history → info_of docs ≡ info_in history
info_is docs files history at = λ i. record { doc_count = live_is i; doc_del_count = deleted_is i; update_seq = at.count i }
  where
    are : AreEntries (entries_of docs)
    are = are_entries (root_of (file_of docs)) (commits_of (file_of docs)) (bytes_in docs files) (seq_of docs) (entries_of docs) at.is_open.loaded

    live_is : count_by (λ (e : Entry). not (e.last).deleted) (entries_of docs) ≡ length (live history)
    live_is = counted_flags not history (bytes_in docs files) (entries_of docs) are at.each ∙ sym (live_count (last_writes history))

    deleted_is : count_by (λ (e : Entry). (e.last).deleted) (entries_of docs) ≡ count_by (λ (w : List ℕ × Write). is_none (w.1).document) (last_writes history)
    deleted_is = counted_flags (λ b. b) history (bytes_in docs files) (entries_of docs) are at.each
