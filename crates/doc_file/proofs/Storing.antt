-- What a folder tells while a draft is stored.
use Rattle.std.proofs.Common.{◌≡◌, ◌⊎◌, inl, ℕ, ◌+◌, ◌-◌, ◌^◌, ◌<◌, List, ◌∷◌, ◌++◌, length, Option, Some, None, Result, Ok, OnOk, refl, sym, ap, ◌∙◌, subst, arith, length-append}
use Rattle.std.specs.Prelude.{true}
use Rattle.std.specs.List.{list_all}
use Rattle.json_terms.specs.Json.{Json}
use Rattle.view_ports.specs.File.{File}
use Rattle.view_ports.specs.Disk.{Disk, IfTold, Moves, OthersStay, Tells}
use Rattle.view_ports.specs.declared.file_name.FileName.{FileName}
use Rattle.view_ports.specs.declared.file_name.Stem.TheVariants.{Docs as DocsStem}
use Rattle.view_ports.proofs.Told.{told_after, told_given, told_refl, told_still}
use Rattle.view_ports.proofs.DiskRuns.{moves_none, moves_wider, on_ok}
use Rattle.gate_file.specs.declared.root.Root.{Root}
use Rattle.gate_file.specs.declared.gate.GateFile.{GateFile}
use Rattle.gate_file.specs.GateFile.{commits_in, commits_of, name_of, root_of, start_of}
use Rattle.gate_file.specs.Pair.{IsOpenPair, own_bytes}
use Rattle.gate_file.specs.Publish.{IsPublished, Publishes, WillHold, published, published_root}
use Rattle.gate_file.proofs.Published.{publishing_stands, published_holds, published_open}
use Rattle.doc_file.specs.declared.docs.Docs.{Docs}
use Rattle.doc_file.specs.declared.draft.Draft.{Draft}
use Rattle.doc_file.specs.declared.entry.Entry.{Entry}
use Rattle.doc_file.specs.declared.rev.Rev.{Rev}
use Rattle.doc_file.specs.Counts.{are_counted, has_room}
use Rattle.doc_file.specs.Docs.{bytes_in, entries_of, file_of, seq_of, IsAt, IsDocsFile, IsLoaded, IsOpen}
use Rattle.doc_file.specs.Drafts.{IsDraft}
use Rattle.doc_file.specs.Held.{HoldsRoot, HoldsWrites, IsBodyOf, SpellsRoot, Stands, find_last}
use Rattle.design_docs.specs.History.{IsStoredAs, Write}
use Rattle.doc_file.specs.Record.{rise, AreEntries, record_bytes}
use Rattle.doc_file.specs.Stored.{body_of, entry_of, generation_in, last_of, revised, with_last, write_of, IsStorable}
use Rattle.doc_file.proofs.Carried.{spells_of_root, writes_of_root}
use Rattle.doc_file.proofs.CountsKept.{room_of}
use Rattle.doc_file.proofs.Rises.{rise-with_last}
use Rattle.doc_file.proofs.Setting.{list_all-with_last}
use Rattle.doc_file.proofs.Since.{are_entries}
use Rattle.doc_file.proofs.Standing.{counted_written, generation_room, holds_written, seq_room, writes_written}
use Rattle.doc_file.proofs.Stores.{at_writes, image_now, writes_at}

abbrev Told : Type 0
Told = Option (Disk FileName)

-- nothing was called
pub stays_at : (docs : Docs) (disk : Told) (history : List Write) (write : Write) (ends : (FileName → File) → Type 0) → ((files : FileName → File) → ends files) → IfTold disk (λ d. IsAt docs d.now history)
    → Tells disk disk (Moves IsDocsFile (λ image. Stands image history ⊎ Stands image (write ∷ history)) ends)
stays_at docs disk history write ends ended at =
    told_still disk (λ d. IsAt docs d.now history) (Moves IsDocsFile (λ image. Stands image history ⊎ Stands image (write ∷ history)) ends)
    (λ d is. moves_none IsDocsFile (λ image. Stands image history ⊎ Stands image (write ∷ history)) ends d (λ image left. inl (image_now docs d.now is.is_open history is image left)) (ended d.now))
    at

abbrev pub MovesOwn : Disk FileName → Disk FileName → Type 0
MovesOwn = Moves IsDocsFile (λ image. Unit {0}) (λ files. Unit {0})

-- and no other file changed
pub others_still : (disk : Told) → Tells disk disk MovesOwn
others_still disk = told_refl disk MovesOwn (λ d. moves_none IsDocsFile (λ image. Unit {0}) (λ files. Unit {0}) d (λ image left. tt) tt)

-- nor does any while bytes are published in the documents' file
pub others_published : {T E : Type 0} (docs : Docs) (bytes : List ℕ) (skipped : ℕ) (result : Result T E) (old new : Told) → IfTold old (λ d. IsOpen docs d.now) → Tells old new (Publishes (file_of docs) bytes skipped result)
    → Tells old new MovesOwn
others_published docs bytes skipped result old new =
    told_given old new (λ d. IsOpen docs d.now) (Publishes (file_of docs) bytes skipped result) MovesOwn
    (λ a b is moves. moves_wider (λ n. n ≡ name_of (file_of docs)) IsDocsFile _ (λ image. Unit {0}) _ (λ files. Unit {0}) a b
    (λ n same. ap (λ (k : FileName). k.stem) same ∙ is.pair.own) (λ image framed. tt) (λ others ended. tt) moves)

-- The draft is of the entries and the place that the object has, and its bytes are what is published.
module _ (docs : Docs) (id : List ℕ) (content : Option Json) (draft : Draft) (start : ℕ) (start_is : start ≡ start_of (file_of docs)) (listed : List Entry) (listed_is : listed ≡ entries_of docs)
    (made : IsDraft start (seq_of docs) listed id content draft) (short : length id + 33 < 2 ^ 32) (storable : IsStorable id content)
    (bytes : List ℕ) (bytes_is : bytes ≡ draft.bytes.items) (skipped : ℕ) (skipped_is : skipped ≡ draft.body) where
  is : IsDraft (start_of (file_of docs)) (seq_of docs) (entries_of docs) id content draft
  is = subst (λ s. IsDraft s (seq_of docs) (entries_of docs) id content draft) start_is (subst (λ es. IsDraft start (seq_of docs) es id content draft) listed_is made)

  bytes_are : bytes ≡ body_of (revised content draft.rev) ++ record_bytes (seq_of docs + 1) draft.entries.items
  bytes_are = bytes_is ∙ is.bytes

  skipped_body : skipped ≡ length (body_of (revised content draft.rev))
  skipped_body = skipped_is ∙ is.body

  generation_is : (draft.rev).generation ≡ generation_in (find_last id (entries_of docs)) + 1
  generation_is = ap (λ (r : Rev). r.generation) is.rev

  generation_few : (draft.rev).generation < 2 ^ 63
  generation_few =
      let room = generation_room (commits_of (file_of docs)) (seq_of docs) (entries_of docs) id docs.counted in
      let most = seq_room (commits_of (file_of docs)) (seq_of docs) (entries_of docs) docs.counted in
      omega (arith, generation_is, room, most)

  generation_fits : (draft.rev).generation < 2 ^ 64
  generation_fits = omega (arith, generation_few)

  body_small : length (body_of (revised content draft.rev)) < 2 ^ 32
  body_small = by_content content storable
    where
      by_content : (c : Option Json) → IsStorable id c → length (body_of (revised c draft.rev)) < 2 ^ 32
      by_content None all = omega arith
      by_content (Some c) all = (all.written draft.rev generation_fits).short

  body_is : (t : Json) → revised content draft.rev ≡ Some t → IsBodyOf id t
  body_is = by_content content storable
    where
      by_content : (c : Option Json) → IsStorable id c → (t : Json) → revised c draft.rev ≡ Some t → IsBodyOf id t
      by_content None all t same = absurd (let clash : ⊥ = cc in clash)
      by_content (Some c) all t same = subst (IsBodyOf id) (let s : _ ≡ t = cc in s) (all.written draft.rev generation_fits).body

  stored_is : (t : Json) → revised content draft.rev ≡ Some t → IsStoredAs id t
  stored_is = by_content content storable
    where
      by_content : (c : Option Json) → IsStorable id c → (t : Json) → revised c draft.rev ≡ Some t → IsStoredAs id t
      by_content None all t same = absurd (let clash : ⊥ = cc in clash)
      by_content (Some c) all t same = subst (IsStoredAs id) (let s : _ ≡ t = cc in s) (all.stored draft.rev (omega (arith, generation_is)) generation_few)

  abbrev next : Root
  next = published_root (file_of docs) (length bytes) skipped

  abbrev last : GateFile
  last = published (file_of docs) (length bytes) skipped

  seq_now : (draft.rev).seq ≡ seq_of docs + 1
  seq_now = ap (λ (r : Rev). r.seq) is.rev

  -- the counts are those of a history
  pub counted_now : (few : commits_of (file_of docs) < 2 ^ 50) (file : GateFile) → file ≡ last → are_counted (commits_of file) (draft.rev).seq draft.entries.items ≡ true
  counted_now few file file_is =
      ap (λ (f : GateFile). are_counted (commits_of f) (draft.rev).seq draft.entries.items) file_is
      ∙ ap (λ n. are_counted (commits_of (file_of docs) + 1) n draft.entries.items) seq_now
      ∙ ap (are_counted (commits_of (file_of docs) + 1) (seq_of docs + 1)) is.entries_are
      ∙ counted_written (file_of docs) (seq_of docs) (entries_of docs) id draft.rev (revised content draft.rev) is.rev docs.counted few

  pub room_now : list_all has_room draft.entries.items ≡ true
  room_now = ap (list_all has_room) is.entries_are
      ∙ list_all-with_last has_room id (last_of (start_of (file_of docs)) draft.rev (revised content draft.rev)) (entries_of docs) (room_of (entry_of id (last_of (start_of (file_of docs)) draft.rev (revised content draft.rev))) short) docs.room

  pub order_now : rise draft.entries.items ≡ true
  order_now = ap rise is.entries_are ∙ rise-with_last id (last_of (start_of (file_of docs)) draft.rev (revised content draft.rev)) (entries_of docs) docs.order

  record_long : length bytes - skipped ≡ length (record_bytes (seq_of docs + 1) draft.entries.items)
  record_long = omega (arith, ap length bytes_are, length-append (body_of (revised content draft.rev)) (record_bytes (seq_of docs + 1) draft.entries.items), skipped_body)

  many : length (with_last id (last_of (start_of (file_of docs)) draft.rev (revised content draft.rev)) (entries_of docs)) < 2 ^ 64
  many = omega (arith, is.few, ap length is.entries_are)

  module _ (few : commits_of (file_of docs) < 2 ^ 50) (files : FileName → File) (loaded : IsLoaded docs files) where
    entries_now : AreEntries (entries_of docs)
    entries_now = are_entries (root_of (file_of docs)) (commits_of (file_of docs)) (bytes_in docs files) (seq_of docs) (entries_of docs) loaded

    -- what the new root record will spell
    will_spell : WillHold SpellsRoot (file_of docs) (bytes_in docs files) bytes skipped (seq_of docs + 1, draft.entries.items)
    will_spell front long has =
        subst (λ b. HoldsRoot (Some next) (commits_of (file_of docs) + 1) (front ++ b) (seq_of docs + 1) draft.entries.items) (sym bytes_are)
        (subst (HoldsRoot (Some next) (commits_of (file_of docs) + 1) (front ++ (body_of (revised content draft.rev) ++ record_bytes (seq_of docs + 1) draft.entries.items)) (seq_of docs + 1)) (sym is.entries_are)
        (holds_written (file_of docs) (seq_of docs) (entries_of docs) id draft.rev (revised content draft.rev) is.rev docs.counted few entries_now is.utf8 short is.place body_small
        front (record_bytes (seq_of docs + 1) draft.entries.items) long many (ap (record_bytes (seq_of docs + 1)) is.entries_are) next
        (ap (λ n. start_of (file_of docs) + n) skipped_body) record_long (commits_of (file_of docs) + 1) refl))

    -- and the history that the new root will hold
    will_hold : (history : List Write) → IsAt docs files history → WillHold HoldsWrites (file_of docs) (bytes_in docs files) bytes skipped (write_of history id content ∷ history)
    will_hold history at front long has =
        subst (λ b. HoldsWrites (Some next) (front ++ b) (write_of history id content ∷ history)) (sym bytes_are)
        (writes_written (file_of docs) (seq_of docs) (entries_of docs) id draft.rev (revised content draft.rev) is.rev docs.counted few entries_now is.utf8 short is.place body_small
        front (record_bytes (seq_of docs + 1) draft.entries.items) long many (ap (record_bytes (seq_of docs + 1)) is.entries_are) next
        (ap (λ n. start_of (file_of docs) + n) skipped_body) record_long
        history content refl at.count (bytes_in docs files) has at.each body_is at.stored stored_is refl)

  -- while the draft is published
  pub publishes : {T E : Type 0} (old new : Told) (history : List Write) (result : Result T E) (ends : (FileName → File) → Type 0)
      → ((a b : Disk FileName) → IsAt docs a.now history → OthersStay (λ n. n ≡ name_of (file_of docs)) a.now b.now → OnOk result (IsPublished last bytes (a.now (name_of (file_of docs))) (b.now (name_of (file_of docs)))) → ends b.now)
      → IfTold old (λ d. IsAt docs d.now history)
      → Tells old new (Publishes (file_of docs) bytes skipped result)
      → Tells old new (Moves IsDocsFile (λ image. Stands image history ⊎ Stands image (write_of history id content ∷ history)) ends)
  publishes old new history result ends endings at moves =
      publishing_stands DocsStem (file_of docs) bytes skipped HoldsWrites writes_of_root old new (λ files. IsAt docs files history) history (write_of history id content ∷ history) result ends
      (λ files here. record { is_open = here.is_open.pair; holds = writes_at docs files here.is_open history here; will = λ few. will_hold few files here.is_open.loaded history here })
      endings at moves

  -- and once it is
  module _ (few : commits_of (file_of docs) < 2 ^ 50) (now : Docs) (file_now : file_of now ≡ last) (seq_new : seq_of now ≡ seq_of docs + 1) (entries_now : entries_of now ≡ draft.entries.items) where
    module _ (a b : Disk FileName) (others : OthersStay (λ n. n ≡ name_of (file_of docs)) a.now b.now) (done : IsPublished last bytes (a.now (name_of (file_of docs))) (b.now (name_of (file_of docs)))) where
      loaded_now : IsOpen docs a.now → IsLoaded now b.now
      loaded_now is_open =
          subst (λ (g : GateFile). HoldsRoot (root_of g) (commits_of g) (own_bytes g b.now) (seq_of now) (entries_of now)) (sym file_now)
          (subst (λ n. HoldsRoot (root_of last) (commits_of last) (own_bytes last b.now) n (entries_of now)) (sym seq_new)
          (subst (HoldsRoot (root_of last) (commits_of last) (own_bytes last b.now) (seq_of docs + 1)) (sym entries_now)
          (published_holds DocsStem (file_of docs) bytes skipped a.now is_open.pair b.now others done SpellsRoot spells_of_root (seq_of docs + 1, draft.entries.items) (will_spell few a.now is_open.loaded))))

      published_now : IsOpen docs a.now → IsOpen now b.now
      published_now is_open = record {
        pair = subst (λ (g : GateFile). IsOpenPair DocsStem g b.now) (sym file_now) (published_open DocsStem (file_of docs) bytes skipped a.now is_open.pair b.now others done);
        commits = ap commits_of file_now ∙ ap (λ (g : GateFile). commits_in (root_of g)) (sym file_now);
        loaded = loaded_now is_open;
      }

      published_at : (history : List Write) → IsAt docs a.now history → IsAt now b.now (write_of history id content ∷ history)
      published_at history at =
          at_writes now b.now (published_now at.is_open) (write_of history id content ∷ history)
          (subst (λ (g : GateFile). HoldsWrites (root_of g) (own_bytes g b.now) (write_of history id content ∷ history)) (sym file_now)
          (published_holds DocsStem (file_of docs) bytes skipped a.now at.is_open.pair b.now others done HoldsWrites writes_of_root (write_of history id content ∷ history) (will_hold few a.now at.is_open.loaded history at)))

    -- what is told of it, by a result that is Ok
    module _ {T E : Type 0} (result : Result T E) (value : T) (was : result ≡ Ok value) where
      pub told_open : (old new : Told) → IfTold old (λ d. IsOpen docs d.now) → Tells old new (Publishes (file_of docs) bytes skipped result) → IfTold new (λ d. IsOpen now d.now)
      told_open old new is_open moves =
          told_after old new (λ d. IsOpen docs d.now) (λ d. IsOpen now d.now) (Publishes (file_of docs) bytes skipped result)
          (λ a b is_open moved. published_now a b moved.others (on_ok result value (IsPublished last bytes (a.now (name_of (file_of docs))) (b.now (name_of (file_of docs)))) was moved.ended) is_open) is_open moves

      pub told_at : (old new : Told) (history : List Write) → IfTold old (λ d. IsAt docs d.now history) → Tells old new (Publishes (file_of docs) bytes skipped result)
          → Tells old new (Moves IsDocsFile (λ image. Stands image history ⊎ Stands image (write_of history id content ∷ history)) (λ files. IsAt now files (write_of history id content ∷ history)))
      told_at old new history at moves =
          publishes old new history result (λ files. IsAt now files (write_of history id content ∷ history))
          (λ a b is_at others done. published_at a b others (on_ok result value (IsPublished last bytes (a.now (name_of (file_of docs))) (b.now (name_of (file_of docs)))) was done) history is_at) at moves
