-- What is read was written, and what was written is read.
use Rattle.std.proofs.Common.{◌≡◌, ℕ, List, [], Option, None, Some, option_map, Result, Ok, Err, IfOk, IfSome, IsTrue, sym, ap, ◌∙◌, subst}
use Rattle.doc_file.specs.declared.entry.Entry.{Entry}
use Rattle.doc_file.specs.declared.record.RootRecord.{RootRecord}
use Rattle.doc_file.specs.Record.{rise, IsRoot, record_bytes}
use Rattle.doc_file.specs.Reading.{root_in}
use Rattle.std.specs.List.{list_all}
use Rattle.doc_file.specs.Counts.{has_room}
use Rattle.doc_file.proofs.CountsKept.{room_of_entries}
use Rattle.doc_file.proofs.Rises.{rise_of_entries}
use Rattle.doc_file.proofs.Entries.{root_in-spelled, root_in-read}
use Rattle.doc_file.proofs.record.read_root.Goals as goal

some_root : {E : Type 0} (bytes : List ℕ) (result : Result (Option RootRecord) E) → IfOk result (λ found. option_map {U = ℕ × List Entry} (λ r. (r.seq, r.entries.items)) found ≡ root_in bytes)
    → IfOk result (λ found. IfSome found (λ root. IsRoot root.seq root.entries.items × (bytes ≡ record_bytes root.seq root.entries.items)))
some_root bytes (Err e) h = tt
some_root bytes (Ok None) h = tt
some_root bytes (Ok (Some r)) h = let read = root_in-read bytes r.seq r.entries.items (sym h) in (read.root, read.is)

pub returns-clause-some : goal.returns-clause-some
returns-clause-some c = some_root c.args.bytes.now c.parse_root.result c.parse_root.ensures

pub returns-clause-none : goal.returns-clause-none
returns-clause-none c = λ h seq entries root is.
    let none = subst (λ r. IfOk r (λ found. option_map {U = ℕ × List Entry} (λ r. (r.seq, r.entries.items)) found ≡ root_in c.args.bytes.now)) h c.parse_root.ensures in
    let both = sym (root_in-spelled seq entries root) ∙ ap root_in (sym is) ∙ sym none in
    absurd cc

abbrev seq_in : Option (ℕ × List Entry) → ℕ
seq_in None = 0
seq_in (Some r) = r.0

abbrev entries_in : Option (ℕ × List Entry) → List Entry
entries_in None = []
entries_in (Some r) = r.1

only_root : {E : Type 0} (bytes : List ℕ) (result : Result (Option RootRecord) E) → IfOk result (λ found. option_map {U = ℕ × List Entry} (λ r. (r.seq, r.entries.items)) found ≡ root_in bytes)
    → IfOk result (λ found. IfSome found (λ root. (seq : ℕ) (entries : List Entry) → IsRoot seq entries → bytes ≡ record_bytes seq entries → (seq ≡ root.seq) × (entries ≡ root.entries.items)))
only_root bytes (Err e) h = tt
only_root bytes (Ok None) h = tt
only_root bytes (Ok (Some r)) h = λ seq entries root is.
    let both = sym (root_in-spelled seq entries root) ∙ ap root_in (sym is) ∙ sym h in
    (ap seq_in both, ap entries_in both)

pub returns-clause-only : goal.returns-clause-only
returns-clause-only c = only_root c.args.bytes.now c.parse_root.result c.parse_root.ensures

room_root : {E : Type 0} (bytes : List ℕ) (result : Result (Option RootRecord) E) → IfOk result (λ found. option_map {U = ℕ × List Entry} (λ r. (r.seq, r.entries.items)) found ≡ root_in bytes)
    → IfOk result (λ found. IfSome found (λ root. IsTrue (list_all has_room root.entries.items)))
room_root bytes (Err e) h = tt
room_root bytes (Ok None) h = tt
room_root bytes (Ok (Some r)) h = room_of_entries r.entries.items (root_in-read bytes r.seq r.entries.items (sym h)).root.each

pub returns-clause-room : goal.returns-clause-room
returns-clause-room c = room_root c.args.bytes.now c.parse_root.result c.parse_root.ensures

order_root : {E : Type 0} (bytes : List ℕ) (result : Result (Option RootRecord) E) → IfOk result (λ found. option_map {U = ℕ × List Entry} (λ r. (r.seq, r.entries.items)) found ≡ root_in bytes)
    → IfOk result (λ found. IfSome found (λ root. IsTrue (rise root.entries.items)))
order_root bytes (Err e) h = tt
order_root bytes (Ok None) h = tt
order_root bytes (Ok (Some r)) h = rise_of_entries r.entries.items (root_in-read bytes r.seq r.entries.items (sym h)).root.each

pub returns-clause-order : goal.returns-clause-order
returns-clause-order c = order_root c.args.bytes.now c.parse_root.result c.parse_root.ensures
