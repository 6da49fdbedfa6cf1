use Rattle.std.proofs.Common.{◌≡◌, ◌-◌, ◌+◌, List, ℕ, suc, None, option_map, sym, ap, ◌∙◌, arith}
use Rattle.doc_file.specs.declared.entry.Entry.{Entry}
use Rattle.doc_file.specs.Reading.{entry_after, entries_from}
use Rattle.doc_file.proofs.EntryParts.{entries_from-next, entries_from-none, whole_entries-is}
use Rattle.doc_file.proofs.record.read_entries.Goals as goal

pub returns-in-None : goal.returns-in-None
returns-in-None c =
    let l = c.loop-index in
    let k : ℕ = c.args.count - (l._index + 1) in
    let more : c.args.count - l._index ≡ suc k = omega arith in
    let none : entry_after l.entries.items l.rest.now ≡ None = sym (sym (ap (option_map {U = Entry × List ℕ} (λ r. (r.0, r.1.now))) c.in-None.is) ∙ c.in_ok-entry.ensures) in
    sym (whole_entries-is c.args.count c.args.bytes.now None (omega arith) (l.invariant ∙ entries_from-none l.entries.items (c.args.count - l._index) k l.rest.now more none))

pub loop-index-preserved : goal.loop-index-preserved
loop-index-preserved c =
    let l = c.loop-index in
    let k : ℕ = c.args.count - (l._index + 1) in
    let more : c.args.count - l._index ≡ suc k = omega arith in
    let found = sym (sym (ap (option_map {U = Entry × List ℕ} (λ r. (r.0, r.1.now))) c.in-Some.is) ∙ c.in_ok-entry.ensures) in
    l.invariant ∙ entries_from-next l.entries.items (c.args.count - l._index) k l.rest.now c.in-Some.entry c.in-Some.behind.now more found
    ∙ ap (λ es. entries_from es k c.in-Some.behind.now) (sym c.in_ok-push-in-Some.ensures.items)
