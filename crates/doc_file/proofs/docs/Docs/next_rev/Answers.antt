-- The next revision is one more of both counts that are kept.
use Rattle.std.proofs.Common.{◌≡◌, ◌∙◌, ◌+◌, ◌≤◌, ap, sym, subst}
use Rattle.gate_file.specs.GateFile.{commits_of}
use Rattle.doc_file.specs.declared.rev.Rev.{Rev}
use Rattle.doc_file.specs.Docs.{bytes_in}
use Rattle.doc_file.specs.Held.{find_last}
use Rattle.design_docs.specs.History.{generation}
use Rattle.design_docs.specs.Revision.{revision}
use Rattle.doc_file.specs.Stored.{generation_in, next_rev}
use Rattle.doc_file.proofs.Histories.{generation_kept}
use Rattle.doc_file.proofs.Standing.{generation_room}
use Rattle.doc_file.proofs.docs.Docs.next_rev.Goals as goal

pub next_rev-requires-clause-counted : goal.next_rev-requires-clause-counted
next_rev-requires-clause-counted c =
    subst (λ es. generation_in (find_last c.args.id.now es) ≤ c.args.self.now.seq) (sym c.as_slice.ensures.value)
    (generation_room (commits_of c.args.self.now.file) c.args.self.now.seq c.args.self.now.entries.items c.args.id.now c.args.self.now.counted)

pub returns-clause-history : goal.returns-clause-history
returns-clause-history c = λ files history at.
    let docs = c.args.self.now in
    let id = c.args.id.now in
    let kept : c.next_rev.result ≡ next_rev docs.seq docs.entries.items id = c.next_rev.ensures ∙ ap (λ es. next_rev docs.seq es id) c.as_slice.ensures.value in
    let generations = generation_kept history (bytes_in docs files) docs.entries.items at.each id in
    ap (λ (r : Rev). revision r.generation r.seq) kept
    ∙ ap (λ n. revision (n + 1) (docs.seq + 1)) generations
    ∙ ap (λ n. revision (generation history id + 1) (n + 1)) at.count
