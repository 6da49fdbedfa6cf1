-- The documents couldn't be read.
use Rattle.std.specs.Prelude.{OnErr}
use Rattle.std.proofs.Common.{rules, sym, subst}
use Rattle.doc_file.specs.declared.docs.changes.Changes.{Changes}
use Rattle.change_mapper.specs.Faults.{by_documents}
use Rattle.change_mapper.specs.Mapped.{IsBreak}
use Rattle.change_mapper.proofs.OnlyReading.{documents_break, failed_as, read_failed}
use Rattle.change_mapper.proofs.mapping.read_page.Goals as goal

pub returns-in_err-changed_since : goal.returns-in_err-changed_since
returns-in_err-changed_since g c =
    let fault = c.in_err-changed_since.field-0.0 in
    let result = c.from_residual.result in
    let failed = failed_as result (by_documents fault) c.from_residual.ensures in
    record {
      all = search rules;
      order = search rules;
      bodies = search rules;
      short = search rules;
      whole = search rules;
      each = search rules;
      breaks = subst (λ r. OnErr r (IsBreak r)) (sym failed) (documents_break Changes fault);
      reads = read_failed g.F.Folder c.args.docs.now c.args.folder.now c.changed_since.new.folder c.args.seq fault result failed c.changed_since.ensures.disk c.in_err-changed_since.ensures.cause c.in_err-changed_since.ensures.sound
          c.in_err-changed_since.ensures.faults c.in_err-changed_since.ensures.damaged;
    }
