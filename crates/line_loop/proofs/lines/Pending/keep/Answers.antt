use Rattle.std.proofs.Common.{◌++◌, ◌+◌, refl, ◌∙◌}
use Rattle.view_ports.proofs.KeptLines.{kept-is}
use Rattle.view_ports.proofs.Results.{OnOk-map}
use Rattle.line_loop.proofs.lines.Pending.keep.Goals as goal

pub returns-clause-ok : goal.returns-clause-ok
returns-clause-ok c =
    let limit = c.args.self.now.limit in
    OnOk-map c.keep_bytes.result _ _ (λ is. is ∙ kept-is limit (limit + 1) (c.args.self.now.line.items ++ c.args.more.now) refl) c.keep_bytes.ensures.ok
