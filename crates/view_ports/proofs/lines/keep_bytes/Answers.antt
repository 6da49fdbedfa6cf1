use Rattle.std.proofs.Common.{◌≡◌, ◌≤◌, ◌-◌, length, min, ◌∙◌, arith}
use Rattle.view_ports.proofs.KeptLines.{take-filled}
use Rattle.view_ports.proofs.lines.keep_bytes.Goals as goal

pub returns-clause-ok : goal.returns-clause-ok
returns-clause-ok c =
    let line = c.args.line.now.items in
    let within : length line ≤ c.args.most = omega (arith, c.requires, c.args.line.now.ok) in
    let count : c.min.result ≡ min (length c.args.more.now) (c.args.most - length line) = omega (arith, c.min.ensures, c.len.ensures, c.args.line.now.ok) in
    c.in_ok-extend_from_slice.ensures.items ∙ take-filled c.args.most line c.args.more.now c.min.result within count
