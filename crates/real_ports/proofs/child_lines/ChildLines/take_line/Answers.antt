-- A line is what stands before the first newline, byte for byte.
use Rattle.std.proofs.Common.{◌≡◌, ◌∙◌, ◌+◌, ◌-◌, ℕ, List, ap, sym, take, drop, length, arith}
use Rattle.std.proofs.Math.Seq.{drop-length}
use Rattle.real_ports.specs.Unread.{unread}
use Rattle.real_ports.proofs.Growing.{line_cut}
use Rattle.real_ports.proofs.child_lines.ChildLines.take_line.Goals.{then-self-len, else-self-len}
use Rattle.real_ports.proofs.child_lines.ChildLines.take_line.Goals as goal

pub returns-clause-line : goal.returns-clause-line
returns-clause-line c =
    let kept = c.args.self.now.kept.items in
    let from = c.args.self.now.taken in
    let count = c.args.count in
    let whole : from + count - from ≡ count = omega arith in
    let line : c.in_ok-line.line.items ≡ take count (drop from kept) = c.in_ok-line.ensures.items ∙ ap (λ (bytes : List ℕ). take (from + count - from) (drop from bytes)) c.deref.ensures.value ∙ ap (λ (n : ℕ). take n (drop from kept)) whole in
    let rest : unread c.if-self-len.self ≡ drop (from + count + 1) kept = elim c.if-self-len.branch [
      | then-self-len w ↦
          let all : length kept ≡ from + count + 1 = omega (arith, w.if-self-len.true, c.len.ensures, c.args.self.now.kept.ok) in
          ap unread w.self-is ∙ w.clear.ensures.items ∙ sym (drop-length kept) ∙ ap (λ (n : ℕ). drop n kept) all
      | else-self-len w ↦ ap unread w.self-is
    ] in
    line_cut kept from count c.in_ok-line.line.items (unread c.if-self-len.self) (omega (arith, c.args.self.now.kept.ok, c.requires.within)) c.requires.unended c.requires.ended line rest
