use Rattle.std.proofs.Common.{◌<◌, ◌≤◌, ◌+◌, ◌-◌, ◌∙◌, ℕ, List, Vec, Global, Some, None, length, subst, sym, arith}
use Rattle.memchr.specs.Find.{IsFirstByte, is_byte}
use Rattle.std.proofs.lemmas.Result.{IfOk-weaker}
use Rattle.view_ports.specs.Lines.{CutsLine, newline}
use Rattle.real_ports.specs.Unread.{unread}
use Rattle.real_ports.proofs.Growing.{Grows-trans, Takes-grown}
use Rattle.real_ports.proofs.Searching.{rest, ended_found, unended_found, unended_none}
use Rattle.real_ports.proofs.child_lines.ChildLines.next_line.Goals as goal

pub take_line-requires-clause-unended : goal.take_line-requires-clause-unended
take_line-requires-clause-unended c =
    let from = c.loop.self.taken + c.loop.searched in
    let found = subst (λ (bytes : List ℕ). IsFirstByte (is_byte newline) (rest bytes from) (Some c.in-Some.at)) c.deref.ensures.value c.in-Some.ensures in
    unended_found c.loop.self.kept.items c.loop.self.taken c.loop.searched c.in-Some.at c.loop.invariant.unended found

pub take_line-requires-clause-ended : goal.take_line-requires-clause-ended
take_line-requires-clause-ended c =
    let from = c.loop.self.taken + c.loop.searched in
    let found = subst (λ (bytes : List ℕ). IsFirstByte (is_byte newline) (rest bytes from) (Some c.in-Some.at)) c.deref.ensures.value c.in-Some.ensures in
    ended_found c.loop.self.kept.items c.loop.self.taken c.loop.searched c.in-Some.at found

pub returns-in-Some-clause-line : goal.returns-in-Some-clause-line
returns-in-Some-clause-line c =
    let old = unread c.args.self.now in
    let grown = unread c.loop.self in
    let left = unread c.take_line.new.self in
    IfOk-weaker _ _ _ (λ (line : Vec ℕ Global) (cuts : CutsLine grown (Some (line.items, left))). Takes-grown old grown line.items left c.loop.invariant.grows cuts) c.take_line.ensures.line

pub loop-preserved : goal.loop-preserved
loop-preserved c =
    let kept = c.loop.self.kept in
    let from = c.loop.self.taken + c.loop.searched in
    let none = subst (λ (bytes : List ℕ). IsFirstByte (is_byte newline) (rest bytes from) None) c.deref.ensures.value c.in_default.ensures in
    let within : from ≤ length kept.items = omega (arith, kept.ok, c.loop.invariant.within) in
    let all = unended_none kept.items c.loop.self.taken c.loop.searched within c.loop.invariant.unended none in
    record {
      within = omega (arith, c.in_ok-read_more.ensures.grows, c.read_more.new.self.within);
      unended = λ k few at.
          let there : c.loop.self.taken + k < length kept.items = omega (arith, kept.ok, few) in
          let inside : k < length kept.items - c.loop.self.taken = omega (arith, kept.ok, few) in
          all k inside (sym (c.in_ok-read_more.ensures.kept k there) ∙ at);
      grows = Grows-trans _ _ _ c.loop.invariant.grows c.in_ok-read_more.ensures.unread;
    }
