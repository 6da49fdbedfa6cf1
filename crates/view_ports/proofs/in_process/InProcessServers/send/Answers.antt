-- A call that found no memory leaves the child as it was.
use Rattle.std.proofs.Common.{◌≡◌, ◌<◌, ◌∙◌, Some, None, Vec, Option, Global, length, get_or, sym, refl, subst, arith, false}
use Rattle.std.proofs.lemmas.List.{get_or_read}
use Rattle.view_ports.specs.declared.in_process.Child.{Child}
use Rattle.view_ports.specs.Calls.{send, child}
use Rattle.view_ports.specs.InProcess.{MayFollow, IsSlot}
use Rattle.view_ports.proofs.Slots.{MayFollow-set, IsSlot-send}
use Rattle.view_ports.proofs.in_process.InProcessServers.send.Goals as goal

pub returns-in-Err-ask-clause-told : goal.returns-in-Err-ask-clause-told
returns-in-Err-ask-clause-told g c = λ calls follows.
    let sources = g.S.ServerSession.sources in
    let children = c.count.new.self.children.items in
    let at = c.args.slot in
    let within : at < length children = omega (arith, c.count.new.self.slots, c.count.new.self.children.ok) in
    let there : get_or children at None ≡ Some c.in-Some.child = sym (get_or_read children _ _ within c.index_mut.ensures.value None) ∙ c.in-Some.is in
    let P : Vec (Option (Child g.row.S.Denot)) Global → Type 0 = λ v. MayFollow sources v.items calls in
    let same : MayFollow sources children calls = subst P (sym c.count.ensures.children) follows in
    let was : IsSlot sources (Some c.in-Some.child) (child at calls) = subst (λ (x : Option (Child g.row.S.Denot)). IsSlot sources x (child at calls)) there (same at c.requires) in
    MayFollow-set sources children at (Some c.ask.new.self) (send at c.args.line.now false) calls refl within same (IsSlot-send sources c.args.line.now at c.in-Some.child c.ask.new.self (child at calls) c.in-Err-ask.ensures.err was)
