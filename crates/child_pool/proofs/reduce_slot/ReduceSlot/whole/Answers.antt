-- Values are made one, or there is one.
use Rattle.std.proofs.Common.{◌≡◌, ◌<◌, ◌∷◌, [], IfOk, List, length, map, ap, sym, subst, arith}
use Rattle.std.proofs.lemmas.List.{length-map}
use Rattle.json_terms.specs.Json.{Json}
use Rattle.json_terms.specs.Seen.{json}
use Rattle.json_terms.specs.declared.term.Term.{Term}
use Rattle.view_ports.specs.declared.command.Command.TheVariants.{Rereduce}
use Rattle.child_pool.specs.ReduceTalk.{IsMadeOf, IsWholeOf}
use Rattle.child_pool.specs.TalkLaws.{goes_none}
use Rattle.child_pool.proofs.Folds.{popped_one, whole_of, whole_one}
use Rattle.child_pool.proofs.reduce_slot.ReduceSlot.whole.Goals as goal

pub returns-then-len-gt1-clause-whole : goal.returns-then-len-gt1-clause-whole
returns-then-len-gt1-clause-whole g c =
    let values = map json c.args.values.items in
    let long : 0 < length values = omega (arith, c.if-len-gt1.true, c.len.ensures, length-map c.args.values.items json) in
    let made = subst (λ (xs : List Term). IfOk c.ask_values.result (λ value. IsMadeOf g.C.Servers c.args.language.now c.args.source.now (Rereduce c.args.source.now (map json xs)) c.args.self.now (json value))) c.as_slice.ensures.value c.ask_values.ensures.made in
    whole_of g.C.Servers c.args.language.now c.args.source.now c.args.self.now values c.ask_values.result long made

pub returns-in-Some-clause-whole : goal.returns-in-Some-clause-whole
returns-in-Some-clause-whole g c =
    let one : c.args.values.items ≡ c.in-Some.value ∷ [] = popped_one c.args.values.items c.pop.new.self.items c.in-Some.value c.in-Some.ensures.items (omega (arith, c.if-len-gt1.false, c.len.ensures)) in
    subst (λ (v : List Json). IsWholeOf g.C.Servers c.args.language.now c.args.source.now c.args.self.now v (json c.in-Some.value)) (sym (ap (map json) one)) (whole_one g.C.Servers c.args.language.now c.args.source.now c.args.self.now (json c.in-Some.value))

pub returns-clause-cause : goal.returns-clause-cause
returns-clause-cause g c = λ reduces among. c.spend.ensures.fails c.args.language.now reduces

pub returns-in-Some-clause-talks : goal.returns-in-Some-clause-talks
returns-in-Some-clause-talks g c = λ reduces among. goes_none g.C.Servers c.args.language.now reduces c.args.self.now
