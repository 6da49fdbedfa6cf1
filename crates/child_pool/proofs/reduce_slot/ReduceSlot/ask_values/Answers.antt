-- The line is made, and then it is asked.
use Rattle.std.proofs.Common.{◌<◌, ◌≤◌, length, map, arith}
use Rattle.std.proofs.lemmas.List.{length-map}
use Rattle.json_terms.specs.Seen.{json}
use Rattle.view_ports.specs.declared.command.Command.TheVariants.{Rereduce}
use Rattle.child_pool.specs.ReduceTalk.{Asks}
use Rattle.child_pool.proofs.Folds.{reduces_values, spells_line}
use Rattle.child_pool.proofs.reduce_slot.ReduceSlot.ask_values.Given as given
use Rattle.child_pool.proofs.reduce_slot.ReduceSlot.ask_values.Goals as goal

asks : (g : given.Over) (c : goal.After-drop-line g) → Asks g.C.Servers c.args.language.now c.args.source.now (Rereduce c.args.source.now (map json c.args.values.now)) c.args.self.now c.ask.new.self c.ask.result
asks g c =
    let values = map json c.args.values.now in
    let long : 0 < length values = omega (arith, c.requires.some, length-map c.args.values.now json) in
    let few : length values ≤ 32 = omega (arith, c.requires.few, length-map c.args.values.now json) in
    let by = reduces_values c.args.source.now values long few c.requires.bounded in
    c.ask.ensures.asks c.args.source.now (Rereduce c.args.source.now values) (spells_line (Rereduce c.args.source.now values) c.in-Ok.line.items c.as_slice.result.now c.in-Ok.ensures by.1.0 c.as_slice.ensures.value) by

pub returns-in-Ok-clause-talks : goal.returns-in-Ok-clause-talks
returns-in-Ok-clause-talks g c = (asks g c).talks

pub returns-in-Ok-clause-bounded : goal.returns-in-Ok-clause-bounded
returns-in-Ok-clause-bounded g c = (asks g c).bounded

pub returns-in-Ok-clause-made : goal.returns-in-Ok-clause-made
returns-in-Ok-clause-made g c = (asks g c).made

pub returns-in-Ok-clause-cause : goal.returns-in-Ok-clause-cause
returns-in-Ok-clause-cause g c = (asks g c).cause

pub returns-in-Err-clause-cause : goal.returns-in-Err-clause-cause
returns-in-Err-clause-cause g c = λ reduces among. c.spend.ensures.fails c.args.language.now reduces
