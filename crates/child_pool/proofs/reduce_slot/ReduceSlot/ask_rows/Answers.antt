-- The line is made, and then it is asked.
use Rattle.std.proofs.Common.{map}
use Rattle.view_ports.specs.ReduceRow.{reduce_row}
use Rattle.view_ports.specs.declared.command.Command.TheVariants.{Reduce}
use Rattle.child_pool.specs.ReduceTalk.{Asks}
use Rattle.child_pool.proofs.Folds.{compiles_of, reduces_rows, right_of, spells_line}
use Rattle.child_pool.proofs.reduce_slot.ReduceSlot.ask_rows.Given as given
use Rattle.child_pool.proofs.reduce_slot.ReduceSlot.ask_rows.Goals as goal

asks : (g : given.Over) (c : goal.After-drop-line g) → Asks g.C.Servers c.args.language.now c.args.source.now (Reduce c.args.source.now (map reduce_row c.args.part.now)) c.args.self.now c.ask.new.self c.ask.result
asks g c =
    let rows = map reduce_row c.args.part.now in
    let by = reduces_rows c.args.source.now c.args.part.now c.requires.some c.requires.few c.in-Ok.ensures.kept in
    c.ask.ensures.asks c.args.source.now (Reduce c.args.source.now rows) (spells_line (Reduce c.args.source.now rows) c.in-Ok.line.items c.as_slice.result.now c.in-Ok.ensures.line by.1.0 c.as_slice.ensures.value) by

pub returns-in-Ok-clause-talks : goal.returns-in-Ok-clause-talks
returns-in-Ok-clause-talks g c = (asks g c).talks

pub returns-in-Ok-clause-compiles : goal.returns-in-Ok-clause-compiles
returns-in-Ok-clause-compiles g c = compiles_of g.C.Servers c.args.language.now c.args.source.now c.args.self.now (Reduce c.args.source.now (map reduce_row c.args.part.now)) c.ask.result (asks g c).made

pub returns-in-Ok-clause-bounded : goal.returns-in-Ok-clause-bounded
returns-in-Ok-clause-bounded g c = (asks g c).bounded

pub returns-in-Ok-clause-right : goal.returns-in-Ok-clause-right
returns-in-Ok-clause-right g c = right_of g.C.Servers c.args.language.now c.args.source.now c.args.self.now c.args.part.now c.ask.result (asks g c).made

pub returns-in-Ok-clause-cause : goal.returns-in-Ok-clause-cause
returns-in-Ok-clause-cause g c = (asks g c).cause

pub returns-in-Err-clause-cause : goal.returns-in-Err-clause-cause
returns-in-Err-clause-cause g c = λ reduces among. c.spend.ensures.fails c.args.language.now reduces
