-- Bytes that are no term are no proper command.
use Rattle.std.proofs.Common.{◌≡◌, ◌≢◌, subst, sym}
use Rattle.json_terms.specs.declared.fault.TermFault.TheVariants.{NoMemory}
use Rattle.view_ports.specs.declared.command.Command.{Command}
use Rattle.view_ports.specs.declared.command.Command.TheVariants.{Other}
use Rattle.std.proofs.lemmas.Result.{IfOk-weaker}
use Rattle.view_ports.specs.Commands.{command, IsShallow}
use Rattle.view_ports.proofs.command.read_command.Goals as goal

pub returns-in-Ok-clause-command : goal.returns-in-Ok-clause-command
unfolding command
returns-in-Ok-clause-command c = rw c.in-Ok.ensures.ok c.command_of.ensures.command

pub returns-in-Err-clause-command : goal.returns-in-Err-clause-command
unfolding command
returns-in-Err-clause-command c = IfOk-weaker _ _ _ (λ (other : Command) (h : (c.in-Err.fault ≢ NoMemory) × (other ≡ Other)). rw (c.in-Err.ensures.err h.0) h.1) c.unread.ensures

pub returns-in-Err-clause-shallow : goal.returns-in-Err-clause-shallow
returns-in-Err-clause-shallow c = IfOk-weaker _ _ _ (λ (other : Command) (h : (c.in-Err.fault ≢ NoMemory) × (other ≡ Other)). subst IsShallow (sym h.1) tt) c.unread.ensures
