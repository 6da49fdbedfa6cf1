use Rattle.std.proofs.Common.{rules, ◌≢◌, map, string_bytes}
use Rattle.command_words.specs.Commands.{IsCommand}
use Rattle.command_words.specs.Faults.{HasFault}
use Rattle.command_words.specs.declared.command.Command.{Command}
use Rattle.command_words.specs.declared.fault.WordsFault.{WordsFault}
use Rattle.command_words.specs.declared.fault.WordsFault.TheVariants.{NoMemory}
use Rattle.command_words.proofs.Refusals.{load_fault_of, no_load_command, no_serve_command, passed_on, serve_fault_is}
use Rattle.command_words.proofs.read.read_command.Goals as goal

pub returns-in_err-width-in-serve-clause-unnamed : goal.returns-in_err-width-in-serve-clause-unnamed
returns-in_err-width-in-serve-clause-unnamed c =
    passed_on c.from_residual.result c.in_err-width-in-serve.field-0.0
    (λ (fault : WordsFault). fault ≢ NoMemory → (command : Command) → ¬ IsCommand (map string_bytes c.args.words.now) command) c.from_residual.ensures.1
    (λ other. no_serve_command _ (map string_bytes c.in-Some.rest.now) (string_bytes c.in-Some.first.now) (search rules) (search rules) (c.in_err-width-in-serve.ensures.unnamed other))

pub returns-in_err-width-in-serve-clause-cause : goal.returns-in_err-width-in-serve-clause-cause
returns-in_err-width-in-serve-clause-cause c =
    passed_on c.from_residual.result c.in_err-width-in-serve.field-0.0 (HasFault (map string_bytes c.args.words.now)) c.from_residual.ensures.1
    (serve_fault_is _ (map string_bytes c.in-Some.rest.now) (string_bytes c.in-Some.first.now) _ (search rules) (search rules) c.in_err-width-in-serve.ensures.cause)

pub returns-in_err-docs-in-load-clause-cause : goal.returns-in_err-docs-in-load-clause-cause
returns-in_err-docs-in-load-clause-cause c =
    passed_on c.from_residual-in_err-docs-in-load.result c.in_err-docs-in-load.field-0.0 (HasFault (map string_bytes c.args.words.now)) c.from_residual-in_err-docs-in-load.ensures.1
    (load_fault_of _ (map string_bytes c.in-Some.rest.now) (string_bytes c.in-Some.first.now) _ (search rules) (search rules) c.in_err-docs-in-load.ensures.cause)

pub returns-in_err-docs-in-load-clause-unnamed : goal.returns-in_err-docs-in-load-clause-unnamed
returns-in_err-docs-in-load-clause-unnamed c =
    passed_on c.from_residual-in_err-docs-in-load.result c.in_err-docs-in-load.field-0.0
    (λ (fault : WordsFault). fault ≢ NoMemory → (command : Command) → ¬ IsCommand (map string_bytes c.args.words.now) command) c.from_residual-in_err-docs-in-load.ensures.1
    (λ other. no_load_command _ (map string_bytes c.in-Some.rest.now) (string_bytes c.in-Some.first.now) (search rules) (search rules) (c.in_err-docs-in-load.ensures.unnamed other))
