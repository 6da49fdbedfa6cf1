use Rattle.std.proofs.Common.{◌≢◌, sym, subst, Option, map, string_bytes}
use Rattle.command_words.specs.Commands.{IsSplit, Word}
use Rattle.command_words.specs.Faults.{HasServeFault}
use Rattle.command_words.specs.Reader.{plain_in}
use Rattle.command_words.specs.declared.fault.WordsFault.{WordsFault}
use Rattle.command_words.specs.declared.fault.WordsFault.TheVariants.{NoMemory}
use Rattle.command_words.proofs.Refusals.{IsNoServe, no_width, passed_on, unsplit_serve, width_fault_is}
use Rattle.command_words.proofs.read.serve_words.Goals as goal

pub returns-in_err-matches-clause-unnamed : goal.returns-in_err-matches-clause-unnamed
returns-in_err-matches-clause-unnamed c =
    passed_on c.from_residual.result c.in_err-matches.field-0.0 (λ (fault : WordsFault). fault ≢ NoMemory → IsNoServe (map string_bytes c.args.words.now)) c.from_residual.ensures.1
    (λ other. unsplit_serve _ (c.in_err-matches.ensures.unsplit other))

pub returns-in_err-matches-clause-cause : goal.returns-in_err-matches-clause-cause
returns-in_err-matches-clause-cause c =
    passed_on c.from_residual.result c.in_err-matches.field-0.0 (HasServeFault (map string_bytes c.args.words.now)) c.from_residual.ensures.1 c.in_err-matches.ensures.cause

pub returns-in_err-width-clause-unnamed : goal.returns-in_err-width-clause-unnamed
returns-in_err-width-clause-unnamed c =
    let split = subst (λ (g : Option Word). IsSplit (map string_bytes c.args.words.now) g (plain_in c.in_ok-matches.matches)) (sym c.given_width.ensures) c.in_ok-matches.ensures.split in
    passed_on c.from_residual-in_err-width.result c.in_err-width.field-0.0 (λ (fault : WordsFault). fault ≢ NoMemory → IsNoServe (map string_bytes c.args.words.now)) c.from_residual-in_err-width.ensures.1
    (λ other. no_width _ _ _ split c.in_err-width.ensures.none.1)

pub returns-in_err-width-clause-cause : goal.returns-in_err-width-clause-cause
returns-in_err-width-clause-cause c =
    let split = subst (λ (g : Option Word). IsSplit (map string_bytes c.args.words.now) g (plain_in c.in_ok-matches.matches)) (sym c.given_width.ensures) c.in_ok-matches.ensures.split in
    passed_on c.from_residual-in_err-width.result c.in_err-width.field-0.0 (HasServeFault (map string_bytes c.args.words.now)) c.from_residual-in_err-width.ensures.1
    (subst (HasServeFault (map string_bytes c.args.words.now)) (sym c.in_err-width.ensures.none.0) (width_fault_is _ _ _ split c.in_err-width.ensures.none.1))
