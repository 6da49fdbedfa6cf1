use Rattle.std.proofs.Common.{◌≡◌, ◌≢◌, ◌∙◌, sym, subst, ap, List, Option, map, string_bytes, true}
use Rattle.std.specs.Prelude.{is_some}
use Rattle.command_words.specs.Commands.{IsSplit, Word}
use Rattle.command_words.specs.Faults.{HasLoadFault, HasNumbersFault, behind_load}
use Rattle.command_words.specs.Reader.{given_in, texts_of}
use Rattle.command_words.specs.declared.fault.WordsFault.{WordsFault}
use Rattle.command_words.specs.declared.fault.WordsFault.TheVariants.{NoMemory}
use Rattle.command_words.proofs.Refusals.{IsNoLoad, is_some-option_map, load_fault_is, no_numbers, no_option, none_of, numbers_fault_is, on_err_weaker, option_fault_is, unsplit_load}
use Rattle.command_words.proofs.read.load_numbers.Goals as goal

pub returns-in-Err-clause-unnamed : goal.returns-in-Err-clause-unnamed
returns-in-Err-clause-unnamed c = λ other. unsplit_load _ (c.in-Err.ensures.unsplit (λ is. other (c.load_fault.ensures ∙ ap behind_load is)))

pub returns-in-Err-clause-cause : goal.returns-in-Err-clause-cause
returns-in-Err-clause-cause c =
    subst (HasLoadFault (map string_bytes c.args.words.now)) (sym c.load_fault.ensures) (load_fault_is _ c.in-Err.fault c.in-Err.ensures.unsplit)

pub returns-then-is_some-clause-unnamed : goal.returns-then-is_some-clause-unnamed
returns-then-is_some-clause-unnamed c =
    let there : is_some (given_in c.in-Ok.matches) ≡ true =
    sym (ap is_some c.given_width.ensures) ∙ is_some-option_map _ c.given_width.result ∙ sym c.is_some.ensures ∙ c.if-is_some.true in
    λ _. no_option _ _ _ c.in-Ok.ensures.split there

pub returns-then-is_some-clause-cause : goal.returns-then-is_some-clause-cause
returns-then-is_some-clause-cause c =
    let there : is_some (given_in c.in-Ok.matches) ≡ true =
    sym (ap is_some c.given_width.ensures) ∙ is_some-option_map _ c.given_width.result ∙ sym c.is_some.ensures ∙ c.if-is_some.true in
    option_fault_is _ _ _ c.in-Ok.ensures.split there

pub returns-clause-unnamed : goal.returns-clause-unnamed
returns-clause-unnamed c =
    let split = subst (λ (p : List Word). IsSplit (map string_bytes c.args.words.now) (given_in c.in-Ok.matches) p) (sym c.plain_words.ensures) c.in-Ok.ensures.split in
    on_err_weaker c.numbers_of.result (HasNumbersFault (texts_of c.plain_words.result))
    (λ (fault : WordsFault). fault ≢ NoMemory → IsNoLoad (map string_bytes c.args.words.now)) c.numbers_of.ensures.cause
    (λ fault has _. no_numbers _ _ _ fault split has)

pub returns-clause-cause : goal.returns-clause-cause
returns-clause-cause c =
    let none = none_of (given_in c.in-Ok.matches) (sym (ap is_some c.given_width.ensures) ∙ is_some-option_map _ c.given_width.result ∙ sym c.is_some.ensures ∙ c.if-is_some.false) in
    let split = subst (λ (p : List Word). IsSplit (map string_bytes c.args.words.now) (given_in c.in-Ok.matches) p) (sym c.plain_words.ensures) c.in-Ok.ensures.split in
    let unoptioned = subst (λ (g : Option Word). IsSplit (map string_bytes c.args.words.now) g (texts_of c.plain_words.result)) none split in
    on_err_weaker c.numbers_of.result (HasNumbersFault (texts_of c.plain_words.result)) (HasLoadFault (map string_bytes c.args.words.now)) c.numbers_of.ensures.cause
    (λ fault has. numbers_fault_is _ _ fault unoptioned has)
