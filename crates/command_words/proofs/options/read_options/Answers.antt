use Rattle.std.proofs.Common.{◌≡◌, ◌∙◌, sym, ap, map, string_bytes, false, true≢false}
use Rattle.std.specs.Prelude.{is_some}
use Rattle.command_words.specs.Faults.{has_short}
use Rattle.command_words.proofs.Parsed.{err_memory, fault_means, ok_split}
use Rattle.command_words.proofs.Shorts.{short_is_some, short_place_is, split_long}
use Rattle.command_words.proofs.options.read_options.Goals as goal

pub returns-in-Some-clause-unsplit : goal.returns-in-Some-clause-unsplit
returns-in-Some-clause-unsplit c = λ _ given plain s.
    true≢false (sym (ap is_some c.in-Some.is) ∙ ap is_some (c.short_option.ensures ∙ sym (short_place_is c.args.words.now)) ∙ sym (short_is_some (map string_bytes c.args.words.now)) ∙ split_long _ given plain s)

pub returns-in-Some-clause-cause : goal.returns-in-Some-clause-cause
returns-in-Some-clause-cause c = short_place_is c.args.words.now ∙ sym c.short_option.ensures ∙ c.in-Some.is

pub returns-in-Ok-clause-split : goal.returns-in-Ok-clause-split
returns-in-Ok-clause-split c =
    let no_short : has_short (map string_bytes c.args.words.now) ≡ false =
    short_is_some (map string_bytes c.args.words.now) ∙ ap is_some (short_place_is c.args.words.now ∙ sym c.short_option.ensures ∙ c.in_default.is) in
    ok_split _ (map string_bytes c.args.words.now) c.in-Ok.matches c.in_ok-parser.ensures no_short c.in-Ok.ensures.kinds c.in-Ok.ensures.matches

pub returns-in-Err-clause-unsplit : goal.returns-in-Err-clause-unsplit
returns-in-Err-clause-unsplit c = λ other given plain s.
    other (c.fault_of.ensures ∙ ap Rattle.command_words.specs.Faults.fault_for
    (c.kind.ensures ∙ err_memory _ (map string_bytes c.args.words.now) c.in-Err.error given plain c.in_ok-parser.ensures c.in-Err.ensures.kinds s))

pub returns-in-Err-clause-cause : goal.returns-in-Err-clause-cause
returns-in-Err-clause-cause c =
    fault_means c.kind.result c.fault_of.result (map string_bytes c.args.words.now) c.fault_of.ensures
    (λ given plain s. c.kind.ensures ∙ err_memory _ (map string_bytes c.args.words.now) c.in-Err.error given plain c.in_ok-parser.ensures c.in-Err.ensures.kinds s)
