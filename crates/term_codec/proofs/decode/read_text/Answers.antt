use Rattle.std.proofs.Common.{sym, ◌∙◌}
use Rattle.term_codec.proofs.Texts.{text_in-count, text_in-no_count}
use Rattle.term_codec.proofs.decode.read_text.Goals as goal

pub returns-in-Some : goal.returns-in-Some
returns-in-Some c = c.text_of_length.ensures ∙ sym (text_in-count c.args.bytes.now c.in-Some.count c.in-Some.rest.now (sym c.in-Some.ensures))

pub returns-in-None : goal.returns-in-None
returns-in-None c = sym (text_in-no_count c.args.bytes.now (sym c.in-None.ensures))
