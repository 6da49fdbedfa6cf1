-- The result is the term that was read.
use Rattle.std.proofs.Common.{option_map, sym, ap, ◌∙◌}
use Rattle.json_terms.specs.Seen.{json}
use Rattle.query_protocol.proofs.Read.{value_answer}
use Rattle.query_protocol.proofs.reply.answer_in.Goals as goal

pub returns-in-Some-2 : goal.returns-in-Some-2
returns-in-Some-2 c =
    value_answer c.args.kind (json c.args.term.now) c.in-Some-2.result c.in-Value.is (sym c.in_ok-result-in-Value.ensures ∙ ap (option_map json) c.in-Some-2.is)
