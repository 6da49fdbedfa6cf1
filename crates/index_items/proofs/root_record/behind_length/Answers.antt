-- The length in front is that of what stands behind it.
use Rattle.std.proofs.Common.{◌++◌, length, sym, ap, ◌∙◌}
use Rattle.tree_laws.specs.Nodes.{number_bytes}
use Rattle.term_codec.proofs.Words.{some-pair}
use Rattle.term_codec.proofs.Wholes.{whole_in-read}
use Rattle.index_items.proofs.Roots.{sized_read, whole_is_number}
use Rattle.index_items.proofs.root_record.behind_length.Goals as goal

pub returns-in_default : goal.returns-in_default
returns-in_default c = λ rest short is.
    let both = c.in_default.ensures ∙ sized_read c.args.bytes.now rest short is in
    absurd cc

pub returns-then-rest-count : goal.returns-then-rest-count
returns-then-rest-count c = λ rest short is.
    let one = some-pair (c.in-Some.count, c.in-Some.rest.now) (length rest, rest) (c.in-Some.ensures ∙ sized_read c.args.bytes.now rest short is) in
    absurd (c.if-rest-count.true (ap length one.1 ∙ sym one.0))

pub returns : goal.returns
returns c =
    let front = whole_in-read c.args.bytes.now c.in-Some.count c.in-Some.rest.now (sym c.in-Some.ensures) in
    front.1 ∙ ap (λ bs. bs ++ c.in-Some.rest.now) (whole_is_number c.in-Some.count ∙ ap number_bytes (sym c.if-rest-count.false))
