use Rattle.std.proofs.Common.{◌++◌, ap, ◌∙◌}
use Rattle.term_codec.specs.Spelling.{short_bytes}
use Rattle.term_codec.proofs.encode.put_short.Goals as goal

pub returns-clause-ok : goal.returns-clause-ok
unfolding short_bytes
returns-clause-ok c = c.in_ok-extend_from_slice.ensures.items ∙ ap (λ bs. c.args.out.now.items ++ bs) c.to_le_bytes.ensures
