use Rattle.std.proofs.Common.{◌∙◌, ◌++◌, ap, sym, take, take-append-drop}
use Rattle.reduce_tree.proofs.builder.cut_full.Goals as goal

pub returns-clause-whole : goal.returns-clause-whole
returns-clause-whole g c =
    let list = c.args.list.items in
    sym (take-append-drop 32 list) ∙ sym (ap (λ t. t ++ c.in_ok-rest.rest.items) c.in_ok-rest.ensures.items ∙ ap (λ t. take 32 list ++ t) c.in_ok-rest.ensures.tail)
