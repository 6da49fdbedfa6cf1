use Rattle.std.proofs.Common.{◌++◌, length, ap, ◌∙◌, append_assoc}
use Rattle.tree_laws.specs.Nodes.{number_bytes}
use Rattle.index_items.proofs.Roots.{whole_is_number}
use Rattle.index_items.proofs.root_record.put_sized.Goals as goal

pub returns : goal.returns
returns c =
    let body = c.args.body.now in
    let out = c.args.out.now.items in
    c.in_ok-extend_from_slice.ensures.items
    ∙ ap (λ bs. bs ++ body) (c.in_ok-put_whole.ensures.ok ∙ ap (λ bs. out ++ bs) (whole_is_number (length body)))
    ∙ append_assoc out (number_bytes (length body)) body
