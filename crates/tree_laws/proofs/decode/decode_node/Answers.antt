use Rattle.std.proofs.Common.{◌≢◌, [], Err, sym, subst, ◌∙◌}
use Rattle.std.proofs.lemmas.List.{append-nil}
use Rattle.tree_laws.specs.Nodes.{FitsNode, spelled_node}
use Rattle.tree_laws.specs.Reading.{IsTaken}
use Rattle.tree_laws.proofs.Taking.{goes_on}
use Rattle.tree_laws.proofs.decode.decode_node.Goals as goal

pub returns-else-is_done : goal.returns-else-is_done
returns-else-is_done g c =
    let some : c.take_node.new.reader ≢ [] = λ e. let done = c.is_done.ensures.1 e in absurd cc in
    goes_on g.T.Item.fits g.T.Item.spelled g.met.T.Item.one_spelling c.args.bytes.now c.take_node.new.reader c.in-Ok.node c.in-Ok.ensures.0 (sym c.new-reader.ensures ∙ c.in-Ok.ensures.1) some

pub returns-in-Err-NotThere : goal.returns-in-Err-NotThere
returns-in-Err-NotThere g c value fits same =
    let spelled = spelled_node g.T.Item.spelled in
    let none = subst (λ fault. IsTaken (FitsNode g.T.Item.fits g.T.Item.spelled) spelled c.new-reader.result c.take_node.new.reader (Err fault)) c.in-Err-NotThere.field-0-is c.in-Err-NotThere.ensures in
    none value [] fits (c.new-reader.ensures ∙ sym same ∙ sym (append-nil (spelled value)))
