use Rattle.std.proofs.Common.{subst}
use Rattle.tree_laws.specs.Spelled.{IsReadBack}
use Rattle.tree_laws.proofs.Taking.{no_item}
use Rattle.tree_laws.proofs.reader.Reader.item.Goals as goal

pub returns-in-Err : goal.returns-in-Err
returns-in-Err g c =
    let fits = g.T.Item.fits in
    let spelled = g.T.Item.spelled in
    let none = subst (IsReadBack fits spelled c.in_ok-bytes.bytes.now) c.in-Err.is c.in_ok-item.ensures in
    no_item fits spelled g.met.T.Item.one_spelling c.args.self.now c.in_ok-bytes.bytes.now c.sized.new.self c.in_ok-bytes.ensures.0 c.in_ok-bytes.ensures.1 none
