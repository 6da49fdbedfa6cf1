-- The record is that of what stands behind the length.
use Rattle.std.proofs.Common.{IfSome}
use Rattle.std.proofs.lemmas.Option.{IfSome_then}
use Rattle.std.proofs.lemmas.Result.{IfOk-weaker}
use Rattle.index_items.specs.RootRecord.{IsBodyOf, IsOneRoot}
use Rattle.index_items.specs.declared.root_record.IndexRoot.{IndexRoot}
use Rattle.index_items.proofs.Roots.{body_of_root, one_root}
use Rattle.index_items.proofs.root_record.read_root.Goals as goal

pub returns-in-Some-clause-only : goal.returns-in-Some-clause-only
returns-in-Some-clause-only c =
    let of = λ (root : IndexRoot). IsBodyOf c.args.views c.args.offset c.in-Some.body.now root.seq root.views.items root.back in
    let one = λ (root : IndexRoot). IsOneRoot c.args.views c.args.offset c.args.bytes.now root.seq root.views.items root.back in
    IfOk-weaker c.read_body.result (λ found. IfSome found of) (λ found. IfSome found one)
    (λ found some. IfSome_then found some (λ root is s vs b.
    one_root c.args.views c.args.offset c.args.bytes.now c.in-Some.body.now s root.seq vs root.views.items b root.back c.in-Some.ensures is))
    c.read_body.ensures.some

pub returns-in-Some-clause-none : goal.returns-in-Some-clause-none
returns-in-Some-clause-none c = λ none seq views back of.
    c.read_body.ensures.none none seq views back (body_of_root c.args.views c.args.offset c.args.bytes.now c.in-Some.body.now seq views back c.in-Some.ensures of)
