-- Each field fits its type, and so is as it was computed.
use Rattle.std.proofs.Common.{FitsSigned, w64, rules}
use Rattle.std.specs.Int.{w128}
use Rattle.builtin_reduces.proofs.Near.{Fits, same_stats}
use Rattle.builtin_reduces.proofs.stats.merge_two.Goals as goal

pub returns : goal.returns
returns c =
    let a = c.args.a in let b = c.args.b in
    let of_a : Fits a = record { total = search rules; least = search rules; greatest = search rules } in
    let of_b : Fits b = record { total = search rules; least = search rules; greatest = search rules } in
    let sum : FitsSigned w128 c.saturating_add.result = search rules in
    let least : FitsSigned w64 c.min.result = search rules in
    let greatest : FitsSigned w64 c.max.result = search rules in
    same_stats a b c.saturating_add.result c.min.result c.max.result c.saturating_add-2.result c.saturating_add-3.result of_a of_b sum least greatest c.saturating_add.ensures c.saturating_add-2.ensures c.min.ensures.value c.max.ensures.value c.saturating_add-3.ensures
