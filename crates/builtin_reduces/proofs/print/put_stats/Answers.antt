-- Piece behind piece.
use Rattle.std.proofs.Common.{codes, decimal, FitsSigned, w64, rules}
use Rattle.std.specs.Int.{w128}
use Rattle.std.proofs.lemmas.Int.{to_z-of_z}
use Rattle.std.specs.Fmt.{signed_decimal}
use Rattle.std.proofs.lemmas.Result.{on_ok_weaker}
use Rattle.builtin_reduces.proofs.Printed.{first, then}
use Rattle.builtin_reduces.proofs.print.put_stats.Goals as goal

pub returns-clause-ok : goal.returns-clause-ok
returns-clause-ok c =
    let s = c.args.stats.now in
    let sum : FitsSigned w128 s.sum = search rules in
    let least : FitsSigned w64 s.min = search rules in
    let greatest : FitsSigned w64 s.max = search rules in
    let a = first (codes "{\"sum\":") c.in_ok-put.ensures.ok in
    let b = then (signed_decimal s.sum) a (simp to_z-of_z at c.in_ok-put_number.ensures.ok) in
    let d = then (codes ",\"count\":") b c.in_ok-put-2.ensures.ok in
    let e = then (decimal s.count) d c.in_ok-put_number-2.ensures.ok in
    let f = then (codes ",\"min\":") e c.in_ok-put-3.ensures.ok in
    let g = then (signed_decimal s.min) f (simp to_z-of_z at c.in_ok-put_number-3.ensures.ok) in
    let h = then (codes ",\"max\":") g c.in_ok-put-4.ensures.ok in
    let i = then (signed_decimal s.max) h (simp to_z-of_z at c.in_ok-put_number-4.ensures.ok) in
    let j = then (codes ",\"sumsqr\":") i c.in_ok-put-5.ensures.ok in
    let k = then (decimal s.sumsqr) j c.in_ok-put_number-5.ensures.ok in
    on_ok_weaker c.put-6.result (λ last. (then (codes "}") k last).is) c.put-6.ensures.ok
