-- Number behind number.
use Rattle.std.proofs.Common.{◌≡◌, ◌++◌, List, ℕ, ℤ, ap, ◌∙◌, append_assoc, FitsSigned, to_z, of_z, w64, rules}
use Rattle.std.specs.Int.{w128}
use Rattle.std.proofs.lemmas.Int.{to_z-of_z}
use Rattle.std.proofs.lemmas.Result.{on_ok_weaker}
use Rattle.builtin_reduces.specs.SumBytes.{i128_bytes, u128_bytes}
use Rattle.builtin_reduces.specs.SumSpelled.{fits_more}
use Rattle.builtin_reduces.proofs.sum_bytes.put_stats.Goals as goal

five_written : (a b c d e none one two three four five : List ℕ) → one ≡ none ++ a → two ≡ one ++ b → three ≡ two ++ c → four ≡ three ++ d → five ≡ four ++ e
    → five ≡ none ++ (a ++ (b ++ (c ++ (d ++ e))))
five_written a b c d e none one two three four five g h i j k =
    k ∙ ap (λ x. x ++ e) (j ∙ ap (λ x. x ++ d) (i ∙ ap (λ x. x ++ c) (h ∙ ap (λ x. x ++ b) g)))
    ∙ append_assoc (((none ++ a) ++ b) ++ c) d e ∙ append_assoc ((none ++ a) ++ b) c (d ++ e) ∙ append_assoc (none ++ a) b (c ++ (d ++ e)) ∙ append_assoc none a (b ++ (c ++ (d ++ e)))

widened : (z w : ℤ) → FitsSigned w64 z → w ≡ to_z w64 (of_z w64 z) → to_z w128 (of_z w128 w) ≡ z
widened z w fits is = ap (λ v. to_z w128 (of_z w128 v)) (is ∙ to_z-of_z w64 z fits) ∙ to_z-of_z w128 z (fits_more z fits)

pub returns-clause-bytes : goal.returns-clause-bytes
returns-clause-bytes c =
    let s = c.args.stats.now in
    let sum : FitsSigned w128 s.sum = search rules in
    let least : FitsSigned w64 s.min = search rules in
    let greatest : FitsSigned w64 s.max = search rules in
    let a = c.in_ok-put_i128.ensures ∙ ap (λ z. c.args.out.now.items ++ i128_bytes z) (to_z-of_z w128 s.sum sum) in
    let b = c.in_ok-put_u128.ensures ∙ ap (λ n. c.put_i128.new.out.items ++ u128_bytes n) c.from.ensures in
    let d = c.in_ok-put_i128-2.ensures ∙ ap (λ z. c.put_u128.new.out.items ++ i128_bytes z) (widened s.min c.from-2.result least c.from-2.ensures) in
    let e = c.in_ok-put_i128-3.ensures ∙ ap (λ z. c.put_i128-2.new.out.items ++ i128_bytes z) (widened s.max c.from-3.result greatest c.from-3.ensures) in
    on_ok_weaker c.put_u128-2.result (five_written (i128_bytes s.sum) (u128_bytes s.count) (i128_bytes s.min) (i128_bytes s.max) (u128_bytes s.sumsqr)
    c.args.out.now.items c.put_i128.new.out.items c.put_u128.new.out.items c.put_i128-2.new.out.items c.put_i128-3.new.out.items c.put_u128-2.new.out.items a b d e) c.put_u128-2.ensures
