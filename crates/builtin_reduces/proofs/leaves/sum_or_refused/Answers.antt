use Rattle.std.proofs.Common.{◌∙◌, sym, map}
use Rattle.std.proofs.lemmas.Result.{IfOk-weaker}
use Rattle.json_terms.specs.Seen.{json}
use Rattle.builtin_reduces.proofs.Appended.{value_of-array}
use Rattle.builtin_reduces.proofs.leaves.sum_or_refused.Goals as goal

pub returns-in-Array : goal.returns-in-Array
returns-in-Array c =
    rw c.in-Array.is (IfOk-weaker c.array_or_refused.result _ _ (λ sum is. is ∙ sym (value_of-array c.in-Array.terms (map json c.as_slice.result.now) c.as_slice.ensures)) c.array_or_refused.ensures)
