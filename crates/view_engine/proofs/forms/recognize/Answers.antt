-- No form has four members.
use Rattle.std.specs.Prelude.{◌≡◌, ◌≢◌, ◌<◌, ◌==◌, map, length, vec_len}
use Rattle.std.proofs.Common.{sym, arith, eq-eqb}
use Rattle.std.proofs.lemmas.Bool.{both_ways}
use Rattle.json_terms.specs.Seen.{pair_of}
use Rattle.view_engine.proofs.OtherForms.{form_of-many}
use Rattle.view_engine.proofs.forms.recognize.Goals as goal

pub returns-then-not-is_empty : goal.returns-then-not-is_empty
returns-then-not-is_empty c =
    let all = c.into_vec-members.result.items in
    let same : map pair_of all ≡ c.in-Object.members = c.into_vec-members.ensures in
    let some : vec_len c.pop-3.new.self ≢ 0 = λ none. both_ways (vec_len c.pop-3.new.self == 0) (sym c.if-not-is_empty.ensures) (eq-eqb (vec_len c.pop-3.new.self) 0 none) in
    let many : 3 < length all =
    omega (arith, some, c.in_ok-third.ensures.len, c.in-Some.ensures.len, c.in-Some-pop.ensures.len, c.into_vec-members.result.ok) in
    rw (c.in-Object.is, ← same) (sym (form_of-many all many))
