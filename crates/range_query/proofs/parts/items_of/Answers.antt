-- One row after another is copied.
use Rattle.std.proofs.Common.{◌≡◌, ◌∙◌, ◌<◌, ◌++◌, ◌∷◌, [], All, arith, length, rules, subst, sym}
use Rattle.std.proofs.lemmas.List.{take_all}
use Rattle.std.proofs.lemmas.List.Elements.{All-push}
use Rattle.json_terms.specs.declared.term.Row.{Row}
use Rattle.builtin_reduces.specs.Kept.{IsKept}
use Rattle.range_query.proofs.PartSums.{in_some, row_more}
use Rattle.range_query.proofs.parts.items_of.Goals as goal

pub loop-row-preserved : goal.loop-row-preserved
loop-row-preserved c =
    let rows = c.args.rows.now in
    let i = c.loop-row.row-index in
    let item = c.in-Some.item in
    let row = c.row-item.result in
    let within : i < length rows = omega arith in
    let copied : item ≡ c.in_ok-copy_row.field-0 = in_some (λ (x : Row). x ≡ c.in_ok-copy_row.field-0) c.in_ok-item.field-0 item c.in-Some.is c.in_ok-item.ensures.some in
    let same : item ≡ row = copied ∙ c.in_ok-copy_row.ensures in
    let kept : IsKept item = in_some IsKept c.in_ok-item.field-0 item c.in-Some.is c.in_ok-item.ensures.kept in
    let more = row_more rows c.loop-row.items.items i item row within c.loop-row.invariant.same c.row-item.is same in
    let pushed : c.push.new.self.items ≡ c.loop-row.items.items ++ item ∷ [] = search rules in
    let all : All IsKept (c.loop-row.items.items ++ item ∷ []) = All-push IsKept c.loop-row.items.items item (subst (All IsKept) (sym c.loop-row.invariant.same) c.loop-row.invariant.kept) kept in
    record { same = pushed ∙ more; kept = subst (All IsKept) more all }

pub returns-clause-kept : goal.returns-clause-kept
returns-clause-kept c = subst (All IsKept) (take_all c.loop-row.row-index c.args.rows.now (omega arith)) c.loop-row.invariant.kept
