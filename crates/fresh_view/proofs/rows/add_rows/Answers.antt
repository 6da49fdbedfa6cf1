-- The row that is pushed is that of the next emission, and in the end there are no more.
use Rattle.std.specs.Prelude.{◌≡◌, ◌+◌, ◌++◌, ℕ, List, [], ◌∷◌, length, map}
use Rattle.std.proofs.Common.{◌∙◌, sym, ap, append_assoc, length-append, rules}
use Rattle.std.proofs.lemmas.Iterator.Adapters.{YieldsList-from_vec}
use Rattle.std.proofs.lemmas.Iterator.Consumers.{YieldsList-end}
use Rattle.json_terms.specs.Emitted.{key_value}
use Rattle.json_terms.specs.declared.rows.Emission.{Emission}
use Rattle.json_terms.specs.declared.term.Row.{Row}
use Rattle.view_model.specs.Rows.{rows_from}
use Rattle.fresh_view.proofs.Places.{itself, one_more, row_of}
use Rattle.fresh_view.proofs.rows.add_rows.Goals as goal

pub loop-emission-preserved : goal.loop-emission-preserved
loop-emission-preserved c =
    let id : List ℕ = c.args.id.now in
    let before : List Row = c.args.rows.now.items in
    let done : List Emission = c.loop-emission.yielded in
    let e : Emission = c.in-Some.emission in
    let row : Row = record { key = e.key; id = c.in_ok-from_text.field-0; place = c.loop-emission.place; value = e.value } in
    let same : row ≡ row_of (length done) id e = λ i. record { key = e.key; id = c.in_ok-from_text.ensures i; place = c.loop-emission.invariant.0 i; value = e.value } in
    let counted : c.in_ok-place.place ≡ c.loop-emission.place + 1 = search rules in
    let longer : length (done ++ e ∷ []) ≡ length done + 1 = length-append done (e ∷ []) in (
      counted ∙ ap (λ (n : ℕ). n + 1) c.loop-emission.invariant.0 ∙ sym longer,
      c.in_ok-push.ensures.items
          ∙ ap (λ (r : Row). c.loop-emission.rows.items ++ r ∷ []) same
          ∙ ap (λ (rows : List Row). rows ++ row_of (length done) id e ∷ []) c.loop-emission.invariant.1
          ∙ append_assoc before (rows_from 0 id (map key_value done)) (row_of (length done) id e ∷ [])
          ∙ ap (λ (more : List Row). before ++ more) (sym (one_more id done e)),
    )

pub returns : goal.returns
returns c =
    let given = c.into_iter-emission-iterator.ensures.into_iter_gives in
    let road = YieldsList-from_vec {s = c.into_iter-emission-iterator.result} c.into_vec-emission-items.result.items given.0 (given.1 ∙ c.into_vec-emission-items.result.ok.0) in
    let end = YieldsList-end road c.loop-emission.yielded c.loop-emission.emission-iterator c.loop-emission.yielded_by c.next.result c.next.new.self c.in-None.is c.next.ensures.steps in
    let all : c.loop-emission.yielded ≡ c.into_vec-emission-items.result.items = sym (itself c.loop-emission.yielded) ∙ end.0 in
    c.loop-emission.invariant.1
    ∙ ap (λ (es : List Emission). c.args.rows.now.items ++ rows_from 0 c.args.id.now (map key_value es)) all
    ∙ ap (λ es. c.args.rows.now.items ++ rows_from 0 c.args.id.now es) c.into_vec-emission-items.ensures
