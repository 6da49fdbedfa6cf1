-- Each write's document has its rows.
use Rattle.std.specs.Prelude.{◌≡◌, [], ◌∷◌, ◌++◌, length, true, false}
use Rattle.std.specs.Option.{unwrap_or}
use Rattle.std.specs.Vec.Iter.{into_iter_items, into_iter_len}
use Rattle.std.proofs.Common.{◌∙◌, sym, ap, append_assoc, append-nil}
use Rattle.std.proofs.lemmas.Iterator.Adapters.{YieldsList-from_vec}
use Rattle.std.proofs.lemmas.Iterator.Consumers.{YieldsList-end}
use Rattle.change_mapper.proofs.ChangedSoFar.{itself}
use Rattle.change_mapper.proofs.RowsSoFar.{all_left, later, left_of, left-push, nothing_of, own_rows, rows-push, rows_changed, rows_of, none_taken, taken, AreNext}
use Rattle.change_mapper.proofs.changed.add_rows.Goals as goal
use Rattle.change_mapper.proofs.changed.add_rows.Goals.{then-is_mapped, else-is_mapped+in_ok-own}

pub loop-id-init : goal.loop-id-init
loop-id-init c = (
  tt,
  tt,
  sym (append-nil c.args.rows.now.items) ∙ ap (λ more. c.args.rows.now.items ++ more) (sym (nothing_of c.args.views c.args.lists)),
  c.into_iter-lists.ensures.rest ∙ c.into_vec.ensures ∙ sym (all_left c.args.lists),
  c.into_iter-lists.ensures.len ∙ c.into_vec.result.ok.0 ∙ ap length (sym c.into_iter-lists.ensures.rest),
)

pub loop-id-preserved : goal.loop-id-preserved
loop-id-preserved c =
    let write = c.in-Some.field-0 in
    let lists = into_iter_items c.loop-id.lists in
    let next : AreNext c.args.views write.is_mapped lists c.if-is_mapped.own (into_iter_items c.if-is_mapped.lists) (into_iter_len c.if-is_mapped.lists) =
    elim c.if-is_mapped.branch [
      | then-is_mapped w ↦
          let mapped : write.is_mapped ≡ true = cc w.if-is_mapped.true in
          let next = taken c.args.views write.is_mapped mapped lists (into_iter_items w.next-then-is_mapped.new.self) (into_iter_len c.loop-id.lists) (into_iter_len w.next-then-is_mapped.new.self)
          w.next-then-is_mapped.result w.next-then-is_mapped.ensures.items w.next-then-is_mapped.ensures.cases c.loop-id.invariant.4 in
          record {
            rows = w.own-is ∙ w.unwrap_or-own.ensures ∙ ap (unwrap_or w.next-then-is_mapped.result) w.new.ensures ∙ next.rows;
            left = ap into_iter_items w.lists-is ∙ next.left;
            counted = ap into_iter_len w.lists-is ∙ next.counted ∙ ap (λ l. length (into_iter_items l)) (sym w.lists-is);
          }
      | else-is_mapped+in_ok-own w ↦
          let other : write.is_mapped ≡ false = cc w.if-is_mapped.false in
          let next = none_taken c.args.views write.is_mapped other lists (into_iter_len c.loop-id.lists) c.loop-id.invariant.4 in
          record {
            rows = w.own-is ∙ w.in_ok-own.ensures ∙ next.rows;
            left = ap into_iter_items w.lists-is ∙ next.left;
            counted = ap into_iter_len w.lists-is ∙ next.counted ∙ ap (λ l. length (into_iter_items l)) (sym w.lists-is);
          }
    ] in (
      tt,
      tt,
      c.in_ok-push.ensures.items
          ∙ (λ i. c.loop-id.invariant.2 i ++ record { id = write.id; rows = (next.rows ∙ ap (own_rows c.args.views write.is_mapped) c.loop-id.invariant.3) i } ∷ [])
          ∙ append_assoc c.args.rows.now.items (rows_of c.args.views c.loop-id.yielded c.args.lists) (record { id = write.id; rows = own_rows c.args.views write.is_mapped (left_of c.loop-id.yielded c.args.lists) } ∷ [])
          ∙ ap (λ more. c.args.rows.now.items ++ more) (sym (rows-push c.args.views c.loop-id.yielded write c.args.lists)),
      next.left ∙ ap (later write.is_mapped) c.loop-id.invariant.3 ∙ sym (left-push c.loop-id.yielded write c.args.lists),
      next.counted,
    )

pub returns : goal.returns
returns c =
    let given = c.into_iter-id-iterator.ensures.into_iter_gives in
    let road = YieldsList-from_vec {s = c.into_iter-id-iterator.result} c.args.written.items given.0 (given.1 ∙ c.args.written.ok.0) in
    let all = YieldsList-end road c.loop-id.yielded c.loop-id.id-iterator c.loop-id.yielded_by c.next.result c.next.new.self c.in-None.is c.next.ensures.steps in
    let whole : c.loop-id.yielded ≡ c.args.written.items = sym (itself c.loop-id.yielded) ∙ all.0 in
    λ changes is. c.loop-id.invariant.2 ∙ ap (λ more. c.args.rows.now.items ++ more) (ap (λ w. rows_of c.args.views w c.args.lists) (whole ∙ is) ∙ rows_changed c.args.views changes c.args.lists)
