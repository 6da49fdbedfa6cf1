use Rattle.std.proofs.Common.{◌++◌, sym, subst}
use Rattle.std.proofs.lemmas.List.Elements.{All-push}
use Rattle.tree_query.specs.declared.walk.WalkRow.{WalkRow}
use Rattle.tree_query.specs.Bare.{StandItems}
use Rattle.tree_query.specs.Reaching.{AreReached}
use Rattle.tree_query.specs.Walking.{Ahead, AreOver, AreTurned}
use Rattle.tree_query.proofs.Walks.{ahead_push}
use Rattle.tree_query.specs.Numbers.{AreNext, RowsNext}
use Rattle.tree_query.proofs.Numbers.{rows_push}
use Rattle.tree_query.proofs.walk.push_row.Goals as goal

pub returns-clause-items : goal.returns-clause-items
returns-clause-items g c there flag xs ys h k =
    let i = g.T.Item in
    let row : WalkRow _ = record { level = c.args.level; children = c.from_vec.result } in
    let h' = subst (λ ds. AreTurned flag (StandItems i there c.args.level) ds xs) (sym c.from_vec.ensures) h in
    subst (λ rs. Ahead i flag there rs (xs ++ ys)) (sym c.in_ok-push.ensures.items) (ahead_push i flag there c.args.rows.now.items row xs ys h' k)

pub returns-clause-over : goal.returns-clause-over
returns-clause-over g c there tree h k =
    let i = g.T.Item in
    let row : WalkRow _ = record { level = c.args.level; children = c.from_vec.result } in
    let h' = subst (λ ds. AreReached i there tree c.args.level ds) (sym c.from_vec.ensures) h in
    subst (λ rs. AreOver i there tree rs) (sym c.in_ok-push.ensures.items) (All-push (λ r. AreReached i there tree r.level r.children) c.args.rows.now.items row k h')

pub returns-clause-edge : goal.returns-clause-edge
returns-clause-edge g c there tree flag from mid to h k =
    let i = g.T.Item in
    let row : WalkRow _ = record { level = c.args.level; children = c.from_vec.result } in
    let h' = subst (λ ds. AreNext i there tree flag c.args.level ds from mid) (sym c.from_vec.ensures) h in
    subst (λ rs. RowsNext i there tree flag rs from to) (sym c.in_ok-push.ensures.items) (rows_push i there tree flag c.args.rows.now.items row from mid to h' k)
