use Rattle.std.specs.Prelude.{IsOk}
use Rattle.std.proofs.Common.{◌≡◌, ◌+◌, ◌++◌, ◌∙◌, [], ap, vec_len, arith}
use Rattle.tree_query.proofs.Lists.{none_long, taken_ok}
use Rattle.tree_query.proofs.walk.join_rows.Goals as goal

pub returns : goal.returns
returns g c =
    let room = c.args.room in
    let rows = c.args.rows in
    let fresh = c.args.fresh in
    let all = c.append.new.self in
    let one : IsOk c.append.result = c.append.ensures.succeeds (omega (arith, c.requires.empty, c.requires.room)) in
    let items : all.items ≡ room.items ++ rows.items = taken_ok c.append.result all.items (room.items ++ rows.items) room.items one c.append.ensures.items in
    let long : vec_len all ≡ vec_len room + vec_len rows = taken_ok c.append.result (vec_len all) (vec_len room + vec_len rows) (vec_len room) one c.append.ensures.len in
    let two : IsOk c.append-2.result = c.append-2.ensures.succeeds (omega (arith, long, c.append.ensures.capacity, c.requires.empty, c.requires.room)) in
    let both : c.append-2.new.self.items ≡ all.items ++ fresh.items = taken_ok c.append-2.result c.append-2.new.self.items (all.items ++ fresh.items) all.items two c.append-2.ensures.items in
    let none : room.items ≡ [] = none_long room.items (omega (arith, room.ok.0, c.requires.empty)) in
    both ∙ ap (λ t. t ++ fresh.items) (items ∙ ap (λ t. t ++ rows.items) none)
