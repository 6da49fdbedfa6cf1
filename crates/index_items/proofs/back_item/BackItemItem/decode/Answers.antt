-- Where a part isn't taken, or bytes are left, the bytes are those of no item.
use Rattle.std.proofs.Common.{◌≡◌, ◌++◌, ℕ, List, [], ◌==◌, Bool, true, false, length, sym, ap, ◌∙◌}
use Rattle.std.proofs.lemmas.List.{append-nil}
use Rattle.term_codec.specs.Spelling.{text_bytes}
use Rattle.index_items.specs.BackItem.{BackEntry, IsId, IsKeptEntry, entry_bytes}
use Rattle.index_items.specs.BackRows.{AreKeptRows, rows_bytes}
use Rattle.index_items.specs.BackLaws.{back_rows_prefix_free, id_prefix_free}
use Rattle.index_items.proofs.Taking.{none_taken, one_taken}
use Rattle.index_items.proofs.back_item.BackItemItem.decode.Goals as goal

-- behind the id that was taken stand the rows
rows_behind : (entry : BackEntry) (bytes id rest : List ℕ) → IsKeptEntry entry → entry_bytes entry ≡ bytes → IsId id → bytes ≡ text_bytes id ++ rest → rest ≡ rows_bytes entry.rows ++ []
rows_behind entry bytes id rest kept is fits taken =
    (id_prefix_free id entry.id rest (rows_bytes entry.rows) fits kept.id (sym taken ∙ sym is)).1 ∙ sym (append-nil (rows_bytes entry.rows))

none_left : (bytes : List ℕ) (empty : Bool) → bytes ≡ [] → empty ≡ (length bytes == 0) → empty ≡ false → ⊥
none_left bytes empty is tested failed = let passed : empty ≡ true = tested ∙ ap (λ bs. length bs == 0) is in let both : true ≡ false = sym passed ∙ failed in absurd cc

pub returns-in_default-2 : goal.returns-in_default-2
returns-in_default-2 c = λ entry kept is.
    let id = one_taken IsId text_bytes c.args.bytes.now c.in_ok-id.field-0 c.in-Some.id c.in-Some.rest c.in-Some.is c.in_ok-id.ensures in
    let rest = rows_behind entry c.args.bytes.now c.in-Some.id c.in-Some.rest.now kept is id.0 id.1 in
    none_taken AreKeptRows rows_bytes c.in-Some.rest.now c.in_ok-rows.field-0 c.in_default-2.is c.in_ok-rows.ensures entry.rows [] kept.rows rest

pub returns-then-not-is_empty : goal.returns-then-not-is_empty
returns-then-not-is_empty c = λ entry kept is.
    let id = one_taken IsId text_bytes c.args.bytes.now c.in_ok-id.field-0 c.in-Some.id c.in-Some.rest c.in-Some.is c.in_ok-id.ensures in
    let rest = rows_behind entry c.args.bytes.now c.in-Some.id c.in-Some.rest.now kept is id.0 id.1 in
    let rows = one_taken AreKeptRows rows_bytes c.in-Some.rest.now c.in_ok-rows.field-0 c.in-Some-2.rows c.in-Some-2.rest c.in-Some-2.is c.in_ok-rows.ensures in
    let left = back_rows_prefix_free c.in-Some-2.rows entry.rows c.in-Some-2.rest.now [] rows.0 kept.rows (sym rows.1 ∙ rest) in
    absurd (none_left c.in-Some-2.rest.now c.is_empty.result left.1 c.is_empty.ensures c.if-not-is_empty.true)
