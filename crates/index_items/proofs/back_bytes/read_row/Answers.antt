-- Each part of a row is taken, and what is taken is the row.
use Rattle.std.proofs.Common.{◌≡◌, ◌++◌, ℕ, List, Some, sym, ap, ◌∙◌}
use Rattle.std.proofs.Math.Facts.{Fits-of_lt}
use Rattle.term_codec.specs.Spelling.{count_bytes, short_bytes}
use Rattle.term_codec.specs.Reading.{count_in, short_in}
use Rattle.term_codec.proofs.Words.{some-pair, count_in-spelled, count_in-read}
use Rattle.term_codec.proofs.Wholes.{short_in-spelled, short_in-read}
use Rattle.index_items.specs.declared.back_row.BackRow.{BackRow}
use Rattle.index_items.specs.BackRows.{IsKeptKey, IsKeptRow, key_bytes, row_bytes}
use Rattle.index_items.specs.BackLaws.{key_prefix_free, row_parts}
use Rattle.index_items.proofs.Taking.{none_taken, one_taken}
use Rattle.index_items.proofs.back_bytes.read_row.Goals as goal

-- what stands behind the view, and behind the key
abbrev behind_key : BackRow → List ℕ → List ℕ
behind_key row more = count_bytes row.place ++ more

abbrev behind_view : BackRow → List ℕ → List ℕ
behind_view row more = key_bytes row.key ++ behind_key row more

view_read : (row : BackRow) (bytes more : List ℕ) → IsKeptRow row → bytes ≡ row_bytes row ++ more → short_in bytes ≡ Some (row.view, behind_view row more)
view_read row bytes more kept is = ap short_in (is ∙ row_parts row more) ∙ short_in-spelled row.view (behind_view row more) kept.view

place_read : (row : BackRow) (bytes more : List ℕ) → IsKeptRow row → bytes ≡ behind_key row more → count_in bytes ≡ Some (row.place, more)
place_read row bytes more kept is = ap count_in is ∙ count_in-spelled row.place more kept.place

view_first : (row : BackRow) (bytes more rest : List ℕ) (view : ℕ) → Some (view, rest) ≡ short_in bytes → IsKeptRow row → bytes ≡ row_bytes row ++ more → rest ≡ behind_view row more
view_first row bytes more rest view read kept is = (some-pair (view, rest) (row.view, behind_view row more) (read ∙ view_read row bytes more kept is)).1

pub returns-in_default : goal.returns-in_default
returns-in_default c = λ row more kept is.
    let both = c.in_default.ensures ∙ view_read row c.args.bytes.now more kept is in
    absurd cc

pub returns-in_default-2 : goal.returns-in_default-2
returns-in_default-2 c = λ row more kept is.
    let rest = view_first row c.args.bytes.now more c.in-Some.rest.now c.in-Some.view c.in-Some.ensures kept is in
    none_taken IsKeptKey key_bytes c.in-Some.rest.now c.in_ok-key.field-0 c.in_default-2.is c.in_ok-key.ensures row.key (behind_key row more) kept.key rest

pub returns-in_default-read_count : goal.returns-in_default-read_count
returns-in_default-read_count c = λ row more kept is.
    let rest = view_first row c.args.bytes.now more c.in-Some.rest.now c.in-Some.view c.in-Some.ensures kept is in
    let key = one_taken IsKeptKey key_bytes c.in-Some.rest.now c.in_ok-key.field-0 c.in-Some-2.key c.in-Some-2.rest c.in-Some-2.is c.in_ok-key.ensures in
    let behind = (key_prefix_free c.in-Some-2.key row.key c.in-Some-2.rest.now (behind_key row more) key.0 kept.key (sym key.1 ∙ rest)).1 in
    let both = c.in_default-read_count.ensures ∙ place_read row c.in-Some-2.rest.now more kept behind in
    absurd cc

pub overflow_cast-place : goal.overflow_cast-place
overflow_cast-place c = Fits-of_lt ((count_in-read c.in-Some-2.rest.now c.in-Some-read_count.place c.in-Some-read_count.rest.now (sym c.in-Some-read_count.ensures)).0)

pub returns : goal.returns
returns c =
    let row : BackRow = record { view = c.in-Some.view; key = c.in-Some-2.key; place = c.in-Some-read_count.place } in
    let view = short_in-read c.args.bytes.now c.in-Some.view c.in-Some.rest.now (sym c.in-Some.ensures) in
    let key = one_taken IsKeptKey key_bytes c.in-Some.rest.now c.in_ok-key.field-0 c.in-Some-2.key c.in-Some-2.rest c.in-Some-2.is c.in_ok-key.ensures in
    let place = count_in-read c.in-Some-2.rest.now c.in-Some-read_count.place c.in-Some-read_count.rest.now (sym c.in-Some-read_count.ensures) in (
      record { view = view.0; key = key.0; place = place.0 },
      view.1 ∙ ap (λ bs. short_bytes row.view ++ bs) (key.1 ∙ ap (λ bs. key_bytes row.key ++ bs) place.1) ∙ sym (row_parts row c.in-Some-read_count.rest.now),
    )
