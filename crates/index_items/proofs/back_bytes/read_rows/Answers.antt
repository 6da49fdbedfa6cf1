-- Behind the number of the rows stand just these.
use Rattle.std.proofs.Common.{◌≡◌, ◌++◌, ℕ, List, Option, Some, None, Bor, length, sym, ap, ◌∙◌, arith}
use Rattle.std.specs.List.{flat_map}
use Rattle.std.proofs.lemmas.Result.{IfOk-weaker}
use Rattle.term_codec.specs.Spelling.{count_bytes}
use Rattle.term_codec.specs.Reading.{count_in}
use Rattle.term_codec.proofs.Words.{some-pair, count_in-spelled, count_in-read}
use Rattle.tree_laws.specs.Reading.{AreCounted}
use Rattle.index_items.specs.declared.back_row.BackRow.{BackRow}
use Rattle.index_items.specs.BackRows.{AreKeptRows, IsKeptRow, row_bytes, rows_bytes}
use Rattle.index_items.specs.BackLaws.{rows_parts}
use Rattle.index_items.specs.Taken.{IsTaken}
use Rattle.index_items.proofs.back_bytes.read_rows.Goals as goal

number_read : (rows : List BackRow) (bytes more : List ℕ) → AreKeptRows rows → bytes ≡ rows_bytes rows ++ more → count_in bytes ≡ Some (length rows, flat_map row_bytes rows ++ more)
number_read rows bytes more kept is = ap count_in (is ∙ rows_parts rows more) ∙ count_in-spelled (length rows) (flat_map row_bytes rows ++ more) kept.few

-- so many rows were taken behind their number
counted : (bytes rest : List ℕ) (count : ℕ) → Some (count, rest) ≡ count_in bytes → (found : Option (List BackRow × Bor (List ℕ))) → IsTaken (AreCounted count IsKeptRow) (flat_map row_bytes) rest found → IsTaken AreKeptRows rows_bytes bytes found
counted bytes rest count read (Some taken) is =
    let number = count_in-read bytes count rest (sym read) in
    let bytes_are : bytes ≡ count_bytes (length taken.0) ++ (flat_map row_bytes taken.0 ++ taken.1.now) = number.1 ∙ (λ i. count_bytes (sym (is.0).0 i) ++ is.1 i) in
    (record { few = omega (arith, number.0, (is.0).0); each = (is.0).1 }, bytes_are ∙ sym (rows_parts taken.0 taken.1.now))
counted bytes rest count read None none = λ rows more kept is.
    let number = some-pair (count, rest) (length rows, flat_map row_bytes rows ++ more) (read ∙ number_read rows bytes more kept is) in
    none rows more (sym number.0, kept.each) number.1

pub returns-in_default : goal.returns-in_default
returns-in_default c = λ rows more kept is.
    let both = c.in_default.ensures ∙ number_read rows c.args.bytes.now more kept is in
    absurd cc

pub returns : goal.returns
returns c =
    IfOk-weaker c.read_each_row.result (IsTaken (AreCounted c.in-Some.count IsKeptRow) (flat_map row_bytes) c.in-Some.rest.now) (IsTaken AreKeptRows rows_bytes c.args.bytes.now)
    (counted c.args.bytes.now c.in-Some.rest.now c.in-Some.count c.in-Some.ensures) c.read_each_row.ensures
