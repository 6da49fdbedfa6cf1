-- The order of items is total, and the bytes of no part of an item begin those of another.
use Rattle.std.proofs.Common.{◌≡◌, ◌^◌, ◌<◌, ℕ, List, ◌++◌, length, Option, Some, sym, ap, ◌∙◌, append_assoc, arith}
use Rattle.std.specs.Cmp.{IsTotalOrder}
use Rattle.std.specs.List.{flat_map}
use Rattle.std.proofs.lemmas.Cmp.{nat_list_cmp_total, on_total}
use Rattle.json_terms.specs.Seen.{json}
use Rattle.json_terms.proofs.Sames.{json_inj}
use Rattle.term_codec.specs.Spelling.{count_bytes, short_bytes, text_bytes}
use Rattle.term_codec.specs.Reading.{count_in, short_in, text_in}
use Rattle.term_codec.proofs.Words.{some-pair, count_in-spelled}
use Rattle.term_codec.proofs.Wholes.{short_in-spelled}
use Rattle.term_codec.proofs.Texts.{text_in-spelled}
use Rattle.term_codec.proofs.Spelled.{spelling-prefix_free}
use Rattle.tree_laws.specs.Spelled.{IsPrefixFree, IsSpelledOnce}
use Rattle.tree_laws.proofs.Prefixes.{row_prefix_free, spelled_once}
use Rattle.index_items.specs.declared.back_row.BackRow.{BackRow}
use Rattle.index_items.specs.BackRows.{AreKeptRows, IsKeptKey, IsKeptRow, key_bytes, row_bytes, rows_bytes}
use Rattle.index_items.specs.BackItem.{BackEntry, IsId, IsKeptEntry, entry_bytes, entry_cmp}
use Rattle.index_items.specs.Counts.{bounds_within}

pub entry_cmp_total : IsTotalOrder entry_cmp
entry_cmp_total = on_total (λ (entry : BackEntry). entry.id) nat_list_cmp_total

-- ---- numbers, ids and keys

-- what is found at the front whatever follows begins nothing else
found_once : {T : Type 0} (fits : T → Type 0) (spelled : T → List ℕ) (found : List ℕ → Option (T × List ℕ)) → ((x : T) (more : List ℕ) → fits x → found (spelled x ++ more) ≡ Some (x, more)) → IsPrefixFree fits spelled
found_once fits spelled found is x y more rest fx fy same = some-pair (x, more) (y, rest) (sym (is x more fx) ∙ ap found same ∙ is y rest fy)

pub count_prefix_free : IsPrefixFree (λ n. n < 2 ^ 32) count_bytes
count_prefix_free = found_once (λ n. n < 2 ^ 32) count_bytes count_in count_in-spelled

pub short_prefix_free : IsPrefixFree (λ n. n < 2 ^ 16) short_bytes
short_prefix_free = found_once (λ n. n < 2 ^ 16) short_bytes short_in short_in-spelled

pub id_read : (id more : List ℕ) → IsId id → text_in (text_bytes id ++ more) ≡ Some (id, more)
id_read id more kept = text_in-spelled id more kept.utf8 (omega (arith, kept.short))

pub id_prefix_free : IsPrefixFree IsId text_bytes
id_prefix_free = found_once IsId text_bytes text_in id_read

pub key_prefix_free : IsPrefixFree IsKeptKey key_bytes
key_prefix_free x y more rest kx ky same =
    let terms = spelling-prefix_free (json x) (json y) more rest kx.valid (bounds_within (json x) kx) ky.valid (bounds_within (json y) ky) same in
    (json_inj x y terms.0, terms.1)

-- ---- rows

-- the parts of a row, one behind another
pub row_parts : (row : BackRow) (more : List ℕ) → row_bytes row ++ more ≡ short_bytes row.view ++ (key_bytes row.key ++ (count_bytes row.place ++ more))
row_parts row more =
    append_assoc (short_bytes row.view) (key_bytes row.key ++ count_bytes row.place) more
    ∙ ap (λ bs. short_bytes row.view ++ bs) (append_assoc (key_bytes row.key) (count_bytes row.place) more)

pub back_row_prefix_free : IsPrefixFree IsKeptRow row_bytes
back_row_prefix_free x y more rest kx ky same =
    let view = short_prefix_free x.view y.view _ _ kx.view ky.view (sym (row_parts x more) ∙ same ∙ row_parts y rest) in
    let key = key_prefix_free x.key y.key _ _ kx.key ky.key view.1 in
    let place = count_prefix_free x.place y.place more rest kx.place ky.place key.1 in
    (λ i. record { view = view.0 i; key = key.0 i; place = place.0 i }, place.1)

-- the number of rows, and the rows behind it
pub rows_parts : (rows : List BackRow) (more : List ℕ) → rows_bytes rows ++ more ≡ count_bytes (length rows) ++ (flat_map row_bytes rows ++ more)
rows_parts rows more = append_assoc (count_bytes (length rows)) (flat_map row_bytes rows) more

pub back_rows_prefix_free : IsPrefixFree AreKeptRows rows_bytes
back_rows_prefix_free xs ys more rest kx ky same =
    let count = count_prefix_free (length xs) (length ys) _ _ kx.few ky.few (sym (rows_parts xs more) ∙ same ∙ rows_parts ys rest) in
    row_prefix_free IsKeptRow row_bytes back_row_prefix_free xs ys more rest count.0 kx.each ky.each count.1

-- ---- items

-- the id, and the rows behind it
pub entry_parts : (entry : BackEntry) (more : List ℕ) → entry_bytes entry ++ more ≡ text_bytes entry.id ++ (rows_bytes entry.rows ++ more)
entry_parts entry more = append_assoc (text_bytes entry.id) (rows_bytes entry.rows) more

entry_prefix_free : IsPrefixFree IsKeptEntry entry_bytes
entry_prefix_free x y more rest kx ky same =
    let id = id_prefix_free x.id y.id _ _ kx.id ky.id (sym (entry_parts x more) ∙ same ∙ entry_parts y rest) in
    let rows = back_rows_prefix_free x.rows y.rows more rest kx.rows ky.rows id.1 in
    (λ i. record { id = id.0 i; rows = rows.0 i }, rows.1)

pub entries_spelled_once : IsSpelledOnce IsKeptEntry entry_bytes
entries_spelled_once = spelled_once IsKeptEntry entry_bytes entry_prefix_free
