-- The text that answers a query of a view (CouchDB's view API).
use Rattle.std.specs.Prelude.{◌≡◌, ℕ, true, false, List, [], ◌∷◌, ◌++◌, codes, decimal, length, map, if◌then◌else◌, Option, Some, None}
use Rattle.std.specs.List.{flat_map, AllZip}
use Rattle.json_terms.specs.Json.{Json, is_null, string}
use Rattle.json_terms.specs.Text.{text_of}
use Rattle.json_terms.specs.Seen.{json}
use Rattle.json_terms.specs.declared.term.Row.{Row}
use Rattle.raw_collation.specs.declared.group.Level.{Level}
use Rattle.raw_collation.specs.Groups.{group_of}
use Rattle.query_args.specs.declared.query.Query.{Query}
use Rattle.view_model.specs.Groups.{picked_groups}
use Rattle.view_model.specs.Selection.{offset, picked}

abbrev pub comma : ℕ
comma = 44

-- the text of each after a comma
abbrev pub more : {A : Type 0} → (A → List ℕ) → List A → List ℕ
more text xs = flat_map (λ x. comma ∷ text x) xs

-- the texts, with commas between them
abbrev pub with_commas : {A : Type 0} → (A → List ℕ) → List A → List ℕ
with_commas text [] = []
with_commas text (x ∷ xs) = text x ++ more text xs

-- the sequence of the index, where the query asks for it
abbrev pub seq_text : Query → ℕ → List ℕ
seq_text query seq = if query.show_seq then codes "\"update_seq\":" ++ decimal seq ++ codes "," else []

-- ---- rows

abbrev pub row_text : Row → List ℕ
row_text row = codes "{\"id\":" ++ text_of (string row.id) ++ codes ",\"key\":" ++ text_of (json row.key) ++ codes ",\"value\":" ++ text_of (json row.value) ++ codes "}"

abbrev pub offset_text : Option ℕ → List ℕ
offset_text (Some offset) = decimal offset
offset_text None = codes "null"

-- the rows that are picked, and where they stand among all
abbrev pub rows_answer : Query → ℕ → List Row → List ℕ
rows_answer query seq rows =
    codes "{\"total_rows\":" ++ decimal (length rows) ++ codes "," ++ seq_text query seq ++ codes "\"offset\":" ++ offset_text (offset query rows) ++ codes ",\"rows\":["
    ++ with_commas row_text (picked query rows) ++ codes "]}"

-- ---- groups

-- the key that the rows of a group have in common, which all have as the first has it
abbrev pub key_of_group : Level → List Row → Json
key_of_group level [] = is_null
key_of_group level (row ∷ rows) = group_of level (json row.key)

-- a key and the text of a value
abbrev pub group_text : Json × List ℕ → List ℕ
group_text (key, value) = codes "{\"key\":" ++ text_of key ++ codes ",\"value\":" ++ value ++ codes "}"

-- the keys of groups and their values
abbrev pub groups_answer : Query → ℕ → List (Json × List ℕ) → List ℕ
groups_answer query seq groups = codes "{" ++ seq_text query seq ++ codes "\"rows\":[" ++ with_commas group_text groups ++ codes "]}"

-- the groups, each with the text of its own value: their keys and these texts
abbrev pub keyed : Level → List (List Row) → List (List ℕ) → List (Json × List ℕ)
keyed level [] texts = []
keyed level (group ∷ groups) [] = []
keyed level (group ∷ groups) (text ∷ texts) = (key_of_group level group, text) ∷ keyed level groups texts

-- ---- either

-- The answer of an index at this sequence, whose view has these rows. Reduced, it has the groups of rows that are picked; `value` is the
-- text of the value of a group, from its rows in ascending order.
abbrev pub answer : (List Row → List ℕ) → Query → ℕ → List Row → List ℕ
answer value query seq rows =
    if query.reduced
    then groups_answer query seq (map (λ group. (key_of_group query.level group, value group)) (picked_groups query rows))
    else rows_answer query seq rows

-- The same where the values may be any of some: each group that is picked has a text of which `IsValue` holds.
pub record IsGroupsAnswer (IsValue : List Row → List ℕ → Type 0) (query : Query) (seq : ℕ) (rows : List Row) (text : List ℕ) : Type 0 where
  pub values : List (List ℕ)
  pub each : AllZip IsValue (picked_groups query rows) values
  pub is : text ≡ groups_answer query seq (keyed query.level (picked_groups query rows) values)

pub record IsAnswer (IsValue : List Row → List ℕ → Type 0) (query : Query) (seq : ℕ) (rows : List Row) (text : List ℕ) : Type 0 where
  pub whole : query.reduced ≡ false → text ≡ rows_answer query seq rows
  pub reduced : query.reduced ≡ true → IsGroupsAnswer IsValue query seq rows text
