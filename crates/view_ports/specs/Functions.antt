-- What a query server computes: fixed functions for each path that a child is started by.
use Rattle.std.specs.Prelude.{◌≡◌, ◌≤◌, ℕ, List, [], ◌∷◌, map, length, Bool}
use Rattle.std.specs.List.{flat_map, AllByRecursion}
use Rattle.json_terms.specs.Json.{Json, object, array, no_items, item, items_of, members_of, depth}
use Rattle.json_terms.specs.Text.{text_of}
use Rattle.json_terms.specs.Terms.{IsTerm}
use Rattle.view_ports.specs.ReduceRow.{ReduceRow}
use Rattle.view_ports.specs.Stored.{IsStoredDocument}

-- A line from or to a child has so many bytes at most.
abbrev pub line_limit : ℕ
line_limit = 134217728

-- The text of a key, a value or a result has so many bytes at most,
abbrev pub part_limit : ℕ
part_limit = 1048576

-- and nests so deep at most.
abbrev pub part_depth : ℕ
part_depth = 96

-- A design document has so many views at most.
abbrev pub source_limit : ℕ
source_limit = 32

-- a key, a value or a result within the bounds
pub record IsWithinBounds (t : Json) : Type 0 where
  pub valid : IsTerm t
  pub size : length (text_of t) ≤ part_limit
  pub nested : depth t ≤ part_depth

-- functions are asked about documents that can be stored
abbrev pub IsMappable : List (List ℕ × Json) → Type 0
IsMappable document = IsStoredDocument (object (members_of document))

-- ---- rows as a term: for each function an array of `[KEY,VALUE]`

abbrev pub pair_term : Json × Json → Json
pair_term row = array (item row.0 (item row.1 no_items))

abbrev pub rows_term : List (Json × Json) → Json
rows_term rows = array (items_of (map pair_term rows))

abbrev pub lists_term : List (List (Json × Json)) → Json
lists_term lists = array (items_of (map rows_term lists))

abbrev pub IsRowWithinBounds : Json × Json → Type 0
IsRowWithinBounds row = IsWithinBounds row.0 × IsWithinBounds row.1

-- rows whose answer line is proper
pub record AreProper (lists : List (List (Json × Json))) : Type 0 where
  pub bounded : AllByRecursion (AllByRecursion IsRowWithinBounds) lists
  pub short : length (text_of (lists_term lists)) ≤ line_limit

abbrev pub IsReduceRowWithinBounds : ReduceRow → Type 0
IsReduceRowWithinBounds ((key, id), value) = IsWithinBounds key × IsWithinBounds value

-- not an empty list
abbrev pub IsSomeList : {A : Type 0} → List A → Type 0
IsSomeList [] = ⊥
IsSomeList (x ∷ xs) = Unit {0}

-- all parts, one after another
abbrev pub joined : {A : Type 0} → List (List A) → List A
joined parts = flat_map (λ part. part) parts

-- The functions of a path. Map functions give rows as pairs of key and value.
pub record Functions : Type 0 where
  pub compiles : List ℕ → Bool
  pub map_of : List ℕ → List (List ℕ × Json) → List (Json × Json)
  pub reduce_compiles : List ℕ → Bool
  pub reduce_of : List ℕ → List ReduceRow → Json
  pub rereduce_of : List ℕ → List Json → Json
  -- rereducing the results of parts is reducing all rows
  pub rejoins : (source : List ℕ) (parts : List (List ReduceRow)) → IsSomeList parts → AllByRecursion IsSomeList parts
      → rereduce_of source (map (reduce_of source) parts) ≡ reduce_of source (joined parts)
  -- what is made of documents that can be stored, and of rows and values within the bounds, is within the bounds
  pub proper_maps : (sources : List (List ℕ)) (document : List (List ℕ × Json)) → length sources ≤ source_limit → IsMappable document
      → AreProper (map (λ source. map_of source document) sources)
  pub proper_reduces : (source : List ℕ) (rows : List ReduceRow) → IsSomeList rows → AllByRecursion IsReduceRowWithinBounds rows → IsWithinBounds (reduce_of source rows)
  pub proper_rereduces : (source : List ℕ) (values : List Json) → IsSomeList values → AllByRecursion IsWithinBounds values → IsWithinBounds (rereduce_of source values)
