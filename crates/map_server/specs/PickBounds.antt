-- What the map functions of the language `pick` give of a document within the bounds is within the bounds.
use Rattle.std.specs.Prelude.{◌≡◌, ◌*◌, ◌≤◌, ◌<◌, ℕ, List, [], ◌∷◌, map, length, Option, Some, None, refl, pos, negsuc, sum_by}
use Rattle.std.specs.List.{AllByRecursion}
use Rattle.std.proofs.Common.{arith}
use Rattle.std.proofs.lemmas.Int.{ints}
use Rattle.std.proofs.lemmas.Fmt.{decimal_nonempty}
use Rattle.std.proofs.lemmas.List.Sums.{sum_by-cons}
use Rattle.json_terms.specs.Json.{Json, number, is_false, is_null, is_true, object, array, string, no_items, item, items_of, members_of, depth}
use Rattle.json_terms.specs.Text.{text_of}
use Rattle.json_terms.specs.Terms.{IsTerm}
use Rattle.json_terms.proofs.Parts.{items_size, length-text_of-array}
use Rattle.map_lang.specs.Syntax.{Stmts}
use Rattle.map_lang.specs.Meaning.{rows_of, depth_limit, byte_limit}
use Rattle.map_lang.specs.Laws.{row_bytes}
use Rattle.map_lang.proofs.Bounds.{stays_within_bounds}
use Rattle.view_ports.specs.Functions.{IsRowWithinBounds, IsMappable, AreProper, source_limit, rows_term, pair_term}
use Rattle.map_server.specs.Programs.{program_of, program_of-proper}
use Rattle.map_server.specs.PickFunctions.{pick_map, rows_given}
use Rattle.map_server.specs.PickTerms.{IsRowOfTerms, rows_of_terms}

-- each text has a byte
text_some : (t : Json) → IsTerm t → 0 < length (text_of t)
text_some (number (pos n)) h = decimal_nonempty n (omega (arith, ints))
text_some (number (negsuc n)) h = omega arith
text_some is_false h = omega arith
text_some is_null h = omega arith
text_some is_true h = omega arith
text_some (object ms) h = omega arith
text_some (array ts) h = omega arith
text_some (string s) h = omega arith

-- the rows of one function are within the bounds, and few
record AreFew (rows : List (Json × Json)) : Type 0 where
  bounded : AllByRecursion IsRowWithinBounds rows
  size : 2 * items_size (items_of (map pair_term rows)) ≤ 7 * byte_limit

abbrev IsShallow : Json × Json → Type 0
IsShallow row = (depth row.0 ≤ depth_limit) × (depth row.1 ≤ depth_limit)

rows_bounded : (rows : List (Json × Json)) → AllByRecursion IsRowOfTerms rows → AllByRecursion IsShallow rows → sum_by row_bytes rows ≤ byte_limit → AllByRecursion IsRowWithinBounds rows
rows_bounded [] terms shallow small = tt
rows_bounded (row ∷ rows) terms shallow small =
    let total = sum_by-cons row_bytes row rows in (
      (
        record { valid = terms.0.0; size = omega (arith, total, small); nested = shallow.0.0 },
        record { valid = terms.0.1; size = omega (arith, total, small); nested = shallow.0.1 },
      ),
      rows_bounded rows terms.1 shallow.1 (omega (arith, total, small)),
    )

-- a row has two bytes of texts, and takes five more
rows_size : (rows : List (Json × Json)) → AllByRecursion IsRowOfTerms rows → 2 * items_size (items_of (map pair_term rows)) ≤ 7 * sum_by row_bytes rows
rows_size [] terms = omega arith
rows_size (row ∷ rows) terms =
    let total = sum_by-cons row_bytes row rows in
    let pair = length-text_of-array (item row.0 (item row.1 no_items)) in
    let key = text_some row.0 terms.0.0 in
    let value = text_some row.1 terms.0.1 in
    let others = rows_size rows terms.1 in
    omega (arith, total, pair, key, value, others)

program_rows : (program : Stmts) (document : List (List ℕ × Json)) → IsMappable document → (given : Option Stmts) → given ≡ Some program → ((p : Stmts) → given ≡ Some p → AllByRecursion IsRowOfTerms (rows_of p (object (members_of document)))) → AreFew (rows_of program (object (members_of document)))
program_rows program document m given e terms =
    let rows = rows_of program (object (members_of document)) in
    let is = terms program e in
    let bounds = stays_within_bounds program (object (members_of document)) in
    record {
      bounded = rows_bounded rows is bounds.0 bounds.1;
      size = let h = rows_size rows is in omega (arith, h, bounds.1);
    }

given_rows : (document : List (List ℕ × Json)) → IsMappable document → (given : Option Stmts) → ((p : Stmts) → given ≡ Some p → AllByRecursion IsRowOfTerms (rows_of p (object (members_of document)))) → AreFew (rows_given given document)
given_rows document m None terms = record { bounded = tt; size = omega arith }
given_rows document m (Some program) terms = program_rows program document m (Some program) refl terms

pick_rows : (document : List (List ℕ × Json)) → IsMappable document → (source : List ℕ) → AreFew (pick_map source document)
pick_rows document m source =
    given_rows document m (program_of source) (λ p e. rows_of_terms p (object (members_of document)) (program_of-proper source p e) m.valid)

rows_are_short : (rows : List (Json × Json)) → AreFew rows → length (text_of (rows_term rows)) ≤ 3670018
rows_are_short rows few = let whole = length-text_of-array (items_of (map pair_term rows)) in omega (arith, whole, few.size)

module _ (document : List (List ℕ × Json)) (m : IsMappable document) where
  all_bounded : (sources : List (List ℕ)) → AllByRecursion (AllByRecursion IsRowWithinBounds) (map (λ source. pick_map source document) sources)
  all_bounded [] = tt
  all_bounded (source ∷ sources) = ((pick_rows document m source).bounded, all_bounded sources)

  all_short : (sources : List (List ℕ)) → items_size (items_of (map rows_term (map (λ source. pick_map source document) sources))) ≤ 3670020 * length sources
  all_short [] = omega arith
  all_short (source ∷ sources) =
      let first = rows_are_short (pick_map source document) (pick_rows document m source) in
      let others = all_short sources in
      omega (arith, first, others)

  maps_are_proper : (sources : List (List ℕ)) → length sources ≤ source_limit → AreProper (map (λ source. pick_map source document) sources)
  maps_are_proper sources few = record {
    bounded = all_bounded sources;
    short = let e = all_short sources in let whole = length-text_of-array (items_of (map rows_term (map (λ source. pick_map source document) sources))) in omega (arith, e, whole, few);
  }

pub pick_maps_are_proper : (sources : List (List ℕ)) (document : List (List ℕ × Json)) → length sources ≤ source_limit → IsMappable document → AreProper (map (λ source. pick_map source document) sources)
pick_maps_are_proper sources document few m = maps_are_proper document m sources few
