-- What the language `field` emits for a document within the bounds is within the bounds.
use Rattle.std.specs.Prelude.{◌≡◌, ◌*◌, ◌≤◌, ◌++◌, ℕ, List, [], ◌∷◌, map, length, Bool, true, false, bytes_eq, codes, decimal, if◌then◌else◌, Option, Some, None, refl}
use Rattle.std.specs.List.{AllByRecursion}
use Rattle.std.proofs.Common.{arith, ap, sym, ◌∙◌, length-append}
use Rattle.std.proofs.lemmas.Fmt.{length-decimal-le}
use Rattle.std.proofs.lemmas.Slice.Eq.{bytes_eq-Decides}
use Rattle.json_terms.specs.Json.{Json, is_null, string, no_items, item, items_of, Members, no_members, member, members_of}
use Rattle.json_terms.specs.Text.{text_of}
use Rattle.json_terms.specs.Find.{find}
use Rattle.json_terms.proofs.Parts.{length-text_of-find, depth-find, IsTerm-find, items_size, length-text_of-array, length-text_of-string}
use Rattle.view_ports.specs.Functions.{IsWithinBounds, IsRowWithinBounds, IsMappable, AreProper, source_limit, rows_term, pair_term}
use Rattle.view_ports.specs.Stored.{IsRevision, without}
use Rattle.view_ports.specs.FieldRows.{emitted, field_map}

pub null_is_bounded : IsWithinBounds is_null
null_is_bounded = record { valid = tt; size = omega arith; nested = omega arith }

-- the other members stay where one is left out
found_without : (name other : List ℕ) (ms : Members) → bytes_eq other name ≡ false → find name (without other ms) ≡ find name ms
found_without name other no_members apart = refl
found_without name other (member n t ms) apart =
    let rest = found_without name other ms apart in
    elim (bytes_eq n other) as (λ same. bytes_eq n other ≡ same → find name (if same then without other ms else member n t (without other ms)) ≡ find name (member n t ms)) [
      | true ↦ λ is.
          let same : bytes_eq n name ≡ false = ap (λ m. bytes_eq m name) ((bytes_eq-Decides n other).0 is) ∙ apart in
          rest ∙ sym (ap (λ b. if b then Some t else find name ms) same)
      | false ↦ λ is. ap (λ found. if bytes_eq n name then Some t else found) rest
    ] refl

-- a revision has 52 bytes at most
revision_is_short : (text : List ℕ) → IsRevision text → length text ≤ 52
revision_is_short text (generation, seq, front, behind, is) =
    let number = length-decimal-le 19 front.0 (omega arith) (omega arith) (omega (arith, front.2)) in
    let first : length generation ≡ length (decimal front.0) = ap (λ (l : List ℕ). length l) front.3 in
    let second : length seq ≡ length (codes "-" ++ behind.0) = ap (λ (l : List ℕ). length l) behind.3 in
    let whole : length text ≡ length (generation ++ seq) = ap (λ (l : List ℕ). length l) is in
    omega (arith, number, first, second, whole, length-append generation seq, behind.1)

-- the text of a member's value is short
member_is_short : (document : List (List ℕ × Json)) → IsMappable document → (source : List ℕ) (v : Json) → find source (members_of document) ≡ Some v
    → (same : Bool) → bytes_eq (codes "_rev") source ≡ same → length (text_of v) ≤ 1048576
member_is_short document m source v h true same =
    let text = m.revision.0 in
    let found : find (codes "_rev") (members_of document) ≡ Some v = ap (λ name. find name (members_of document)) ((bytes_eq-Decides (codes "_rev") source).0 same) ∙ h in
    let both : Some (string text) ≡ Some v = sym m.revision.1 ∙ found in
    let is : string text ≡ v = cc in
    let size : length (text_of (string text)) ≡ length (text_of v) = ap (λ t. length (text_of t)) is in
    omega (arith, size, length-text_of-string text, revision_is_short text m.revision.2)
member_is_short document m source v h false same =
    let found : find source (without (codes "_rev") (members_of document)) ≡ Some v = found_without source (codes "_rev") (members_of document) same ∙ h in
    omega (arith, length-text_of-find (without (codes "_rev") (members_of document)) source v found, m.size)

-- the member's value is within the bounds
member_is_bounded : (document : List (List ℕ × Json)) → IsMappable document → (source : List ℕ) (v : Json) → find source (members_of document) ≡ Some v → IsWithinBounds v
member_is_bounded document m source v h = record {
  valid = IsTerm-find (members_of document) source v m.valid h;
  size = member_is_short document m source v h (bytes_eq (codes "_rev") source) refl;
  nested = let e = depth-find (members_of document) source v h in omega (arith, m.nested);
}

emitted_is_bounded : (found : Option Json) → ((v : Json) → found ≡ Some v → IsWithinBounds v) → AllByRecursion IsRowWithinBounds (emitted found)
emitted_is_bounded None h = tt
emitted_is_bounded (Some v) h = ((h v refl, null_is_bounded), tt)

-- the rows of one source take few bytes more than the value
emitted_is_short : (found : Option Json) → ((v : Json) → found ≡ Some v → IsWithinBounds v) → length (text_of (rows_term (emitted found))) ≤ 1048596
emitted_is_short None h = omega arith
emitted_is_short (Some v) h =
    let e = (h v refl).size in
    let row = length-text_of-array (item v (item is_null no_items)) in
    let rows = length-text_of-array (item (pair_term (v, is_null)) no_items) in
    omega arith

module _ (document : List (List ℕ × Json)) (m : IsMappable document) where
  all_bounded : (sources : List (List ℕ)) → AllByRecursion (AllByRecursion IsRowWithinBounds) (map (λ source. field_map source document) sources)
  all_bounded [] = tt
  all_bounded (source ∷ sources) =
      (emitted_is_bounded (find source (members_of document)) (member_is_bounded document m source), all_bounded sources)

  all_short : (sources : List (List ℕ)) → items_size (items_of (map rows_term (map (λ source. field_map source document) sources))) ≤ 1048600 * length sources
  all_short [] = omega arith
  all_short (source ∷ sources) =
      let first = emitted_is_short (find source (members_of document)) (member_is_bounded document m source) in
      let others = all_short sources in
      omega arith

  pub maps_are_proper : (sources : List (List ℕ)) → length sources ≤ source_limit → AreProper (map (λ source. field_map source document) sources)
  maps_are_proper sources few = record {
    bounded = all_bounded sources;
    short = let e = all_short sources in let whole = length-text_of-array (items_of (map rows_term (map (λ source. field_map source document) sources))) in omega arith;
  }

pub field_maps_are_proper : (sources : List (List ℕ)) (document : List (List ℕ × Json)) → length sources ≤ source_limit → IsMappable document → AreProper (map (λ source. field_map source document) sources)
field_maps_are_proper sources document few m = maps_are_proper document m sources few
