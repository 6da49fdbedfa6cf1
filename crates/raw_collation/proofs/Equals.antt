-- Only equal terms and equal rows compare as `Equal`.
use Rattle.std.specs.Prelude.{◌≡◌, ℕ, ℤ, List, [], ◌∷◌, refl}
use Rattle.std.proofs.Common.{ap, sym}
use Rattle.std.specs.declared.cmp.Ordering.{Ordering}
use Rattle.std.specs.declared.cmp.Ordering.TheVariants.{Less, Equal, Greater}
use Rattle.std.specs.Ordering.{nat_cmp, int_cmp, ordering_then}
use Rattle.std.specs.Cmp.Lexicographic.{slice_cmp}
use Rattle.std.proofs.lemmas.Cmp.{ranked, int_ranked, tied_itself}
use Rattle.json_terms.specs.Json.{Json, number, is_false, is_null, is_true, object, array, string, Items, no_items, item, Members, no_members, member}
use Rattle.json_terms.specs.Seen.{json}
use Rattle.json_terms.specs.declared.term.Term.{Term}
use Rattle.json_terms.specs.declared.term.Row.{Row}
use Rattle.json_terms.proofs.Sames.{json_inj}
use Rattle.raw_collation.specs.Collation.{json_cmp, items_cmp, members_cmp, rows_cmp}
use Rattle.raw_collation.proofs.Totals.{json_cmp_total, rows_cmp_total}

-- both parts of a comparison that comes out `Equal` do
pub both_equal : (a b : Ordering) → ordering_then a b ≡ Equal → (a ≡ Equal) × (b ≡ Equal)
both_equal Less b h = cc
both_equal Equal b h = (refl, h)
both_equal Greater b h = cc

pub nat_cmp-equal : (x y : ℕ) → nat_cmp x y ≡ Equal → x ≡ y
nat_cmp-equal x y h = ranked x y Equal (sym h)

pub int_cmp-equal : (x y : ℤ) → int_cmp x y ≡ Equal → x ≡ y
int_cmp-equal x y h = int_ranked x y Equal (sym h)

pub bytes_cmp-equal : (xs ys : List ℕ) → slice_cmp nat_cmp xs ys ≡ Equal → xs ≡ ys
bytes_cmp-equal [] [] h = refl
bytes_cmp-equal [] (y ∷ ys) h = cc
bytes_cmp-equal (x ∷ xs) [] h = cc
bytes_cmp-equal (x ∷ xs) (y ∷ ys) h =
    let parts = both_equal (nat_cmp x y) (slice_cmp nat_cmp xs ys) h in
    let first = nat_cmp-equal x y parts.0 in
    let rest = bytes_cmp-equal xs ys parts.1 in
    cc

mutual
  pub json_cmp-equal : (x y : Json) → json_cmp x y ≡ Equal → x ≡ y
  json_cmp-equal (number m) (number n) h = ap number (int_cmp-equal m n h)
  json_cmp-equal is_false is_false h = refl
  json_cmp-equal is_null is_null h = refl
  json_cmp-equal is_true is_true h = refl
  json_cmp-equal (object ms) (object ns) h = ap object (members_cmp-equal ms ns h)
  json_cmp-equal (array ts) (array us) h = ap array (items_cmp-equal ts us h)
  json_cmp-equal (string s) (string t) h = ap string (bytes_cmp-equal s t h)
  json_cmp-equal x y h = cc

  pub items_cmp-equal : (xs ys : Items) → items_cmp xs ys ≡ Equal → xs ≡ ys
  items_cmp-equal no_items no_items h = refl
  items_cmp-equal no_items (item y ys) h = cc
  items_cmp-equal (item x xs) no_items h = cc
  items_cmp-equal (item x xs) (item y ys) h =
      let parts = both_equal (json_cmp x y) (items_cmp xs ys) h in
      let first = json_cmp-equal x y parts.0 in
      let rest = items_cmp-equal xs ys parts.1 in
      cc

  pub members_cmp-equal : (xs ys : Members) → members_cmp xs ys ≡ Equal → xs ≡ ys
  members_cmp-equal no_members no_members h = refl
  members_cmp-equal no_members (member n y ys) h = cc
  members_cmp-equal (member m x xs) no_members h = cc
  members_cmp-equal (member m x xs) (member n y ys) h =
      let parts = both_equal (slice_cmp nat_cmp m n) (ordering_then (json_cmp x y) (members_cmp xs ys)) h in
      let names = bytes_cmp-equal m n parts.0 in
      let others = both_equal (json_cmp x y) (members_cmp xs ys) parts.1 in
      let first = json_cmp-equal x y others.0 in
      let rest = members_cmp-equal xs ys others.1 in
      cc

pub json_cmp-refl : (x : Json) → json_cmp x x ≡ Equal
json_cmp-refl x = tied_itself json_cmp_total x

pub terms_cmp-equal : (t u : Term) → json_cmp (json t) (json u) ≡ Equal → t ≡ u
terms_cmp-equal t u h = json_inj t u (json_cmp-equal (json t) (json u) h)

pub rows_cmp-refl : (r : Row) → rows_cmp r r ≡ Equal
rows_cmp-refl r = tied_itself rows_cmp_total r

pub rows_cmp-equal : (r s : Row) → rows_cmp r s ≡ Equal → r ≡ s
rows_cmp-equal r s h =
    let by_value : Ordering = json_cmp (json r.value) (json s.value) in
    let by_place : Ordering = ordering_then (nat_cmp r.place s.place) by_value in
    let by_id : Ordering = ordering_then (slice_cmp nat_cmp r.id s.id) by_place in
    let at_key = both_equal (json_cmp (json r.key) (json s.key)) by_id h in
    let at_id = both_equal (slice_cmp nat_cmp r.id s.id) by_place at_key.1 in
    let at_place = both_equal (nat_cmp r.place s.place) by_value at_id.1 in
    let keys = terms_cmp-equal r.key s.key at_key.0 in
    let ids = bytes_cmp-equal r.id s.id at_id.0 in
    let places = nat_cmp-equal r.place s.place at_place.0 in
    let values = terms_cmp-equal r.value s.value at_place.1 in
    λ i. record { key = keys i; id = ids i; place = places i; value = values i }
