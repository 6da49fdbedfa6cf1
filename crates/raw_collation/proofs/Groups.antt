-- The first elements of an array, and keys of one group.
use Rattle.std.specs.Prelude.{◌≡◌, ◌≤◌, ◌↔◌, ℕ, zero, suc, List, [], ◌∷◌, map, take, length, IsTrue, refl}
use Rattle.std.proofs.Common.{ap, sym, ◌∙◌, subst, arith}
use Rattle.std.specs.declared.cmp.Ordering.{Ordering}
use Rattle.std.specs.declared.cmp.Ordering.TheVariants.{Less, Equal, Greater}
use Rattle.std.specs.Ordering.{is_eq}
use Rattle.json_terms.specs.Json.{Json, array, Items, no_items, item, items_of}
use Rattle.json_terms.specs.Seen.{json}
use Rattle.json_terms.specs.declared.term.Term.{Term}
use Rattle.raw_collation.specs.Collation.{json_cmp, items_cmp}
use Rattle.raw_collation.specs.Groups.{first_items}
use Rattle.raw_collation.proofs.Equals.{json_cmp-equal, json_cmp-refl, items_cmp-equal}

pub first_items-take : (n : ℕ) (ts : List Term) → items_of (map json (take n ts)) ≡ first_items n (items_of (map json ts))
first_items-take zero ts = refl
first_items-take (suc n) [] = refl
first_items-take (suc n) (t ∷ ts) = ap (item (json t)) (first_items-take n ts)

pub first_items-all : (n : ℕ) (ts : List Term) → length ts ≤ n → items_of (map json ts) ≡ first_items n (items_of (map json ts))
first_items-all zero [] h = refl
first_items-all zero (t ∷ ts) h = absurd (omega (arith, h))
first_items-all (suc n) [] h = refl
first_items-all (suc n) (t ∷ ts) h = ap (item (json t)) (first_items-all n ts (omega (arith, h)))

-- keys compare as equal just where they are one
pub equal_just_where_one : (x y : Json) → IsTrue (is_eq (json_cmp x y)) ↔ (x ≡ y)
equal_just_where_one x y =
    (λ h. json_cmp-equal x y (is_equal (json_cmp x y) h), λ same. subst (λ o. IsTrue (is_eq o)) (sym (ap (json_cmp x) (sym same) ∙ json_cmp-refl x)) refl)
  where
    is_equal : (o : Ordering) → IsTrue (is_eq o) → o ≡ Equal
    is_equal Less h = cc
    is_equal Equal h = refl
    is_equal Greater h = cc

pub items_equal_just_where_one : (xs ys : Items) → IsTrue (is_eq (items_cmp xs ys)) ↔ (xs ≡ ys)
items_equal_just_where_one xs ys =
    let both = equal_just_where_one (array xs) (array ys) in
    (λ h. array-inj (both.0 h), λ same. both.1 (ap array same))
  where
    elements : Json → Items
    elements (array ts) = ts
    elements t = no_items

    array-inj : {ts us : Items} → array ts ≡ array us → ts ≡ us
    array-inj same = ap elements same
