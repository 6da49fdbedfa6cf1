-- How the logic stores a JSON value: as a tree of numbers that tells any two values apart.
use Rattle.std.specs.Prelude.{◌≡◌, ℕ, List}
use Rattle.std.proofs.Common.{ap, arith, refl}
use Rattle.std.specs.Coded.{Coded, coded_list, coded_ℕ, coded_ℤ}
use base.Stored.{Gv, gnil, gnum, gcons, num}
use Rattle.json_terms.specs.Json.{Json, number, is_false, is_null, is_true, object, array, string, Items, no_items, item, Members, no_members, member}

abbrev head : Gv → Gv
head gnil = gnil
head (gnum n) = gnil
head (gcons a b) = a

abbrev tail : Gv → Gv
tail gnil = gnil
tail (gnum n) = gnil
tail (gcons a b) = b

abbrev bytes_code : List ℕ → Gv
bytes_code = (coded_list coded_ℕ).code

abbrev mutual
  pub code : Json → Gv
  code (number n) = gcons (gnum 0) (coded_ℤ.code n)
  code is_false = gcons (gnum 1) gnil
  code is_null = gcons (gnum 2) gnil
  code is_true = gcons (gnum 3) gnil
  code (object ms) = gcons (gnum 4) (members_code ms)
  code (array ts) = gcons (gnum 5) (items_code ts)
  code (string s) = gcons (gnum 6) (bytes_code s)

  pub items_code : Items → Gv
  items_code no_items = gcons (gnum 0) gnil
  items_code (item t ts) = gcons (gnum 1) (gcons (code t) (items_code ts))

  pub members_code : Members → Gv
  members_code no_members = gcons (gnum 0) gnil
  members_code (member n t ms) = gcons (gnum 1) (gcons (bytes_code n) (gcons (code t) (members_code ms)))

-- the number in front, which tells the kinds apart
abbrev tag : Gv → ℕ
tag g = num (head g)

mutual
  pub code_inj : (t u : Json) → code t ≡ code u → t ≡ u
  code_inj (number m) (number n) p = ap number (coded_ℤ.inj m n (ap tail p))
  code_inj is_false is_false p = refl
  code_inj is_null is_null p = refl
  code_inj is_true is_true p = refl
  code_inj (object ms) (object ns) p = ap object (members_code_inj ms ns (ap tail p))
  code_inj (array ts) (array us) p = ap array (items_code_inj ts us (ap tail p))
  code_inj (string s) (string z) p = ap string ((coded_list coded_ℕ).inj s z (ap tail p))
  code_inj t u p = let e : tag (code t) ≡ tag (code u) = ap tag p in absurd (omega arith)

  pub items_code_inj : (ts us : Items) → items_code ts ≡ items_code us → ts ≡ us
  items_code_inj no_items no_items p = refl
  items_code_inj (item t ts) (item u us) p =
      λ i. item (code_inj t u (ap (λ g. head (tail g)) p) i) (items_code_inj ts us (ap (λ g. tail (tail g)) p) i)
  items_code_inj ts us p = let e : tag (items_code ts) ≡ tag (items_code us) = ap tag p in absurd (omega arith)

  pub members_code_inj : (ms ns : Members) → members_code ms ≡ members_code ns → ms ≡ ns
  members_code_inj no_members no_members p = refl
  members_code_inj (member m t ms) (member n u ns) p =
      λ i. member ((coded_list coded_ℕ).inj m n (ap (λ g. head (tail g)) p) i) (code_inj t u (ap (λ g. head (tail (tail g))) p) i) (members_code_inj ms ns (ap (λ g. tail (tail (tail g))) p) i)
  members_code_inj ms ns p = let e : tag (members_code ms) ≡ tag (members_code ns) = ap tag p in absurd (omega arith)

abbrev pub coded_json : Coded Json
coded_json = record { code = code; inj = code_inj }
