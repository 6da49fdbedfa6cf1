-- A term spelled as a list of numbers, such that terms compare as their spellings do.
use Rattle.std.specs.Prelude.{◌≡◌, ℕ, suc, ℤ, pos, List, [], ◌∷◌, refl}
use Rattle.std.proofs.Common.{ap, sym, ◌∙◌, arith}
use Rattle.std.specs.declared.cmp.Ordering.{Ordering}
use Rattle.std.specs.declared.cmp.Ordering.TheVariants.{Less, Equal, Greater}
use Rattle.std.specs.Ordering.{nat_cmp, int_cmp, ordering_then}
use Rattle.std.specs.Cmp.Lexicographic.{slice_cmp}
use Rattle.std.proofs.lemmas.Bool.Decides.{nat_tests}
use Rattle.json_terms.specs.Json.{Json, number, is_false, is_null, is_true, object, array, string, Items, no_items, item, Members, no_members, member}
use Rattle.raw_collation.specs.Collation.{json_cmp, items_cmp, members_cmp}

-- each byte as one more than it, and 0 at the end
abbrev pub spell_bytes : List ℕ → List ℤ → List ℤ
spell_bytes [] rest = pos 0 ∷ rest
spell_bytes (x ∷ xs) rest = pos (suc x) ∷ spell_bytes xs rest

-- the kind and then the parts; 1 before each element or member, and 0 after the last
abbrev mutual
  pub spell : Json → List ℤ → List ℤ
  spell (number n) rest = pos 0 ∷ n ∷ rest
  spell is_false rest = pos 1 ∷ rest
  spell is_null rest = pos 2 ∷ rest
  spell is_true rest = pos 3 ∷ rest
  spell (object ms) rest = pos 4 ∷ spell_members ms rest
  spell (array ts) rest = pos 5 ∷ spell_items ts rest
  spell (string s) rest = pos 6 ∷ spell_bytes s rest

  pub spell_items : Items → List ℤ → List ℤ
  spell_items no_items rest = pos 0 ∷ rest
  spell_items (item t ts) rest = pos 1 ∷ spell t (spell_items ts rest)

  pub spell_members : Members → List ℤ → List ℤ
  spell_members no_members rest = pos 0 ∷ rest
  spell_members (member n t ms) rest = pos 1 ∷ spell_bytes n (spell t (spell_members ms rest))

pub ordering_then_assoc : (a b c : Ordering) → ordering_then (ordering_then a b) c ≡ ordering_then a (ordering_then b c)
ordering_then_assoc Less b c = refl
ordering_then_assoc Equal b c = refl
ordering_then_assoc Greater b c = refl

pub ordering_then-Equal : (a : Ordering) → ordering_then a Equal ≡ a
ordering_then-Equal Less = refl
ordering_then-Equal Equal = refl
ordering_then-Equal Greater = refl

int_cmp-suc : (x y : ℕ) → int_cmp (pos (suc x)) (pos (suc y)) ≡ nat_cmp x y
int_cmp-suc x y = grind (arith, nat_tests)

int_cmp-zero-suc : (y : ℕ) → int_cmp (pos 0) (pos (suc y)) ≡ Less
int_cmp-zero-suc y = grind (arith, nat_tests)

int_cmp-suc-zero : (x : ℕ) → int_cmp (pos (suc x)) (pos 0) ≡ Greater
int_cmp-suc-zero x = grind (arith, nat_tests)

pub slice_cmp-spell_bytes : (xs ys : List ℕ) (a b : List ℤ)
    → slice_cmp int_cmp (spell_bytes xs a) (spell_bytes ys b) ≡ ordering_then (slice_cmp nat_cmp xs ys) (slice_cmp int_cmp a b)
slice_cmp-spell_bytes [] [] a b = refl
slice_cmp-spell_bytes [] (y ∷ ys) a b = λ i. ordering_then (int_cmp-zero-suc y i) (slice_cmp int_cmp a (spell_bytes ys b))
slice_cmp-spell_bytes (x ∷ xs) [] a b = λ i. ordering_then (int_cmp-suc-zero x i) (slice_cmp int_cmp (spell_bytes xs a) b)
slice_cmp-spell_bytes (x ∷ xs) (y ∷ ys) a b =
    (λ i. ordering_then (int_cmp-suc x y i) (slice_cmp-spell_bytes xs ys a b i))
    ∙ sym (ordering_then_assoc (nat_cmp x y) (slice_cmp nat_cmp xs ys) (slice_cmp int_cmp a b))

mutual
  pub slice_cmp-spell : (x y : Json) (a b : List ℤ)
      → slice_cmp int_cmp (spell x a) (spell y b) ≡ ordering_then (json_cmp x y) (slice_cmp int_cmp a b)
  slice_cmp-spell (number m) (number n) a b = refl
  slice_cmp-spell is_false is_false a b = refl
  slice_cmp-spell is_null is_null a b = refl
  slice_cmp-spell is_true is_true a b = refl
  slice_cmp-spell (object ms) (object ns) a b = slice_cmp-spell_members ms ns a b
  slice_cmp-spell (array ts) (array us) a b = slice_cmp-spell_items ts us a b
  slice_cmp-spell (string s) (string t) a b = slice_cmp-spell_bytes s t a b
  slice_cmp-spell x y a b = refl

  pub slice_cmp-spell_items : (xs ys : Items) (a b : List ℤ)
      → slice_cmp int_cmp (spell_items xs a) (spell_items ys b) ≡ ordering_then (items_cmp xs ys) (slice_cmp int_cmp a b)
  slice_cmp-spell_items no_items no_items a b = refl
  slice_cmp-spell_items no_items (item y ys) a b = refl
  slice_cmp-spell_items (item x xs) no_items a b = refl
  slice_cmp-spell_items (item x xs) (item y ys) a b =
      slice_cmp-spell x y (spell_items xs a) (spell_items ys b)
      ∙ ap (ordering_then (json_cmp x y)) (slice_cmp-spell_items xs ys a b)
      ∙ sym (ordering_then_assoc (json_cmp x y) (items_cmp xs ys) (slice_cmp int_cmp a b))

  pub slice_cmp-spell_members : (xs ys : Members) (a b : List ℤ)
      → slice_cmp int_cmp (spell_members xs a) (spell_members ys b) ≡ ordering_then (members_cmp xs ys) (slice_cmp int_cmp a b)
  slice_cmp-spell_members no_members no_members a b = refl
  slice_cmp-spell_members no_members (member n y ys) a b = refl
  slice_cmp-spell_members (member m x xs) no_members a b = refl
  slice_cmp-spell_members (member m x xs) (member n y ys) a b =
      slice_cmp-spell_bytes m n (spell x (spell_members xs a)) (spell y (spell_members ys b))
      ∙ ap (ordering_then (slice_cmp nat_cmp m n))
      (slice_cmp-spell x y (spell_members xs a) (spell_members ys b)
      ∙ ap (ordering_then (json_cmp x y)) (slice_cmp-spell_members xs ys a b)
      ∙ sym (ordering_then_assoc (json_cmp x y) (members_cmp xs ys) (slice_cmp int_cmp a b)))
      ∙ sym (ordering_then_assoc (slice_cmp nat_cmp m n) (ordering_then (json_cmp x y) (members_cmp xs ys)) (slice_cmp int_cmp a b))
