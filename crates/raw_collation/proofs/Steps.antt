-- What is left at the end of a loop over two lists: at least one of them has ended, and their lengths decide.
use Rattle.std.specs.Prelude.{◌≡◌, ℕ, zero, suc, List, [], ◌∷◌, map, min, length, refl}
use Rattle.std.proofs.Common.{drop, sym, ◌∙◌, arith}
use Rattle.std.specs.declared.cmp.Ordering.TheVariants.{Less, Greater}
use Rattle.std.specs.Ordering.{nat_cmp}
use Rattle.std.proofs.lemmas.Bool.Decides.{nat_tests}
use Rattle.json_terms.specs.Json.{items_of, members_of}
use Rattle.json_terms.specs.Seen.{json, pair_of}
use Rattle.json_terms.specs.declared.term.Term.{Term}
use Rattle.json_terms.specs.declared.term.Member.{Member}
use Rattle.raw_collation.specs.Collation.{items_cmp, members_cmp}

nat_cmp-suc : (m n : ℕ) → nat_cmp (suc m) (suc n) ≡ nat_cmp m n
nat_cmp-suc m n = grind (arith, nat_tests)

nat_cmp-zero-suc : (n : ℕ) → Less ≡ nat_cmp 0 (suc n)
nat_cmp-zero-suc n = grind (arith, nat_tests)

nat_cmp-suc-zero : (m : ℕ) → Greater ≡ nat_cmp (suc m) 0
nat_cmp-suc-zero m = grind (arith, nat_tests)

pub items_end : (xs ys : List Term) (i : ℕ) → i ≡ min (length xs) (length ys)
    → items_cmp (items_of (map json (drop i xs))) (items_of (map json (drop i ys))) ≡ nat_cmp (length xs) (length ys)
items_end [] [] zero h = refl
items_end [] (y ∷ ys) zero h = nat_cmp-zero-suc (length ys)
items_end (x ∷ xs) [] zero h = nat_cmp-suc-zero (length xs)
items_end (x ∷ xs) (y ∷ ys) zero h = absurd (omega arith)
items_end [] ys (suc i) h = absurd (omega arith)
items_end (x ∷ xs) [] (suc i) h = absurd (omega arith)
items_end (x ∷ xs) (y ∷ ys) (suc i) h = items_end xs ys i (omega arith) ∙ sym (nat_cmp-suc (length xs) (length ys))

pub members_end : (xs ys : List Member) (i : ℕ) → i ≡ min (length xs) (length ys)
    → members_cmp (members_of (map pair_of (drop i xs))) (members_of (map pair_of (drop i ys))) ≡ nat_cmp (length xs) (length ys)
members_end [] [] zero h = refl
members_end [] (y ∷ ys) zero h = nat_cmp-zero-suc (length ys)
members_end (x ∷ xs) [] zero h = nat_cmp-suc-zero (length xs)
members_end (x ∷ xs) (y ∷ ys) zero h = absurd (omega arith)
members_end [] ys (suc i) h = absurd (omega arith)
members_end (x ∷ xs) [] (suc i) h = absurd (omega arith)
members_end (x ∷ xs) (y ∷ ys) (suc i) h = members_end xs ys i (omega arith) ∙ sym (nat_cmp-suc (length xs) (length ys))
