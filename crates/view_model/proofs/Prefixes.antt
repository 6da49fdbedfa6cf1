-- What a test that is true at the front of a list leaves of it.
use Rattle.std.specs.Prelude.{◌≡◌, ℕ, zero, suc, ◌+◌, ◌-◌, ◌≤◌, min, List, [], ◌∷◌, Bool, true, false, not, ◌&&◌, cond, refl, filter, drop, take, length, IsSorted}
use Rattle.std.proofs.Common.{ap, sym, ◌∙◌, arith, get_or}
use Rattle.std.specs.Ordering.{is_lt}
use Rattle.std.specs.List.Sorted.{IsPartitionedBy, IsPartitionPoint}
use Rattle.std.proofs.lemmas.List.{drop_all, drop_min, drop-take, length-drop, length-take-le, take_all}
use Rattle.std.proofs.lemmas.List.Sorted.{ranks_by, sorted_far}
use Rattle.json_terms.specs.declared.term.Row.{Row}
use Rattle.raw_collation.specs.Collation.{rows_cmp}
use Rattle.raw_collation.proofs.Totals.{rows_cmp_total}
use Rattle.view_model.specs.Ends.{IsPrefix}
use Rattle.view_model.proofs.Falling.{Falls}

-- what a binary search asks of sorted rows
pub parted : (test : Row → Bool) (rows : List Row) → Falls rows_cmp test → IsSorted rows_cmp rows → IsPartitionedBy test rows
parted test rows falls sorted i j d up below pass =
    falls (get_or rows i d) (get_or rows j d) (sorted_far (λ x y. is_lt (rows_cmp x y)) (ranks_by rows_cmp_total (λ r. r)) rows sorted i j d up below) pass

-- and what it finds
pub prefix : {X : Type 0} (test : X → Bool) (xs : List X) (count : ℕ) → count ≤ length xs → IsPartitionPoint (λ x. test x ≡ true) (λ x. test x ≡ false) xs count → IsPrefix test xs count
prefix test xs count within point = record { within = within; passing = λ k d h. point.0 k d (omega arith) h; failing = λ k d h l. point.1 k d h l }

rest : {X : Type 0} (test : X → Bool) (x : X) (xs : List X) (count : ℕ) → IsPrefix test (x ∷ xs) (suc count) → IsPrefix test xs count
rest test x xs count h = record {
  within = let e = h.within in omega arith;
  passing = λ k d l. h.passing (suc k) d (omega arith);
  failing = λ k d l m. h.failing (suc k) d (omega arith) (omega arith);
}

none : {X : Type 0} (test : X → Bool) (x : X) (xs : List X) → IsPrefix test (x ∷ xs) 0 → IsPrefix test xs 0
none test x xs h = record { within = omega arith; passing = λ k d l. absurd (omega arith); failing = λ k d l m. h.failing (suc k) d (omega arith) (omega arith) }

-- those that fail the first test and pass the second stand between the two places
module _ {X : Type 0} (test low high : X → Bool) (same : (x : X) → test x ≡ (not (low x) && high x)) where
  kept : (x : X) (xs : List X) (b : Bool) → test x ≡ b → filter test (x ∷ xs) ≡ cond b (x ∷ filter test xs) (filter test xs)
  kept x xs b e = ap (λ c. cond c (x ∷ filter test xs) (filter test xs)) e

  failed : (x : X) → low x ≡ true → test x ≡ false
  failed x e = same x ∙ ap (λ b. not b && high x) e

  unpassed : (x : X) (b : Bool) → low x ≡ b → high x ≡ false → test x ≡ false
  unpassed x true e f = failed x e
  unpassed x false e f = same x ∙ ap (λ b. not b && high x) e ∙ f

  passed : (x : X) → low x ≡ false → high x ≡ true → test x ≡ true
  passed x e f = same x ∙ ap (λ b. not b && high x) e ∙ f

  pub between : (xs : List X) (from to : ℕ) → IsPrefix low xs from → IsPrefix high xs to → filter test xs ≡ drop from (take to xs)
  between [] zero zero below above = refl
  between [] (suc from) to below above = let e = below.within in absurd (omega arith)
  between [] zero (suc to) below above = let e = above.within in absurd (omega arith)
  between (x ∷ xs) zero zero below above =
      kept x xs false (unpassed x (low x) refl (above.failing 0 x (omega arith) (omega arith))) ∙ between xs 0 0 (none low x xs below) (none high x xs above)
  between (x ∷ xs) zero (suc to) below above =
      kept x xs true (passed x (below.failing 0 x (omega arith) (omega arith)) (above.passing 0 x (omega arith)))
      ∙ ap (λ ys. x ∷ ys) (between xs 0 to (none low x xs below) (rest high x xs to above))
  between (x ∷ xs) (suc from) zero below above =
      kept x xs false (failed x (below.passing 0 x (omega arith))) ∙ between xs from 0 (rest low x xs from below) (none high x xs above) ∙ drop_all from [] (omega arith)
  between (x ∷ xs) (suc from) (suc to) below above =
      kept x xs false (failed x (below.passing 0 x (omega arith))) ∙ between xs from to (rest low x xs from below) (rest high x xs to above)

-- as a part of a slice is written
pub part : {X : Type 0} (xs : List X) (from to : ℕ) → to ≤ length xs → take (to - min from to) (drop (min from to) xs) ≡ drop from (take to xs)
part xs from to within =
    let low = min from to in
    let all : low + (to - low) ≡ to = omega arith in
    let long : length (take to xs) ≡ to = length-take-le to xs within in
    sym (drop-take low (to - low) xs) ∙ ap (λ n. drop low (take n xs)) all ∙ ap (λ n. drop (min from n) (take to xs)) (sym long) ∙ drop_min from (take to xs)

-- all of a list
pub passing : {X : Type 0} (test : X → Bool) (xs : List X) (count : ℕ) → IsPrefix test xs count → filter test xs ≡ take count xs
passing test xs count h =
    between test (λ x. false) test (λ x. refl) xs 0 count (record { within = omega arith; passing = λ k d l. absurd (omega arith); failing = λ k d l m. refl }) h

pub count_passing : {X : Type 0} (test : X → Bool) (xs : List X) (count : ℕ) → IsPrefix test xs count → length (filter test xs) ≡ count
count_passing test xs count h = ap length (passing test xs count h) ∙ length-take-le count xs h.within

and_true : (b : Bool) → b ≡ (b && true)
and_true true = refl
and_true false = refl

pub failing : {X : Type 0} (test : X → Bool) (xs : List X) (count : ℕ) → IsPrefix test xs count → filter (λ x. not (test x)) xs ≡ drop count xs
failing test xs count h =
    between (λ x. not (test x)) test (λ x. true) (λ x. and_true (not (test x))) xs count (length xs) h
    (record { within = omega arith; passing = λ k d l. refl; failing = λ k d l m. absurd (omega arith) })
    ∙ ap (drop count) (take_all (length xs) xs (omega arith))

pub count_failing : {X : Type 0} (test : X → Bool) (xs : List X) (count : ℕ) → IsPrefix test xs count → length (filter (λ x. not (test x)) xs) ≡ length xs - count
count_failing test xs count h = ap length (failing test xs count h) ∙ length-drop count xs

-- the rows before a range and those in it are rows of the list
fit : {X : Type 0} (b c : Bool) (x : X) (before within xs : List X) → length before + length within ≤ length xs
    → length (cond (not b) (x ∷ before) before) + length (cond (b && c) (x ∷ within) within) ≤ length (x ∷ xs)
fit true true x before within xs h = omega arith
fit true false x before within xs h = omega arith
fit false true x before within xs h = omega arith
fit false false x before within xs h = omega arith

pub both_fit : {X : Type 0} (start end : X → Bool) (xs : List X) → length (filter (λ x. not (start x)) xs) + length (filter (λ x. start x && end x) xs) ≤ length xs
both_fit start end [] = omega arith
both_fit start end (x ∷ xs) =
    fit (start x) (end x) x (filter (λ y. not (start y)) xs) (filter (λ y. start y && end y) xs) xs (both_fit start end xs)
