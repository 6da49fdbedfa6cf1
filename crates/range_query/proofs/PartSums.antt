-- The values of parts of a group, one after another.
use Rattle.std.specs.Prelude.{◌≡◌, ◌≢◌, ◌≤◌, ◌<◌, ◌+◌, ℕ, Option, Some, IfSome, List, [], ◌∷◌, ◌++◌, ◌==◌, Bool, true, All, refl, map, length, drop, take}
use Rattle.std.proofs.Common.{ap, get_or, sym, subst, ◌∙◌, arith}
use Rattle.std.proofs.lemmas.Bool.{eqb-true}
use Rattle.std.proofs.lemmas.List.{append-nil, map-append, take-append-drop, take_more}
use Rattle.std.proofs.lemmas.List.Concat.{flat_map-append}
use Rattle.std.proofs.lemmas.List.Elements.{All-append, All-cons, All-nil, All-push}
use Rattle.json_terms.specs.declared.term.Row.{Row}
use Rattle.builtin_reduces.specs.Kept.{IsKept}
use Rattle.tree_laws.specs.Meaning.{IsJoinValue, KeepsMeaning, Meaning, item_limit, joined}
use Rattle.range_query.specs.Summed.{ArePartSums, IsGroupSum}

-- a list with some rows isn't empty
pub some_rows : {A : Type 0} (rows : List A) → 0 < length rows → rows ≢ []
some_rows [] some e = absurd (omega arith)
some_rows (row ∷ rows) some e = cc

pub no_rows : {A : Type 0} (rows : List A) (empty : Bool) → empty ≡ (length rows == 0) → empty ≡ true → rows ≡ []
no_rows [] empty is e = refl
no_rows (row ∷ rows) empty is e = absurd (omega (arith, eqb-true (length (row ∷ rows)) 0 (sym is ∙ e)))

-- both parts of a list
pub both_parts : {A : Type 0} (rows front back : List A) (n : ℕ) → front ≡ take n rows → back ≡ drop n rows → front ++ back ≡ rows
both_parts rows front back n first second = ap (λ xs. xs ++ back) first ∙ ap (λ xs. take n rows ++ xs) second ∙ take-append-drop n rows

-- what is said of an option holds of what is in it
pub in_some : {X : Type 0} (P : X → Type 0) (found : Option X) (x : X) → found ≡ Some x → IfSome found P → P x
in_some {X = X} P found x is h = subst (λ (o : Option X). IfSome o P) is h

-- one row more
pub row_more : (rows done : List Row) (i : ℕ) (item row : Row) → i < length rows → done ≡ take i rows → row ≡ get_or rows i row → item ≡ row → done ++ item ∷ [] ≡ take (i + 1) rows
row_more rows done i item row within is at same =
    ap (λ xs. xs ++ item ∷ []) is ∙ ap (λ x. take i rows ++ x ∷ []) (same ∙ at) ∙ sym (take_more rows i row within)

-- nothing is left: what is kept of the rows that are done is kept of all
pub all_kept : (done left group : List Row) → left ≡ [] → done ++ left ≡ group → All IsKept done → All IsKept group
all_kept done left group none both kept = subst (All IsKept) (sym (append-nil done) ∙ ap (λ rows. done ++ rows) (sym none) ∙ both) kept

module _ {S : Type 0} (Lawful : Type 0) (m : Meaning Row S) where
  -- no part
  pub no_sums : (sums : List S) → sums ≡ [] → ArePartSums Lawful m [] sums
  no_sums sums none = record { parts = []; joins = refl; whole = All-nil (λ part. part ≢ []); each = λ lawful. none }

  -- one part more
  pub more_sums : (done part : List Row) (sums now : List S) (sum : S) → ArePartSums Lawful m done sums → 0 < length part → IsGroupSum Lawful m part sum → now ≡ sums ++ sum ∷ []
      → ArePartSums Lawful m (done ++ part) now
  more_sums done part sums now sum old some is pushed = record {
    parts = old.parts ++ part ∷ [];
    joins = flat_map-append (λ own. own) old.parts (part ∷ []) ∙ ap (λ rows. rows ++ joined (part ∷ [])) old.joins ∙ ap (λ rows. done ++ rows) (append-nil part);
    whole = All-append (λ own. own ≢ []) old.parts (part ∷ []) old.whole (All-cons (λ own. own ≢ []) part [] (some_rows part some) (All-nil (λ own. own ≢ [])));
    each = λ lawful. pushed ∙ ap (λ own. own ++ sum ∷ []) (old.each lawful) ∙ ap (λ own. map m.value old.parts ++ own ∷ []) (is lawful)
        ∙ sym (map-append m.value old.parts (part ∷ []));
  }

  -- nothing is left
  pub all_sums : (done left group : List Row) (sums : List S) → left ≡ [] → done ++ left ≡ group → ArePartSums Lawful m done sums → ArePartSums Lawful m group sums
  all_sums done left group sums none both old =
      subst (λ (rows : List Row). ArePartSums Lawful m rows sums) (sym (append-nil done) ∙ ap (λ rows. done ++ rows) (sym none) ∙ both) old

  no_part : (group : List Row) (parts : List (List Row)) → joined parts ≡ group → 0 < length group → parts ≢ []
  no_part group parts joins some none = some_rows group some (sym joins ∙ ap joined none)

  -- the parts joined
  pub joined_sum : (group : List Row) (sums : List S) (sum : S) → ArePartSums Lawful m group sums → 0 < length group → All IsKept group → length group ≤ item_limit
      → IsJoinValue IsKept Lawful m sums sum → IsGroupSum Lawful m group sum
  joined_sum group sums sum old some kept few is lawful =
      is lawful old.parts (no_part group old.parts old.joins some) old.whole (subst (All IsKept) (sym old.joins) kept)
      (subst (λ (rows : List Row). length rows ≤ item_limit) (sym old.joins) few) (old.each lawful)
      ∙ ap m.value old.joins

-- ---- what steps keep

module _ {A S : Type 0} {Goes : A → A → Type 0} {means : A → Meaning Row S} {Lawful Usable : A → Type 0} {Fits : A → S → Type 0} (k : KeepsMeaning Goes means Lawful Usable Fits) (a b : A) (goes : Goes a b) where
  -- a value that is had later is one at first
  pub sum_before : (group : List Row) (sum : S) → IsGroupSum (Lawful b) (means b) group sum → IsGroupSum (Lawful a) (means a) group sum
  sum_before group sum is lawful = is (k.lawful a b goes lawful) ∙ ap (λ m. m.value group) (k.meaning a b goes)

  pub join_before : (sums : List S) (sum : S) → IsJoinValue IsKept (Lawful b) (means b) sums sum → IsJoinValue IsKept (Lawful a) (means a) sums sum
  join_before sums sum is lawful parts some whole kept few each =
      let same = k.meaning a b goes in
      is (k.lawful a b goes lawful) parts some whole kept few (each ∙ sym (ap (λ m. map m.value parts) same)) ∙ ap (λ m. m.value (joined parts)) same

  -- one value more that fits
  pub more_fit : (sums now : List S) (sum : S) → All (Fits a) sums → Fits b sum → now ≡ sums ++ sum ∷ [] → All (Fits a) now
  more_fit sums now sum all fits pushed = subst (All (Fits a)) (sym pushed) (All-push (Fits a) sums sum all ((k.fits a b sum goes).1 fits))
