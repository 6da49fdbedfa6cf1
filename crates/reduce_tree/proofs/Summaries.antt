-- The values that a summer answers are those of the items.
use Rattle.std.proofs.Common.{◌≡◌, ◌≢◌, ℕ, List, [], ◌∷◌, All, map, length, ◌<◌, ◌≤◌, ◌^◌, refl, sym, ap, ◌∙◌, subst, arith}
use Rattle.std.proofs.lemmas.List.Elements.{All-head, All-tail, All-weaker}
use Rattle.tree_laws.specs.declared.item.Item.{Ghosts as Items}
use Rattle.tree_laws.specs.declared.summer.Summer.{Ghosts as Summers}
use Rattle.tree_laws.specs.declared.node.Child.{Child}
use Rattle.tree_laws.specs.Meaning.{IsJoinValue, IsLeafValue, KeepsMeaning, Meaning, joined}
use Rattle.tree_laws.specs.Spelled.{IsSpelledOnce}
use Rattle.tree_laws.specs.SummerTrees.{AreChildren, IsSummary}
use Rattle.tree_laws.proofs.SummerTrees.{AreParts, parts_of}

module _ {S : Type 0} (fits : S → Type 0) (spelled : S → List ℕ) (once : IsSpelledOnce fits spelled) where
  sums_once : (xs ys : List S) → All fits xs → All fits ys → map spelled xs ≡ map spelled ys → xs ≡ ys
  sums_once [] [] h k e = refl
  sums_once [] (y ∷ ys) h k e = absurd (cc)
  sums_once (x ∷ xs) [] h k e = absurd (cc)
  sums_once (x ∷ xs) (y ∷ ys) h k e =
      let one : spelled x ≡ spelled y = cc in
      let rest : map spelled xs ≡ map spelled ys = cc in
      let first : x ≡ y = once x y (All-head fits x xs h) (All-head fits y ys k) one in
      let others : xs ≡ ys = sums_once xs ys (All-tail fits x xs h) (All-tail fits y ys k) rest in
      ap (λ t. t ∷ xs) first ∙ ap (λ t. y ∷ t) others

long_some : {X Y : Type 0} (xs : List X) (ys : List Y) → length xs ≡ length ys → 0 < length ys → xs ≢ []
long_some [] ys e h n = omega (arith, e, h)
long_some (x ∷ xs) ys e h n = cc

module _ {T M Sum Fault : Type 0} (i : Items T) (m : Summers M T Sum Fault) (first : M) (laws : KeepsMeaning m.goes m.meaning m.lawful m.usable m.fits) where
  -- old is the summer before its call, new after it
  pub leaf_summary : (old new : M) (items : List T) (sum : Sum) (bytes : List ℕ) → m.goes first old → m.goes first new → 0 < length items → length items ≤ 2 ^ 63
      → IsLeafValue (m.lawful old) (m.meaning old) items sum → bytes ≡ (m.meaning new).spelled sum → m.fits new sum → IsSummary i m first items bytes
  leaf_summary old new items sum bytes g k some few value is fits = record {
    sum = sum;
    fits = (laws.fits first new sum k).1 fits;
    bytes_are = is ∙ ap (λ (x : Meaning T Sum). x.spelled sum) (laws.meaning first new k);
    value = λ lawful. value (laws.lawful first old g lawful) (λ e. omega (arith, some, ap length e)) few ∙ ap (λ (x : Meaning T Sum). x.value items) (laws.meaning first old g);
  }

  pub inner_summary : IsSpelledOnce (m.fits first) (m.meaning first).spelled → (P : ℕ → List T → Type 0) (old new : M) (cs : List (Child T)) (items : List T) (sums : List Sum) (sum : Sum) (bytes : List ℕ)
      → m.goes first old → m.goes first new → 0 < length cs → length items ≤ 2 ^ 63 → All i.fits items → AreChildren i m first P cs items
      → map (λ c. c.sum) cs ≡ map (m.meaning old).spelled sums → All (m.fits old) sums
      → IsJoinValue i.fits (m.lawful old) (m.meaning old) sums sum → bytes ≡ (m.meaning new).spelled sum → m.fits new sum → IsSummary i m first items bytes
  inner_summary once P old new cs items sums sum bytes g k some few fit h spelled fits value is own =
      let p : AreParts i m first P cs items = parts_of i m first P cs items h in
      let same : m.meaning old ≡ m.meaning first = laws.meaning first old g in
      let spelled' : map (m.meaning first).spelled sums ≡ map (m.meaning first).spelled p.sums =
      ap (λ (x : Meaning T Sum). map x.spelled sums) (sym same) ∙ sym spelled ∙ p.spelled in
      let fits' : All (m.fits first) sums = All-weaker (m.fits old) (m.fits first) (λ s f. (laws.fits first old s g).1 f) sums fits in
      let equal : sums ≡ p.sums = sums_once (m.fits first) (m.meaning first).spelled once sums p.sums fits' p.fit spelled' in
      record {
        sum = sum;
        fits = (laws.fits first new sum k).1 own;
        bytes_are = is ∙ ap (λ (x : Meaning T Sum). x.spelled sum) (laws.meaning first new k);
        value = λ lawful.
            let parts : sums ≡ map (m.meaning old).value p.parts = equal ∙ p.values lawful ∙ ap (λ (x : Meaning T Sum). map x.value p.parts) (sym same) in
            value (laws.lawful first old g lawful) p.parts (long_some p.parts cs p.long some) p.some (subst (All i.fits) p.whole fit) (subst (λ xs. length xs ≤ 2 ^ 63) p.whole few) parts
            ∙ ap (λ (x : Meaning T Sum). x.value (joined p.parts)) same ∙ ap (m.meaning first).value (sym p.whole);
      }
