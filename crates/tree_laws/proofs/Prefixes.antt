-- The bytes of no value begin those of another of its kind.
use Rattle.std.proofs.Common.{◌≡◌, ◌<◌, ℕ, List, [], ◌∷◌, ◌++◌, All, length, take, drop, refl, sym, ap, ◌∙◌, append_assoc, arith}
use Rattle.std.specs.Int.{from_le_bytes, w64}
use Rattle.std.specs.List.{flat_map}
use Rattle.std.proofs.Math.Seq.{take-append_seam, drop-append_seam}
use Rattle.std.proofs.lemmas.List.Elements.{All-head, All-tail}
use Rattle.std.proofs.lemmas.Nat.{from_le_bytes-to_le_bytes_8}
use Rattle.tree_laws.specs.declared.node.Child.{Child}
use Rattle.tree_laws.specs.declared.node.Node.TheVariants.{Leaf, Inner}
use Rattle.tree_laws.specs.Nodes.{FitsChild, FitsItem, FitsNode, IsNumber, IsSized, child_entry, item_entry, number_bytes, sized, spelled_node}
use Rattle.tree_laws.specs.Spelled.{IsPrefixFree, IsSpelledOnce}

pub spelled_once : {T : Type 0} (fits : T → Type 0) (spelled : T → List ℕ) → IsPrefixFree fits spelled → IsSpelledOnce fits spelled
spelled_once fits spelled free x y fx fy same = (free x y [] [] fx fy (ap (λ bs. bs ++ []) same)).0

-- ---- numbers, and bytes behind their length

number_read : (n : ℕ) (more : List ℕ) → IsNumber n → from_le_bytes w64 (number_bytes n ++ more) ≡ n
unfolding number_bytes
number_read n more small = from_le_bytes-to_le_bytes_8 n small

number_behind : (n : ℕ) (more : List ℕ) → drop 8 (number_bytes n ++ more) ≡ more
unfolding number_bytes
number_behind n more = refl

pub number_long : (n : ℕ) → length (number_bytes n) ≡ 8
unfolding number_bytes
number_long n = refl

pub number_prefix_free : IsPrefixFree IsNumber number_bytes
number_prefix_free x y more rest fx fy same =
    (sym (number_read x more fx) ∙ ap (from_le_bytes w64) same ∙ number_read y rest fy, sym (number_behind x more) ∙ ap (drop 8) same ∙ number_behind y rest)

pub same_front : (a b more rest : List ℕ) → length a ≡ length b → a ++ more ≡ b ++ rest → (a ≡ b) × (more ≡ rest)
same_front a b more rest long same =
    (sym (take-append_seam a more) ∙ (λ i. take (long i) (same i)) ∙ take-append_seam b rest, sym (drop-append_seam a more) ∙ (λ i. drop (long i) (same i)) ∙ drop-append_seam b rest)

pub sized_prefix_free : IsPrefixFree IsSized sized
sized_prefix_free x y more rest fx fy same =
    let lengths = number_prefix_free (length x) (length y) (x ++ more) (y ++ rest) fx fy (sym (append_assoc (number_bytes (length x)) x more) ∙ same ∙ append_assoc (number_bytes (length y)) y rest) in
    same_front x y more rest lengths.0 lengths.1

-- ---- entries

module _ {T : Type 0} (fits : T → Type 0) (spelled : T → List ℕ) (once : IsSpelledOnce fits spelled) where
  pub item_prefix_free : IsPrefixFree (FitsItem fits spelled) (item_entry spelled)
  item_prefix_free x y more rest fx fy same =
      let bytes = sized_prefix_free (spelled x) (spelled y) more rest fx.short fy.short same in
      (once x y fx.fits fy.fits bytes.0, bytes.1)

  -- the parts of an entry, one behind another
  pub child_parts : (c : Child T) (more : List ℕ) → child_entry spelled c ++ more ≡ number_bytes c.at ++ (number_bytes c.count ++ (item_entry spelled c.last ++ (sized c.sum ++ more)))
  child_parts c more =
      append_assoc (number_bytes c.at) (number_bytes c.count ++ (item_entry spelled c.last ++ sized c.sum)) more
      ∙ ap (λ bs. number_bytes c.at ++ bs) (append_assoc (number_bytes c.count) (item_entry spelled c.last ++ sized c.sum) more
      ∙ ap (λ bs. number_bytes c.count ++ bs) (append_assoc (item_entry spelled c.last) (sized c.sum) more))

  pub child_prefix_free : IsPrefixFree (FitsChild fits spelled) (child_entry spelled)
  child_prefix_free x y more rest fx fy same =
      let parts = sym (child_parts x more) ∙ same ∙ child_parts y rest in
      let at = number_prefix_free x.at y.at _ _ fx.at fy.at parts in
      let count = number_prefix_free x.count y.count _ _ fx.count fy.count at.1 in
      let last = item_prefix_free x.last y.last _ _ fx.last fy.last count.1 in
      let sum = sized_prefix_free x.sum y.sum more rest fx.sum fy.sum last.1 in
      (λ i. record { at = at.0 i; count = count.0 i; last = last.0 i; sum = sum.0 i }, sum.1)

-- ---- entries one after another

module _ {X : Type 0} (fits : X → Type 0) (spelled : X → List ℕ) (free : IsPrefixFree fits spelled) where
  pub row_prefix_free : (xs ys : List X) (more rest : List ℕ) → length xs ≡ length ys → All fits xs → All fits ys → flat_map spelled xs ++ more ≡ flat_map spelled ys ++ rest → (xs ≡ ys) × (more ≡ rest)
  row_prefix_free [] [] more rest long fx fy same = (refl, same)
  row_prefix_free [] (y ∷ ys) more rest long fx fy same = absurd (omega arith)
  row_prefix_free (x ∷ xs) [] more rest long fx fy same = absurd (omega arith)
  row_prefix_free (x ∷ xs) (y ∷ ys) more rest long fx fy same =
      let first = free x y (flat_map spelled xs ++ more) (flat_map spelled ys ++ rest) (All-head fits x xs fx) (All-head fits y ys fy)
      (sym (append_assoc (spelled x) (flat_map spelled xs) more) ∙ same ∙ append_assoc (spelled y) (flat_map spelled ys) rest) in
      let others = row_prefix_free xs ys more rest (omega arith) (All-tail fits x xs fx) (All-tail fits y ys fy) first.1 in
      (λ i. first.0 i ∷ others.0 i, others.1)

  -- behind fewer values that begin the same bytes stands one more
  pub one_more : (xs ys : List X) (more rest : List ℕ) → length xs < length ys → All fits xs → All fits ys → flat_map spelled xs ++ more ≡ flat_map spelled ys ++ rest → (y : X) × (left : List ℕ) × fits y × (more ≡ spelled y ++ left)
  one_more xs [] more rest less fx fy same = absurd (omega arith)
  one_more [] (y ∷ ys) more rest less fx fy same = (y, flat_map spelled ys ++ rest, All-head fits y ys fy, same ∙ append_assoc (spelled y) (flat_map spelled ys) rest)
  one_more (x ∷ xs) (y ∷ ys) more rest less fx fy same =
      let first = free x y (flat_map spelled xs ++ more) (flat_map spelled ys ++ rest) (All-head fits x xs fx) (All-head fits y ys fy)
      (sym (append_assoc (spelled x) (flat_map spelled xs) more) ∙ same ∙ append_assoc (spelled y) (flat_map spelled ys) rest) in
      one_more xs ys more rest (omega arith) (All-tail fits x xs fx) (All-tail fits y ys fy) first.1

-- ---- nodes

module _ {T : Type 0} (fits : T → Type 0) (spelled : T → List ℕ) (once : IsSpelledOnce fits spelled) where
  pub node_prefix_free : IsPrefixFree (FitsNode fits spelled) (spelled_node spelled)
  node_prefix_free (Leaf xs) (Leaf ys) more rest fx fy same =
      let long : length xs ≡ length ys = cc in
      let row : flat_map (item_entry spelled) xs ++ more ≡ flat_map (item_entry spelled) ys ++ rest = cc in
      let both = row_prefix_free (FitsItem fits spelled) (item_entry spelled) (item_prefix_free fits spelled once) xs ys more rest long fx.1 fy.1 row in
      (ap Leaf both.0, both.1)
  node_prefix_free (Inner cs) (Inner ds) more rest fx fy same =
      let long : length cs ≡ length ds = cc in
      let row : flat_map (child_entry spelled) cs ++ more ≡ flat_map (child_entry spelled) ds ++ rest = cc in
      let both = row_prefix_free (FitsChild fits spelled) (child_entry spelled) (child_prefix_free fits spelled once) cs ds more rest long fx.1 fy.1 row in
      (ap Inner both.0, both.1)
  node_prefix_free (Leaf xs) (Inner ds) more rest fx fy same = absurd cc
  node_prefix_free (Inner cs) (Leaf ys) more rest fx fy same = absurd cc

  pub node_once : IsSpelledOnce (FitsNode fits spelled) (spelled_node spelled)
  node_once = spelled_once (FitsNode fits spelled) (spelled_node spelled) node_prefix_free
