-- The parts of a root record, one behind another, how many bytes they are, and that no two records have the same bytes.
use Rattle.std.proofs.Common.{◌≡◌, ◌+◌, ◌*◌, ◌<◌, ◌^◌, ℕ, List, [], ◌∷◌, ◌++◌, Some, length, drop, refl, sym, ap, ◌∙◌, append_assoc, length-append, arith}
use Rattle.std.specs.List.{flat_map}
use Rattle.std.proofs.lemmas.List.{append-nil}
use Rattle.term_codec.specs.Spelling.{count_bytes, whole_bytes, short_bytes}
use Rattle.term_codec.specs.Reading.{short_in, whole_in}
use Rattle.term_codec.proofs.Words.{length-count_bytes, some-pair}
use Rattle.term_codec.proofs.Wholes.{length-short_bytes, length-whole_bytes, short_in-spelled, whole_in-spelled}
use Rattle.tree_laws.specs.declared.tree.Tree.{Tree}
use Rattle.tree_laws.specs.Nodes.{IsSized, number_bytes, sized}
use Rattle.tree_laws.specs.Reading.{AreCounted}
use Rattle.tree_laws.specs.Spelled.{IsPrefixFree}
use Rattle.tree_laws.proofs.Prefixes.{number_long, row_prefix_free}
use Rattle.index_items.specs.BackLaws.{count_prefix_free}
use Rattle.index_items.specs.RootRecord.{IsBodyOf, IsContent, IsRootOf, IsTreeAt, IsTypedTree, body_bytes, root_bytes, tree_bytes}

-- ---- a tree

pub whole_prefix_free : IsPrefixFree (λ n. n < 2 ^ 64) whole_bytes
whole_prefix_free x y more rest fx fy same = some-pair (x, more) (y, rest) (sym (whole_in-spelled x more fx) ∙ ap whole_in same ∙ whole_in-spelled y rest fy)

-- what stands behind the place of the root
abbrev pub behind_place : Tree → List ℕ → List ℕ
behind_place tree more = count_bytes tree.height ++ (whole_bytes tree.count ++ more)

pub tree_parts : (tree : Tree) (more : List ℕ) → tree_bytes tree ++ more ≡ whole_bytes tree.root ++ behind_place tree more
tree_parts tree more =
    append_assoc (whole_bytes tree.root) (count_bytes tree.height ++ whole_bytes tree.count) more
    ∙ ap (λ bs. whole_bytes tree.root ++ bs) (append_assoc (count_bytes tree.height) (whole_bytes tree.count) more)

pub tree_prefix_free : IsPrefixFree IsTypedTree tree_bytes
tree_prefix_free x y more rest fx fy same =
    let root = whole_prefix_free x.root y.root _ _ fx.root fy.root (sym (tree_parts x more) ∙ same ∙ tree_parts y rest) in
    let height = count_prefix_free x.height y.height _ _ fx.height fy.height root.1 in
    let count = whole_prefix_free x.count y.count more rest fx.count fy.count height.1 in
    (λ i. record { root = root.0 i; height = height.0 i; count = count.0 i }, count.1)

pub fit_prefix_free : (offset : ℕ) → IsPrefixFree (IsTreeAt offset) tree_bytes
fit_prefix_free offset x y more rest fx fy same = tree_prefix_free x y more rest fx.typed fy.typed same

-- ---- what stands behind the length

abbrev pub behind_number : List Tree → Tree → List ℕ
behind_number views back = flat_map tree_bytes views ++ tree_bytes back

abbrev pub behind_seq : List Tree → Tree → List ℕ
behind_seq views back = short_bytes (length views) ++ behind_number views back

module _ (count offset : ℕ) (bytes : List ℕ) (seq : ℕ) (views : List Tree) (back : Tree) (of : IsBodyOf count offset bytes seq views back) where
  few : length views < 2 ^ 16
  few = omega (arith, of.content.few, of.content.number)

  pub seq_read : whole_in bytes ≡ Some (seq, behind_seq views back)
  seq_read = ap whole_in of.is ∙ whole_in-spelled seq (behind_seq views back) of.content.small

  pub after_seq : (first : ℕ) (rest : List ℕ) → Some (first, rest) ≡ whole_in bytes → (first ≡ seq) × (rest ≡ behind_seq views back)
  after_seq first rest read = some-pair (first, rest) (seq, behind_seq views back) (read ∙ seq_read)

  pub number_read : (rest : List ℕ) → rest ≡ behind_seq views back → short_in rest ≡ Some (length views, behind_number views back)
  number_read rest is = ap short_in is ∙ short_in-spelled (length views) (behind_number views back) few

  pub after_number : (before : List ℕ) (number : ℕ) (rest : List ℕ) → before ≡ behind_seq views back → Some (number, rest) ≡ short_in before → (number ≡ length views) × (rest ≡ behind_number views back)
  after_number before number rest is read = some-pair (number, rest) (length views, behind_number views back) (read ∙ number_read before is)

  -- behind so many trees that fit stands the back-index's
  pub after_views : (before rest : List ℕ) (number : ℕ) (trees : List Tree) → before ≡ behind_number views back → number ≡ length views → AreCounted number (IsTreeAt offset) trees → before ≡ flat_map tree_bytes trees ++ rest
      → (trees ≡ views) × (rest ≡ tree_bytes back)
  after_views before rest number trees is long fit taken =
      row_prefix_free (IsTreeAt offset) tree_bytes (fit_prefix_free offset) trees views rest (tree_bytes back) (fit.0 ∙ long) fit.1 of.content.each (sym taken ∙ is)

  -- and behind that nothing
  pub after_back : (before rest : List ℕ) (tree : Tree) → before ≡ tree_bytes back → IsTreeAt offset tree → before ≡ tree_bytes tree ++ rest → (tree ≡ back) × (rest ≡ [])
  after_back before rest tree is fit taken =
      fit_prefix_free offset tree back rest [] fit of.content.back_fits (sym taken ∙ is ∙ sym (append-nil (tree_bytes back)))

one_body : (count offset : ℕ) (bytes : List ℕ) (s seq : ℕ) (vs views : List Tree) (b back : Tree) → IsBodyOf count offset bytes s vs b → IsBodyOf count offset bytes seq views back → (s ≡ seq) × (vs ≡ views) × (b ≡ back)
one_body count offset bytes s seq vs views b back of is =
    let first = after_seq count offset bytes seq views back is s (behind_seq vs b) (sym (seq_read count offset bytes s vs b of)) in
    let number = after_number count offset bytes seq views back is (behind_seq vs b) (length vs) (behind_number vs b) first.1 (sym (number_read count offset bytes s vs b of (behind_seq vs b) refl)) in
    let trees = after_views count offset bytes seq views back is (behind_number vs b) (tree_bytes b) (length vs) vs number.1 number.0 (refl, of.content.each) refl in
    let last = after_back count offset bytes seq views back is (tree_bytes b) [] b trees.1 of.content.back_fits (sym (append-nil (tree_bytes b))) in
    (first.0, trees.0, last.0)

-- ---- how many bytes there are

tree_long : (tree : Tree) → length (tree_bytes tree) ≡ 20
tree_long tree =
    omega (arith, length-append (whole_bytes tree.root) (count_bytes tree.height ++ whole_bytes tree.count), length-append (count_bytes tree.height) (whole_bytes tree.count), length-whole_bytes tree.root, length-count_bytes tree.height, length-whole_bytes tree.count)

trees_long : (trees : List Tree) → length (flat_map tree_bytes trees) ≡ 20 * length trees
trees_long [] = omega arith
trees_long (tree ∷ trees) = omega (arith, length-append (tree_bytes tree) (flat_map tree_bytes trees), tree_long tree, trees_long trees)

body_long : (seq : ℕ) (views : List Tree) (back : Tree) → length (body_bytes seq views back) ≡ 30 + 20 * length views
body_long seq views back =
    omega (arith, length-append (whole_bytes seq) (behind_seq views back), length-append (short_bytes (length views)) (behind_number views back), length-append (flat_map tree_bytes views) (tree_bytes back), length-whole_bytes seq, length-short_bytes (length views), trees_long views, tree_long back)

pub root_long : (seq : ℕ) (views : List Tree) (back : Tree) → length (root_bytes seq views back) ≡ 38 + 20 * length views
root_long seq views back =
    let body = body_bytes seq views back in
    omega (arith, length-append (number_bytes (length body)) body, number_long (length body), body_long seq views back)

-- ---- the length in front

pub whole_is_number : (n : ℕ) → whole_bytes n ≡ number_bytes n
unfolding whole_bytes number_bytes
whole_is_number n = refl

-- behind the 8 bytes of the length stands the rest
behind_long : (bytes : List ℕ) → drop 8 (sized bytes) ≡ bytes
unfolding number_bytes
behind_long bytes = refl

pub one_sized : (a b : List ℕ) → sized a ≡ sized b → a ≡ b
one_sized a b same = sym (behind_long a) ∙ ap (drop 8) same ∙ behind_long b

pub sized_read : (bytes rest : List ℕ) → IsSized rest → bytes ≡ sized rest → whole_in bytes ≡ Some (length rest, rest)
sized_read bytes rest short is =
    ap whole_in (is ∙ ap (λ front. front ++ rest) (sym (whole_is_number (length rest)))) ∙ whole_in-spelled (length rest) rest short

-- what stands behind the length isn't too long for it
pub body_short : (count offset seq : ℕ) (views : List Tree) (back : Tree) → IsContent count offset seq views back → IsSized (body_bytes seq views back)
body_short count offset seq views back content = omega (arith, body_long seq views back, content.few, content.number)

pub body_of_root : (count offset : ℕ) (bytes body : List ℕ) (seq : ℕ) (views : List Tree) (back : Tree) → bytes ≡ sized body → IsRootOf count offset bytes seq views back → IsBodyOf count offset body seq views back
body_of_root count offset bytes body seq views back is of = record { content = of.content; is = one_sized body (body_bytes seq views back) (sym is ∙ of.is) }

pub one_root : (count offset : ℕ) (bytes body : List ℕ) (s seq : ℕ) (vs views : List Tree) (b back : Tree) → bytes ≡ sized body → IsBodyOf count offset body seq views back → IsRootOf count offset bytes s vs b → (s ≡ seq) × (vs ≡ views) × (b ≡ back)
one_root count offset bytes body s seq vs views b back is of other =
    one_body count offset body s seq vs views b back (body_of_root count offset bytes body s vs b is other) of
