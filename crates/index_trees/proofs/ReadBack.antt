-- What is read of a tree in a store are exactly its rows.
use Rattle.std.proofs.Common.{◌≡◌, ◌+◌, ℕ, zero, suc, List, [], ◌∷◌, ◌++◌, All, length, map, drop, get_or, Option, Some, option_map, option_and_then, unwrap_or, refl, sym, ap, ◌∙◌, append_assoc, drop-cons, arith}
use Rattle.std.specs.List.{flat_map}
use Rattle.std.proofs.lemmas.List.{append-nil, drop_all, map-id}
use Rattle.std.proofs.lemmas.List.Elements.{All-head, All-tail, All-weaker}
use Rattle.std.proofs.Math.Seq.{take-append_seam, drop-append_seam}
use Rattle.json_terms.specs.Seen.{json, term}
use Rattle.json_terms.specs.declared.term.Row.{Row}
use Rattle.json_terms.specs.declared.term.Term.{Term}
use Rattle.json_terms.proofs.Sames.{term-json}
use Rattle.view_ports.specs.Functions.{Functions, IsWithinBounds}
use Rattle.design_docs.specs.declared.design.View.{View}
use Rattle.term_codec.specs.Spelling.{spelling, whole_bytes}
use Rattle.term_codec.specs.Reading.{reading, whole_in}
use Rattle.term_codec.proofs.Spelled.{reading-spelled}
use Rattle.term_codec.proofs.Wholes.{whole_in-spelled}
use Rattle.tree_laws.specs.declared.node.Child.{Child}
use Rattle.tree_laws.specs.declared.node.Node.{Node}
use Rattle.tree_laws.specs.declared.node.Node.TheVariants.{Leaf, Inner}
use Rattle.tree_laws.specs.declared.tree.Tree.{Tree}
use Rattle.tree_laws.specs.Meaning.{Values}
use Rattle.tree_laws.specs.Nodes.{FitsChild, FitsItem, FitsNode, IsNumber, IsSized, child_entry, item_entry, number_bytes, sized, spelled_node}
use Rattle.tree_laws.specs.Stores.{Places}
use Rattle.tree_laws.specs.Trees.{AreChildren, Has, HasRoot, IsTree, Stands}
use Rattle.tree_laws.proofs.Prefixes.{child_parts}
use Rattle.builtin_reduces.specs.ItemLaws.{behind_id, behind_key, id_read, items_spelled_once, place_read}
use Rattle.builtin_reduces.specs.Kept.{IsKept, item_bytes}
use Rattle.builtin_reduces.specs.Sizes.{part_within}
use Rattle.child_pool.specs.ReduceTalk.{reduce_in}
use Rattle.index_trees.specs.Reading.{after, entries_at, entries_in, item_in, many_in, place_in, row_in, rows_below, rows_in, rows_of_height, sized_in}
use Rattle.index_trees.specs.Trees.{row_items, EachAt, HasRows, HoldTrees}
use Rattle.index_trees.specs.ViewValues.{view_values}

after_read : {A B : Type 0} (found : Option (A × List ℕ)) (next : A → List ℕ → Option B) (a : A) (behind : List ℕ) (b : Option B)
    → found ≡ Some (a, behind) → next a behind ≡ b → after found next ≡ b
unfolding after
after_read found next a behind b is then = ap (λ o. after o next) is ∙ then

-- ---- a row

term_read : (t : Term) (behind : List ℕ) → IsWithinBounds (json t) → reading 100 (spelling (json t) ++ behind) ≡ Some (json t, behind)
term_read t behind bounds = let within = part_within (json t) bounds in reading-spelled 100 (json t) behind within.depth bounds.valid within.counts

pub item_read : (row : Row) → IsKept row → item_in (item_bytes row) ≡ Some row
unfolding item_in
item_read row kept =
    let key = term_read row.key (behind_key row) kept.key in
    let id = id_read row (behind_key row) kept refl in
    let place = place_read row (behind_id row) kept refl in
    let alone = sym (append-nil (spelling (json row.value))) in
    let value : reading 100 (spelling (json row.value)) ≡ Some (json row.value, []) = ap (reading 100) alone ∙ term_read row.value [] kept.value in
    let same : record { key = term (json row.key); id = row.id; place = row.place; value = term (json row.value) } ≡ row =
    λ i. record { key = term-json row.key i; id = row.id; place = row.place; value = term-json row.value i } in
    after_read _ _ _ _ _ key (after_read _ _ _ _ _ id (after_read _ _ _ _ _ place (after_read _ _ _ _ _ value (ap Some same))))

-- ---- the entries of nodes

number_read : (n : ℕ) (behind : List ℕ) → IsNumber n → whole_in (number_bytes n ++ behind) ≡ Some (n, behind)
unfolding number_bytes whole_bytes
number_read n behind small = whole_in-spelled n behind small

sized_read : (bytes behind : List ℕ) → IsSized bytes → sized_in (sized bytes ++ behind) ≡ Some (bytes, behind)
sized_read bytes behind short =
    ap sized_in (append_assoc (number_bytes (length bytes)) bytes behind)
    ∙ after_read _ _ _ _ _ (number_read (length bytes) (bytes ++ behind) short) (λ i. Some (take-append_seam bytes behind i, drop-append_seam bytes behind i))

row_read : (row : Row) (behind : List ℕ) → FitsItem IsKept item_bytes row → row_in (item_entry item_bytes row ++ behind) ≡ Some (row, behind)
row_read row behind fits = after_read _ _ _ _ _ (sized_read (item_bytes row) behind fits.short) (ap (option_map (λ (r : Row). (r, behind))) (item_read row fits.fits))

place_found : (child : Child Row) (behind : List ℕ) → FitsChild IsKept item_bytes child → place_in (child_entry item_bytes child ++ behind) ≡ Some (child.at, behind)
place_found child behind fits =
    ap place_in (child_parts IsKept item_bytes items_spelled_once child behind)
    ∙ after_read _ _ _ _ _ (number_read child.at _ fits.at)
    (after_read _ _ _ _ _ (number_read child.count _ fits.count)
    (after_read _ _ _ _ _ (sized_read (item_bytes child.last) _ fits.last.short)
    (after_read _ _ _ _ _ (sized_read child.sum behind fits.sum) refl)))

-- one behind another, by how each is read and what is seen of it
module _ {X Y : Type 0} (one : List ℕ → Option (Y × List ℕ)) (spelled : X → List ℕ) (seen : X → Y) where
  -- such a value is read wherever it stands
  abbrev IsRead : X → Type 0
  IsRead x = (behind : List ℕ) → one (spelled x ++ behind) ≡ Some (seen x, behind)

  many_read : (xs : List X) → All IsRead xs → many_in one (length xs) (flat_map spelled xs) ≡ Some (map seen xs)
  many_read [] each = refl
  many_read (x ∷ xs) each =
      after_read _ _ _ _ _ (All-head IsRead x xs each (flat_map spelled xs)) (ap (option_map (λ (ys : List Y). seen x ∷ ys)) (many_read xs (All-tail IsRead x xs each)))

-- ---- nodes

abbrev child_at : Child Row → ℕ
child_at child = child.at

-- the node fits, and its bytes stand at the place
abbrev IsSpelledThere : Places → ℕ → Node Row → Type 0
IsSpelledThere there at node = FitsNode IsKept item_bytes node × (there at ≡ Some (spelled_node item_bytes node))

rows_found : (there : Places) (at : ℕ) (own : List Row) → IsSpelledThere there at (Leaf own) → entries_at row_in there 0 at ≡ own
rows_found there at own stands =
    let each = All-weaker (FitsItem IsKept item_bytes) (IsRead row_in (item_entry item_bytes) (λ row. row)) (λ row fit behind. row_read row behind fit) own stands.0.1 in
    ap (λ o. unwrap_or (option_and_then (entries_in row_in 0) o) []) stands.1
    ∙ ap (λ o. unwrap_or o []) (many_read row_in (item_entry item_bytes) (λ row. row) own each) ∙ map-id own

places_found : (there : Places) (at : ℕ) (children : List (Child Row)) → IsSpelledThere there at (Inner children) → entries_at place_in there 1 at ≡ map child_at children
places_found there at children stands =
    let each = All-weaker (FitsChild IsKept item_bytes) (IsRead place_in (child_entry item_bytes) child_at) (λ child fit behind. place_found child behind fit) children stands.0.1 in
    ap (λ o. unwrap_or (option_and_then (entries_in place_in 1) o) []) stands.1
    ∙ ap (λ o. unwrap_or o []) (many_read place_in (child_entry item_bytes) child_at children each)

-- ---- trees

module _ {S : Type 0} (v : Values Row S) (there : Places) where
  -- what is read below each child are the items of the children
  children_read : (level : ℕ) → ((at : ℕ) (items : List Row) → Stands row_items v there level at items → rows_below there level at ≡ items)
      → (children : List (Child Row)) (items : List Row) → AreChildren v (Stands row_items v there level) children items
      → flat_map (rows_below there level) (map child_at children) ≡ items
  children_read level below [] items none = sym none
  children_read level below (child ∷ children) items all =
      let first = below child.at all.front all.at_front.stands in
      let others = children_read level below children all.back all.at_back in
      (λ i. first i ++ others i) ∙ sym all.whole

  node_read : (level : ℕ) (node : Node Row) (at : ℕ) (items : List Row) → IsSpelledThere there at node → Has row_items v there level node items → rows_below there level at ≡ items
  node_read zero (Leaf own) at items stands has = rows_found there at own stands ∙ sym has
  node_read zero (Inner children) at items stands has = absurd has
  node_read (suc level) (Leaf own) at items stands has = absurd has
  node_read (suc level) (Inner children) at items stands has =
      ap (flat_map (rows_below there level)) (places_found there at children stands)
      ∙ children_read level (λ place below child. node_read level child.node place below (child.fits, child.bytes) child.has) children items has

  root_read : (height root : ℕ) (items : List Row) → HasRoot row_items v there root height items → rows_of_height there height root ≡ items
  root_read zero root items none = sym none
  root_read (suc level) root items stands = node_read level stands.node root items (stands.fits, stands.bytes) stands.has

  -- over a tree of any values
  pub rows_read : (tree : Tree) (rows : List Row) → IsTree row_items v there tree rows → rows_in there tree ≡ rows
  unfolding rows_in
  rows_read tree rows is = root_read tree.height tree.root rows is.root

-- ---- the trees of an index

module _ (functions : Option Functions) (views : List View) (there : Places) where
  -- those of the views from this number on
  each_read : (rows : List (List Row)) (number : ℕ) (trees : List Tree) → number + length trees ≡ length rows
      → EachAt (HasRows functions views there rows) number trees → map (rows_in there) trees ≡ drop number rows
  each_read rows number [] long each = sym (drop_all number rows (omega arith))
  each_read rows number (tree ∷ trees) long each =
      let values = view_values functions (reduce_in views number) in
      let own : rows_in there tree ≡ get_or rows number [] = rows_read values there tree (get_or rows number []) each.0 in
      let others = each_read rows (suc number) trees (omega arith) each.1 in
      (λ i. own i ∷ others i) ∙ sym (drop-cons rows number [] (omega arith))

  pub all_rows_read : (trees : List Tree) (back : Tree) (rows : List (List Row)) → HoldTrees functions views there trees back rows → map (rows_in there) trees ≡ rows
  all_rows_read trees back rows hold = each_read rows 0 trees (omega (arith, hold.number)) hold.each
