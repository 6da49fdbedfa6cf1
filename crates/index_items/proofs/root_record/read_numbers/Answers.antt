-- Each number of a tree is taken, and what is taken is the tree.
use Rattle.std.proofs.Common.{◌≡◌, ◌++◌, ℕ, List, Some, sym, ap, ◌∙◌}
use Rattle.std.proofs.Math.Facts.{Fits-of_lt}
use Rattle.term_codec.specs.Spelling.{count_bytes, whole_bytes}
use Rattle.term_codec.specs.Reading.{count_in, whole_in}
use Rattle.term_codec.proofs.Words.{some-pair, count_in-spelled, count_in-read}
use Rattle.term_codec.proofs.Wholes.{whole_in-spelled, whole_in-read}
use Rattle.tree_laws.specs.declared.tree.Tree.{Tree}
use Rattle.index_items.specs.RootRecord.{IsTypedTree, tree_bytes}
use Rattle.index_items.proofs.Roots.{behind_place, tree_parts}
use Rattle.index_items.proofs.root_record.read_numbers.Goals as goal

root_read : (tree : Tree) (bytes more : List ℕ) → IsTypedTree tree → bytes ≡ tree_bytes tree ++ more → whole_in bytes ≡ Some (tree.root, behind_place tree more)
root_read tree bytes more typed is = ap whole_in (is ∙ tree_parts tree more) ∙ whole_in-spelled tree.root (behind_place tree more) typed.root

height_read : (tree : Tree) (bytes rest more : List ℕ) (root : ℕ) → Some (root, rest) ≡ whole_in bytes → IsTypedTree tree → bytes ≡ tree_bytes tree ++ more → count_in rest ≡ Some (tree.height, whole_bytes tree.count ++ more)
height_read tree bytes rest more root read typed is =
    let behind = (some-pair (root, rest) (tree.root, behind_place tree more) (read ∙ root_read tree bytes more typed is)).1 in
    ap count_in behind ∙ count_in-spelled tree.height (whole_bytes tree.count ++ more) typed.height

pub returns-in_default : goal.returns-in_default
returns-in_default c = λ tree more typed is.
    let both = c.in_default.ensures ∙ root_read tree c.args.bytes.now more typed is in
    absurd cc

pub returns-in_default-read_count : goal.returns-in_default-read_count
returns-in_default-read_count c = λ tree more typed is.
    let both = c.in_default-read_count.ensures ∙ height_read tree c.args.bytes.now c.in-Some.rest.now more c.in-Some.root c.in-Some.ensures typed is in
    absurd cc

pub returns-in_default-read_whole : goal.returns-in_default-read_whole
returns-in_default-read_whole c = λ tree more typed is.
    let height = height_read tree c.args.bytes.now c.in-Some.rest.now more c.in-Some.root c.in-Some.ensures typed is in
    let behind = (some-pair (c.in-Some-read_count.height, c.in-Some-read_count.rest.now) (tree.height, whole_bytes tree.count ++ more) (c.in-Some-read_count.ensures ∙ height)).1 in
    let both = c.in_default-read_whole.ensures ∙ ap whole_in behind ∙ whole_in-spelled tree.count more typed.count in
    absurd cc

pub overflow_cast-height : goal.overflow_cast-height
overflow_cast-height c = Fits-of_lt ((count_in-read c.in-Some.rest.now c.in-Some-read_count.height c.in-Some-read_count.rest.now (sym c.in-Some-read_count.ensures)).0)

pub returns : goal.returns
returns c =
    let tree : Tree = record { root = c.in-Some.root; height = c.in-Some-read_count.height; count = c.in-Some-read_whole.count } in
    let root = whole_in-read c.args.bytes.now c.in-Some.root c.in-Some.rest.now (sym c.in-Some.ensures) in
    let height = count_in-read c.in-Some.rest.now c.in-Some-read_count.height c.in-Some-read_count.rest.now (sym c.in-Some-read_count.ensures) in
    let count = whole_in-read c.in-Some-read_count.rest.now c.in-Some-read_whole.count c.in-Some-read_whole.rest.now (sym c.in-Some-read_whole.ensures) in (
      record { root = root.0; height = height.0; count = count.0 },
      root.1 ∙ ap (λ bs. whole_bytes tree.root ++ bs) (height.1 ∙ ap (λ bs. count_bytes tree.height ++ bs) count.1) ∙ sym (tree_parts tree c.in-Some-read_whole.rest.now),
    )
