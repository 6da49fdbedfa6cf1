-- A root says one thing, and holds one picture.
use Rattle.std.proofs.Common.{◌≡◌, ℕ, List, length, map, Option, Some, None, refl, sym, ap, ◌∙◌, subst, arith}
use Rattle.view_ports.specs.Functions.{Functions}
use Rattle.gate_file.specs.declared.root.Root.{Root}
use Rattle.design_docs.specs.declared.design.View.{View}
use Rattle.node_file.specs.Records.{node_at}
use Rattle.view_model.specs.Picture.{Picture}
use Rattle.index_items.specs.RootRecord.{body_bytes, root_bytes, IsContent}
use Rattle.index_items.proofs.Roots.{one_root, root_long}
use Rattle.index_trees.specs.Reading.{rows_in}
use Rattle.index_trees.proofs.Holding.{trees_hold_without}
use Rattle.index_trees.proofs.ReadBack.{all_rows_read}
use Rattle.tree_index.specs.Held.{HoldsPicture, HoldsRows, Said, Spells}

said_same : (one other : Said) → other.seq ≡ one.seq → other.views ≡ one.views → other.back ≡ one.back → other ≡ one
said_same one other seq views back = λ i. record { seq = seq i; views = views i; back = back i }

-- of whatever number of views
pub one_said : (count held : ℕ) (root : Root) (bytes : List ℕ) (one other : Said) → Spells count root bytes one → Spells held root bytes other → other ≡ one
one_said count held root bytes one other spells spells' =
    let same : root_bytes other.seq other.views other.back ≡ root_bytes one.seq one.views one.back = spells'.part.same ∙ sym spells.part.same in
    let long = ap length same in
    let number : held ≡ count = omega (arith, long, root_long other.seq other.views other.back, root_long one.seq one.views one.back, spells.content.number, spells'.content.number) in
    let content : IsContent count root.offset other.seq other.views other.back = subst (λ n. IsContent n root.offset other.seq other.views other.back) number spells'.content in
    let whole = one_root count root.offset (root_bytes one.seq one.views one.back) (body_bytes one.seq one.views one.back) other.seq one.seq other.views one.views other.back one.back refl
    (record { content = spells.content; is = refl }) (record { content = content; is = sym same }) in
    said_same one other whole.0 whole.1 whole.2

picture_same : (one other : Picture) → other.seq ≡ one.seq → other.rows ≡ one.rows → other ≡ one
picture_same one other seq rows = λ i. record { seq = seq i; rows = rows i }

-- the rows are those that are read of what the record says
pub rows_of_said : (functions : Option Functions) (views : List View) (root : Root) (bytes : List ℕ) (picture : Picture) (said : Said) → HoldsRows functions views root bytes picture → (count : ℕ) → Spells count root bytes said
    → (said.seq ≡ picture.seq) × (map (rows_in (node_at bytes)) said.views ≡ picture.rows)
rows_of_said functions views root bytes picture said holds count spells =
    let same : said ≡ holds.said = one_said (length views) count root bytes holds.said said holds.spells spells in (
      ap (λ (s : Said). s.seq) same ∙ holds.seq,
      ap (λ (s : Said). map (rows_in (node_at bytes)) s.views) same ∙ all_rows_read functions views (node_at bytes) (holds.said).views (holds.said).back picture.rows holds.rows,
    )

pub one_picture : (functions functions' : Option Functions) (views views' : List View) (root : Option Root) (bytes : List ℕ) (one other : Option Picture)
    → HoldsPicture functions views root bytes one → HoldsPicture functions' views' root bytes other → other ≡ one
one_picture functions functions' views views' None bytes None None holds holds' = refl
one_picture functions functions' views views' None bytes None (Some other) holds holds' = absurd holds'
one_picture functions functions' views views' None bytes (Some one) other holds holds' = absurd holds
one_picture functions functions' views views' (Some root) bytes None other holds holds' = absurd holds
one_picture functions functions' views views' (Some root) bytes (Some one) None holds holds' = absurd holds'
one_picture functions functions' views views' (Some root) bytes (Some one) (Some other) holds holds' =
    let first = rows_of_said functions views root bytes one holds.said holds (length views) holds.spells in
    let second = rows_of_said functions' views' root bytes other holds.said holds' (length views) holds.spells in
    ap Some (picture_same one other (sym second.0 ∙ first.0) (sym second.1 ∙ first.1))

-- less is said where the functions aren't known
pub holds_without : (functions : Option Functions) (views : List View) (root : Option Root) (bytes : List ℕ) (picture : Option Picture) → HoldsPicture functions views root bytes picture → HoldsPicture None views root bytes picture
holds_without functions views None bytes None holds = tt
holds_without functions views None bytes (Some picture) holds = holds
holds_without functions views (Some root) bytes None holds = holds
holds_without functions views (Some root) bytes (Some picture) holds = record {
  said = holds.said;
  spells = holds.spells;
  seq = holds.seq;
  rows = trees_hold_without functions views (node_at bytes) (holds.said).views (holds.said).back picture.rows holds.rows;
}
