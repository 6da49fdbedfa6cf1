-- Open indexes that are as they were.
use mathlib.Core.HLevel.{is_prop→PathP}
use Rattle.std.specs.Prelude.{◌≡◌, ◌≢◌, ◌≤◌, List, Vec, length, All, AllPairs}
use Rattle.std.specs.Vec.{with_items}
use Rattle.std.proofs.Common.{sym, ap, ◌∙◌}
use Rattle.std.proofs.Math.Bridge.{le_prop}
use Rattle.std.proofs.Math.Nat.{ℕ_set}
use Rattle.std.proofs.lemmas.List.{with_items_is}
use Rattle.view_ports.specs.declared.file_name.Stem.TheVariants.{Docs as DocsStem}
use Rattle.tree_index.specs.Index.{stem_of}
use Rattle.tree_groups.specs.declared.groups.Groups.{Groups}

-- a vector with its own elements is the same
pub with_own_items : {X Z : Type 0} (v : Vec X Z) (items : List X) → items ≡ v.items → with_items v items ≡ v
with_own_items v items own =
    let long : length items ≡ v.len = ap length own ∙ sym v.ok.0 in
    let same : (with_items v items).items ≡ v.items = with_items_is v items long ∙ own in
    λ i. record {
      ptr = v.ptr;
      len = v.len;
      cap = v.cap;
      alloc = v.alloc;
      items = same i;
      ok = is_prop→PathP (λ j. (v.len ≡ length (same j)) × (v.len ≤ v.cap)) (λ j p q k. (ℕ_set _ _ p.0 q.0 k, le_prop p.1 q.1 k)) (with_items v items).ok v.ok i;
      small = v.small;
    }

-- open indexes in the same vector are the same: each fact of them has one proof at most
pub same_groups : (groups groups' : Groups) → groups'.«open» ≡ groups.«open» → groups' ≡ groups
same_groups groups groups' same = λ i. record {
  «open» = same i;
  apart = is_prop→PathP (λ j. AllPairs (λ one other. stem_of one ≢ stem_of other) (same j).items) (λ j. hlevel) groups'.apart groups.apart i;
  of_views = is_prop→PathP (λ j. All (λ index. stem_of index ≢ DocsStem) (same j).items) (λ j. hlevel) groups'.of_views groups.of_views i;
}
