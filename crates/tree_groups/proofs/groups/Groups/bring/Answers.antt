-- The index in the place is updated, and stays of its files.
use Rattle.std.specs.Prelude.{◌≡◌, List, slice_index_or, slice_set}
use Rattle.std.proofs.Common.{ap, sym, ◌∙◌, subst, arith}
use Rattle.std.proofs.lemmas.List.{length-set, set-get_or, with_items_is}
use Rattle.std.proofs.lemmas.Option.{get_or_from_slice_get}
use Rattle.tree_index.specs.declared.index.Index.{Index}
use Rattle.tree_groups.specs.Groups.{open_of, IsGroup}
use Rattle.tree_groups.specs.Reached.{sig_of, views_in}
use Rattle.tree_groups.proofs.Kept.{same_groups, with_own_items}
use Rattle.tree_groups.proofs.Places.{exchanged_apart, exchanged_of_views}
use Rattle.tree_groups.proofs.Staying.{updated_same}
use Rattle.tree_groups.proofs.groups.Groups.bring.Goals as goal

pub invariant_of-self : goal.invariant_of-self
invariant_of-self g c =
    let place = c.args.place in
    let before : Index = slice_index_or c.as_mut_slice.result.now place c.index-as_mut_slice-place.result in
    let xs = open_of c.args.self.now in
    let group = c.requires.place in
    let same : before ≡ group.0 = ap (λ (l : List Index). slice_index_or l place c.index-as_mut_slice-place.result) c.as_mut_slice.ensures.value ∙ get_or_from_slice_get xs place group.0 c.index-as_mut_slice-place.result (group.1).there in
    let stem = (updated_same g.F.Folder g.C.Servers c.args.docs.now c.args.design.now _ _ c.update.result c.update.ensures).stem ∙ ap (λ (i : Index). i.file.name.stem) same in
    let long = length-set c.as_mut_slice.result.now place c.update.new.index in
    let items = with_items_is c.args.self.now.open (slice_set c.as_mut_slice.result.now place c.update.new.index) (omega (arith, long, c.as_mut_slice.ensures.len)) ∙ ap (λ (l : List Index). slice_set l place c.update.new.index) c.as_mut_slice.ensures.value in
    record {
      apart = exchanged_apart c.args.self.now place group.0 c.update.new.index (group.1).there stem _ items;
      of_views = exchanged_of_views c.args.self.now place group.0 c.update.new.index (group.1).there stem _ items;
    }

pub returns : goal.returns
returns g c =
    let place = c.args.place in
    let before : Index = slice_index_or c.as_mut_slice.result.now place c.index-as_mut_slice-place.result in
    let xs = open_of c.args.self.now in
    let group = c.requires.place in
    let same : before ≡ group.0 = ap (λ (l : List Index). slice_index_or l place c.index-as_mut_slice-place.result) c.as_mut_slice.ensures.value ∙ get_or_from_slice_get xs place group.0 c.index-as_mut_slice-place.result (group.1).there in
    let elements = c.as_mut_slice.result.now in
    let long = length-set elements place c.update.new.index in
    record {
      before = before;
      after = c.update.new.index;
      there = subst (IsGroup c.args.self.now place (sig_of c.args.design.now) (views_in c.args.design.now)) (sym same) group.1;
      placed = with_items_is c.args.self.now.open (slice_set elements place c.update.new.index) (omega (arith, long, c.as_mut_slice.ensures.len)) ∙ ap (λ (l : List Index). slice_set l place c.update.new.index) c.as_mut_slice.ensures.value;
      kept = λ is. same_groups c.args.self.now _
          (with_own_items c.args.self.now.open (slice_set elements place c.update.new.index)
          (ap (λ (i : Index). slice_set elements place i) is ∙ set-get_or elements place c.index-as_mut_slice-place.result ∙ c.as_mut_slice.ensures.value));
      updates = c.update.ensures;
    }
