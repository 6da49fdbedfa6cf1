-- It is open, or it is opened once one of another number of views is closed.
use Rattle.std.specs.Prelude.{◌≡◌, List, Some, slice_index_or}
use Rattle.std.proofs.Common.{ap, sym, ◌∙◌}
use Rattle.std.proofs.lemmas.Option.{get_or_from_slice_get}
use Rattle.view_ports.specs.declared.file_name.Stem.TheVariants.{View}
use Rattle.tree_index.specs.declared.index.Index.{Index}
use Rattle.tree_index.specs.Index.{views_of}
use Rattle.tree_groups.specs.Groups.{open_of, IsPlaceOf}
use Rattle.tree_groups.proofs.Opening.{after_close, already}
use Rattle.tree_groups.proofs.Places.{none_there, other_number, IsAbsent}
use Rattle.tree_groups.proofs.groups.Groups.opened.Goals as goal
use Rattle.tree_groups.proofs.groups.Groups.opened.Goals.{in-Some+else-views, in_default}

pub returns-then-views : goal.returns-then-views
returns-then-views g c =
    let place = c.in-Some.place in
    let index = c.index-as_slice-place.result in
    let found : IsPlaceOf c.args.self.now (View c.args.sig) (Some place) = c.in-Some.ensures in
    let same : index ≡ found.0 = c.index-as_slice-place.is ∙ ap (λ (l : List Index). slice_index_or l place index) c.as_slice.ensures.value ∙ get_or_from_slice_get (open_of c.args.self.now) place found.0 index found.1 in
    already g.F.Folder c.args.sig c.args.views c.args.newest c.args.self.now c.args.folder.now place found.0
    (record { there = found.1; named = found.2; number = ap views_of (sym same) ∙ sym c.views.ensures ∙ c.if-views.true })

pub returns : goal.returns
returns g c =
    let absent : IsAbsent c.args.self.now c.args.sig c.args.views =
    elim c.match-place_of.branch [
      | in-Some+else-views w ↦
          let place = w.in-Some.place in
          let index = w.index-as_slice-place.result in
          let found : IsPlaceOf c.args.self.now (View c.args.sig) (Some place) = w.in-Some.ensures in
          let same : index ≡ found.0 = w.index-as_slice-place.is ∙ ap (λ (l : List Index). slice_index_or l place index) w.as_slice.ensures.value ∙ get_or_from_slice_get (open_of c.args.self.now) place found.0 index found.1 in
          other_number c.args.self.now c.args.sig c.args.views place found (λ is. w.if-views.false (w.views.ensures ∙ ap views_of same ∙ is))
      | in_default w ↦ none_there c.args.self.now c.args.sig c.args.views w.in_default.ensures
    ] in
    after_close g.F.Folder c.args.sig c.args.views c.args.newest c.args.self.now c.close.new.self c.open_new.new.self c.args.folder.now c.open_new.new.folder c.open_new.result absent c.close.ensures c.open_new.ensures
