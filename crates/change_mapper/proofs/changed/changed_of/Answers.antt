-- Each change is noted, and leaves its document, or nothing.
use Rattle.std.specs.Prelude.{◌≡◌, [], ◌∷◌, ◌++◌, false, All, length, map, None, option_map}
use Rattle.std.proofs.Common.{◌∙◌, sym, ap, subst, refl}
use Rattle.std.proofs.lemmas.Iterator.Adapters.{YieldsList-from_vec}
use Rattle.std.proofs.lemmas.Iterator.Consumers.{YieldsList-end, YieldsList-turn}
use Rattle.json_terms.specs.Seen.{json}
use Rattle.design_docs.specs.Documents.{is_design_id}
use Rattle.doc_file.specs.Changes.{numbered, HasDocument}
use Rattle.design_docs.specs.History.{mapped_by}
use Rattle.change_mapper.specs.Changed.{AreChangedOf}
use Rattle.change_mapper.proofs.ChangedSoFar.{change_may_be_mapped, changed_less, changed_more, deletion_left, design_left, itself}
use Rattle.change_mapper.proofs.changed.changed_of.Goals as goal
use Rattle.change_mapper.proofs.changed.changed_of.Goals.{in_default-via-in-Some-doc+else-not-is_design_id, in_default-via-in_default}

pub new-requires : goal.new-requires
new-requires c =
    let given = c.into_iter-change-iterator.ensures.into_iter_gives in
    let road = YieldsList-from_vec {s = c.into_iter-change-iterator.result} c.into_vec-change-items.result.items given.0 (given.1 ∙ c.into_vec-change-items.result.ok.0) in
    let turn = YieldsList-turn road c.loop-change.yielded c.loop-change.change-iterator c.loop-change.yielded_by c.next.result c.next.new.self c.in-Some.change c.in-Some.is c.next.ensures.steps in
    change_may_be_mapped c.into_vec-change-items.result.items (length c.loop-change.yielded) c.in-Some.change (json c.in-Some-doc.document)
    (subst (All HasDocument) (sym c.into_vec-change-items.ensures) c.requires) turn.0 turn.1 (ap (option_map json) c.in-Some-doc.is)

pub loop-change-preserved-then-not-is_design_id : goal.loop-change-preserved-then-not-is_design_id
loop-change-preserved-then-not-is_design_id c =
    let told : is_design_id c.in-Some.change.id ≡ false = ap is_design_id (sym c.as_str.ensures) ∙ sym c.is_design_id.ensures ∙ c.if-not-is_design_id.true in (
      tt,
      tt,
      changed_more c.loop-change.yielded c.in-Some.change (record { written = c.loop-change.written; documents = c.loop-change.documents }) (record { written = c.push.new.self; documents = c.push-in-Some-doc.new.self })
          (json c.in-Some-doc.document) c.loop-change.invariant.2 told (ap (option_map json) c.in-Some-doc.is) c.in_ok-push-in-Some-doc.ensures.items
          (c.in_ok-push-in-Some-doc-2.ensures.items ∙ ap (λ d. c.loop-change.documents.items ++ d ∷ []) c.new.ensures),
    )

pub loop-change-preserved-in_ok-push-in_default : goal.loop-change-preserved-in_ok-push-in_default
loop-change-preserved-in_ok-push-in_default c =
    let none : mapped_by (numbered c.in-Some.change).1 ≡ None =
    elim c.in_default.branch [
      | in_default-via-in-Some-doc+else-not-is_design_id w ↦ design_left c.in-Some.change (ap is_design_id (sym w.as_str.ensures) ∙ sym w.is_design_id.ensures ∙ w.if-not-is_design_id.false)
      | in_default-via-in_default w ↦ deletion_left c.in-Some.change w.in_default.is
    ] in
    (tt, tt, changed_less c.loop-change.yielded c.in-Some.change (record { written = c.loop-change.written; documents = c.loop-change.documents }) (record { written = c.push-in_default.new.self; documents = c.loop-change.documents }) c.loop-change.invariant.2 none c.in_ok-push-in_default.ensures.items refl)

pub loop-change-preserved : goal.loop-change-preserved
loop-change-preserved c =
    let none : mapped_by (numbered c.in-Some.change).1 ≡ None =
    elim c.in_default.branch [
      | in_default-via-in-Some-doc+else-not-is_design_id w ↦ design_left c.in-Some.change (ap is_design_id (sym w.as_str.ensures) ∙ sym w.is_design_id.ensures ∙ w.if-not-is_design_id.false)
      | in_default-via-in_default w ↦ deletion_left c.in-Some.change w.in_default.is
    ] in
    (tt, tt, changed_less c.loop-change.yielded c.in-Some.change (record { written = c.loop-change.written; documents = c.loop-change.documents }) (record { written = c.push-in_default.new.self; documents = c.loop-change.documents }) c.loop-change.invariant.2 none c.in_ok-push-in_default.ensures.items refl)

pub returns : goal.returns
returns c =
    let given = c.into_iter-change-iterator.ensures.into_iter_gives in
    let road = YieldsList-from_vec {s = c.into_iter-change-iterator.result} c.into_vec-change-items.result.items given.0 (given.1 ∙ c.into_vec-change-items.result.ok.0) in
    let all = YieldsList-end road c.loop-change.yielded c.loop-change.change-iterator c.loop-change.yielded_by c.next.result c.next.new.self c.in-None.is c.next.ensures.steps in
    let whole = sym (itself c.loop-change.yielded) ∙ all.0 ∙ c.into_vec-change-items.ensures in
    subst (λ changes. AreChangedOf (map numbered changes) (record { written = c.loop-change.written; documents = c.loop-change.documents })) whole c.loop-change.invariant.2
