-- What is collected are the ids of the live designs among all entries.
use Rattle.std.proofs.Common.{◌≡◌, ◌≤◌, ◌++◌, [], ◌+◌, ℕ, List, take, take_all, length, None, Some, append-nil, refl, sym, ap, ◌∙◌, subst}
use Rattle.std.specs.List.{cons_option}
use Rattle.design_docs.specs.Documents.{is_design_id}
use Rattle.doc_file.specs.declared.entry.Entry.{Entry}
use Rattle.doc_file.specs.Designs.{AreDesignIds}
use Rattle.doc_file.specs.Docs.{entries_of}
use Rattle.doc_file.proofs.DesignIds.{are_design_ids, are_designs_of, live_design, live_designs, next_live}
use Rattle.doc_file.proofs.docs.Docs.design_ids.Goals as goal
use Rattle.doc_file.proofs.docs.Docs.design_ids.Goals.{then-is_design_id+then-not-entry+in_ok-copy+in_ok-push, else-is_design_id, else-is_design_id-via-then-is_design_id+else-not-entry, else-is_design_id-via-else-is_design_id}

pub loop-entry-preserved : goal.loop-entry-preserved
loop-entry-preserved c =
    let l = c.loop-entry in
    let e : Entry = c.entry-item.result in
    let tested : is_design_id e.id ≡ c.is_design_id.result = ap is_design_id (sym c.as_str.ensures) ∙ sym c.is_design_id.ensures in
    let next : live_designs (take (l.entry-index + 1) (entries_of c.args.self.now)) ≡ l.ids.items ++ cons_option (live_design e) [] =
    subst (λ (es : List Entry). live_designs (take (l.entry-index + 1) es) ≡ live_designs (take l.entry-index es) ++ cons_option (live_design e) []) c.deref-entry-items.ensures.value
    (next_live c.deref-entry-items.result.now l.entry-index e c.loop-entry-test.true c.entry-item.is)
    ∙ ap (λ (ids : List (List ℕ)). ids ++ cons_option (live_design e) []) (sym l.invariant) in
    let left : live_design e ≡ None → l.ids.items ≡ live_designs (take (l.entry-index + 1) (entries_of c.args.self.now)) = λ none.
    sym (next ∙ ap (λ o. l.ids.items ++ cons_option o []) none ∙ append-nil l.ids.items) in
    elim c.if-is_design_id.branch [
      | then-is_design_id+then-not-entry+in_ok-copy+in_ok-push w ↦
          let live : live_design e ≡ Some e.id = rw (tested ∙ w.if-is_design_id.true, w.if-not-entry.true) refl in
          rw (w.ids-is, w.in_ok-push.ensures.items, w.in_ok-copy.ensures) (sym (next ∙ ap (λ o. l.ids.items ++ cons_option o []) live))
      | else-is_design_id w ↦ rw w.ids-is (left (elim w.else-is_design_id.branch [
        | else-is_design_id-via-then-is_design_id+else-not-entry v ↦ rw (tested ∙ v.if-is_design_id.true, v.if-not-entry.false) refl
        | else-is_design_id-via-else-is_design_id v ↦ rw (tested ∙ v.if-is_design_id.false) refl
      ]))
    ]

whole : (c : goal.After-loop-entry) → c.loop-entry.ids.items ≡ live_designs (entries_of c.args.self.now)
whole c =
    let long : length (entries_of c.args.self.now) ≤ c.loop-entry.entry-index = subst (λ (es : List Entry). length es ≤ c.loop-entry.entry-index) c.deref-entry-items.ensures.value c.loop-entry-test.false in
    c.loop-entry.invariant ∙ ap live_designs (take_all c.loop-entry.entry-index (entries_of c.args.self.now) long)

pub returns-clause-kept : goal.returns-clause-kept
returns-clause-kept c = subst (AreDesignIds c.args.self.now) (sym (whole c)) (are_design_ids c.args.self.now)

pub returns-clause-history : goal.returns-clause-history
returns-clause-history c = λ files history at. are_designs_of c.args.self.now files history c.loop-entry.ids.items at (returns-clause-kept c)
