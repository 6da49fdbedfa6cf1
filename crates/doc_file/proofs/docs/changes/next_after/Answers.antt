use Rattle.std.proofs.Common.{◌≡◌, ◌<◌, ◌+◌, ◌++◌, ◌∷◌, [], take, sym, ap, ◌∙◌, subst, arith}
use Rattle.std.specs.Prelude.{IfSome, option_map, true}
use Rattle.std.proofs.lemmas.List.{take_more}
use Rattle.doc_file.specs.Changes.{IsNext}
use Rattle.doc_file.proofs.Nexts.{next_left, next_taken, some_mapped, some_unmapped}
use Rattle.doc_file.proofs.docs.changes.next_after.Goals as goal
use Rattle.doc_file.proofs.docs.changes.next_after.Goals.{then-seq-entry+then-comes_before, else-seq-entry, else-seq-entry-via-then-seq-entry+else-comes_before, else-seq-entry-via-else-seq-entry}

pub loop-entry-preserved : goal.loop-entry-preserved
loop-entry-preserved c =
    let i = c.loop-entry.entry-index in
    let e = c.entry-item.result in
    let es = c.args.entries.now in
    let o = option_map (λ x. x.now) c.loop-entry.next in
    let more : take (i + 1) es ≡ take i es ++ e ∷ [] = take_more es i e c.loop-entry-test.true ∙ ap (λ x. take i es ++ x ∷ []) (sym c.entry-item.is) in
    subst (λ xs. IsNext c.args.seq xs (option_map (λ x. x.now) c.if-seq-entry.next)) (sym more) (elim c.if-seq-entry.branch [
      | then-seq-entry+then-comes_before w ↦
          let sooner : IfSome c.loop-entry.next (λ x. (e.last).seq < ((x.now).last).seq) = w.comes_before.ensures.0 w.if-comes_before.true in
          subst (λ n. IsNext c.args.seq (take i es ++ e ∷ []) (option_map (λ x. x.now) n)) (sym w.next-is)
          (next_taken c.args.seq (take i es) o e c.loop-entry.invariant w.if-seq-entry.true (some_mapped (λ x. x.now) (λ p. (e.last).seq < (p.last).seq) c.loop-entry.next sooner))
      | else-seq-entry w ↦
          subst (λ n. IsNext c.args.seq (take i es ++ e ∷ []) (option_map (λ x. x.now) n)) (sym w.next-is)
          (next_left c.args.seq (take i es) o e c.loop-entry.invariant (λ after sooner. elim w.else-seq-entry.branch [
            | else-seq-entry-via-then-seq-entry+else-comes_before v ↦
                let before : v.comes_before.result ≡ true = v.comes_before.ensures.1 (some_unmapped (λ x. x.now) (λ p. (e.last).seq < (p.last).seq) c.loop-entry.next sooner) in
                let not_before = v.if-comes_before.false in
                let clash : ⊥ = cc (before, not_before) in clash
            | else-seq-entry-via-else-seq-entry v ↦ let low = v.if-seq-entry.false in absurd (omega arith)
          ]))
    ])
