-- A value is taken in, and all are made one where they are many.
use Rattle.std.proofs.Common.{◌≡◌, ◌++◌, ◌∷◌, ◌∙◌, [], List, map, ap, sym, subst}
use Rattle.std.proofs.lemmas.List.{map-append}
use Rattle.json_terms.specs.Json.{Json}
use Rattle.json_terms.specs.Seen.{json}
use Rattle.view_ports.specs.declared.command.Command.TheVariants.{Rereduce}
use Rattle.child_pool.specs.ReduceTalk.{FoldsIn, IsMadeOf}
use Rattle.child_pool.proofs.Folds.{fails_before, folds_more, folds_one, kept_ok}
use Rattle.child_pool.proofs.reduce_slot.ReduceSlot.fold.Goals as goal

pub returns-then-is_err-clause-cause : goal.returns-then-is_err-clause-cause
returns-then-is_err-clause-cause g c = λ reduces among. c.spend.ensures.fails c.args.language.now reduces

pub returns-then-len-lt-PART-clause-folds : goal.returns-then-len-lt-PART-clause-folds
returns-then-len-lt-PART-clause-folds g c =
    let values = map json c.args.values.now.items in
    let kept : c.keep.new.values.items ≡ c.args.values.now.items ++ c.args.value ∷ [] = kept_ok c.keep.result (sym c.if-is_err.ensures.value) c.keep.ensures.ok in
    let is : map json c.keep.new.values.items ≡ values ++ json c.args.value ∷ [] = ap (map json) kept ∙ map-append json c.args.values.now.items (c.args.value ∷ []) in
    subst (λ (v : List Json). FoldsIn g.C.Servers c.args.language.now c.args.source.now c.args.self.now values (json c.args.value) v) (sym is) (folds_more g.C.Servers c.args.language.now c.args.source.now c.args.self.now values (json c.args.value))

pub returns-in-Ok-keep-clause-folds : goal.returns-in-Ok-keep-clause-folds
returns-in-Ok-keep-clause-folds g c =
    let values = map json c.args.values.now.items in
    let kept : c.keep.new.values.items ≡ c.args.values.now.items ++ c.args.value ∷ [] = kept_ok c.keep.result (sym c.if-is_err.ensures.value) c.keep.ensures.ok in
    let asked : map json c.as_slice.result.now ≡ values ++ json c.args.value ∷ [] = ap (map json) (c.as_slice.ensures.value ∙ kept) ∙ map-append json c.args.values.now.items (c.args.value ∷ []) in
    let made = subst (λ (v : List Json). IsMadeOf g.C.Servers c.args.language.now c.args.source.now (Rereduce c.args.source.now v) c.args.self.now (json c.in-Ok.one)) asked c.in-Ok.ensures.made in
    let is : map json c.keep-2.new.values.items ≡ json c.in-Ok.one ∷ [] = ap (map json) (c.in-Ok-keep.ensures.ok ∙ ap (λ xs. xs ++ c.in-Ok.one ∷ []) c.new.ensures.items) in
    subst (λ (v : List Json). FoldsIn g.C.Servers c.args.language.now c.args.source.now c.args.self.now values (json c.args.value) v) (sym is) (folds_one g.C.Servers c.args.language.now c.args.source.now c.args.self.now values (json c.args.value) (json c.in-Ok.one) made)

pub returns-in-Err-keep-clause-cause : goal.returns-in-Err-keep-clause-cause
returns-in-Err-keep-clause-cause g c =
    fails_before g.C.Servers c.args.language.now c.args.source.now c.args.self.now c.ask_values.new.self c.spend-in-Err-keep.new.self c.spend-in-Err-keep.result c.in-Ok.ensures.talks (λ reduces among. c.spend-in-Err-keep.ensures.fails c.args.language.now reduces)
