-- One line's text follows those of the lines before it.
use Rattle.std.specs.Prelude.{Vec, take}
use Rattle.std.specs.declared.alloc.Global.{Global}
use Rattle.std.specs.List.{flat_map}
use Rattle.std.proofs.Common.{◌≡◌, ◌+◌, ◌∙◌, ◌++◌, ℕ, List, [], ◌∷◌, map, sym, ap, append_assoc, rules}
use Rattle.std.proofs.lemmas.List.{map-append, take_more}
use Rattle.view_ports.specs.Lines.{ended}
use Rattle.couchview_cli.proofs.Shown.{lines_more}
use Rattle.couchview_cli.proofs.load.append_lines.Goals as goal

pub loop-line-preserved : goal.loop-line-preserved
loop-line-preserved c =
    let all : List (Vec ℕ Global) = c.args.lines.now in
    let at : ℕ = c.loop-line.line-index in
    let line = c.line-item.result in
    let items : Vec ℕ Global → List ℕ = λ line. line.items in
    let next : take (at + 1) all ≡ take at all ++ line ∷ [] = take_more all at line c.loop-line-test.true ∙ ap (λ (x : Vec ℕ Global). take at all ++ x ∷ []) (sym c.line-item.is) in
    let own : c.deref.result.now ≡ line.items = search rules in
    c.in_ok-append_line.ensures
    ∙ ap (λ (t : List ℕ). c.loop-line.text.items ++ ended t) own
    ∙ ap (λ (t : List ℕ). t ++ ended line.items) c.loop-line.invariant
    ∙ append_assoc c.args.text.now.items (flat_map ended (map items (take at all))) (ended line.items)
    ∙ ap (λ (t : List ℕ). c.args.text.now.items ++ t)
    (sym (lines_more (map items (take at all)) line.items) ∙ ap (flat_map ended) (sym (map-append items (take at all) (line ∷ [])) ∙ ap (map items) (sym next)))
