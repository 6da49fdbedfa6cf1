-- Each turn adds the line of the next document, where its number is a multiple of three.
use Rattle.std.proofs.Common.{◌≡◌, ℕ, ◌+◌, ◌/◌, List, [], ◌∷◌, ◌++◌, map, sym, ap, ap₂, ◌∙◌, Vec, Global}
use Rattle.std.proofs.lemmas.List.{map-append}
use Rattle.load_lines.specs.Numbers.{draw}
use Rattle.load_lines.specs.Documents.{raised}
use Rattle.load_lines.specs.Lines.{put_line}
use Rattle.load_lines.proofs.Lists.{draw-first, draw-step, raised-is, second_lines-none, second_lines-step, second_lines-stay}
use Rattle.load_lines.proofs.lines.second_lines.Goals as goal
use Rattle.load_lines.proofs.lines.second_lines.Goals.{then-k-eq0+in_ok-document+in_ok-put_line+in_ok-push, else-k-eq0}

pub loop-index-init : goal.loop-index-init
loop-index-init c = record {
  number = c.new-numbers.ensures ∙ sym (draw-first c.args.seed);
  texts = ap (map (λ line. line.items)) c.new-lines.ensures.items ∙ sym (second_lines-none c.args.seed);
}

pub loop-index-preserved : goal.loop-index-preserved
loop-index-preserved c =
    let seed = c.args.seed in
    let index = c.loop-index.index in
    let drawn = draw-step seed index _ _ c.loop-index.invariant.number c.next_value-value.ensures.moves in
    let value : c.next_value-value.result ≡ draw seed (index + 1) / 65536 = c.next_value-value.ensures.value ∙ ap (λ x. x / 65536) drawn in
    record {
      number = drawn;
      texts =
          elim c.if-k-eq0.branch [
            | then-k-eq0+in_ok-document+in_ok-put_line+in_ok-push w ↦
                let line : (w.in_ok-put_line.field-0).items ≡ put_line (raised seed (index + 1)) =
                w.in_ok-put_line.ensures ∙ ap put_line (w.in_ok-document.ensures ∙ raised-is seed (index + 1) c.next_value-value.result value) in
                ap (λ (lines : Vec (Vec ℕ Global) Global). map (λ line. line.items) lines.items) w.lines-is ∙ ap (map (λ line. line.items)) w.in_ok-push.ensures.items
                ∙ map-append (λ line. line.items) c.loop-index.lines.items (w.in_ok-put_line.field-0 ∷ [])
                ∙ ap₂ (λ (xs : List (List ℕ)) (x : List ℕ). xs ++ x ∷ []) c.loop-index.invariant.texts line
                ∙ sym (second_lines-step index seed w.if-k-eq0.true)
            | else-k-eq0 w ↦
                ap (λ (lines : Vec (Vec ℕ Global) Global). map (λ line. line.items) lines.items) w.lines-is ∙ c.loop-index.invariant.texts ∙ sym (second_lines-stay index seed w.if-k-eq0.false)
          ];
    }
