-- The design document's line stands first, and each turn adds the line of the next document.
use Rattle.load_lines.specs.Numbers.{draw}
use Rattle.std.proofs.Common.{◌≡◌, ℕ, ◌+◌, ◌/◌, List, [], ◌∷◌, ◌++◌, map, sym, ap, ap₂, ◌∙◌}
use Rattle.std.proofs.lemmas.List.{map-append}
use Rattle.load_lines.specs.Documents.{document}
use Rattle.load_lines.specs.Lines.{put_line}
use Rattle.load_lines.proofs.Lists.{draw-first, draw-step, document-is, first_lines-none, first_lines-step}
use Rattle.load_lines.proofs.lines.first_lines.Goals as goal

pub loop-index-init : goal.loop-index-init
loop-index-init c = record {
  number = c.new-numbers.ensures ∙ sym (draw-first c.args.seed);
  texts =
      ap (map (λ line. line.items)) (c.in_ok-push.ensures.items ∙ ap (λ xs. xs ++ c.in_ok-from_slice.field-0 ∷ []) c.new-lines.ensures.items)
      ∙ ap (λ line. line ∷ []) (c.in_ok-from_slice.ensures.items ∙ c.design_line.ensures) ∙ sym (first_lines-none c.args.seed);
}

pub loop-index-preserved : goal.loop-index-preserved
loop-index-preserved c =
    let seed = c.args.seed in
    let index = c.loop-index.index in
    let drawn = draw-step seed index _ _ c.loop-index.invariant.number c.next_value.ensures.moves in
    let value : c.next_value.result ≡ draw seed (index + 1) / 65536 = c.next_value.ensures.value ∙ ap (λ x. x / 65536) drawn in
    let line : (c.in_ok-put_line.field-0).items ≡ put_line (document seed (index + 1)) =
    c.in_ok-put_line.ensures ∙ ap put_line (c.in_ok-document.ensures ∙ document-is seed (index + 1) c.next_value.result value) in
    record {
      number = drawn;
      texts =
          ap (map (λ line. line.items)) c.in_ok-push-2.ensures.items
          ∙ map-append (λ line. line.items) c.loop-index.lines.items (c.in_ok-put_line.field-0 ∷ [])
          ∙ ap₂ (λ (xs : List (List ℕ)) (x : List ℕ). xs ++ x ∷ []) c.loop-index.invariant.texts line
          ∙ sym (first_lines-step index seed);
    }
