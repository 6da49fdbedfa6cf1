-- Each line is cut off what is left.
use Rattle.std.specs.Prelude.{All}
use Rattle.std.specs.List.{flat_map}
use Rattle.std.proofs.Common.{◌≡◌, ◌∙◌, ◌++◌, ℕ, List, [], ◌∷◌, map, sym, ap, subst, Bor}
use Rattle.std.proofs.lemmas.List.{map-append}
use Rattle.std.proofs.lemmas.List.Elements.{All-nil, All-push}
use Rattle.view_ports.specs.Lines.{ended, IsLine}
use Rattle.couchview_cli.proofs.Shown.{cut_more, cut_shorter}
use Rattle.couchview_cli.proofs.replies.cut_lines.Goals as goal

abbrev texts : List (Bor (List ℕ)) → List (List ℕ)
texts lines = map (λ line. line.now) lines

pub loop-line-init : goal.loop-line-init
loop-line-init c = (
  ap (λ (lines : List (Bor (List ℕ))). flat_map ended (texts lines) ++ c.args.text.now) (sym c.new-lines.ensures.items),
  subst (λ (lines : List (Bor (List ℕ))). All IsLine (texts lines)) (sym c.new-lines.ensures.items) (All-nil IsLine),
)

pub loop-line-smaller : goal.loop-line-smaller
loop-line-smaller c = cut_shorter c.loop-line.rest.now c.in-Some.line.now c.in-Some.behind.now c.in-Some.ensures.1

pub loop-line-preserved : goal.loop-line-preserved
loop-line-preserved c =
    let lines = c.loop-line.lines.items in
    let more : texts c.push.new.self.items ≡ texts lines ++ c.in-Some.line.now ∷ [] = ap texts c.in_ok-push.ensures.items ∙ map-append (λ (line : Bor (List ℕ)). line.now) lines (c.in-Some.line ∷ []) in (
      cut_more c.args.text.now c.loop-line.rest.now (texts lines) c.in-Some.line.now c.in-Some.behind.now c.loop-line.invariant.0 c.in-Some.ensures.1
          ∙ ap (λ (all : List (List ℕ)). flat_map ended all ++ c.in-Some.behind.now) (sym more),
      subst (All IsLine) (sym more) (All-push IsLine (texts lines) c.in-Some.line.now c.loop-line.invariant.1 c.in-Some.ensures.0),
    )

pub returns : goal.returns
returns c = (c.loop-line.rest.now, record { joined = c.loop-line.invariant.0; whole = c.loop-line.invariant.1; unended = c.in_default.ensures })
