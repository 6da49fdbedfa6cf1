-- Of a number in decimal the parse is the number.
use Rattle.std.proofs.Common.{◌≡◌, decimal, ap, sym, ◌∙◌, arith}
use Rattle.doc_file.proofs.Revisions.{generation-parsed}
use Rattle.doc_file.proofs.rev.is_generation_text.Goals as goal

pub returns-then-generation-eq0 : goal.returns-then-generation-eq0
returns-then-generation-eq0 c = (
  λ h. absurd cc,
  λ g.
      let same : c.in-Ok.generation ≡ g.0 = let both = sym c.in-Ok.is ∙ generation-parsed c.args.text.now c.parse.result c.parse.ensures.value.0 g in cc in
      absurd (omega (arith, g.1, c.if-generation-eq0.true)),
)

pub returns-then-generation-ge-GENERATIONS : goal.returns-then-generation-ge-GENERATIONS
returns-then-generation-ge-GENERATIONS c = (
  λ h. absurd cc,
  λ g.
      let same : c.in-Ok.generation ≡ g.0 = let both = sym c.in-Ok.is ∙ generation-parsed c.args.text.now c.parse.result c.parse.ensures.value.0 g in cc in
      absurd (omega (arith, g.2, c.if-generation-ge-GENERATIONS.true)),
)

pub returns-else-generation-ge-GENERATIONS : goal.returns-else-generation-ge-GENERATIONS
returns-else-generation-ge-GENERATIONS c = (
  λ h. (c.in-Ok.generation, omega arith, omega arith, c.is_decimal.ensures.0 h),
  λ g.
      let same : c.in-Ok.generation ≡ g.0 = let both = sym c.in-Ok.is ∙ generation-parsed c.args.text.now c.parse.result c.parse.ensures.value.0 g in cc in
      c.is_decimal.ensures.1 (g.3 ∙ ap decimal (sym same)),
)

pub returns-in-Err : goal.returns-in-Err
returns-in-Err c = (λ h. absurd cc, λ g. let both = sym c.in-Err.is ∙ generation-parsed c.args.text.now c.parse.result c.parse.ensures.value.0 g in absurd cc)
