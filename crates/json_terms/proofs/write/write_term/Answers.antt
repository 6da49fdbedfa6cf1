-- The tokens that are written are the term's, and their text is the term's.
use Rattle.std.proofs.Common.{◌≡◌, ◌++◌, ap, ◌∙◌}
use Rattle.serde_json.proofs.Texts.{print-outline}
use Rattle.json_terms.specs.Seen.{json}
use Rattle.json_terms.specs.Text.{serde_of}
use Rattle.json_terms.specs.Tokens.{tokens_of}
use Rattle.json_terms.proofs.ReadBack.{reading-text_of}
use Rattle.json_terms.proofs.write.write_term.Goals as goal

pub returns-in-Ok-clause-ok : goal.returns-in-Ok-clause-ok
returns-in-Ok-clause-ok c =
    let t = json c.args.term.now in
    let w = c.put_term-written.new.writer in
    let before : w.before ≡ c.args.out.now.items = c.put_term-written.ensures.before ∙ c.new-writer.ensures.before ∙ ap (λ v. v.items) c.replace.ensures.value in
    let tokens : w.tokens ≡ tokens_of t = c.in-Ok.ensures.tokens ∙ ap (λ ts. ts ++ tokens_of t) c.new-writer.ensures.tokens in
    rw (c.into_inner.ensures.items, before, tokens, print-outline (serde_of t))

pub returns-in-Ok-clause-reads : goal.returns-in-Ok-clause-reads
returns-in-Ok-clause-reads c = reading-text_of (json c.args.term.now) c.validity.ensures
