-- The one token that is written is the string.
use Rattle.std.proofs.Common.{◌≡◌, ◌∷◌, [], ◌++◌, ap, ◌∙◌}
use Rattle.json.specs.Token as token
use Rattle.serde_json.proofs.Texts.{print-outline}
use Rattle.serde_json.specs.Data as serde
use Rattle.json_terms.proofs.write.write_text.Goals as goal

pub returns-in-Ok-clause-ok : goal.returns-in-Ok-clause-ok
returns-in-Ok-clause-ok c =
    let w = c.string-written.new.self in
    let before : w.before ≡ c.args.out.now.items = c.string-written.ensures.room.0 ∙ c.new-writer.ensures.before ∙ ap (λ v. v.items) c.replace.ensures.value in
    let tokens : w.tokens ≡ token.string c.args.text.now ∷ [] = c.in-Ok.ensures.ok ∙ ap (λ ts. ts ++ token.string c.args.text.now ∷ []) c.new-writer.ensures.tokens in
    rw (c.into_inner.ensures.items, before, tokens, print-outline (serde.string c.args.text.now))
