-- The object of one member is the request.
use Rattle.std.proofs.Common.{◌≡◌, [], ◌∷◌, ◌++◌, ap, ◌∙◌}
use Rattle.json_terms.specs.Json.{object, members_of, member, no_members}
use Rattle.json_terms.specs.Seen.{json}
use Rattle.json_terms.specs.Text.{text_of}
use Rattle.load_lines.specs.Lines.{put_line}
use Rattle.load_lines.proofs.lines.put_line.Goals as goal

pub returns : goal.returns
unfolding put_line
returns c =
    let doc = json c.args.document in
    let name = c.in_ok-from_text.field-0 in
    let members : c.push.new.self ≡ (name, doc) ∷ [] = c.in_ok-push.ensures.ok ∙ ap (λ ms. ms ++ (name, doc) ∷ []) c.in_ok-members.ensures in
    c.in_ok-write_term.ensures.ok
    ∙ ap (λ xs. xs ++ text_of (object (members_of c.push.new.self))) c.new-line.ensures.items
    ∙ ap (λ ms. text_of (object (members_of ms))) members
    ∙ ap (λ n. text_of (object (member n doc no_members))) c.in_ok-from_text.ensures
