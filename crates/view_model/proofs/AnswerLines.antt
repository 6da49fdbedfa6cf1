-- No byte of an answer is a newline.
use Rattle.std.proofs.Common.{ap, sym, subst, Option, Some, if◌then◌else◌, ◌≡◌, ◌<◌, ◌^◌, ◌++◌, ℕ, List, [], Bool, true, false, codes, decimal, refl}
use Rattle.json_terms.specs.Json.{string}
use Rattle.json_terms.specs.Seen.{json}
use Rattle.json_terms.specs.Text.{text_of}
use Rattle.json_terms.specs.declared.term.Row.{Row}
use Rattle.json_terms.proofs.OneLine.{line-quoted}
use Rattle.view_ports.specs.Lines.{IsLine}
use Rattle.design_docs.proofs.Decimals.{line-decimal}
use Rattle.query_args.specs.declared.query.Query.{Query}
use Rattle.view_model.specs.Answer.{row_text, seq_text, offset_text}
use Rattle.view_model.proofs.Lines.{line, lines3, lines7}

pub line-row : (row : Row) → IsLine (text_of (json row.key)) → IsLine (text_of (json row.value)) → IsLine (row_text row)
line-row row key value =
    lines7 (codes "{\"id\":") (text_of (string row.id)) (codes ",\"key\":") (text_of (json row.key)) (codes ",\"value\":") (text_of (json row.value)) (codes "}")
    (line (codes "{\"id\":") refl) (line-quoted row.id) (line (codes ",\"key\":") refl) key (line (codes ",\"value\":") refl) value (line (codes "}") refl)

-- ---- the sequence and the offset

abbrev seq_shown : Bool → ℕ → List ℕ
seq_shown shown seq = if shown then codes "\"update_seq\":" ++ decimal seq ++ codes "," else []

shown_line : (shown : Bool) (seq : ℕ) → seq < 2 ^ 64 → IsLine (seq_shown shown seq)
shown_line true seq few = lines3 (codes "\"update_seq\":") (decimal seq) (codes ",") (line (codes "\"update_seq\":") refl) (line-decimal seq few) (line (codes ",") refl)
shown_line false seq few = line [] refl

pub seq_line : (query : Query) (seq : ℕ) → seq < 2 ^ 64 → IsLine (seq_text query seq)
seq_line query seq few = shown_line query.show_seq seq few

pub seq_is : (query : Query) (seq : ℕ) → query.show_seq ≡ true → codes "\"update_seq\":" ++ decimal seq ++ codes "," ≡ seq_text query seq
seq_is query seq shown = ap (λ b. seq_shown b seq) (sym shown)

pub offset_line : (offset : Option ℕ) (n : ℕ) → offset ≡ Some n → n < 2 ^ 64 → IsLine (offset_text offset)
offset_line offset n is few = subst (λ (o : Option ℕ). IsLine (offset_text o)) (sym is) (line-decimal n few)
