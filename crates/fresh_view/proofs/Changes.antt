-- The rows of the documents that changes leave to be mapped, one change more.
use Rattle.std.specs.Prelude.{◌≡◌, ℕ, List, [], ◌∷◌, ◌++◌, map}
use Rattle.std.specs.List.{flat_map, filter_map}
use Rattle.std.proofs.Common.{ap, ◌∙◌}
use Rattle.std.proofs.lemmas.Grind.{flat_map-append}
use Rattle.std.proofs.lemmas.List.{map-append}
use Rattle.std.proofs.lemmas.List.Elements.{filter_map-append}
use Rattle.json_terms.specs.Json.{Json}
use Rattle.doc_file.specs.declared.docs.changes.Change.{Change}
use Rattle.doc_file.specs.Changes.{numbered}
use Rattle.design_docs.specs.History.{mapped_by}
use Rattle.map_lang.specs.Syntax.{Stmts}
use Rattle.view_model.specs.Since.{mapped_of}
use Rattle.fresh_view.specs.Programs.{program_rows}

-- what changes leave to be mapped
abbrev pub left : List Change → List (List ℕ × Json)
left changes = mapped_of (map numbered changes)

left-push : (changes : List Change) (change : Change) → left (changes ++ change ∷ []) ≡ left changes ++ left (change ∷ [])
left-push changes change =
    ap (filter_map (λ c. mapped_by c.1)) (map-append numbered changes (change ∷ []))
    ∙ filter_map-append (λ c. mapped_by c.1) (map numbered changes) (numbered change ∷ [])

pub rows-push : (program : Stmts) (changes : List Change) (change : Change)
    → flat_map (program_rows program) (left (changes ++ change ∷ [])) ≡ flat_map (program_rows program) (left changes) ++ flat_map (program_rows program) (left (change ∷ []))
rows-push program changes change =
    ap (flat_map (program_rows program)) (left-push changes change) ∙ flat_map-append (program_rows program) (left changes) (left (change ∷ []))
