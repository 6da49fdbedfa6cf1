-- Changes and their rows, page by page.
use Rattle.std.specs.Prelude.{◌≡◌, ◌++◌, ◌∷◌, [], ℕ, List, map, ◌||◌}
use Rattle.std.proofs.Common.{refl, ap, ◌∙◌}
use Rattle.std.proofs.lemmas.List.{map-append}
use Rattle.std.proofs.lemmas.List.Elements.{filter_map-append}
use Rattle.json_terms.specs.Json.{Json}
use Rattle.query_protocol.specs.CommandLines.{document_of}
use Rattle.design_docs.specs.History.{Write, mapped_by}
use Rattle.child_pool.specs.Firsts.{has_some}
use Rattle.view_model.specs.Since.{mapped_of}
use Rattle.change_mapper.specs.Written.{documents_of}

-- ---- documents of two pages

pub mapped-append : (changes more : List (ℕ × Write)) → mapped_of (changes ++ more) ≡ mapped_of changes ++ mapped_of more
mapped-append changes more = filter_map-append (λ (change : ℕ × Write). mapped_by change.1) changes more

-- a list that is empty is of empty parts
pub front_none : {X : Type 0} (xs ys : List X) → xs ++ ys ≡ [] → xs ≡ []
front_none [] ys none = refl
front_none (x ∷ xs) ys none = let clash : ⊥ = cc in absurd clash

pub back_none : {X : Type 0} (xs ys : List X) → xs ++ ys ≡ [] → ys ≡ []
back_none [] ys none = none
back_none (x ∷ xs) ys none = let clash : ⊥ = cc in absurd clash

pub documents-append : (changes more : List (ℕ × Write)) → documents_of (changes ++ more) ≡ documents_of changes ++ documents_of more
documents-append changes more =
    ap (map (λ (entry : List ℕ × Json). document_of entry.1)) (mapped-append changes more)
    ∙ map-append (λ (entry : List ℕ × Json). document_of entry.1) (mapped_of changes) (mapped_of more)

pub some-append : (documents more : List (List (List ℕ × Json))) → (has_some documents || has_some more) ≡ has_some (documents ++ more)
some-append [] more = refl
some-append (document ∷ documents) more = refl
