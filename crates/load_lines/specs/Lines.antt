-- The request lines of a load, without newlines: each is the text of a term.
use Rattle.std.specs.Prelude.{ℕ, ◌%◌, ◌==◌, List, ◌∷◌, map, codes, pos}
use Rattle.std.specs.List.{filter, range_with_len}
use Rattle.json_terms.specs.Json.{Json, number, is_true, object, array, string, no_items, item, no_members, member}
use Rattle.json_terms.specs.Text.{text_of}
use Rattle.load_lines.specs.Documents.{one_member, load_design, document, raised}

abbrev pub put_request : Json → Json
put_request doc = one_member (codes "put") doc

unfoldable pub view_request : Json
view_request = object
    (member (codes "query") (one_member (codes "group_level") (number (pos 1)))
    (member (codes "view") (array (item (string (codes "load")) (item (string (codes "by_group")) no_items))) no_members))

unfoldable pub info_request : Json
info_request = one_member (codes "info") is_true

unfoldable pub put_line : Json → List ℕ
put_line doc = text_of (put_request doc)

unfoldable pub view_line : List ℕ
view_line = text_of view_request

unfoldable pub info_line : List ℕ
info_line = text_of info_request

-- the numbers of the documents, from 1 on
abbrev pub numbers_to : ℕ → List ℕ
numbers_to docs = range_with_len 1 docs

-- of the documents that are raised: every third
abbrev pub thirds_to : ℕ → List ℕ
thirds_to docs = filter (λ k. k % 3 == 0) (numbers_to docs)

-- puts of the design document and of each document
unfoldable pub first_lines : ℕ → ℕ → List (List ℕ)
first_lines docs seed = put_line load_design ∷ map (λ k. put_line (document seed k)) (numbers_to docs)

-- puts of every third document, raised
unfoldable pub second_lines : ℕ → ℕ → List (List ℕ)
second_lines docs seed = map (λ k. put_line (raised seed k)) (thirds_to docs)
