-- What the lines of a load ask for.
use Rattle.std.specs.Prelude.{nat_lt, pos}
use Rattle.std.proofs.Common.{◌≡◌, ◌≢◌, ◌≤◌, ◌<◌, ◌^◌, ◌∙◌, ◌++◌, ℕ, List, [], ◌∷◌, false, length, codes, Some, Ok, refl, ap, arith}
use Rattle.std.specs.List.{AllByRecursion}
use Rattle.json_terms.specs.Json.{Json, depth, list_of_members, members_of, Members, number, object}
use Rattle.json_terms.specs.Reading.{reading}
use Rattle.json_terms.specs.Terms.{IsTerm}
use Rattle.std.proofs.lemmas.Bool.{le-ltb}
use Rattle.json_terms.proofs.OneLine.{line-text_of}
use Rattle.json_terms.proofs.Sames.{members_of-list_of_members}
use Rattle.design_docs.specs.Documents.{id_of, is_design_id}
use Rattle.view_ports.specs.Lines.{IsLine}
use Rattle.view_engine.specs.declared.request.Request.TheVariants.{Info, Put, View}
use Rattle.view_engine.specs.Refusals.{request_in, request_limit, request_of}
use Rattle.load_lines.specs.Documents.{document, load_design, raised}
use Rattle.load_lines.specs.Lines.{first_lines, second_lines, info_line, info_request, put_line, put_request, view_line, view_request}
use Rattle.load_lines.proofs.Each.{each_first, each_second}
use Rattle.load_lines.proofs.Ids.{document_id-not_design}
use Rattle.load_lines.proofs.Terms.{IsTerm-info_request, IsTerm-put_request, IsTerm-view_request, IsTerm-document, IsTerm-load_design, IsTerm-raised, depth-document, depth-load_design, depth-raised, reading-info_line, reading-put_line, reading-view_line, short-design_line, short-document_line, short-info_line, short-raised_line, short-view_line}
use Rattle.load_lines.proofs.Writable.{id_of-document, id_of-raised}
use Rattle.couchview_cli.specs.Loading.{load_lines}
use Rattle.couchview_cli.proofs.LoadMeaning.{IsPlainPut, WritesNone}

-- a line that is short is what it is read as
read_as : (line : List ℕ) (term : Json) → length line ≤ 1000 → reading line ≡ Ok term → request_of line ≡ request_in (Ok term)
unfolding request_of request_limit
read_as line term short is =
    let fits : nat_lt 2097152 (length line) ≡ false = le-ltb 2097152 (length line) (omega (arith, short)) in
    rw (fits, is) refl

-- what a put of this document is read as
abbrev pub AsksPut : Json → Type 0
AsksPut doc = (members : List (List ℕ × Json)) × (request_of (put_line doc) ≡ Ok (Put members)) × (object (members_of members) ≡ doc)

asks_of : (ms : Members) → IsTerm (object ms) → depth (object ms) ≤ 99 → length (put_line (object ms)) ≤ 1000 → AsksPut (object ms)
asks_of ms term shallow short = (
  list_of_members ms,
  read_as (put_line (object ms)) (put_request (object ms)) short (reading-put_line (object ms) term shallow),
  ap object (members_of-list_of_members ms),
)

pub design_asks : AsksPut load_design
unfolding load_design
design_asks = asks_of _ IsTerm-load_design (let shallow = depth-load_design in omega (arith, shallow)) short-design_line

pub document_asks : (seed k : ℕ) → seed < 2 ^ 31 → k ≤ 20000 → AsksPut (document seed k)
unfolding document
document_asks seed k low small = asks_of _ (IsTerm-document seed k low (omega (arith, small))) (let shallow = depth-document seed k in omega (arith, shallow)) (short-document_line seed k low (omega (arith, small)))

pub raised_asks : (seed k : ℕ) → seed < 2 ^ 31 → k ≤ 20000 → AsksPut (raised seed k)
unfolding raised
raised_asks seed k low small = asks_of _ (IsTerm-raised seed k low (omega (arith, small))) (let shallow = depth-raised seed k in omega (arith, shallow)) (short-raised_line seed k low (omega (arith, small)))

-- a put of a document without a design's id
plain_put : (doc : Json) → AsksPut doc → is_design_id (id_of doc) ≡ false → IsPlainPut (put_line doc)
plain_put doc asks plain = record { members = asks.0; asks = asks.1; plain = ap (λ (json : Json). is_design_id (id_of json)) asks.2 ∙ plain }

pub document_plain : (seed k : ℕ) → seed < 2 ^ 31 → k ≤ 20000 → IsPlainPut (put_line (document seed k))
document_plain seed k low small = plain_put (document seed k) (document_asks seed k low small) (ap is_design_id (id_of-document seed k) ∙ document_id-not_design k)

pub raised_plain : (seed k : ℕ) → seed < 2 ^ 31 → k ≤ 20000 → IsPlainPut (put_line (raised seed k))
raised_plain seed k low small = plain_put (raised seed k) (raised_asks seed k low small) (ap is_design_id (id_of-raised seed k) ∙ document_id-not_design k)

-- the view and `info`
pub view_asks : request_of view_line ≡ Ok (View (record { design = codes "load"; view = codes "by_group" }) (Some ((codes "group_level", number (pos 1)) ∷ [])))
unfolding view_request
view_asks = read_as view_line view_request short-view_line reading-view_line

pub info_asks : request_of info_line ≡ Ok Info
unfolding info_request
info_asks = read_as info_line info_request short-info_line reading-info_line

pub view_writes_none : WritesNone view_line
view_writes_none world = rw view_asks refl

pub info_writes_none : WritesNone info_line
info_writes_none world = rw info_asks refl

-- no line of a load is empty
pub put_some : (doc : Json) → put_line doc ≢ []
unfolding put_line
put_some doc is = cc

pub view_some : view_line ≢ []
unfolding view_line view_request
view_some is = cc

pub info_some : info_line ≢ []
unfolding info_line info_request
info_some is = cc

-- and each is one line
put_plain : (doc : Json) → IsTerm doc → IsLine (put_line doc)
unfolding put_line
put_plain doc term = line-text_of (put_request doc) (IsTerm-put_request doc term)

view_plain : IsLine view_line
unfolding view_line
view_plain = line-text_of view_request IsTerm-view_request

info_plain : IsLine info_line
unfolding info_line
info_plain = line-text_of info_request IsTerm-info_request

all_join : {A : Type 0} (P : A → Type 0) (xs ys : List A) → AllByRecursion P xs → AllByRecursion P ys → AllByRecursion P (xs ++ ys)
all_join P [] ys first second = second
all_join P (x ∷ xs) ys first second = (first.0, all_join P xs ys first.1 second)

each_of : (P : List ℕ → Type 0) (docs seed : ℕ) → P view_line → P info_line → AllByRecursion P (first_lines docs seed) → AllByRecursion P (second_lines docs seed) → AllByRecursion P (load_lines docs seed)
each_of P docs seed view info first second = all_join P (first_lines docs seed) _ first (view, all_join P (second_lines docs seed) _ second (view, (info, tt)))

pub each_line : (docs seed : ℕ) → seed < 2 ^ 31 → docs ≤ 20000 → AllByRecursion IsLine (load_lines docs seed)
each_line docs seed low few =
    each_of IsLine docs seed view_plain info_plain
    (each_first IsLine docs seed (put_plain _ IsTerm-load_design) (λ k one most. put_plain _ (IsTerm-document seed k low (omega (arith, most, few)))))
    (each_second IsLine docs seed (λ k one most third. put_plain _ (IsTerm-raised seed k low (omega (arith, most, few)))))

pub each_some : (docs seed : ℕ) → AllByRecursion (λ line. line ≢ []) (load_lines docs seed)
each_some docs seed =
    each_of (λ line. line ≢ []) docs seed view_some info_some
    (each_first (λ line. line ≢ []) docs seed (put_some _) (λ k one most. put_some _)) (each_second (λ line. line ≢ []) docs seed (λ k one most third. put_some _))
