-- The line of a command is one line, and reads as the command.
use Rattle.std.proofs.Common.{◌≡◌, ◌≤◌, List, [], ◌∷◌, Some, Result, Ok, Err, OnOk, map, codes, refl, ap, arith}
use Rattle.std.proofs.lemmas.Bool.{le-leb}
use Rattle.std.proofs.lemmas.Str.{IsUtf8-from_is_utf8}
use Rattle.std.specs.Str.{is_utf8, chars}
use lib.Utf8.{encode}
use Rattle.json_terms.specs.declared.fault.NoMemory.{NoMemory}
use Rattle.json_terms.specs.Json.{Json, object, array, string, items_of, members_of, depth}
use Rattle.json_terms.specs.Reading.{depth_limit}
use Rattle.json_terms.specs.Terms.{IsTerm}
use Rattle.json_terms.specs.Text.{text_of}
use Rattle.json_terms.proofs.OneLine.{line-text_of}
use Rattle.json_terms.proofs.ReadBack.{reading-text_of}
use Rattle.json_terms.proofs.Sames.{list_of_items-items_of, list_of_members-members_of}
use Rattle.view_ports.specs.declared.command.Command.{Command}
use Rattle.view_ports.specs.declared.command.Command.TheVariants.{Reset, AddFun, MapDoc, Reduce, Rereduce, Other}
use Rattle.view_ports.specs.Commands.{command, command_of, command_term, document_depth, list2, reduce_row_term, reduce_rows_of, rows_in, unless_deep, values_in}
use Rattle.view_ports.specs.Functions.{IsSomeList}
use Rattle.view_ports.specs.ReduceRow.{ReduceRow}
use Rattle.view_ports.proofs.Counted.{document_in-some}
use Rattle.query_protocol.specs.CommandLines.{command_line, document_of, IsDocument, IsProperCommand, IsWhole, ReadsBack}

pub line_of : (c : Command) → command_line c ≡ text_of (command_term c)
unfolding command_line
line_of c = refl

pub whole : (c : Command) → IsTerm (command_term c) → IsWhole (command_line c)
unfolding command_line
whole c valid = line-text_of (command_term c) valid

-- ---- a command's term is that command

reduce_rows_of-terms : (rows : List ReduceRow) → reduce_rows_of (items_of (map reduce_row_term rows)) ≡ Some rows
reduce_rows_of-terms [] = refl
reduce_rows_of-terms (row ∷ rows) = rw (reduce_rows_of-terms rows) refl

rows_in-terms : (rows : List ReduceRow) → IsSomeList rows → rows_in (array (items_of (map reduce_row_term rows))) ≡ Some rows
rows_in-terms [] some = absurd some
rows_in-terms (row ∷ rows) some = rw (reduce_rows_of-terms rows) refl

values_in-terms : (values : List Json) → IsSomeList values → values_in (array (items_of values)) ≡ Some values
values_in-terms [] some = absurd some
values_in-terms (value ∷ values) some = ap (λ vs. Some (value ∷ vs)) (list_of_items-items_of values)

command_of-term : (c : Command) → IsProperCommand c → command_of (command_term c) ≡ c
command_of-term Reset proper = refl
command_of-term (AddFun source) proper = refl
command_of-term (MapDoc document) proper =
    let t : Json = object (members_of document) in
    let shallow : unless_deep t ≡ Some t = rw (le-leb (depth t) document_depth proper) refl in
    rw (← document_in-some t document shallow) refl
command_of-term (Reduce source rows) proper = rw (rows_in-terms rows proper) refl
command_of-term (Rereduce source values) proper = rw (values_in-terms values proper) refl
command_of-term Other proper = absurd proper

pub reads : (c : Command) → IsTerm (command_term c) → depth (command_term c) ≤ depth_limit → ReadsBack c
unfolding command command_line
reads c valid shallow = λ proper. rw (reading-text_of (command_term c) valid shallow) (command_of-term c proper)

-- ---- documents

pub mapped : (t : Json) → IsDocument t → command_term (MapDoc (document_of t)) ≡ list2 (string (codes "map_doc")) t
mapped t is = rw is.is (ap (λ ms. list2 (string (codes "map_doc")) (object (members_of ms))) (list_of_members-members_of is.members))

pub mapped_is_term : (t : Json) → IsTerm t → IsTerm (list2 (string (codes "map_doc")) t)
unfolding is_utf8 chars encode
mapped_is_term t valid = (IsUtf8-from_is_utf8 (codes "map_doc") refl, (valid, tt))

pub mapped_depth : (t : Json) → IsDocument t → depth (list2 (string (codes "map_doc")) t) ≤ depth_limit
mapped_depth t is = let e = is.shallow in omega arith

-- what holds anyway
pub any_ok : {P : Type 0} (r : Result (Unit {0}) NoMemory) → P → OnOk r P
any_ok (Ok value) p = p
any_ok (Err fault) p = tt
