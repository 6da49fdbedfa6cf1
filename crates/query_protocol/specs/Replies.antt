-- What a line means that a query server sent in reply to a command of some kind.
use Rattle.std.specs.Prelude.{◌≤◌, ℕ, List, [], ◌∷◌, length, sum_by, Bool, true, false, nat_eq, nat_le, ◌&&◌, if◌then◌else◌, Option, Some, None, option_map, option_and_then, Result, Ok, Err}
use Rattle.json_terms.specs.Json.{Json, Items, no_items, item, depth}
use Rattle.json_terms.specs.Kinds.{items_in, one_in, two_in}
use Rattle.json_terms.specs.Reading.{reading}
use Rattle.json_terms.specs.Seen.{term}
use Rattle.json_terms.specs.Text.{text_of}
use Rattle.json_terms.specs.declared.fault.TermFault.{TermFault}
use Rattle.view_ports.specs.Calls.{is_log_term, is_short, is_yes_term}
use Rattle.view_ports.specs.Functions.{line_limit, part_limit, part_depth}
use Rattle.view_ports.specs.Honest.{is_complaint_term}
use Rattle.query_protocol.specs.declared.reply.Kind.{Kind}
use Rattle.query_protocol.specs.declared.reply.Kind.TheVariants as kind
use Rattle.query_protocol.specs.declared.reply.Reply.{Reply}
use Rattle.query_protocol.specs.declared.reply.Reply.TheVariants.{Log, Yes, Rows, Value, Compile}

-- a key, a value or a result within the bounds
abbrev pub is_within_bounds : Json → Bool
is_within_bounds t = nat_le (length (text_of t)) part_limit && nat_le (depth t) part_depth

-- ---- the rows of one document: an array for each function, of `[KEY,VALUE]` within the bounds

abbrev pub row_within : Option (Json × Json) → Option (Json × Json)
row_within None = None
row_within (Some (key, value)) = if is_within_bounds key && is_within_bounds value then Some (key, value) else None

abbrev pub row_in : Json → Option (Json × Json)
row_in t = row_within (option_and_then two_in (items_in t))

abbrev pub rows_of_items : Items → Option (List (Json × Json))
rows_of_items no_items = Some []
rows_of_items (item t ts) = option_and_then (λ row. option_map (λ rows. row ∷ rows) (rows_of_items ts)) (row_in t)

abbrev pub rows_in : Json → Option (List (Json × Json))
rows_in t = option_and_then rows_of_items (items_in t)

abbrev pub lists_of_items : Items → Option (List (List (Json × Json)))
lists_of_items no_items = Some []
lists_of_items (item t ts) = option_and_then (λ rows. option_map (λ lists. rows ∷ lists) (lists_of_items ts)) (rows_in t)

-- as many lists as functions were added
abbrev pub counted : ℕ → List (List (Json × Json)) → Option (List (List (Json × Json)))
counted count lists = if nat_eq (length lists) count then Some lists else None

abbrev pub lists_in : ℕ → Json → Option (List (List (Json × Json)))
lists_in count t = option_and_then (counted count) (option_and_then lists_of_items (items_in t))

-- ---- the result of a reduction: `[true,[RESULT]]` within the bounds

abbrev pub if_within : Json → Option Json
if_within t = if is_within_bounds t then Some t else None

abbrev pub result_of_pair : Option (Json × Json) → Option Json
result_of_pair None = None
result_of_pair (Some (accepted, results)) = if is_yes_term accepted then option_and_then if_within (option_and_then one_in (items_in results)) else None

abbrev pub result_in : Json → Option Json
result_in t = result_of_pair (option_and_then two_in (items_in t))

-- ---- replies

-- the kinds of commands that may be answered with a complaint about the source
abbrev pub has_source : Kind → Bool
has_source kind.Reset = false
has_source kind.Source = true
has_source (kind.Rows count) = false
has_source kind.Value = true

abbrev pub yes_if : Bool → Option Reply
yes_if true = Some Yes
yes_if false = None

-- the answer that a term is
abbrev pub answer_in : Kind → Json → Option Reply
answer_in kind.Reset t = yes_if (is_yes_term t)
answer_in kind.Source t = yes_if (is_yes_term t)
answer_in (kind.Rows count) t = option_map Rows (lists_in count t)
answer_in kind.Value t = option_map (λ result. Value (term result)) (result_in t)

-- a log line, a complaint where the kind may have one, or an answer whose line is short enough
abbrev pub reply_in : Kind → Bool → Json → Option Reply
reply_in asked short t =
    if is_log_term t then Some Log
    else if has_source asked && is_complaint_term t then Some Compile
    else if short then answer_in asked t
    else None

abbrev pub reply_read : Kind → Bool → Result Json TermFault → Option Reply
reply_read asked short (Ok t) = reply_in asked short t
reply_read asked short (Err fault) = None

-- what the line means, or nothing where it is no proper reply
abbrev pub reply_of : Kind → List ℕ → Option Reply
reply_of asked line = reply_read asked (is_short line) (reading line)

-- a document has no more rows, over all functions, than a line may have bytes, so that they are fewer than 2^32
abbrev pub AreFew : List (List (Json × Json)) → Type 0
AreFew rows = sum_by (λ list. length list) rows ≤ line_limit

abbrev pub HasFewRows : Reply → Type 0
HasFewRows (Rows rows) = AreFew rows
HasFewRows Log = Unit {0}
HasFewRows Yes = Unit {0}
HasFewRows (Value value) = Unit {0}
HasFewRows Compile = Unit {0}
