-- What a program gives of a document.
use Rattle.std.specs.Prelude.{ℕ, ◌+◌, List, [], ◌∷◌, ◌++◌, length, Bool, true, false, ◌&&◌, ℤ, pos, negsuc, nat_le, Option, Some, None, bytes_eq, option_and_then, option_map, if◌then◌else◌, fold, slice_get}
use Rattle.std.specs.Ordering.{is_eq}
use Rattle.json_terms.specs.Json.{Json, number, is_false, is_null, is_true, object, array, string, items_of, list_of_items, depth}
use Rattle.json_terms.specs.Find.{member_of}
use Rattle.json_terms.specs.Text as text
use Rattle.raw_collation.specs.Collation.{json_cmp}
use Rattle.map_lang.specs.declared.syntax.Step.{Step}
use Rattle.map_lang.specs.declared.syntax.Step.TheVariants.{Member, Element, Key}
use Rattle.map_lang.specs.declared.syntax.Literal.{Literal}
use Rattle.map_lang.specs.declared.syntax.Literal.TheVariants as written
use Rattle.map_lang.specs.Syntax as syntax
use Rattle.map_lang.specs.Grammar.{document_name}

-- variables and their values
abbrev pub Scope : Type 0
Scope = List (List ℕ × Json)

-- the value of the first variable with this name
abbrev pub value_of_name : List ℕ → Scope → Option Json
value_of_name name [] = None
value_of_name name (v ∷ vs) = if bytes_eq v.0 name then Some v.1 else value_of_name name vs

-- the elements of an array; nothing else has elements
abbrev pub elements : Json → List Json
elements (number n) = []
elements is_false = []
elements is_null = []
elements is_true = []
elements (object ms) = []
elements (array ts) = list_of_items ts
elements (string s) = []

-- the element at this place, counted from 0
abbrev pub element_at : ℤ → List Json → Option Json
element_at (pos n) ts = slice_get ts n
element_at (negsuc n) ts = None

abbrev pub stepped : Step → Json → Option Json
stepped (Member name) t = member_of name t
stepped (Element n) t = element_at n (elements t)
stepped (Key name) t = member_of name t

-- the steps, one after another; where one gives nothing, nothing
abbrev pub walked : List Step → Option Json → Option Json
walked [] t = t
walked (s ∷ ss) t = walked ss (option_and_then (stepped s) t)

abbrev pub literal_value : Literal → Json
literal_value (written.Integer n) = number n
literal_value (written.Text t) = string t
literal_value written.True = is_true
literal_value written.False = is_false
literal_value written.Null = is_null

-- an array whose every part is there
abbrev pub all_there : Option Json → Option (List Json) → Option (List Json)
all_there None ts = None
all_there (Some t) None = None
all_there (Some t) (Some ts) = Some (t ∷ ts)

abbrev mutual
  pub value_of : Scope → syntax.Expr → Option Json
  value_of scope (syntax.path name steps) = walked steps (value_of_name name scope)
  value_of scope (syntax.literal l) = Some (literal_value l)
  value_of scope (syntax.array es) = option_map (λ ts. array (items_of ts)) (values_of scope es)

  pub values_of : Scope → syntax.Exprs → Option (List Json)
  values_of scope syntax.no_exprs = Some []
  values_of scope (syntax.expr e es) = all_there (value_of scope e) (values_of scope es)

-- what happens in a run: a turn of a `for`, or an emission
pub data Event : Type 0 where
  turn : Event
  emission : Json → Json → Event

-- an `emit` gives an emission where both parts are there
abbrev pub emitted : Option Json → Option Json → List Event
emitted None value = []
emitted (Some k) None = []
emitted (Some k) (Some v) = emission k v ∷ []

-- both values are there and are equal
abbrev pub are_equal : Option Json → Option Json → Bool
are_equal None right = false
are_equal (Some l) None = false
are_equal (Some l) (Some r) = is_eq (json_cmp l r)

-- the elements of a value that is there
abbrev pub turns_of : Option Json → List Json
turns_of None = []
turns_of (Some t) = elements t

-- a turn for each value, and what the block then does
abbrev pub each_turn : (Json → List Event) → List Json → List Event
each_turn block [] = []
each_turn block (v ∷ vs) = turn ∷ (block v ++ each_turn block vs)

-- what happens, in order, if no limit ends the run
abbrev mutual
  pub events_of : syntax.Stmt → Scope → List Event
  events_of (syntax.emit key value) scope = emitted (value_of scope key) (value_of scope value)
  events_of (syntax.when left right block) scope = if are_equal (value_of scope left) (value_of scope right) then all_events block scope else []
  events_of (syntax.each name source block) scope = each_turn (λ v. all_events block (scope ++ (name, v) ∷ [])) (turns_of (value_of scope source))

  pub all_events : syntax.Stmts → Scope → List Event
  all_events syntax.no_stmts scope = []
  all_events (syntax.stmt s ss) scope = events_of s scope ++ all_events ss scope

-- A run so far: the rows that it gave, the bytes of all their texts, its turns, and whether it has ended.
pub record Run : Type 0 where
  pub rows : List (Json × Json)
  pub bytes : ℕ
  pub turns : ℕ
  pub ended : Bool

-- the texts of all keys and values of a run have so many bytes at most
abbrev pub byte_limit : ℕ
byte_limit = 1048576

-- a key or a value that is emitted is so deep at most
abbrev pub depth_limit : ℕ
depth_limit = 96

-- a run has so many turns at most
abbrev pub turn_limit : ℕ
turn_limit = 100000

abbrev pub text_length : Json → Json → ℕ
text_length k v = length (text.text_of k) + length (text.text_of v)

-- the next event, or the end in its place
abbrev pub goes_on : Run → Event → Run
goes_on run turn = if nat_le (run.turns + 1) turn_limit then record run { turns = run.turns + 1 } else record run { ended = true }
goes_on run (emission k v) =
    if nat_le (depth k) depth_limit && nat_le (depth v) depth_limit && nat_le (run.bytes + text_length k v) byte_limit then record run { rows = run.rows ++ (k, v) ∷ []; bytes = run.bytes + text_length k v } else record run { ended = true }

-- nothing happens in a run that has ended
abbrev pub step : Run → Event → Run
step run event = if run.ended then run else goes_on run event

abbrev pub after : Run → List Event → Run
after = fold step

abbrev pub start : Run
start = record { rows = []; bytes = 0; turns = 0; ended = false }

-- the document is a variable from the start
abbrev pub document_scope : Json → Scope
document_scope document = (document_name, document) ∷ []

-- the rows that a program gives of a document
abbrev pub rows_of : syntax.Stmts → Json → List (Json × Json)
rows_of program document = (after start (all_events program (document_scope document))).rows
