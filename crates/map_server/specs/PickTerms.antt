-- What a proper program emits of a term are terms.
use Rattle.std.specs.Prelude.{ℕ, zero, suc, ◌+◌, List, [], ◌∷◌, ◌++◌, Bool, true, false, cond, ◌&&◌, pos, negsuc, Option, Some, None, bytes_eq, nat_le, slice_get, option_and_then, option_map}
use Rattle.std.specs.List.{AllByRecursion}
use Rattle.json_terms.specs.Json.{Json, number, is_false, is_null, is_true, object, array, string, Items, no_items, item, Members, no_members, member, items_of, list_of_items, depth}
use Rattle.json_terms.specs.Find.{find, member_of}
use Rattle.json_terms.specs.Terms.{IsTerm, AreTerms, AreMembers}
use Rattle.map_lang.specs.declared.syntax.Step.{Step}
use Rattle.map_lang.specs.declared.syntax.Step.TheVariants.{Member, Element, Key}
use Rattle.map_lang.specs.declared.syntax.Literal.{Literal}
use Rattle.map_lang.specs.declared.syntax.Literal.TheVariants as written
use Rattle.map_lang.specs.Syntax as syntax
use Rattle.map_lang.specs.Meaning.{Scope, value_of_name, elements, stepped, walked, literal_value, all_there, value_of, values_of, Event, turn, emission, emitted, are_equal, turns_of, each_turn, events_of, all_events, Run, goes_on, step, after, start, rows_of, document_scope, text_length, turn_limit, depth_limit, byte_limit}
use Rattle.map_server.specs.Programs.{IsProperLiteral, IsProper, AreProper, IsProperStmt, AreProperStmts}

-- a value that is there is a term
abbrev IfThere : Option Json → Type 0
IfThere None = Unit {0}
IfThere (Some t) = IsTerm t

abbrev AllThere : Option (List Json) → Type 0
AllThere None = Unit {0}
AllThere (Some ts) = AllByRecursion IsTerm ts

abbrev IsVariable : List ℕ × Json → Type 0
IsVariable v = IsTerm v.1

abbrev AreVariables : Scope → Type 0
AreVariables scope = AllByRecursion IsVariable scope

-- ---- values

or_else : (b : Bool) (t : Json) (o : Option Json) → IsTerm t → IfThere o → IfThere (cond b (Some t) o)
or_else true t o h k = h
or_else false t o h k = k

find_term : (name : List ℕ) (ms : Members) → AreMembers ms → IfThere (find name ms)
find_term name no_members h = tt
find_term name (member n t ms) h = or_else (bytes_eq n name) t (find name ms) h.2 (find_term name ms h.3)

member_term : (name : List ℕ) (t : Json) → IsTerm t → IfThere (member_of name t)
member_term name (number n) h = tt
member_term name is_false h = tt
member_term name is_null h = tt
member_term name is_true h = tt
member_term name (object ms) h = find_term name ms h
member_term name (array ts) h = tt
member_term name (string s) h = tt

items_terms : (ts : Items) → AreTerms ts → AllByRecursion IsTerm (list_of_items ts)
items_terms no_items h = tt
items_terms (item t ts) h = (h.0, items_terms ts h.1)

elements_terms : (t : Json) → IsTerm t → AllByRecursion IsTerm (elements t)
elements_terms (number n) h = tt
elements_terms is_false h = tt
elements_terms is_null h = tt
elements_terms is_true h = tt
elements_terms (object ms) h = tt
elements_terms (array ts) h = items_terms ts h
elements_terms (string s) h = tt

get_term : (ts : List Json) (n : ℕ) → AllByRecursion IsTerm ts → IfThere (slice_get ts n)
get_term [] n h = tt
get_term (t ∷ ts) zero h = h.0
get_term (t ∷ ts) (suc n) h = get_term ts n h.1

step_term : (s : Step) (t : Json) → IsTerm t → IfThere (stepped s t)
step_term (Member name) t h = member_term name t h
step_term (Element (pos n)) t h = get_term (elements t) n (elements_terms t h)
step_term (Element (negsuc n)) t h = tt
step_term (Key name) t h = member_term name t h

then_term : (s : Step) (o : Option Json) → IfThere o → IfThere (option_and_then (stepped s) o)
then_term s None h = tt
then_term s (Some t) h = step_term s t h

walked_term : (ss : List Step) (o : Option Json) → IfThere o → IfThere (walked ss o)
walked_term [] o h = h
walked_term (s ∷ ss) o h = walked_term ss (option_and_then (stepped s) o) (then_term s o h)

name_term : (name : List ℕ) (scope : Scope) → AreVariables scope → IfThere (value_of_name name scope)
name_term name [] h = tt
name_term name (v ∷ vs) h = or_else (bytes_eq v.0 name) v.1 (value_of_name name vs) h.0 (name_term name vs h.1)

literal_term : (l : Literal) → IsProperLiteral l → IsTerm (literal_value l)
literal_term (written.Integer n) h = h
literal_term (written.Text t) h = h
literal_term written.True h = tt
literal_term written.False h = tt
literal_term written.Null h = tt

there_terms : (o : Option Json) (ts : Option (List Json)) → IfThere o → AllThere ts → AllThere (all_there o ts)
there_terms None ts h k = tt
there_terms (Some t) None h k = tt
there_terms (Some t) (Some ts) h k = (h, k)

terms_items : (ts : List Json) → AllByRecursion IsTerm ts → AreTerms (items_of ts)
terms_items [] h = tt
terms_items (t ∷ ts) h = (h.0, terms_items ts h.1)

array_term : (o : Option (List Json)) → AllThere o → IfThere (option_map (λ ts. array (items_of ts)) o)
array_term None h = tt
array_term (Some ts) h = terms_items ts h

mutual
  value_term : (scope : Scope) (e : syntax.Expr) → AreVariables scope → IsProper e → IfThere (value_of scope e)
  value_term scope (syntax.path name ss) vars h = walked_term ss (value_of_name name scope) (name_term name scope vars)
  value_term scope (syntax.literal l) vars h = literal_term l h
  value_term scope (syntax.array es) vars h = array_term (values_of scope es) (values_terms scope es vars h)

  values_terms : (scope : Scope) (es : syntax.Exprs) → AreVariables scope → AreProper es → AllThere (values_of scope es)
  values_terms scope syntax.no_exprs vars h = tt
  values_terms scope (syntax.expr e es) vars h = there_terms (value_of scope e) (values_of scope es) (value_term scope e vars h.0) (values_terms scope es vars h.1)

-- ---- events

abbrev IsEvent : Event → Type 0
IsEvent turn = Unit {0}
IsEvent (emission k v) = IsTerm k × IsTerm v

abbrev AreEvents : List Event → Type 0
AreEvents events = AllByRecursion IsEvent events

all_append : {A : Type 0} (P : A → Type 0) (xs ys : List A) → AllByRecursion P xs → AllByRecursion P ys → AllByRecursion P (xs ++ ys)
all_append P [] ys h k = k
all_append P (x ∷ xs) ys h k = (h.0, all_append P xs ys h.1 k)

emitted_events : (k v : Option Json) → IfThere k → IfThere v → AreEvents (emitted k v)
emitted_events None v h i = tt
emitted_events (Some k) None h i = tt
emitted_events (Some k) (Some v) h i = ((h, i), tt)

if_events : (b : Bool) (events : List Event) → AreEvents events → AreEvents (cond b events [])
if_events true events h = h
if_events false events h = tt

turns_terms : (o : Option Json) → IfThere o → AllByRecursion IsTerm (turns_of o)
turns_terms None h = tt
turns_terms (Some t) h = elements_terms t h

turn_events : (block : Json → List Event) → ((v : Json) → IsTerm v → AreEvents (block v)) → (vs : List Json) → AllByRecursion IsTerm vs → AreEvents (each_turn block vs)
turn_events block each [] h = tt
turn_events block each (v ∷ vs) h = (tt, all_append IsEvent (block v) (each_turn block vs) (each v h.0) (turn_events block each vs h.1))

mutual
  stmt_events : (s : syntax.Stmt) (scope : Scope) → AreVariables scope → IsProperStmt s → AreEvents (events_of s scope)
  stmt_events (syntax.emit key value) scope vars h = emitted_events (value_of scope key) (value_of scope value) (value_term scope key vars h.0) (value_term scope value vars h.1)
  stmt_events (syntax.when left right block) scope vars h = if_events (are_equal (value_of scope left) (value_of scope right)) (all_events block scope) (stmts_events block scope vars h.2)
  stmt_events (syntax.each name source block) scope vars h =
      turn_events (λ v. all_events block (scope ++ (name, v) ∷ [])) (λ v is. stmts_events block (scope ++ (name, v) ∷ []) (all_append IsVariable scope ((name, v) ∷ []) vars (is, tt)) h.1)
      (turns_of (value_of scope source)) (turns_terms (value_of scope source) (value_term scope source vars h.0))

  stmts_events : (ss : syntax.Stmts) (scope : Scope) → AreVariables scope → AreProperStmts ss → AreEvents (all_events ss scope)
  stmts_events syntax.no_stmts scope vars h = tt
  stmts_events (syntax.stmt s ss) scope vars h = all_append IsEvent (events_of s scope) (all_events ss scope) (stmt_events s scope vars h.0) (stmts_events ss scope vars h.1)

-- ---- rows

abbrev pub IsRowOfTerms : Json × Json → Type 0
IsRowOfTerms row = IsTerm row.0 × IsTerm row.1

abbrev HasTerms : Run → Type 0
HasTerms run = AllByRecursion IsRowOfTerms run.rows

turn_terms : (run : Run) (b : Bool) → HasTerms run → HasTerms (cond b (record run { turns = run.turns + 1 }) (record run { ended = true }))
turn_terms run true h = h
turn_terms run false h = h

emission_terms : (run : Run) (k v : Json) (b : Bool) → IsTerm k → IsTerm v → HasTerms run
    → HasTerms (cond b (record run { rows = run.rows ++ (k, v) ∷ []; bytes = run.bytes + text_length k v }) (record run { ended = true }))
emission_terms run k v true i j h = all_append IsRowOfTerms run.rows ((k, v) ∷ []) h ((i, j), tt)
emission_terms run k v false i j h = h

goes_on_terms : (run : Run) (event : Event) → IsEvent event → HasTerms run → HasTerms (goes_on run event)
goes_on_terms run turn e h = turn_terms run (nat_le (run.turns + 1) turn_limit) h
goes_on_terms run (emission k v) e h = emission_terms run k v ((nat_le (depth k) depth_limit && nat_le (depth v) depth_limit) && nat_le (run.bytes + text_length k v) byte_limit) e.0 e.1 h

step_terms : (run : Run) (event : Event) (b : Bool) → IsEvent event → HasTerms run → HasTerms (cond b run (goes_on run event))
step_terms run event true e h = h
step_terms run event false e h = goes_on_terms run event e h

after_terms : (run : Run) (events : List Event) → AreEvents events → HasTerms run → HasTerms (after run events)
after_terms run [] each h = h
after_terms run (e ∷ events) each h = after_terms (step run e) events each.1 (step_terms run e run.ended each.0 h)

-- the rows that a proper program gives of a term
pub rows_of_terms : (program : syntax.Stmts) (document : Json) → AreProperStmts program → IsTerm document → AllByRecursion IsRowOfTerms (rows_of program document)
rows_of_terms program document proper is =
    after_terms start (all_events program (document_scope document)) (stmts_events program (document_scope document) (is, tt) proper) tt
