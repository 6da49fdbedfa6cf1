-- What a session of the language `field` answers is what an honest server answers.
use Rattle.std.proofs.Common.{◌≡◌, ◌+◌, ◌≤◌, ℕ, List, [], ◌∷◌, map, length, false, Some, None, Option, Ok, refl, sym, ap, subst, arith, cond}
use Rattle.json_terms.specs.Json.{Json, is_true, object, string, no_items, item, items_of, members_of, depth, items_depth, members_depth}
use Rattle.json_terms.specs.Find.{find, member_of}
use Rattle.json_terms.specs.Reading.{reading, depth_limit}
use Rattle.json_terms.specs.Text.{text_of}
use Rattle.json_terms.proofs.Parts.{depth-find, length-text_of-array, length-text_of-string}
use Rattle.view_ports.specs.declared.command.Command.TheVariants.{AddFun, MapDoc}
use Rattle.view_ports.specs.Calls.{is_log, is_log_term, is_log_read, is_yes, is_yes_read, is_yes_term}
use Rattle.view_ports.specs.Commands.{three_strings}
use Rattle.view_ports.specs.Functions.{line_limit, rows_term, lists_term}
use Rattle.view_ports.specs.FieldRows.{emitted, field_map}
use Rattle.view_ports.specs.Field.{field, is_member_name}
use Rattle.view_ports.specs.Honest.{Answers, IsAnswerable, IsTextOf, Spells, no_compilation, rows_of}

-- ---- log lines

pub is_log-read : (line : List ℕ) (t : Json) → reading line ≡ Ok t → is_log line ≡ is_log_term t
is_log-read line t e = ap is_log_read e

pub is_yes-read : (line : List ℕ) (t : Json) → reading line ≡ Ok t → is_yes line ≡ is_yes_term t
is_yes-read line t e = ap is_yes_read e

-- rows are no log line
pub lists_are_no_log : (lists : List (List (Json × Json))) → is_log_term (lists_term lists) ≡ false
lists_are_no_log [] = refl
lists_are_no_log (a ∷ []) = refl
lists_are_no_log (a ∷ b ∷ []) = refl
lists_are_no_log (a ∷ b ∷ c ∷ lists) = refl

-- ---- texts that are short

pub Spells-text : (t : Json) (line : List ℕ) → length (text_of t) ≤ line_limit → IsTextOf t line → Spells line t
Spells-text t line short is = record { short = subst (λ (text : List ℕ). length text ≤ line_limit) (sym is.text) short; spelled = is.spelled }

strings_are_short : (a b c : List ℕ) → length a + length b + length c ≤ 1000 → length (text_of (three_strings a b c)) ≤ line_limit
strings_are_short a b c few =
    let whole = length-text_of-array (item (string a) (item (string b) (item (string c) no_items))) in
    let x = length-text_of-string a in
    let y = length-text_of-string b in
    let z = length-text_of-string c in
    omega arith

pub Spells-strings : (a b c line : List ℕ) → length a + length b + length c ≤ 1000 → IsTextOf (three_strings a b c) line → Spells line (three_strings a b c)
Spells-strings a b c line few is = Spells-text (three_strings a b c) line (strings_are_short a b c few) is

-- ---- depths

emitted_depth : (found : Option Json) (most : ℕ) → ((v : Json) → found ≡ Some v → depth v ≤ most) → depth (rows_term (emitted found)) ≤ most + 2
emitted_depth None most h = omega arith
emitted_depth (Some v) most h = let e = h v refl in omega arith

lists_depth : (sources : List (List ℕ)) (document : List (List ℕ × Json)) → items_depth (items_of (map rows_term (map (λ source. field_map source document) sources))) ≤ members_depth (members_of document) + 2
lists_depth [] document = omega arith
lists_depth (source ∷ sources) document =
    let first = emitted_depth (find source (members_of document)) (members_depth (members_of document)) (λ v e. depth-find (members_of document) source v e) in
    let others = lists_depth sources document in
    omega arith

-- the rows of a document nest little deeper than the document
pub rows_depth : (sources : List (List ℕ)) (document : List (List ℕ × Json)) → depth (object (members_of document)) ≤ 64 → depth (lists_term (rows_of field sources document)) ≤ depth_limit
rows_depth sources document h = let e = lists_depth sources document in omega arith

-- ---- answers

pub Answers-add : (sources : List (List ℕ)) (source line : List ℕ) → Spells line (cond (is_member_name source) is_true no_compilation) → Answers field sources (AddFun source) line
Answers-add sources [] line spells = (spells.short, rw spells.spelled refl)
Answers-add sources (byte ∷ bytes) line spells = spells

pub Answers-map : (sources : List (List ℕ)) (document : List (List ℕ × Json)) (line : List ℕ) → IsTextOf (lists_term (rows_of field sources document)) line → IsAnswerable sources (MapDoc document) → Answers field sources (MapDoc document) line
Answers-map sources document line is asked = Spells-text (lists_term (rows_of field sources document)) line (field.proper_maps sources document asked.1 asked.0).short is

-- one map after another
pub rows_each : (sources : List (List ℕ)) (document : List (List ℕ × Json)) → map (λ source. rows_term (emitted (member_of source (object (members_of document))))) sources ≡ map rows_term (rows_of field sources document)
rows_each [] document = refl
rows_each (source ∷ sources) document = ap (λ rows. rows_term (field_map source document) ∷ rows) (rows_each sources document)
