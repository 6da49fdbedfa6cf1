-- The rows of a reply, and of an honest answer.
use Rattle.std.proofs.Common.{◌≡◌, ◌≢◌, ℕ, List, [], ◌∷◌, length, map, Bool, true, false, ◌&&◌, cond, nat_eq, Option, Some, None, Result, Ok, Err, option_map, option_and_then, IfOk, refl, sym, ap, ◌∙◌, subst, inl, inr, eq-eqb, arith}
use Rattle.std.specs.List.{AllByRecursion}
use Rattle.std.proofs.lemmas.Bool.{and_parts, eqb-true, le-leb}
use Rattle.json_terms.specs.Json.{Json, Items, no_items, item, items_of}
use Rattle.json_terms.specs.Kinds.{items_in, two_in}
use Rattle.json_terms.specs.Reading.{reading}
use Rattle.json_terms.specs.declared.fault.TermFault.{TermFault}
use Rattle.view_ports.specs.Calls.{is_log, is_log_term, is_short}
use Rattle.view_ports.specs.Functions.{AreProper, IsRowWithinBounds, lists_term, rows_term, pair_term, line_limit}
use Rattle.view_ports.specs.Honest.{Spells}
use Rattle.view_ports.proofs.Fields.{lists_are_no_log}
use Rattle.query_protocol.specs.declared.reply.Kind.{Kind}
use Rattle.query_protocol.specs.declared.reply.Kind.TheVariants as kind
use Rattle.query_protocol.specs.declared.reply.Reply.{Reply}
use Rattle.query_protocol.specs.declared.reply.Reply.TheVariants as reply
use Rattle.query_protocol.specs.Replies.{AreFew, HasFewRows, reply_of, reply_read, reply_in, answer_in, counted, is_within_bounds, lists_in, lists_of_items, row_in, row_within, rows_in, rows_of_items}
use Rattle.query_protocol.proofs.RowCounts.{few_rows}
use Rattle.child_pool.specs.declared.heard.Heard.{Heard}
use Rattle.child_pool.specs.declared.heard.Heard.TheVariants.{Failed, Log, Answer}
use Rattle.child_pool.specs.declared.pool_fault.PoolFault.{PoolFault}
use Rattle.child_pool.specs.Hearing.{HasBoundedAnswer, HasBoundedParts, IsHeard}
use Rattle.child_pool.specs.Mapping.{AreBoundedRows, AreParts, IsPart}
use Rattle.child_pool.specs.Pools.{rows_said}
use Rattle.child_pool.proofs.Parts.{part_within, within}
use Rattle.child_pool.proofs.Replies.{chosen, reply_is_log}
use Rattle.child_pool.proofs.ValueReplies.{bounded_value}

-- ---- what a reply with rows can be

abbrev IsRowOfParts : Json × Json → Type 0
IsRowOfParts row = IsPart row.0 × IsPart row.1

row_chosen : (key value : Json) (b : Bool) → (is_within_bounds key && is_within_bounds value) ≡ b → (row : Json × Json) → cond b (Some (key, value)) None ≡ Some row → IsRowOfParts row
row_chosen key value true is row e =
    let both = and_parts (is_within_bounds key) (is_within_bounds value) is in
    let same : (key, value) ≡ row = cc in
    subst IsRowOfParts same (part_within key both.0, part_within value both.1)
row_chosen key value false is row e = absurd cc

row_parts : (o : Option (Json × Json)) (row : Json × Json) → row_within o ≡ Some row → IsRowOfParts row
row_parts None row e = absurd cc
row_parts (Some (key, value)) row e = row_chosen key value (is_within_bounds key && is_within_bounds value) refl row e

-- one more of a list that was read
one_parts : {X : Type 0} (P : X → Type 0) (o : Option X) (others : Option (List X)) (xs : List X) → ((x : X) → o ≡ Some x → P x) → ((ys : List X) → others ≡ Some ys → AllByRecursion P ys)
    → option_and_then (λ x. option_map (λ ys. x ∷ ys) others) o ≡ Some xs → AllByRecursion P xs
one_parts P None others xs one rest e = absurd cc
one_parts P (Some x) None xs one rest e = absurd cc
one_parts P (Some x) (Some ys) xs one rest e = let same : x ∷ ys ≡ xs = cc in subst (AllByRecursion P) same (one x refl, rest ys refl)

rows_parts : (ts : Items) (rows : List (Json × Json)) → rows_of_items ts ≡ Some rows → AllByRecursion IsRowOfParts rows
rows_parts no_items rows e = let same : [] ≡ rows = cc in subst (AllByRecursion IsRowOfParts) same tt
rows_parts (item t ts) rows e =
    one_parts IsRowOfParts (row_in t) (rows_of_items ts) rows (λ row is. row_parts (option_and_then two_in (items_in t)) row is) (rows_parts ts) e

rows_within : (o : Option Items) (rows : List (Json × Json)) → option_and_then rows_of_items o ≡ Some rows → AllByRecursion IsRowOfParts rows
rows_within None rows e = absurd cc
rows_within (Some ts) rows e = rows_parts ts rows e

lists_parts : (ts : Items) (lists : List (List (Json × Json))) → lists_of_items ts ≡ Some lists → AreParts lists
lists_parts no_items lists e = let same : [] ≡ lists = cc in subst AreParts same tt
lists_parts (item t ts) lists e =
    one_parts (AllByRecursion IsRowOfParts) (rows_in t) (lists_of_items ts) lists (λ rows is. rows_within (items_in t) rows is) (lists_parts ts) e

lists_within : (o : Option Items) (lists : List (List (Json × Json))) → option_and_then lists_of_items o ≡ Some lists → AreParts lists
lists_within None lists e = absurd cc
lists_within (Some ts) lists e = lists_parts ts lists e

-- rows as many as are counted
abbrev pub AreCounted : ℕ → Reply → Type 0
AreCounted count said = (rows : List (List (Json × Json))) × (said ≡ reply.Rows rows) × (length rows ≡ count) × AreParts rows

counted_rows : (count : ℕ) (rows : List (List (Json × Json))) → AreParts rows → (b : Bool) → nat_eq (length rows) count ≡ b → (said : Reply) → option_map reply.Rows (cond b (Some rows) None) ≡ Some said → AreCounted count said
counted_rows count rows parts true is said e = let same : said ≡ reply.Rows rows = cc in (rows, same, eqb-true (length rows) count is, parts)
counted_rows count rows parts false is said e = absurd cc

mapped_rows : (count : ℕ) (o : Option (List (List (Json × Json)))) → ((rows : List (List (Json × Json))) → o ≡ Some rows → AreParts rows) → (said : Reply) → option_map reply.Rows (option_and_then (counted count) o) ≡ Some said → AreCounted count said
mapped_rows count None parts said e = absurd cc
mapped_rows count (Some rows) parts said e = counted_rows count rows (parts rows refl) (nat_eq (length rows) count) refl said e

rows_read : (count : ℕ) (short : Bool) (r : Result Json TermFault) (said : Reply) → said ≢ reply.Log → reply_read (kind.Rows count) short r ≡ Some said → AreCounted count said
rows_read count short (Err fault) said other e = absurd cc
rows_read count short (Ok t) said other e = elim (chosen (is_log_term t) (Some reply.Log) (cond short (answer_in (kind.Rows count) t) None) (Some said) e) [
  | inl log ↦ let f : Some reply.Log ≡ Some said = log.1 in let same : said ≡ reply.Log = cc in absurd (other same)
  | inr answer ↦ elim (chosen short (answer_in (kind.Rows count) t) None (Some said) answer.1) [
    | inl proper ↦ mapped_rows count (option_and_then lists_of_items (items_in t)) (lists_within (items_in t)) said proper.1
    | inr long ↦ let f : None ≡ Some said = long.1 in absurd cc
  ]
]

pub rows_reply : (count : ℕ) (line : List ℕ) (said : Reply) → said ≢ reply.Log → reply_of (kind.Rows count) line ≡ Some said → AreCounted count said
rows_reply count line said other e = rows_read count (is_short line) (reading line) said other e

few_said : (said : Reply) → HasFewRows said → AreFew (rows_said said)
few_said (reply.Rows rows) few = few
few_said reply.Log few = omega arith
few_said reply.Yes few = omega arith
few_said (reply.Value value) few = omega arith
few_said reply.Compile few = omega arith

pub bounded_rows : (count : ℕ) (line : List ℕ) (said : Reply) → said ≢ reply.Log → reply_of (kind.Rows count) line ≡ Some said → AreBoundedRows count (rows_said said)
bounded_rows count line said other e =
    let found = rows_reply count line said other e in
    record {
      each = ap (λ (saying : Reply). length (rows_said saying)) found.1 ∙ found.2;
      parts = subst (λ (saying : Reply). AreParts (rows_said saying)) (sym found.1) found.3;
      few = few_said said (few_rows (kind.Rows count) line said e);
    }

-- an answer has bounded rows or a bounded value, where its prompt asks for them
answer_bounded : (asked : Kind) (line : List ℕ) (said : Reply) → is_log line ≡ false → reply_of asked line ≡ Some said → HasBoundedParts asked said
answer_bounded kind.Reset line said no_log e = tt
answer_bounded kind.Source line said no_log e = tt
answer_bounded (kind.Rows count) line said no_log e = bounded_rows count line said (λ same. let log = reply_is_log (kind.Rows count) line (e ∙ ap Some same) in cc) e
answer_bounded kind.Value line said no_log e = bounded_value line said e

pub heard_bounded : (asked : Kind) (logs : ℕ) (line : List ℕ) (result : Result Heard PoolFault) → IsHeard asked logs line result → IfOk result (HasBoundedAnswer asked)
heard_bounded asked logs line (Ok Failed) heard = tt
heard_bounded asked logs line (Ok Log) heard = tt
heard_bounded asked logs line (Ok (Answer said)) heard = answer_bounded asked line said heard.0 heard.1
heard_bounded asked logs line (Err fault) heard = tt

-- ---- proper rows are read

row_read : (row : Json × Json) → IsRowWithinBounds row → row_in (pair_term row) ≡ Some row
row_read (key, value) w = rw (within key w.0, within value w.1) refl

rows_of_items-terms : (rows : List (Json × Json)) → AllByRecursion IsRowWithinBounds rows → rows_of_items (items_of (map pair_term rows)) ≡ Some rows
rows_of_items-terms [] w = refl
rows_of_items-terms (row ∷ rows) w = rw (row_read row w.0, rows_of_items-terms rows w.1) refl

lists_of_items-terms : (lists : List (List (Json × Json))) → AllByRecursion (AllByRecursion IsRowWithinBounds) lists → lists_of_items (items_of (map rows_term lists)) ≡ Some lists
lists_of_items-terms [] w = refl
lists_of_items-terms (rows ∷ lists) w = rw (rows_of_items-terms rows w.0, lists_of_items-terms lists w.1) refl

lists_in-term : (lists : List (List (Json × Json))) (count : ℕ) → AllByRecursion (AllByRecursion IsRowWithinBounds) lists → length lists ≡ count → lists_in count (lists_term lists) ≡ Some lists
lists_in-term lists count w many =
    let here : nat_eq (length lists) count ≡ true = eq-eqb (length lists) count many in
    ap (option_and_then (counted count)) (lists_of_items-terms lists w) ∙ rw here refl

proper_read : (count : ℕ) (lists : List (List (Json × Json))) → AreProper lists → length lists ≡ count → reply_in (kind.Rows count) true (lists_term lists) ≡ Some (reply.Rows lists)
proper_read count lists proper many = rw (lists_are_no_log lists, lists_in-term lists count proper.bounded many) refl

-- a proper answer's rows are its reply
pub proper_reply : (count : ℕ) (lists : List (List (Json × Json))) (line : List ℕ) → Spells line (lists_term lists) → AreProper lists → length lists ≡ count → reply_of (kind.Rows count) line ≡ Some (reply.Rows lists)
proper_reply count lists line spells proper many =
    let short : is_short line ≡ true = le-leb (length line) line_limit spells.short in
    ap (reply_read (kind.Rows count) (is_short line)) spells.spelled ∙ ap (λ (b : Bool). reply_in (kind.Rows count) b (lists_term lists)) short ∙ proper_read count lists proper many
