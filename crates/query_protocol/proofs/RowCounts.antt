-- Each row is a value in an array of the reply, so that there are no more rows than a line may have bytes.
use Rattle.std.proofs.Common.{◌≡◌, ◌⊎◌, inl, inr, ◌≤◌, ℕ, suc, List, [], ◌∷◌, length, Bool, true, false, ◌&&◌, cond, nat_eq, Option, Some, None, option_map, option_and_then, Result, Ok, Err, refl, ap, subst, arith}
use Rattle.std.specs.Prelude.{sum_by}
use Rattle.std.proofs.lemmas.Bool.{leb-true}
use Rattle.std.proofs.lemmas.List.Sums.{sum_by-cons}
use Rattle.json_terms.specs.Json.{Json, number, is_false, is_null, is_true, object, array, string, Items, no_items, item}
use Rattle.json_terms.specs.Kinds.{items_in}
use Rattle.json_terms.specs.Reading.{reading}
use Rattle.json_terms.specs.Seen.{term}
use Rattle.json_terms.specs.declared.fault.TermFault.{TermFault}
use Rattle.json_terms.proofs.ValueCounts.{mapped_some, then_some, values_in, values_in_items, values_in-reading}
use Rattle.view_ports.specs.Calls.{is_log_term, is_short, is_yes_term}
use Rattle.view_ports.specs.Functions.{line_limit}
use Rattle.view_ports.specs.Honest.{is_complaint_term}
use Rattle.query_protocol.specs.declared.reply.Kind.{Kind}
use Rattle.query_protocol.specs.declared.reply.Kind.TheVariants as kind
use Rattle.query_protocol.specs.declared.reply.Reply.{Reply}
use Rattle.query_protocol.specs.declared.reply.Reply.TheVariants as reply
use Rattle.query_protocol.specs.Replies.{AreFew, HasFewRows, answer_in, counted, has_source, lists_in, lists_of_items, reply_of, reply_read, result_in, row_in, rows_in, rows_of_items, yes_if}

some_value : (t : Json) → 1 ≤ values_in t
some_value (number n) = omega arith
some_value is_false = omega arith
some_value is_null = omega arith
some_value is_true = omega arith
some_value (object ms) = omega arith
some_value (array ts) = omega arith
some_value (string s) = omega arith

-- one more of a list that was read
one_more : {X : Type 0} (o : Option X) (others : Option (List X)) (xs : List X) → option_and_then (λ x. option_map (λ ys. x ∷ ys) others) o ≡ Some xs
    → (x : X) × (ys : List X) × (o ≡ Some x) × (others ≡ Some ys) × (xs ≡ x ∷ ys)
one_more None others xs e = absurd cc
one_more (Some x) None xs e = absurd cc
one_more (Some x) (Some ys) xs e = (x, ys, refl, refl, cc)

rows_counted : (ts : Items) (rows : List (Json × Json)) → rows_of_items ts ≡ Some rows → length rows ≤ values_in_items ts
rows_counted no_items rows e = let same : [] ≡ rows = cc in omega (arith, ap (λ (l : List (Json × Json)). length l) same)
rows_counted (item t ts) rows e =
    let more = one_more (row_in t) (rows_of_items ts) rows e in
    let whole : length rows ≡ suc (length more.1) = ap (λ (l : List (Json × Json)). length l) more.4 in
    omega (arith, whole, rows_counted ts more.1 more.3, some_value t)

rows_in_counted : (t : Json) (rows : List (Json × Json)) → rows_in t ≡ Some rows → length rows ≤ values_in t
rows_in_counted (array ts) rows e = omega (arith, rows_counted ts rows e)
rows_in_counted (number n) rows e = absurd cc
rows_in_counted is_false rows e = absurd cc
rows_in_counted is_null rows e = absurd cc
rows_in_counted is_true rows e = absurd cc
rows_in_counted (object ms) rows e = absurd cc
rows_in_counted (string s) rows e = absurd cc

lists_counted : (ts : Items) (lists : List (List (Json × Json))) → lists_of_items ts ≡ Some lists → sum_by (λ list. length list) lists ≤ values_in_items ts
lists_counted no_items lists e = let same : [] ≡ lists = cc in omega (arith, ap (sum_by (λ (list : List (Json × Json)). length list)) same)
lists_counted (item t ts) lists e =
    let more = one_more (rows_in t) (lists_of_items ts) lists e in
    let count = λ (list : List (Json × Json)). length list in
    let whole : sum_by count lists ≡ sum_by count (more.0 ∷ more.1) = ap (sum_by count) more.4 in
    omega (arith, whole, sum_by-cons count more.0 more.1, rows_in_counted t more.0 more.2, lists_counted ts more.1 more.3)

-- the lists of an array that has no more values than this
lists_few : (t : Json) → values_in t ≤ suc line_limit → (lists : List (List (Json × Json))) → option_and_then lists_of_items (items_in t) ≡ Some lists → AreFew lists
lists_few (array ts) few lists e = omega (arith, few, lists_counted ts lists e)
lists_few (number n) few lists e = absurd cc
lists_few is_false few lists e = absurd cc
lists_few is_null few lists e = absurd cc
lists_few is_true few lists e = absurd cc
lists_few (object ms) few lists e = absurd cc
lists_few (string s) few lists e = absurd cc

-- ---- answers and replies

yes_few : (yes : Bool) (said : Reply) → yes_if yes ≡ Some said → HasFewRows said
yes_few true said e = let same : reply.Yes ≡ said = cc in subst HasFewRows same tt
yes_few false said e = absurd cc

counted_same : (b : Bool) (lists rows : List (List (Json × Json))) → cond b (Some lists) None ≡ Some rows → lists ≡ rows
counted_same true lists rows e = cc
counted_same false lists rows e = absurd cc

answer_few : (asked : Kind) (t : Json) (said : Reply) → values_in t ≤ suc line_limit → answer_in asked t ≡ Some said → HasFewRows said
answer_few kind.Reset t said few e = yes_few (is_yes_term t) said e
answer_few kind.Source t said few e = yes_few (is_yes_term t) said e
answer_few (kind.Rows count) t said few e =
    let made = mapped_some reply.Rows (lists_in count t) said e in
    let read = then_some (counted count) (option_and_then lists_of_items (items_in t)) made.0 made.1 in
    let same = counted_same (nat_eq (length read.0) count) read.0 made.0 read.2 in
    subst HasFewRows made.2 (subst AreFew same (lists_few t few read.0 read.1))
answer_few kind.Value t said few e = let made = mapped_some (λ result. reply.Value (term result)) (result_in t) said e in subst HasFewRows made.2 tt

-- which way a test went
chosen : (b : Bool) (x y : Option Reply) (said : Reply) → cond b x y ≡ Some said → ((b ≡ true) × (x ≡ Some said)) ⊎ ((b ≡ false) × (y ≡ Some said))
chosen true x y said e = inl (refl, e)
chosen false x y said e = inr (refl, e)

read_few : (asked : Kind) (short : Bool) (r : Result Json TermFault) (said : Reply) → (short ≡ true → (t : Json) → r ≡ Ok t → values_in t ≤ suc line_limit) → reply_read asked short r ≡ Some said → HasFewRows said
read_few asked short (Err fault) said few e = absurd cc
read_few asked short (Ok t) said few e = elim (chosen (is_log_term t) (Some reply.Log) (cond (has_source asked && is_complaint_term t) (Some reply.Compile) (cond short (answer_in asked t) None)) said e) [
  | inl log ↦ let is : Some reply.Log ≡ Some said = log.1 in let same : reply.Log ≡ said = cc in subst HasFewRows same tt
  | inr other ↦ elim (chosen (has_source asked && is_complaint_term t) (Some reply.Compile) (cond short (answer_in asked t) None) said other.1) [
    | inl complaint ↦ let is : Some reply.Compile ≡ Some said = complaint.1 in let same : reply.Compile ≡ said = cc in subst HasFewRows same tt
    | inr answer ↦ elim (chosen short (answer_in asked t) None said answer.1) [
      | inl proper ↦ answer_few asked t said (few proper.0 t refl) proper.1
      | inr long ↦ let is : None ≡ Some said = long.1 in absurd cc
    ]
  ]
]

pub few_rows : (asked : Kind) (line : List ℕ) (said : Reply) → reply_of asked line ≡ Some said → HasFewRows said
few_rows asked line said e =
    read_few asked (is_short line) (reading line) said (λ short t is. omega (arith, values_in-reading line t is, leb-true (length line) line_limit short)) e
