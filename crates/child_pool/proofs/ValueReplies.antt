-- The value of a reply, and of an honest answer.
use Rattle.std.proofs.Common.{◌≡◌, ◌≢◌, ◌⊎◌, ℕ, List, length, Bool, true, false, cond, Option, Some, None, Result, Ok, Err, MatchBool, option_map, option_and_then, refl, sym, ap, ◌∙◌, subst, inl, inr}
use Rattle.std.proofs.lemmas.Bool.{le-leb}
use Rattle.json_terms.specs.Json.{Json, is_true}
use Rattle.json_terms.specs.Kinds.{items_in, one_in, two_in}
use Rattle.json_terms.specs.Reading.{reading}
use Rattle.json_terms.specs.Seen.{json, term}
use Rattle.json_terms.specs.declared.fault.TermFault.{TermFault}
use Rattle.json_terms.specs.declared.term.Term.{Term}
use Rattle.json_terms.proofs.Sames.{json-term}
use Rattle.view_ports.specs.Calls.{is_log, is_log_read, is_log_term, is_short, is_yes_term}
use Rattle.view_ports.specs.Commands.{list1, list2}
use Rattle.view_ports.specs.Functions.{IsWithinBounds, line_limit}
use Rattle.view_ports.specs.Honest.{Complains, Spells, is_complaint_read, is_complaint_term}
use Rattle.query_protocol.specs.declared.reply.Kind.{Kind}
use Rattle.query_protocol.specs.declared.reply.Kind.TheVariants as kind
use Rattle.query_protocol.specs.declared.reply.Reply.{Reply}
use Rattle.query_protocol.specs.declared.reply.Reply.TheVariants as reply
use Rattle.query_protocol.specs.Replies.{answer_in, has_source, if_within, is_within_bounds, reply_in, reply_of, reply_read, result_in, result_of_pair}
use Rattle.child_pool.specs.Hearing.{IsBoundedValue}
use Rattle.child_pool.specs.Mapping.{IsPart}
use Rattle.child_pool.proofs.Parts.{part_within, within}
use Rattle.child_pool.proofs.Replies.{chosen}

-- ---- what the reply to a reduction can be

kept_part : (o : Option Json) (found : Json) → option_and_then if_within o ≡ Some found → IsPart found
kept_part None found e = absurd cc
kept_part (Some value) found e = elim (chosen (is_within_bounds value) (Some value) None (Some found) e) [
  | inl kept ↦ let is : Some value ≡ Some found = kept.1 in let same : value ≡ found = cc in subst IsPart same (part_within value kept.0)
  | inr none ↦ let is : None ≡ Some found = none.1 in absurd cc
]

result_part : (o : Option (Json × Json)) (found : Json) → result_of_pair o ≡ Some found → IsPart found
result_part None found e = absurd cc
result_part (Some (accepted, results)) found e = elim (chosen (is_yes_term accepted) (option_and_then if_within (option_and_then one_in (items_in results))) None (Some found) e) [
  | inl given ↦ kept_part (option_and_then one_in (items_in results)) found given.1
  | inr other ↦ let is : None ≡ Some found = other.1 in absurd cc
]

-- a value within the bounds
abbrev pub IsGivenValue : Reply → Type 0
IsGivenValue said = (value : Json) × (said ≡ reply.Value (term value)) × IsPart value

given_value : (o : Option Json) → ((value : Json) → o ≡ Some value → IsPart value) → (said : Reply) → option_map (λ result. reply.Value (term result)) o ≡ Some said → IsGivenValue said
given_value None part said e = absurd cc
given_value (Some value) part said e = let same : said ≡ reply.Value (term value) = cc in (value, same, part value refl)

value_read : (short : Bool) (r : Result Json TermFault) (said : Reply) → said ≢ reply.Log → reply_read kind.Value short r ≡ Some said → ((is_complaint_read r ≡ true) × (said ≡ reply.Compile)) ⊎ IsGivenValue said
value_read short (Err fault) said other e = absurd cc
value_read short (Ok t) said other e = elim (chosen (is_log_term t) (Some reply.Log) (cond (is_complaint_term t) (Some reply.Compile) (cond short (answer_in kind.Value t) None)) (Some said) e) [
  | inl log ↦ let f : Some reply.Log ≡ Some said = log.1 in let same : said ≡ reply.Log = cc in absurd (other same)
  | inr answer ↦ elim (chosen (is_complaint_term t) (Some reply.Compile) (cond short (answer_in kind.Value t) None) (Some said) answer.1) [
    | inl complaint ↦ let f : Some reply.Compile ≡ Some said = complaint.1 in let same : said ≡ reply.Compile = cc in inl (complaint.0, same)
    | inr later ↦ elim (chosen short (answer_in kind.Value t) None (Some said) later.1) [
      | inl proper ↦ inr (given_value (result_in t) (λ value is. result_part (option_and_then two_in (items_in t)) value is) said proper.1)
      | inr long ↦ let f : None ≡ Some said = long.1 in absurd cc
    ]
  ]
]

-- a complaint, or a value
pub value_said_by : (line : List ℕ) (said : Reply) → said ≢ reply.Log → reply_of kind.Value line ≡ Some said → ((is_complaint_read (reading line) ≡ true) × (said ≡ reply.Compile)) ⊎ IsGivenValue said
value_said_by line said other e = value_read (is_short line) (reading line) said other e

part_of_value : (value : Term) (given : Json) → reply.Value value ≡ reply.Value (term given) → IsPart given → IsPart (json value)
part_of_value value given is part =
    let same : value ≡ term given = cc in
    subst IsPart (sym (ap json same ∙ json-term given)) part

pub bounded_value : (line : List ℕ) (said : Reply) → reply_of kind.Value line ≡ Some said → IsBoundedValue said
bounded_value line (reply.Value value) e = elim (value_said_by line (reply.Value value) (λ same. cc) e) [
  | inl complaint ↦ let never : reply.Value value ≡ reply.Compile = complaint.1 in absurd cc
  | inr given ↦ part_of_value value given.0 given.1 given.2
]
bounded_value line reply.Log e = tt
bounded_value line reply.Yes e = tt
bounded_value line (reply.Rows rows) e = tt
bounded_value line reply.Compile e = tt

-- ---- honest answers are read

-- a complaint is one, where the command has a source
pub complaint_read : (asked : Kind) (short : Bool) (r : Result Json TermFault) → has_source asked ≡ true → is_log_read r ≡ false → is_complaint_read r ≡ true → reply_read asked short r ≡ Some reply.Compile
complaint_read asked short (Ok t) has log complaint = rw (log, has, complaint) refl
complaint_read asked short (Err fault) has log complaint = absurd cc

proper_read : (value : Json) → IsWithinBounds value → reply_in kind.Value true (list2 is_true (list1 value)) ≡ Some (reply.Value (term value))
proper_read value bounded = rw (within value bounded) refl

-- a proper answer's value is its reply
pub value_reply : (value : Json) (line : List ℕ) → Spells line (list2 is_true (list1 value)) → IsWithinBounds value → reply_of kind.Value line ≡ Some (reply.Value (term value))
value_reply value line spells bounded =
    let short : is_short line ≡ true = le-leb (length line) line_limit spells.short in
    ap (reply_read kind.Value (is_short line)) spells.spelled ∙ ap (λ (b : Bool). reply_in kind.Value b (list2 is_true (list1 value))) short ∙ proper_read value bounded

-- a value in an honest answer is the functions' own, and the source compiles
pub honest_value : (line : List ℕ) (compiles : Bool) (right : Json) (value : Term) → is_log line ≡ false → IsWithinBounds right → MatchBool compiles (Spells line (list2 is_true (list1 right))) (Complains line)
    → reply_of kind.Value line ≡ Some (reply.Value value) → (compiles ≡ true) × (json value ≡ right)
honest_value line true right value no_log bounded h e =
    let both : Some (reply.Value value) ≡ Some (reply.Value (term right)) = sym e ∙ value_reply right line h bounded in
    let same : value ≡ term right = cc in
    (refl, ap json same ∙ json-term right)
honest_value line false right value no_log bounded h e =
    let never : Some (reply.Value value) ≡ Some reply.Compile = sym e ∙ complaint_read kind.Value (is_short line) (reading line) refl no_log h.1 in
    absurd cc
