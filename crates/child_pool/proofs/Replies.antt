-- What a reply says of its line.
use Rattle.std.proofs.Common.{◌≡◌, ◌≢◌, ◌⊎◌, ℕ, List, Bool, true, false, cond, ◌&&◌, Option, Some, None, Result, Ok, Err, option_map, refl, sym, subst, inl, inr}
use Rattle.json_terms.specs.Json.{Json, number, is_false, is_null, is_true, object, array, string}
use Rattle.json_terms.specs.Reading.{reading}
use Rattle.json_terms.specs.declared.fault.TermFault.{TermFault}
use Rattle.view_ports.specs.Calls.{is_log, is_log_read, is_log_term, is_short, is_yes, is_yes_read, is_yes_term}
use Rattle.view_ports.specs.Honest.{is_complaint_read, is_complaint_term}
use Rattle.query_protocol.specs.declared.reply.Kind.{Kind}
use Rattle.query_protocol.specs.declared.reply.Kind.TheVariants as kind
use Rattle.query_protocol.specs.declared.reply.Reply.{Reply}
use Rattle.query_protocol.specs.declared.reply.Reply.TheVariants as reply
use Rattle.query_protocol.specs.Replies.{reply_of, reply_read, answer_in, has_source, yes_if, lists_in, result_in}
use Rattle.child_pool.specs.declared.heard.Heard.{Heard}
use Rattle.child_pool.specs.declared.heard.Heard.TheVariants.{Failed, Log, Answer}
use Rattle.child_pool.specs.declared.pool_fault.PoolFault.{PoolFault}
use Rattle.child_pool.specs.Answered.{answer_of}
use Rattle.child_pool.specs.Hearing.{IsHeard, IsKept}

-- which way a test went
pub chosen : {A : Type 0} (b : Bool) (x y z : A) → cond b x y ≡ z → ((b ≡ true) × (x ≡ z)) ⊎ ((b ≡ false) × (y ≡ z))
chosen true x y z e = inl (refl, e)
chosen false x y z e = inr (refl, e)

yes_is_no_log : (b : Bool) → yes_if b ≡ Some reply.Log → ⊥
yes_is_no_log true e = cc
yes_is_no_log false e = cc

mapped_is_no_log : {A : Type 0} (f : A → Reply) (o : Option A) → ((x : A) → f x ≢ reply.Log) → option_map f o ≡ Some reply.Log → ⊥
mapped_is_no_log f None other e = cc
mapped_is_no_log f (Some x) other e = let same : f x ≡ reply.Log = cc in other x same

answer_is_no_log : (asked : Kind) (t : Json) → answer_in asked t ≡ Some reply.Log → ⊥
answer_is_no_log kind.Reset t e = yes_is_no_log _ e
answer_is_no_log kind.Source t e = yes_is_no_log _ e
answer_is_no_log (kind.Rows count) t e = mapped_is_no_log _ (lists_in count t) (λ x same. cc) e
answer_is_no_log kind.Value t e = mapped_is_no_log _ (result_in t) (λ x same. cc) e

-- what comes behind the test for a log line
abbrev after_log : Kind → Bool → Json → Option Reply
after_log asked short t = cond (has_source asked && is_complaint_term t) (Some reply.Compile) (cond short (answer_in asked t) None)

log_read : (asked : Kind) (short : Bool) (r : Result Json TermFault) → reply_read asked short r ≡ Some reply.Log → is_log_read r ≡ true
log_read asked short (Err fault) e = absurd cc
log_read asked short (Ok t) e = elim (chosen (is_log_term t) (Some reply.Log) (after_log asked short t) (Some reply.Log) e) [
  | inl log ↦ log.0
  | inr other ↦ elim (chosen (has_source asked && is_complaint_term t) (Some reply.Compile) (cond short (answer_in asked t) None) (Some reply.Log) other.1) [
    | inl complaint ↦ let e : Some reply.Compile ≡ Some reply.Log = complaint.1 in absurd cc
    | inr answer ↦ elim (chosen short (answer_in asked t) None (Some reply.Log) answer.1) [
      | inl proper ↦ absurd (answer_is_no_log asked t proper.1)
      | inr long ↦ let e : None ≡ Some reply.Log = long.1 in absurd cc
    ]
  ]
]

other_read : (asked : Kind) (short : Bool) (r : Result Json TermFault) (said : Reply) → said ≢ reply.Log → reply_read asked short r ≡ Some said → is_log_read r ≡ false
other_read asked short (Err fault) said other e = absurd cc
other_read asked short (Ok t) said other e = elim (chosen (is_log_term t) (Some reply.Log) (after_log asked short t) (Some said) e) [
  | inl log ↦ let f : Some reply.Log ≡ Some said = log.1 in let same : said ≡ reply.Log = cc in absurd (other same)
  | inr answer ↦ answer.0
]

pub reply_is_log : (asked : Kind) (line : List ℕ) → reply_of asked line ≡ Some reply.Log → is_log line ≡ true
reply_is_log asked line e = log_read asked (is_short line) (reading line) e

pub reply_is_no_log : (asked : Kind) (line : List ℕ) (said : Reply) → said ≢ reply.Log → reply_of asked line ≡ Some said → is_log line ≡ false
reply_is_no_log asked line said other e = other_read asked (is_short line) (reading line) said other e

answered : (asked : Kind) (logs : ℕ) (line : List ℕ) (said : Reply) (result : Result Heard PoolFault) → said ≢ reply.Log → reply_of asked line ≡ Some said → result ≡ Ok (Answer said) → IsHeard asked logs line result
answered asked logs line said result other e is = subst (IsHeard asked logs line) (sym is) (reply_is_no_log asked line said other e, e)

-- the line is what its reply says
pub heard_kept : (asked : Kind) (logs : ℕ) (line : List ℕ) (said : Reply) (result : Result Heard PoolFault) → reply_of asked line ≡ Some said → IsKept logs (answer_of said) line result → IsHeard asked logs line result
heard_kept asked logs line reply.Log (Ok Log) e kept = (reply_is_log asked line e, kept.1)
heard_kept asked logs line reply.Log (Ok Failed) e kept = absurd cc
heard_kept asked logs line reply.Log (Ok (Answer said)) e kept = absurd cc
heard_kept asked logs line reply.Log (Err fault) e kept = (kept.1, inr (inr (reply_is_log asked line e, kept.0)))
heard_kept asked logs line reply.Yes result e kept = answered asked logs line reply.Yes result (λ same. cc) e kept
heard_kept asked logs line (reply.Rows rows) result e kept = answered asked logs line (reply.Rows rows) result (λ same. cc) e kept
heard_kept asked logs line (reply.Value value) result e kept = answered asked logs line (reply.Value value) result (λ same. cc) e kept
heard_kept asked logs line reply.Compile result e kept = answered asked logs line reply.Compile result (λ same. cc) e kept

-- ---- what the kinds of answers that begin a session can be

yes_is_yes : (b : Bool) (said : Reply) → yes_if b ≡ Some said → (b ≡ true) × (said ≡ reply.Yes)
yes_is_yes true said e = let same : said ≡ reply.Yes = cc in (refl, same)
yes_is_yes false said e = absurd cc

-- no complaint is awaited from a reset
reset_read : (short : Bool) (r : Result Json TermFault) (said : Reply) → said ≢ reply.Log → reply_read kind.Reset short r ≡ Some said → (is_yes_read r ≡ true) × (said ≡ reply.Yes)
reset_read short (Err fault) said other e = absurd cc
reset_read short (Ok t) said other e = elim (chosen (is_log_term t) (Some reply.Log) (cond short (yes_if (is_yes_term t)) None) (Some said) e) [
  | inl log ↦ let f : Some reply.Log ≡ Some said = log.1 in let same : said ≡ reply.Log = cc in absurd (other same)
  | inr answer ↦ elim (chosen short (yes_if (is_yes_term t)) None (Some said) answer.1) [
    | inl proper ↦ yes_is_yes (is_yes_term t) said proper.1
    | inr long ↦ let f : None ≡ Some said = long.1 in absurd cc
  ]
]

source_read : (short : Bool) (r : Result Json TermFault) (said : Reply) → said ≢ reply.Log → reply_read kind.Source short r ≡ Some said
    → ((is_yes_read r ≡ true) × (said ≡ reply.Yes)) ⊎ ((is_complaint_read r ≡ true) × (said ≡ reply.Compile))
source_read short (Err fault) said other e = absurd cc
source_read short (Ok t) said other e = elim (chosen (is_log_term t) (Some reply.Log) (cond (is_complaint_term t) (Some reply.Compile) (cond short (yes_if (is_yes_term t)) None)) (Some said) e) [
  | inl log ↦ let f : Some reply.Log ≡ Some said = log.1 in let same : said ≡ reply.Log = cc in absurd (other same)
  | inr answer ↦ elim (chosen (is_complaint_term t) (Some reply.Compile) (cond short (yes_if (is_yes_term t)) None) (Some said) answer.1) [
    | inl complaint ↦ let f : Some reply.Compile ≡ Some said = complaint.1 in let same : said ≡ reply.Compile = cc in inr (complaint.0, same)
    | inr later ↦ elim (chosen short (yes_if (is_yes_term t)) None (Some said) later.1) [
      | inl proper ↦ inl (yes_is_yes (is_yes_term t) said proper.1)
      | inr long ↦ let f : None ≡ Some said = long.1 in absurd cc
    ]
  ]
]

pub reset_reply : (line : List ℕ) (said : Reply) → said ≢ reply.Log → reply_of kind.Reset line ≡ Some said → (is_yes line ≡ true) × (said ≡ reply.Yes)
reset_reply line said other e = reset_read (is_short line) (reading line) said other e

pub source_reply : (line : List ℕ) (said : Reply) → said ≢ reply.Log → reply_of kind.Source line ≡ Some said
    → ((is_yes line ≡ true) × (said ≡ reply.Yes)) ⊎ ((is_complaint_read (reading line) ≡ true) × (said ≡ reply.Compile))
source_reply line said other e = source_read (is_short line) (reading line) said other e

yes_term_no_complaint : (t : Json) → is_yes_term t ≡ true → is_complaint_term t ≡ true → ⊥
yes_term_no_complaint (number n) e f = cc
yes_term_no_complaint is_false e f = cc
yes_term_no_complaint is_null e f = cc
yes_term_no_complaint is_true e f = cc
yes_term_no_complaint (object ms) e f = cc
yes_term_no_complaint (array ts) e f = cc
yes_term_no_complaint (string s) e f = cc

yes_read_no_complaint : (r : Result Json TermFault) → is_yes_read r ≡ true → is_complaint_read r ≡ true → ⊥
yes_read_no_complaint (Ok t) e f = yes_term_no_complaint t e f
yes_read_no_complaint (Err fault) e f = cc

-- `true` is no complaint
pub yes_no_complaint : (line : List ℕ) → is_yes line ≡ true → is_complaint_read (reading line) ≡ true → ⊥
yes_no_complaint line e f = yes_read_no_complaint (reading line) e f
