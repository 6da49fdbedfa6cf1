-- An honest path's lines are proper replies.
use Rattle.std.proofs.Common.{◌≡◌, ◌⊎◌, ◌≤◌, ℕ, List, [], ◌∷◌, ◌++◌, length, Bool, true, false, Option, Some, None, Result, Ok, Err, MatchBool, refl, sym, ap, ◌∙◌, subst, inl, inr, arith}
use Rattle.std.specs.List.{AllByRecursion}
use Rattle.std.proofs.lemmas.Bool.{le-leb}
use Rattle.std.proofs.lemmas.List.{length-map}
use Rattle.json_terms.specs.Json.{Json, is_true}
use Rattle.json_terms.specs.Reading.{reading}
use Rattle.json_terms.specs.Seen.{term}
use Rattle.json_terms.specs.declared.fault.TermFault.{TermFault}
use Rattle.view_ports.specs.declared.command.Command.{Command}
use Rattle.view_ports.specs.declared.command.Command.TheVariants.{Reset, AddFun, MapDoc, Reduce, Rereduce, Other}
use Rattle.view_ports.specs.Calls.{Call, start, send, receive, stop, Session, child, is_log, is_log_read, is_short}
use Rattle.view_ports.specs.Commands.{command, list1, list2}
use Rattle.view_ports.specs.Functions.{Functions, IsMappable, IsWithinBounds, line_limit, source_limit}
use Rattle.view_ports.specs.Honest.{Answers, Complains, IsAnswerable, IsHonestLine, Spells, is_complaint_read, is_complaint_term, rows_of}
use Rattle.query_protocol.specs.declared.reply.Kind.{Kind}
use Rattle.query_protocol.specs.declared.reply.Kind.TheVariants as kind
use Rattle.query_protocol.specs.declared.reply.Reply.{Reply}
use Rattle.query_protocol.specs.declared.reply.Reply.TheVariants as reply
use Rattle.query_protocol.specs.Replies.{reply_of, reply_read}
use Rattle.child_pool.specs.Causes.{IsBadReply, kind_of}
use Rattle.child_pool.specs.Honesty.{ComplainsRightly, GivesNoBadReply, IsHonestJob, MapsComplainRightly, SomeReduceFails, SomeSourceFails}
use Rattle.child_pool.specs.Histories.{HasReceived, IsReceipt}
use Rattle.child_pool.specs.Jobs.{IsAmong, Job, IsPromptOf, job_of}
use Rattle.child_pool.specs.Outcomes.{AsksSource, WasBad, WasComplaint}
use Rattle.child_pool.proofs.RowReplies.{proper_reply}
use Rattle.child_pool.proofs.ValueReplies.{complaint_read, value_reply}
use Rattle.child_pool.proofs.Telling.{honest_line}

-- ---- a line that was received

receipt_of : (P : Option Session → List ℕ → Type 0) (Q : Type 0) → ((st : Option Session) (line : List ℕ) → P st line → Q) → (call : Call) (before : List Call) → IsReceipt P call before → Q
receipt_of P Q f (receive slot (Some line)) before h = f (child slot before) line h
receipt_of P Q f (receive slot None) before h = absurd h
receipt_of P Q f (start slot path started) before h = absurd h
receipt_of P Q f (send slot line sent) before h = absurd h
receipt_of P Q f (stop slot) before h = absurd h

received_of : (P : Option Session → List ℕ → Type 0) (Q : Type 0) → ((st : Option Session) (line : List ℕ) → P st line → Q) → (added before : List Call) → HasReceived P added before → Q
received_of P Q f [] before h = absurd h
received_of P Q f (call ∷ added) before h = elim h [
  | inl here ↦ receipt_of P Q f call (added ++ before) here
  | inr there ↦ received_of P Q f added before there
]

-- ---- proper replies

log_read : (asked : Kind) (short : Bool) (r : Result Json TermFault) → is_log_read r ≡ true → reply_read asked short r ≡ Some reply.Log
log_read asked short (Ok t) log = rw log refl
log_read asked short (Err fault) log = absurd cc

yes_reply : (asked : Kind) (line : List ℕ) → reply_read asked true (Ok is_true) ≡ Some reply.Yes → Spells line is_true → reply_of asked line ≡ Some reply.Yes
yes_reply asked line is spells =
    ap (reply_read asked (is_short line)) spells.spelled ∙ ap (λ (short : Bool). reply_read asked short (Ok is_true)) (le-leb (length line) line_limit spells.short) ∙ is

source_answer : (line : List ℕ) (compiles : Bool) → is_log line ≡ false → MatchBool compiles (Spells line is_true) (Complains line) → (said : Reply) × (reply_of kind.Source line ≡ Some said)
source_answer line true log h = (reply.Yes, yes_reply kind.Source line refl h)
source_answer line false log h = (reply.Compile, complaint_read kind.Source (is_short line) (reading line) refl log h.1)

value_answer : (line : List ℕ) (compiles : Bool) (value : Json) → IsWithinBounds value → is_log line ≡ false → MatchBool compiles (Spells line (list2 is_true (list1 value))) (Complains line) → (said : Reply) × (reply_of kind.Value line ≡ Some said)
value_answer line true value bounded log h = (reply.Value (term value), value_reply value line h bounded)
value_answer line false value bounded log h = (reply.Compile, complaint_read kind.Value (is_short line) (reading line) refl log h.1)

no_reply : (o : Option Reply) (said : Reply) → o ≡ Some said → o ≡ None → ⊥
no_reply o said is none = let never : Some said ≡ None = sym is ∙ none in cc

one_of : {X : Type 0} (P : X → Type 0) (xs : List X) (x : X) → AllByRecursion P xs → IsAmong xs x → P x
one_of P [] x all among = absurd among
one_of P (y ∷ ys) x all (inl same) = subst P (sym same) all.0
one_of P (y ∷ ys) x all (inr other) = one_of P ys x all.1 other

module _ (functions : List ℕ → Functions) (honest : List ℕ → Type 0) (job : Job) where
  answerable : IsHonestJob honest job → (sources : List (List ℕ)) (c : Command) → IsPromptOf job sources c → IsAnswerable sources c
  answerable h sources Reset of = tt
  answerable h sources (AddFun source) of = tt
  answerable h sources (MapDoc document) of = (one_of IsMappable job.documents document h.stored of.0, subst (λ (s : List (List ℕ)). length s ≤ source_limit) (sym of.1) h.few)
  answerable h sources (Reduce source rows) of = of.1.1
  answerable h sources (Rereduce source values) of = of.1.1
  answerable h sources Other of = absurd of

  -- an honest answer is a proper reply
  proper : IsHonestJob honest job → (sources : List (List ℕ)) (c : Command) (line : List ℕ) → IsPromptOf job sources c → is_log line ≡ false → Answers (functions job.path) sources c line → (said : Reply) × (reply_of (kind_of c (length sources)) line ≡ Some said)
  proper h sources Reset line of log answers = (reply.Yes, yes_reply kind.Reset line refl answers)
  proper h sources (AddFun source) line of log answers = source_answer line ((functions job.path).compiles source) log answers
  proper h sources (MapDoc document) line of log answers =
      let lists = rows_of (functions job.path) sources document in
      let within = answerable h sources (MapDoc document) of in
      (reply.Rows lists, proper_reply (length sources) lists line answers ((functions job.path).proper_maps sources document within.1 within.0) (length-map sources (λ source. (functions job.path).map_of source document)))
  proper h sources (Reduce source rows) line of log answers =
      value_answer line ((functions job.path).reduce_compiles source) ((functions job.path).reduce_of source rows) ((functions job.path).proper_reduces source rows of.1.0 of.1.1) log answers
  proper h sources (Rereduce source values) line of log answers =
      value_answer line ((functions job.path).reduce_compiles source) ((functions job.path).rereduce_of source values) ((functions job.path).proper_rereduces source values of.1.0 of.1.1) log answers
  proper h sources Other line of log answers = absurd of

  never_bad : IsHonestJob honest job → (sources : List (List ℕ)) (logs : ℕ) (c : Command) (line : List ℕ) → IsPromptOf job sources c → IsHonestLine (functions job.path) sources logs c line → IsBadReply c (length sources) logs line → ⊥
  never_bad h sources logs c line of (inl log) (inl none) = no_reply (reply_of (kind_of c (length sources)) line) reply.Log (log_read (kind_of c (length sources)) (is_short line) (reading line) log.0) none
  never_bad h sources logs c line of (inl log) (inr many) = omega (arith, log.1, many.1)
  never_bad h sources logs c line of (inr answer) (inl none) = let said = proper h sources c line of answer.0 answer.1 in no_reply (reply_of (kind_of c (length sources)) line) said.0 said.1 none
  never_bad h sources logs c line of (inr answer) (inr many) = cc

  pub no_bad_reply : (added before : List Call) (text : List ℕ) → GivesNoBadReply functions honest job added before text
  no_bad_reply added before text = λ h received. received_of (WasBad functions honest job text) ⊥ (λ st line was.
      let r = was.reply in
      let said = honest_line functions honest job.path r.sources r.prompt r.logs st line r.is r.answers h.path (command r.prompt) refl (answerable h r.sources (command r.prompt) r.asked) in
      never_bad h r.sources r.logs (command r.prompt) line r.asked said was.bad) added before received

  -- a source that was complained of doesn't compile
  complained : (line : List ℕ) (compiles : Bool) (answer : Json) → is_complaint_term answer ≡ false → is_complaint_read (reading line) ≡ true → MatchBool compiles (Spells line answer) (Complains line) → compiles ≡ false
  complained line true answer none complaint h =
      let no : is_complaint_read (reading line) ≡ false = ap is_complaint_read h.spelled ∙ none in
      let both : true ≡ false = sym complaint ∙ no in
      absurd cc
  complained line false answer none complaint h = refl

  -- an honest answer that is no log line answers the prompt
  answer_of_line : (sources : List (List ℕ)) (logs : ℕ) (c : Command) (line : List ℕ) → is_log line ≡ false → IsHonestLine (functions job.path) sources logs c line → Answers (functions job.path) sources c line
  answer_of_line sources logs c line silent (inl log) = absurd (let yes : is_log line ≡ true = log.0 in cc)
  answer_of_line sources logs c line silent (inr answer) = answer.1

  abbrev SomeFails : Type 0
  SomeFails = SomeSourceFails (functions job.path) job.sources ⊎ SomeReduceFails (functions job.path) job.reduces

  fails_by : (sources : List (List ℕ)) (c : Command) (source line : List ℕ) → AsksSource job source c → is_complaint_read (reading line) ≡ true → Answers (functions job.path) sources c line → SomeFails
  fails_by sources (AddFun added) source line asks complaint h = inl (record {
    source = source;
    among = asks.1;
    fails = subst (λ (s : List ℕ). (functions job.path).compiles s ≡ false) asks.0 (complained line ((functions job.path).compiles added) is_true refl complaint h);
  })
  fails_by sources (Reduce reduced rows) source line asks complaint h = inr (record {
    source = source;
    among = asks.1;
    fails = subst (λ (s : List ℕ). (functions job.path).reduce_compiles s ≡ false) asks.0 (complained line ((functions job.path).reduce_compiles reduced) (list2 is_true (list1 ((functions job.path).reduce_of reduced rows))) refl complaint h);
  })
  fails_by sources (Rereduce reduced values) source line asks complaint h = inr (record {
    source = source;
    among = asks.1;
    fails = subst (λ (s : List ℕ). (functions job.path).reduce_compiles s ≡ false) asks.0 (complained line ((functions job.path).reduce_compiles reduced) (list2 is_true (list1 ((functions job.path).rereduce_of reduced values))) refl complaint h);
  })
  fails_by sources Reset source line asks complaint h = absurd asks
  fails_by sources (MapDoc document) source line asks complaint h = absurd asks
  fails_by sources Other source line asks complaint h = absurd asks

  -- what has a source can be answered
  asked_of : (sources : List (List ℕ)) (c : Command) (source : List ℕ) → AsksSource job source c → IsPromptOf job sources c → IsAnswerable sources c
  asked_of sources (AddFun added) source asks of = tt
  asked_of sources (Reduce reduced rows) source asks of = of.1.1
  asked_of sources (Rereduce reduced values) source asks of = of.1.1
  asked_of sources Reset source asks of = absurd asks
  asked_of sources (MapDoc document) source asks of = absurd asks
  asked_of sources Other source asks of = absurd asks

  pub complains_rightly : (added before : List Call) → ComplainsRightly functions honest job added before
  complains_rightly added before = λ h received. received_of (WasComplaint functions honest job) SomeFails (λ st line was.
      let r = was.reply in
      let c = command r.prompt in
      let said = honest_line functions honest job.path r.sources r.prompt r.logs st line r.is r.answers h c refl (asked_of r.sources c was.source was.asks r.asked) in
      fails_by r.sources c was.source line was.asks was.complains (answer_of_line r.sources r.logs c line was.silent said)) added before received

-- no reduce source is asked for where documents are mapped
pub maps_complain_rightly : (functions : List ℕ → Functions) (honest : List ℕ → Type 0) → MapsComplainRightly functions honest
maps_complain_rightly functions honest path sources documents added before h caused = elim (complains_rightly functions honest (job_of path sources documents) added before h caused) [
  | inl source ↦ source
  | inr reduce ↦ absurd reduce.among
]
