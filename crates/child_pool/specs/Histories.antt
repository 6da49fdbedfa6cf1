-- The calls that a function made on the query servers, the newest first.
use Rattle.std.specs.Prelude.{◌≡◌, ◌⊎◌, ℕ, List, [], ◌∷◌, ◌++◌, Bool, true, false, Option, Some, None}
use Rattle.view_ports.specs.Calls.{Call, start, send, receive, stop, Session, child, is_log, slot_of}
use Rattle.child_pool.specs.Jobs.{Job, AllLawful, AllLawfulIn, AllReducing, IsStop}

-- what a function did on a slot: after the calls that were made `before` it made those that it `added`, each lawful, and of
-- those that it added and of all calls now `P` holds
pub record Went (may_follow : List Call → Type 0) (job : Job) (slot : ℕ) (before : List Call) (P : List Call → List Call → Type 0) : Type 0 where
  pub added : List Call
  pub now : List Call
  pub is_now : now ≡ added ++ before
  pub follows : may_follow now
  pub lawful : AllLawful job slot added before
  pub holds : P added now

-- the same of a pool of this width, on any of its slots
pub record WentIn (may_follow : List Call → Type 0) (job : Job) (width : ℕ) (before : List Call) (P : List Call → List Call → Type 0) : Type 0 where
  pub added : List Call
  pub now : List Call
  pub is_now : now ≡ added ++ before
  pub follows : may_follow now
  pub lawful : AllLawfulIn job width added before
  pub holds : P added now

-- the same of a pool of this width that reduces by some sources of a path
pub record WentReducing (may_follow : List Call → Type 0) (path : List ℕ) (reduces : List (List ℕ)) (width : ℕ) (before : List Call) (P : List Call → List Call → Type 0) : Type 0 where
  pub added : List Call
  pub now : List Call
  pub is_now : now ≡ added ++ before
  pub follows : may_follow now
  pub lawful : AllReducing path reduces width added before
  pub holds : P added now

-- a line was received; of the child that sent it and of the line `P` holds
abbrev pub IsReceipt : (Option Session → List ℕ → Type 0) → Call → List Call → Type 0
IsReceipt P (receive slot (Some line)) before = P (child slot before) line
IsReceipt P (receive slot None) before = ⊥
IsReceipt P (start slot path started) before = ⊥
IsReceipt P (send slot line sent) before = ⊥
IsReceipt P (stop slot) before = ⊥

-- among the added calls is such a receipt
abbrev pub HasReceived : (Option Session → List ℕ → Type 0) → List Call → List Call → Type 0
HasReceived P [] before = ⊥
HasReceived P (call ∷ added) before = IsReceipt P call (added ++ before) ⊎ HasReceived P added before

-- ---- the talk: the lines that were sent and received, log lines aside, in the order of the calls

pub data Turn : Type 0 where
  starts : ℕ → Turn
  says : ℕ → List ℕ → Turn
  hears : ℕ → List ℕ → Turn

abbrev pub heard_turn : Bool → ℕ → List ℕ → List Turn
heard_turn true slot line = []
heard_turn false slot line = hears slot line ∷ []

abbrev pub turns_of : Call → List Turn
turns_of (send slot line true) = says slot line ∷ []
turns_of (send slot line false) = []
turns_of (receive slot (Some line)) = heard_turn (is_log line) slot line
turns_of (receive slot None) = []
turns_of (start slot path started) = []
turns_of (stop slot) = []

abbrev pub talk : List Call → List Turn
talk [] = []
talk (call ∷ calls) = talk calls ++ turns_of call

-- the course: the talk, and in it each start of a child, whether it went well or not
abbrev pub steps_of : Call → List Turn
steps_of (start slot path started) = starts slot ∷ []
steps_of (send slot line sent) = turns_of (send slot line sent)
steps_of (receive slot line) = turns_of (receive slot line)
steps_of (stop slot) = []

abbrev pub course : List Call → List Turn
course [] = []
course (call ∷ calls) = course calls ++ steps_of call

-- ---- calls that failed, and stops

abbrev pub HasFailed : Call → Type 0
HasFailed (start slot path started) = started ≡ false
HasFailed (send slot line sent) = sent ≡ false
HasFailed (receive slot line) = line ≡ None
HasFailed (stop slot) = ⊥

-- the last call failed, after this course
pub record FailsAfter (turns : List Turn) (added : List Call) : Type 0 where
  pub last : Call
  pub earlier : List Call
  pub is : added ≡ last ∷ earlier
  pub failed : HasFailed last
  pub went : course added ≡ turns

-- each of these calls is on this slot
abbrev pub AllOn : ℕ → List Call → Type 0
AllOn slot [] = Unit {0}
AllOn slot (call ∷ calls) = (slot_of call ≡ slot) × AllOn slot calls

abbrev pub AllStops : List Call → Type 0
AllStops [] = Unit {0}
AllStops (call ∷ calls) = IsStop call × AllStops calls

-- a line that was heard, or nothing
abbrev pub last_heard : ℕ → Option (List ℕ) → List Turn
last_heard slot None = []
last_heard slot (Some line) = hears slot line ∷ []
