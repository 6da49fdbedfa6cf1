-- The tries on a prompt: there are two at most, and the second begins with a fresh child.
use Rattle.std.specs.Prelude.{◌≡◌, ◌⊎◌, List, [], ◌∷◌, ◌++◌, ℕ}
use Rattle.view_ports.specs.Calls.{Call, stop}
use Rattle.child_pool.specs.declared.pool_fault.PoolFault.{PoolFault}
use Rattle.child_pool.specs.declared.pool_fault.PoolFault.TheVariants.{ServerFault, BadReply, Compile, UnknownLanguage, NoMemory}
use Rattle.child_pool.specs.Histories.{FailsAfter, Turn, course}
use Rattle.child_pool.specs.Talk.{Due, AreCutShort, AreTurns}

-- a prompt in a slot: what is due in a first try, and what in a second one, which makes a fresh child ready again before
pub record Prompt : Type 0 where
  pub slot : ℕ
  pub once : List Due
  pub again : List Due

-- a try failed: its last call did, before all that was due was done
pub record HasFailedIn (dues : List Due) (added : List Call) : Type 0 where
  pub done : List Due
  pub next : Due
  pub left : List Due
  pub all : dues ≡ done ++ next ∷ left
  pub turns : List Turn
  pub are : AreTurns done turns
  pub fails : FailsAfter turns added

-- the first try failed, the child was stopped, and of the second one `P` holds
pub record IsTriedAgain (prompt : Prompt) (P : List Call → Type 0) (added : List Call) : Type 0 where
  pub first : List Call
  pub second : List Call
  pub is : added ≡ second ++ stop prompt.slot ∷ first
  pub failed : HasFailedIn prompt.once first
  pub holds : P second

-- both tries failed
abbrev pub HasFailedTwice : Prompt → List Call → Type 0
HasFailedTwice prompt added = IsTriedAgain prompt (HasFailedIn prompt.again) added

-- the prompt was answered in the first try or, where a fault was counted, in the second
abbrev pub IsAnswered : Type 0 → Prompt → List Call → Type 0
IsAnswered rose prompt added =
    AreTurns prompt.once (course added) ⊎ (rose × IsTriedAgain prompt (λ second. AreTurns prompt.again (course second)) added)

-- the first try or, where a fault was counted, the second was cut short
abbrev pub IsGivenUp : Type 0 → Prompt → List Call → Type 0
IsGivenUp rose prompt added =
    AreCutShort prompt.slot prompt.once (course added) ⊎ (rose × IsTriedAgain prompt (λ second. AreCutShort prompt.slot prompt.again (course second)) added)

-- each of these prompts was answered, one after another
abbrev pub AllAnswered : Type 0 → List Prompt → List Call → Type 0
AllAnswered rose [] added = added ≡ []
AllAnswered rose (prompt ∷ prompts) added =
    (first : List Call) × (later : List Call) × (added ≡ later ++ first) × IsAnswered rose prompt first × AllAnswered rose prompts later

-- the prompt at which a refusal comes: both of its tries failed, or one was cut short
abbrev pub EndsBy : PoolFault → Type 0 → Prompt → List Call → Type 0
EndsBy ServerFault rose prompt last = rose × HasFailedTwice prompt last
EndsBy (BadReply text) rose prompt last = IsGivenUp rose prompt last
EndsBy Compile rose prompt last = IsGivenUp rose prompt last
EndsBy UnknownLanguage rose prompt last = IsGivenUp rose prompt last
EndsBy NoMemory rose prompt last = IsGivenUp rose prompt last

-- it comes at the first of the prompts that are left; where none is left only memory can have run out
abbrev pub EndsAt : PoolFault → Type 0 → List Prompt → List Call → Type 0
EndsAt f rose [] last = (f ≡ NoMemory) × (last ≡ [])
EndsAt f rose (prompt ∷ left) last = EndsBy f rose prompt last

-- some of the prompts were answered, and then the refusal came
pub record StopsAt (f : PoolFault) (rose : Type 0) (prompts : List Prompt) (added : List Call) : Type 0 where
  pub done : List Prompt
  pub left : List Prompt
  pub all : prompts ≡ done ++ left
  pub earlier : List Call
  pub last : List Call
  pub is : added ≡ last ++ earlier
  pub answered : AllAnswered rose done earlier
  pub ends : EndsAt f rose left last
