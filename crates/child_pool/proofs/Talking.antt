-- The talk of prompts that were tried.
use Rattle.std.proofs.Common.{◌≡◌, ◌⊎◌, ◌<◌, ◌+◌, ℕ, zero, suc, min, nat_le, List, [], ◌∷◌, ◌++◌, length, Bool, true, false, Option, Some, None, refl, sym, ap, ◌∙◌, subst, inl, inr, arith, add-one, append_assoc, append-nil}
use Rattle.std.specs.List.{AllByRecursion, flat_map}
use Rattle.std.proofs.lemmas.Grind.{flat_map-append}
use Rattle.json_terms.specs.Json.{Json}
use Rattle.view_ports.specs.declared.command.Command.TheVariants.{MapDoc}
use Rattle.view_ports.specs.Calls.{Call, start, send, receive, stop, is_log}
use Rattle.child_pool.specs.declared.pool_fault.PoolFault.{PoolFault}
use Rattle.child_pool.specs.declared.pool_fault.PoolFault.TheVariants.{ServerFault, BadReply, Compile, UnknownLanguage, NoMemory}
use Rattle.child_pool.specs.Histories.{AllStops, Turn, starts, says, hears, heard_turn, last_heard, course, steps_of, talk, turns_of}
use Rattle.child_pool.specs.Jobs.{Job}
use Rattle.child_pool.specs.Prompts.{at_first, begun, document_prompts, slot_prompts, slots_prompts, stage_prompt, stage_prompts, update_prompts}
use Rattle.child_pool.specs.Stages.{stage_command, told_turns}
use Rattle.child_pool.specs.Talk.{Due, start_child, say, hear, AreCutShort, AreCutShortIn, AreTurns, asks, ready, ready_slots, talk_of, waves}
use Rattle.child_pool.specs.Tries.{AllAnswered, EndsAt, EndsBy, IsGivenUp, Prompt, StopsAt}
use Rattle.child_pool.proofs.Cutting.{cut_done, cut_later, cut_wider, turns_then}
use Rattle.child_pool.proofs.Prepared.{ready_turns}

-- ---- the talk is the course without the starts

-- turns that are due, but the starts
abbrev pub lines_of : List Due → List Due
lines_of [] = []
lines_of (start_child slot ∷ dues) = lines_of dues
lines_of (say slot command ∷ dues) = say slot command ∷ lines_of dues
lines_of (hear slot command count ∷ dues) = hear slot command count ∷ lines_of dues

abbrev spoken : List Turn → List Turn
spoken [] = []
spoken (starts slot ∷ turns) = spoken turns
spoken (says slot line ∷ turns) = says slot line ∷ spoken turns
spoken (hears slot line ∷ turns) = hears slot line ∷ spoken turns

lines_then : (dues more : List Due) → lines_of (dues ++ more) ≡ lines_of dues ++ lines_of more
lines_then [] more = refl
lines_then (start_child slot ∷ dues) more = lines_then dues more
lines_then (say slot command ∷ dues) more = ap (λ (d : List Due). say slot command ∷ d) (lines_then dues more)
lines_then (hear slot command count ∷ dues) more = ap (λ (d : List Due). hear slot command count ∷ d) (lines_then dues more)

spoken_then : (turns more : List Turn) → spoken (turns ++ more) ≡ spoken turns ++ spoken more
spoken_then [] more = refl
spoken_then (starts slot ∷ turns) more = spoken_then turns more
spoken_then (says slot line ∷ turns) more = ap (λ (t : List Turn). says slot line ∷ t) (spoken_then turns more)
spoken_then (hears slot line ∷ turns) more = ap (λ (t : List Turn). hears slot line ∷ t) (spoken_then turns more)

spoken_line : (log : Bool) (slot : ℕ) (line : List ℕ) → spoken (heard_turn log slot line) ≡ heard_turn log slot line
spoken_line true slot line = refl
spoken_line false slot line = refl

spoken_step : (call : Call) → spoken (steps_of call) ≡ turns_of call
spoken_step (start slot path started) = refl
spoken_step (send slot line true) = refl
spoken_step (send slot line false) = refl
spoken_step (receive slot (Some line)) = spoken_line (is_log line) slot line
spoken_step (receive slot None) = refl
spoken_step (stop slot) = refl

talk_is : (calls : List Call) → talk calls ≡ spoken (course calls)
talk_is [] = refl
talk_is (call ∷ calls) =
    ap (λ (t : List Turn). t ++ turns_of call) (talk_is calls) ∙ ap (λ (t : List Turn). spoken (course calls) ++ t) (sym (spoken_step call)) ∙ sym (spoken_then (course calls) (steps_of call))

turns_spoken : (dues : List Due) (turns : List Turn) → AreTurns dues turns → AreTurns (lines_of dues) (spoken turns)
turns_spoken [] [] h = tt
turns_spoken [] (turn ∷ turns) h = absurd h
turns_spoken (due ∷ dues) [] h = absurd h
turns_spoken (start_child slot ∷ dues) (starts at ∷ turns) h = turns_spoken dues turns h.1
turns_spoken (say slot command ∷ dues) (says at line ∷ turns) h = (h.0, turns_spoken dues turns h.1)
turns_spoken (hear slot command count ∷ dues) (hears at line ∷ turns) h = (h.0, turns_spoken dues turns h.1)
turns_spoken (start_child slot ∷ dues) (says at line ∷ turns) h = absurd h.0
turns_spoken (start_child slot ∷ dues) (hears at line ∷ turns) h = absurd h.0
turns_spoken (say slot command ∷ dues) (starts at ∷ turns) h = absurd h.0
turns_spoken (say slot command ∷ dues) (hears at line ∷ turns) h = absurd h.0
turns_spoken (hear slot command count ∷ dues) (starts at ∷ turns) h = absurd h.0
turns_spoken (hear slot command count ∷ dues) (says at line ∷ turns) h = absurd h.0

talk_turns : (dues : List Due) (calls : List Call) → AreTurns dues (course calls) → AreTurns (lines_of dues) (talk calls)
talk_turns dues calls h = subst (AreTurns (lines_of dues)) (sym (talk_is calls)) (turns_spoken dues (course calls) h)

spoken_last : (slot : ℕ) (last : Option (List ℕ)) → spoken (last_heard slot last) ≡ last_heard slot last
spoken_last slot None = refl
spoken_last slot (Some line) = refl

talk_cut : (slot : ℕ) (dues : List Due) (calls : List Call) → AreCutShort slot dues (course calls) → AreCutShort slot (lines_of dues) (talk calls)
talk_cut slot dues calls h = record {
  done = lines_of h.done;
  left = lines_of h.left;
  all = ap lines_of h.all ∙ lines_then h.done h.left;
  said = spoken h.said;
  are = turns_spoken h.done h.said h.are;
  last = h.last;
  is = talk_is calls ∙ ap spoken h.is ∙ spoken_then h.said (last_heard slot h.last) ∙ ap (λ (t : List Turn). spoken h.said ++ t) (spoken_last slot h.last);
}

-- stops say nothing
pub silent_stops : (stops added : List Call) → AllStops stops → talk (stops ++ added) ≡ talk added
silent_stops [] added h = refl
silent_stops (start slot path started ∷ stops) added h = absurd h.0
silent_stops (send slot line sent ∷ stops) added h = absurd h.0
silent_stops (receive slot line ∷ stops) added h = absurd h.0
silent_stops (stop slot ∷ stops) added h = append-nil (talk (stops ++ added)) ∙ silent_stops stops added h.1

-- ---- prompts that were answered

abbrev once_of : Prompt → List Due
once_of prompt = prompt.once

-- what is due for these prompts in one try each
abbrev pub due_once : List Prompt → List Due
due_once prompts = flat_map once_of prompts

course_answered : (rose : Type 0) (prompts : List Prompt) (added : List Call) → AllAnswered rose prompts added → AreTurns (due_once prompts) (course added) ⊎ rose
course_answered rose [] added h = inl (subst (λ (calls : List Call). AreTurns [] (course calls)) (sym h) tt)
course_answered rose (prompt ∷ prompts) added h = elim h.3 [
  | inl once ↦ elim (course_answered rose prompts h.1 h.4) [
    | inl others ↦ inl (subst (λ (calls : List Call). AreTurns (prompt.once ++ due_once prompts) (course calls)) (sym h.2) (turns_then prompt.once (due_once prompts) h.0 h.1 once others))
    | inr counted ↦ inr counted
  ]
  | inr again ↦ inr again.0
]

pub talk_answered : (rose : Type 0) (prompts : List Prompt) (added : List Call) → AllAnswered rose prompts added → AreTurns (lines_of (due_once prompts)) (talk added) ⊎ rose
talk_answered rose prompts added h = elim (course_answered rose prompts added h) [
  | inl turns ↦ inl (talk_turns (due_once prompts) added turns)
  | inr counted ↦ inr counted
]

-- ---- prompts that were refused

abbrev IsBelow : ℕ → Prompt → Type 0
IsBelow width prompt = prompt.slot < width

all_then : (width : ℕ) (prompts more : List Prompt) → AllByRecursion (IsBelow width) prompts → AllByRecursion (IsBelow width) more → AllByRecursion (IsBelow width) (prompts ++ more)
all_then width [] more h g = g
all_then width (prompt ∷ prompts) more h g = (h.0, all_then width prompts more h.1 g)

all_behind : (width : ℕ) (prompts more : List Prompt) → AllByRecursion (IsBelow width) (prompts ++ more) → AllByRecursion (IsBelow width) more
all_behind width [] more h = h
all_behind width (prompt ∷ prompts) more h = all_behind width prompts more h.1

given_up : (fault : PoolFault) (rose : Type 0) (prompt : Prompt) (last : List Call) → EndsBy fault rose prompt last → rose ⊎ IsGivenUp rose prompt last
given_up ServerFault rose prompt last h = inl h.0
given_up (BadReply text) rose prompt last h = inr h
given_up Compile rose prompt last h = inr h
given_up UnknownLanguage rose prompt last h = inr h
given_up NoMemory rose prompt last h = inr h

cut_at : (width : ℕ) (fault : PoolFault) (rose : Type 0) (done left : List Prompt) (earlier last : List Call) → 0 < width → AllByRecursion (IsBelow width) left → AreTurns (due_once done) (course earlier) → EndsAt fault rose left last
    → AreCutShortIn width (due_once (done ++ left)) (course (last ++ earlier)) ⊎ rose
cut_at width fault rose done [] earlier last some below turns h =
    let all : due_once (done ++ []) ≡ due_once done ++ [] = ap due_once (append-nil done) ∙ sym (append-nil (due_once done)) in
    inl (
      0,
      some,
      subst (λ (calls : List Call). AreCutShort 0 (due_once (done ++ [])) (course (calls ++ earlier))) (sym h.1)
          (subst (λ (dues : List Due). AreCutShort 0 dues (course earlier)) (sym all) (cut_done 0 (due_once done) [] (course earlier) turns)),
    )
cut_at width fault rose done (prompt ∷ left) earlier last some below turns h = elim (given_up fault rose prompt last h) [
  | inl counted ↦ inr counted
  | inr cut ↦ elim cut [
    | inl once ↦
        let all : due_once (done ++ prompt ∷ left) ≡ (due_once done ++ prompt.once) ++ due_once left = flat_map-append once_of done (prompt ∷ left) ∙ sym (append_assoc (due_once done) prompt.once (due_once left)) in
        inl (
          prompt.slot,
          below.0,
          subst (λ (dues : List Due). AreCutShort prompt.slot dues (course (last ++ earlier))) (sym all)
              (cut_wider prompt.slot (due_once done ++ prompt.once) (due_once left) (course (last ++ earlier)) (cut_later prompt.slot (due_once done) prompt.once earlier last turns once)),
        )
    | inr again ↦ inr again.0
  ]
]

pub talk_stopped : (width : ℕ) (fault : PoolFault) (rose : Type 0) (prompts : List Prompt) (added : List Call) → 0 < width → AllByRecursion (IsBelow width) prompts → StopsAt fault rose prompts added
    → AreCutShortIn width (lines_of (due_once prompts)) (talk added) ⊎ rose
talk_stopped width fault rose prompts added some below h =
    let behind = all_behind width h.done h.left (subst (AllByRecursion (IsBelow width)) h.all below) in
    elim (course_answered rose h.done h.earlier h.answered) [
      | inl turns ↦ elim (cut_at width fault rose h.done h.left h.earlier h.last some behind turns h.ends) [
        | inl cut ↦
            let here = subst (λ (p : List Prompt). AreCutShort cut.0 (due_once p) (course (h.last ++ h.earlier))) (sym h.all) cut.2 in
            inl (cut.0, cut.1, talk_cut cut.0 (due_once prompts) added (subst (λ (calls : List Call). AreCutShort cut.0 (due_once prompts) (course calls)) (sym h.is) here))
        | inr counted ↦ inr counted
      ]
      | inr counted ↦ inr counted
    ]

-- ---- the prompts of an update

lines_once : (prompts more : List Prompt) → lines_of (due_once (prompts ++ more)) ≡ lines_of (due_once prompts) ++ lines_of (due_once more)
lines_once prompts more = ap lines_of (flat_map-append once_of prompts more) ∙ lines_then (due_once prompts) (due_once more)

begun_lines : (fresh : Bool) (slot : ℕ) (dues : List Due) → lines_of (begun fresh slot ++ dues) ≡ lines_of dues
begun_lines true slot dues = refl
begun_lines false slot dues = refl

stage_lines : (slot : ℕ) (sources : List (List ℕ)) (fresh : Bool) (stages : ℕ) → lines_of (due_once (stage_prompts slot sources fresh stages)) ≡ told_turns slot sources stages
stage_lines slot sources fresh zero = refl
stage_lines slot sources fresh (suc stage) =
    let last = stage_prompt slot sources stage (at_first stage fresh) in
    let dues = asks slot (stage_command sources stage) 0 in
    let one : lines_of (due_once (last ∷ [])) ≡ dues = ap lines_of (append-nil last.once) ∙ begun_lines (at_first stage fresh) slot dues in
    lines_once (stage_prompts slot sources fresh stage) (last ∷ [])
    ∙ ap (λ (d : List Due). d ++ lines_of (due_once (last ∷ []))) (stage_lines slot sources fresh stage)
    ∙ ap (λ (d : List Due). told_turns slot sources stage ++ d) one

slots_split : (slot first more : ℕ) (sources : List (List ℕ)) → ready_slots slot (first + more) sources ≡ ready_slots slot first sources ++ ready_slots (slot + first) more sources
slots_split slot zero more sources =
    let none : zero + more ≡ more = omega arith in
    let here : slot ≡ slot + zero = omega arith in
    ap (λ (n : ℕ). ready_slots slot n sources) none ∙ ap (λ (n : ℕ). ready_slots n more sources) here
slots_split slot (suc first) more sources =
    let one : suc first + more ≡ suc (first + more) = omega arith in
    let there : suc slot + first ≡ slot + suc first = omega arith in
    ap (λ (n : ℕ). ready_slots slot n sources) one
    ∙ ap (λ (dues : List Due). ready slot sources ++ dues) (slots_split (suc slot) first more sources)
    ∙ ap (λ (n : ℕ). ready slot sources ++ (ready_slots (suc slot) first sources ++ ready_slots n more sources)) there
    ∙ sym (append_assoc (ready slot sources) (ready_slots (suc slot) first sources) (ready_slots (slot + suc first) more sources))

one_more : (slot : ℕ) (sources : List (List ℕ)) → ready_slots 0 (slot + 1) sources ≡ ready_slots 0 slot sources ++ ready slot sources
one_more slot sources =
    let here : 0 + slot ≡ slot = omega arith in
    slots_split 0 slot 1 sources
    ∙ ap (λ (n : ℕ). ready_slots 0 slot sources ++ (ready n sources ++ [])) here
    ∙ ap (λ (dues : List Due). ready_slots 0 slot sources ++ dues) (append-nil (ready slot sources))

slots_lines : (sources : List (List ℕ)) (kept slots : ℕ) → lines_of (due_once (slots_prompts sources kept slots)) ≡ ready_slots 0 slots sources
slots_lines sources kept zero = refl
slots_lines sources kept (suc slot) =
    let fresh = nat_le kept slot in
    let here : lines_of (due_once (slot_prompts slot sources fresh)) ≡ ready slot sources = stage_lines slot sources fresh (length sources + 1) ∙ ready_turns slot sources in
    lines_once (slots_prompts sources kept slot) (slot_prompts slot sources fresh)
    ∙ ap (λ (d : List Due). d ++ lines_of (due_once (slot_prompts slot sources fresh))) (slots_lines sources kept slot)
    ∙ ap (λ (d : List Due). ready_slots 0 slot sources ++ d) here
    ∙ sym (one_more slot sources)
    ∙ ap (λ (n : ℕ). ready_slots 0 n sources) (add-one slot)

-- documents one after another, each answered before the next
abbrev one_by_one : ℕ → List (List (List ℕ × Json)) → List Due
one_by_one count documents = flat_map (λ document. asks 0 (MapDoc document) count) documents

document_lines : (sources : List (List ℕ)) (documents : List (List (List ℕ × Json))) → lines_of (due_once (document_prompts sources documents)) ≡ one_by_one (length sources) documents
document_lines sources [] = refl
document_lines sources (document ∷ documents) = ap (λ (dues : List Due). asks 0 (MapDoc document) (length sources) ++ dues) (document_lines sources documents)

-- waves of one document are documents one by one
waves_of_one : (count : ℕ) (documents : List (List (List ℕ × Json))) → waves (length documents) 1 count documents ≡ one_by_one count documents
waves_of_one count [] = refl
waves_of_one count (document ∷ documents) = ap (λ (dues : List Due). asks 0 (MapDoc document) count ++ dues) (waves_of_one count documents)

-- the lines of an update's prompts are its talk, where one child maps
pub update_lines : (job : Job) (width kept : ℕ) → width ≡ 1 → lines_of (due_once (update_prompts job width kept)) ≡ talk_of job.sources job.documents width
update_lines job width kept one =
    let slots = min width (length job.documents) in
    let count = length job.sources in
    lines_once (slots_prompts job.sources kept slots) (document_prompts job.sources job.documents)
    ∙ ap (λ (d : List Due). d ++ lines_of (due_once (document_prompts job.sources job.documents))) (slots_lines job.sources kept slots)
    ∙ ap (λ (d : List Due). ready_slots 0 slots job.sources ++ d) (document_lines job.sources job.documents
    ∙ sym (waves_of_one count job.documents) ∙ ap (λ (n : ℕ). waves (length job.documents) n count job.documents) (sym one))

-- they are asked in slots below the width
stages_below : (width slot : ℕ) (sources : List (List ℕ)) (fresh : Bool) (stages : ℕ) → slot < width → AllByRecursion (IsBelow width) (stage_prompts slot sources fresh stages)
stages_below width slot sources fresh zero below = tt
stages_below width slot sources fresh (suc stage) below =
    all_then width (stage_prompts slot sources fresh stage) (stage_prompt slot sources stage (at_first stage fresh) ∷ []) (stages_below width slot sources fresh stage below) (below, tt)

slots_below : (width : ℕ) (sources : List (List ℕ)) (kept slots : ℕ) → slots < suc width → AllByRecursion (IsBelow width) (slots_prompts sources kept slots)
slots_below width sources kept zero within = tt
slots_below width sources kept (suc slot) within =
    all_then width (slots_prompts sources kept slot) (slot_prompts slot sources (nat_le kept slot)) (slots_below width sources kept slot (omega arith)) (stages_below width slot sources (nat_le kept slot) (length sources + 1) (omega arith))

documents_below : (width : ℕ) (sources : List (List ℕ)) (documents : List (List (List ℕ × Json))) → 0 < width → AllByRecursion (IsBelow width) (document_prompts sources documents)
documents_below width sources [] some = tt
documents_below width sources (document ∷ documents) some = (some, documents_below width sources documents some)

pub update_below : (job : Job) (width kept : ℕ) → 0 < width → AllByRecursion (IsBelow width) (update_prompts job width kept)
update_below job width kept some =
    all_then width (slots_prompts job.sources kept (min width (length job.documents))) (document_prompts job.sources job.documents)
    (slots_below width job.sources kept (min width (length job.documents)) (omega arith)) (documents_below width job.sources job.documents some)
