-- A talk that was cut short: one prompt of it, and more before or behind it.
use Rattle.std.proofs.Common.{◌≡◌, ◌⊎◌, ℕ, List, [], ◌∷◌, ◌++◌, None, refl, sym, ap, ◌∙◌, subst, inl, inr, append_assoc, append-nil}
use Rattle.view_ports.specs.declared.command.Command.{Command}
use Rattle.view_ports.specs.Calls.{Call}
use Rattle.query_protocol.specs.CommandLines.{command_line}
use Rattle.child_pool.specs.Histories.{FailsAfter, Turn, says, last_heard, course}
use Rattle.child_pool.specs.Outcomes.{StopsAfter}
use Rattle.child_pool.specs.Talk.{Due, say, hear, AreTurns, AreCutShort, asks}
use Rattle.child_pool.specs.Tries.{HasFailedIn}
use Rattle.child_pool.proofs.Going.{course-append}
use Rattle.child_pool.proofs.Prompts.{fails_later}

pub AreTurns-append : (dues more : List Due) (turns later : List Turn) → AreTurns dues turns → AreTurns more later → AreTurns (dues ++ more) (turns ++ later)
AreTurns-append [] more [] later h g = g
AreTurns-append [] more (turn ∷ turns) later h g = absurd h
AreTurns-append (due ∷ dues) more [] later h g = absurd h
AreTurns-append (due ∷ dues) more (turn ∷ turns) later h g = (h.0, AreTurns-append dues more turns later h.1 g)

pub turns_then : (dues more : List Due) (added later : List Call) → AreTurns dues (course added) → AreTurns more (course later) → AreTurns (dues ++ more) (course (later ++ added))
turns_then dues more added later h g = subst (AreTurns (dues ++ more)) (sym (course-append later added)) (AreTurns-append dues more (course added) (course later) h g)

-- nothing was said
pub cut_at_once : (slot : ℕ) (dues : List Due) → AreCutShort slot dues []
cut_at_once slot dues = record { done = []; left = dues; all = refl; said = []; are = tt; last = None; is = refl }

-- a prompt was said, and no proper answer was heard
pub cut_prompt : (slot : ℕ) (c : Command) (count : ℕ) (line : List ℕ) (turns : List Turn) → line ≡ command_line c → StopsAfter slot (says slot line ∷ []) turns → AreCutShort slot (asks slot c count) turns
cut_prompt slot c count line turns spelled h = elim h [
  | inl nothing ↦ record { done = []; left = asks slot c count; all = refl; said = []; are = tt; last = None; is = nothing }
  | inr one ↦ record { done = say slot c ∷ []; left = hear slot c count ∷ []; all = refl; said = says slot line ∷ []; are = ((refl, spelled), tt); last = one.0; is = one.1 }
]

-- a prompt's try failed: its line wasn't sent, or its answer wasn't received
pub failed_prompt : (slot : ℕ) (c : Command) (count : ℕ) (line : List ℕ) (added : List Call) → line ≡ command_line c → FailsAfter [] added ⊎ FailsAfter (says slot line ∷ []) added → HasFailedIn (asks slot c count) added
failed_prompt slot c count line added spelled h = elim h [
  | inl unsent ↦ record { done = []; next = say slot c; left = hear slot c count ∷ []; all = refl; turns = []; are = tt; fails = unsent }
  | inr unanswered ↦ record { done = say slot c ∷ []; next = hear slot c count; left = []; all = refl; turns = says slot line ∷ []; are = ((refl, spelled), tt); fails = unanswered }
]

-- what was due before a try that failed was done
pub failed_later : (dues more : List Due) (added later : List Call) → AreTurns dues (course added) → HasFailedIn more later → HasFailedIn (dues ++ more) (later ++ added)
failed_later dues more added later h g = record {
  done = dues ++ g.done;
  next = g.next;
  left = g.left;
  all = ap (λ (d : List Due). dues ++ d) g.all ∙ sym (append_assoc dues g.done (g.next ∷ g.left));
  turns = course added ++ g.turns;
  are = AreTurns-append dues g.done (course added) g.turns h g.are;
  fails = fails_later (course added) g.turns later added refl g.fails;
}

-- more was due behind it
pub failed_wider : (dues more : List Due) (added : List Call) → HasFailedIn dues added → HasFailedIn (dues ++ more) added
failed_wider dues more added h = record {
  done = h.done;
  next = h.next;
  left = h.left ++ more;
  all = ap (λ (d : List Due). d ++ more) h.all ∙ append_assoc h.done (h.next ∷ h.left) more;
  turns = h.turns;
  are = h.are;
  fails = h.fails;
}

-- all that is due before something more was said and heard
pub cut_done : (slot : ℕ) (dues more : List Due) (turns : List Turn) → AreTurns dues turns → AreCutShort slot (dues ++ more) turns
cut_done slot dues more turns are = record { done = dues; left = more; all = refl; said = turns; are = are; last = None; is = sym (append-nil turns) }

-- more is due behind it
pub cut_wider : (slot : ℕ) (dues more : List Due) (turns : List Turn) → AreCutShort slot dues turns → AreCutShort slot (dues ++ more) turns
cut_wider slot dues more turns h = record {
  done = h.done;
  left = h.left ++ more;
  all = ap (λ (d : List Due). d ++ more) h.all ∙ append_assoc h.done h.left more;
  said = h.said;
  are = h.are;
  last = h.last;
  is = h.is;
}

-- other turns, which were due, came before it
pub cut_later : (slot : ℕ) (dues more : List Due) (added later : List Call) → AreTurns dues (course added) → AreCutShort slot more (course later) → AreCutShort slot (dues ++ more) (course (later ++ added))
cut_later slot dues more added later h g = record {
  done = dues ++ g.done;
  left = g.left;
  all = ap (λ (d : List Due). dues ++ d) g.all ∙ sym (append_assoc dues g.done g.left);
  said = course added ++ g.said;
  are = AreTurns-append dues g.done (course added) g.said h g.are;
  last = g.last;
  is = course-append later added ∙ ap (λ (turns : List Turn). course added ++ turns) g.is ∙ sym (append_assoc (course added) g.said (last_heard slot g.last));
}
