-- Prompts that were tried, one after another.
use Rattle.std.proofs.Common.{◌≡◌, List, [], ◌∷◌, ◌++◌, refl, sym, ap, ◌∙◌, subst, inl, append_assoc, append-nil}
use Rattle.view_ports.specs.Calls.{Call}
use Rattle.child_pool.specs.declared.pool_fault.PoolFault.{PoolFault}
use Rattle.child_pool.specs.declared.pool_fault.PoolFault.TheVariants.{ServerFault, BadReply, Compile, UnknownLanguage, NoMemory}
use Rattle.child_pool.specs.Histories.{course}
use Rattle.child_pool.specs.Talk.{AreCutShort}
use Rattle.child_pool.specs.Tries.{AllAnswered, EndsAt, EndsBy, IsAnswered, IsGivenUp, Prompt, StopsAt}
use Rattle.child_pool.proofs.Cutting.{cut_at_once}
pub use Rattle.child_pool.specs.TryLaws.{answered_then, answered_wider, stops_later, stops_wider}

-- ---- what was answered

pub answered_one : (rose : Type 0) (prompt : Prompt) (added : List Call) → IsAnswered rose prompt added → AllAnswered rose (prompt ∷ []) added
answered_one rose prompt added h = (added, [], refl, h, refl)

-- ---- where a refusal comes

-- a try was cut short by another refusal than that of two failures
pub given_up_by : (fault : PoolFault) (rose : Type 0) (prompt : Prompt) (last : List Call) → (fault ≡ ServerFault → ⊥) → IsGivenUp rose prompt last → EndsBy fault rose prompt last
given_up_by ServerFault rose prompt last other h = absurd (other refl)
given_up_by (BadReply text) rose prompt last other h = h
given_up_by Compile rose prompt last other h = h
given_up_by UnknownLanguage rose prompt last other h = h
given_up_by NoMemory rose prompt last other h = h

pub stops_one : (fault : PoolFault) (rose : Type 0) (prompt : Prompt) (added : List Call) → EndsBy fault rose prompt added → StopsAt fault rose (prompt ∷ []) added
stops_one fault rose prompt added h = record {
  done = [];
  left = prompt ∷ [];
  all = refl;
  earlier = [];
  last = added;
  is = sym (append-nil added);
  answered = refl;
  ends = h;
}

-- more prompts were due behind it
pub stops_before : (fault : PoolFault) (rose : Type 0) (prompts more : List Prompt) (added : List Call) → StopsAt fault rose prompts added → StopsAt fault rose (prompts ++ more) added
stops_before fault rose prompts more added h = record {
  done = h.done;
  left = h.left ++ more;
  all = ap (λ (p : List Prompt). p ++ more) h.all ∙ append_assoc h.done h.left more;
  earlier = h.earlier;
  last = h.last;
  is = h.is;
  answered = h.answered;
  ends = ends_before h.left more h.last h.ends;
}
  where
    ends_before : (left more : List Prompt) (last : List Call) → EndsAt fault rose left last → EndsAt fault rose (left ++ more) last
    ends_before [] [] last h = h
    ends_before [] (prompt ∷ more) last h =
        subst (λ (f : PoolFault). EndsBy f rose prompt last) (sym h.0)
        (inl (subst (λ (calls : List Call). AreCutShort prompt.slot prompt.once (course calls)) (sym h.1) (cut_at_once prompt.slot prompt.once)))
    ends_before (prompt ∷ left) more last h = h

-- memory ran out behind some prompts
pub stops_between : (rose : Type 0) (prompts : List Prompt) (added : List Call) → AllAnswered rose prompts added → StopsAt NoMemory rose prompts added
stops_between rose prompts added h = record {
  done = prompts;
  left = [];
  all = sym (append-nil prompts);
  earlier = added;
  last = [];
  is = refl;
  answered = h;
  ends = (refl, refl);
}

-- memory ran out before anything was done
pub stops_first : (rose : Type 0) (prompts : List Prompt) → StopsAt NoMemory rose prompts []
stops_first rose prompts = stops_before NoMemory rose [] prompts [] (stops_between rose [] [] refl)
