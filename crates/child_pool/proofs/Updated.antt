-- Mapping all documents: the children are made ready, and then map them.
use Rattle.std.proofs.Common.{◌≡◌, ◌++◌, ℕ, List, [], ◌∷◌, length, min, Result, Ok, Err, refl, sym, ap, ◌∙◌, subst, inl, inr, arith}
use Rattle.std.specs.List.{AllByRecursion, AllZip}
use Rattle.json_terms.specs.Json.{Json}
use Rattle.view_ports.specs.Calls.{Call}
use Rattle.view_ports.specs.Functions.{Functions}
use Rattle.query_protocol.specs.Replies.{AreFew}
use Rattle.child_pool.specs.declared.doc_rows.DocRowLists.{DocRowLists}
use Rattle.child_pool.specs.declared.pool.Pool.{Pool}
use Rattle.child_pool.specs.declared.pool_fault.PoolFault.{PoolFault}
use Rattle.child_pool.specs.Histories.{WentIn}
use Rattle.child_pool.specs.Jobs.{IsAmong, Job}
use Rattle.child_pool.specs.Mapping.{AreHonestRows, AreParts}
use Rattle.child_pool.specs.Pools.{AfterPreparing, AreStopped, HasItsChildren}
use Rattle.child_pool.specs.Prompts.{document_prompts, slots_prompts, update_prompts}
use Rattle.child_pool.specs.Talk.{AreTurns, Due, ready_slots, talk_of}
use Rattle.child_pool.specs.Tries.{AllAnswered, Prompt}
use Rattle.child_pool.specs.Updates.{AfterTries, AfterUpdate}
use Rattle.child_pool.proofs.Pooled.{Stands, StandsAt, some_kept}
use Rattle.child_pool.proofs.Refusals.{given_up_before, talk_given_up}
use Rattle.child_pool.proofs.Slots.{map_in, none_in}

-- each of some is among them
among_more : {X : Type 0} (x : X) (xs ys : List X) → AllByRecursion (IsAmong xs) ys → AllByRecursion (IsAmong (x ∷ xs)) ys
among_more x xs [] all = tt
among_more x xs (y ∷ ys) all = (inr all.0, among_more x xs ys all.1)

pub among_themselves : {X : Type 0} (xs : List X) → AllByRecursion (IsAmong xs) xs
among_themselves [] = tt
among_themselves (x ∷ xs) = (inl refl, among_more x xs xs (among_themselves xs))

pub stands_stopped : {width : ℕ} (pool : Pool) (calls : List Call) → AreStopped width pool calls → HasItsChildren pool calls
stands_stopped pool calls stopped = record {
  mapping = subst (Stands pool calls) (sym stopped.forgotten) tt;
  reducing = subst (StandsAt pool.width calls) (sym stopped.reducer) tt;
}

-- an update, by its tries and by its talk
abbrev pub Both : (List ℕ → Functions) → (List ℕ → Type 0) → Job → Pool → List Call → (List Call → Type 0) → Type 0 → Pool → Result DocRowLists PoolFault → Type 0
Both functions honest job old calls follow rose pool result = WentIn follow job old.width calls (λ added now.
    AfterTries functions honest job old rose pool result calls added now × AfterUpdate functions honest job old.width rose pool result calls added now)

-- the prompts of an update are those which make the slots ready, and those of the documents
prompts_are : (job : Job) (old : Pool) (slots : ℕ) → slots ≡ min old.width (length job.documents) → (kept : ℕ) → update_prompts job old.width kept ≡ slots_prompts job.sources kept slots ++ document_prompts job.sources job.documents
prompts_are job old slots is kept = ap (λ (n : ℕ). slots_prompts job.sources kept n ++ document_prompts job.sources job.documents) (sym is)

module _ (functions : List ℕ → Functions) (honest : List ℕ → Type 0) (job : Job) (calls : List Call) where
  -- nothing is to be mapped
  nothing_mapped : (width : ℕ) (rose : Type 0) (pool : Pool) (lists : DocRowLists) → job.documents ≡ [] → lists ≡ [] → HasItsChildren pool calls → AfterUpdate functions honest job width rose pool (Ok lists) calls [] calls
  nothing_mapped width rose pool lists none empty stands = (
    stands,
    record {
      rows = record {
        each = ap (λ (l : DocRowLists). length l) empty ∙ sym (ap (λ (d : List (List (List ℕ × Json))). length d) none);
        parts = subst (λ (l : DocRowLists). AllByRecursion AreParts l) (sym empty) tt;
        few = subst (λ (l : DocRowLists). AllByRecursion AreFew l) (sym empty) tt;
        all = subst (λ (l : DocRowLists). AllByRecursion (λ rows. length rows ≡ length job.sources) l) (sym empty) tt;
        right = subst (AllZip (AreHonestRows functions honest job.path job.sources) job.documents) (sym empty)
            (subst (λ (d : List (List (List ℕ × Json))). AllZip (AreHonestRows functions honest job.path job.sources) d []) (sym none) tt);
      };
      compile = λ is_honest some. absurd (some none);
      talked = inl (subst (λ (dues : List Due). AreTurns dues []) (sym (no_talk width)) tt);
    },
    λ some. absurd (some none),
  )
    where
      no_talk : (width : ℕ) → talk_of job.sources job.documents width ≡ []
      no_talk width =
          let no_slots : min width 0 ≡ 0 = omega arith in
          ap (λ (d : List (List (List ℕ × Json))). talk_of job.sources d width) none ∙ ap (λ (n : ℕ). ready_slots 0 n job.sources ++ []) no_slots

  -- nothing is tried
  nothing_tried : (old : Pool) (rose : Type 0) (lists : DocRowLists) → job.documents ≡ [] → AfterTries functions honest job old rose old (Ok lists) calls [] calls
  nothing_tried old rose lists none =
      let kept = some_kept old job.path old.started refl in (
        (
          kept.0,
          kept.1,
          record {
            answered = subst (λ (prompts : List Prompt). AllAnswered rose prompts []) (sym (no_prompts old.width kept.0)) refl;
            remembers = λ some. absurd (some none);
          },
        ),
        refl,
      )
    where
      no_prompts : (width kept : ℕ) → update_prompts job width kept ≡ []
      no_prompts width kept =
          let no_slots : min width 0 ≡ 0 = omega arith in
          ap (λ (d : List (List (List ℕ × Json))). slots_prompts job.sources kept (min width (length d)) ++ document_prompts job.sources d) none
          ∙ ap (λ (n : ℕ). slots_prompts job.sources kept n ++ []) no_slots

module _ (functions : List ℕ → Functions) (honest : List ℕ → Type 0) (job : Job) {calls : List Call} where
  -- nothing is done
  pub nothing_done : {follow : List Call → Type 0} (old : Pool) (rose : Type 0) (lists : DocRowLists) → job.documents ≡ [] → lists ≡ [] → follow calls → HasItsChildren old calls
      → Both functions honest job old calls follow rose old (Ok lists)
  nothing_done old rose lists none empty follows stands =
      none_in follows (λ added now. AfterTries functions honest job old rose old (Ok lists) calls added now × AfterUpdate functions honest job old.width rose old (Ok lists) calls added now)
      (nothing_tried functions honest job calls old rose lists none, nothing_mapped functions honest job calls old.width rose old lists none empty stands)

  module _ (old : Pool) (slots : ℕ) (is : slots ≡ min old.width (length job.documents)) where
    -- the children could not be made ready
    pub refused_at_first : {follow : List Call → Type 0} (rose : Type 0) (pool : Pool) (f : PoolFault)
        → WentIn follow job old.width calls (AfterPreparing functions honest job old slots rose pool (Err f) calls) → Both functions honest job old calls follow rose pool (Err f)
    refused_at_first rose pool f w =
        let kept = w.holds.0 in
        let all = given_up_before functions honest job old.width (slots_prompts job.sources kept slots) (document_prompts job.sources job.documents) (update_prompts job old.width kept) rose pool f calls w.added w.now (prompts_are job old slots is kept) w.holds.2 in
        map_in w (λ added now. AfterTries functions honest job old rose pool (Err f) calls added now × AfterUpdate functions honest job old.width rose pool (Err f) calls added now)
        ((kept, w.holds.1, all), talk_given_up functions honest job old.width kept rose pool f calls w.added w.now old.one_child all)
