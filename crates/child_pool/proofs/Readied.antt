-- The first slots are made ready, one after another.
use Rattle.std.proofs.Common.{◌≡◌, ◌⊎◌, ◌<◌, ◌≤◌, ◌+◌, ℕ, zero, suc, nat_le, List, [], ◌++◌, Ok, Err, refl, sym, ap, ◌∙◌, subst, inl, inr, arith, add-one, append_assoc, append-nil}
use Rattle.std.proofs.Math.Nat.{eq-or-lt_of_le}
use Rattle.std.proofs.lemmas.Bool.{cases_lt}
use Rattle.view_ports.specs.Calls.{Call}
use Rattle.view_ports.specs.Functions.{Functions}
use Rattle.child_pool.specs.declared.pool_fault.PoolFault.{PoolFault}
use Rattle.child_pool.specs.Histories.{Went, WentIn}
use Rattle.child_pool.specs.Jobs.{Job}
use Rattle.child_pool.specs.PoolCalls.{AreLeft}
use Rattle.child_pool.specs.Pools.{AfterReadying, AreThere, AreTold}
use Rattle.child_pool.specs.Preparing.{AfterPrepare}
use Rattle.child_pool.specs.Sessions.{HasTold, IsThere}
use Rattle.child_pool.specs.Prompts.{slot_prompts, slots_prompts}
use Rattle.child_pool.specs.Tries.{AllAnswered, Prompt}
use Rattle.child_pool.proofs.Attempts.{refused_after, refused_before}
use Rattle.child_pool.proofs.Trying.{answered_then, answered_wider}
use Rattle.child_pool.proofs.Slots.{map_in, stays_elsewhere, then_on, there_elsewhere, told_elsewhere}

-- the prompts of the first slots come first
slots_front : (sources : List (List ℕ)) (kept slots slot : ℕ) → slot ≤ slots → (rest : List Prompt) × (slots_prompts sources kept slots ≡ slots_prompts sources kept slot ++ rest)
slots_front sources kept zero slot within =
    let none : zero ≡ slot = omega arith in
    ([], ap (slots_prompts sources kept) none ∙ sym (append-nil (slots_prompts sources kept slot)))
slots_front sources kept (suc n) slot within = elim (eq-or-lt_of_le within) [
  | inl all ↦ ([], ap (slots_prompts sources kept) (sym all) ∙ sym (append-nil (slots_prompts sources kept slot)))
  | inr less ↦
      let front = slots_front sources kept n slot (omega arith) in
      let last = slot_prompts n sources (nat_le kept n) in
      (front.0 ++ last, ap (λ (prompts : List Prompt). prompts ++ last) front.1 ∙ append_assoc (slots_prompts sources kept slot) front.0 last)
]

-- ---- how far the slots have come

module _ (functions : List ℕ → Functions) (honest : List ℕ → Type 0) (job : Job) (kept slots : ℕ) where
  -- the slots below this one are ready, and the others are as they were
  pub record HasReadied (slot : ℕ) (rose : Type 0) (before added now : List Call) : Type 0 where
    pub told : AreTold functions honest job slot now
    pub there : (other : ℕ) → slot ≤ other → other < kept → IsThere job.path other now
    pub left : AreLeft slot before now
    pub answered : AllAnswered rose (slots_prompts job.sources kept slot) added

  pub none_readied : (rose : Type 0) (calls : List Call) → AreThere job.path kept calls → HasReadied 0 rose calls [] calls
  none_readied rose calls there = record {
    told = λ slot never. absurd (omega arith);
    there = λ other above below. there other below;
    left = λ other above. refl;
    answered = refl;
  }

  module _ {first second : List Call → Type 0} {width : ℕ} {calls : List Call} (slot : ℕ) (below : slot < slots) (within : slots ≤ width) (rose_first rose_second rose : Type 0)
      (f : rose_first → rose) (g : rose_second → rose) (w : WentIn first job width calls (HasReadied slot rose_first calls)) where
    pub one_readied : Went second job slot w.now (AfterPrepare functions honest job slot (slot_prompts slot job.sources (nat_le kept slot)) rose_second (Ok tt) w.now) → WentIn second job width calls (HasReadied (slot + 1) rose calls)
    one_readied v =
        let in_pool : slot < width = omega arith in
        then_on in_pool w v (HasReadied (slot + 1) rose calls) (record {
          told = λ other less. elim (split other less) [
            | inl same ↦ subst (λ (n : ℕ). HasTold functions honest job.path job.sources n v.now) (sym same) v.holds.0
            | inr lower ↦ told_elsewhere v other (omega arith) functions honest job.path job.sources (w.holds.told other lower)
          ];
          there = λ other above under. there_elsewhere v other (omega arith) job.path (w.holds.there other (omega arith) under);
          left = λ other above. stays_elsewhere v other (omega arith) ∙ w.holds.left other (omega arith);
          answered = subst (λ (n : ℕ). AllAnswered rose (slots_prompts job.sources kept n) (v.added ++ w.added)) (sym (add-one slot))
              (answered_then rose (slots_prompts job.sources kept slot) (slot_prompts slot job.sources (nat_le kept slot)) w.added v.added
              (answered_wider rose_first rose f (slots_prompts job.sources kept slot) w.added w.holds.answered) (answered_wider rose_second rose g (slot_prompts slot job.sources (nat_le kept slot)) v.added v.holds.1));
        })
      where
        split : (other : ℕ) → other < slot + 1 → (other ≡ slot) ⊎ (other < slot)
        split other less = let most : other ≤ slot = omega arith in eq-or-lt_of_le most

    pub one_refused : (fault : PoolFault) → Went second job slot w.now (AfterPrepare functions honest job slot (slot_prompts slot job.sources (nat_le kept slot)) rose_second (Err fault) w.now)
        → WentIn second job width calls (λ added now. AfterReadying functions honest job kept slots rose (Err fault) calls added now × Unit {0})
    one_refused fault v =
        let in_pool : slot < width = omega arith in
        let so_far = slots_prompts job.sources kept slot in
        let here = refused_after functions honest job so_far (slot_prompts slot job.sources (nat_le kept slot)) rose_first rose_second rose f g fault w.added v.added calls w.now w.is_now w.holds.answered v.holds in
        let front = slots_front job.sources kept slots (suc slot) (omega arith) in
        then_on in_pool w v (λ added now. AfterReadying functions honest job kept slots rose (Err fault) calls added now × Unit {0})
        (refused_before functions honest job (slots_prompts job.sources kept (suc slot)) front.0 (slots_prompts job.sources kept slots) rose fault calls (v.added ++ w.added) front.1 here, tt)

  -- all slots are ready
  pub all_readied : {follow : List Call → Type 0} {width : ℕ} {calls : List Call} (rose : Type 0) → WentIn follow job width calls (HasReadied slots rose calls)
      → WentIn follow job width calls (λ added now. AfterReadying functions honest job kept slots rose (Ok tt) calls added now × (AreThere job.path kept now × AreLeft slots calls now))
  all_readied {width = width} {calls = calls} rose w =
      map_in w (λ added now. AfterReadying functions honest job kept slots rose (Ok tt) calls added now × (AreThere job.path kept now × AreLeft slots calls now)) ((w.holds.told, w.holds.answered), (still, w.holds.left))
    where
      still : AreThere job.path kept w.now
      still other below = elim (cases_lt other slots) [
        | inl made ↦ (job.sources, (w.holds.told other made).idle)
        | inr above ↦ w.holds.there other above below
      ]
