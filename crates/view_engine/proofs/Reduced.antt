-- What a pool asked of the child that reduces, in the words of moments.
use Rattle.std.proofs.Common.{◌≡◌, ◌≤◌, ◌∙◌, ℕ, List, [], Some, refl, sym, ap, subst, inl, inr, arith}
use Rattle.view_ports.specs.Calls.{Call}
use Rattle.view_ports.specs.Faults.{Rose, RoseBy}
use Rattle.view_ports.specs.declared.servers.Servers.{Ghosts as Servers}
use Rattle.child_pool.specs.declared.pool.Pool.{Pool}
use Rattle.child_pool.specs.declared.pool_fault.PoolFault.{PoolFault}
use Rattle.child_pool.specs.declared.pool_fault.PoolFault.TheVariants as fault
use Rattle.view_ports.specs.Functions.{Functions}
use Rattle.child_pool.specs.Histories.{WentReducing}
use Rattle.child_pool.specs.Honesty.{SomeReduceFails}
use Rattle.child_pool.specs.Jobs.{reduce_job}
use Rattle.child_pool.specs.Languages.{path_in}
use Rattle.child_pool.specs.Outcomes.{IsCaused}
use Rattle.child_pool.specs.PoolCalls.{StaysAsMade}
use Rattle.child_pool.specs.Pools.{HasItsChildren, languages_of}
use Rattle.child_pool.specs.Reductions.{Children, FailsReducing, HasFailedReducing, HasReduced, Reduces, children_of}
use Rattle.child_pool.proofs.Honesty.{complains_rightly}
use Rattle.child_pool.proofs.Whole.{no_bad_reply_in}
use Rattle.view_engine.specs.declared.halt.Halt.TheVariants.{Refused, Stopped}
use Rattle.view_engine.specs.declared.halt.StepFault.{StepFault}
use Rattle.view_engine.specs.declared.halt.StepFault.TheVariants.{NoMemory}
use Rattle.view_engine.specs.declared.refusal.Refusal.{Refusal}
use Rattle.view_engine.specs.declared.refusal.Refusal.TheVariants as refusal
use Rattle.view_engine.specs.Disks.{IfStopped}
use Rattle.view_engine.specs.Engine.{HasChild}
use Rattle.view_engine.specs.Moments.{CalledReducing, Moment, children_at}
use Rattle.view_engine.specs.Reducing.{AreGivenUp, Reduced, ReducedSomehow}
use Rattle.view_engine.specs.Refusals.{refusal_text}
use Rattle.view_engine.specs.View.{IsMet, IsRefusedReducing, design_id}
use Rattle.view_engine.specs.ViewPlan.{met_by_pool}
use Rattle.view_engine.specs.ViewQuery.{ViewQuery}
use Rattle.view_engine.specs.World.{World}
use Rattle.view_engine.proofs.Viewed.{told_by}

-- nothing was asked
pub reduced_none : (path : List ℕ) (reduces : List (List ℕ)) (moment : Moment) → Reduced path reduces moment moment
reduced_none path reduces moment = record { added = []; is = refl; width = refl; lawful = tt; later = omega arith; holds = inl (refl, refl) }

-- what was had was somehow asked for
pub somehow_had : (path : List ℕ) (reduces : List (List ℕ)) (before after : Moment) → Reduced path reduces before after → ReducedSomehow path reduces before after
somehow_had path reduces before after all = record { added = all.added; is = all.is; width = all.width; lawful = all.lawful; later = all.later; holds = inl all.holds }

-- a complaint of an honest path is about one of the sources
pub complains_of_reduce : (functions : List ℕ → Functions) (honest : List ℕ → Type 0) (path : List ℕ) (reduces : List (List ℕ)) (added before : List Call) → honest path
    → IsCaused functions honest (reduce_job path reduces) added before fault.Compile → SomeReduceFails (functions path) reduces
complains_of_reduce functions honest path reduces added before is_honest caused = elim (complains_rightly functions honest (reduce_job path reduces) added before is_honest caused) [
  | inl source ↦ absurd source.among
  | inr fails ↦ fails
]

-- want of memory is no refusal
pub never_refused : (id : List ℕ) (f : PoolFault) (r : Refusal) → f ≡ fault.NoMemory → met_by_pool id f ≡ Refused r → ⊥
never_refused id f r spent is = let met : met_by_pool id fault.NoMemory ≡ Refused r = ap (met_by_pool id) (sym spent) ∙ is in let clash : ⊥ = cc in clash

-- and nothing else stops the engine
pub stops_for_memory : (id : List ℕ) (f : PoolFault) (step : StepFault) → met_by_pool id f ≡ Stopped step → step ≡ NoMemory
stops_for_memory id fault.NoMemory step is = let same : NoMemory ≡ step = cc in sym same
stops_for_memory id fault.UnknownLanguage step is = let same : NoMemory ≡ step = cc in sym same
stops_for_memory id fault.ServerFault step is = absurd (let clash : ⊥ = cc in clash)
stops_for_memory id (fault.BadReply line) step is = absurd (let clash : ⊥ = cc in clash)
stops_for_memory id fault.Compile step is = absurd (let clash : ⊥ = cc in clash)

pub memory_alone : (P : StepFault → Type 0) → P NoMemory → (id : List ℕ) (f : PoolFault) → IfStopped P (met_by_pool id f)
memory_alone P spent id fault.NoMemory = spent
memory_alone P spent id fault.UnknownLanguage = spent
memory_alone P spent id fault.ServerFault = tt
memory_alone P spent id (fault.BadReply line) = tt
memory_alone P spent id fault.Compile = tt

-- nothing was asked of the child that reduces
pub nothing_reduced : {C : Type 0} (s : Servers C) (servers : C) (pool : Pool) (language : List ℕ) (reduces : List (List ℕ)) → Reduces s servers servers pool pool language reduces
nothing_reduced s servers pool language reduces = record {
  idle = λ none. (refl, refl);
  keeps = record { languages = refl; width = refl };
  later = omega arith;
  went = λ path calls follows is child. record { added = []; now = calls; is_now = refl; follows = follows; lawful = tt; holds = (child, inl (refl, refl)) };
}

-- so many children of a pool are those of a moment
pub same_children : {follow : List Call → Type 0} {faults : ℕ} (pool : Pool) (moment : Moment) → HasChild follow faults pool moment → children_of pool ≡ children_at moment
same_children pool moment child = λ i. record { started = child.started i; reducer = child.reducer i }

module _ {C : Type 0} (s : Servers C) (servers servers' : C) (pool pool' : Pool) (before : Moment) (child : HasChild (s.may_follow servers) (s.faults servers) pool before)
    (language path : List ℕ) (path_is : path_in (languages_of pool) language ≡ Some path) (reduces : List (List ℕ)) where
  -- the moment after these calls
  abbrev pub then : World → List Call → Moment
  then left now = record { world = left; width = before.width; started = pool'.started; reducer = pool'.reducer; calls = now; faults = s.faults servers' }

  -- after some calls the pool has its children, and of the moment then `P` holds
  pub record HasGone (P : Moment → Type 0) (left : World) : Type 0 where
    pub now : List Call
    pub has_child : HasChild (s.may_follow servers') (s.faults servers') pool' (then left now)
    pub holds : P (then left now)

  -- ---- in the words of the moment

  module _ (P : ℕ → Type 0 → Children → List Call → List Call → Type 0) (keeps : StaysAsMade pool pool') (later : s.faults servers ≤ s.faults servers') where
    abbrev Went : ℕ → Type 0 → Children → Type 0
    Went width rose kept = WentReducing (s.may_follow servers') path reduces width before.calls (λ added now. HasItsChildren pool' now × P width rose kept added now)

    at_moment : Went pool.width (Rose (s.faults servers) (s.faults servers')) (children_of pool) → Went before.width (Rose before.faults (s.faults servers')) (children_at before)
    at_moment w =
        subst (Went before.width (Rose before.faults (s.faults servers'))) (same_children pool before child)
        (subst (λ (n : ℕ). Went before.width (Rose n (s.faults servers')) (children_of pool)) child.counts
        (subst (λ (n : ℕ). Went n (Rose (s.faults servers) (s.faults servers')) (children_of pool)) child.width w))

    gone : Went pool.width (Rose (s.faults servers) (s.faults servers')) (children_of pool) → (left : World)
        → HasGone (λ after. CalledReducing path reduces before after (λ added now. P before.width (Rose before.faults (s.faults servers')) (children_at before) added now)) left
    gone w left =
        let m = at_moment w in
        record {
          now = m.now;
          has_child = record { width = (let kept = keeps.width in subst (λ (n : ℕ). pool'.width ≡ n) child.width kept); started = refl; reducer = refl; child = m.holds.0; follows = m.follows; counts = refl };
          holds = record { added = m.added; is = m.is_now; width = refl; lawful = m.lawful; later = subst (λ (n : ℕ). n ≤ s.faults servers') child.counts later; holds = m.holds.1 };
        }

  -- all values were had
  pub all_had : Reduces s servers servers' pool pool' language reduces → (left : World) → HasGone (λ after. Reduced path reduces before after) left
  all_had all left =
      let had = gone (λ width rose kept added now. HasReduced path reduces width rose kept (children_of pool') added) all.keeps all.later (all.went path before.calls child.follows path_is child.child) left in
      let called = had.holds in
      record {
        now = had.now;
        has_child = had.has_child;
        holds = record { added = called.added; is = called.is; width = called.width; lawful = called.lawful; later = called.later; holds = called.holds };
      }

  -- or a fault was met
  pub record HasMetThere (f : PoolFault) (after : Moment) (added now : List Call) : Type 0 where
    pub ends : HasFailedReducing path reduces before.width (Rose before.faults after.faults) (children_at before) (children_at after) f added now
    pub caused : IsCaused s.functions s.honest (reduce_job path reduces) added before.calls f

  record HasMetCaused (f : PoolFault) (width : ℕ) (rose : Type 0) (kept : Children) (added now : List Call) : Type 0 where
    pub ends : HasFailedReducing path reduces width rose kept (children_of pool') f added now
    pub caused : IsCaused s.functions s.honest (reduce_job path reduces) added before.calls f

  pub met_there : (f : PoolFault) → FailsReducing s servers servers' pool pool' language reduces f → (left : World) → HasGone (λ after. CalledReducing path reduces before after (HasMetThere f after)) left
  met_there f fails left =
      let went = fails.went path before.calls child.follows path_is child.child in
      let had = gone (λ width rose kept added now. HasMetCaused f width rose kept added now) fails.keeps fails.later
      (record { added = went.added; now = went.now; is_now = went.is_now; follows = went.follows; lawful = went.lawful; holds = (went.holds.0, record { ends = went.holds.1; caused = went.holds.2 }) }) left in
      let called = had.holds in
      record {
        now = had.now;
        has_child = had.has_child;
        holds = record { added = called.added; is = called.is; width = called.width; lawful = called.lawful; later = called.later; holds = record { ends = called.holds.ends; caused = called.holds.caused } };
      }

  -- however it was met, it was somehow asked for
  pub somehow_met : (f : PoolFault) (after : Moment) → CalledReducing path reduces before after (HasMetThere f after) → ReducedSomehow path reduces before after
  somehow_met f after called = record {
    added = called.added;
    is = called.is;
    width = called.width;
    lawful = called.lawful;
    later = called.later;
    holds = elim called.holds.ends [
      | inl given_up ↦ inr (f, given_up)
      | inr spent ↦ inl spent.1
    ];
  }

  -- ---- a refusal

  module _ (name : ViewQuery) (id : List ℕ) (id_is : id ≡ design_id name.design) (left : World) (f : PoolFault) (r : Refusal) (is : met_by_pool id f ≡ Refused r)
      (twice : f ≡ fault.ServerFault → RoseBy 2 (s.faults servers) (s.faults servers')) (Complaint : Type 0) (right : f ≡ fault.Compile → Complaint) (now : List Call)
      (called : CalledReducing path reduces before (then left now) (HasMetThere f (then left now))) where
    abbrev after : Moment
    after = then left now

    given_up : (g : PoolFault) (added calls : List Call) → met_by_pool id g ≡ Refused r → HasFailedReducing path reduces before.width (Rose before.faults after.faults) (children_at before) (children_at after) g added calls
        → (g ≡ fault.NoMemory → ⊥)
    given_up fault.NoMemory added calls met ends = absurd (let clash : ⊥ = cc in clash)
    given_up fault.UnknownLanguage added calls met ends = absurd (let clash : ⊥ = cc in clash)
    given_up fault.ServerFault added calls met ends = λ none. let clash : ⊥ = cc in clash
    given_up (fault.BadReply line) added calls met ends = λ none. let clash : ⊥ = cc in clash
    given_up fault.Compile added calls met ends = λ none. let clash : ⊥ = cc in clash

    met : (g : PoolFault) (added : List Call) → met_by_pool id g ≡ Refused r → (g ≡ fault.ServerFault → RoseBy 2 (s.faults servers) (s.faults servers'))
        → IsCaused s.functions s.honest (reduce_job path reduces) added before.calls g → IsMet s.functions s.honest name (reduce_job path reduces) before after added r
    met fault.ServerFault added same rises caused =
        let is_refused : refusal.ServerFault ≡ r = cc in
        subst (IsMet s.functions s.honest name (reduce_job path reduces) before after added) is_refused (subst (λ (n : ℕ). RoseBy 2 n (s.faults servers')) child.counts (rises refl))
    met (fault.BadReply line) added same rises caused =
        let is_refused : refusal.ServerReply line ≡ r = cc in
        subst (IsMet s.functions s.honest name (reduce_job path reduces) before after added) is_refused (caused, λ h. no_bad_reply_in s language path reduces added before.calls line h caused)
    met fault.Compile added same rises caused =
        let is_refused : refusal.CompilationError id ≡ r = cc in
        subst (IsMet s.functions s.honest name (reduce_job path reduces) before after added) is_refused (id_is, caused, λ h. complains_rightly s.functions s.honest (reduce_job path reduces) added before.calls h caused)
    met fault.NoMemory added same rises caused = absurd (let clash : ⊥ = cc in clash)
    met fault.UnknownLanguage added same rises caused = absurd (let clash : ⊥ = cc in clash)

    complained : (g : PoolFault) (other : List ℕ) → met_by_pool id g ≡ Refused r → r ≡ refusal.CompilationError other → g ≡ fault.Compile
    complained fault.Compile other same complaint = refl
    complained fault.ServerFault other same complaint = let clash : ⊥ = cc in absurd clash
    complained (fault.BadReply line) other same complaint = let clash : ⊥ = cc in absurd clash
    complained fault.NoMemory other same complaint = let clash : ⊥ = cc in absurd clash
    complained fault.UnknownLanguage other same complaint = let clash : ⊥ = cc in absurd clash

    pub refused_reducing : CalledReducing path reduces before after (IsRefusedReducing s.functions s.honest name path reduces Complaint before after (refusal_text r))
    refused_reducing = record {
      added = called.added;
      is = called.is;
      width = called.width;
      lawful = called.lawful;
      later = called.later;
      holds = record {
        refusal = r;
        met = met f called.added is twice called.holds.caused;
        prints = refl;
        given_up = elim called.holds.ends [
          | inl ends ↦ subst (λ (g : PoolFault). AreGivenUp path reduces before after g called.added after.calls) (told_by id f r is) ends
          | inr spent ↦ absurd (given_up f called.added after.calls is called.holds.ends spent.0)
        ];
        complaint = λ other complaint. right (complained f other is complaint);
      };
    }
