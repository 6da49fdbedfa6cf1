-- The child that reduces is reset, and the children that map stay.
use Rattle.std.specs.Prelude.{not}
use Rattle.std.proofs.Common.{◌≡◌, ◌<◌, ◌≤◌, ℕ, List, [], Bool, true, false, Option, Some, None, MatchOption, Ok, refl, sym, ◌∙◌, subst, arith}
use Rattle.std.specs.Str.{bytes_eq}
use Rattle.std.proofs.lemmas.Slice.Eq.{bytes_eq-Decides}
use Rattle.view_ports.specs.Calls.{Call, child}
use Rattle.view_ports.specs.Functions.{Functions}
use Rattle.child_pool.specs.declared.pool.Pool.{Pool}
use Rattle.child_pool.specs.declared.pool.Started.{Started}
use Rattle.child_pool.specs.Histories.{Went}
use Rattle.child_pool.specs.Jobs.{Job, job_of, reduce_job}
use Rattle.child_pool.specs.Pools.{AreThere, HasItsChildren, is_reducer}
use Rattle.child_pool.specs.Preparing.{AfterPrepare}
use Rattle.child_pool.specs.ReduceSlot.{AfterReset, is_fresh, reset_prompts}
use Rattle.child_pool.specs.Sessions.{HasTold, IsThere}
use Rattle.child_pool.proofs.Going.{Went-map}
use Rattle.child_pool.proofs.Pooled.{StandsAt}
use Rattle.child_pool.proofs.Slots.{stays_elsewhere}
use Rattle.child_pool.proofs.Widened.{prepare_wider}

true_where : (b : Bool) → not b ≡ false → b ≡ true
true_where true is = refl
true_where false is = absurd cc

-- a child that needn't be started is there
there_at : (o : Option (List ℕ)) (path : List ℕ) (width : ℕ) (calls : List Call) → not (is_reducer path o) ≡ false → StandsAt width calls o → IsThere path width calls
there_at None path width calls old there = absurd cc
there_at (Some started) path width calls old there =
    let mine : started ≡ path = (bytes_eq-Decides started path).0 (true_where (bytes_eq started path) old) in
    subst (λ (p : List ℕ). IsThere p width calls) mine there

pub kept_at : (pool : Pool) (path : List ℕ) (calls : List Call) → is_fresh path pool ≡ false → HasItsChildren pool calls → IsThere path pool.width calls
kept_at pool path calls old stands = there_at pool.reducer path pool.width calls old stands.reducing

-- children that map are there still where their slots are as they were
abbrev StandBelow : ℕ → List Call → Option Started → Type 0
StandBelow width calls o = MatchOption o (Unit {0}) (λ started. (started.count ≤ width) × AreThere started.path started.count calls)

mapping_stays : (o : Option Started) (width : ℕ) (before now : List Call) → ((slot : ℕ) → slot < width → child slot now ≡ child slot before) → StandBelow width before o → StandBelow width now o
mapping_stays None width before now same there = tt
mapping_stays (Some started) width before now same there = (
  there.0,
  λ slot below. let was = there.1 slot below in (was.0, record { is = same slot (omega (arith, there.0)) ∙ was.1.is }),
)

-- What is done on the slot at the width leaves the children that map; so where a child of the path that is remembered for reduces is there
-- now, all that are remembered are.
pub stands_still : {follow : List Call → Type 0} {job : Job} {calls : List Call} {P : List Call → List Call → Type 0} (old pool : Pool) (path : List ℕ) → pool.width ≡ old.width → pool.started ≡ old.started → pool.reducer ≡ Some path
    → HasItsChildren old calls → (w : Went follow job old.width calls P) → IsThere path old.width w.now → HasItsChildren pool w.now
stands_still {calls = calls} old pool path wide kept mine stands w there =
    let mapping = mapping_stays old.started old.width calls w.now (λ slot below. stays_elsewhere w slot (omega arith)) stands.mapping in
    record {
      mapping = subst (λ (n : ℕ). StandBelow n w.now pool.started) (sym wide) (subst (StandBelow old.width w.now) (sym kept) mapping);
      reducing = subst (λ (n : ℕ). StandsAt n w.now pool.reducer) (sym wide) (subst (StandsAt old.width w.now) (sym mine) there);
    }

module _ (functions : List ℕ → Functions) (honest : List ℕ → Type 0) (path : List ℕ) (reduces : List (List ℕ)) {follow : List Call → Type 0} {calls : List Call} where
  -- the child was reset, and is remembered
  pub reset_pool : (old pool : Pool) (rose : Type 0) → pool.width ≡ old.width → pool.started ≡ old.started → pool.reducer ≡ Some path → HasItsChildren old calls
      → Went follow (job_of path [] []) old.width calls (AfterPrepare functions honest (job_of path [] []) old.width (reset_prompts old.width (is_fresh path old)) rose (Ok tt) calls)
      → Went follow (reduce_job path reduces) old.width calls (AfterReset functions honest path reduces old rose pool (Ok tt) calls)
  reset_pool old pool rose wide kept mine stands was =
      let w = prepare_wider path [] reduces (λ source none. absurd none) functions honest (reset_prompts old.width (is_fresh path old)) rose (Ok tt) was in
      let told = w.holds.0 in
      Went-map w (AfterReset functions honest path reduces old rose pool (Ok tt) calls) (
        (subst (λ (n : ℕ). HasTold functions honest path [] n w.now) (sym wide) told, mine),
        w.holds.1,
        stands_still old pool path wide kept mine stands w ([], told.idle),
      )
