-- A talk that is given up for want of memory: nothing more was asked, and all children are stopped.
use Rattle.std.proofs.Common.{◌≡◌, ◌≢◌, ◌⊎◌, ℕ, List, [], Bool, refl, sym, subst, inr, arith, append-nil}
use Rattle.view_ports.specs.Calls.{Call}
use Rattle.view_ports.specs.declared.servers.Servers.{Ghosts as Servers}
use Rattle.child_pool.specs.declared.pool_fault.PoolFault.TheVariants.{NoMemory, UnknownLanguage}
use Rattle.child_pool.specs.declared.reduce_slot.ReduceSlot.{ReduceSlot}
use Rattle.child_pool.specs.declared.reduce_slot.Stage.{Stage}
use Rattle.child_pool.specs.declared.reduce_slot.Stage.TheVariants.{Idle, Begun, GivenUp}
use Rattle.child_pool.specs.Ends.{HasRisen}
use Rattle.child_pool.specs.Histories.{WentReducing}
use Rattle.child_pool.specs.Jobs.{reduce_job}
use Rattle.child_pool.specs.Outcomes.{IsCaused}
use Rattle.child_pool.specs.Pools.{AreStopped}
use Rattle.child_pool.specs.ReduceSlot.{is_fresh}
use Rattle.child_pool.specs.ReduceTalk.{Fails, Stands, Stretch, talk_prompts}
use Rattle.child_pool.specs.Tries.{StopsAt}
use Rattle.child_pool.proofs.Talks.{asks_up, stopped_children, stops_at_once, stops_reducing, talked_err, IsStoppedBy}

-- memory may run out before each prompt, and behind the last one
spent_before : (from : Stage) (slot : ℕ) (fresh : Bool) (rose : Type 0) → from ≢ GivenUp → StopsAt NoMemory rose (talk_prompts from Begun slot fresh []) []
spent_before Idle slot fresh rose going = stops_at_once NoMemory rose _ _ (λ same. cc)
spent_before Begun slot fresh rose going = record { done = []; left = []; all = refl; earlier = []; last = []; is = refl; answered = refl; ends = (refl, refl) }
spent_before GivenUp slot fresh rose going = absurd (going refl)

module _ {C : Type 0} (s : Servers C) (language : List ℕ) (reduces : List (List ℕ)) (a n : ReduceSlot C) (going : a.stage ≢ GivenUp) (stopped : IsStoppedBy s a n) where
  spent_stretch : (path : List ℕ) (calls : List Call) → Stands s language a path calls
      → WentReducing (s.may_follow n.servers.now) path reduces a.pool.now.width calls (λ added now. Stretch s language reduces (λ met. met ≡ NoMemory) path a n added now
      × ((NoMemory ≡ UnknownLanguage) ⊎ IsCaused s.functions s.honest (reduce_job path reduces) added calls NoMemory))
  spent_stretch path calls stands =
      let job = reduce_job path reduces in
      let v = stopped.stops job calls stands.follows in
      let none_left : AreStopped n.pool.now.width n.pool.now v.now = subst (λ (k : ℕ). AreStopped k n.pool.now v.now) (sym stopped.keeps.width) v.holds.0 in
      record {
        added = v.added;
        now = v.now;
        is_now = v.is_now;
        follows = v.follows;
        lawful = stops_reducing job path reduces a.pool.now.width v.added calls v.lawful v.holds.1;
        holds = (
          record {
            commands = [];
            each = tt;
            some = asks_up a.stage n.stage [] stopped.stage;
            talked = talked_err (λ met. met ≡ NoMemory) a.stage n.stage a.pool.now.width (is_fresh path a.pool.now) [] (HasRisen s a.servers.now n.servers.now) a.pool.now n.pool.now v.added v.now going stopped.stage (record {
              fault = NoMemory;
              is_fault = refl;
              tried = [];
              stops = v.added;
              is = sym (append-nil v.added);
              only = v.holds.1;
              own = tt;
              ends = spent_before a.stage a.pool.now.width (is_fresh path a.pool.now) (HasRisen s a.servers.now n.servers.now) going;
              stopped = none_left;
            });
            there = stopped_children n.pool.now.width n.pool.now v.now none_left;
            ready = λ begun. let given_up = stopped.stage in absurd (cc);
          },
          inr tt,
        );
      }

  pub fails_spent : Fails s language reduces a n NoMemory
  fails_spent = record {
    pool = stopped.pool;
    servers = stopped.servers;
    keeps = stopped.keeps;
    later = let same = stopped.faults in omega (arith, same);
    talks = spent_stretch;
    given_up = λ other. absurd (other refl);
    silent = λ given_up. refl;
    twice = λ e. absurd (cc);
    unknown = λ e. absurd (cc);
  }
