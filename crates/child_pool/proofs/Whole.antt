-- A talk from a pool that was lent, whole, and what follows of the functions of an honest path.
use Rattle.std.proofs.Common.{◌≡◌, ◌≢◌, ◌⊎◌, ℕ, List, [], ◌∷◌, false, Option, Some, None, refl, sym, ap, ◌∙◌, subst, inl, inr, arith}
use Rattle.std.specs.List.{AllByRecursion}
use Rattle.view_ports.specs.declared.command.Command.{Command}
use Rattle.view_ports.specs.declared.servers.Servers.{Ghosts as Servers}
use Rattle.view_ports.specs.Calls.{Call}
use Rattle.child_pool.specs.declared.pool.Pool.{Pool}
use Rattle.child_pool.specs.declared.pool_fault.PoolFault.{PoolFault}
use Rattle.child_pool.specs.declared.pool_fault.PoolFault.TheVariants.{BadReply, Compile, NoMemory, ServerFault, UnknownLanguage}
use Rattle.child_pool.specs.declared.reduce_slot.ReduceSlot.{ReduceSlot}
use Rattle.child_pool.specs.declared.reduce_slot.Stage.{Stage}
use Rattle.child_pool.specs.declared.reduce_slot.Stage.TheVariants.{Idle, Begun, GivenUp}
use Rattle.child_pool.specs.Ends.{HasRisen}
use Rattle.child_pool.specs.Jobs.{IsAmong, reduce_job}
use Rattle.child_pool.specs.Languages.{path_in}
use Rattle.child_pool.specs.Outcomes.{IsCaused}
use Rattle.child_pool.specs.Pools.{HasItsChildren, NoneIsLeft, languages_of, reducer_of}
use Rattle.child_pool.specs.ReduceSlot.{is_fresh}
use Rattle.child_pool.specs.ReduceTalk.{AreAnswered, AsksSome, Compiles, Fails, Goes, HasTalked, IsLeftOff, IsReduction, MayBePath, Stands, talk_prompts}
use Rattle.child_pool.specs.Reductions.{FailsReducing, HasFailedReducing, HasReduced, IsAsked, IsReducingGivenUp, Reduces, children_of, reduction_prompts}
use Rattle.child_pool.specs.TalkLaws.{stands_on}
use Rattle.child_pool.specs.Tries.{StopsAt}
use Rattle.child_pool.proofs.Honesty.{complains_rightly, no_bad_reply}

-- ---- from a pool to a pool

no_memory : (fault : PoolFault) → (fault ≡ NoMemory) ⊎ (fault ≢ NoMemory)
no_memory NoMemory = inl refl
no_memory ServerFault = inr (λ same. cc)
no_memory (BadReply text) = inr (λ same. cc)
no_memory Compile = inr (λ same. cc)
no_memory UnknownLanguage = inr (λ same. cc)

module _ (path : List ℕ) (reduces : List (List ℕ)) (rose : Type 0) (old pool : Pool) (commands : List Command) (each : AllByRecursion (IsReduction reduces) commands) (added now : List Call) where
  abbrev Had : Type 0
  Had = HasReduced path reduces old.width rose (children_of old) (children_of pool) added

  -- the prompts were answered
  asked : commands ≢ [] → reducer_of pool ≡ Some path → AreAnswered (reduction_prompts path old.width (reducer_of old) commands) rose old pool added → IsAsked path reduces old.width rose (children_of old) (children_of pool) added
  asked some reducer h = record {
    commands = commands;
    some = some;
    each = each;
    answered = h.answered;
    own = h.own;
    kept = λ i. record { started = h.mapping i; reducer = reducer i };
  }

  -- or they were given up
  left : (fault : PoolFault) → pool.width ≡ old.width → IsLeftOff (λ met. met ≡ fault) (reduction_prompts path old.width (reducer_of old) commands) rose old pool added now
      → IsReducingGivenUp path reduces old.width rose (children_of old) (children_of pool) fault added now
  left fault wide h = record {
    commands = commands;
    each = each;
    tried = h.tried;
    stops = h.stops;
    is = h.is;
    only = h.only;
    own = h.own;
    ends = subst (λ (f : PoolFault). StopsAt f rose (reduction_prompts path old.width (reducer_of old) commands) h.tried) h.is_fault h.ends;
    stopped = subst (λ (n : ℕ). NoneIsLeft n now) wide h.stopped.stopped;
    none_kept = λ i. record { started = h.stopped.forgotten i; reducer = h.stopped.reducer i };
  }

  -- all values were had
  pub all_had : (from to : Stage) → from ≡ Idle → (to ≡ Begun → reducer_of pool ≡ Some path) → AsksSome from to commands → HasTalked (λ fault. ⊥) from to (talk_prompts from to old.width (is_fresh path old) commands) rose old pool added now → Had
  all_had Idle Idle idle ready some h = inl (h.0, ap children_of h.1)
  all_had Idle Begun idle ready some h = inr (asked some (ready refl) h)
  all_had Idle GivenUp idle ready some h = absurd h.is_fault
  all_had Begun to idle ready some h = absurd (cc)
  all_had GivenUp to idle ready some h = absurd (cc)

  -- memory ran out between values
  ran_out : (fault : PoolFault) → (fault ≢ NoMemory → ⊥) → Had → HasFailedReducing path reduces old.width rose (children_of old) (children_of pool) fault added now
  ran_out fault other had = elim (no_memory fault) [
    | inl none ↦ inr (none, had)
    | inr some ↦ absurd (other some)
  ]

  -- a fault was met
  pub fault_met : (from to : Stage) (fault : PoolFault) → from ≡ Idle → pool.width ≡ old.width → (fault ≢ NoMemory → to ≡ GivenUp) → (to ≡ Begun → reducer_of pool ≡ Some path) → AsksSome from to commands
      → HasTalked (λ met. met ≡ fault) from to (talk_prompts from to old.width (is_fresh path old) commands) rose old pool added now
      → HasFailedReducing path reduces old.width rose (children_of old) (children_of pool) fault added now
  fault_met Idle Idle fault idle wide given_up ready some h = ran_out fault (λ other. let never = given_up other in cc) (inl (h.0, ap children_of h.1))
  fault_met Idle Begun fault idle wide given_up ready some h = ran_out fault (λ other. let never = given_up other in cc) (inr (asked some (ready refl) h))
  fault_met Idle GivenUp fault idle wide given_up ready some h = inl (left fault wide h)
  fault_met Begun to fault idle wide given_up ready some h = absurd (cc)
  fault_met GivenUp to fault idle wide given_up ready some h = absurd (cc)

module _ {C : Type 0} (s : Servers C) (language : List ℕ) where
  -- a talk that wasn't begun stands
  pub stands_idle : (a : ReduceSlot C) (path : List ℕ) (calls : List Call) → a.stage ≡ Idle → path_in (languages_of a.pool.now) language ≡ Some path → s.may_follow a.servers.now calls → HasItsChildren a.pool.now calls
      → Stands s language a path calls
  stands_idle a path calls idle known follows children = record {
    known = subst (λ (found : Option (List ℕ)). MayBePath found path) (sym known) refl;
    follows = follows;
    children = children;
    ready = λ begun. absurd (let never : Idle ≡ Begun = sym idle ∙ begun in cc);
  }

  -- where the talk is as it was, so are the servers and the pool
  lent_same : (a b : ReduceSlot C) → b ≡ a → (b.servers.now ≡ a.servers.now) × (b.pool.now ≡ a.pool.now)
  lent_same a b same = (ap (λ (slot : ReduceSlot C). slot.servers.now) same, ap (λ (slot : ReduceSlot C). slot.pool.now) same)

  pub reduces_whole : (reduces : List (List ℕ)) (a b : ReduceSlot C) → a.stage ≡ Idle → (reduces ≡ [] → b ≡ a) → Goes s language reduces a b → Reduces s a.servers.now b.servers.now a.pool.now b.pool.now language reduces
  reduces_whole reduces a b idle same goes = record {
    idle = λ none. lent_same a b (same none);
    keeps = goes.keeps;
    later = goes.later;
    went = λ path calls follows known children.
        let w = goes.talks path calls (stands_idle a path calls idle known follows children) in
        record {
          added = w.added;
          now = w.now;
          is_now = w.is_now;
          follows = w.follows;
          lawful = w.lawful;
          holds = (
            w.holds.there,
            all_had path reduces (HasRisen s a.servers.now b.servers.now) a.pool.now b.pool.now w.holds.commands w.holds.each w.added w.now a.stage b.stage idle (λ begun. (w.holds.ready begun).1) w.holds.some w.holds.talked,
          );
        };
  }

  pub fails_whole : (reduces : List (List ℕ)) (a b : ReduceSlot C) (fault : PoolFault) → a.stage ≡ Idle → (reduces ≡ [] → (fault ≡ NoMemory) × (b ≡ a)) → Fails s language reduces a b fault
      → FailsReducing s a.servers.now b.servers.now a.pool.now b.pool.now language reduces fault
  fails_whole reduces a b fault idle spent fails = record {
    idle = λ none. let is = spent none in let same = lent_same a b is.1 in (is.0, same.0, same.1);
    keeps = fails.keeps;
    later = fails.later;
    twice = fails.twice;
    unknown = fails.unknown;
    went = λ path calls follows known children.
        let w = fails.talks path calls (stands_idle a path calls idle known follows children) in
        let h = w.holds.0 in
        record {
          added = w.added;
          now = w.now;
          is_now = w.is_now;
          follows = w.follows;
          lawful = w.lawful;
          holds = (
            h.there,
            fault_met path reduces (HasRisen s a.servers.now b.servers.now) a.pool.now b.pool.now h.commands h.each w.added w.now a.stage b.stage fault idle fails.keeps.width fails.given_up (λ begun. (h.ready begun).1) h.some h.talked,
            elim w.holds.1 [
              | inl unknown ↦ let none = fails.unknown unknown in absurd (let never : Some path ≡ None = sym known ∙ none in cc)
              | inr caused ↦ caused
            ],
          );
        };
  }

  -- ---- on an honest path

  -- a complaint behind steps is about the one source that was asked for
  pub complains_of : (many : List (List ℕ)) (source : List ℕ) (a b c : ReduceSlot C) → Goes s language many a b → Fails s language (source ∷ []) b c Compile
      → (path : List ℕ) (calls : List Call) → Stands s language a path calls → path_in (languages_of a.pool.now) language ≡ Some path → s.honest path → (s.functions path).reduce_compiles source ≡ false
  complains_of many source a b c goes fails path calls stands known honest =
      let w = goes.talks path calls stands in
      let v = fails.talks path w.now (stands_on s language many (λ fault. ⊥) a b path calls goes.keeps stands w) in
      elim v.holds.1 [
        | inl unknown ↦ absurd (let never : Compile ≡ UnknownLanguage = unknown in cc)
        | inr caused ↦ elim (complains_rightly s.functions s.honest (reduce_job path (source ∷ [])) v.added w.now honest caused) [
          | inl mapped ↦ absurd mapped.among
          | inr reduced ↦ own reduced.source reduced.among reduced.fails
        ]
      ]
    where
      own : (found : List ℕ) → IsAmong (source ∷ []) found → (s.functions path).reduce_compiles found ≡ false → (s.functions path).reduce_compiles source ≡ false
      own found (inl same) is = ap (s.functions path).reduce_compiles (sym same) ∙ is
      own found (inr none) is = absurd none

  -- and the source of a value compiles, also behind steps
  pub compiles_behind : (many : List (List ℕ)) (source : List ℕ) (a b : ReduceSlot C) → Goes s language many a b → Compiles s language source b → Compiles s language source a
  compiles_behind many source a b goes compiles = λ path calls stands honest.
      let w = goes.talks path calls stands in
      compiles path w.now (stands_on s language many (λ fault. ⊥) a b path calls goes.keeps stands w) honest

  -- no reply is bad
  pub no_bad_reply_in : (path : List ℕ) (reduces : List (List ℕ)) (added calls : List Call) (text : List ℕ) → s.honest path → IsCaused s.functions s.honest (reduce_job path reduces) added calls (BadReply text) → ⊥
  no_bad_reply_in path reduces added calls text honest = no_bad_reply s.functions s.honest (reduce_job path reduces) added calls text (record { path = honest; few = omega arith; stored = tt })
