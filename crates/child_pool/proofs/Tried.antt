-- The child that reduces is reset, and then asked for a value.
use Rattle.std.proofs.Common.{◌≡◌, ◌≢◌, ◌⊎◌, ℕ, List, [], ◌∷◌, ◌++◌, true, false, Option, Some, None, Result, Ok, Err, IfOk, OnOk, refl, sym, ap, ◌∙◌, subst, inl, inr, arith}
use denote.Enum.Bare.{sameb}
use Rattle.json_terms.specs.declared.term.Term.{Term}
use Rattle.json_terms.specs.Seen.{json}
use Rattle.view_ports.specs.declared.command.Command.{Command}
use Rattle.view_ports.specs.declared.servers.Servers.{Ghosts as Servers}
use Rattle.view_ports.specs.Calls.{Call}
use Rattle.view_ports.specs.Functions.{IsWithinBounds}
use Rattle.child_pool.specs.declared.pool.Pool.{Pool}
use Rattle.child_pool.specs.declared.pool_fault.PoolFault.{PoolFault}
use Rattle.child_pool.specs.declared.pool_fault.PoolFault.TheVariants.{NoMemory, ServerFault, UnknownLanguage}
use Rattle.child_pool.specs.declared.reduce_slot.ReduceSlot.{ReduceSlot}
use Rattle.child_pool.specs.contracts.reduce_slot.Stage.{the_type}
use Rattle.child_pool.specs.declared.reduce_slot.Stage.{Stage}
use Rattle.child_pool.specs.declared.reduce_slot.Stage.TheVariants.{Idle, Begun, GivenUp}
use Rattle.child_pool.specs.Ends.{EndsTwice, HasRisen}
use Rattle.child_pool.specs.Histories.{Went}
use Rattle.child_pool.specs.Jobs.{IsAmong, Job, reduce_job}
use Rattle.child_pool.specs.Languages.{path_in}
use Rattle.child_pool.specs.PoolCalls.{ResetsReducer}
use Rattle.child_pool.specs.Pools.{HasItsChildren, languages_of, started_of}
use Rattle.child_pool.specs.ReduceSlot.{IsReset, is_fresh}
use Rattle.child_pool.specs.ReduceTalk.{AfterBegin, AfterTry, Begins, IsLent, Stands, Tries, opening, talk_prompts}
use Rattle.child_pool.specs.Reducing.{IsLineOf, ReducesBy, ReducesOne, reduce_prompt}
use Rattle.child_pool.specs.Refused.{Refused}
use Rattle.child_pool.specs.Sessions.{HasTold, IsThere}
use Rattle.child_pool.specs.TryLaws.{answered_then, answered_wider}
use Rattle.child_pool.specs.Tries.{AllAnswered}
use Rattle.child_pool.proofs.Attempts.{refused_after, refused_before}
use Rattle.child_pool.proofs.Going.{Went-map, Went-none, Went-then}
use Rattle.child_pool.proofs.Resets.{stands_still}
use Rattle.child_pool.proofs.Trying.{answered_one, stops_first}

pub idle_left : (stage : Stage) → stage ≢ GivenUp → stage ≢ Begun → stage ≡ Idle
idle_left Idle going apart = refl
idle_left Begun going apart = absurd (apart refl)
idle_left GivenUp going apart = absurd (going refl)

-- what is done on the slot at the width leaves the other children
children_still : {follow : List Call → Type 0} {job : Job} {calls : List Call} {P : List Call → List Call → Type 0} (old pool : Pool) (path : List ℕ) (width : ℕ) → old.width ≡ width → pool ≡ old → pool.reducer ≡ Some path → HasItsChildren old calls
    → (v : Went follow job width calls P) → IsThere path width v.now → HasItsChildren pool v.now
children_still {follow} {job} {calls} {P} old pool path width wide same mine stands =
    subst (λ (n : ℕ). (v : Went follow job n calls P) → IsThere path n v.now → HasItsChildren pool v.now) wide
    (λ v there. stands_still old pool path (ap (λ p. p.width) same) (ap (λ p. p.started) same) mine stands v there)

different : false ≡ true → ⊥
different e = cc

-- stages as the code compares them
pub begun_same : (stage : Stage) → true ≡ sameb the_type stage Begun → stage ≡ Begun
begun_same Idle same = absurd (different (sym same))
begun_same Begun same = refl
begun_same GivenUp same = absurd (different (sym same))

pub apart_from : (stage other : Stage) → false ≡ sameb the_type stage other → stage ≢ other
apart_from Idle Idle same = absurd (different same)
apart_from Begun Begun same = absurd (different same)
apart_from GivenUp GivenUp same = absurd (different same)
apart_from Idle Begun same = λ e. cc
apart_from Idle GivenUp same = λ e. cc
apart_from Begun Idle same = λ e. cc
apart_from Begun GivenUp same = λ e. cc
apart_from GivenUp Idle same = λ e. cc
apart_from GivenUp Begun same = λ e. cc

module _ {C : Type 0} (s : Servers C) where
  -- ---- the reset

  pub begins_already : (path : List ℕ) (a : ReduceSlot C) → a.stage ≡ Begun → Begins s path a a (Ok (tt {0}))
  begins_already path a is = record {
    lent = record { pool = refl; servers = refl; keeps = record { languages = refl; width = refl }; later = omega arith };
    stage = is;
    mapping = refl;
    ends = record { later = omega arith; twice = λ e. absurd (cc); language = λ e. cc };
    went = λ reduces calls follows children ready. Went-none follows (AfterBegin s path reduces a a (Ok (tt {0})) calls) (
      subst (λ (stage : Stage). AllAnswered (HasRisen s a.servers.now a.servers.now) (opening stage Begun a.pool.now.width (is_fresh path a.pool.now)) []) (sym is) refl,
      ready is,
      children,
    );
  }

  pub begins_ok : (path : List ℕ) (a b : ReduceSlot C) → a.stage ≡ Idle → b.stage ≡ Begun → IsLent s a b → started_of b.pool.now ≡ started_of a.pool.now → EndsTwice s a.servers.now b.servers.now (Ok (tt {0}))
      → ResetsReducer s a.servers.now b.servers.now a.pool.now path b.pool.now (Ok (tt {0})) → Begins s path a b (Ok (tt {0}))
  begins_ok path a b idle begun lent mapping ends resets = record {
    lent = lent;
    stage = begun;
    mapping = mapping;
    ends = ends;
    went = λ reduces calls follows children ready.
        let w = resets reduces calls follows children in
        Went-map w (AfterBegin s path reduces a b (Ok (tt {0})) calls) (
          subst (λ (stage : Stage). AllAnswered (HasRisen s a.servers.now b.servers.now) (opening stage Begun a.pool.now.width (is_fresh path a.pool.now)) w.added) (sym idle) w.holds.1,
          w.holds.0,
          w.holds.2,
        );
  }

  pub begins_err : (path : List ℕ) (a b : ReduceSlot C) (fault : PoolFault) → a.stage ≡ Idle → IsLent s a b → started_of b.pool.now ≡ started_of a.pool.now → EndsTwice s a.servers.now b.servers.now {T = Unit {0}} (Err fault)
      → ResetsReducer s a.servers.now b.servers.now a.pool.now path b.pool.now (Err fault) → Begins s path a b (Err fault)
  begins_err path a b fault idle lent mapping ends resets = record {
    lent = lent;
    stage = tt;
    mapping = mapping;
    ends = ends;
    went = λ reduces calls follows children ready.
        let w = resets reduces calls follows children in
        Went-map w (AfterBegin s path reduces a b (Err fault) calls)
        (subst (λ (stage : Stage). Refused s.functions s.honest (reduce_job path reduces) (opening stage Begun a.pool.now.width (is_fresh path a.pool.now)) (HasRisen s a.servers.now b.servers.now) fault calls w.added) (sym idle) w.holds);
  }

  module _ (language line : List ℕ) (a : ReduceSlot C) where
    abbrev Found : Option (List ℕ)
    Found = path_in (languages_of a.pool.now) language

    -- ---- refusals before anything is asked

    -- there is no path, or no memory for it
    pub tries_none : (fault : PoolFault) → (Found ≡ None → fault ≡ UnknownLanguage) → (fault ≡ NoMemory) ⊎ ((fault ≡ UnknownLanguage) × (Found ≡ None)) → Tries s language line a a (Err fault)
    tries_none fault unknown refused = record {
      lent = record { pool = refl; servers = refl; keeps = record { languages = refl; width = refl }; later = omega arith };
      stage = tt;
      mapping = refl;
      bounded = tt;
      twice = λ e. elim refused [
        | inl none ↦ absurd (cc)
        | inr none ↦ let other = none.0 in absurd (cc)
      ];
      went = λ path reduces source asked calls known among spells by stands. elim refused [
        | inl none ↦
            let rose = HasRisen s a.servers.now a.servers.now in
            subst (λ (f : PoolFault). Went (s.may_follow a.servers.now) (reduce_job path reduces) a.pool.now.width calls (AfterTry s language path reduces source asked a a (Err f) calls)) (sym none)
            (Went-none stands.follows (AfterTry s language path reduces source asked a a (Err NoMemory) calls) (record { caused = tt; stops = stops_first rose (talk_prompts a.stage Begun a.pool.now.width (is_fresh path a.pool.now) (asked ∷ [])) }))
        | inr none ↦ let other = none.1 in absurd (cc)
      ];
      unknown = λ none. (ap Err (unknown none), refl, refl);
      known = λ e. elim refused [
        | inl none ↦ absurd (cc)
        | inr none ↦ none.1
      ];
    }

    module _ (path : List ℕ) (found : Found ≡ Some path) (going : a.stage ≢ GivenUp) where
      same_path : (other : List ℕ) → Found ≡ Some other → other ≡ path
      same_path other known = cc

      never_unknown : Found ≡ None → ⊥
      never_unknown none = cc

      -- the child could not be reset
      pub tries_unbegun : (b : ReduceSlot C) (fault : PoolFault) → Begins s path a b (Err fault) → Tries s language line a b (Err fault)
      tries_unbegun b fault begins = record {
        lent = begins.lent;
        stage = tt;
        mapping = begins.mapping;
        bounded = tt;
        twice = λ e. begins.ends.twice (let f : fault ≡ ServerFault = cc in ap Err f);
        went = λ other reduces source asked calls known among spells by stands.
            subst (λ (p : List ℕ). Went (s.may_follow b.servers.now) (reduce_job p reduces) a.pool.now.width calls (AfterTry s language p reduces source asked a b (Err fault) calls)) (sym (same_path other known))
            (let ready = subst (λ (p : List ℕ). a.stage ≡ Begun → IsReset s.functions s.honest a.pool.now p calls) (same_path other known) stands.ready in
            let w = begins.went reduces calls stands.follows stands.children ready in
            let front = opening a.stage Begun a.pool.now.width (is_fresh path a.pool.now) in
            let last = reduce_prompt a.pool.now.width asked ∷ [] in
            Went-map w (AfterTry s language path reduces source asked a b (Err fault) calls)
            (refused_before s.functions s.honest (reduce_job path reduces) front last (front ++ last) (HasRisen s a.servers.now b.servers.now) fault calls w.added refl w.holds));
        unknown = λ none. absurd (never_unknown none);
        known = λ e. let f : fault ≡ UnknownLanguage = cc in absurd (begins.ends.language (ap Err f));
      }

      -- ---- a value is asked for

      module _ (m b : ReduceSlot C) (begins : Begins s path a m (Ok (tt {0}))) (lent : IsLent s m b) (pool : b.pool.now ≡ m.pool.now) (stage : b.stage ≡ m.stage) where
        rose_first : HasRisen s a.servers.now m.servers.now → HasRisen s a.servers.now b.servers.now
        rose_first r = omega (arith, r, lent.later)

        rose_second : HasRisen s m.servers.now b.servers.now → HasRisen s a.servers.now b.servers.now
        rose_second r = omega (arith, r, begins.lent.later)

        both_lent : IsLent s a b
        both_lent = record {
          pool = lent.pool ∙ begins.lent.pool;
          servers = lent.servers ∙ begins.lent.servers;
          keeps = record { languages = lent.keeps.languages ∙ begins.lent.keeps.languages; width = lent.keeps.width ∙ begins.lent.keeps.width };
          later = omega (arith, begins.lent.later, lent.later);
        }

        went_both : (result : Result Term PoolFault) → ReducesOne s m.servers.now b.servers.now a.pool.now.width path line result → (reduces : List (List ℕ)) (source : List ℕ) (asked : Command) (calls : List Call) → IsAmong reduces source
            → IsLineOf asked line → ReducesBy source asked → Stands s language a path calls
            → Went (s.may_follow b.servers.now) (reduce_job path reduces) a.pool.now.width calls (AfterTry s language path reduces source asked a b result calls)
        went_both (Ok value) one reduces source asked calls among spells by stands =
            let w = begins.went reduces calls stands.follows stands.children stands.ready in
            let job = reduce_job path reduces in
            let width = a.pool.now.width in
            let wide : m.pool.now.width ≡ width = begins.lent.keeps.width in
            let told = subst (λ (n : ℕ). HasTold s.functions s.honest path [] n w.now) wide w.holds.1.0 in
            let v = one reduces source asked w.now w.follows spells by among told in
            let rose = HasRisen s a.servers.now b.servers.now in
            let front = opening a.stage Begun width (is_fresh path a.pool.now) in
            let last = reduce_prompt width asked ∷ [] in
            let mine : b.pool.now.reducer ≡ Some path = ap (λ p. p.reducer) pool ∙ w.holds.1.1 in
            let still : HasTold s.functions s.honest path [] b.pool.now.width v.now = subst (λ (n : ℕ). HasTold s.functions s.honest path [] n v.now) (sym (both_lent.keeps.width)) v.holds.told in
            Went-then w v (AfterTry s language path reduces source asked a b (Ok value) calls) (
              answered_then rose front last w.added v.added (answered_wider (HasRisen s a.servers.now m.servers.now) rose rose_first front w.added w.holds.0)
                  (answered_wider (HasRisen s m.servers.now b.servers.now) rose rose_second last v.added (answered_one (HasRisen s m.servers.now b.servers.now) (reduce_prompt width asked) v.added v.holds.tried)),
              (still, mine),
              children_still m.pool.now b.pool.now path width wide pool mine w.holds.2 v ([], v.holds.told.idle),
              λ honest. (v.holds.compiles honest, v.holds.right honest),
            )
        went_both (Err fault) one reduces source asked calls among spells by stands =
            let w = begins.went reduces calls stands.follows stands.children stands.ready in
            let job = reduce_job path reduces in
            let width = a.pool.now.width in
            let wide : m.pool.now.width ≡ width = begins.lent.keeps.width in
            let told = subst (λ (n : ℕ). HasTold s.functions s.honest path [] n w.now) wide w.holds.1.0 in
            let v = one reduces source asked w.now w.follows spells by among told in
            let rose = HasRisen s a.servers.now b.servers.now in
            let front = opening a.stage Begun width (is_fresh path a.pool.now) in
            let last = reduce_prompt width asked ∷ [] in
            Went-then w v (AfterTry s language path reduces source asked a b (Err fault) calls)
            (refused_after s.functions s.honest job front last (HasRisen s a.servers.now m.servers.now) (HasRisen s m.servers.now b.servers.now) rose rose_first rose_second fault w.added v.added calls w.now w.is_now w.holds.0 v.holds)

        -- the two together
        pub tries_both : (result : Result Term PoolFault) → ReducesOne s m.servers.now b.servers.now a.pool.now.width path line result → EndsTwice s m.servers.now b.servers.now result → IfOk result (λ value. IsWithinBounds (json value))
            → Tries s language line a b result
        tries_both result one ends bounded = record {
          lent = both_lent;
          stage = begun_still result;
          mapping = ap started_of pool ∙ begins.mapping;
          bounded = bounded;
          twice = λ e. let rose = ends.twice e in omega (arith, rose, begins.lent.later);
          went = λ other reduces source asked calls known among spells by stands.
              let is = same_path other known in
              let here : Stands s language a path calls = subst (λ (p : List ℕ). Stands s language a p calls) is stands in
              subst (λ (p : List ℕ). Went (s.may_follow b.servers.now) (reduce_job p reduces) a.pool.now.width calls (AfterTry s language p reduces source asked a b result calls)) (sym is)
              (went_both result one reduces source asked calls among spells by here);
          unknown = λ none. absurd (never_unknown none);
          known = λ e. absurd (ends.language e);
        }
          where
            begun_still : (r : Result Term PoolFault) → OnOk r (b.stage ≡ Begun)
            begun_still (Ok value) = stage ∙ begins.stage
            begun_still (Err fault) = tt
