-- A command is asked of the child that reduces: what follows.
use Rattle.std.proofs.Common.{◌≡◌, ◌≢◌, ◌⊎◌, ◌≤◌, ℕ, List, [], ◌∷◌, ◌++◌, Bool, Option, Some, None, Ok, Err, MatchOption, refl, sym, ap, ◌∙◌, subst, inl, inr, arith, append_assoc}
use Rattle.json_terms.specs.declared.term.Term.{Term}
use Rattle.view_ports.specs.declared.command.Command.{Command}
use Rattle.view_ports.specs.declared.servers.Servers.{Ghosts as Servers}
use Rattle.view_ports.specs.Calls.{Call}
use Rattle.child_pool.specs.declared.pool.Pool.{Pool}
use Rattle.child_pool.specs.declared.pool.Started.{Started}
use Rattle.child_pool.specs.declared.pool_fault.PoolFault.{PoolFault}
use Rattle.child_pool.specs.declared.pool_fault.PoolFault.TheVariants.{NoMemory, ServerFault, UnknownLanguage}
use Rattle.child_pool.specs.declared.reduce_slot.ReduceSlot.{ReduceSlot}
use Rattle.child_pool.specs.declared.reduce_slot.Stage.{Stage}
use Rattle.child_pool.specs.declared.reduce_slot.Stage.TheVariants.{Idle, Begun, GivenUp}
use Rattle.child_pool.specs.Ends.{HasRisen}
use Rattle.child_pool.specs.Histories.{AllOn, AllStops, Went, WentReducing}
use Rattle.child_pool.specs.Jobs.{AllLawful, AllLawfulIn, AllReducing, IsAmong, Job, reduce_job}
use Rattle.child_pool.specs.Languages.{path_in}
use Rattle.child_pool.specs.Outcomes.{IsCaused}
use Rattle.child_pool.specs.PoolCalls.{StaysAsMade, StopsAll}
use Rattle.child_pool.specs.Pools.{AreStopped, AreThere, HasItsChildren, languages_of}
use Rattle.child_pool.specs.ReduceSlot.{is_fresh}
use Rattle.child_pool.specs.ReduceTalk.{AfterTry, AreAnswered, Asks, AsksSome, Goes, HasTalked, IsLeftOff, MayBePath, Stands, Stretch, Tries, talk_prompts}
use Rattle.child_pool.specs.Reducing.{IsLineOf, ReducesBy, reduce_prompt}
use Rattle.child_pool.specs.TalkLaws.{fails_none, reducing_append}
use Rattle.child_pool.specs.TryLaws.{caused_more, stops_wider}
use Rattle.child_pool.specs.Sessions.{IsThere}
use Rattle.child_pool.specs.Tries.{Prompt, StopsAt}
use Rattle.child_pool.proofs.Cutting.{cut_at_once}
use Rattle.child_pool.proofs.Trying.{given_up_by, stops_before, stops_one}

-- ---- calls of the slot, and stops

some_source : (reduces : List (List ℕ)) (source : List ℕ) → IsAmong reduces source → reduces ≢ []
some_source [] source among none = among
some_source (first ∷ reduces) source among none = absurd (cc)

on_slot : (path : List ℕ) (reduces : List (List ℕ)) (width : ℕ) (added before : List Call) → reduces ≢ [] → AllLawful (reduce_job path reduces) width added before → AllReducing path reduces width added before
on_slot path reduces width [] before some lawful = tt
on_slot path reduces width (call ∷ added) before some lawful = (inl (lawful.0, lawful.1, some), on_slot path reduces width added before some lawful.2)

pub stops_reducing : (job : Job) (path : List ℕ) (reduces : List (List ℕ)) (width : ℕ) (added before : List Call) → AllLawfulIn job width added before → AllStops added → AllReducing path reduces width added before
stops_reducing job path reduces width [] before lawful only = tt
stops_reducing job path reduces width (call ∷ added) before lawful only = (
  elim lawful.0 [
    | inl below ↦ inr (omega (arith, below.0), only.0)
    | inr at ↦ inr (omega (arith, at.0), only.0)
  ],
  stops_reducing job path reduces width added before lawful.1 only.1,
)

-- each is on the slot
own_calls : (job : Job) (slot : ℕ) (added before : List Call) → AllLawful job slot added before → AllOn slot added
own_calls job slot [] before lawful = tt
own_calls job slot (call ∷ added) before lawful = (lawful.0, own_calls job slot added before lawful.2)

-- where all children are stopped, those that are remembered are there
pub stopped_children : (width : ℕ) (pool : Pool) (calls : List Call) → AreStopped width pool calls → HasItsChildren pool calls
stopped_children width pool calls stopped = record {
  mapping = subst (λ (o : Option Started). MatchOption o (Unit {0}) (λ started. (started.count ≤ pool.width) × AreThere started.path started.count calls)) (sym stopped.forgotten) tt;
  reducing = subst (λ (o : Option (List ℕ)). MatchOption o (Unit {0}) (λ path. IsThere path pool.width calls)) (sym stopped.reducer) tt;
}

-- a refusal before anything was done, but that two attempts failed
pub stops_at_once : (fault : PoolFault) (rose : Type 0) (prompt : Prompt) (more : List Prompt) → (fault ≡ ServerFault → ⊥) → StopsAt fault rose (prompt ∷ more) []
stops_at_once fault rose prompt more other =
    stops_before fault rose (prompt ∷ []) more [] (stops_one fault rose prompt [] (given_up_by fault rose prompt [] other (inl (cut_at_once prompt.slot prompt.once))))

-- ---- stages

talked_ok : (F : PoolFault → Type 0) (from to : Stage) (slot : ℕ) (fresh : Bool) (commands : List Command) (rose : Type 0) (old pool : Pool) (added now : List Call) → from ≢ GivenUp → to ≡ Begun
    → AreAnswered (talk_prompts from Begun slot fresh commands) rose old pool added → HasTalked F from to (talk_prompts from to slot fresh commands) rose old pool added now
talked_ok F Idle Begun slot fresh commands rose old pool added now going is h = h
talked_ok F Begun Begun slot fresh commands rose old pool added now going is h = h
talked_ok F GivenUp to slot fresh commands rose old pool added now going is h = absurd (going refl)
talked_ok F from Idle slot fresh commands rose old pool added now going is h = absurd (cc)
talked_ok F from GivenUp slot fresh commands rose old pool added now going is h = absurd (cc)

pub talked_err : (F : PoolFault → Type 0) (from to : Stage) (slot : ℕ) (fresh : Bool) (commands : List Command) (rose : Type 0) (old pool : Pool) (added now : List Call) → from ≢ GivenUp → to ≡ GivenUp
    → IsLeftOff F (talk_prompts from Begun slot fresh commands) rose old pool added now → HasTalked F from to (talk_prompts from to slot fresh commands) rose old pool added now
talked_err F Idle GivenUp slot fresh commands rose old pool added now going is h = h
talked_err F Begun GivenUp slot fresh commands rose old pool added now going is h = h
talked_err F GivenUp to slot fresh commands rose old pool added now going is h = absurd (going refl)
talked_err F from Idle slot fresh commands rose old pool added now going is h = absurd (cc)
talked_err F from Begun slot fresh commands rose old pool added now going is h = absurd (cc)

-- a value is asked for
asks_one : (from to : Stage) (asked : Command) → AsksSome from to (asked ∷ [])
asks_one Idle Idle asked = tt
asks_one Idle Begun asked = λ none. let clash : asked ∷ [] ≡ [] = none in cc
asks_one Idle GivenUp asked = tt
asks_one Begun to asked = tt
asks_one GivenUp to asked = tt

-- to give up none is needed
pub asks_up : (from to : Stage) (commands : List Command) → to ≡ GivenUp → AsksSome from to commands
asks_up Idle Idle commands up = tt
asks_up Idle Begun commands up = absurd (let never : Begun ≡ GivenUp = up in cc)
asks_up Idle GivenUp commands up = tt
asks_up Begun to commands up = tt
asks_up GivenUp to commands up = tt

-- the first prompt is there
stops_first : (from : Stage) (slot : ℕ) (fresh : Bool) (asked : Command) (rose : Type 0) → from ≢ GivenUp → StopsAt UnknownLanguage rose (talk_prompts from Begun slot fresh (asked ∷ [])) []
stops_first Idle slot fresh asked rose going = stops_at_once UnknownLanguage rose _ _ (λ same. cc)
stops_first Begun slot fresh asked rose going = stops_at_once UnknownLanguage rose (reduce_prompt slot asked) [] (λ same. cc)
stops_first GivenUp slot fresh asked rose going = absurd (going refl)

-- ---- paths

known_path : (found : Option (List ℕ)) (path : List ℕ) → (found ≡ None → ⊥) → MayBePath found path → found ≡ Some path
known_path None path some known = absurd (some refl)
known_path (Some other) path some known = ap Some (sym known)

path_or_none : (found : Option (List ℕ)) (path : List ℕ) → MayBePath found path → (found ≡ None) ⊎ (found ≡ Some path)
path_or_none None path known = inl refl
path_or_none (Some other) path known = inr (ap Some (sym known))

module _ {C : Type 0} (s : Servers C) where
  -- all children are stopped, and the talk is given up
  pub record IsStoppedBy (b n : ReduceSlot C) : Type 0 where
    pub pool : n.pool.ghost_name ≡ b.pool.ghost_name
    pub servers : n.servers.ghost_name ≡ b.servers.ghost_name
    pub stage : n.stage ≡ GivenUp
    pub keeps : StaysAsMade b.pool.now n.pool.now
    pub stops : StopsAll s b.servers.now n.servers.now b.pool.now n.pool.now
    pub faults : s.faults n.servers.now ≡ s.faults b.servers.now

module _ {C : Type 0} (s : Servers C) (language line source : List ℕ) (asked : Command) (spells : IsLineOf asked line) (by : ReducesBy source asked) where
  abbrev Found : ReduceSlot C → Option (List ℕ)
  Found a = path_in (languages_of a.pool.now) language

  pub ask_none : (a : ReduceSlot C) → Asks s language source asked a a (Err NoMemory)
  ask_none a = record { talks = tt; bounded = tt; made = tt; cause = λ reduces among. fails_none s language reduces a }

  -- ---- a value was given

  not_unknown : (a b : ReduceSlot C) (value : Term) → Tries s language line a b (Ok value) → Found a ≡ None → ⊥
  not_unknown a b value tries none = let never = (tries.unknown none).0 in absurd (cc)

  went_ok : (reduces : List (List ℕ)) → IsAmong reduces source → (a b : ReduceSlot C) (value : Term) → a.stage ≢ GivenUp → Tries s language line a b (Ok value) → (path : List ℕ) (calls : List Call) → Stands s language a path calls
      → Went (s.may_follow b.servers.now) (reduce_job path reduces) a.pool.now.width calls (AfterTry s language path reduces source asked a b (Ok value) calls)
  went_ok reduces among a b value going tries path calls stands =
      tries.went path reduces source asked calls (known_path (Found a) path (not_unknown a b value tries) stands.known) among spells by stands

  goes_ok : (reduces : List (List ℕ)) → IsAmong reduces source → (a b : ReduceSlot C) (value : Term) → a.stage ≢ GivenUp → Tries s language line a b (Ok value) → Goes s language reduces a b
  goes_ok reduces among a b value going tries = record {
    pool = tries.lent.pool;
    servers = tries.lent.servers;
    keeps = tries.lent.keeps;
    later = tries.lent.later;
    stays = λ given_up. absurd (going given_up);
    talks = λ path calls stands.
        let w = went_ok reduces among a b value going tries path calls stands in
        record {
          added = w.added;
          now = w.now;
          is_now = w.is_now;
          follows = w.follows;
          lawful = on_slot path reduces a.pool.now.width w.added calls (some_source reduces source among) w.lawful;
          holds = record {
            commands = asked ∷ [];
            each = ((source, among, by), tt);
            some = asks_one a.stage b.stage asked;
            talked = talked_ok (λ fault. ⊥) a.stage b.stage a.pool.now.width (is_fresh path a.pool.now) (asked ∷ []) (HasRisen s a.servers.now b.servers.now) a.pool.now b.pool.now w.added w.now going tries.stage
                (record { answered = w.holds.0; own = own_calls (reduce_job path reduces) a.pool.now.width w.added calls w.lawful; mapping = tries.mapping });
            there = w.holds.2;
            ready = λ begun. w.holds.1;
          };
        };
  }

  pub ask_ok : (a b : ReduceSlot C) (value : Term) → a.stage ≢ GivenUp → Tries s language line a b (Ok value) → Asks s language source asked a b (Ok value)
  ask_ok a b value going tries = record {
    talks = λ reduces among. goes_ok reduces among a b value going tries;
    bounded = tries.bounded;
    made = λ path calls stands honest.
        let w = went_ok (source ∷ []) (inl refl) a b value going tries path calls stands in
        w.holds.3 honest;
    cause = tt;
  }

  -- ---- a refusal, and then all children are stopped

  -- what a refusal left, before all children are stopped
  abbrev Left : List (List ℕ) → List ℕ → PoolFault → ReduceSlot C → ReduceSlot C → List Call → List Call → Type 0
  Left reduces path fault a b before added =
      StopsAt fault (HasRisen s a.servers.now b.servers.now) (talk_prompts a.stage Begun a.pool.now.width (is_fresh path a.pool.now) (asked ∷ [])) added
      × ((fault ≡ UnknownLanguage) ⊎ IsCaused s.functions s.honest (reduce_job path reduces) added before fault)

  record WentLeft (reduces : List (List ℕ)) (path : List ℕ) (fault : PoolFault) (a b : ReduceSlot C) (calls : List Call) : Type 0 where
    added : List Call
    now : List Call
    is_now : now ≡ added ++ calls
    follows : s.may_follow b.servers.now now
    lawful : AllReducing path reduces a.pool.now.width added calls
    own : AllOn a.pool.now.width added
    left : Left reduces path fault a b calls added

  went_err : (reduces : List (List ℕ)) → IsAmong reduces source → (a b : ReduceSlot C) (fault : PoolFault) → a.stage ≢ GivenUp → Tries s language line a b (Err fault) → (path : List ℕ) (calls : List Call) → Stands s language a path calls → WentLeft reduces path fault a b calls
  went_err reduces among a b fault going tries path calls stands = elim (path_or_none (Found a) path stands.known) [
    | inl none ↦
        let is = tries.unknown none in
        let unknown : fault ≡ UnknownLanguage = let e = is.0 in cc in
        record {
          added = [];
          now = calls;
          is_now = refl;
          follows = subst (λ (c : C). s.may_follow c calls) (sym is.1) stands.follows;
          lawful = tt;
          own = tt;
          left = (
            subst (λ (f : PoolFault). StopsAt f (HasRisen s a.servers.now b.servers.now) (talk_prompts a.stage Begun a.pool.now.width (is_fresh path a.pool.now) (asked ∷ [])) []) (sym unknown)
                (stops_first a.stage a.pool.now.width (is_fresh path a.pool.now) asked (HasRisen s a.servers.now b.servers.now) going),
            inl unknown,
          );
        }
    | inr some ↦
        let w = tries.went path reduces source asked calls some among spells by stands in
        record {
          added = w.added;
          now = w.now;
          is_now = w.is_now;
          follows = w.follows;
          lawful = on_slot path reduces a.pool.now.width w.added calls (some_source reduces source among) w.lawful;
          own = own_calls (reduce_job path reduces) a.pool.now.width w.added calls w.lawful;
          left = (w.holds.stops, inr w.holds.caused);
        }
  ]

  stopped_stretch : (reduces : List (List ℕ)) → IsAmong reduces source → (a b n : ReduceSlot C) (fault : PoolFault) → a.stage ≢ GivenUp → Tries s language line a b (Err fault) → IsStoppedBy s b n
      → (path : List ℕ) (calls : List Call) → Stands s language a path calls
      → WentReducing (s.may_follow n.servers.now) path reduces a.pool.now.width calls (λ added now. Stretch s language reduces (λ met. met ≡ fault) path a n added now
      × ((fault ≡ UnknownLanguage) ⊎ IsCaused s.functions s.honest (reduce_job path reduces) added calls fault))
  stopped_stretch reduces among a b n fault going tries stopped path calls stands =
      let w = went_err reduces among a b fault going tries path calls stands in
      let job = reduce_job path reduces in
      let v = stopped.stops job w.now w.follows in
      let wide : b.pool.now.width ≡ a.pool.now.width = tries.lent.keeps.width in
      let last : n.pool.now.width ≡ b.pool.now.width = stopped.keeps.width in
      let none_left : AreStopped n.pool.now.width n.pool.now v.now = subst (λ (k : ℕ). AreStopped k n.pool.now v.now) (sym last) v.holds.0 in
      let stops : AllReducing path reduces a.pool.now.width v.added w.now = subst (λ (k : ℕ). AllReducing path reduces k v.added w.now) wide (stops_reducing job path reduces b.pool.now.width v.added w.now v.lawful v.holds.1) in
      record {
        added = v.added ++ w.added;
        now = v.now;
        is_now = v.is_now ∙ ap (λ (c : List Call). v.added ++ c) w.is_now ∙ sym (append_assoc v.added w.added calls);
        follows = v.follows;
        lawful = reducing_append path reduces a.pool.now.width v.added w.added calls w.lawful (subst (AllReducing path reduces a.pool.now.width v.added) w.is_now stops);
        holds = (
          record {
            commands = asked ∷ [];
            each = ((source, among, by), tt);
            some = asks_one a.stage n.stage asked;
            talked = talked_err (λ met. met ≡ fault) a.stage n.stage a.pool.now.width (is_fresh path a.pool.now) (asked ∷ []) (HasRisen s a.servers.now n.servers.now) a.pool.now n.pool.now (v.added ++ w.added) v.now going stopped.stage (record {
              fault = fault;
              is_fault = refl;
              tried = w.added;
              stops = v.added;
              is = refl;
              only = v.holds.1;
              own = w.own;
              ends = stops_wider (HasRisen s a.servers.now b.servers.now) (HasRisen s a.servers.now n.servers.now) (λ r. let same = stopped.faults in omega (arith, r, same)) fault
                  (talk_prompts a.stage Begun a.pool.now.width (is_fresh path a.pool.now) (asked ∷ [])) w.added w.left.0;
              stopped = none_left;
            });
            there = stopped_children n.pool.now.width n.pool.now v.now none_left;
            ready = λ begun. let given_up = stopped.stage in absurd (cc);
          },
          elim w.left.1 [
            | inl unknown ↦ inl unknown
            | inr caused ↦ inr (caused_more s.functions s.honest job fault v.added w.added calls caused)
          ],
        );
      }

  pub ask_err : (a b n : ReduceSlot C) (fault : PoolFault) → a.stage ≢ GivenUp → Tries s language line a b (Err fault) → IsStoppedBy s b n → Asks s language source asked a n (Err fault)
  ask_err a b n fault going tries stopped = record {
    talks = tt;
    bounded = tt;
    made = tt;
    cause = λ reduces among. record {
      pool = stopped.pool ∙ tries.lent.pool;
      servers = stopped.servers ∙ tries.lent.servers;
      keeps = record { languages = stopped.keeps.languages ∙ tries.lent.keeps.languages; width = stopped.keeps.width ∙ tries.lent.keeps.width };
      later = let same = stopped.faults in omega (arith, tries.lent.later, same);
      talks = λ path calls stands. stopped_stretch reduces among a b n fault going tries stopped path calls stands;
      given_up = λ some. stopped.stage;
      silent = λ given_up. absurd (going given_up);
      twice = λ e. let rose = tries.twice (ap Err e) in let same = stopped.faults in omega (arith, rose, same);
      unknown = λ e. tries.known (ap Err e);
    };
  }
