-- The laws of a talk with the child that reduces: stretches one after another are one.
use Rattle.std.proofs.Common.{◌≢◌, None, ◌≡◌, ◌⊎◌, ◌≤◌, List, [], ◌∷◌, ◌++◌, ℕ, Bool, map, refl, sym, ap, ◌∙◌, subst, inl, inr, arith, append_assoc, append-nil}
use Rattle.std.specs.List.{AllByRecursion}
use Rattle.std.proofs.lemmas.List.{map-append}
use Rattle.view_ports.specs.declared.command.Command.{Command}
use Rattle.view_ports.specs.declared.servers.Servers.{Ghosts as Servers}
use Rattle.view_ports.specs.Calls.{Call}
use Rattle.child_pool.specs.declared.pool.Pool.{Pool}
use Rattle.child_pool.specs.declared.pool_fault.PoolFault.{PoolFault}
use Rattle.child_pool.specs.declared.pool_fault.PoolFault.TheVariants.{NoMemory, UnknownLanguage}
use Rattle.child_pool.specs.declared.reduce_slot.ReduceSlot.{ReduceSlot}
use Rattle.child_pool.specs.declared.reduce_slot.Stage.{Stage}
use Rattle.child_pool.specs.declared.reduce_slot.Stage.TheVariants.{Idle, Begun, GivenUp}
use Rattle.child_pool.specs.Ends.{HasRisen}
use Rattle.child_pool.specs.Histories.{AllOn, WentReducing}
use Rattle.child_pool.specs.Jobs.{AllReducing, IsReducingAt, reduce_job}
use Rattle.child_pool.specs.Languages.{path_in}
use Rattle.child_pool.specs.Outcomes.{IsCaused}
use Rattle.child_pool.specs.PoolCalls.{StaysAsMade}
use Rattle.child_pool.specs.Pools.{languages_of, started_of}
use Rattle.child_pool.specs.ReduceSlot.{is_fresh}
use Rattle.child_pool.specs.ReduceTalk.{AreAnswered, AsksSome, Fails, Goes, HasTalked, IsLeftOff, IsReduction, MayBePath, NothingSaid, Stands, Stretch, opening, talk_prompts}
use Rattle.child_pool.specs.Reducing.{reduce_prompt}
use Rattle.child_pool.specs.TryLaws.{answered_then, answered_wider, caused_later, stops_later, stops_wider}
use Rattle.child_pool.specs.Tries.{AllAnswered, Prompt, StopsAt}

-- ---- calls

pub reducing_append : (path : List ℕ) (reduces : List (List ℕ)) (width : ℕ) (more added before : List Call) → AllReducing path reduces width added before → AllReducing path reduces width more (added ++ before)
    → AllReducing path reduces width (more ++ added) before
reducing_append path reduces width [] added before first later = first
reducing_append path reduces width (call ∷ more) added before first later =
    (subst (IsReducingAt path reduces width call) (sym (append_assoc more added before)) later.0, reducing_append path reduces width more added before first later.1)

-- nothing is done
pub reducing_none : {follow : List Call → Type 0} {path : List ℕ} {reduces : List (List ℕ)} {width : ℕ} {before : List Call} → follow before → (Q : List Call → List Call → Type 0) → Q [] before → WentReducing follow path reduces width before Q
reducing_none follows Q q = record { added = []; now = _; is_now = refl; follows = follows; lawful = tt; holds = q }

-- one stretch more
pub reducing_then : {first second : List Call → Type 0} {path : List ℕ} {reduces : List (List ℕ)} {width later : ℕ} {before : List Call} {P R : List Call → List Call → Type 0} → later ≡ width
    → (w : WentReducing first path reduces width before P) (v : WentReducing second path reduces later w.now R)
    → (Q : List Call → List Call → Type 0) → Q (v.added ++ w.added) v.now → WentReducing second path reduces width before Q
reducing_then {path = path} {reduces = reduces} {width = width} {before = before} same w v Q q = record {
  added = v.added ++ w.added;
  now = v.now;
  is_now = v.is_now ∙ ap (λ (calls : List Call). v.added ++ calls) w.is_now ∙ sym (append_assoc v.added w.added before);
  follows = v.follows;
  lawful = reducing_append path reduces width v.added w.added before w.lawful
      (subst (λ (n : ℕ). AllReducing path reduces n v.added (w.added ++ before)) same (subst (AllReducing path reduces _ v.added) w.is_now v.lawful));
  holds = q;
}

-- ---- prompts

-- values that are asked for behind others
behind : (front : List Prompt) (slot : ℕ) (one two : List Command) → (front ++ map (reduce_prompt slot) one) ++ map (reduce_prompt slot) two ≡ front ++ map (reduce_prompt slot) (one ++ two)
behind front slot one two =
    append_assoc front (map (reduce_prompt slot) one) (map (reduce_prompt slot) two) ∙ ap (λ (p : List Prompt). front ++ p) (sym (map-append (reduce_prompt slot) one two))

-- later calls on a slot behind others
all_on_append : (slot : ℕ) (later added : List Call) → AllOn slot later → AllOn slot added → AllOn slot (later ++ added)
all_on_append slot [] added on more = more
all_on_append slot (call ∷ later) added on more = (on.0, all_on_append slot later added on.1 more)

module _ (F : PoolFault → Type 0) (one_rose two_rose rose : Type 0) (i : one_rose → rose) (j : two_rose → rose) (old pool new : Pool) (wide : pool.width ≡ old.width) (added later : List Call) where
  own_later : AllOn pool.width later → AllOn old.width later
  own_later own = subst (λ (n : ℕ). AllOn n later) wide own

  answered_behind : (front : List Prompt) (slot : ℕ) (one two : List Command) → AreAnswered (front ++ map (reduce_prompt slot) one) one_rose old pool added
      → AreAnswered (map (reduce_prompt slot) two) two_rose pool new later → AreAnswered (front ++ map (reduce_prompt slot) (one ++ two)) rose old new (later ++ added)
  answered_behind front slot one two h k = record {
    answered = subst (λ (p : List Prompt). AllAnswered rose p (later ++ added)) (behind front slot one two)
        (answered_then rose (front ++ map (reduce_prompt slot) one) (map (reduce_prompt slot) two) added later
        (answered_wider one_rose rose i (front ++ map (reduce_prompt slot) one) added h.answered) (answered_wider two_rose rose j (map (reduce_prompt slot) two) later k.answered));
    own = all_on_append old.width later added (own_later k.own) h.own;
    mapping = k.mapping ∙ h.mapping;
  }

  left_off_behind : (front : List Prompt) (slot : ℕ) (one two : List Command) (now : List Call) → AreAnswered (front ++ map (reduce_prompt slot) one) one_rose old pool added
      → IsLeftOff F (map (reduce_prompt slot) two) two_rose pool new later now → IsLeftOff F (front ++ map (reduce_prompt slot) (one ++ two)) rose old new (later ++ added) now
  left_off_behind front slot one two now h k = record {
    fault = k.fault;
    is_fault = k.is_fault;
    tried = k.tried ++ added;
    stops = k.stops;
    is = ap (λ (calls : List Call). calls ++ added) k.is ∙ append_assoc k.stops k.tried added;
    only = k.only;
    own = all_on_append old.width k.tried added (subst (λ (n : ℕ). AllOn n k.tried) wide k.own) h.own;
    ends = subst (λ (p : List Prompt). StopsAt k.fault rose p (k.tried ++ added)) (behind front slot one two)
        (stops_later k.fault rose (front ++ map (reduce_prompt slot) one) (map (reduce_prompt slot) two) added k.tried
        (answered_wider one_rose rose i (front ++ map (reduce_prompt slot) one) added h.answered) (stops_wider two_rose rose j k.fault (map (reduce_prompt slot) two) k.tried k.ends));
    stopped = k.stopped;
  }

  -- the same of what was said behind nothing
  left_off_first : (prompts : List Prompt) (now : List Call) → NothingSaid old pool added → IsLeftOff F prompts two_rose pool new later now → IsLeftOff F prompts rose old new (later ++ added) now
  left_off_first prompts now none k = record {
    fault = k.fault;
    is_fault = k.is_fault;
    tried = k.tried;
    stops = k.stops;
    is = ap (λ (calls : List Call). later ++ calls) none.0 ∙ append-nil later ∙ k.is;
    only = k.only;
    own = subst (λ (n : ℕ). AllOn n k.tried) wide k.own;
    ends = stops_wider two_rose rose j k.fault prompts k.tried k.ends;
    stopped = k.stopped;
  }

  answered_first : (prompts : List Prompt) → NothingSaid old pool added → AreAnswered prompts two_rose pool new later → AreAnswered prompts rose old new (later ++ added)
  answered_first prompts none h =
      let same : later ++ added ≡ later = ap (λ (calls : List Call). later ++ calls) none.0 ∙ append-nil later in
      record {
        answered = subst (AllAnswered rose prompts) (sym same) (answered_wider two_rose rose j prompts later h.answered);
        own = subst (AllOn old.width) (sym same) (own_later h.own);
        mapping = h.mapping ∙ ap started_of none.1;
      }

  nothing_twice : NothingSaid old pool added → NothingSaid pool new later → NothingSaid old new (later ++ added)
  nothing_twice first second = (ap (λ (calls : List Call). later ++ calls) first.0 ∙ append-nil later ∙ second.0, second.1 ∙ first.1)

-- ---- two stretches are one

all_append : (reduces : List (List ℕ)) (one two : List Command) → AllByRecursion (IsReduction reduces) one → AllByRecursion (IsReduction reduces) two → AllByRecursion (IsReduction reduces) (one ++ two)
all_append reduces [] two all more = more
all_append reduces (c ∷ one) two all more = (all.0, all_append reduces one two all.1 more)

some_append : (one two : List Command) → one ≢ [] → one ++ two ≢ []
some_append [] two some = absurd (some refl)
some_append (c ∷ one) two some = λ none. let clash : c ∷ (one ++ two) ≡ [] = none in cc

-- from one stage to another some values were asked for by these sources
abbrev Talked : (PoolFault → Type 0) → List (List ℕ) → Stage → Stage → List ℕ → ℕ → Type 0 → Pool → Pool → List Call → List Call → Type 0
Talked IsFault reduces from to path slot rose old pool added now =
    (commands : List Command) × AllByRecursion (IsReduction reduces) commands × HasTalked IsFault from to (talk_prompts from to slot (is_fresh path old) commands) rose old pool added now × AsksSome from to commands

-- a stretch in which nothing was given up, and another behind it
module _ (F : PoolFault → Type 0) (one_rose two_rose rose : Type 0) (i : one_rose → rose) (j : two_rose → rose)
    (reduces : List (List ℕ)) (path : List ℕ) (slot : ℕ) (old pool new : Pool) (wide : pool.width ≡ old.width) (added later now new_now : List Call) where
  abbrev First : Stage → Stage → Type 0
  First from mid = Talked (λ fault. ⊥) reduces from mid path slot one_rose old pool added now

  abbrev Second : Stage → Stage → Type 0
  Second mid to = Talked F reduces mid to path slot two_rose pool new later new_now

  abbrev Whole : Stage → Stage → Type 0
  Whole from to = Talked F reduces from to path slot rose old new (later ++ added) new_now

  fresh_still : pool ≡ old → is_fresh path pool ≡ is_fresh path old
  fresh_still same = ap (is_fresh path) same

  from_idle : (to : Stage) → First Idle Idle → Second Idle to → Whole Idle to
  from_idle Idle h k = ([], tt, nothing_twice F one_rose two_rose rose i j old pool new wide added later h.2 k.2, tt)
  from_idle Begun h k =
      let fresh = fresh_still h.2.1 in (
        k.0,
        k.1,
        answered_first F one_rose two_rose rose i j old pool new wide added later (talk_prompts Idle Begun slot (is_fresh path old) k.0) h.2
            (subst (λ (b : Bool). AreAnswered (talk_prompts Idle Begun slot b k.0) two_rose pool new later) fresh k.2),
        k.3,
      )
  from_idle GivenUp h k =
      let fresh = fresh_still h.2.1 in (
        k.0,
        k.1,
        left_off_first F one_rose two_rose rose i j old pool new wide added later (talk_prompts Idle GivenUp slot (is_fresh path old) k.0) new_now h.2
            (subst (λ (b : Bool). IsLeftOff F (talk_prompts Idle GivenUp slot b k.0) two_rose pool new later new_now) fresh k.2),
        tt,
      )

  from_begun : (from to : Stage) → First from Begun → Second Begun to → Whole from to
  from_begun Idle Begun h k =
      (h.0 ++ k.0, all_append reduces h.0 k.0 h.1 k.1, answered_behind F one_rose two_rose rose i j old pool new wide added later (opening Idle Begun slot (is_fresh path old)) slot h.0 k.0 h.2 k.2, some_append h.0 k.0 h.3)
  from_begun Idle GivenUp h k =
      (h.0 ++ k.0, all_append reduces h.0 k.0 h.1 k.1, left_off_behind F one_rose two_rose rose i j old pool new wide added later (opening Idle Begun slot (is_fresh path old)) slot h.0 k.0 new_now h.2 k.2, tt)
  from_begun Begun Begun h k = (h.0 ++ k.0, all_append reduces h.0 k.0 h.1 k.1, answered_behind F one_rose two_rose rose i j old pool new wide added later [] slot h.0 k.0 h.2 k.2, tt)
  from_begun Begun GivenUp h k = (h.0 ++ k.0, all_append reduces h.0 k.0 h.1 k.1, left_off_behind F one_rose two_rose rose i j old pool new wide added later [] slot h.0 k.0 new_now h.2 k.2, tt)
  from_begun Idle Idle h k = absurd k.2
  from_begun Begun Idle h k = absurd k.2
  from_begun GivenUp to h k = absurd h.2

  from_given_up : (from to : Stage) → First from GivenUp → Second GivenUp to → Whole from to
  from_given_up Idle to h k = absurd h.2.is_fault
  from_given_up Begun to h k = absurd h.2.is_fault
  from_given_up GivenUp GivenUp h k = (h.0, h.1, nothing_twice F one_rose two_rose rose i j old pool new wide added later h.2 k.2, tt)
  from_given_up GivenUp Idle h k = absurd k.2
  from_given_up GivenUp Begun h k = absurd k.2

  talked_then : (from mid to : Stage) → First from mid → Second mid to → Whole from to
  talked_then Idle Idle to h k = from_idle to h k
  talked_then Begun Idle to h k = absurd h.2
  talked_then GivenUp Idle to h k = absurd h.2
  talked_then from Begun to h k = from_begun from to h k
  talked_then from GivenUp to h k = from_given_up from to h k

module _ {C : Type 0} (s : Servers C) (language : List ℕ) (reduces : List (List ℕ)) where
  abbrev Steps : ReduceSlot C → ReduceSlot C → Type 0
  Steps a b = Goes s language reduces a b

  -- a stretch in which no fault was met
  abbrev Kept : List ℕ → ReduceSlot C → ReduceSlot C → List Call → List Call → Type 0
  Kept path a b added now = Stretch s language reduces (λ fault. ⊥) path a b added now

  stretch_then : (F : PoolFault → Type 0) (path : List ℕ) (a b c : ReduceSlot C) (added later now new_now : List Call) → StaysAsMade a.pool.now b.pool.now
      → s.faults a.servers.now ≤ s.faults b.servers.now → s.faults b.servers.now ≤ s.faults c.servers.now
      → Kept path a b added now → Stretch s language reduces F path b c later new_now → Stretch s language reduces F path a c (later ++ added) new_now
  stretch_then F path a b c added later now new_now made early late h k =
      let second : Talked F reduces b.stage c.stage path a.pool.now.width (HasRisen s b.servers.now c.servers.now) b.pool.now c.pool.now later new_now =
      subst (λ (n : ℕ). Talked F reduces b.stage c.stage path n (HasRisen s b.servers.now c.servers.now) b.pool.now c.pool.now later new_now) made.width (k.commands, k.each, k.talked, k.some) in
      let whole = talked_then F (HasRisen s a.servers.now b.servers.now) (HasRisen s b.servers.now c.servers.now) (HasRisen s a.servers.now c.servers.now) (λ r. omega arith) (λ r. omega arith)
      reduces path a.pool.now.width a.pool.now b.pool.now c.pool.now made.width added later now new_now a.stage b.stage c.stage (h.commands, h.each, h.talked, h.some) second in
      record { commands = whole.0; each = whole.1; some = whole.3; talked = whole.2; there = k.there; ready = k.ready }

  -- nothing was said
  pub stretch_none : (path : List ℕ) (a : ReduceSlot C) (calls : List Call) → Stands s language a path calls → (F : PoolFault → Type 0) → Stretch s language reduces F path a a [] calls
  stretch_none path a calls stands F = record {
    commands = [];
    each = tt;
    some = still a.stage;
    talked = none a.stage;
    there = stands.children;
    ready = stands.ready;
  }
    where
      still : (stage : Stage) → AsksSome stage stage []
      still Idle = tt
      still Begun = tt
      still GivenUp = tt

      none : (stage : Stage) → HasTalked F stage stage (talk_prompts stage stage a.pool.now.width (is_fresh path a.pool.now) []) (HasRisen s a.servers.now a.servers.now) a.pool.now a.pool.now [] calls
      none Idle = (refl, refl)
      none Begun = record { answered = refl; own = tt; mapping = refl }
      none GivenUp = (refl, refl)

  pub goes_none : (a : ReduceSlot C) → Steps a a
  goes_none a = record {
    pool = refl;
    servers = refl;
    keeps = record { languages = refl; width = refl };
    later = omega arith;
    stays = λ given_up. given_up;
    talks = λ path calls stands. reducing_none stands.follows (Kept path a a) (stretch_none path a calls stands (λ fault. ⊥));
  }

  -- the language has the same path still
  path_still : (a b : ReduceSlot C) (path : List ℕ) → StaysAsMade a.pool.now b.pool.now → MayBePath (path_in (languages_of a.pool.now) language) path → MayBePath (path_in (languages_of b.pool.now) language) path
  path_still a b path made known = subst (λ (l : List (List ℕ × List ℕ)). MayBePath (path_in l language) path) (sym made.languages) known

  -- behind a stretch the talk stands on
  pub stands_on : (F : PoolFault → Type 0) (a b : ReduceSlot C) (path : List ℕ) (calls : List Call) → StaysAsMade a.pool.now b.pool.now → Stands s language a path calls
      → (w : WentReducing (s.may_follow b.servers.now) path reduces a.pool.now.width calls (Stretch s language reduces F path a b)) → Stands s language b path w.now
  stands_on F a b path calls made stands w = record {
    known = path_still a b path made stands.known;
    follows = w.follows;
    children = w.holds.there;
    ready = w.holds.ready;
  }

  pub made_then : (a b c : ReduceSlot C) → StaysAsMade a.pool.now b.pool.now → StaysAsMade b.pool.now c.pool.now → StaysAsMade a.pool.now c.pool.now
  made_then a b c first second = record { languages = second.languages ∙ first.languages; width = second.width ∙ first.width }

  pub goes_both : (a b c : ReduceSlot C) → Steps a b → Steps b c → Steps a c
  goes_both a b c first second = record {
    pool = second.pool ∙ first.pool;
    servers = second.servers ∙ first.servers;
    keeps = made_then a b c first.keeps second.keeps;
    later = omega (arith, first.later, second.later);
    stays = λ given_up. second.stays (first.stays given_up);
    talks = λ path calls stands.
        let w = first.talks path calls stands in
        let v = second.talks path w.now (stands_on (λ fault. ⊥) a b path calls first.keeps stands w) in
        reducing_then first.keeps.width w v (Kept path a c) (stretch_then (λ fault. ⊥) path a b c w.added v.added w.now v.now first.keeps first.later second.later w.holds v.holds);
  }

  -- ---- faults

  -- a stretch that ended with this fault, which has its cause
  abbrev IsEnded : List ℕ → PoolFault → ReduceSlot C → ReduceSlot C → List Call → List Call → List Call → Type 0
  IsEnded path fault a b calls added now =
      Stretch s language reduces (λ met. met ≡ fault) path a b added now × ((fault ≡ UnknownLanguage) ⊎ IsCaused s.functions s.honest (reduce_job path reduces) added calls fault)

  -- a fault that a call met is that of the calls before too
  pub fails_behind : (a b c : ReduceSlot C) (fault : PoolFault) → Steps a b → Fails s language reduces b c fault → Fails s language reduces a c fault
  fails_behind a b c fault first second = record {
    pool = second.pool ∙ first.pool;
    servers = second.servers ∙ first.servers;
    keeps = made_then a b c first.keeps second.keeps;
    later = omega (arith, first.later, second.later);
    talks = λ path calls stands.
        let w = first.talks path calls stands in
        let v = second.talks path w.now (stands_on (λ met. ⊥) a b path calls first.keeps stands w) in
        reducing_then first.keeps.width w v (IsEnded path fault a c calls) (
          stretch_then (λ met. met ≡ fault) path a b c w.added v.added w.now v.now first.keeps first.later second.later w.holds v.holds.0,
          elim v.holds.1 [
            | inl unknown ↦ inl unknown
            | inr caused ↦ inr (caused_later s.functions s.honest (reduce_job path reduces) fault v.added w.added calls w.now w.is_now caused)
          ],
        );
    given_up = second.given_up;
    silent = λ e. second.silent (first.stays e);
    twice = λ e. let rose = second.twice e in omega (arith, first.later, rose);
    unknown = λ e. subst (λ (l : List (List ℕ × List ℕ)). path_in l language ≡ None) first.keeps.languages (second.unknown e);
  }

  -- want of memory, where nothing was done
  pub fails_none : (a : ReduceSlot C) → Fails s language reduces a a NoMemory
  fails_none a = record {
    pool = refl;
    servers = refl;
    keeps = record { languages = refl; width = refl };
    later = omega arith;
    talks = λ path calls stands. reducing_none stands.follows (IsEnded path NoMemory a a calls) (stretch_none path a calls stands (λ met. met ≡ NoMemory), inr tt);
    given_up = λ other. absurd (other refl);
    silent = λ given_up. refl;
    twice = λ e. absurd (cc);
    unknown = λ e. absurd (cc);
  }
