-- What a view's reply line asks for, from the reduces of its design that were lent a pool and servers for it.
use Rattle.std.specs.Prelude.{◌≡◌, ◌≢◌, ◌⊎◌, ◌++◌, ℕ, List, [], ◌∷◌, Bool, true, false, if◌then◌else◌, Some, Result, Ok, Err, OnErr}
use Rattle.std.proofs.Common.{refl, sym, ap, ◌∙◌, subst, inl, inr}
use Rattle.json_terms.specs.declared.term.Row.{Row}
use Rattle.design_docs.specs.declared.design.Design.{Design}
use Rattle.design_docs.specs.declared.design.Reduce.{Reduce}
use Rattle.query_args.specs.declared.query.Query.{Query}
use Rattle.view_ports.specs.Calls.{Call}
use Rattle.view_ports.specs.Lines.{ended, IsLine}
use Rattle.view_ports.specs.declared.servers.Servers.{Ghosts as Servers}
use Rattle.child_pool.specs.declared.pool.Pool.{Pool}
use Rattle.child_pool.specs.declared.pool_fault.PoolFault.{PoolFault}
use Rattle.child_pool.specs.declared.pool_fault.PoolFault.TheVariants.{BadReply, Compile, NoMemory, ServerFault, UnknownLanguage}
use Rattle.child_pool.specs.declared.reduce_slot.Stage.TheVariants.{Idle, GivenUp}
use Rattle.child_pool.specs.declared.summers.Summers.{Summers}
use Rattle.child_pool.specs.Languages.{path_in}
use Rattle.child_pool.specs.Pools.{HasItsChildren, languages_of}
use Rattle.child_pool.specs.ReduceTalk.{reduce_in, reduce_source}
use Rattle.child_pool.specs.Reductions.{FailsReducing, Reduces}
use Rattle.child_pool.specs.SummerLaws.{fits, lawful, means}
use Rattle.child_pool.specs.Summers.{SummersFail, SummersGo, reduce_of}
use Rattle.child_pool.specs.ViewSums.{view_sum_text}
use Rattle.child_pool.proofs.Whole.{fails_whole, reduces_whole, stands_idle}
use Rattle.view_model.specs.declared.group_values.AnswerFault.{AnswerFault}
use Rattle.view_model.specs.declared.group_values.AnswerFault.TheVariants as answer
use Rattle.view_model.specs.Answer.{IsAnswer}
use Rattle.view_model.specs.GroupValues.{IsCaused}
use Rattle.range_query.specs.Summed.{IsSummedText}
use Rattle.view_model.specs.Groups.{picked_groups}
use Rattle.view_engine.specs.Answering.{fault_of_answer, Answers, AppendsAnswer, HasAll, HasMet, Shows}
use Rattle.view_engine.specs.ViewQuery.{has_reduce, source_for}
use Rattle.view_engine.proofs.Answering.{own_answer}
use Rattle.view_engine.proofs.Reduced.{nothing_reduced}
use Rattle.view_engine.proofs.ReplyLines.{answer_line}
use Rattle.view_engine.proofs.ServerFaults.{unlike_answer}

-- what holds of an error holds where there is one
pub taken_back : {E : Type 0} (P : Type 0) (r : Result (Unit {0}) E) (e : E) → r ≡ Err e → OnErr r P → P
taken_back P (Ok done) e is holds = absurd (let clash : ⊥ = cc in clash)
taken_back P (Err met) e is holds = holds

-- a fault that can be no other is want of memory
spent_alone : (fault : PoolFault) → ((fault ≢ NoMemory) → ⊥) → fault ≡ NoMemory
spent_alone NoMemory never = refl
spent_alone ServerFault never = absurd (never (λ same. cc))
spent_alone (BadReply line) never = absurd (never (λ same. cc))
spent_alone Compile never = absurd (never (λ same. cc))
spent_alone UnknownLanguage never = absurd (never (λ same. cc))

module _ {C : Type 0} (s : Servers C) (old new : C) (pool pool' : Pool) (design : Design) (place : ℕ) (query : Query) (seq : ℕ) (rows : List Row) (a b : Summers C)
    (idle : a.slot.stage ≡ Idle) (same_pool : a.slot.pool.now ≡ pool) (same_servers : a.slot.servers.now ≡ old) (same_design : a.design.now ≡ design) (at : a.view ≡ place) where
  reduce_is : reduce_of s a ≡ reduce_in design.views place
  reduce_is = ap (λ (d : Design). reduce_in d.views a.view) same_design ∙ ap (reduce_in design.views) at

  -- ---- the answer

  -- a text that answers by the values of the summers answers by those of the view, whatever the path
  answers : (query.reduced ≡ true → has_reduce (reduce_in design.views place) ≡ true) → (reply : List ℕ) → IsAnswer (IsSummedText view_sum_text (fits s a) (lawful s a) (means s a)) query seq rows reply
      → (path : List ℕ) (calls : List Call) → s.may_follow old calls → path_in (languages_of pool) design.language ≡ Some path → HasItsChildren pool calls
      → Answers (s.functions path) (s.honest path) (reduce_in design.views place) query seq rows reply
  answers has reply is path calls follows known children =
      let known_here : path_in (languages_of a.slot.pool.now) a.design.now.language ≡ Some path =
      subst (λ (d : Design). path_in (languages_of a.slot.pool.now) d.language ≡ Some path) (sym same_design) (subst (λ (p : Pool). path_in (languages_of p) design.language ≡ Some path) (sym same_pool) known) in
      let stands = stands_idle s a.design.now.language a.slot path calls idle known_here (subst (λ (c : C). s.may_follow c calls) (sym same_servers) follows) (subst (λ (p : Pool). HasItsChildren p calls) (sym same_pool) children) in
      subst (λ (r : Reduce). Answers (s.functions path) (s.honest path) r query seq rows reply) reduce_is
      (own_answer s a path calls known_here stands query seq rows reply (λ reduced. subst (λ (r : Reduce). has_reduce r ≡ true) (sym reduce_is) (has reduced)) is)

  appends : (query.reduced ≡ true → has_reduce (reduce_in design.views place) ≡ true) → (reply : List ℕ) → IsAnswer (IsSummedText view_sum_text (fits s a) (lawful s a) (means s a)) query seq rows reply → IsLine reply
      → (out out' : List ℕ) → out' ≡ out ++ ended reply → AppendsAnswer s old new pool pool' design place query seq rows out out'
  appends has reply is plain out out' appended = record {
    reply = reply;
    is = answers has reply is;
    line = answer_line (IsSummedText view_sum_text (fits s a) (lawful s a) (means s a)) query seq rows reply is plain;
    unlike = unlike_answer (IsSummedText view_sum_text (fits s a) (lawful s a) (means s a)) query seq rows reply is;
    appended = appended;
  }

  -- ---- what was asked

  module _ (last_pool : pool' ≡ b.slot.pool.now) (last_servers : new ≡ b.slot.servers.now) (unasked : query.reduced ≡ false → b ≡ a) where
    -- what is said of the talk is said of the pool and the servers
    said : (Says : C → C → Pool → Pool → List ℕ → List (List ℕ) → Type 0) → Says a.slot.servers.now b.slot.servers.now a.slot.pool.now b.slot.pool.now a.design.now.language (reduce_source (reduce_of s a))
        → Says old new pool pool' design.language (reduce_source (reduce_in design.views place))
    said Says is =
        subst (λ (c : C). Says old c pool pool' design.language (reduce_source (reduce_in design.views place))) (sym last_servers)
        (subst (λ (p : Pool). Says old b.slot.servers.now pool p design.language (reduce_source (reduce_in design.views place))) (sym last_pool)
        (subst (λ (c : C). Says c b.slot.servers.now pool b.slot.pool.now design.language (reduce_source (reduce_in design.views place))) same_servers
        (subst (λ (p : Pool). Says a.slot.servers.now b.slot.servers.now p b.slot.pool.now design.language (reduce_source (reduce_in design.views place))) same_pool
        (subst (λ (d : Design). Says a.slot.servers.now b.slot.servers.now a.slot.pool.now b.slot.pool.now d.language (reduce_source (reduce_in design.views place))) same_design
        (subst (λ (r : Reduce). Says a.slot.servers.now b.slot.servers.now a.slot.pool.now b.slot.pool.now a.design.now.language (reduce_source r)) reduce_is is)))))

    -- nothing was asked where the summers are as they were
    none_by : b ≡ a → Reduces s old new pool pool' design.language []
    none_by same =
        subst (λ (c : C). Reduces s old c pool pool' design.language []) (sym (last_servers ∙ ap (λ (x : Summers C). x.slot.servers.now) same ∙ same_servers))
        (subst (λ (p : Pool). Reduces s old old pool p design.language []) (sym (last_pool ∙ ap (λ (x : Summers C). x.slot.pool.now) same ∙ same_pool)) (nothing_reduced s old pool design.language []))

    -- and then no fault was met but want of memory
    idle_still : (fault : PoolFault) → SummersFail s a b fault → b ≡ a → (fault ≢ NoMemory) → ⊥
    idle_still fault fail same other =
        let given_up : b.slot.stage ≡ GivenUp = fail.slot.given_up other in
        let stays : b.slot.stage ≡ a.slot.stage = ap (λ (x : Summers C). x.slot.stage) same in
        let clash : Idle ≡ GivenUp = sym idle ∙ sym stays ∙ given_up in
        cc

    -- ---- the groups that are picked

    module _ (unpicked : picked_groups query rows ≡ [] → b ≡ a) where
      -- what the query asks for
      abbrev asked : Bool → List (List Row) → List (List ℕ)
      asked reduced groups = if reduced then source_for groups (reduce_in design.views place) else []

      all_by : SummersGo s a b → (reduced : Bool) (groups : List (List Row)) → (reduced ≡ false → b ≡ a) → (groups ≡ [] → b ≡ a) → Reduces s old new pool pool' design.language (asked reduced groups)
      all_by go true (group ∷ groups) whole empty = said (Reduces s) (reduces_whole s a.design.now.language (reduce_source (reduce_of s a)) a.slot b.slot idle go.idle go.slot)
      all_by go true [] whole empty = none_by (empty refl)
      all_by go false groups whole empty = none_by (whole refl)

      all : SummersGo s a b → HasAll s old new pool pool' design place query seq rows
      all go = all_by go query.reduced (picked_groups query rows) unasked unpicked

      met_idle : (fault : PoolFault) → SummersFail s a b fault → b ≡ a → FailsReducing s old new pool pool' design.language [] fault ⊎ ((fault ≡ NoMemory) × Reduces s old new pool pool' design.language [])
      met_idle fault fail same = inr (spent_alone fault (idle_still fault fail same), none_by same)

      met_by : (fault : PoolFault) → SummersFail s a b fault → (reduced : Bool) (groups : List (List Row)) → (reduced ≡ false → b ≡ a) → (groups ≡ [] → b ≡ a)
          → FailsReducing s old new pool pool' design.language (asked reduced groups) fault ⊎ ((fault ≡ NoMemory) × Reduces s old new pool pool' design.language (asked reduced groups))
      met_by fault fail true (group ∷ groups) whole empty =
          inl (said (λ x y p q l r. FailsReducing s x y p q l r fault) (fails_whole s a.design.now.language (reduce_source (reduce_of s a)) a.slot b.slot fault idle fail.idle fail.slot))
      met_by fault fail true [] whole empty = met_idle fault fail (empty refl)
      met_by fault fail false groups whole empty = met_idle fault fail (whole refl)

      has_met : (fault : PoolFault) → SummersFail s a b fault → HasMet s old new pool pool' design place query seq rows fault
      has_met fault fail = met_by fault fail query.reduced (picked_groups query rows) unasked unpicked

      -- ---- how it ends

      pub shows_ok : SummersGo s a b → (query.reduced ≡ true → has_reduce (reduce_in design.views place) ≡ true) → (reply : List ℕ) → IsAnswer (IsSummedText view_sum_text (fits s a) (lawful s a) (means s a)) query seq rows reply → IsLine reply
          → (out out' : List ℕ) → out' ≡ out ++ ended reply → Shows s old new pool pool' design place query seq rows out out' (Ok tt)
      shows_ok go has reply is plain out out' appended = record { ok = (appends has reply is plain out out' appended, all go); err = tt; silent = tt }

      pub shows_err : (fault : AnswerFault PoolFault) → IsCaused (SummersGo s a b) (SummersFail s a b) fault → (out out' : List ℕ) → out' ≡ out → Shows s old new pool pool' design place query seq rows out out' (Err (fault_of_answer fault))
      shows_err (answer.Values fault) cause out out' silent = record { ok = tt; err = has_met fault cause; silent = silent }
      shows_err answer.NoMemory cause out out' silent = record { ok = tt; err = inr (refl, all cause); silent = silent }

      -- memory ran out behind all values
      pub shows_spent : SummersGo s a b → (out out' : List ℕ) → out' ≡ out → Shows s old new pool pool' design place query seq rows out out' (Err NoMemory)
      shows_spent go out out' silent = record { ok = tt; err = inr (refl, all go); silent = silent }
