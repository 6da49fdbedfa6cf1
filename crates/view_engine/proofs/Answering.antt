-- An answer whose values the reduces of a design give is one of the view's.
use Rattle.std.proofs.Common.{◌≡◌, ℕ, List, true, Some}
use Rattle.std.proofs.lemmas.Bool.{false≢true}
use Rattle.json_terms.specs.declared.term.Row.{Row}
use Rattle.design_docs.specs.declared.design.Reduce.{Reduce}
use Rattle.design_docs.specs.declared.design.Reduce.TheVariants as reduce
use Rattle.query_args.specs.declared.query.Query.{Query}
use Rattle.view_ports.specs.Calls.{Call}
use Rattle.view_ports.specs.declared.servers.Servers.{Ghosts as Servers}
use Rattle.child_pool.specs.declared.summers.Summers.{Summers}
use Rattle.child_pool.specs.Languages.{path_in}
use Rattle.child_pool.specs.Pools.{languages_of}
use Rattle.child_pool.specs.ReduceTalk.{Stands}
use Rattle.child_pool.specs.SummerLaws.{fits, lawful, means}
use Rattle.child_pool.specs.Summers.{IsLawfulFor, functions_for, reduce_of, view_meaning}
use Rattle.child_pool.specs.ViewSums.{FitsView, view_sum_text}
use Rattle.view_model.specs.Answer.{IsAnswer}
use Rattle.view_model.specs.Values.{IsValueText}
use Rattle.view_model.proofs.OneAnswer.{weaker_answer}
use Rattle.range_query.specs.Summed.{IsSummedText}
use Rattle.range_query.proofs.ViewTexts.{view_text}
use Rattle.view_engine.specs.Answering.{Answers}
use Rattle.view_engine.specs.ViewQuery.{has_reduce}

module _ {C : Type 0} (s : Servers C) (summers : Summers C) (path : List ℕ) (calls : List Call) (known : path_in (languages_of summers.slot.pool.now) summers.design.now.language ≡ Some path)
    (stands : Stands s summers.design.now.language summers.slot path calls) (query : Query) (seq : ℕ) (rows : List Row) (reply : List ℕ) where
  abbrev Summed : Reduce → List Row → List ℕ → Type 0
  Summed own = IsSummedText view_sum_text (FitsView own) (IsLawfulFor s own summers.design.now.language summers.slot) (view_meaning (functions_for s summers.design.now.language summers.slot) own)

  by_reduce : (own : Reduce) → (query.reduced ≡ true → has_reduce own ≡ true) → IsAnswer (Summed own) query seq rows reply → Answers (s.functions path) (s.honest path) own query seq rows reply
  by_reduce reduce.Absent has is = record { whole = is.whole; reduced = λ reduced. absurd (false≢true (has reduced)) }
  by_reduce (reduce.Builtin kind) has is =
      weaker_answer (Summed (reduce.Builtin kind)) (IsValueText (s.functions path) (s.honest path) (reduce.Builtin kind))
      (λ group text summed. view_text s summers.design.now.language summers.slot path calls known stands group text (reduce.Builtin kind) (λ none. let clash : ⊥ = cc in clash) summed) query seq rows reply is
  by_reduce (reduce.Source source) has is =
      weaker_answer (Summed (reduce.Source source)) (IsValueText (s.functions path) (s.honest path) (reduce.Source source))
      (λ group text summed. view_text s summers.design.now.language summers.slot path calls known stands group text (reduce.Source source) (λ none. let clash : ⊥ = cc in clash) summed) query seq rows reply is

  -- its values are the view's
  pub own_answer : (query.reduced ≡ true → has_reduce (reduce_of s summers) ≡ true) → IsAnswer (IsSummedText view_sum_text (fits s summers) (lawful s summers) (means s summers)) query seq rows reply
      → Answers (s.functions path) (s.honest path) (reduce_of s summers) query seq rows reply
  own_answer has is = by_reduce (reduce_of s summers) has is
