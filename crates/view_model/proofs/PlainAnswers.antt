-- The answer by a built-in reduce or none.
use Rattle.std.specs.Prelude.{◌≡◌, ℕ, List, [], ◌++◌, Option, Some, None, Result, Ok, Err, IfSome, OnOk, is_ok, unwrap_or}
use Rattle.std.proofs.Common.{ap, ◌∙◌}
use Rattle.json_terms.specs.declared.term.Row.{Row}
use Rattle.design_docs.specs.declared.design.Builtin.{Builtin}
use Rattle.query_args.specs.declared.query.Query.{Query}
use Rattle.view_model.specs.declared.reply.Reply.{Reply}
use Rattle.view_model.specs.Adding.{AddsAnswer}
use Rattle.view_model.specs.Answer.{answer}
use Rattle.view_model.specs.Values.{builtin_text}
use Rattle.view_model.specs.Written.{before_of, written_of}
use Rattle.view_model.proofs.OneAnswer.{one_answer}

-- what holds where both calls answered
pub both_on_ok : {T E U F : Type 0} (r : Result T E) (s : Result U F) (P Q R : Type 0) → is_ok s ≡ is_ok r → OnOk r P → OnOk s Q → (P → Q → R) → OnOk s R
both_on_ok (Ok x) (Ok y) P Q R same p q f = f p q
both_on_ok (Err x) (Ok y) P Q R same p q f = cc
both_on_ok (Ok x) (Err y) P Q R same p q f = tt
both_on_ok (Err x) (Err y) P Q R same p q f = tt

module _ (query : Query) (seq : ℕ) (rows listed : List Row) (same : listed ≡ rows) (old new : Reply) (before after : List ℕ) where
  written : (kind : Builtin) → AddsAnswer (λ group text. text ≡ builtin_text kind group) query seq listed old new → before_of old ≡ before → written_of old ≡ []
      → before_of new ≡ before_of old → after ≡ before_of new ++ written_of new → after ≡ before ++ answer (builtin_text kind) query seq rows
  written kind added first none kept is =
      is ∙ ap (λ t. t ++ written_of new) (kept ∙ first) ∙ ap (λ t. before ++ t) (added.adds ∙ ap (λ t. t ++ added.text) none ∙ one_answer (builtin_text kind) query seq listed added.text added.is)
      ∙ ap (λ rs. before ++ answer (builtin_text kind) query seq rs) same

  pub by_reduce : (reduce : Option Builtin) (other kind : Builtin) → kind ≡ unwrap_or reduce other
      → AddsAnswer (λ group text. text ≡ builtin_text kind group) query seq listed old new → before_of old ≡ before → written_of old ≡ []
      → before_of new ≡ before_of old → after ≡ before_of new ++ written_of new → IfSome reduce (λ own. after ≡ before ++ answer (builtin_text own) query seq rows)
  by_reduce None other kind is added first none kept all = tt
  by_reduce (Some own) other kind is added first none kept all =
      written kind added first none kept all ∙ ap (λ k. before ++ answer (builtin_text k) query seq rows) is
