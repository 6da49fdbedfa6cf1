-- What callers see of a summer that notes its calls.
use Rattle.std.specs.Prelude.{◌≡◌, List, ◌++◌, refl}
use Rattle.std.specs.Coded.{Coded, code_by, coded×, coded_list}
use Rattle.json_terms.specs.declared.term.Row.{Row}
use Rattle.json_terms.specs.contracts.term.Row as kept_row
use Rattle.design_docs.specs.declared.design.Builtin.{Builtin}
use Rattle.design_docs.specs.declared.design.Builtin.TheVariants as builtin
use Rattle.design_docs.specs.contracts.design.Builtin as kept_kind
use Rattle.builtin_reduces.specs.declared.sum.BuiltinSum.{BuiltinSum}
use Rattle.builtin_reduces.specs.contracts.sum.BuiltinSum as kept_sum

-- the reduce, the lists of rows whose value was asked for, and the values that were answered, the newest first
pub record NotingState : Type 0 where
  pub kind : Builtin
  pub asks : List (List Row)
  pub answers : List BuiltinSum

-- it is stored as its parts
abbrev pub noting_code : Coded NotingState
noting_code =
    code_by (Builtin × (List (List Row) × List BuiltinSum))
    (coded× kept_kind.the_row.coded (coded× (coded_list (coded_list kept_row.the_row.coded)) (coded_list kept_sum.the_row.coded)))
    (λ s. (s.kind, (s.asks, s.answers))) (λ p. record { kind = p.0; asks = p.1.0; answers = p.1.1 }) (λ _. refl)

-- the one list is the other with more before it
pub record IsLater {X : Type 0} (old new : List X) : Type 0 where
  pub more : List X
  pub is : new ≡ more ++ old

-- what calls may do: the reduce stays, and what was noted
pub record Goes (old new : NotingState) : Type 0 where
  pub kind : new.kind ≡ old.kind
  pub asks : IsLater old.asks new.asks
  pub answers : IsLater old.answers new.answers

-- only `_sum` takes memory, which may run out
pub record Fails (old new : NotingState) : Type 0 where
  pub goes : Goes old new
  pub cause : old.kind ≡ builtin.Sum
