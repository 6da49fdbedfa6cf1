-- The laws of a summer that notes its calls.
use Rattle.std.proofs.Common.{◌≡◌, List, [], ◌∷◌, ◌++◌, zero, refl, sym, ap, ◌∙◌, subst, append_assoc, arith}
use Rattle.std.proofs.lemmas.List.Elements.{Contains-append_left, Contains-append_right}
use Rattle.design_docs.specs.declared.design.Builtin.{Builtin}
use Rattle.json_terms.specs.declared.term.Row.{Row}
use Rattle.builtin_reduces.specs.declared.sum.BuiltinSum.{BuiltinSum}
use Rattle.builtin_reduces.specs.BuiltinMeaning.{builtin_meaning}
use Rattle.builtin_reduces.specs.SumFits.{FitsUnder}
use Rattle.tree_laws.specs.Meaning.{AreSteps, KeepsMeaning, StaysNoted}
use Rattle.tree_laws.specs.Stores.{IsSince}
use Rattle.tree_tools.specs.Noting.{Fails, Goes, IsLater, NotingState}

-- ---- lists with the newest first

later_none : {X : Type 0} (xs : List X) → IsLater xs xs
later_none xs = record { more = []; is = refl }

later_both : {X : Type 0} (a b c : List X) → IsLater a b → IsLater b c → IsLater a c
later_both a b c h k = record { more = k.more ++ h.more; is = k.is ∙ ap (λ t. k.more ++ t) h.is ∙ sym (append_assoc k.more h.more a) }

later_one : {X : Type 0} (x : X) (xs : List X) → IsLater xs (x ∷ xs)
later_one x xs = record { more = x ∷ []; is = refl }

pub since_one : {X : Type 0} (x : X) (old new : List X) → new ≡ x ∷ old → IsSince x old new
since_one x old new e = (x ∷ [], e, (zero, omega arith, refl))

pub since_before : {X : Type 0} (x : X) (a b c : List X) → IsSince x a b → IsLater b c → IsSince x a c
since_before x a b c h k = (k.more ++ h.0, k.is ∙ ap (λ t. k.more ++ t) h.1 ∙ sym (append_assoc k.more h.0 a), Contains-append_right k.more h.0 x h.2)

pub since_later : {X : Type 0} (x : X) (a b c : List X) → IsLater a b → IsSince x b c → IsSince x a c
since_later x a b c h k = (k.0 ++ h.more, k.1 ∙ ap (λ t. k.0 ++ t) h.is ∙ sym (append_assoc k.0 h.more a), Contains-append_left k.0 h.more x k.2)

-- ---- what is noted

pub goes_asked : (old new : NotingState) (items : List Row) → new ≡ record old { asks = items ∷ old.asks } → Goes old new
goes_asked old new items e = subst (Goes old) (sym e) (record { kind = refl; asks = later_one items old.asks; answers = later_none old.answers })

pub goes_given : (old new : NotingState) (sum : BuiltinSum) → new ≡ record old { answers = sum ∷ old.answers } → Goes old new
goes_given old new sum e = subst (Goes old) (sym e) (record { kind = refl; asks = later_none old.asks; answers = later_one sum old.answers })

-- ---- the laws

pub noting_steps : AreSteps Goes
noting_steps = record {
  none = λ a. record { kind = refl; asks = later_none a.asks; answers = later_none a.answers };
  both = λ a b c first second. record {
    kind = second.kind ∙ first.kind;
    asks = later_both a.asks b.asks c.asks first.asks second.asks;
    answers = later_both a.answers b.answers c.answers first.answers second.answers;
  };
}

pub noting_keeps : KeepsMeaning Goes (λ (s : NotingState). builtin_meaning s.kind) (λ (s : NotingState). Unit {0}) (λ (s : NotingState). Unit {0}) (λ (s : NotingState). FitsUnder s.kind)
noting_keeps = record {
  meaning = λ a b goes. ap builtin_meaning goes.kind;
  lawful = λ a b goes h. tt;
  usable = λ a b goes h. tt;
  fits = λ a b sum goes. let P : Builtin → Type 0 = λ kind. FitsUnder kind sum in (λ h. subst P (sym goes.kind) h, λ h. subst P goes.kind h);
}

pub noting_causes : (a b c : NotingState) → Goes a b → Fails b c → Fails a c
noting_causes a b c goes fails = record { goes = noting_steps.both a b c goes fails.goes; cause = sym goes.kind ∙ fails.cause }

pub asks_stay : {F : Type 0} → StaysNoted Goes (λ (a b : NotingState) (fault : F). Fails a b) (λ (a b : NotingState) (items : List Row). IsSince items a.asks b.asks)
asks_stay = record {
  behind = λ a b c items noted goes. since_before items a.asks b.asks c.asks noted goes.asks;
  before = λ a b c items goes noted. since_later items a.asks b.asks c.asks goes.asks noted;
  failed = λ a b c items fault noted fails. since_before items a.asks b.asks c.asks noted fails.goes.asks;
}

pub answers_stay : {F : Type 0} → StaysNoted Goes (λ (a b : NotingState) (fault : F). Fails a b) (λ (a b : NotingState) (sum : BuiltinSum). IsSince sum a.answers b.answers)
answers_stay = record {
  behind = λ a b c sum noted goes. since_before sum a.answers b.answers c.answers noted goes.answers;
  before = λ a b c sum goes noted. since_later sum a.answers b.answers c.answers goes.answers noted;
  failed = λ a b c sum fault noted fails. since_before sum a.answers b.answers c.answers noted fails.goes.answers;
}
