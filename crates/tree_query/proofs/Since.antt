-- What was got since, over calls one after another: the lists have the newest first.
use Rattle.std.proofs.Common.{◌≡◌, List, [], ◌∷◌, ◌++◌, zero, refl, sym, ap, ◌∙◌, append_assoc, arith}
use Rattle.std.proofs.lemmas.List.Elements.{All-append, All-cons, All-nil, Contains-append_left, Contains-append_right}
use Rattle.tree_laws.specs.Stores.{EachSince, IsSince}

-- the one list is the other with more before it
pub record IsLater {X : Type 0} (old new : List X) : Type 0 where
  pub more : List X
  pub is : new ≡ more ++ old

pub later_none : {X : Type 0} (xs : List X) → IsLater xs xs
later_none xs = record { more = []; is = refl }

module _ {X : Type 0} (P : X → Type 0) where
  pub each_none : (xs : List X) → EachSince P xs xs
  each_none xs = ([], refl, All-nil P)

  pub each_one : (x : X) (old new : List X) → new ≡ x ∷ old → P x → EachSince P old new
  each_one x old new e p = (x ∷ [], e, All-cons P x [] p (All-nil P))

  pub each_on : (a b c : List X) → EachSince P a b → EachSince P b c → EachSince P a c
  each_on a b c h k = (k.0 ++ h.0, k.1 ∙ ap (λ t. k.0 ++ t) h.1 ∙ sym (append_assoc k.0 h.0 a), All-append P k.0 h.0 k.2 h.2)

  -- what was got in the first call was got in both
  pub since_before : (x : X) (a b c : List X) → IsSince x a b → EachSince P b c → IsSince x a c
  since_before x a b c h k = (k.0 ++ h.0, k.1 ∙ ap (λ t. k.0 ++ t) h.1 ∙ sym (append_assoc k.0 h.0 a), Contains-append_right k.0 h.0 x h.2)

module _ {X : Type 0} (x : X) where
  pub since_one : (old new : List X) → new ≡ x ∷ old → IsSince x old new
  since_one old new e = (x ∷ [], e, (zero, omega arith, refl))

  pub since_later : (a b c : List X) → IsLater a b → IsSince x b c → IsSince x a c
  since_later a b c h k = (k.0 ++ h.more, k.1 ∙ ap (λ t. k.0 ++ t) h.is ∙ sym (append_assoc k.0 h.more a), Contains-append_left k.0 h.more x k.2)

  pub later_of_since : (a b : List X) → IsSince x a b → IsLater a b
  later_of_since a b h = record { more = h.0; is = h.1 }
