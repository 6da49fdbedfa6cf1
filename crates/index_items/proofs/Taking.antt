-- Taking values from the front of bytes, one behind another.
use Rattle.std.proofs.Common.{◌≡◌, ◌+◌, ◌<◌, ℕ, List, [], ◌∷◌, ◌++◌, All, Option, Some, None, Bor, length, take, get_or, sym, ap, ◌∙◌, subst, append_assoc, length-append, arith}
use Rattle.std.specs.List.{flat_map}
use Rattle.std.proofs.lemmas.Grind.{flat_map-append}
use Rattle.std.proofs.lemmas.List.{append-nil, take_more}
use Rattle.std.proofs.lemmas.List.Elements.{All-append, All-cons, All-nil}
use Rattle.tree_laws.specs.Reading.{AreCounted}
use Rattle.tree_laws.specs.Spelled.{IsPrefixFree}
use Rattle.tree_laws.proofs.Prefixes.{one_more}
use Rattle.index_items.specs.Taken.{BeginsNone, IsTaken}

module _ {X : Type 0} (fits : X → Type 0) (spelled : X → List ℕ) where
  pub none_taken : (bytes : List ℕ) (found : Option (X × Bor (List ℕ))) → found ≡ None → IsTaken fits spelled bytes found → BeginsNone fits spelled bytes
  none_taken bytes found none taken = subst (IsTaken fits spelled bytes) none taken

  pub one_taken : (bytes : List ℕ) (found : Option (X × Bor (List ℕ))) (x : X) (left : Bor (List ℕ)) → found ≡ Some (x, left) → IsTaken fits spelled bytes found → fits x × (bytes ≡ spelled x ++ left.now)
  one_taken bytes found x left some taken = subst (IsTaken fits spelled bytes) some taken

  -- behind those that were taken stands no more
  pub no_more : IsPrefixFree fits spelled → (bytes left : List ℕ) (xs : List X) (count i : ℕ) → length xs ≡ i → i < count → All fits xs → bytes ≡ flat_map spelled xs ++ left
      → BeginsNone fits spelled left → BeginsNone (AreCounted count fits) (flat_map spelled) bytes
  no_more free bytes left xs count i long less fit is none values more fv same =
      let next = one_more fits spelled free xs values left more (omega (arith, long, less, fv.0)) fit fv.1 (sym is ∙ same) in
      none next.0 next.1 next.2 next.3

  -- the bytes of one value more
  flat_map-push : (xs : List X) (x : X) → flat_map spelled (xs ++ x ∷ []) ≡ flat_map spelled xs ++ spelled x
  flat_map-push xs x = flat_map-append spelled xs (x ∷ []) ∙ ap (λ bs. flat_map spelled xs ++ bs) (append-nil (spelled x))

  pub taken_more : (bytes left after : List ℕ) (xs ys : List X) (x : X) → bytes ≡ flat_map spelled xs ++ left → left ≡ spelled x ++ after → ys ≡ xs ++ x ∷ [] → bytes ≡ flat_map spelled ys ++ after
  taken_more bytes left after xs ys x is first more =
      is ∙ ap (λ bs. flat_map spelled xs ++ bs) first ∙ sym (append_assoc (flat_map spelled xs) (spelled x) after) ∙ ap (λ bs. bs ++ after) (sym (ap (flat_map spelled) more ∙ flat_map-push xs x))

  pub all_more : (xs ys : List X) (x : X) → All fits xs → fits x → ys ≡ xs ++ x ∷ [] → All fits ys
  all_more xs ys x fit fx more = subst (All fits) (sym more) (All-append fits xs (x ∷ []) fit (All-cons fits x [] fx (All-nil fits)))

  pub long_more : (xs ys : List X) (x : X) (i : ℕ) → length xs ≡ i → ys ≡ xs ++ x ∷ [] → length ys ≡ i + 1
  long_more xs ys x i long more = ap length more ∙ omega (arith, length-append xs (x ∷ []), long)

  pub put_more : (xs : List X) (i : ℕ) (x : X) (front out new : List ℕ) → i < length xs → x ≡ get_or xs i x → out ≡ front ++ flat_map spelled (take i xs) → new ≡ out ++ spelled x → new ≡ front ++ flat_map spelled (take (i + 1) xs)
  put_more xs i x front out new less at is more =
      let step : take (i + 1) xs ≡ take i xs ++ x ∷ [] = take_more xs i x less ∙ ap (λ y. take i xs ++ y ∷ []) (sym at) in
      more ∙ ap (λ bs. bs ++ spelled x) is ∙ append_assoc front (flat_map spelled (take i xs)) (spelled x) ∙ ap (λ bs. front ++ bs) (sym (ap (flat_map spelled) step ∙ flat_map-push (take i xs) x))

  pub fit_more : (xs : List X) (i : ℕ) (x : X) → i < length xs → x ≡ get_or xs i x → All fits (take i xs) → fits x → All fits (take (i + 1) xs)
  fit_more xs i x less at fit fx = all_more (take i xs) (take (i + 1) xs) x fit fx (take_more xs i x less ∙ ap (λ y. take i xs ++ y ∷ []) (sym at))
