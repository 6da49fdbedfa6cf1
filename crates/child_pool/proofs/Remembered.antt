-- How many children of a path a pool remembers.
use Rattle.std.specs.Prelude.{bytes_eq, if◌then◌else◌}
use Rattle.std.proofs.Common.{◌≡◌, ℕ, List, Option, Some, None, Bool, true, false, inl, inr, refl, sym, ap, ◌∙◌}
use Rattle.std.proofs.lemmas.Slice.Eq.{bytes_eq-Decides}
use Rattle.child_pool.specs.declared.pool.Pool.{Pool}
use Rattle.child_pool.specs.declared.pool.Started.{Started}
use Rattle.child_pool.specs.Pools.{IsKeptOf, kept_of}

-- what is kept of a path is what the memory says
kept_in : (memory : Option Started) (path : List ℕ) (kept : ℕ) → memory ≡ Some (record { path = path; count = kept }) → kept ≡ kept_of path memory
kept_in memory path kept is =
    let same : bytes_eq path path ≡ true = (bytes_eq-Decides path path).1 refl in
    sym (ap (kept_of path) is ∙ ap (λ (b : Bool). if b then kept else 0) same)

-- and of a path of which nothing is kept it says 0
none_in : (memory : Option Started) (path : List ℕ) → ((other : ℕ) → memory ≡ Some (record { path = path; count = other }) → ⊥) → 0 ≡ kept_of path memory
none_in None path never = refl
none_in (Some started) path never = by_path (bytes_eq started.path path) refl
  where
    by_path : (b : Bool) → bytes_eq started.path path ≡ b → 0 ≡ (if b then started.count else 0)
    by_path true is = absurd (never started.count (ap (λ (p : List ℕ). Some (record { path = p; count = started.count })) ((bytes_eq-Decides started.path path).0 is)))
    by_path false is = refl

pub kept_is : (pool : Pool) (path : List ℕ) (kept : ℕ) → IsKeptOf pool path kept → kept ≡ kept_of path pool.started
kept_is pool path kept (inl is) = kept_in pool.started path kept is
kept_is pool path kept (inr none) = none.0 ∙ none_in pool.started path none.1
