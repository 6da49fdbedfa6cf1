-- The entry with the least number after a given one.
use Rattle.std.proofs.Common.{ℕ, ◌<◌, ◌≤◌, List, [], ◌∷◌, ◌++◌, Option, Some, None, arith}
use Rattle.std.specs.Prelude.{IfSome, option_map}
use Rattle.std.proofs.lemmas.List.Elements.{All-push, Contains-append_left, Contains-push}
use Rattle.doc_file.specs.declared.entry.Entry.{Entry}
use Rattle.doc_file.specs.Changes.{IsNext}

-- an entry that comes before the one that was found
pub next_taken : (seq : ℕ) (es : List Entry) (o : Option Entry) (e : Entry) → IsNext seq es o → seq < (e.last).seq → IfSome o (λ p. (e.last).seq < (p.last).seq) → IsNext seq (es ++ e ∷ []) (Some e)
next_taken seq es None e so_far after sooner = (
  Contains-push es e,
  after,
  All-push (λ x. seq < (x.last).seq → (e.last).seq ≤ (x.last).seq) es e (λ k d within behind. let low = so_far k d within in omega arith) (λ _. omega arith),
)
next_taken seq es (Some p) e so_far after sooner = (
  Contains-push es e,
  after,
  All-push (λ x. seq < (x.last).seq → (e.last).seq ≤ (x.last).seq) es e (λ k d within behind. let low = so_far.2 k d within behind in omega arith) (λ _. omega arith),
)

-- any other entry
pub next_left : (seq : ℕ) (es : List Entry) (o : Option Entry) (e : Entry) → IsNext seq es o → (seq < (e.last).seq → IfSome o (λ p. (e.last).seq < (p.last).seq) → ⊥) → IsNext seq (es ++ e ∷ []) o
next_left seq es None e so_far not_sooner = All-push (λ x. (x.last).seq ≤ seq) es e so_far (let P : seq < (e.last).seq → ⊥ = λ after. not_sooner after tt in omega (arith, P))
next_left seq es (Some p) e so_far not_sooner = (
  Contains-append_left es (e ∷ []) p so_far.0,
  so_far.1,
  All-push (λ x. seq < (x.last).seq → (p.last).seq ≤ (x.last).seq) es e so_far.2 (λ after. let P : (e.last).seq < (p.last).seq → ⊥ = not_sooner after in omega (arith, P)),
)

pub some_mapped : {A B : Type 0} (f : A → B) (P : B → Type 0) (o : Option A) → IfSome o (λ x. P (f x)) → IfSome (option_map f o) P
some_mapped f P None is = tt
some_mapped f P (Some x) is = is

pub some_unmapped : {A B : Type 0} (f : A → B) (P : B → Type 0) (o : Option A) → IfSome (option_map f o) P → IfSome o (λ x. P (f x))
some_unmapped f P None is = tt
some_unmapped f P (Some x) is = is
