-- What fails under `_sum` alone has its cause there, and what was not changed is as it was.
use Rattle.std.proofs.Common.{◌≡◌, ◌≢◌, Result, Ok, Err, IsOk, IfErr, true, false, refl}
use Rattle.design_docs.specs.declared.design.Builtin.{Builtin}
use Rattle.design_docs.specs.declared.design.Builtin.TheVariants.{Sum, Count, Stats}

pub caused : {S F A : Type 0} (a b : A) (kind : Builtin) (result : Result S F) → b ≡ a → (kind ≢ Sum → IsOk result) → IfErr result (λ fault. (b ≡ a) × (kind ≡ Sum))
caused a b kind (Ok sum) same free = tt
caused a b Count (Err fault) same free = let ok : false ≡ true = free (λ e. absurd cc) in absurd cc
caused a b Sum (Err fault) same free = (same, refl)
caused a b Stats (Err fault) same free = let ok : false ≡ true = free (λ e. absurd cc) in absurd cc
