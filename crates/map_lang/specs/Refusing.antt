-- What a refusal says: that nothing can be read.
use Rattle.std.specs.Prelude.{◌≡◌, ℕ, List, Result, IfErr}
use Rattle.map_lang.specs.declared.fault.ParseFault.{ParseFault}
use Rattle.map_lang.specs.declared.fault.ParseFault.TheVariants.{Refused}
use Rattle.map_lang.specs.declared.token.Token.{Token}

-- where the source is refused, and not for want of memory
abbrev pub IfRefused : {A : Type 0} → Result A ParseFault → Type 0 → Type 0
IfRefused result none = IfErr result (λ fault. fault ≡ Refused → none)

-- nothing is read from the front of the tokens, whatever is left of them
abbrev pub ReadsNone : {A : Type 0} → (A → List Token → Type 0) → Type 0
ReadsNone {A} Reads = (a : A) (rest : List Token) → Reads a rest → ⊥
