-- Bytes that are the spelling of a term.
use Rattle.std.proofs.Common.{◌≡◌, ◌-◌, ℕ, List, length, take, ap, sym, ◌∙◌, inl, inr, ◌⊎◌, arith}
use Rattle.std.proofs.Math.Seq.{take-length}
use Rattle.json_terms.specs.Json.{Json}
use Rattle.term_codec.specs.Spelling.{spelling}
use Rattle.term_codec.specs.SpelledAt.{IsSpelledAt}
use Rattle.term_codec.specs.declared.fault.CodecFault.{CodecFault}
use Rattle.term_codec.specs.declared.fault.CodecFault.TheVariants.{NotATerm, NoMemory}
use Rattle.view_ports.specs.Functions.{IsWithinBounds}
use Rattle.builtin_reduces.specs.Sizes.{part_within}

minus_none : (n : ℕ) → n - 0 ≡ n
minus_none n = omega arith

-- it stands at the front, and ends where they end
pub spelled_alone : (t : Json) (bytes : List ℕ) → IsWithinBounds t → spelling t ≡ bytes → IsSpelledAt t bytes 0 (length bytes)
spelled_alone t bytes within is = record {
  term = within.valid;
  within = part_within t within;
  inside = omega arith;
  spelled = ap (λ n. take n bytes) (minus_none (length bytes)) ∙ take-length bytes ∙ sym is;
}

-- a fault that is no want of memory tells of the front
pub told : (fault : CodecFault) (at : ℕ) → fault ≡ NotATerm at → (fault ≡ NotATerm 0) ⊎ (fault ≡ NoMemory) → fault ≡ NotATerm 0
told fault at is (inl front) = front
told fault at is (inr memory) = let both : NotATerm at ≡ NoMemory = sym is ∙ memory in absurd cc
