-- Bytes to which more come, and a line that is taken from them.
use Rattle.std.proofs.Common.{◌≡◌, ◌<◌, ◌≤◌, ◌+◌, ℕ, List, [], ◌∷◌, ◌++◌, Some, length, take, drop, get_or, sym, ap, ◌∙◌, subst, arith, append_assoc, append-nil, zero, suc, length-take, length-drop, get_or-drop}
use Rattle.std.proofs.Math.Seq.{drop-nil}
use Rattle.std.proofs.lemmas.List.{drop_more, get_or-take, get_or_default, take-append-drop}
use Rattle.view_ports.specs.Lines.{CutsLine, newline}
use Rattle.real_ports.specs.Printed.{Grows, IsUnended, Takes}

pub Grows-refl : (bytes : List ℕ) → Grows bytes bytes
Grows-refl bytes = ([], sym (append-nil bytes))

pub Grows-trans : (a b c : List ℕ) → Grows a b → Grows b c → Grows a c
Grows-trans a b c first second = (first.0 ++ second.0, second.1 ∙ ap (λ (l : List ℕ). l ++ second.0) first.1 ∙ append_assoc a first.0 second.0)

-- a line of what came is a line that was taken
pub Takes-grown : (old grown line rest : List ℕ) → Grows old grown → CutsLine grown (Some (line, rest)) → Takes old line rest
Takes-grown old grown line rest grows cuts = (grows.0, subst (λ (bytes : List ℕ). CutsLine bytes (Some (line, rest))) grows.1 cuts)

drop_twice : (from count : ℕ) (bytes : List ℕ) → drop count (drop from bytes) ≡ drop (from + count) bytes
drop_twice zero count bytes = ap (λ (n : ℕ). drop n bytes) (let same : count ≡ 0 + count = omega arith in same)
drop_twice (suc from) count [] = drop-nil count ∙ sym (drop-nil (suc from + count))
drop_twice (suc from) count (b ∷ bytes) = drop_twice from count bytes ∙ ap (λ (n : ℕ). drop n (b ∷ bytes)) (let same : suc (from + count) ≡ suc from + count = omega arith in same)

behind_cut : (bytes : List ℕ) (from count : ℕ) → from + count < length bytes → get_or bytes (from + count) 0 ≡ newline → drop count (drop from bytes) ≡ newline ∷ drop (from + count + 1) bytes
behind_cut bytes from count within is =
    let same : drop count (drop from bytes) ≡ drop (from + count) bytes = drop_twice from count bytes in
    same ∙ drop_more bytes (from + count) 0 within ∙ ap (λ b. b ∷ drop (from + count + 1) bytes) is

-- the line before the first newline, and what stands behind that
pub line_cut : (bytes : List ℕ) (from count : ℕ) (line rest : List ℕ) → from + count < length bytes → IsUnended bytes from count → get_or bytes (from + count) 0 ≡ newline
    → line ≡ take count (drop from bytes) → rest ≡ drop (from + count + 1) bytes → CutsLine (drop from bytes) (Some (line, rest))
line_cut bytes from count line rest within unended is first last =
    let long : count ≤ length (drop from bytes) = omega (arith, length-drop from bytes) in
    let size : length line ≡ count = ap length first ∙ omega (arith, length-take count (drop from bytes), long) in (
      λ k d few at.
          let below : k < count = omega (arith, size, few) in
          let read : get_or line k 0 ≡ get_or bytes (from + k) 0 = ap (λ (l : List ℕ). get_or l k 0) first ∙ get_or-take count (drop from bytes) k 0 below ∙ get_or-drop from bytes k 0 in
          unended k below (sym read ∙ get_or_default line k 0 d few ∙ at),
      sym (take-append-drop count (drop from bytes))
          ∙ ap (λ (l : List ℕ). l ++ drop count (drop from bytes)) (sym first)
          ∙ ap (λ (l : List ℕ). line ++ l) (behind_cut bytes from count within is ∙ ap (λ (l : List ℕ). newline ∷ l) (sym last))
          ∙ sym (append_assoc line (newline ∷ []) rest),
    )
