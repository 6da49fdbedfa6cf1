-- What a search for a newline says of bytes.
use Rattle.std.proofs.Common.{◌≡◌, ◌≢◌, ◌<◌, ◌≤◌, ◌+◌, ◌-◌, ℕ, List, Some, None, length, take, drop, get_or, ap, sym, ◌∙◌, arith, inl, inr, subst, length-take, length-drop, get_or-drop}
use Rattle.std.proofs.lemmas.Bool.{cases_lt, eq-eqb, eqb-true}
use Rattle.std.proofs.lemmas.List.{get_or-take}
use Rattle.memchr.specs.Find.{IsFirstByte, is_byte}
use Rattle.view_ports.specs.Lines.{newline}
use Rattle.real_ports.specs.Printed.{IsUnended}

-- the bytes from a place on
abbrev pub rest : List ℕ → ℕ → List ℕ
rest bytes from = take (length bytes - from) (drop from bytes)

-- no newline among those that were searched, nor among so many behind them
unended_more : (bytes : List ℕ) (from searched more : ℕ) → more ≤ length bytes - (from + searched) → IsUnended bytes from searched
    → ((j : ℕ) → j < more → get_or (rest bytes (from + searched)) j 0 ≢ newline) → IsUnended bytes from (searched + more)
unended_more bytes from searched more room before none k within at = elim (cases_lt k searched) [
  | inl there ↦ before k there at
  | inr behind ↦
      let few : k - searched < more = omega arith in
      let inside : k - searched < length bytes - (from + searched) = omega arith in
      let same : from + searched + (k - searched) ≡ from + k = omega arith in
      let front = get_or-take (length bytes - (from + searched)) (drop (from + searched) bytes) (k - searched) 0 inside in
      none (k - searched) few (front ∙ get_or-drop (from + searched) bytes (k - searched) 0 ∙ ap (λ i. get_or bytes i 0) same ∙ at)
]

-- the first newline behind those that were searched
pub unended_found : (bytes : List ℕ) (from searched at : ℕ) → IsUnended bytes from searched → IsFirstByte (is_byte newline) (rest bytes (from + searched)) (Some at)
    → IsUnended bytes from (searched + at)
unended_found bytes from searched at before found =
    let high : at < length (rest bytes (from + searched)) = found.0.high in
    let room : at ≤ length bytes - (from + searched) = omega (arith, length-take (length bytes - (from + searched)) (drop (from + searched) bytes)) in
    unended_more bytes from searched at room before (λ j few is. found.0.before j (omega arith) few (eq-eqb _ _ is))

-- where it was found there is one
pub ended_found : (bytes : List ℕ) (from searched at : ℕ) → IsFirstByte (is_byte newline) (rest bytes (from + searched)) (Some at) → get_or bytes (from + (searched + at)) 0 ≡ newline
ended_found bytes from searched at found =
    let count = length bytes - (from + searched) in
    let high : at < length (rest bytes (from + searched)) = found.0.high in
    let inside : at < length bytes - (from + searched) = omega (arith, length-take (length bytes - (from + searched)) (drop (from + searched) bytes)) in
    let same : from + (searched + at) ≡ from + searched + at = omega arith in
    ap (λ (i : ℕ). get_or bytes i 0) same ∙ sym (get_or-drop (from + searched) bytes at 0) ∙ sym (get_or-take count (drop (from + searched) bytes) at 0 inside)
    ∙ eqb-true (get_or (rest bytes (from + searched)) at 0) newline found.1

-- no newline behind those that were searched
pub unended_none : (bytes : List ℕ) (from searched : ℕ) → from + searched ≤ length bytes → IsUnended bytes from searched
    → IsFirstByte (is_byte newline) (rest bytes (from + searched)) None → IsUnended bytes from (length bytes - from)
unended_none bytes from searched within before none =
    let more = length bytes - (from + searched) in
    let room : more ≤ more = omega arith in
    let size : length (rest bytes (from + searched)) ≡ length bytes - (from + searched) =
    omega (arith, length-take (length bytes - (from + searched)) (drop (from + searched) bytes), length-drop (from + searched) bytes) in
    let all : searched + (length bytes - (from + searched)) ≡ length bytes - from = omega arith in
    subst (IsUnended bytes from) all (unended_more bytes from searched more room before (λ j few is. none j (omega arith) (omega (arith, few, size)) (eq-eqb _ _ is)))
