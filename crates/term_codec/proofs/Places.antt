-- What is read at a place of some bytes, and what stands there.
use Rattle.std.proofs.Common.{◌≡◌, ◌-◌, ◌≤◌, ℕ, List, ◌++◌, length, take, drop, Some, ap, sym, ◌∙◌, arith, length-append}
use Rattle.std.proofs.lemmas.List.{take-append-drop, length-drop}
use Rattle.std.proofs.Math.Seq.{take-append_seam}
use Rattle.std.proofs.lemmas.List.{length-take-le}
use Rattle.json_terms.specs.Json.{Json}
use Rattle.term_codec.specs.Spelling.{spelling}
use Rattle.term_codec.specs.SpelledAt.{IsSpelledAt}
use Rattle.term_codec.specs.Reading.{reading}
use Rattle.term_codec.proofs.Spelled.{reading-spelled, spelling-long}
use Rattle.term_codec.proofs.Read.{reading-read}

pub IsSpelledAt-read : (bytes : List ℕ) (at end : ℕ) (t : Json) (rest : List ℕ) → at ≤ length bytes → reading 100 (drop at bytes) ≡ Some (t, rest) → end ≡ length bytes - length rest → IsSpelledAt t bytes at end
IsSpelledAt-read bytes at end t rest inside found is =
    let read = reading-read 100 (drop at bytes) t rest found in
    let long : length (drop at bytes) ≡ length (spelling t ++ rest) = ap length read.is in
    let whole = length-append (spelling t) rest in
    let left = length-drop at bytes in
    let size : end - at ≡ length (spelling t) = omega arith in
    record {
      term = read.term;
      within = record { depth = read.deep; counts = read.counts };
      inside = omega arith;
      spelled = (λ i. take (size i) (read.is i)) ∙ take-append_seam (spelling t) rest;
    }

pub reading-IsSpelledAt : (bytes : List ℕ) (at end : ℕ) (t : Json) → IsSpelledAt t bytes at end → reading 100 (drop at bytes) ≡ Some (t, drop (end - at) (drop at bytes))
reading-IsSpelledAt bytes at end t stands =
    let rest : List ℕ = drop (end - at) (drop at bytes) in
    let is : drop at bytes ≡ spelling t ++ rest = sym (take-append-drop (end - at) (drop at bytes)) ∙ ap (λ bs. bs ++ rest) stands.spelled in
    ap (reading 100) is ∙ reading-spelled 100 t rest stands.within.depth stands.term stands.within.counts

-- the end of what stands there, from what is left
pub end-IsSpelledAt : (bytes : List ℕ) (at end : ℕ) (t : Json) (rest : List ℕ) → at ≤ length bytes → IsSpelledAt t bytes at end → drop (end - at) (drop at bytes) ≡ rest → end ≡ length bytes - length rest
end-IsSpelledAt bytes at end t rest inside stands is =
    let some = spelling-long t in
    let long : length (take (end - at) (drop at bytes)) ≡ length (spelling t) = ap length stands.spelled in
    let left = length-drop at bytes in
    let less = length-drop (end - at) (drop at bytes) in
    let size : length (drop (end - at) (drop at bytes)) ≡ length rest = ap length is in
    let within : end - at ≤ length (drop at bytes) = omega (arith, stands.inside) in
    let taken = length-take-le (end - at) (drop at bytes) within in
    omega (arith, stands.inside)

-- what is left is no longer than the bytes
pub rest-read : (bytes : List ℕ) (at : ℕ) (t : Json) (rest : List ℕ) → reading 100 (drop at bytes) ≡ Some (t, rest) → length rest ≤ length bytes
rest-read bytes at t rest found =
    let read = reading-read 100 (drop at bytes) t rest found in
    let long : length (drop at bytes) ≡ length (spelling t ++ rest) = ap length read.is in
    let whole = length-append (spelling t) rest in
    let left = length-drop at bytes in
    omega arith
