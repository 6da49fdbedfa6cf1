-- A document's spelling is what stands in bytes that are nothing else.
use Rattle.std.proofs.Common.{◌≡◌, ◌-◌, ◌≤◌, ℕ, List, length, take, slice_range, ap, sym, ◌∙◌, arith}
use Rattle.std.proofs.Math.Seq.{take-length}
use Rattle.json_terms.specs.Json.{Json, depth}
use Rattle.term_codec.specs.Spelling.{spelling}
use Rattle.term_codec.specs.SpelledAt.{IsSpelledAt}
use Rattle.doc_file.specs.Held.{IsDocument, IsObject}

whole-range : (bytes : List ℕ) → slice_range bytes 0 (length bytes) ≡ bytes
whole-range bytes = let size : length bytes - 0 ≡ length bytes = omega arith in ap (λ n. take n bytes) size ∙ take-length bytes

pub IsSpelledAt-document : (bytes : List ℕ) (t : Json) → IsDocument t → bytes ≡ spelling t → IsSpelledAt t bytes 0 (length bytes)
IsSpelledAt-document bytes t is same = record {
  term = is.term;
  within = record { depth = let d = is.shallow in omega arith; counts = is.counts };
  inside = omega arith;
  spelled = whole-range bytes ∙ same;
}

pub document-IsSpelledAt : (bytes : List ℕ) (t : Json) (end : ℕ) → IsSpelledAt t bytes 0 end → end ≡ length bytes → IsObject t → depth t ≤ 64 → IsDocument t × (bytes ≡ spelling t)
document-IsSpelledAt bytes t end stands whole object shallow =
    (record { term = stands.term; object = object; shallow = shallow; counts = stands.within.counts }, sym (whole-range bytes) ∙ ap (slice_range bytes 0) (sym whole) ∙ stands.spelled)
