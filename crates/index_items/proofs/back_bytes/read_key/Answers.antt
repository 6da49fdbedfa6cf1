-- The one key whose spelling stands at the front.
use Rattle.std.proofs.Common.{◌≡◌, ◌⊎◌, ◌-◌, ℕ, List, ◌++◌, Err, true, false, length, take, inl, inr, sym, ap, ◌∙◌, subst, arith, length-append}
use Rattle.std.proofs.Math.Seq.{take-append_seam}
use Rattle.std.proofs.lemmas.Bool.{and_from, le-leb}
use Rattle.json_terms.specs.Json.{Json}
use Rattle.json_terms.specs.Seen.{json}
use Rattle.term_codec.specs.Spelling.{spelling}
use Rattle.term_codec.specs.SpelledAt.{IsSpelledAt}
use Rattle.term_codec.specs.declared.fault.CodecFault.{CodecFault}
use Rattle.term_codec.specs.declared.fault.CodecFault.TheVariants.{NotATerm, NoMemory}
use Rattle.view_ports.specs.Functions.{IsWithinBounds}
use Rattle.query_protocol.specs.Replies.{is_within_bounds}
use Rattle.index_items.specs.Counts.{bounds_within}
use Rattle.index_items.proofs.back_bytes.read_key.Goals as goal

spelled_front : (t : Json) (bytes more : List ℕ) → IsWithinBounds t → bytes ≡ spelling t ++ more → IsSpelledAt t bytes 0 (length (spelling t))
spelled_front t bytes more kept is =
    let none : length (spelling t) - 0 ≡ length (spelling t) = omega arith in
    record {
      term = kept.valid;
      within = bounds_within t kept;
      inside = omega (arith, ap length is, length-append (spelling t) more);
      spelled = ap (λ n. take n bytes) none ∙ ap (take (length (spelling t))) is ∙ take-append_seam (spelling t) more;
    }

test_passes : (t : Json) → IsWithinBounds t → is_within_bounds t ≡ true
test_passes t kept = and_from _ _ (le-leb _ _ kept.size) (le-leb _ _ kept.nested)

told : (fault : CodecFault) (at : ℕ) → fault ≡ NotATerm at → (fault ≡ NotATerm 0) ⊎ (fault ≡ NoMemory) → fault ≡ NotATerm 0
told fault at is (inl front) = front
told fault at is (inr memory) = let both : NotATerm at ≡ NoMemory = sym is ∙ memory in absurd cc

pub returns-then-not-branch : goal.returns-then-not-branch
returns-then-not-branch c = λ value more kept is.
    let one = c.in-Ok.ensures.only (json value) (length (spelling (json value))) (spelled_front (json value) c.args.bytes.now more kept is) in
    let passes : is_within_bounds (json c.in-Ok.key) ≡ true = test_passes (json c.in-Ok.key) (subst IsWithinBounds one.0 kept) in
    let both : false ≡ true = sym c.if-not-branch.true ∙ c.in_ok-is_within_bounds-in-Ok.ensures ∙ passes in
    absurd cc

pub returns-in-Err-NotATerm : goal.returns-in-Err-NotATerm
returns-in-Err-NotATerm c = λ value more kept is.
    let spelled = spelled_front (json value) c.args.bytes.now more kept is in
    let fault : c.in-Err-NotATerm.field-0 ≡ NotATerm 0 = told c.in-Err-NotATerm.field-0 c.in-Err-NotATerm.field-0-0 c.in-Err-NotATerm.field-0-is c.in-Err-NotATerm.ensures.err in
    absurd (c.decode_term.ensures.none (c.in-Err-NotATerm.is ∙ ap (λ e. Err e) fault) (json value) (length (spelling (json value))) spelled)
