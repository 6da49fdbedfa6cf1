-- The one term whose spelling stands at the front.
use Rattle.std.proofs.Common.{ℕ, ◌⊎◌, inl, inr, Err, ◌≡◌, Some, length, sym, ap, ◌∙◌}
use Rattle.json_terms.specs.Seen.{json}
use Rattle.json_terms.proofs.Sames.{json_inj}
use Rattle.term_codec.specs.Spelling.{spelling}
use Rattle.term_codec.specs.declared.fault.CodecFault.{CodecFault}
use Rattle.term_codec.specs.declared.fault.CodecFault.TheVariants.{NotATerm, NoMemory}
use Rattle.builtin_reduces.proofs.ItemParts.{spelled_front, behind_front}
use Rattle.builtin_reduces.proofs.item_bytes.read_term.Goals as goal

told : (fault : CodecFault) (at : ℕ) → fault ≡ NotATerm at → (fault ≡ NotATerm 0) ⊎ (fault ≡ NoMemory) → fault ≡ NotATerm 0
told fault at is (inl front) = front
told fault at is (inr memory) = let both : NotATerm at ≡ NoMemory = sym is ∙ memory in absurd cc

pub returns-in-Ok-clause-whole : goal.returns-in-Ok-clause-whole
returns-in-Ok-clause-whole c = λ term rest typed within is.
    let one = c.in-Ok.ensures.only (json term) (length (spelling (json term))) (spelled_front (json term) c.args.bytes.now rest within typed is) in
    let same = json_inj c.in-Ok.term term (sym one.0) in
    let behind = c.split_at.ensures.back ∙ behind_front (json term) c.args.bytes.now rest c.in-Ok.end is one.1 in
    λ i. Some (same i, behind i)

pub returns-in-Err-NotATerm-clause-whole : goal.returns-in-Err-NotATerm-clause-whole
returns-in-Err-NotATerm-clause-whole c = λ term rest typed within is.
    let spelled = spelled_front (json term) c.args.bytes.now rest within typed is in
    let fault : c.in-Err-NotATerm.field-0 ≡ NotATerm 0 = told c.in-Err-NotATerm.field-0 c.in-Err-NotATerm.field-0-0 c.in-Err-NotATerm.field-0-is c.in-Err-NotATerm.ensures.err in
    absurd (c.decode_term.ensures.none (c.in-Err-NotATerm.is ∙ ap (λ e. Err e) fault) (json term) (length (spelling (json term))) spelled)
