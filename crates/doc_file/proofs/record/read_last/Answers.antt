-- The 29 bytes say what was made of them exactly where they are its bytes and it is sound.
use Rattle.std.proofs.Common.{◌≡◌, Some, sym, ap, ◌∙◌, arith, true, false}
use Rattle.doc_file.proofs.Lasts.{last_in-is, last_in-not, last_in-short, numbers_fit-of}
use Rattle.doc_file.proofs.record.read_last.Goals as goal

pub returns-then-not-is_told_by : goal.returns-then-not-is_told_by
returns-then-not-is_told_by c =
    sym (last_in-not c.args.bytes.now c.in-Some.head.now c.from_bytes-last.result c.in-Some.ensures.cases.0 c.from_bytes-last.ensures (λ same sound.
    let yes = c.is_told_by.ensures.1 same in
    let both : true ≡ false = cc in
    absurd cc))

pub returns-then-not-is_sound : goal.returns-then-not-is_sound
returns-then-not-is_sound c =
    sym (last_in-not c.args.bytes.now c.in-Some.head.now c.from_bytes-last.result c.in-Some.ensures.cases.0 c.from_bytes-last.ensures (λ same sound.
    let yes = c.is_sound.ensures ∙ sound in
    let both : true ≡ false = cc in
    absurd cc))

pub returns-else-not-is_sound : goal.returns-else-not-is_sound
returns-else-not-is_sound c =
    let last = c.from_bytes-last.result in
    let fit = numbers_fit-of last (omega arith) (omega arith) (omega arith) (omega arith) in
    let told : c.is_told_by.result ≡ true = cc in
    let same = c.is_told_by.ensures.0 told in
    let sound : c.is_sound.result ≡ true = cc in
    ap (λ rest. Some (last, rest)) c.in-Some.ensures.cases.1
    ∙ sym (last_in-is c.args.bytes.now c.in-Some.head.now last c.in-Some.ensures.cases.0 c.from_bytes-last.ensures fit same (sym c.is_sound.ensures ∙ sound))

pub returns-in-None : goal.returns-in-None
returns-in-None c = sym (last_in-short c.args.bytes.now c.in-None.ensures.cases)
