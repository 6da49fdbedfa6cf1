-- The two parts of a revision's text.
use Rattle.std.proofs.Common.{◌≡◌, ◌+◌, ◌≤◌, ℕ, List, ◌++◌, length, take, drop, codes, decimal, Result, Ok, IsUtf8, ap, sym, ◌∙◌, subst, arith, length-append}
use Rattle.std.proofs.lemmas.List.{take-append-drop}
use Rattle.std.proofs.Math.Seq.{take-append_seam, drop-append_seam}
use Rattle.std.specs.Str.Parse.{ParsesUnsigned}
use Rattle.std.proofs.lemmas.Fmt.{parse-decimal, IsAscii-decimal}
use Rattle.std.proofs.lemmas.Str.{IsUtf8-from_ascii}
use Rattle.view_ports.specs.Stored.{IsGeneration, IsSequence, IsRevision}

pub length-IsSequence : (text : List ℕ) → IsSequence text → length text ≡ 33
length-IsSequence text seq = let long : length text ≡ length (codes "-" ++ seq.0) = ap length seq.3 in omega (arith, seq.1)

pub IsRevision-long : (text : List ℕ) → IsRevision text → 33 ≤ length text
IsRevision-long text rev =
    let seq = length-IsSequence rev.1 rev.3 in
    let whole : length text ≡ length (rev.0 ++ rev.1) = ap length rev.4 in
    omega (arith, length-append rev.0 rev.1)

-- the last 33 bytes are the number of the write, and those before them the generation
pub IsRevision-parts : (text : List ℕ) (n : ℕ) → n + 33 ≡ length text → IsRevision text → IsGeneration (take n text) × IsSequence (drop n text)
IsRevision-parts text n long rev =
    let seq = length-IsSequence rev.1 rev.3 in
    let whole : length text ≡ length (rev.0 ++ rev.1) = ap length rev.4 in
    let size : n ≡ length rev.0 = omega (arith, length-append rev.0 rev.1) in
    let front : take n text ≡ rev.0 = (λ i. take (size i) (rev.4 i)) ∙ take-append_seam rev.0 rev.1 in
    let behind : drop n text ≡ rev.1 = (λ i. drop (size i) (rev.4 i)) ∙ drop-append_seam rev.0 rev.1 in
    (subst IsGeneration (sym front) rev.2, subst IsSequence (sym behind) rev.3)

pub IsRevision-of : (text : List ℕ) (n : ℕ) → IsGeneration (take n text) → IsSequence (drop n text) → IsRevision text
IsRevision-of text n generation seq = (take n text, drop n text, generation, seq, sym (take-append-drop n text))

pub generation-parsed : {E : Type 0} (text : List ℕ) (r : Result ℕ E) → ParsesUnsigned 64 10 text r → (g : IsGeneration text) → r ≡ Ok g.0
generation-parsed text r parses g = parse-decimal 64 g.0 text r (omega (arith, g.2)) (omega (arith, g.2)) g.3 parses

pub IsUtf8-generation : (text : List ℕ) → IsGeneration text → IsUtf8 text
IsUtf8-generation text g = subst IsUtf8 (sym g.3) (IsUtf8-from_ascii (decimal g.0) (IsAscii-decimal g.0 (omega (arith, g.2))))
