-- No byte of a revision is a newline.
use Rattle.std.proofs.Common.{◌≢◌, ◌<◌, ◌^◌, ◌++◌, ℕ, List, [], ◌∷◌, codes, decimal, inl, inr, arith}
use Rattle.std.specs.List.{AllByRecursion}
use Rattle.std.specs.Int.{to_be_bytes, w128}
use Rattle.std.proofs.lemmas.List.Elements.{All-nil, All-cons, All-append}
use Rattle.hex.specs.Hex.{encode_lower}
use Rattle.view_ports.specs.Lines.{IsLine}
use Rattle.view_ports.specs.Stored.{IsHexDigit}
use Rattle.design_docs.specs.Revision.{revision}
use Rattle.design_docs.proofs.Decimals.{line-decimal}
use Rattle.doc_file.proofs.StoredAs.{are_bytes, are_digits}

abbrev Other : ℕ → Type 0
Other byte = byte ≢ 10

other_digit : (c : ℕ) → IsHexDigit c → Other c
other_digit c (inl low) is = omega (arith, low.0)
other_digit c (inr high) is = omega (arith, high.0)

line-digits : (xs : List ℕ) → AllByRecursion IsHexDigit xs → IsLine xs
line-digits [] all = All-nil Other
line-digits (x ∷ xs) all = All-cons Other x xs (other_digit x all.0) (line-digits xs all.1)

pub line-revision : (generation seq : ℕ) → generation < 2 ^ 64 → IsLine (revision generation seq)
unfolding revision
line-revision generation seq few =
    let digits = encode_lower (to_be_bytes w128 seq) in
    All-append Other (decimal generation ++ codes "-") digits
    (All-append Other (decimal generation) (codes "-") (line-decimal generation few) (All-cons Other 45 [] (λ e. omega arith) (All-nil Other)))
    (line-digits digits (are_digits (to_be_bytes w128 seq) (are_bytes 16 seq)))
