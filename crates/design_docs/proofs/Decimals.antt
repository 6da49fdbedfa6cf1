-- No byte of a number in decimal is a newline.
use Rattle.std.proofs.Common.{◌≢◌, ◌<◌, ◌^◌, ℕ, decimal, arith}
use Rattle.std.proofs.lemmas.Fmt.{decimal_is_IsNumeral}
use Rattle.std.proofs.lemmas.List.Elements.{All-from_get_or}
use Rattle.std.proofs.lemmas.Str.Parse.{digit_at}
use Rattle.view_ports.specs.Lines.{IsLine}

abbrev Other : ℕ → Type 0
Other byte = byte ≢ 10

pub line-decimal : (n : ℕ) → n < 2 ^ 64 → IsLine (decimal n)
line-decimal n small = All-from_get_or Other (decimal n) 0 (λ i below. let digit = digit_at (decimal n) i (decimal_is_IsNumeral n small).0.1 below in λ e. omega (arith, digit.0))
