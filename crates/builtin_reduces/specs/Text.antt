-- The value of a group as it is printed.
use Rattle.std.specs.Prelude.{ℕ, ℤ, List, [], ◌∷◌, ◌++◌, codes, decimal}
use Rattle.std.specs.Fmt.{signed_decimal}
use Rattle.std.specs.List.{flat_map}
use Rattle.builtin_reduces.specs.declared.sum.BuiltinSum.{BuiltinSum}
use Rattle.builtin_reduces.specs.declared.sum.BuiltinSum.TheVariants.{Count, Number, Numbers, Stats, Refused, Overflow}

abbrev pub more_numbers : List ℤ → List ℕ
more_numbers ns = flat_map (λ n. codes "," ++ signed_decimal n) ns

-- the numbers, with commas between them
abbrev pub numbers_text : List ℤ → List ℕ
numbers_text [] = []
numbers_text (n ∷ ns) = signed_decimal n ++ more_numbers ns

abbrev pub sum_text : BuiltinSum → List ℕ
sum_text (Count n) = decimal n
sum_text (Number n) = signed_decimal n
sum_text (Numbers ns) = codes "[" ++ numbers_text ns ++ codes "]"
sum_text (Stats s) =
    codes "{\"sum\":" ++ signed_decimal s.sum ++ codes ",\"count\":" ++ decimal s.count ++ codes ",\"min\":" ++ signed_decimal s.min ++ codes ",\"max\":" ++ signed_decimal s.max
    ++ codes ",\"sumsqr\":" ++ decimal s.sumsqr ++ codes "}"
sum_text Refused = codes "{\"error\":\"builtin_reduce_error\"}"
sum_text Overflow = codes "{\"error\":\"builtin_reduce_overflow\"}"
