-- What is read of the value of a group was spelled.
use Rattle.std.proofs.Common.{◌≡◌, ◌≢◌, ◌^◌, ◌<◌, ◌≤◌, ◌&&◌, ◌/◌, ◌==◌, ℕ, zero, suc, ℤ, pos, negsuc, List, [], ◌∷◌, ◌++◌, length, take, drop, Bool, true, false, cond, nat_le, nat_lt, Option, Some, None, option_map, option_and_then, bytes_eq, refl, ap, sym, ◌∙◌, subst, FitsSigned, w64, arith, length-append, append_assoc}
use Rattle.std.specs.Int.{cast_signed, cast_unsigned, from_le_bytes, w128}
use Rattle.std.specs.List.{AllByRecursion, flat_map}
use Rattle.std.proofs.lemmas.Bool.{and_parts, cond-true, le-leb, leb-true, ltb-true, eqb-true}
use Rattle.std.proofs.lemmas.Option.{cond_some}
use Rattle.std.proofs.lemmas.Slice.Eq.{bytes_eq-Decides}
use Rattle.std.proofs.lemmas.List.{append-nil, take-append-drop}
use Rattle.std.proofs.lemmas.Int.{of_z-to_z}
use Rattle.std.proofs.Math.Facts.{Fits-of_lt, sfits_to_z}
use Rattle.json_terms.proofs.ValueCounts.{mapped_some, then_some}
use Rattle.term_codec.specs.Spelling.{count_bytes}
use Rattle.term_codec.specs.Reading.{count_in}
use Rattle.term_codec.proofs.Words.{cond_none, some-pair, count_in-read}
use Rattle.builtin_reduces.specs.declared.sum.BuiltinSum.{BuiltinSum}
use Rattle.builtin_reduces.specs.declared.sum.BuiltinSum.TheVariants as value
use Rattle.builtin_reduces.specs.declared.sum.Stats.{Stats}
use Rattle.builtin_reduces.specs.SumBytes.{u128_bytes, i128_bytes, numbers_bytes, stats_bytes, sum_bytes, place_limit, AreNumbers, AreStats, HasBytes}
use Rattle.builtin_reduces.specs.SumReading.{u128_in, i128_in, is_i64, u64_in, i64_in, squares_in, is_place_count, numbers_from, numbers_of_count, numbers_in, stats_in, kind_in, front_in, alone, sum_in}
use Rattle.builtin_reduces.specs.SumSpelled.{numbers_counted, length-u128_bytes, i128_is_u128, i128_in-u128, passing, u64_in-u128, squares_in-u128, i64_in-i128, from_greatest, from_least, from_count, told_1, told_2, told_3, told_4, told_5, alone_of, sum_in-spelled}

-- ---- numbers

pub u128_in-read : (bytes : List ℕ) (n : ℕ) (rest : List ℕ) → u128_in bytes ≡ Some (n, rest) → (n < 2 ^ 128) × (bytes ≡ u128_bytes n ++ rest)
unfolding u128_in
u128_in-read bytes n rest h =
    let m : ℕ = from_le_bytes w128 bytes in
    let found = cond_some (nat_lt m (2 ^ 128) && bytes_eq (u128_bytes m) (take 16 bytes)) (m, drop 16 bytes) (n, rest) h in
    let tests = and_parts _ _ found.0 in
    let is : m ≡ n = ap (λ r. r.0) found.1 in
    let behind : drop 16 bytes ≡ rest = ap (λ r. r.1) found.1 in
    let front : u128_bytes m ≡ take 16 bytes = (bytes_eq-Decides (u128_bytes m) (take 16 bytes)).0 tests.1 in
    let less = ltb-true m (2 ^ 128) tests.0 in
    (subst (λ k. k < 2 ^ 128) is less, sym (take-append-drop 16 bytes) ∙ ap (λ f. f ++ drop 16 bytes) (sym front ∙ ap u128_bytes is) ∙ ap (λ r. u128_bytes n ++ r) behind)

pub u128_in-none : (bytes : List ℕ) → length bytes < 16 → u128_in bytes ≡ None
unfolding u128_in
u128_in-none bytes short =
    let m : ℕ = from_le_bytes w128 bytes in
    cond_none (nat_lt m (2 ^ 128) && bytes_eq (u128_bytes m) (take 16 bytes)) (Some (m, drop 16 bytes)) (λ h.
    let same : u128_bytes m ≡ take 16 bytes = (bytes_eq-Decides (u128_bytes m) (take 16 bytes)).0 ((and_parts (nat_lt m (2 ^ 128)) (bytes_eq (u128_bytes m) (take 16 bytes)) h).1) in
    let long : length (u128_bytes m) ≡ length (take 16 bytes) = ap length same in
    let whole : length (take 16 bytes ++ drop 16 bytes) ≡ length bytes = ap length (take-append-drop 16 bytes) in
    let parts = length-append (take 16 bytes) (drop 16 bytes) in
    let sixteen = length-u128_bytes m in
    omega arith)

pub i128_in-read : (bytes : List ℕ) (z : ℤ) (rest : List ℕ) → i128_in bytes ≡ Some (z, rest) → FitsSigned w128 z × (bytes ≡ i128_bytes z ++ rest)
i128_in-read bytes z rest h =
    let made = mapped_some (λ (r : ℕ × List ℕ). (cast_signed w128 r.0, r.1)) (u128_in bytes) (z, rest) (sym (i128_in-u128 bytes) ∙ h) in
    let n : ℕ = made.0.0 in
    let read = u128_in-read bytes n made.0.1 made.1 in
    let is : cast_signed w128 n ≡ z = ap (λ r. r.0) made.2 in
    let behind : made.0.1 ≡ rest = ap (λ r. r.1) made.2 in
    let same : n ≡ cast_unsigned w128 z = sym (of_z-to_z w128 n read.0) ∙ ap (cast_unsigned w128) is in
    (subst (FitsSigned w128) is (sfits_to_z (Fits-of_lt read.0)), read.1 ∙ (λ i. u128_bytes (same i) ++ behind i) ∙ ap (λ bs. bs ++ rest) (sym (i128_is_u128 z)))

is_i64-fits : (z : ℤ) → is_i64 z ≡ true → FitsSigned w64 z
is_i64-fits (pos n) h = record { sfits = omega (arith, ltb-true n (2 ^ 63) h) }
is_i64-fits (negsuc n) h = record { sfits = omega (arith, ltb-true n (2 ^ 63) h) }

pub u64_in-read : (bytes : List ℕ) (n : ℕ) (rest : List ℕ) → u64_in bytes ≡ Some (n, rest) → (n < 2 ^ 64) × (bytes ≡ u128_bytes n ++ rest)
u64_in-read bytes n rest h =
    let made = then_some (passing (λ n. nat_lt n (2 ^ 64))) (u128_in bytes) (n, rest) (sym (u64_in-u128 bytes) ∙ h) in
    let found = cond_some (nat_lt made.0.0 (2 ^ 64)) made.0 (n, rest) made.2 in
    let is : made.0.0 ≡ n = ap (λ r. r.0) found.1 in
    let small = ltb-true made.0.0 (2 ^ 64) found.0 in
    let read = u128_in-read bytes n rest (made.1 ∙ ap Some found.1) in
    (subst (λ k. k < 2 ^ 64) is small, read.1)

pub squares_in-read : (bytes : List ℕ) (n : ℕ) (rest : List ℕ) → squares_in bytes ≡ Some (n, rest) → (suc n < 2 ^ 128) × (bytes ≡ u128_bytes n ++ rest)
squares_in-read bytes n rest h =
    let made = then_some (passing (λ n. nat_lt (suc n) (2 ^ 128))) (u128_in bytes) (n, rest) (sym (squares_in-u128 bytes) ∙ h) in
    let found = cond_some (nat_lt (suc made.0.0) (2 ^ 128)) made.0 (n, rest) made.2 in
    let is : made.0.0 ≡ n = ap (λ r. r.0) found.1 in
    let small = ltb-true (suc made.0.0) (2 ^ 128) found.0 in
    let read = u128_in-read bytes n rest (made.1 ∙ ap Some found.1) in
    (subst (λ k. suc k < 2 ^ 128) is small, read.1)

pub i64_in-read : (bytes : List ℕ) (z : ℤ) (rest : List ℕ) → i64_in bytes ≡ Some (z, rest) → FitsSigned w64 z × (bytes ≡ i128_bytes z ++ rest)
i64_in-read bytes z rest h =
    let made = then_some (passing is_i64) (i128_in bytes) (z, rest) (sym (i64_in-i128 bytes) ∙ h) in
    let found = cond_some (is_i64 made.0.0) made.0 (z, rest) made.2 in
    let is : made.0.0 ≡ z = ap (λ r. r.0) found.1 in
    let fits = is_i64-fits made.0.0 found.0 in
    let read = i128_in-read bytes z rest (made.1 ∙ ap Some found.1) in
    (subst (FitsSigned w64) is fits, read.1)

-- ---- lists of numbers

-- what was read of so many numbers
pub record AreRead (count : ℕ) (bytes : List ℕ) (ns : List ℤ) (rest : List ℕ) : Type 0 where
  pub each : AllByRecursion (FitsSigned w128) ns
  pub counted : length ns ≡ count
  pub is : bytes ≡ flat_map i128_bytes ns ++ rest

numbers_from-read : (count : ℕ) (done : List ℤ) (bytes : List ℕ) (all : List ℤ) (rest : List ℕ) → numbers_from done count bytes ≡ Some (all, rest)
    → (ns : List ℤ) × (all ≡ done ++ ns) × AreRead count bytes ns rest
numbers_from-read zero done bytes all rest h =
    let same = some-pair (done, bytes) (all, rest) h in
    ([], sym same.0 ∙ sym (append-nil done), record { each = tt; counted = refl; is = same.1 })
numbers_from-read (suc count) done bytes all rest h =
    let first = then_some (λ (r : ℤ × List ℕ). numbers_from (done ++ r.0 ∷ []) count r.1) (i128_in bytes) (all, rest) h in
    let z : ℤ = first.0.0 in
    let one = i128_in-read bytes z first.0.1 first.1 in
    let tail = numbers_from-read count (done ++ z ∷ []) first.0.1 all rest first.2 in
    let ns : List ℤ = tail.0 in (
      z ∷ ns,
      tail.1 ∙ append_assoc done (z ∷ []) ns,
      record {
        each = (one.0, tail.2.each);
        counted = ap suc tail.2.counted;
        is = one.1 ∙ ap (λ bs. i128_bytes z ++ bs) tail.2.is ∙ sym (append_assoc (i128_bytes z) (flat_map i128_bytes ns) rest);
      },
    )

by_test : {A P : Type 0} (b : Bool) (x y : Option A) (r : A) → cond b x y ≡ Some r → (b ≡ true → x ≡ Some r → P) → (y ≡ Some r → P) → P
by_test true x y r h p q = p refl h
by_test false x y r h p q = q h

cond_same : {A : Type 0} (b : Bool) (x : Option A) (r : A) → cond b x None ≡ Some r → x ≡ Some r
cond_same true x r h = h
cond_same false x r h = absurd cc

limited : {A : Type 0} (n : ℕ) (x : Option A) (r : A) → cond (is_place_count n) x None ≡ Some r → (1 ≤ n) × (n ≤ place_limit) × (x ≡ Some r)
limited n x r h = by_test (is_place_count n) x None r h (λ so is. let tests = and_parts _ _ so in (leb-true 1 n tests.0, leb-true n place_limit tests.1, is)) (λ none. absurd cc)

numbers_in-read : (bytes : List ℕ) (ns : List ℤ) (rest : List ℕ) → numbers_in bytes ≡ Some (ns, rest) → AreNumbers ns × (bytes ≡ numbers_bytes ns ++ rest)
numbers_in-read bytes ns rest h =
    let count = then_some numbers_counted (count_in bytes) (ns, rest) h in
    let n : ℕ = count.0.0 in
    let head = count_in-read bytes n count.0.1 count.1 in
    let counted = limited n (numbers_of_count n count.0.1) (ns, rest) count.2 in
    let tested = cond_same (nat_le n (length count.0.1 / 16)) (numbers_from [] n count.0.1) (ns, rest) counted.2 in
    let read = numbers_from-read n [] count.0.1 ns rest tested in
    let many : List ℤ = read.0 in
    let same : many ≡ ns = sym read.1 in
    let long : n ≡ length many = sym read.2.counted in
    let is : bytes ≡ numbers_bytes many ++ rest = head.1 ∙ (λ i. count_bytes (long i) ++ read.2.is i) ∙ sym (append_assoc (count_bytes (length many)) (flat_map i128_bytes many) rest) in
    let fit : AreNumbers many = record { each = read.2.each; some = subst (λ k. 1 ≤ k) long counted.0; few = subst (λ k. k ≤ place_limit) long counted.1 } in
    subst (λ ms. AreNumbers ms × (bytes ≡ numbers_bytes ms ++ rest)) same (fit, is)

-- ---- what `_stats` tells

-- one more part before others
part_before : (part others rest bytes behind : List ℕ) → bytes ≡ part ++ behind → behind ≡ others ++ rest → bytes ≡ (part ++ others) ++ rest
part_before part others rest bytes behind front is = front ∙ ap (λ bs. part ++ bs) is ∙ sym (append_assoc part others rest)

stats_joined : (s : Stats) (bytes from_b from_c from_d from_e rest : List ℕ) → bytes ≡ i128_bytes s.sum ++ from_b → from_b ≡ u128_bytes s.count ++ from_c → from_c ≡ i128_bytes s.min ++ from_d → from_d ≡ i128_bytes s.max ++ from_e
    → from_e ≡ u128_bytes s.sumsqr ++ rest → bytes ≡ stats_bytes s ++ rest
stats_joined s bytes from_b from_c from_d from_e rest a b c d e =
    part_before (i128_bytes s.sum) (from_count s) rest bytes from_b a
    (part_before (u128_bytes s.count) (from_least s) rest from_b from_c b
    (part_before (i128_bytes s.min) (from_greatest s) rest from_c from_d c
    (part_before (i128_bytes s.max) (u128_bytes s.sumsqr) rest from_d from_e d e)))

-- what was read of what `_stats` tells
pub record IsStatsRead (bytes : List ℕ) (sum : BuiltinSum) (rest : List ℕ) : Type 0 where
  pub stats : Stats
  pub same : sum ≡ value.Stats stats
  pub fit : AreStats stats
  pub is : bytes ≡ stats_bytes stats ++ rest

last_read : (total : ℤ) (count : ℕ) (least greatest : ℤ) (bytes from_b from_c from_d from_e : List ℕ) (sum : BuiltinSum) (rest : List ℕ) → FitsSigned w128 total × (bytes ≡ i128_bytes total ++ from_b) → (count < 2 ^ 64) × (from_b ≡ u128_bytes count ++ from_c)
    → FitsSigned w64 least × (from_c ≡ i128_bytes least ++ from_d) → FitsSigned w64 greatest × (from_d ≡ i128_bytes greatest ++ from_e) → told_4 total count least (greatest, from_e) ≡ Some (sum, rest) → IsStatsRead bytes sum rest
last_read total count least greatest bytes from_b from_c from_d from_e sum rest a b c d h =
    let e = then_some (told_5 total count least greatest) (squares_in from_e) (sum, rest) h in
    let s : Stats = record { sum = total; count = count; min = least; max = greatest; sumsqr = e.0.0 } in
    let same = some-pair (value.Stats s, e.0.1) (sum, rest) e.2 in
    let read = squares_in-read from_e e.0.0 rest (e.1 ∙ ap (λ r. Some (e.0.0, r)) same.1) in record {
      stats = s;
      same = sym same.0;
      fit = record { sum = a.0; count = b.0; least = c.0; greatest = d.0; squares = read.0 };
      is = stats_joined s bytes from_b from_c from_d from_e rest a.1 b.1 c.1 d.1 read.1;
    }

greatest_read : (total : ℤ) (count : ℕ) (least : ℤ) (bytes from_b from_c from_d : List ℕ) (sum : BuiltinSum) (rest : List ℕ) → FitsSigned w128 total × (bytes ≡ i128_bytes total ++ from_b) → (count < 2 ^ 64) × (from_b ≡ u128_bytes count ++ from_c)
    → FitsSigned w64 least × (from_c ≡ i128_bytes least ++ from_d) → told_3 total count (least, from_d) ≡ Some (sum, rest) → IsStatsRead bytes sum rest
greatest_read total count least bytes from_b from_c from_d sum rest a b c h =
    let d = then_some (told_4 total count least) (i64_in from_d) (sum, rest) h in
    last_read total count least d.0.0 bytes from_b from_c from_d d.0.1 sum rest a b c (i64_in-read from_d d.0.0 d.0.1 d.1) d.2

stats_in-read : (bytes : List ℕ) (sum : BuiltinSum) (rest : List ℕ) → stats_in bytes ≡ Some (sum, rest) → IsStatsRead bytes sum rest
stats_in-read bytes sum rest h =
    let a = then_some told_1 (i128_in bytes) (sum, rest) h in
    let b = then_some (told_2 a.0.0) (u64_in a.0.1) (sum, rest) a.2 in
    let c = then_some (told_3 a.0.0 b.0.0) (i64_in b.0.1) (sum, rest) b.2 in
    greatest_read a.0.0 b.0.0 c.0.0 bytes a.0.1 b.0.1 c.0.1 sum rest (i128_in-read bytes a.0.0 a.0.1 a.1) (u64_in-read a.0.1 b.0.0 b.0.1 b.1) (i64_in-read b.0.1 c.0.0 c.0.1 c.1) c.2

-- ---- values

-- what was read of a value
abbrev IsRead : List ℕ → BuiltinSum → List ℕ → Type 0
IsRead bytes sum rest = HasBytes sum × (bytes ≡ sum_bytes sum ++ rest)

of_kind : (kind k : ℕ) (bytes : List ℕ) (sum : BuiltinSum) (rest : List ℕ) → (kind == k) ≡ true → IsRead (k ∷ bytes) sum rest → IsRead (kind ∷ bytes) sum rest
of_kind kind k bytes sum rest same read = (read.0, ap (λ byte. byte ∷ bytes) (eqb-true kind k same) ∙ read.1)

count_read : (bytes : List ℕ) (sum : BuiltinSum) (rest : List ℕ) → option_map {U = BuiltinSum × List ℕ} (λ (r : ℕ × List ℕ). (value.Count r.0, r.1)) (u64_in bytes) ≡ Some (sum, rest) → IsRead (0 ∷ bytes) sum rest
count_read bytes sum rest h =
    let made = mapped_some {B = BuiltinSum × List ℕ} (λ (r : ℕ × List ℕ). (value.Count r.0, r.1)) (u64_in bytes) (sum, rest) h in
    let read = u64_in-read bytes made.0.0 made.0.1 made.1 in
    let P : BuiltinSum × List ℕ → Type 0 = λ r. IsRead (0 ∷ bytes) r.0 r.1 in
    subst P made.2 (read.0, ap (λ bs. 0 ∷ bs) read.1)

number_read : (bytes : List ℕ) (sum : BuiltinSum) (rest : List ℕ) → option_map {U = BuiltinSum × List ℕ} (λ (r : ℤ × List ℕ). (value.Number r.0, r.1)) (i128_in bytes) ≡ Some (sum, rest) → IsRead (1 ∷ bytes) sum rest
number_read bytes sum rest h =
    let made = mapped_some {B = BuiltinSum × List ℕ} (λ (r : ℤ × List ℕ). (value.Number r.0, r.1)) (i128_in bytes) (sum, rest) h in
    let read = i128_in-read bytes made.0.0 made.0.1 made.1 in
    let P : BuiltinSum × List ℕ → Type 0 = λ r. IsRead (1 ∷ bytes) r.0 r.1 in
    subst P made.2 (read.0, ap (λ bs. 1 ∷ bs) read.1)

numbers_read : (bytes : List ℕ) (sum : BuiltinSum) (rest : List ℕ) → option_map {U = BuiltinSum × List ℕ} (λ (r : List ℤ × List ℕ). (value.Numbers r.0, r.1)) (numbers_in bytes) ≡ Some (sum, rest) → IsRead (2 ∷ bytes) sum rest
numbers_read bytes sum rest h =
    let made = mapped_some {B = BuiltinSum × List ℕ} (λ (r : List ℤ × List ℕ). (value.Numbers r.0, r.1)) (numbers_in bytes) (sum, rest) h in
    let read = numbers_in-read bytes made.0.0 made.0.1 made.1 in
    let P : BuiltinSum × List ℕ → Type 0 = λ r. IsRead (2 ∷ bytes) r.0 r.1 in
    subst P made.2 (read.0, ap (λ bs. 2 ∷ bs) read.1)

stats_read : (bytes : List ℕ) (sum : BuiltinSum) (rest : List ℕ) → stats_in bytes ≡ Some (sum, rest) → IsRead (3 ∷ bytes) sum rest
stats_read bytes sum rest h =
    let read = stats_in-read bytes sum rest h in
    let P : BuiltinSum → Type 0 = λ s. IsRead (3 ∷ bytes) s rest in
    subst P (sym read.same) (read.fit, ap (λ bs. 3 ∷ bs) read.is)

word_read : (k : ℕ) (bytes : List ℕ) (word sum : BuiltinSum) (rest : List ℕ) → HasBytes word → sum_bytes word ≡ k ∷ [] → ◌≡◌ {A = Option (BuiltinSum × List ℕ)} (Some (word, bytes)) (Some (sum, rest)) → IsRead (k ∷ bytes) sum rest
word_read k bytes word sum rest fit spelled h =
    let same = some-pair (word, bytes) (sum, rest) h in
    let P : BuiltinSum → Type 0 = λ s. IsRead (k ∷ bytes) s rest in
    subst P same.0 (fit, ap (λ bs. k ∷ bs) same.1 ∙ ap (λ bs. bs ++ rest) (sym spelled))

kind_in-read : (kind : ℕ) (bytes : List ℕ) (sum : BuiltinSum) (rest : List ℕ) → kind_in kind bytes ≡ Some (sum, rest) → IsRead (kind ∷ bytes) sum rest
kind_in-read kind bytes sum rest h0 =
    by_test (kind == 0) _ _ (sum, rest) h0 (λ same found. of_kind kind 0 bytes sum rest same (count_read bytes sum rest found)) (λ h1.
    by_test (kind == 1) _ _ (sum, rest) h1 (λ same found. of_kind kind 1 bytes sum rest same (number_read bytes sum rest found)) (λ h2.
    by_test (kind == 2) _ _ (sum, rest) h2 (λ same found. of_kind kind 2 bytes sum rest same (numbers_read bytes sum rest found)) (λ h3.
    by_test (kind == 3) _ _ (sum, rest) h3 (λ same found. of_kind kind 3 bytes sum rest same (stats_read bytes sum rest found)) (λ h4.
    by_test (kind == 4) _ _ (sum, rest) h4 (λ same found. of_kind kind 4 bytes sum rest same (word_read 4 bytes value.Refused sum rest tt refl found)) (λ h5.
    by_test (kind == 5) _ _ (sum, rest) h5 (λ same found. of_kind kind 5 bytes sum rest same (word_read 5 bytes value.Overflow sum rest tt refl found)) (λ h6.
    absurd cc))))))

pub front_in-read : (bytes : List ℕ) (sum : BuiltinSum) (rest : List ℕ) → front_in bytes ≡ Some (sum, rest) → HasBytes sum × (bytes ≡ sum_bytes sum ++ rest)
front_in-read [] sum rest h = absurd cc
front_in-read (kind ∷ bytes) sum rest h = kind_in-read kind bytes sum rest h

alone_is : (sum found : BuiltinSum) (rest : List ℕ) → alone found rest ≡ Some sum → (found ≡ sum) × (rest ≡ [])
alone_is sum found [] h = (cc, refl)
alone_is sum found (byte ∷ rest) h = absurd cc

-- the value that was read
pub sum_in-read : (bytes : List ℕ) (sum : BuiltinSum) → sum_in bytes ≡ Some sum → HasBytes sum × (sum_bytes sum ≡ bytes)
sum_in-read bytes sum h =
    let made = then_some alone_of (front_in bytes) sum h in
    let ends = alone_is sum made.0.0 made.0.1 made.2 in
    let read = front_in-read bytes made.0.0 made.0.1 made.1 in
    let P : BuiltinSum → Type 0 = λ s. HasBytes s × (sum_bytes s ≡ bytes) in
    subst P ends.0 (read.0, sym (read.1 ∙ ap (λ r. sum_bytes made.0.0 ++ r) ends.1 ∙ append-nil (sum_bytes made.0.0)))

-- where none was read the bytes are those of none
pub sum_in-none : (bytes : List ℕ) (sum : BuiltinSum) → sum_in bytes ≡ None → HasBytes sum → sum_bytes sum ≢ bytes
sum_in-none bytes sum none fit same = let both : Some sum ≡ None = sym (sum_in-spelled sum fit) ∙ ap sum_in same ∙ none in absurd cc

-- ---- one more number of a list, and the list where it is read

pub numbers_from-next : (done : List ℤ) (k n : ℕ) (bytes : List ℕ) (z : ℤ) (rest : List ℕ) → k ≡ suc n → i128_in bytes ≡ Some (z, rest) → numbers_from done k bytes ≡ numbers_from (done ++ z ∷ []) n rest
numbers_from-next done k n bytes z rest more found = ap (λ m. numbers_from done m bytes) more ∙ ap (option_and_then (λ (r : ℤ × List ℕ). numbers_from (done ++ r.0 ∷ []) n r.1)) found

pub numbers_from-none : (done : List ℤ) (k n : ℕ) (bytes : List ℕ) → k ≡ suc n → i128_in bytes ≡ None → numbers_from done k bytes ≡ None
numbers_from-none done k n bytes more none = ap (λ m. numbers_from done m bytes) more ∙ ap (option_and_then (λ (r : ℤ × List ℕ). numbers_from (done ++ r.0 ∷ []) n r.1)) none

pub numbers_of_count-is : (count : ℕ) (bytes : List ℕ) (found : Option (List ℤ × List ℕ)) → count ≤ length bytes / 16 → numbers_from [] count bytes ≡ found → numbers_of_count count bytes ≡ found
numbers_of_count-is count bytes found room is = cond-true _ (numbers_from [] count bytes) None (le-leb count (length bytes / 16) room) ∙ is
