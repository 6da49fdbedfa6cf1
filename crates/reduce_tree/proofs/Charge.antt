-- Sums of what is charged.
use Rattle.std.proofs.Common.{◌≡◌, ◌⊎◌, inl, inr, ℕ, zero, suc, ◌-◌, ◌+◌, ◌*◌, ◌<◌, ◌≤◌, ◌==◌, Bool, true, false, refl, ap, ◌∙◌, arith}
use Rattle.std.proofs.lemmas.Bool.Decides.{nat_tests}
use Rattle.reduce_tree.specs.Charges.{slack, ready, pending, rounding}

pub slack_most : (top level n : ℕ) → slack top level n ≤ top - level
slack_most top level zero = omega arith
slack_most top level (suc n) = omega arith

pub slack_some : (top level n : ℕ) → 0 < n → slack top level n ≡ top - level
slack_some top level zero h = absurd (omega arith)
slack_some top level (suc n) h = refl

pub rounding_most : (n : ℕ) → rounding n ≤ 31
rounding_most zero = omega arith
rounding_most (suc n) = omega arith

pub rounding_some : (n : ℕ) → 0 < n → rounding n ≡ 31
rounding_some zero h = absurd (omega arith)
rounding_some (suc n) h = refl

pub pending_none : (low level n : ℕ) → n ≡ 0 → pending low level n ≡ 0
pending_none low level zero e = refl
pending_none low level (suc n) e = absurd (omega arith)

pub pending_ready : (low level n : ℕ) → ready low level n ≡ true → pending low level n ≡ 0
pending_ready low level n e = rw e refl

pub pending_not : (low level n : ℕ) → ready low level n ≡ false → pending low level n ≡ (low + 1) - level
pending_not low level n e = rw e refl

pub ready_put : (low level n : ℕ) → level ≡ low → 8 ≤ n → ready low level n ≡ true
ready_put low level n e h = grind (arith, nat_tests)

pub ready_least : (low level n : ℕ) → ready low level n ≡ true → 0 < n → 8 ≤ n
ready_least low level n e h = grind (arith, nat_tests)

pub ready_level : (low level n : ℕ) → ready low level n ≡ true → 0 < n → level ≡ low
ready_level low level n e h = grind (arith, nat_tests)

pub ready_some : (low level n : ℕ) → ready low level n ≡ false → 0 < n
ready_some low level zero e = absurd (cc)
ready_some low level (suc n) e = omega arith

-- a test is one of two
pub data Told (b : Bool) : Type 0 where
  yes : b ≡ true → Told b
  no : b ≡ false → Told b

pub told : (b : Bool) → Told b
told true = yes refl
told false = no refl

pub pending_within : (low level n : ℕ) → level ≤ low → pending low level n ≤ 1 + slack low level n
pending_within low level n h = elim (told (ready low level n)) [
  | yes e ↦ omega (arith, pending_ready low level n e)
  | no e ↦ omega (arith, pending_not low level n e, slack_some low level n (ready_some low level n e))
]

pub slack_within : (low level n : ℕ) → level ≤ low → slack low level n ≤ pending low level n
slack_within low level zero h = omega arith
slack_within low level (suc n) h = elim (told (ready low level (suc n))) [
  | yes e ↦ omega (arith, ready_level low level (suc n) e (omega arith))
  | no e ↦ omega (arith, pending_not low level (suc n) e)
]

pub product_parts : (k a b n : ℕ) → n ≡ a + b → k * n ≡ k * a + k * b
product_parts k a b n e = ap (λ x. k * x) e ∙ omega arith

product_least : (a b : ℕ) → 1 ≤ a → 1 ≤ b → a + b ≤ a * b + 1
product_least zero b p q = absurd (omega arith)
product_least (suc a) zero p q = absurd (omega arith)
product_least (suc a) (suc b) p q = let out : (suc a) * (suc b) ≡ a * b + a + b + 1 = omega arith in omega (arith, out)

-- the levels above the root's are charged once each
bound_sum : (low high e : ℕ) → 0 < e → low ≤ high → (d : ℕ) × (high + 1 ≡ low + d) × (1 ≤ d) × (e * (high + 1) ≡ low * e + e * d) × (e + d ≤ e * d + 1)
bound_sum low high e some le =
    let d = (high + 1) - low in
    let s : high + 1 ≡ low + d = omega arith in
    let one : 1 ≤ d = omega arith in
    let p : e * (high + 1) ≡ low * e + e * d = ap (λ x. e * x) s ∙ omega arith in
    (d, s, one, p, product_least e d some one)

pub some_by_test : (n : ℕ) (b : Bool) → b ≡ (n == 0) → b ≡ false → 0 < n
some_by_test n b e h = grind (arith, nat_tests)

-- ---- steps, of which a get or a put takes one: 31 for each, and 62 more for each get

pub steps_edited : (low e t0 t1 t2 t3 cl cn rl rn jl jn fn done : ℕ) → 0 < e → cl ≤ low → jl ≤ low → t1 ≡ t0 + 1 → fn ≤ 32
    → 31 * t2 + (rn + 93 * slack low rl rn) ≤ 31 * t1 + (fn + (e + 186 * (low * e)))
    → 31 * t3 + (jn + 93 * slack low jl jn) ≤ 31 * t2 + (cn + (rn + (93 * slack low cl cn + 93 * slack low rl rn)))
    → 31 * t3 + (done + (jn + (rounding jn + 93 * pending low jl jn))) ≤ 31 * t0 + (done + (1 + (cn + (rounding cn + (93 * pending low cl cn + (e + 186 * ((low + 1) * e)))))))
steps_edited low e t0 t1 t2 t3 cl cn rl rn jl jn fn done some c j a f b d =
    let out : (low + 1) * e ≡ low * e + e = omega arith in
    omega (arith, out, pending_within low jl jn j, slack_within low cl cn c, rounding_most jn)

pub steps_joined : (low e t0 t1 t2 t3 cl cn rl rn jl jn fn done : ℕ) → e ≡ 0 → cl ≤ low → t1 ≡ t0 + 1 → fn ≤ 32
    → 31 * t2 + (rn + 93 * slack low rl rn) ≤ 31 * t1 + (fn + (e + 186 * (low * e)))
    → 31 * t3 + (jn + 93 * slack low jl jn) ≤ 31 * t2 + (cn + (rn + (93 * slack low cl cn + 93 * slack low rl rn)))
    → ready low cl cn ≡ false → ready low jl jn ≡ true
    → 31 * t3 + (done + (jn + (rounding jn + 93 * pending low jl jn))) ≤ 31 * t0 + (done + (1 + (cn + (rounding cn + (93 * pending low cl cn + (e + 186 * ((low + 1) * e)))))))
steps_joined low e t0 t1 t2 t3 cl cn rl rn jl jn fn done none c a f b d n r =
    let out : low * e ≡ 0 = ap (λ x. low * x) none ∙ omega arith in
    let some = ready_some low cl cn n in
    omega (arith, out, rounding_most jn, rounding_some cn some, pending_ready low jl jn r, pending_not low cl cn n, slack_some low cl cn some)

-- a child that was fetched, and in which nothing changed
pub steps_kept : (low e t0 t1 t2 t3 cl cn rl rn fn done now l n : ℕ) → 0 < e → t1 ≡ t0 + 1 → fn ≤ 32 → n ≡ 0
    → 31 * t2 + (rn + 93 * slack low rl rn) ≤ 31 * t1 + (fn + (e + 186 * (low * e)))
    → 31 * t3 + now ≤ 31 * t2 + (done + (1 + (cn + rounding cn)))
    → 31 * t3 + (now + (n + (rounding n + 93 * pending low l n))) ≤ 31 * t0 + (done + (1 + (cn + (rounding cn + (93 * pending low cl cn + (e + 186 * ((low + 1) * e)))))))
steps_kept low e t0 t1 t2 t3 cl cn rl rn fn done now l n some a f z b d =
    let out : (low + 1) * e ≡ low * e + e = omega arith in
    omega (arith, out, pending_none low l n z, ap rounding z)

pub steps_step : (k t0 t t1 done now rest0 rest cn nn rc rn pc pn children e own others left : ℕ) → left ≡ own + others → rest0 ≡ suc rest
    → 31 * t + (done + (rest0 + (cn + (rc + (93 * pc + (left + 186 * (k * left))))))) ≤ 31 * t0 + (children + (e + 186 * (k * e)))
    → 31 * t1 + (now + (nn + (rn + 93 * pn))) ≤ 31 * t + (done + (1 + (cn + (rc + (93 * pc + (own + 186 * (k * own)))))))
    → 31 * t1 + (now + (rest + (nn + (rn + (93 * pn + (others + 186 * (k * others))))))) ≤ 31 * t0 + (children + (e + 186 * (k * e)))
steps_step k t0 t t1 done now rest0 rest cn nn rc rn pc pn children e own others left l r a b = omega (arith, product_parts k own others left l)

-- a child is fetched where it has edits, or where the entries carried can't be put yet
pub paid : (low e cl cn : ℕ) → cl ≤ low → (0 < e) ⊎ (ready low cl cn ≡ false) → 63 + (93 * slack low cl cn + 186 * (low * e)) ≤ 93 * pending low cl cn + 186 * ((low + 1) * e)
paid low e cl cn c (inl some) = let out : (low + 1) * e ≡ low * e + e = omega arith in omega (arith, out, slack_within low cl cn c)
paid low e cl cn c (inr n) =
    let out : (low + 1) * e ≡ low * e + e = omega arith in
    omega (arith, out, pending_not low cl cn n, slack_some low cl cn (ready_some low cl cn n))

-- an edit of a child gave up
pub steps_fault : (k t0 t t1 done rest0 rest cn rc pc children e own others left : ℕ) → left ≡ own + others → rest0 ≡ suc rest
    → 31 * t + (done + (rest0 + (cn + (rc + (93 * pc + (left + 186 * (k * left))))))) ≤ 31 * t0 + (children + (e + 186 * (k * e)))
    → 31 * t1 ≤ 31 * t + (done + (1 + (cn + (rc + (93 * pc + (own + 186 * (k * own)))))))
    → 31 * t1 ≤ 31 * t0 + (children + (e + 186 * (k * e)))
steps_fault k t0 t t1 done rest0 rest cn rc pc children e own others left l r a b = omega (arith, product_parts k own others left l)

-- the bounds: low is the root's level, high the greater height
all_counts : (low high h e r n x y z s d t0 t1 t2 p0 p1 p2 : ℕ) → 0 < e → low ≤ high → h ≤ high → r ≤ low → (n ≡ 0 → h ≡ 0) → (0 < n → s ≡ low - r)
    → high + 1 ≡ low + d → 1 ≤ d → z ≡ x + y → e + d ≤ y + 1
    → 31 * t1 + (n + 93 * s) ≤ 31 * t0 + (63 + (e + 186 * x)) → 93 * p1 + (n + 62 * t0) ≤ 93 * p0 + (62 * t1 + (32 + e))
    → 31 * t2 ≤ 31 * t1 + (n + 31 * (h - r)) → 93 * p2 + 62 * t1 ≤ 93 * p1 + (62 * t2 + (n + 31 * (h - r)))
    → (t2 ≤ t0 + 8 * z) × (p2 ≤ p0 + 4 * z)
all_counts low high h e r zero x y z s d t0 t1 t2 p0 p1 p2 some le hh rl empty sl hd one zs yl a b q v = let none = empty refl in (omega arith, omega arith)
all_counts low high h e r (suc n) x y z s d t0 t1 t2 p0 p1 p2 some le hh rl empty sl hd one zs yl a b q v = let same = sl (omega arith) in (omega arith, omega arith)

pub all_bounds : (low high h e r n t0 t1 t2 p0 p1 p2 : ℕ) → 0 < e → low ≤ high → h ≤ high → r ≤ low → (n ≡ 0 → h ≡ 0)
    → 31 * t1 + (n + 93 * slack low r n) ≤ 31 * t0 + (63 + (e + 186 * (low * e))) → 93 * p1 + (n + 62 * t0) ≤ 93 * p0 + (62 * t1 + (32 + e))
    → 31 * t2 ≤ 31 * t1 + (n + 31 * (h - r)) → 93 * p2 + 62 * t1 ≤ 93 * p1 + (62 * t2 + (n + 31 * (h - r)))
    → (t2 ≤ t0 + e * (8 * (high + 1))) × (p2 ≤ p0 + e * (4 * (high + 1)))
all_bounds low high h e r n t0 t1 t2 p0 p1 p2 some le hh rl empty a b q v =
    let w = bound_sum low high e some le in
    let w3 = w.3 in
    let w4 = w.4 in
    let s : (0 < n → slack low r n ≡ low - r) = slack_some low r n in
    let k = all_counts low high h e r n (low * e) (e * w.0) (e * (high + 1)) (slack low r n) w.0 t0 t1 t2 p0 p1 p2 some le hh rl empty s w.1 w.2 w3 w4 a b q v in
    let out8 : e * (8 * (high + 1)) ≡ 8 * (e * (high + 1)) = omega arith in
    let out4 : e * (4 * (high + 1)) ≡ 4 * (e * (high + 1)) = omega arith in
    (omega (arith, out8, k.0), omega (arith, out4, k.1))

-- where nothing changed: r is the row, of which nothing is put
pub few_steps : (low high e t0 t1 n s : ℕ) → 0 < e → low ≤ high → 31 * t1 + (n + 93 * s) ≤ 31 * t0 + (63 + (e + 186 * (low * e))) → t1 ≤ t0 + e * (8 * (high + 1))
few_steps low high e t0 t1 n s some le a =
    let w = bound_sum low high e some le in
    let w3 = w.3 in
    let w4 = w.4 in
    let out8 : e * (8 * (high + 1)) ≡ 8 * (e * (high + 1)) = omega arith in
    omega (arith, out8, w3, w4, w.2)

pub few_puts : (low high e t0 t1 n s p0 p1 : ℕ) → 0 < e → low ≤ high → 31 * t1 + (n + 93 * s) ≤ 31 * t0 + (63 + (e + 186 * (low * e))) → 93 * p1 + (n + 62 * t0) ≤ 93 * p0 + (62 * t1 + (32 + e)) → p1 ≤ p0 + e * (4 * (high + 1))
few_puts low high e t0 t1 n s p0 p1 some le a b =
    let w = bound_sum low high e some le in
    let w3 = w.3 in
    let w4 = w.4 in
    let out4 : e * (4 * (high + 1)) ≡ 4 * (e * (high + 1)) = omega arith in
    omega (arith, out4, w3, w4, w.2)

-- the bounds by a height that is enough for all items, whatever is answered
pub top_bounds : (low high e r n t0 t1 t2 p0 p1 p2 : ℕ) → 0 < e → low ≤ high → r ≤ low
    → 31 * t1 + (n + 93 * slack low r n) ≤ 31 * t0 + (63 + (e + 186 * (low * e))) → 93 * p1 + (n + 62 * t0) ≤ 93 * p0 + (62 * t1 + (32 + e))
    → 31 * t2 ≤ 31 * t1 + (n + 31 * slack high r n) → 93 * p2 + 62 * t1 ≤ 93 * p1 + (62 * t2 + (n + 31 * slack high r n))
    → (t2 ≤ t0 + e * (8 * (high + 1))) × (p2 ≤ p0 + e * (4 * (high + 1)))
top_bounds low high e r zero t0 t1 t2 p0 p1 p2 some le rl a b q v = all_bounds low high 0 e r zero t0 t1 t2 p0 p1 p2 some le (omega arith) rl (λ z. refl) a b (omega (arith, q)) (omega (arith, v))
top_bounds low high e r (suc n) t0 t1 t2 p0 p1 p2 some le rl a b q v = all_bounds low high high e r (suc n) t0 t1 t2 p0 p1 p2 some le (omega arith) rl (λ z. absurd (omega (arith, z))) a b q v

-- the root's edit gave up
pub fault_bounds : (low high e t0 t1 p0 p1 : ℕ) → 0 < e → low ≤ high → 31 * t1 ≤ 31 * t0 + (63 + (e + 186 * (low * e))) → 93 * p1 + 62 * t0 ≤ 93 * p0 + (62 * t1 + (32 + e))
    → (t1 ≤ t0 + e * (8 * (high + 1))) × (p1 ≤ p0 + e * (4 * (high + 1)))
fault_bounds low high e t0 t1 p0 p1 some le a b = (few_steps low high e t0 t1 0 0 some le (omega (arith, a)), few_puts low high e t0 t1 0 0 p0 p1 some le (omega (arith, a)) (omega (arith, b)))
