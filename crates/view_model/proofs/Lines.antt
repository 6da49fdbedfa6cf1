-- Texts without a newline, piece by piece.
use Rattle.std.proofs.Common.{◌≡◌, ◌≢◌, ◌==◌, ◌&&◌, ◌++◌, ℕ, List, [], ◌∷◌, Bool, true, false, not, refl}
use Rattle.std.proofs.lemmas.Bool.{and_parts, eqb-false}
use Rattle.std.proofs.lemmas.List.Elements.{All-nil, All-cons, All-append}
use Rattle.view_ports.specs.Lines.{IsLine}

abbrev pub Other : ℕ → Type 0
Other byte = byte ≢ 10

abbrev pub is_line : List ℕ → Bool
is_line [] = true
is_line (x ∷ xs) = not (x == 10) && is_line xs

is_other : (x : ℕ) (b : Bool) → (x == 10) ≡ b → not b ≡ true → Other x
is_other x true e h = cc
is_other x false e h = eqb-false x 10 e

-- bytes that are written out
pub line : (xs : List ℕ) → is_line xs ≡ true → IsLine xs
line [] e = All-nil Other
line (x ∷ xs) e = let p = and_parts _ _ e in All-cons Other x xs (is_other x (x == 10) refl p.0) (line xs p.1)

pub joined : (xs ys : List ℕ) → IsLine xs → IsLine ys → IsLine (xs ++ ys)
joined xs ys first second = All-append Other xs ys first second

-- pieces one after another
pub lines3 : (a b c : List ℕ) → IsLine a → IsLine b → IsLine c → IsLine (a ++ b ++ c)
lines3 a b c la lb lc = joined (a ++ b) c (joined a b la lb) lc

pub lines5 : (a b c d e : List ℕ) → IsLine a → IsLine b → IsLine c → IsLine d → IsLine e → IsLine (a ++ b ++ c ++ d ++ e)
lines5 a b c d e la lb lc ld le = joined (a ++ b ++ c ++ d) e (joined (a ++ b ++ c) d (lines3 a b c la lb lc) ld) le

pub lines7 : (a b c d e f g : List ℕ) → IsLine a → IsLine b → IsLine c → IsLine d → IsLine e → IsLine f → IsLine g → IsLine (a ++ b ++ c ++ d ++ e ++ f ++ g)
lines7 a b c d e f g la lb lc ld le lf lg = joined (a ++ b ++ c ++ d ++ e ++ f) g (joined (a ++ b ++ c ++ d ++ e) f (lines5 a b c d e la lb lc ld le) lf) lg

pub lines9 : (a b c d e f g h i : List ℕ) → IsLine a → IsLine b → IsLine c → IsLine d → IsLine e → IsLine f → IsLine g → IsLine h → IsLine i
    → IsLine (a ++ b ++ c ++ d ++ e ++ f ++ g ++ h ++ i)
lines9 a b c d e f g h i la lb lc ld le lf lg lh li =
    joined (a ++ b ++ c ++ d ++ e ++ f ++ g ++ h) i (joined (a ++ b ++ c ++ d ++ e ++ f ++ g) h (lines7 a b c d e f g la lb lc ld le lf lg) lh) li
