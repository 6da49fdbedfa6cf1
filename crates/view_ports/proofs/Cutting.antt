-- A cut at newlines, as more bytes come, and that there is only one.
use Rattle.std.proofs.Common.{◌≡◌, ◌≢◌, ℕ, List, [], ◌∷◌, ◌++◌, All, refl, sym, ap, ◌∙◌, subst, append_assoc, append-nil, inl, inr}
use Rattle.std.specs.List.{flat_map}
use Rattle.std.proofs.lemmas.Bool.Decides.{eqb_tells}
use Rattle.std.proofs.lemmas.List.{flat_map_more}
use Rattle.std.proofs.lemmas.List.Elements.{All-nil, All-cons, All-head, All-tail, All-append, All-push}
use Rattle.view_ports.specs.Lines.{newline, IsLine, ended, IsCut, last_line}

abbrev IsPlain : ℕ → Type 0
IsPlain byte = byte ≢ newline

pub IsLine-nil : IsLine []
IsLine-nil = All-nil IsPlain

pub IsLine-append : (xs ys : List ℕ) → IsLine xs → IsLine ys → IsLine (xs ++ ys)
IsLine-append xs ys first second = All-append IsPlain xs ys first second

pub IsLine-one : (byte : ℕ) → byte ≢ newline → IsLine (byte ∷ [])
IsLine-one byte plain = All-cons IsPlain byte [] plain IsLine-nil

pub IsCut-nil : IsCut [] [] []
IsCut-nil = record { joined = refl; whole = All-nil IsLine; unended = IsLine-nil }

pub IsCut-same : (bytes bytes' : List ℕ) (lines lines' : List (List ℕ)) (rest : List ℕ) → bytes ≡ bytes' → lines ≡ lines' → IsCut bytes lines rest → IsCut bytes' lines' rest
IsCut-same bytes bytes' lines lines' rest same_bytes same_lines cut =
    subst (λ ls. IsCut bytes' ls rest) same_lines (subst (λ bs. IsCut bs lines rest) same_bytes cut)

-- bytes without a newline go to the rest
pub IsCut-more : (bytes more : List ℕ) (lines : List (List ℕ)) (rest : List ℕ) → IsCut bytes lines rest → IsLine more → IsCut (bytes ++ more) lines (rest ++ more)
IsCut-more bytes more lines rest cut plain = record {
  joined = ap (λ xs. xs ++ more) cut.joined ∙ append_assoc (flat_map ended lines) rest more;
  whole = cut.whole;
  unended = IsLine-append rest more cut.unended plain;
}

-- a newline makes a line of the rest
pub IsCut-newline : (bytes : List ℕ) (lines : List (List ℕ)) (rest : List ℕ) → IsCut bytes lines rest → IsCut (ended bytes) (lines ++ rest ∷ []) []
IsCut-newline bytes lines rest cut = record {
  joined =
      ap (λ xs. xs ++ newline ∷ []) cut.joined ∙ append_assoc (flat_map ended lines) rest (newline ∷ []) ∙
      flat_map_more ended [] lines rest ∙ sym (append-nil (flat_map ended (lines ++ rest ∷ [])));
  whole = All-push IsLine lines rest cut.whole cut.unended;
  unended = IsLine-nil;
}

-- some cut of longer bytes that begins with the same lines
abbrev Longer : List ℕ → List (List ℕ) → Type 0
Longer bytes lines = (added : List (List ℕ)) × (left : List ℕ) × IsCut bytes (lines ++ added) left

-- however the bytes go on, the lines that ended in them stay the first
pub IsCut-extended : (more bytes : List ℕ) (lines : List (List ℕ)) (rest : List ℕ) → IsCut bytes lines rest → (added : List (List ℕ)) × (left : List ℕ) × IsCut (bytes ++ more) (lines ++ added) left
IsCut-extended [] bytes lines rest cut =
    ([], rest, IsCut-same _ _ _ _ _ (sym (append-nil bytes)) (sym (append-nil lines)) cut)
IsCut-extended (byte ∷ more) bytes lines rest cut =
    let at_newline : IsCut (bytes ++ byte ∷ []) (lines ++ rest ∷ []) [] → Longer (bytes ++ byte ∷ more) lines =
    λ next.
    let longer = IsCut-extended more (bytes ++ byte ∷ []) (lines ++ rest ∷ []) [] next in
    (rest ∷ longer.0, longer.1, IsCut-same _ _ _ _ _ (append_assoc bytes (byte ∷ []) more) (append_assoc lines (rest ∷ []) longer.0) longer.2) in
    let at_other : IsCut (bytes ++ byte ∷ []) lines (rest ++ byte ∷ []) → Longer (bytes ++ byte ∷ more) lines =
    λ next.
    let longer = IsCut-extended more (bytes ++ byte ∷ []) lines (rest ++ byte ∷ []) next in
    (longer.0, longer.1, IsCut-same _ _ _ _ _ (append_assoc bytes (byte ∷ []) more) refl longer.2) in
    elim (eqb_tells byte newline) [
      | inl same ↦ at_newline (IsCut-same _ _ _ _ _ (ap (λ b. bytes ++ b ∷ []) (sym same.1)) refl (IsCut-newline bytes lines rest cut))
      | inr other ↦ at_other (IsCut-more bytes (byte ∷ []) lines rest cut (IsLine-one byte other.1))
    ]

-- any bytes have a cut
pub IsCut-some : (bytes : List ℕ) → (lines : List (List ℕ)) × (rest : List ℕ) × IsCut bytes lines rest
IsCut-some bytes = IsCut-extended bytes [] [] [] IsCut-nil

-- what stands after the last newline is the last line, where something stands there
pub last_line-some : (rest : List ℕ) → rest ≢ [] → last_line rest ≡ rest ∷ []
last_line-some [] some = absurd (some refl)
last_line-some (byte ∷ bytes) some = refl

-- a line ends at the first newline
first_line : (line line' bytes bytes' : List ℕ) → IsLine line → IsLine line' → line ++ newline ∷ bytes ≡ line' ++ newline ∷ bytes' → (line ≡ line') × (bytes ≡ bytes')
first_line [] [] bytes bytes' plain plain' same = (refl, cc)
first_line [] (b ∷ line') bytes bytes' plain plain' same = absurd (All-head IsPlain b line' plain' (cc))
first_line (a ∷ line) [] bytes bytes' plain plain' same = absurd (All-head IsPlain a line plain (cc))
first_line (a ∷ line) (b ∷ line') bytes bytes' plain plain' same =
    let tails : line ++ newline ∷ bytes ≡ line' ++ newline ∷ bytes' = cc in
    let heads : a ≡ b = cc in
    let later = first_line line line' bytes bytes' (All-tail IsPlain a line plain) (All-tail IsPlain b line' plain') tails in
    let first = later.0 in
    (cc, later.1)

-- a line has no newline inside
no_newline : (line bytes : List ℕ) → IsLine (line ++ newline ∷ bytes) → ⊥
no_newline [] bytes plain = All-head IsPlain newline bytes plain refl
no_newline (b ∷ line) bytes plain = no_newline line bytes (All-tail IsPlain b (line ++ newline ∷ bytes) plain)

-- the bytes of some lines and a rest, from the first newline on
first_ended : (line : List ℕ) (lines : List (List ℕ)) (rest : List ℕ) → flat_map ended (line ∷ lines) ++ rest ≡ line ++ newline ∷ (flat_map ended lines ++ rest)
first_ended line lines rest =
    ap (λ xs. xs ++ rest) (append_assoc line (newline ∷ []) (flat_map ended lines)) ∙ append_assoc line (newline ∷ flat_map ended lines) rest

joined_once : (lines lines' : List (List ℕ)) (rest rest' : List ℕ) → All IsLine lines → All IsLine lines' → IsLine rest → IsLine rest'
    → flat_map ended lines ++ rest ≡ flat_map ended lines' ++ rest' → (lines ≡ lines') × (rest ≡ rest')
joined_once [] [] rest rest' plain plain' end end' same = (refl, same)
joined_once [] (b ∷ lines') rest rest' plain plain' end end' same =
    absurd (no_newline b (flat_map ended lines' ++ rest') (subst IsLine (same ∙ first_ended b lines' rest') end))
joined_once (a ∷ lines) [] rest rest' plain plain' end end' same =
    absurd (no_newline a (flat_map ended lines ++ rest) (subst IsLine (sym same ∙ first_ended a lines rest) end'))
joined_once (a ∷ lines) (b ∷ lines') rest rest' plain plain' end end' same =
    let first = first_line a b (flat_map ended lines ++ rest) (flat_map ended lines' ++ rest') (All-head IsLine a lines plain) (All-head IsLine b lines' plain')
    (sym (first_ended a lines rest) ∙ same ∙ first_ended b lines' rest') in
    let later = joined_once lines lines' rest rest' (All-tail IsLine a lines plain) (All-tail IsLine b lines' plain') end end' first.1 in
    let head : a ≡ b = first.0 in
    let tail : lines ≡ lines' = later.0 in
    (cc, later.1)

-- bytes are cut in one way
pub IsCut-unique : (bytes : List ℕ) (lines lines' : List (List ℕ)) (rest rest' : List ℕ) → IsCut bytes lines rest → IsCut bytes lines' rest' → (lines ≡ lines') × (rest ≡ rest')
IsCut-unique bytes lines lines' rest rest' cut cut' =
    joined_once lines lines' rest rest' cut.whole cut'.whole cut.unended cut'.unended (sym cut.joined ∙ cut'.joined)
