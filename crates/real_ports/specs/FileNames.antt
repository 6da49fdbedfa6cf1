-- The names of the files of a database folder as text.
use Rattle.std.specs.Prelude.{◌≡◌, ◌⊎◌, ℕ, ◌≤◌, List, ◌++◌, length, Bool, true, false, EachIndex, slice_index, codes}
use Rattle.view_ports.specs.declared.file_name.Stem.{Stem}
use Rattle.view_ports.specs.declared.file_name.Stem.TheVariants.{Docs, View}
use Rattle.view_ports.specs.declared.file_name.FileName.{FileName}

abbrev pub stem_text : Stem → List ℕ
stem_text Docs = codes "docs"
stem_text (View digits) = digits

abbrev pub side_text : Bool → List ℕ
side_text false = codes ".0"
side_text true = codes ".1"

-- `docs.0` and `docs.1`, and for a signature its digits with `.0` or `.1`
abbrev pub file_text : FileName → List ℕ
file_text name = stem_text name.stem ++ side_text name.side

-- `0` to `9` and `a` to `f`
abbrev pub IsHexDigit : ℕ → Type 0
IsHexDigit c = ((48 ≤ c) × (c ≤ 57)) ⊎ ((97 ≤ c) × (c ≤ 102))

-- a signature is 32 lowercase hexadecimal digits
abbrev pub IsStem : Stem → Type 0
IsStem Docs = Unit {0}
IsStem (View digits) = (length digits ≡ 32) × EachIndex digits (λ k. IsHexDigit (slice_index digits k))

-- a file may have the name
abbrev pub IsFileName : FileName → Type 0
IsFileName name = IsStem name.stem
