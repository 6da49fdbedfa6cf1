-- Lines that were read, the texts that were written for them, and what they led to.
use Rattle.std.specs.Prelude.{◌≡◌, ℕ, List, [], ◌∷◌, ◌++◌, map}
use Rattle.std.specs.List.{flat_map}

-- a request line without its newline, and what was written for it: a reply with its newline, or nothing for an empty line
pub record Exchange : Type 0 where
  pub line : List ℕ
  pub text : List ℕ

abbrev pub lines_of : List Exchange → List (List ℕ)
lines_of exchanges = map (λ e. e.line) exchanges

-- all that was written, in order
abbrev pub text_of : List Exchange → List ℕ
text_of exchanges = flat_map (λ e. e.text) exchanges

-- the exchanges are steps, one after the other, from the state before to the state after
abbrev pub LeadsTo : {W : Type 0} → (W → Exchange → W → Type 0) → W → List Exchange → W → Type 0
LeadsTo step before [] after = after ≡ before
LeadsTo {W} step before (e ∷ es) after = (mid : W) × step before e mid × LeadsTo step mid es after

-- `whole` begins with `part`
abbrev pub IsPrefixOf : {A : Type 0} → List A → List A → Type 0
IsPrefixOf {A} part whole = (rest : List A) × (whole ≡ part ++ rest)
