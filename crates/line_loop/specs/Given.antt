-- What a responder is given of a line.
use Rattle.std.specs.Prelude.{◌≡◌, ℕ, List}
use Rattle.view_ports.specs.Lines.{kept}

-- it holds of the line of which this is given, whatever the line is
abbrev pub OfLine : ℕ → List ℕ → (List ℕ → Type 0) → Type 0
OfLine limit given Holds = (line : List ℕ) → given ≡ kept limit line → Holds line
