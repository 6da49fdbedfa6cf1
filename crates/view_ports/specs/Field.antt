-- The language `field`: a map function is the name of a member, and emits the member's value. No reduce function compiles.
use Rattle.std.specs.Prelude.{ℕ, List, [], ◌∷◌, Bool, true, false, refl}
use Rattle.json_terms.specs.Json.{is_null}
use Rattle.view_ports.specs.Functions.{Functions}
use Rattle.view_ports.specs.FieldBounds.{null_is_bounded, field_maps_are_proper}
use Rattle.view_ports.specs.FieldRows.{field_map}

-- a source is a member's name that isn't empty
abbrev pub is_member_name : List ℕ → Bool
is_member_name [] = false
is_member_name (byte ∷ bytes) = true

-- the functions of the language
abbrev pub field : Functions
field = record {
  compiles = is_member_name;
  map_of = field_map;
  reduce_compiles = λ source. false;
  reduce_of = λ source rows. is_null;
  rereduce_of = λ source values. is_null;
  rejoins = λ source parts some each. refl;
  proper_maps = field_maps_are_proper;
  proper_reduces = λ source rows some within. null_is_bounded;
  proper_rereduces = λ source values some within. null_is_bounded;
}
