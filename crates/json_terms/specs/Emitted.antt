-- An emission of a map function, as its key and its value.
use Rattle.json_terms.specs.Json.{Json}
use Rattle.json_terms.specs.Seen.{json}
use Rattle.json_terms.specs.declared.rows.Emission.{Emission}

abbrev pub key_value : Emission → Json × Json
key_value emission = (json emission.key, json emission.value)
