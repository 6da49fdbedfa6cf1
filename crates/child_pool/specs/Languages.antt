-- The languages of design documents, and the paths by which their query servers are started.
use Rattle.std.specs.Prelude.{◌==◌, ◌&&◌, ℕ, List, length, nat_lt, codes, bytes_eq, Bool, Option, Some, None, if◌then◌else◌}
use Rattle.std.specs.List.{after_first, before_first, filter_map, position_or_len}
use Rattle.std.specs.Map.{lookup}

abbrev pub is_equals : ℕ → Bool
is_equals byte = byte == 61

-- a word LANG=PATH is cut at its first `=`; the language isn't empty
abbrev pub language_in : List ℕ → Option (List ℕ × List ℕ)
language_in word =
    if nat_lt (position_or_len is_equals word) (length word) && nat_lt 0 (length (before_first is_equals word))
    then Some (before_first is_equals word, after_first is_equals word)
    else None

-- the languages that words name, with their paths
abbrev pub languages_in : List (List ℕ) → List (List ℕ × List ℕ)
languages_in words = filter_map language_in words

-- the path of a server in the process
abbrev pub built_in : List ℕ → Option (List ℕ)
built_in language =
    if bytes_eq language (codes "field") then Some (codes "builtin:field")
    else if bytes_eq language (codes "pick") then Some (codes "builtin:pick")
    else None

abbrev pub or_built_in : List ℕ → Option (List ℕ) → Option (List ℕ)
or_built_in language (Some path) = Some path
or_built_in language None = built_in language

-- the path of a language: that which a word names, or else that of the server in the process
abbrev pub path_in : List (List ℕ × List ℕ) → List ℕ → Option (List ℕ)
path_in languages language = or_built_in language (lookup (λ name. bytes_eq name language) languages)
