-- The parameters of a query, as in the table of CouchDB's view API: their names, and which values each may have.
use Rattle.std.specs.Prelude.{ℕ, pos, List, [], ◌∷◌, ◌++◌, Bool, true, false, nat_le, bytes_eq, codes, if◌then◌else◌, Option, Some, None, is_some, option_and_then}
use Rattle.std.specs.Map.{lookup}
use Rattle.json_terms.specs.Json.{Json, number, is_false, is_true, array, string}
use Rattle.query_args.specs.declared.query.Target.{Target}
use Rattle.query_args.specs.declared.query.Target.TheVariants.{AllDocs, View, Cursor}
use Rattle.query_args.specs.declared.parameters.Kind.{Kind}
use Rattle.query_args.specs.declared.parameters.Kind.TheVariants as kind

-- ---- the table: names, each with the kind of its values, in byte order of the names

-- any list of rows has these
abbrev pub list_parameters : List (List ℕ × Kind)
list_parameters =
    (codes "descending", kind.Switch) ∷ (codes "endkey", kind.Any) ∷ (codes "inclusive_end", kind.Switch) ∷ (codes "key", kind.Any)
    ∷ (codes "limit", kind.Count) ∷ (codes "skip", kind.Count) ∷ (codes "startkey", kind.Any) ∷ []

-- that of a view has these beside them
abbrev pub view_parameters : List (List ℕ × Kind)
view_parameters =
    (codes "endkey_docid", kind.Text) ∷ (codes "group", kind.Switch) ∷ (codes "group_level", kind.Level) ∷ (codes "keys", kind.List)
    ∷ (codes "reduce", kind.Switch) ∷ (codes "startkey_docid", kind.Text) ∷ (codes "update", kind.Switch) ∷ (codes "update_seq", kind.Switch) ∷ []

-- the kind that a table has for a name
abbrev pub kind_in : List (List ℕ × Kind) → List ℕ → Option Kind
kind_in table name = lookup (λ known. bytes_eq name known) table

abbrev pub kind_of : List ℕ → Option Kind
kind_of name = kind_in (list_parameters ++ view_parameters) name

abbrev pub is_list_name : List ℕ → Bool
is_list_name name = is_some (kind_in list_parameters name)

-- a list of all documents is asked with the first ones, and a view with all
abbrev pub is_allowed : Target → List ℕ → Bool
is_allowed AllDocs name = is_list_name name
is_allowed (View reduces) name = is_some (kind_of name)
is_allowed (Cursor reduces) name = is_some (kind_of name)

-- ---- values

abbrev pub is_text : Json → Bool
is_text (string s) = true
is_text other = false

abbrev pub is_list : Json → Bool
is_list (array ts) = true
is_list other = false

abbrev pub is_switch : Json → Bool
is_switch is_true = true
is_switch is_false = true
is_switch other = false

-- a whole number, 0 or more
abbrev pub count_in : Json → Option ℕ
count_in (number (pos n)) = Some n
count_in other = None

-- the greatest level of a group
abbrev pub level_limit : ℕ
level_limit = 1000

-- a level of groups, which is such a number, and not too great
abbrev pub level_from : ℕ → Option ℕ
level_from n = if nat_le n level_limit then Some n else None

abbrev pub level_in : Json → Option ℕ
level_in value = option_and_then level_from (count_in value)

-- a value is of a kind
abbrev pub is_of : Kind → Json → Bool
is_of kind.Any value = true
is_of kind.List value = is_list value
is_of kind.Text value = is_text value
is_of kind.Count value = is_some (count_in value)
is_of kind.Level value = is_some (level_in value)
is_of kind.Switch value = is_switch value

abbrev pub fits : Option Kind → Json → Bool
fits (Some kind) value = is_of kind value
fits None value = false

-- the value is one that the parameter with this name may have: it is of the kind that the table has for the name
abbrev pub may_have : List ℕ → Json → Bool
may_have name value = fits (kind_of name) value
