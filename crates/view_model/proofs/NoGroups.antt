-- Of no rows no group is picked.
use Rattle.std.specs.Prelude.{◌≡◌, ℕ, List, [], ◌∷◌, filter, reverse, Bool, true, false, if◌then◌else◌, Option, Some, None}
use Rattle.std.specs.List.{flat_map}
use Rattle.std.proofs.Common.{refl, ap, ◌∙◌}
use Rattle.std.proofs.Math.Seq.{drop-nil, take-nil}
use Rattle.json_terms.specs.Json.{Json}
use Rattle.json_terms.specs.declared.term.Row.{Row}
use Rattle.query_args.specs.declared.query.Query.{Query}
use Rattle.view_model.specs.Groups.{listed_or_runs, one_group, picked_groups}
use Rattle.view_model.specs.Selection.{has_key, limited, page}

no_keys : (keys : List Json) → flat_map (λ key. one_group (filter (has_key key) [])) keys ≡ []
no_keys [] = refl
no_keys (key ∷ keys) = no_keys keys

none_reversed : (backwards : Bool) → (if backwards then reverse {A = List Row} [] else []) ≡ []
none_reversed true = refl
none_reversed false = refl

none_of : (keys : Option (List Json)) (query : Query) → listed_or_runs keys query [] ≡ []
none_of (Some keys) query = no_keys keys
none_of None query = none_reversed query.descending

none_limited : (limit : Option ℕ) → limited {A = List Row} limit [] ≡ []
none_limited None = refl
none_limited (Some limit) = take-nil limit

pub none_picked : (query : Query) (rows : List Row) → rows ≡ [] → picked_groups query rows ≡ []
none_picked query rows none =
    ap (picked_groups query) none ∙ ap (page query) (none_of query.keys query) ∙ ap (limited query.limit) (drop-nil query.skip) ∙ none_limited query.limit
