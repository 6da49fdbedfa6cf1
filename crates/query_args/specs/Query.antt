-- What a query asks for, where it isn't refused.
use Rattle.std.specs.Prelude.{ℕ, List, Bool, true, not, ◌||◌, nat_eq, codes, if◌then◌else◌, Option, Some, None, option_and_then, option_map, unwrap_or}
use Rattle.json_terms.specs.Json.{Json, list_of_items}
use Rattle.json_terms.specs.Find.{member_of}
use Rattle.json_terms.specs.Kinds.{text_in, items_in}
use Rattle.json_terms.specs.Seen.{term}
use Rattle.query_args.specs.declared.query.Target.{Target}
use Rattle.raw_collation.specs.declared.group.Level.{Level}
use Rattle.raw_collation.specs.declared.group.Level.TheVariants.{All, First, Whole}
use Rattle.query_args.specs.declared.query.Edge.{Edge}
use Rattle.query_args.specs.declared.query.Query.{Query}
use Rattle.query_args.specs.Parameters.{count_in}
use Rattle.query_args.specs.Faults.{is_reduced, is_true_given, is_false_given, is_whole, level_of}

-- one key is a start and an end at once
abbrev pub key_or : Option Json → Option Json → Option Json
key_or (Some key) bound = Some key
key_or None bound = bound

-- an end at this key, where there is one
abbrev pub edge_at : Option Json → Option (List ℕ) → Bool → Option Edge
edge_at None id inclusive = None
edge_at (Some key) id inclusive = Some (record { key = term key; id = id; inclusive = inclusive })

-- the id that a parameter names
abbrev pub id_of : List ℕ → Json → Option (List ℕ)
id_of name query = option_and_then text_in (member_of name query)

-- an id without a key has no effect, since it is looked at among the rows of the end's key alone
abbrev pub start_of : Json → Option Edge
start_of query = edge_at (key_or (member_of (codes "key") query) (member_of (codes "startkey") query)) (id_of (codes "startkey_docid") query) true

abbrev pub end_of : Json → Option Edge
end_of query =
    edge_at (key_or (member_of (codes "key") query) (member_of (codes "endkey") query)) (id_of (codes "endkey_docid") query)
    (not (is_false_given (member_of (codes "inclusive_end") query)))

abbrev pub keys_of : Json → Option (List Json)
keys_of query = option_map list_of_items (option_and_then items_in (member_of (codes "keys") query))

abbrev pub count_of : List ℕ → Json → Option ℕ
count_of name query = option_and_then count_in (member_of name query)

-- by the whole key where `group` is true, which wins over a level
abbrev pub grouping_of : Json → Level
grouping_of query = if is_whole query then Whole else if nat_eq (level_of query) 0 then All else First (level_of query)

abbrev pub is_updated : Json → Bool
is_updated query = not (is_false_given (member_of (codes "update") query))

-- the sequence is printed where it is asked for, and where the index is read as it stands
abbrev pub shows_seq : Json → Bool
shows_seq query = not (is_updated query) || is_true_given (member_of (codes "update_seq") query)

abbrev pub query_of : Target → Json → Query
query_of target query = record {
  start = start_of query;
  end = end_of query;
  keys = keys_of query;
  descending = is_true_given (member_of (codes "descending") query);
  skip = unwrap_or (count_of (codes "skip") query) 0;
  limit = count_of (codes "limit") query;
  reduced = is_reduced target query;
  level = grouping_of query;
  update = is_updated query;
  show_seq = shows_seq query;
}
