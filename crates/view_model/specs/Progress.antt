-- How far what a query picks is printed: rows, or the values of groups.
use Rattle.std.specs.Prelude.{ℕ, ◌-◌, List, [], ◌∷◌, ◌++◌, Bool, true, false, ◌||◌, drop, length, reverse, if◌then◌else◌, option_map}
use Rattle.query_args.specs.declared.query.Query.{Query}
use Rattle.view_model.specs.Selection.{limited}
use Rattle.view_model.specs.Answer.{comma}
use Rattle.view_model.specs.declared.print.Progress.{Progress}

-- where a query is printed from
abbrev pub start_of : Query → Progress
start_of query = record { skip = query.skip; limit = query.limit; printed = false }

-- a list as it is walked
abbrev pub walked : {A : Type 0} → Bool → List A → List A
walked descending xs = if descending then reverse xs else xs

-- the first part that is walked of a list, and the rest
abbrev pub walked_parts : {A : Type 0} → Bool → List A → List A → List A
walked_parts descending part rest = if descending then rest ++ part else part ++ rest

-- the texts with a comma between any two, and before the first where something was printed
abbrev pub texts_after : {A : Type 0} → (A → List ℕ) → Bool → List A → List ℕ
texts_after text printed [] = []
texts_after text true (x ∷ xs) = comma ∷ text x ++ texts_after text true xs
texts_after text false (x ∷ xs) = text x ++ texts_after text true xs

-- what is printed of a part
abbrev pub due : {A : Type 0} → Progress → List A → List A
due progress part = limited progress.limit (drop progress.skip part)

abbrev pub due_text : {A : Type 0} → (A → List ℕ) → Progress → List A → List ℕ
due_text text progress part = texts_after text progress.printed (due progress part)

abbrev pub is_some_list : {A : Type 0} → List A → Bool
is_some_list [] = false
is_some_list (x ∷ xs) = true

-- where the part is printed
abbrev pub past : {A : Type 0} → Progress → List A → Progress
past progress part = record {
  skip = progress.skip - length part;
  limit = option_map (λ limit. limit - (length part - progress.skip)) progress.limit;
  printed = progress.printed || is_some_list (due progress part);
}
