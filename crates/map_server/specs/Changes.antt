-- The sources that a session has after a change.
use Rattle.std.specs.Prelude.{ℕ, List, [], ◌∷◌, ◌++◌}
use Rattle.map_server.specs.declared.map_function.MapFunction.{MapFunction}
use Rattle.map_server.specs.declared.change.Change.{Change}
use Rattle.map_server.specs.declared.change.Change.TheVariants.{Nothing, Clear, Add}

abbrev pub source_of : MapFunction → List ℕ
source_of function = function.source

abbrev pub changed : List (List ℕ) → Change → List (List ℕ)
changed sources Nothing = sources
changed sources Clear = []
changed sources (Add function) = sources ++ source_of function ∷ []
