-- The world that requests act on.
use Rattle.std.specs.Prelude.{◌≡◌, ◌≤◌, ℕ, List, ◌∷◌, length, Option, Some, None}
use Rattle.design_docs.specs.History.{Write}
use Rattle.view_ports.specs.Functions.{Functions}
use Rattle.tree_groups.specs.Pictures.{Pictures}
use Rattle.view_model.specs.Picture.{Picture}

pub record World : Type 0 where
  -- the accepted writes, the newest first: their number is the update sequence
  pub history : List Write
  -- what the indexes show, each by the digits of its signature
  pub pictures : Pictures
  -- by which functions the nodes of an index keep the values of reduces that a query server runs, by the digits of its signature and by its
  -- language; none where they aren't known
  pub functions : List ℕ → List ℕ → Option Functions

-- a world of this history, without indexes, of which no functions are known
abbrev pub of_history : List Write → World
of_history history = record { history = history; pictures = λ sig. None; functions = λ sig language. None }

-- the same world, of which these functions are known
abbrev pub knowing : World → (List ℕ → List ℕ → Option Functions) → World
knowing world functions = record world { functions = functions }

-- and of which none are
abbrev pub forgetting : World → World
forgetting world = knowing world (λ sig language. None)

-- the world with one more write
abbrev pub written : World → Write → World
written world write = record world { history = write ∷ world.history }

-- no picture is newer than the history
abbrev pub NoneIsNewer : World → Type 0
NoneIsNewer world = (sig : List ℕ) (picture : Picture) → world.pictures sig ≡ Some picture → picture.seq ≤ length world.history
