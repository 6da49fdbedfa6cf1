-- What a builder holds, read as with the values of another summer.
use Rattle.std.proofs.Common.{ℕ, zero, List, [], ◌∷◌, ◌+◌, length}
use Rattle.tree_laws.specs.declared.item.Item.{Ghosts as Items}
use Rattle.tree_laws.specs.declared.summer.Summer.{Ghosts as Summers}
use Rattle.tree_laws.specs.declared.node.Child.{Child}
use Rattle.tree_laws.specs.declared.tree.Fill.TheVariants.{Below}
use Rattle.tree_laws.specs.Stores.{Places}
use Rattle.tree_laws.specs.SummerTrees.{Stands}
use Rattle.tree_laws.specs.Values.{PassFor, values_of}
use Rattle.tree_laws.proofs.Structure.{SumsPass, children_pass, other_sums, stands_passes}
use Rattle.reduce_tree.specs.declared.builder.Builder.{Builder}
use Rattle.reduce_tree.specs.Built.{Built, Stacked}

module _ {T M N Sum F G : Type 0} (i : Items T) (m : Summers M T Sum F) (n : Summers N T Sum G) (first : M) (other : N) (pass : PassFor (values_of m first) (values_of n other)) (there : Places) where
  sums : SumsPass (values_of m first) (values_of n other)
  sums = other_sums (values_of m first) (values_of n other) pass

  stacked_passes : (low : ℕ) (rows : List (List (Child T))) (xs : List T) → Stacked i m first there low rows xs → Stacked i n other there low rows xs
  stacked_passes low [] xs h = h
  stacked_passes low (r ∷ rows) xs h = record {
    front = h.front;
    back = h.back;
    whole = h.whole;
    at_front =
        children_pass (values_of m first) (values_of n other) sums (Stands i m first there (low + length rows)) (Stands i n other there (low + length rows))
        (stands_passes i (values_of m first) (values_of n other) sums there there (λ at bytes is. is) Below (low + length rows)) r h.front h.at_front;
    at_back = stacked_passes low rows h.back h.at_back;
  }

  pub built_passes : (builder : Builder T) (items : List T) → Built i m first there builder items → Built i n other there builder items
  built_passes builder items h = record { front = h.front; back = h.back; whole = h.whole; at_front = stacked_passes zero builder.rows.items h.front h.at_front; at_back = h.at_back }
