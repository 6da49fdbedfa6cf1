-- How many items children have.
use Rattle.std.proofs.Common.{◌≡◌, ◌+◌, List, ◌∷◌, ◌++◌}
use Rattle.std.proofs.lemmas.List.Sums.{sum_by-append, sum_by-cons}
use Rattle.tree_laws.specs.declared.node.Child.{Child}
use Rattle.tree_query.specs.Leading.{count_in}

pub count_cons : {T : Type 0} (c : Child T) (cs : List (Child T)) → count_in (c ∷ cs) ≡ c.count + count_in cs
count_cons c cs = sum_by-cons (λ (child : Child _). child.count) c cs

pub count_append : {T : Type 0} (cs ds : List (Child T)) → count_in (cs ++ ds) ≡ count_in cs + count_in ds
count_append cs ds = sum_by-append (λ (child : Child _). child.count) cs ds
