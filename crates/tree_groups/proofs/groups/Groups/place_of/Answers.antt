-- The first index of these files, if there is one.
use Rattle.std.proofs.Common.{rules}
use borrow.Author.Tests.{tests}
use Rattle.std.specs.Prelude.{◌≡◌, ◌≢◌}
use Rattle.std.proofs.lemmas.Iterator.{IsFirst-from_position, YieldsList-from_slice}
use Rattle.tree_index.specs.declared.index.Index.{Index}
use Rattle.tree_index.specs.Index.{stem_of}
use Rattle.tree_groups.proofs.Places.{place_found}
use Rattle.tree_groups.proofs.groups.Groups.place_of.Goals as goal

pub returns : goal.returns
returns c =
    place_found c.args.self.now c.args.stem c.position.result
    (IsFirst-from_position _ _ _ (λ (index : Index). stem_of index ≡ c.args.stem) (λ (index : Index). stem_of index ≢ c.args.stem) c.position.ensures.ran (YieldsList-from_slice c.args.self.now.open.items cc) (λ x q k. search (rules, tests)) (λ x q k. search (rules, tests)))
