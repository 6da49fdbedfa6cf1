use Rattle.std.proofs.Common.{rules, ◌≡◌, ◌++◌, ◌∷◌, [], subst, sym}
use Rattle.tree_laws.specs.Memory.{Goes, MemoryState, next_count}
use Rattle.tree_laws.specs.MemoryLaws.{memory_puts}
use Rattle.tree_laws.proofs.memory.MemoryNodesNodeStore.put.Goals as goal

pub returns-clause-goes : goal.returns-clause-goes
returns-clause-goes c =
    let old : MemoryState = c.args.self.now in
    let piece = c.args.bytes.now in
    let later = c.in_ok-count_call.ensures.later in
    let new : c.add.new.self ≡ record old { nodes = old.nodes ++ piece ∷ []; calls = next_count old.calls; puts = piece ∷ old.puts } = search rules in
    subst (Goes old) (sym new) (memory_puts old piece (next_count old.calls) (search rules))
