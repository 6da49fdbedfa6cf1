use Rattle.std.proofs.Common.{refl, [], ◌∷◌}
use Rattle.node_file.proofs.Getting.{on_still, past_fails, same_nodes}
use Rattle.node_file.proofs.past_nodes.PastNodesNodeSource.get.Goals as goal

pub returns-clause-nodes : goal.returns-clause-nodes
returns-clause-nodes g c = same_nodes c.args.self.now.name (g.F.Folder.disk c.args.self.now.folder.now) (g.F.Folder.disk c.get_node.new.folder) c.get_node.ensures.disk

pub returns-clause-goes : goal.returns-clause-goes
returns-clause-goes g c =
    on_still c.get_node.result _
    (λ ok. record {
      lent = record { cache = refl; folder = refl; name = refl };
      reads = record { disk = c.get_node.ensures.disk; still = c.get_node.ensures.cause.still ok };
      gets = (c.args.at ∷ [], c.get_node.ensures.cache.gets);
      puts = c.get_node.ensures.cache.puts;
    })

pub returns-clause-cause : goal.returns-clause-cause
returns-clause-cause g c =
    past_fails g.F.Folder c.args.self.now _ c.args.at c.get_node.result (record { cache = refl; folder = refl; name = refl }) c.get_node.ensures.cache
    c.get_node.ensures.faults c.get_node.ensures.cause c.get_node.ensures.damaged c.get_node.ensures.disk
