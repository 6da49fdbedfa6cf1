use Rattle.std.proofs.Common.{refl, [], ◌∷◌, ap, arith}
use Rattle.gate_file.specs.Calls.{KeepsIn, Told}
use Rattle.tree_laws.specs.Stores.{pieces_size}
use Rattle.node_file.specs.FileNodeLaws.{adds_same}
use Rattle.node_file.proofs.Getting.{on_always, on_still, same_nodes}
use Rattle.node_file.proofs.Storing.{get_fails, same_ready}
use Rattle.node_file.proofs.file_nodes.FileNodesNodeSource.get.Goals as goal

pub returns-clause-ready : goal.returns-clause-ready
returns-clause-ready g c =
    on_always c.get_node.result (Told g.F.Folder c.get_node.new.folder (KeepsIn c.args.self.now.file.now))
    (same_ready g.F.Folder c.args.self.now.file.now c.args.self.now.folder.now c.get_node.new.folder c.requires c.get_node.ensures.disk)

pub returns-clause-nodes : goal.returns-clause-nodes
returns-clause-nodes g c = same_nodes c.args.self.now.file.now.name (g.F.Folder.disk c.args.self.now.folder.now) (g.F.Folder.disk c.get_node.new.folder) c.get_node.ensures.disk

pub returns-clause-goes : goal.returns-clause-goes
returns-clause-goes g c =
    on_still c.get_node.result _
    (λ ok. record {
      lent = record { cache = refl; folder = refl; file = refl };
      adds = adds_same g.F.Folder c.args.self.now.file.now c.args.self.now.folder.now c.get_node.new.folder c.get_node.ensures.disk (c.get_node.ensures.cause.still ok);
      grows = (let none = ap pieces_size c.get_node.ensures.cache.puts in omega (arith, none));
      gets = (c.args.at ∷ [], c.get_node.ensures.cache.gets);
      puts = ([], c.get_node.ensures.cache.puts);
    })

pub returns-clause-cause : goal.returns-clause-cause
returns-clause-cause g c =
    get_fails g.F.Folder c.args.self.now _ c.name.result c.args.at c.get_node.result (record { cache = refl; folder = refl; file = refl }) c.get_node.ensures.cache refl c.name.ensures
    c.get_node.ensures.faults c.get_node.ensures.cause c.get_node.ensures.damaged c.get_node.ensures.disk
