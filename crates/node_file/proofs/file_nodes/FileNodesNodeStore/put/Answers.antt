use Rattle.std.proofs.Common.{refl}
use Rattle.tree_laws.specs.Nodes.{sized}
use Rattle.node_file.proofs.Getting.{on_still}
use Rattle.node_file.proofs.Storing.{put_adds, put_fails, put_goes, put_ready}
use Rattle.node_file.proofs.file_nodes.FileNodesNodeStore.put.Goals as goal

pub returns-clause-ready : goal.returns-clause-ready
returns-clause-ready g c =
    put_ready g.F.Folder c.args.self.now.file.now c.put_node.new.file c.args.self.now.folder.now c.put_node.new.folder c.put_node.result c.requires
    (put_adds g.F.Folder c.args.self.now.file.now c.put_node.new.file c.args.bytes.now c.args.self.now.folder.now c.put_node.new.folder c.put_node.result
    c.put_node.ensures.done c.put_node.ensures.disk (on_still c.put_node.result _ c.put_node.ensures.cause.still))

pub returns-clause-goes : goal.returns-clause-goes
returns-clause-goes g c =
    put_goes g.F.Folder c.args.self.now _ c.args.bytes.now c.put_node.result (record { cache = refl; folder = refl; file = refl }) c.put_node.ensures.cache c.put_node.ensures.done
    (put_adds g.F.Folder c.args.self.now.file.now c.put_node.new.file c.args.bytes.now c.args.self.now.folder.now c.put_node.new.folder c.put_node.result
    c.put_node.ensures.done c.put_node.ensures.disk (on_still c.put_node.result _ c.put_node.ensures.cause.still))

pub returns-clause-cause : goal.returns-clause-cause
returns-clause-cause g c =
    put_fails g.F.Folder c.args.self.now _ c.args.bytes.now (sized c.args.bytes.now) c.put_node.result (record { cache = refl; folder = refl; file = refl }) c.put_node.ensures.cache
    c.put_node.ensures.err c.put_node.ensures.full.1 c.put_node.ensures.faults c.put_node.ensures.cause c.put_node.ensures.untouched c.put_node.ensures.disk
