-- What the calls on a noting summer and a store in memory put was asked for, over calls one after another.
use Rattle.std.proofs.Common.{◌∙◌, ◌++◌, ℕ, List, Result, Ok, Err, sym, ap, append_assoc}
use Rattle.std.proofs.lemmas.List.Elements.{All-append, All-weaker}
use Rattle.json_terms.specs.declared.term.Row.{Row}
use Rattle.json_terms.specs.declared.fault.NoMemory.{NoMemory}
use Rattle.builtin_reduces.specs.contracts.item.RowItemItem.TheImpl as rows
use Rattle.tree_laws.specs.contracts.memory.MemoryNodesNodeSource.TheImpl as memory
use Rattle.tree_laws.specs.declared.memory.MemoryFault.{MemoryFault}
use Rattle.tree_laws.specs.declared.node.Node.{Node}
use Rattle.tree_laws.specs.declared.node.Node.TheVariants.{Leaf, Inner}
use Rattle.tree_laws.specs.declared.tree.TreeFault.{TreeFault}
use Rattle.tree_laws.specs.declared.tree.TreeFault.TheVariants as tree_fault
use Rattle.tree_laws.specs.Memory.{MemoryState}
use Rattle.tree_laws.specs.Stores.{EachSince}
use Rattle.reduce_tree.specs.Calls.{Ran}
use Rattle.reduce_tree.specs.Pieces.{IsNodePiece, IsSummed}
use Rattle.tree_tools.specs.contracts.noting.NotingSummerSummer.TheImpl as noting
use Rattle.tree_tools.specs.Noting.{Goes, NotingState}
use Rattle.tree_tools.specs.NotingLaws.{noting_steps, since_before, since_later}
use Rattle.tree_tests.specs.Asked.{IsAskedLeaf, IsAskedPiece}

-- ---- a piece

leaf_asked : (u v : NotingState) (node : Node Row) → IsSummed rows.ghosts noting.ghosts u v node → IsAskedLeaf u v node
leaf_asked u v (Leaf items) h = h.1
leaf_asked u v (Inner children) h = tt

piece_asked : (u v : NotingState) (bytes : List ℕ) → IsNodePiece rows.ghosts noting.ghosts u v bytes → IsAskedPiece u v bytes
piece_asked u v bytes h = record { node = h.node; fits = h.fits; bytes_are = h.bytes_are; asked = leaf_asked u v h.node h.summed }

-- more was asked before or behind
leaf_wider : (u v w z : NotingState) → Goes u v → Goes w z → (node : Node Row) → IsAskedLeaf v w node → IsAskedLeaf u z node
leaf_wider u v w z before behind (Leaf items) h = since_before items u.asks w.asks z.asks (since_later items u.asks v.asks w.asks before.asks h) behind.asks
leaf_wider u v w z before behind (Inner children) h = tt

piece_wider : (u v w z : NotingState) → Goes u v → Goes w z → (bytes : List ℕ) → IsAskedPiece v w bytes → IsAskedPiece u z bytes
piece_wider u v w z before behind bytes h = record { node = h.node; fits = h.fits; bytes_are = h.bytes_are; asked = leaf_wider u v w z before behind h.node h.asked }

-- ---- calls

-- the summer went on, and each leaf that was put was asked for
pub record Asks (old new : MemoryState) (u v : NotingState) : Type 0 where
  pub goes : Goes u v
  pub puts : EachSince (IsAskedPiece u v) old.puts new.puts

asks_both : (a b c : MemoryState) (u v w : NotingState) → Asks a b u v → Asks b c v w → Asks a c u w
asks_both a b c u v w h k =
    let first = piece_wider u u v w (noting_steps.none u) k.goes in
    let second = piece_wider u v w w h.goes (noting_steps.none w) in
    record {
      goes = noting_steps.both u v w h.goes k.goes;
      puts = (
        k.puts.0 ++ h.puts.0,
        k.puts.1 ∙ ap (λ t. k.puts.0 ++ t) h.puts.1 ∙ sym (append_assoc k.puts.0 h.puts.0 a.puts),
        All-append (IsAskedPiece u w) k.puts.0 h.puts.0 (All-weaker (IsAskedPiece v w) (IsAskedPiece u w) second k.puts.0 k.puts.2) (All-weaker (IsAskedPiece u v) (IsAskedPiece u w) first h.puts.0 h.puts.2),
      );
    }

puts_asked : (old new : MemoryState) (u v : NotingState) → EachSince (IsNodePiece rows.ghosts noting.ghosts u v) old.puts new.puts → EachSince (IsAskedPiece u v) old.puts new.puts
puts_asked old new u v h = (h.0, h.1, All-weaker (IsNodePiece rows.ghosts noting.ghosts u v) (IsAskedPiece u v) (piece_asked u v) h.0 h.2)

pub asks_ran : {X : Type 0} (old new : MemoryState) (u v : NotingState) (result : Result X (TreeFault MemoryFault NoMemory)) → Ran rows.ghosts memory.ghosts noting.ghosts old new u v result → Asks old new u v
asks_ran old new u v (Ok x) h = record { goes = h.summer; puts = puts_asked old new u v h.puts }
asks_ran old new u v (Err (tree_fault.Store fault)) h = record { goes = h.summer; puts = puts_asked old new u v h.puts }
asks_ran old new u v (Err (tree_fault.BadNode at)) h = record { goes = h.summer; puts = puts_asked old new u v h.puts }
asks_ran old new u v (Err (tree_fault.Summer fault)) h = record { goes = h.summer.goes; puts = puts_asked old new u v h.puts }
asks_ran old new u v (Err tree_fault.NoMemory) h = record { goes = h.summer; puts = puts_asked old new u v h.puts }

-- and so over calls before and this one
pub asks_then : {X : Type 0} (a b c : MemoryState) (u v w : NotingState) (result : Result X (TreeFault MemoryFault NoMemory)) → Asks a b u v → Ran rows.ghosts memory.ghosts noting.ghosts b c v w result → Asks a c u w
asks_then a b c u v w result before ran = asks_both a b c u v w before (asks_ran b c v w result ran)
