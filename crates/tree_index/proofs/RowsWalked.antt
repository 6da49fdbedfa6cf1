-- How the rows of a tree are walked over, one after another.
use Rattle.std.proofs.Common.{◌≡◌, ◌+◌, ◌*◌, ◌<◌, ◌≤◌, ◌∙◌, ℕ, List, [], ◌∷◌, ◌++◌, All, Result, Err, drop, get_or, length, take, add-one, length-append, refl, sym, ap, subst, arith}
use Rattle.std.specs.Prelude.{Vec}
use Rattle.std.specs.declared.alloc.Global.{Global}
use Rattle.std.proofs.Math.Nat.{mul-le-mul_right}
use Rattle.std.proofs.Math.Seq.{drop-cons}
use Rattle.std.proofs.lemmas.List.{take_more}
use Rattle.std.proofs.lemmas.List.Elements.{All-append, All-cons, All-nil}
use Rattle.json_terms.specs.declared.fault.NoMemory.{NoMemory as Want}
use Rattle.json_terms.specs.declared.term.Row.{Row}
use Rattle.tree_laws.specs.declared.store.NodeSource.{Ghosts as Sources}
use Rattle.tree_laws.specs.declared.tree.Tree.{Tree}
use Rattle.tree_laws.specs.declared.tree.TreeFault.{TreeFault}
use Rattle.tree_laws.specs.Values.{no_values}
use Rattle.builtin_reduces.specs.ItemLaws.{items_spelled_once}
use Rattle.tree_query.specs.Calls.{Fails, OnlyReads}
use Rattle.tree_query.proofs.Calls.{Laws, ran_bad}
use Rattle.tree_query.proofs.Reached.{none_unfit}
use Rattle.index_trees.specs.Trees.{row_items}
use Rattle.tree_index.specs.Walks.{listed, WalksRows}

-- ---- the rows that were had

-- the next row is that of the next number
pub row_had : (items rows now : List Row) (i : ℕ) (row : Row) → i < length items → rows ≡ take i items → row ≡ get_or items i row → now ≡ rows ++ row ∷ [] → now ≡ take (i + 1) items
row_had items rows now i row within had is more =
    more ∙ ap (λ front. front ++ row ∷ []) had ∙ ap (λ own. take i items ++ own ∷ []) is ∙ sym (take_more items i row within)

-- the items that are left begin with it
pub next_left : (items : List Row) (i : ℕ) (d : Row) → i < length items → drop i items ≡ get_or items i d ∷ drop (i + 1) items
next_left items i d within = rw (add-one, drop-cons items i d) refl

-- there are as many as were walked over
pub one_longer : (rows now : List Row) (i : ℕ) (row : Row) → length rows ≡ i → now ≡ rows ++ row ∷ [] → length now ≡ i + 1
one_longer rows now i row same more = ap length more ∙ length-append rows (row ∷ []) ∙ ap (λ n. n + 1) same

-- the rows and one more are all such
pub one_more : (P : Row → Type 0) (rows now : List Row) (row : Row) → All P rows → P row → now ≡ rows ++ row ∷ [] → All P now
one_more P rows now row all own more = subst (All P) (sym more) (All-append P rows (row ∷ []) all (All-cons P row [] own (All-nil P)))

module _ {S F : Type 0} (n : Sources S F) where
  -- ---- calls that only read

  pub reads_on : (m k most : ℕ) (a b c : S) (x y z : ℕ) → m + k ≤ most → OnlyReads n m a b x y → OnlyReads n k b c y z → OnlyReads n most a c x z
  reads_on m k most a b c x y z few h j =
      record {
        nodes = j.nodes ∙ h.nodes;
        size = j.size ∙ h.size;
        puts = j.puts ∙ h.puts;
        steps = record { later = omega (arith, h.steps.later, j.steps.later); within = omega (arith, few, h.steps.within, j.steps.within) };
        reads = record { later = omega (arith, h.reads.later, j.reads.later); within = omega (arith, h.reads.within, j.reads.within, h.steps.later, j.steps.later) };
      }

  -- for one row more as many steps come as there are levels
  pub next_reads : (i height : ℕ) (a b c : S) (x y z : ℕ) → OnlyReads n ((i + 1) * height) a b x y → OnlyReads n height b c y z → OnlyReads n ((i + 1 + 1) * height) a c x z
  next_reads i height a b c x y z h j =
      let most : (i + 1) * height + height ≤ (i + 1 + 1) * height = omega arith in
      reads_on ((i + 1) * height) height ((i + 1 + 1) * height) a b c x y z most h j

  -- all of them together
  pub all_reads : (i count height : ℕ) (a b : S) (x y : ℕ) → i ≤ count → OnlyReads n ((i + 1) * height) a b x y → OnlyReads n ((count + 1) * height) a b x y
  all_reads i count height a b x y few h =
      let more : (i + 1) * height ≤ (count + 1) * height = mul-le-mul_right height (let longer : i + 1 ≤ count + 1 = omega (arith, few) in longer) in
      record {
        nodes = h.nodes;
        size = h.size;
        puts = h.puts;
        steps = record { later = h.steps.later; within = omega (arith, more, h.steps.within) };
        reads = h.reads;
      }

  -- ---- the walk gave up

  module _ (laws : Laws n) (tree : Tree) (s0 s2 : S) (t0 t2 : ℕ) where
    walk_failed : (fault : TreeFault F Want) → Fails row_items n tree {M = Want} s0 s2 fault → OnlyReads n ((tree.count + 1) * tree.height) s0 s2 t0 t2 → WalksRows n tree s0 s2 t0 t2 (Err fault)
    walk_failed fault fails reads = record {
      rows = λ there items told holds. tt;
      kept = tt;
      number = tt;
      sound = λ there items at told holds is. none_unfit row_items no_values items_spelled_once there tree items holds at (ran_bad row_items n laws tree (List Row) Want s0 s2 there (Err fault) at fails told is);
      ran = fails;
      reads = reads;
      ready = tt;
    }

    -- as the exit of a `?` returns it
    pub walk_refused : (q : Result (Vec Row Global) (TreeFault F Want)) (fault y : TreeFault F Want) → y ≡ fault → q ≡ Err y → Fails row_items n tree {M = Want} s0 s2 fault → OnlyReads n ((tree.count + 1) * tree.height) s0 s2 t0 t2
        → WalksRows n tree s0 s2 t0 t2 (listed q)
    walk_refused q fault y same is fails reads =
        subst (λ r. WalksRows n tree s0 s2 t0 t2 (listed r)) (sym is) (walk_failed y (subst (λ x. Fails row_items n tree {M = Want} s0 s2 x) (sym same) fails) reads)
