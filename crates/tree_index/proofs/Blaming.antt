-- Which fault of trees an answer of an index comes from.
use Rattle.std.proofs.Common.{◌≡◌, ◌≢◌, ◌⊎◌, ◌≤◌, inl, inr, ℕ, List, ◌∷◌, ◌++◌, All, Option, Result, Ok, Err, IfErr, refl, sym, ap, ◌∙◌, subst, arith}
use Rattle.std.proofs.lemmas.List.{append_cancel_right}
use Rattle.std.proofs.lemmas.List.Elements.{All-head}
use Rattle.view_ports.specs.Faults.{CountsFor, Rose}
use Rattle.view_ports.specs.declared.file_name.FileName.{FileName}
use Rattle.gate_file.specs.declared.fault.GateFault.{GateFault}
use Rattle.gate_file.specs.declared.fault.GateFault.TheVariants.{DiskFault, Damaged, Full, NoMemory as GateNoMemory}
use Rattle.tree_laws.specs.declared.tree.TreeFault.{TreeFault}
use Rattle.tree_laws.specs.declared.tree.TreeFault.TheVariants as tree_fault
use Rattle.tree_laws.specs.Stores.{EachSince}
use Rattle.child_pool.specs.declared.pool_fault.PoolFault.{PoolFault}
use Rattle.child_pool.specs.declared.pool_fault.PoolFault.TheVariants as pool_fault
use Rattle.index_trees.specs.declared.trees.IndexTrees.{IndexTrees}
use Rattle.tree_index.specs.declared.fault.IndexFault.{IndexFault}
use Rattle.tree_index.specs.declared.fault.IndexFault.TheVariants.{Store, Summer}
use Rattle.tree_index.specs.Faults.{reduce_fault}
use Rattle.tree_index.proofs.Answering.{answered}

abbrev Found : Type 0
Found = Result IndexTrees (TreeFault GateFault PoolFault)

-- what holds of each entry that came holds of the newest
pub newest_such : {X : Type 0} (P : X → Type 0) (old new : List X) (x : X) → EachSince P old new → ((more : List X) × (new ≡ x ∷ (more ++ old))) → P x
newest_such P old new x since newest =
    let same : since.0 ≡ x ∷ newest.0 = append_cancel_right since.0 (x ∷ newest.0) old (sym since.1 ∙ newest.1) in
    All-head P x newest.0 (subst (All P) same since.2)

-- a reduce is no fault of the store
no_store : (fault : PoolFault) (gate : GateFault) → reduce_fault fault ≡ Store gate → ⊥
no_store pool_fault.ServerFault gate e = cc
no_store (pool_fault.BadReply line) gate e = cc
no_store pool_fault.Compile gate e = cc
no_store pool_fault.UnknownLanguage gate e = cc
no_store pool_fault.NoMemory gate e = cc

module _ (own : FileName) where
  -- damage comes from the store, or from a bad node of the index's own file
  pub damage_of : (found : Found) (name : FileName) (at : ℕ) → answered own found ≡ Err (Store (Damaged name at))
      → (found ≡ Err (tree_fault.Store (Damaged name at))) ⊎ ((found ≡ Err (tree_fault.BadNode at)) × (name ≡ own))
  damage_of (Ok after) name at e = absurd cc
  damage_of (Err (tree_fault.Store DiskFault)) name at e = absurd cc
  damage_of (Err (tree_fault.Store (Full name' length))) name at e = absurd cc
  damage_of (Err (tree_fault.Store (Damaged name' at'))) name at e = inl cc
  damage_of (Err (tree_fault.Store GateNoMemory)) name at e = absurd cc
  damage_of (Err (tree_fault.BadNode at')) name at e = inr (cc, cc)
  damage_of (Err (tree_fault.Summer fault)) name at e = let same : reduce_fault fault ≡ Store (Damaged name at) = cc in absurd (no_store fault (Damaged name at) same)
  damage_of (Err tree_fault.NoMemory) name at e = absurd cc

  -- a full file comes from the store
  pub full_of : (found : Found) (name : FileName) (size : Option ℕ) → answered own found ≡ Err (Store (Full name size)) → found ≡ Err (tree_fault.Store (Full name size))
  full_of (Ok after) name size e = absurd cc
  full_of (Err (tree_fault.Store DiskFault)) name size e = absurd cc
  full_of (Err (tree_fault.Store (Full name' length))) name size e = cc
  full_of (Err (tree_fault.Store (Damaged name' at'))) name size e = absurd cc
  full_of (Err (tree_fault.Store GateNoMemory)) name size e = absurd cc
  full_of (Err (tree_fault.BadNode at')) name size e = absurd cc
  full_of (Err (tree_fault.Summer fault)) name size e = let same : reduce_fault fault ≡ Store (Full name size) = cc in absurd (no_store fault (Full name size) same)
  full_of (Err tree_fault.NoMemory) name size e = absurd cc

  -- and so does a fault of the disk
  pub disk_of : (found : Found) → answered own found ≡ Err (Store DiskFault) → found ≡ Err (tree_fault.Store DiskFault)
  disk_of (Ok after) e = absurd cc
  disk_of (Err (tree_fault.Store DiskFault)) e = refl
  disk_of (Err (tree_fault.Store (Full name length))) e = absurd cc
  disk_of (Err (tree_fault.Store (Damaged name at))) e = absurd cc
  disk_of (Err (tree_fault.Store GateNoMemory)) e = absurd cc
  disk_of (Err (tree_fault.BadNode at)) e = absurd cc
  disk_of (Err (tree_fault.Summer fault)) e = let same : reduce_fault fault ≡ Store DiskFault = cc in absurd (no_store fault DiskFault same)
  disk_of (Err tree_fault.NoMemory) e = absurd cc

  -- want of memory is named as that
  pub want_named : (found : Found) → IfErr (answered own found) (λ fault. (fault ≢ Store GateNoMemory) × (fault ≢ Summer pool_fault.NoMemory))
  want_named (Ok after) = tt
  want_named (Err (tree_fault.Store DiskFault)) = (λ e. cc, λ e. cc)
  want_named (Err (tree_fault.Store (Full name length))) = (λ e. cc, λ e. cc)
  want_named (Err (tree_fault.Store (Damaged name at))) = (λ e. cc, λ e. cc)
  want_named (Err (tree_fault.Store GateNoMemory)) = (λ e. cc, λ e. cc)
  want_named (Err (tree_fault.BadNode at)) = (λ e. cc, λ e. cc)
  want_named (Err (tree_fault.Summer pool_fault.ServerFault)) = (λ e. cc, λ e. cc)
  want_named (Err (tree_fault.Summer (pool_fault.BadReply line))) = (λ e. cc, λ e. cc)
  want_named (Err (tree_fault.Summer pool_fault.Compile)) = (λ e. cc, λ e. cc)
  want_named (Err (tree_fault.Summer pool_fault.UnknownLanguage)) = (λ e. cc, λ e. cc)
  want_named (Err (tree_fault.Summer pool_fault.NoMemory)) = (λ e. cc, λ e. cc)
  want_named (Err tree_fault.NoMemory) = (λ e. cc, λ e. cc)

  -- a complaint of a source comes from the summers
  pub compile_of : (found : Found) → answered own found ≡ Err (Summer pool_fault.Compile) → found ≡ Err (tree_fault.Summer pool_fault.Compile)
  compile_of (Ok after) e = absurd cc
  compile_of (Err (tree_fault.Store DiskFault)) e = absurd cc
  compile_of (Err (tree_fault.Store (Full name length))) e = absurd cc
  compile_of (Err (tree_fault.Store (Damaged name at))) e = absurd cc
  compile_of (Err (tree_fault.Store GateNoMemory)) e = absurd cc
  compile_of (Err (tree_fault.BadNode at)) e = absurd cc
  compile_of (Err (tree_fault.Summer pool_fault.ServerFault)) e = absurd cc
  compile_of (Err (tree_fault.Summer (pool_fault.BadReply line))) e = absurd cc
  compile_of (Err (tree_fault.Summer pool_fault.Compile)) e = refl
  compile_of (Err (tree_fault.Summer pool_fault.UnknownLanguage)) e = absurd cc
  compile_of (Err (tree_fault.Summer pool_fault.NoMemory)) e = absurd cc
  compile_of (Err tree_fault.NoMemory) e = absurd cc

-- ---- counts

module _ {T : Type 0} (before now : ℕ) where
  -- no fault was counted, and none of the disk is answered
  pub counts_none : (result : Result T IndexFault) → (result ≡ Err (Store DiskFault) → ⊥) → now ≡ before → CountsFor (Store DiskFault) before now result
  counts_none result never still = record { later = omega (arith, still); failed = by_result result never; still = λ other. still }
    where
      by_result : (q : Result T IndexFault) → (q ≡ Err (Store DiskFault) → ⊥) → IfErr q (λ e. e ≡ Store DiskFault → Rose before now)
      by_result (Ok value) none = tt
      by_result (Err fault) none = λ is. absurd (none (ap Err is))

  -- the disk failed
  pub counts_disk : (result : Result T IndexFault) → result ≡ Err (Store DiskFault) → before ≤ now → Rose before now → CountsFor (Store DiskFault) before now result
  counts_disk result is later rose = record { later = later; failed = by_result result; still = λ other. absurd (other is) }
    where
      by_result : (q : Result T IndexFault) → IfErr q (λ e. e ≡ Store DiskFault → Rose before now)
      by_result (Ok value) = tt
      by_result (Err fault) = λ same. rose
