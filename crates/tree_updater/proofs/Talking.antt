-- The reduces that an exchange asks for, from the pool and the query servers that were lent to those that came back.
use Rattle.std.specs.Prelude.{◌≡◌, ◌≢◌, ℕ, List, true, false, Option, Some, None}
use Rattle.std.proofs.Common.{refl, sym, ap, ◌∙◌, subst}
use Rattle.view_ports.specs.Functions.{Functions}
use Rattle.view_ports.specs.declared.servers.Servers.{Ghosts as Servers}
use Rattle.design_docs.specs.declared.design.Design.{Design}
use Rattle.design_docs.specs.declared.design.Reduce.TheVariants.{Source}
use Rattle.child_pool.specs.declared.pool.Pool.{Pool}
use Rattle.child_pool.specs.declared.pool_fault.PoolFault.{PoolFault}
use Rattle.child_pool.specs.declared.pool_fault.PoolFault.TheVariants as pool_fault
use Rattle.child_pool.specs.declared.reduce_slot.Stage.TheVariants.{Idle}
use Rattle.child_pool.specs.declared.summers.Summers.{Summers}
use Rattle.child_pool.specs.ReduceTalk.{reduce_in, reduce_sources, Stands}
use Rattle.child_pool.specs.Reductions.{FailsReducing, Reduces}
use Rattle.child_pool.specs.Summers.{or_no_path}
use Rattle.child_pool.proofs.Whole.{complains_of, fails_whole, reduces_whole, stands_idle}
use Rattle.index_trees.specs.Exchanges.{Complains, GivesUp, IsUsable, Talks}
use Rattle.index_trees.specs.ViewValues.{SumsBy}
use Rattle.tree_index.specs.declared.fault.IndexFault.TheVariants.{Summer}
use Rattle.tree_index.specs.Faults.{reduce_fault}
use Rattle.tree_updater.specs.Paths.{AreFunctionsBy, IsPathOf}
use Rattle.tree_updater.specs.Replacing.{Lends}

-- a fault of a reduce but want of memory is told as it is
pub told_as_met : (fault : PoolFault) → fault ≢ pool_fault.NoMemory → reduce_fault fault ≡ Summer fault
told_as_met pool_fault.ServerFault other = refl
told_as_met (pool_fault.BadReply line) other = refl
told_as_met pool_fault.Compile other = refl
told_as_met pool_fault.UnknownLanguage other = refl
told_as_met pool_fault.NoMemory other = absurd (other refl)

module _ {C : Type 0} (s : Servers C) (servers : C) (pool : Pool) (design : Design) (first : Summers C) (idle : first.slot.stage ≡ Idle) (same : first.design.now ≡ design) (lent : Lends first servers pool) where
  abbrev language : List ℕ
  language = first.design.now.language

  path_first : (path : List ℕ) → IsPathOf s servers pool design path → IsPathOf s first.slot.servers.now first.slot.pool.now first.design.now path
  path_first path is =
      subst (λ (d : Design). IsPathOf s first.slot.servers.now first.slot.pool.now d path) (sym same)
      (subst (λ (p : Pool). IsPathOf s first.slot.servers.now p design path) (sym lent.pool_is) (subst (λ (c : C). IsPathOf s c pool design path) (sym lent.servers_are) is))

  stands_first : (path : List ℕ) (is : IsPathOf s first.slot.servers.now first.slot.pool.now first.design.now path) → Stands s language first.slot path is.calls
  stands_first path is = stands_idle s language first.slot path is.calls idle is.known is.follows is.children

  -- the summers sum by the functions of the path
  pub sums_by : (functions : Option Functions) → AreFunctionsBy s servers pool design functions → SumsBy s first functions
  sums_by None by = tt
  sums_by (Some functions) by =
      let is = path_first by.0 by.1 in (
        record { path = by.0; known = is.known; honest = by.2; calls = is.calls; stands = stands_first by.0 is },
        ap (λ path. s.functions (or_no_path path)) is.known ∙ by.3,
      )

  -- a source that is usable compiles by the path
  pub usable_by : (view : ℕ) (source : List ℕ) → IsUsable s first view → reduce_in design.views view ≡ Source source → (path : List ℕ) → IsPathOf s servers pool design path → s.honest path
      → (s.functions path).reduce_compiles source ≡ true
  usable_by view source usable is path of_path honest =
      let here = path_first path of_path in
      usable source (ap (λ (d : Design). reduce_in d.views view) same ∙ is) path here.calls (stands_first path here) honest

  -- one that was complained of doesn't
  pub complained_by : (last : Summers C) (view : ℕ) (complains : Complains s first last view) → (path : List ℕ) → IsPathOf s servers pool design path → s.honest path
      → (s.functions path).reduce_compiles complains.source ≡ false
  complained_by last view complains path of_path honest =
      let here = path_first path of_path in
      complains_of s language (reduce_sources first.design.now.views) complains.source first.slot complains.mid last.slot complains.went complains.fails path here.calls (stands_first path here) here.known honest

  module _ (last : Summers C) (servers' : C) (pool' : Pool) (left : Lends last servers' pool') where
    -- all values that were asked for were had
    pub had : Talks s first last → Reduces s servers servers' pool pool' design.language (reduce_sources design.views)
    had talks =
        subst (λ (d : Design). Reduces s servers servers' pool pool' d.language (reduce_sources d.views)) same
        (subst (λ (p : Pool). Reduces s servers servers' p pool' language (reduce_sources first.design.now.views)) lent.pool_is
        (subst (λ (c : C). Reduces s c servers' first.slot.pool.now pool' language (reduce_sources first.design.now.views)) lent.servers_are
        (subst (λ (p : Pool). Reduces s first.slot.servers.now servers' first.slot.pool.now p language (reduce_sources first.design.now.views)) left.pool_is
        (subst (λ (c : C). Reduces s first.slot.servers.now c first.slot.pool.now last.slot.pool.now language (reduce_sources first.design.now.views)) left.servers_are
        (reduces_whole s language (reduce_sources first.design.now.views) first.slot last.slot idle talks.idle talks.slot)))))

    -- or one wasn't
    pub given_up : (fault : PoolFault) → GivesUp s first last fault → FailsReducing s servers servers' pool pool' design.language (reduce_sources design.views) fault
    given_up fault gives_up =
        subst (λ (d : Design). FailsReducing s servers servers' pool pool' d.language (reduce_sources d.views) fault) same
        (subst (λ (p : Pool). FailsReducing s servers servers' p pool' language (reduce_sources first.design.now.views) fault) lent.pool_is
        (subst (λ (c : C). FailsReducing s c servers' first.slot.pool.now pool' language (reduce_sources first.design.now.views) fault) lent.servers_are
        (subst (λ (p : Pool). FailsReducing s first.slot.servers.now servers' first.slot.pool.now p language (reduce_sources first.design.now.views) fault) left.pool_is
        (subst (λ (c : C). FailsReducing s first.slot.servers.now c first.slot.pool.now last.slot.pool.now language (reduce_sources first.design.now.views) fault) left.servers_are
        (fails_whole s language (reduce_sources first.design.now.views) first.slot last.slot fault idle gives_up.idle gives_up.slot)))))
