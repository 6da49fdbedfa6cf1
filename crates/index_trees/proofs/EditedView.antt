-- The tree of one view is edited, and the query server may be asked about its reduce.
use Rattle.std.proofs.Common.{◌≡◌, ◌≢◌, ◌<◌, ◌≤◌, ◌+◌, ◌*◌, ℕ, zero, suc, List, [], ◌∷◌, Contains, length, Option, None, Result, Ok, Err, refl, sym, ap, ◌∙◌, subst, arith, inl, inr}
use Rattle.std.specs.Prelude.{IfOk, OnOk, IsPermutation, IsSorted, slice_index_or}
use Rattle.std.proofs.lemmas.List.{nil_from_length}
use Rattle.std.proofs.lemmas.List.Sorted.{Contains-permutation, length_permutation}
use Rattle.json_terms.specs.declared.term.Row.{Row}
use Rattle.design_docs.specs.declared.design.Reduce.{Reduce}
use Rattle.design_docs.specs.declared.design.Reduce.TheVariants as reduce
use Rattle.design_docs.specs.declared.design.View.{View}
use Rattle.view_ports.specs.declared.servers.Servers.{Ghosts as Servers}
use Rattle.view_ports.specs.Functions.{Functions}
use Rattle.tree_laws.specs.declared.store.NodeSource.{Ghosts as Sources}
use Rattle.tree_laws.specs.declared.tree.Tree.{Tree}
use Rattle.tree_laws.specs.declared.tree.TreeFault.{TreeFault}
use Rattle.tree_laws.specs.declared.tree.TreeFault.TheVariants as tree_fault
use Rattle.tree_laws.specs.Reaching.{IsFaulty}
use Rattle.tree_laws.specs.Stores.{Places, WhereTold}
use Rattle.tree_laws.specs.Trees.{IsTree, IsTreeSize}
use Rattle.tree_laws.proofs.Structure.{other_sums}
use Rattle.builtin_reduces.specs.Kept.{item_cmp}
use Rattle.builtin_reduces.specs.ItemLaws.{item_cmp_total}
use Rattle.reduce_tree.specs.declared.edit.Edit.{Edit}
use Rattle.reduce_tree.specs.declared.edit.Edit.TheVariants.{Insert, Remove}
use Rattle.reduce_tree.specs.Applied.{applied, insertions, IsEdited}
use Rattle.reduce_tree.specs.Calls.{places}
use Rattle.reduce_tree.specs.Counts.{node_size}
use Rattle.reduce_tree.proofs.Made.{made}
use Rattle.reduce_tree.proofs.Since.{since_none}
use Rattle.child_pool.specs.declared.pool_fault.PoolFault.{PoolFault}
use Rattle.child_pool.specs.declared.pool_fault.PoolFault.TheVariants.{Compile, NoMemory}
use Rattle.child_pool.specs.declared.summers.Summers.{Summers}
use Rattle.child_pool.specs.Jobs.{IsAmong}
use Rattle.child_pool.specs.ReduceTalk.{Fails, reduce_in, reduce_source, reduce_sources}
use Rattle.child_pool.specs.SummerLaws.{usable}
use Rattle.child_pool.specs.Summers.{IsUsableFor, SummersFail, SummersGo}
use Rattle.child_pool.specs.TalkLaws.{goes_none}
use Rattle.child_pool.proofs.WiderTalk.{among_back, among_front, fails_wider, goes_wider}
use Rattle.row_exchange.specs.declared.doc_rows.DocRows.{DocRows}
use Rattle.row_exchange.specs.Replaced.{new_rows, replaced, replaced_views}
use Rattle.index_items.specs.declared.back_row.BackRow.{BackRow}
use Rattle.index_items.proofs.Rising.{contains-cases, contains-none}
use Rattle.index_trees.specs.Edits.{view_edits}
use Rattle.index_trees.specs.Edited.{EditsView, OverView, Went}
use Rattle.index_trees.specs.Exchanges.{Complains, GivesUp, IsUsable, PutsWithin, SummersWent, Talks}
use Rattle.index_trees.specs.Trees.{row_items, HasRows}
use Rattle.index_trees.specs.ViewValues.{view_values, AreFunctionsOf, SumsBy}
use Rattle.index_trees.proofs.Found.{got_none}
use Rattle.index_trees.proofs.Got.{nodes_none, view_nodes, FoundGood}
use Rattle.index_trees.proofs.Inserted.{insertions_permutation, rows_inserted}
use Rattle.index_trees.proofs.OneEdit.{Applies, AppliesTo, FoundBad, SumDid, applies_others, bad_now, blames_none, bytes_by, faulty_others, has_room, most_bytes_by, most_puts_by, most_steps_by, no_smaller, pieces_by, puts_by, steps_by, store_went}
use Rattle.index_trees.proofs.RowsExchanged.{AreSortedEdits, edit_cmp, edits_rise, rows_exchanged}
use Rattle.index_trees.proofs.Sequences.{StoreLaws, done, each_from-at, err_same, keeps_itself, talks_none}
use Rattle.index_trees.proofs.ViewSums.{IsFirst, first_of, functions_stay, summer_values}

-- ---- the sources of all views

-- the source of one view is among them
among_all : (views : List View) (place : ℕ) (source : List ℕ) → IsAmong (reduce_source (reduce_in views place)) source → IsAmong (reduce_sources views) source
among_all [] place source among = absurd among
among_all (view ∷ views) zero source among = among_front (reduce_source view.reduce) (reduce_sources views) source among
among_all (view ∷ views) (suc place) source among = among_back (reduce_source view.reduce) (reduce_sources views) source (among_all views place source among)

empty_of : (sources : List (List ℕ)) → ((source : List ℕ) → IsAmong sources source → ⊥) → sources ≡ []
empty_of [] none = refl
empty_of (source ∷ sources) none = absurd (none source (inl refl))

-- where there are none it has none
none_here : (views : List View) (place : ℕ) → reduce_sources views ≡ [] → reduce_source (reduce_in views place) ≡ []
none_here views place none =
    empty_of (reduce_source (reduce_in views place)) (λ source among. subst (λ (sources : List (List ℕ)). IsAmong sources source) none (among_all views place source among))

-- ---- edits that insert

inserts_some : {T : Type 0} (edits : List (Edit T)) (x : T) → Contains edits (Insert x) → 0 < insertions edits
inserts_some [] x there = absurd (contains-none (Insert x) there)
inserts_some (Insert y ∷ edits) x there = omega arith
inserts_some (Remove y ∷ edits) x there = elim (contains-cases (Insert x) (Remove y) edits there) [
  | inl is ↦ absurd (let never : Remove y ≡ Insert x = is in cc)
  | inr later ↦ let more = inserts_some edits x later in omega (arith, more)
]

-- the rows of a view after the exchange
then_here : (changes : List DocRows) (rows : List (List Row)) (view : ℕ) → view < length rows → slice_index_or (replaced_views changes rows) view [] ≡ replaced changes view (slice_index_or rows view [])
then_here changes rows view within =
    let same : 0 + view ≡ view = omega arith in
    each_from-at (replaced changes) 0 rows view [] within ∙ ap (λ m. replaced changes m (slice_index_or rows view [])) same

module _ {S F C : Type 0} (n : Sources S F) (laws : StoreLaws n) (s : Servers C) (changes : List DocRows) (olds : List (List BackRow)) (old new : S) (summers : Summers C) (before now view : ℕ) (tree : Tree) (edits : List (Edit Row))
    (result : Result Tree (TreeFault F PoolFault)) where
  -- the summers turned to the view
  abbrev pub turned : Summers C
  turned = record { slot = summers.slot; design = summers.design; view = view }

  abbrev views : List View
  views = summers.design.now.views

  abbrev own : Reduce
  own = reduce_in views view

  -- what they did
  abbrev pub SumRan : Summers C → Summers C → Result Tree (TreeFault F PoolFault) → Type 0
  SumRan u v r = SumDid (SummersGo s) (SummersFail s) u v r

  -- the edits were applied, from this state of the summers to that one
  pub record Called (u v : Summers C) : Type 0 where
    pub to : (first : Summers C) → SummersGo s first u → AppliesTo n edits old new before now tree row_items (summer_values s first) result
    pub ran : SumRan u v result
    pub usable : 0 < insertions edits → OnOk result (usable s u)
    pub found : FoundBad row_items (summer_values s u) n old new tree result
    pub good : FoundGood row_items (summer_values s u) n old new result

  module _ (after : Summers C) (a : Applies n edits old new before now tree result) (called : Called turned after) (are : IsPermutation (view_edits view changes olds) edits) (sorted : IsSorted edit_cmp edits) (some : edits ≢ []) where
    count : length edits ≡ length (view_edits view changes olds)
    count = length_permutation (view_edits view changes olds) edits are

    inserted : insertions edits ≤ length (new_rows changes view)
    inserted = omega (arith, insertions_permutation (view_edits view changes olds) edits are, rows_inserted view changes olds)

    -- ---- the talk

    talks : SummersGo s turned after → Talks s summers after
    talks goes = record {
      design = goes.design;
      slot = goes_wider (reduce_source own) (reduce_sources views) (among_all views view) s summers.design.now.language summers.slot after.slot goes.slot;
      idle = λ none. goes.idle (none_here views view none);
    }

    gives_up : (fault : PoolFault) → SummersFail s turned after fault → GivesUp s summers after fault
    gives_up fault fails = record {
      design = fails.design;
      slot = fails_wider (reduce_source own) (reduce_sources views) (among_all views view) s summers.design.now.language summers.slot after.slot fault fails.slot;
      idle = λ none. fails.idle (none_here views view none);
    }

    summers_went : (r : Result Tree (TreeFault F PoolFault)) → SumRan turned after r → SummersWent s summers after r
    summers_went (Ok value) ran = talks ran
    summers_went (Err (tree_fault.Store fault)) ran = talks ran
    summers_went (Err (tree_fault.BadNode at)) ran = talks ran
    summers_went (Err (tree_fault.Summer fault)) ran = gives_up fault ran
    summers_went (Err tree_fault.NoMemory) ran = talks ran

    sums_on : (r : Result Tree (TreeFault F PoolFault)) → SumRan turned after r → (f : Option Functions) → SumsBy s summers f → OnOk r (SumsBy s after f)
    sums_on (Ok value) ran f by =
        subst (λ d. AreFunctionsOf s d.now.language after.slot f) (sym ran.design) (functions_stay s summers.design.now.language (reduce_source own) summers.slot after.slot ran.slot f by)
    sums_on (Err fault) ran f by = tt

    went : Went n s changes olds old new summers after before now result
    went = record {
      kept = a.kept;
      ready = a.ready;
      reads = a.reads;
      store = store_went n laws old new result a.store;
      talk = summers_went result called.ran;
      more = no_smaller n edits old new before now tree result a;
      by = sums_on result called.ran;
    }

    -- a complaint is of a source, and of that of the view
    complaint : SummersFail s turned after Compile → (r : Reduce) → own ≡ r → Complains s summers after view
    complaint fails reduce.Absent is = absurd (let wants = fails.idle (ap reduce_source is) in let never : Compile ≡ NoMemory = wants.0 in cc)
    complaint fails (reduce.Builtin kind) is = absurd (let wants = fails.idle (ap reduce_source is) in let never : Compile ≡ NoMemory = wants.0 in cc)
    complaint fails (reduce.Source source) is = record {
      source = source;
      is = is;
      mid = summers.slot;
      went = goes_none s summers.design.now.language (reduce_sources views) summers.slot;
      fails = subst (λ (r : Reduce). Fails s summers.design.now.language (reduce_source r) summers.slot after.slot Compile) is fails.slot;
    }

    some_edits : view_edits view changes olds ≢ []
    some_edits none = some (nil_from_length edits (count ∙ ap length none))

    complains : result ≡ Err (tree_fault.Summer Compile) → Complains s summers after view × (view_edits view changes olds ≢ [])
    complains is = (complaint (subst (SumRan turned after) is called.ran) own refl, some_edits)

    is_usable : (r : Result Tree (TreeFault F PoolFault)) → OnOk r (usable s turned) → OnOk r (IsUsable s summers view)
    is_usable (Ok value) h = λ source is. subst (λ (r : Reduce). IsUsableFor s r summers.design.now.language summers.slot) is h
    is_usable (Err fault) h = tt

    -- ---- the rows

    module _ (f : Option Functions) (there : Places) (rows : List (List Row)) (over : OverView n s changes olds old new summers after before now view tree f there rows) where
      abbrev here : List Row
      here = slice_index_or rows view []

      abbrev then_rows : List Row
      then_rows = slice_index_or (replaced_views changes rows) view []

      given : AreSortedEdits view changes rows here edits
      given = record {
        ids = over.begins.apart;
        are = refl;
        rise = over.has.rises;
        permutation = subst (λ os. IsPermutation (view_edits view changes os) edits) over.begins.found are;
        sorted = sorted;
      }

      become : applied item_cmp edits here ≡ then_rows
      become = rows_exchanged view changes rows here edits given ∙ sym (then_here changes rows view over.within)

      edited : IsEdited item_cmp edits here then_rows
      edited = subst (IsEdited item_cmp edits here) become (made item_cmp item_cmp_total edits here (edits_rise view changes rows here edits given) over.has.rises)

      first : IsFirst s turned f
      first = first_of s turned f over.begins.by

      to_view : AppliesTo n edits old new before now tree row_items (view_values f own) result
      to_view =
          let v = summer_values s first.first in
          let w = view_values f own in
          applies_others n edits old new before now tree result row_items v w (other_sums v w first.back) (other_sums w v first.there) (called.to first.first first.goes)

      has_then : (r : Result Tree (TreeFault F PoolFault)) → IfOk r (λ t. IsTree row_items (view_values f own) (places (n.nodes new)) t (applied item_cmp edits here)) → IfOk r (HasRows f views (places (n.nodes new)) (replaced_views changes rows) view)
      has_then (Ok t) is = subst (IsTree row_items (view_values f own) (places (n.nodes new)) t) become is
      has_then (Err fault) is = tt

    damaged : (at : ℕ) → result ≡ Err (tree_fault.BadNode at) → WhereTold (n.nodes new) (λ there. IsFaulty row_items (view_values None own) there tree at)
    damaged at is there told =
        faulty_others row_items (summer_values s turned) (view_values None own) (λ sum fits. fits) (λ sum. refl) there tree at
        (bad_now row_items (summer_values s turned) n old new tree result at a.kept called.found is there told)

    pub edited_view : EditsView n s changes olds old new summers after before now view tree result
    edited_view = record {
      went = went;
      made = λ f there rows over. has_then f there rows over result ((to_view f there rows over).tree_is there (here f there rows over) over.begins.told (edits_rise view changes rows (here f there rows over) edits (given f there rows over)) over.has);
      size = a.size;
      room = has_room n edits old new before now tree result a;
      steps = steps_by n edits old new before now tree result (length (view_edits view changes olds)) (length (new_rows changes view)) count inserted a;
      most_steps = most_steps_by n edits old new before now tree result (length (view_edits view changes olds)) (length (new_rows changes view)) count inserted a;
      puts = puts_by n edits old new before now tree result (length (view_edits view changes olds)) (length (new_rows changes view)) count inserted a;
      most_puts = most_puts_by n edits old new before now tree result (length (view_edits view changes olds)) (length (new_rows changes view)) count inserted a;
      bytes = λ f there rows longest h over short.
          bytes_by n edits old new before now tree result (length (view_edits view changes olds)) (length (new_rows changes view)) count inserted row_items (view_values f own) (to_view f there rows over) there (here f there rows over) (then_rows f there rows over) longest over.begins.told over.has
          (edited f there rows over) short.old_rows short.then_rows h;
      most_bytes = λ f there rows longest h over short.
          most_bytes_by n edits old new before now tree result (length (view_edits view changes olds)) (length (new_rows changes view)) count inserted row_items (view_values f own) (to_view f there rows over) there (here f there rows over) (then_rows f there rows over) longest over.begins.told over.has
          (edited f there rows over) short.old_rows short.then_rows h;
      pieces = λ f there rows longest over short.
          pieces_by n edits old new before now tree result (length (view_edits view changes olds)) (length (new_rows changes view)) count inserted row_items (view_values f own) (to_view f there rows over) there (here f there rows over) (then_rows f there rows over) longest over.begins.told over.has
          (edited f there rows over) short.old_rows short.then_rows;
      usable = λ row comes. is_usable result (called.usable (inserts_some edits row (Contains-permutation (view_edits view changes olds) edits (Insert row) are comes)));
      complains = complains;
      found = λ f there rows over. (to_view f there rows over).found there (here f there rows over) over.begins.told over.has;
      got = view_nodes n old new views view (summer_values s turned) (λ sum fits. fits) (λ sum. refl) result a.kept called.good;
      sound = λ f there rows at over is. blames_none result at ((to_view f there rows over).sound there (here f there rows over) over.begins.told over.has) is;
      damaged = damaged;
    }

  -- the same of summers that were turned to the view, and are lent on
  pub edited_last : (u after last : Summers C) → last ≡ after → u.slot ≡ summers.slot → u.design ≡ summers.design → u.view ≡ view → Applies n edits old new before now tree result → Called u after
      → IsPermutation (view_edits view changes olds) edits → IsSorted edit_cmp edits → edits ≢ [] → EditsView n s changes olds old new summers last before now view tree result
  edited_last u after last is slot design at a called are sorted some =
      let same : u ≡ turned = λ i. record { slot = slot i; design = design i; view = at i } in
      subst (λ (x : Summers C). EditsView n s changes olds old new summers x before now view tree result) (sym is) (edited_view after a (subst (λ (x : Summers C). Called x after) same called) are sorted some)

-- ---- nothing is edited

module _ {S F C : Type 0} (n : Sources S F) (laws : StoreLaws n) (s : Servers C) (changes : List DocRows) (olds : List (List BackRow)) (store : S) (summers : Summers C) (steps view : ℕ) (tree : Tree) (ready : n.is_ready store) where
  no_more : (edits per : ℕ) → steps ≤ steps + edits * per
  no_more edits per = omega arith

  no_bytes : (edits per size : ℕ) → n.size store ≤ n.size store + (edits * per) * size
  no_bytes edits per size = omega arith

  no_puts : (edits per : ℕ) → length (n.puts store) ≤ length (n.puts store) + edits * per
  no_puts edits per = omega arith

  no_pieces : (most : ℕ) → PutsWithin most (n.puts store) (n.puts store)
  no_pieces most = since_none (λ piece. length piece + 8 ≤ most) (n.puts store) (n.puts store) refl

  -- memory ran out before
  pub wants_memory : EditsView n s changes olds store store summers summers steps steps view tree (Err tree_fault.NoMemory)
  wants_memory = record {
    went = record { kept = keeps_itself (n.nodes store); ready = ready; reads = (omega arith, omega arith); store = laws.steps.none store; talk = talks_none s summers; more = tt; by = λ f by. tt };
    made = λ f there rows over. tt;
    size = tt;
    room = λ enough. tt;
    steps = λ h low. tt;
    most_steps = λ h low few. no_more (length (view_edits view changes olds)) (8 * (h + 1));
    puts = λ h low. tt;
    most_puts = λ h low few. no_puts (length (view_edits view changes olds)) (4 * (h + 1));
    bytes = λ f there rows longest h over short low. tt;
    most_bytes = λ f there rows longest h over short low few. no_bytes (length (view_edits view changes olds)) (4 * (h + 1)) (node_size longest);
    pieces = λ f there rows longest over short. no_pieces (node_size longest);
    usable = λ row comes. tt;
    complains = λ is. absurd (let never = err_same Tree tree_fault.NoMemory (tree_fault.Summer Compile) is in cc);
    found = λ f there rows over. got_none (places (n.nodes store)) (n.gets store);
    got = tt;
    sound = λ f there rows at over is. let never = err_same Tree tree_fault.NoMemory (tree_fault.BadNode at) is in cc;
    damaged = λ at is. absurd (let never = err_same Tree tree_fault.NoMemory (tree_fault.BadNode at) is in cc);
  }

  -- there are no edits, so the rows are those that replace them
  module _ (size : IsTreeSize tree) (edits : List (Edit Row)) (are : IsPermutation (view_edits view changes olds) edits) (sorted : IsSorted edit_cmp edits) (none : edits ≡ []) where
    all_none : view_edits view changes olds ≡ []
    all_none = nil_from_length (view_edits view changes olds) (sym (length_permutation (view_edits view changes olds) edits are) ∙ ap length none)

    stay : (f : Option Functions) (there : Places) (rows : List (List Row)) → OverView n s changes olds store store summers summers steps steps view tree f there rows
        → HasRows f summers.design.now.views (places (n.nodes store)) (replaced_views changes rows) view tree
    stay f there rows over =
        let here : List Row = slice_index_or rows view [] in
        let v = view_values f (reduce_in summers.design.now.views view) in
        let given : AreSortedEdits view changes rows here edits =
        record { ids = over.begins.apart; are = refl; rise = over.has.rises; permutation = subst (λ os. IsPermutation (view_edits view changes os) edits) over.begins.found are; sorted = sorted } in
        let still : here ≡ slice_index_or (replaced_views changes rows) view [] =
        sym (ap (λ es. applied item_cmp es here) none) ∙ rows_exchanged view changes rows here edits given ∙ sym (then_here changes rows view over.within) in
        subst (IsTree row_items v (places (n.nodes store)) tree) still (subst (λ p. IsTree row_items v p tree here) (sym (ap places over.begins.told)) over.has)

    pub nothing_edited : EditsView n s changes olds store store summers summers steps steps view tree (Ok tree)
    nothing_edited = record {
      went = record { kept = keeps_itself (n.nodes store); ready = ready; reads = (omega arith, omega arith); store = laws.steps.none store; talk = talks_none s summers; more = omega arith; by = λ f by. by };
      made = stay;
      size = size;
      room = λ enough. enough;
      steps = λ h low high. no_more (length (view_edits view changes olds)) (8 * (h + 1));
      most_steps = λ h low few. no_more (length (view_edits view changes olds)) (8 * (h + 1));
      puts = λ h low high. no_puts (length (view_edits view changes olds)) (4 * (h + 1));
      most_puts = λ h low few. no_puts (length (view_edits view changes olds)) (4 * (h + 1));
      bytes = λ f there rows longest h over short low high. no_bytes (length (view_edits view changes olds)) (4 * (h + 1)) (node_size longest);
      most_bytes = λ f there rows longest h over short low few. no_bytes (length (view_edits view changes olds)) (4 * (h + 1)) (node_size longest);
      pieces = λ f there rows longest over short. no_pieces (node_size longest);
      usable = λ row comes. absurd (contains-none (Insert row) (subst (λ es. Contains es (Insert row)) all_none comes));
      complains = λ is. absurd (let never : done Tree (TreeFault F PoolFault) tree ≡ Err (tree_fault.Summer Compile) = is in cc);
      found = λ f there rows over. got_none (places (n.nodes store)) (n.gets store);
      got = nodes_none summers.design.now.views n store;
      sound = λ f there rows at over is. let never : done Tree (TreeFault F PoolFault) tree ≡ Err (tree_fault.BadNode at) = is in cc;
      damaged = λ at is. absurd (let never : done Tree (TreeFault F PoolFault) tree ≡ Err (tree_fault.BadNode at) = is in cc);
    }
