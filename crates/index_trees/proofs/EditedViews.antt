-- The trees of the views, one edited after another.
use Rattle.std.proofs.Common.{◌≡◌, ◌≢◌, ◌<◌, ◌≤◌, ◌+◌, ◌*◌, ◌^◌, ◌⊎◌, ℕ, zero, suc, List, [], ◌∷◌, ◌++◌, All, Contains, length, take, drop, get_or, Option, None, Some, Result, Ok, Err, refl, sym, ap, ◌∙◌, subst, arith, inl, inr, length-append}
use Rattle.std.specs.Prelude.{slice_get, Vec}
use Rattle.std.specs.declared.alloc.Global.{Global}
use Rattle.std.proofs.Math.Nat.{eq-or-lt_of_le}
use Rattle.std.proofs.lemmas.List.{length-take-le, take-append-drop, take_all}
use Rattle.std.proofs.lemmas.List.Elements.{All-contains, All-get_or, All-nil, All-push, All-weaker, Contains-push}
use Rattle.json_terms.specs.declared.term.Row.{Row}
use Rattle.design_docs.specs.declared.design.Reduce.TheVariants.{Source}
use Rattle.view_ports.specs.declared.servers.Servers.{Ghosts as Servers}
use Rattle.view_ports.specs.Functions.{Functions}
use Rattle.tree_laws.specs.declared.store.NodeSource.{Ghosts as Sources}
use Rattle.tree_laws.specs.declared.tree.Tree.{Tree}
use Rattle.tree_laws.specs.declared.tree.TreeFault.{TreeFault}
use Rattle.tree_laws.specs.declared.tree.TreeFault.TheVariants as tree_fault
use Rattle.tree_laws.specs.Reaching.{IsFaulty}
use Rattle.tree_laws.specs.Stores.{Places, WhereTold}
use Rattle.tree_laws.specs.Trees.{IsTreeSize}
use Rattle.reduce_tree.specs.declared.edit.Edit.TheVariants.{Insert}
use Rattle.reduce_tree.specs.Calls.{places}
use Rattle.reduce_tree.specs.Counts.{node_size}
use Rattle.reduce_tree.proofs.Quiet.{all_front}
use Rattle.reduce_tree.proofs.Since.{since_both, since_none}
use Rattle.child_pool.specs.declared.pool_fault.PoolFault.{PoolFault}
use Rattle.child_pool.specs.declared.pool_fault.PoolFault.TheVariants.{Compile}
use Rattle.child_pool.specs.declared.summers.Summers.{Summers}
use Rattle.child_pool.specs.ReduceTalk.{Compiles, Fails, Goes, reduce_in, reduce_sources}
use Rattle.child_pool.specs.TalkLaws.{goes_both, stands_on}
use Rattle.row_exchange.specs.declared.doc_rows.DocRows.{DocRows}
use Rattle.row_exchange.specs.Replaced.{new_rows, replaced, replaced_views}
use Rattle.row_exchange.proofs.Each.{take_next}
use Rattle.index_items.specs.declared.back_row.BackRow.{BackRow}
use Rattle.index_trees.specs.Edits.{row_edit_count, view_edits}
use Rattle.index_trees.specs.Edited.{AreAllShort, AreEnough, AreShortIn, AreShortRows, EditsView, EditsViews, OverView, OverViews}
use Rattle.index_trees.specs.Exchanges.{Complains, GotFound, IsUsable, PutsWithin}
use Rattle.index_trees.specs.Faults.{listed}
use Rattle.index_trees.specs.Trees.{row_items, EachAt, HasRows}
use Rattle.index_trees.specs.ViewValues.{view_values}
use Rattle.index_trees.proofs.Found.{found_other, found_then, got_none}
use Rattle.index_trees.proofs.Got.{nodes_both, nodes_none, NodesGot}
use Rattle.index_trees.proofs.Inserted.{inserts_more, inserts_split}
use Rattle.index_trees.proofs.Sequences.{StoreLaws, done, each_append, each_front, each_map, each_next, err_same, extends_then, keeps_itself, length-each_from, refused, rows_stay, sum_bounds, sum_products, talks_none, told_then, went_then}

-- ---- numbers of edits

all_last : {X : Type 0} (P : X → Type 0) (xs : List X) (x : X) → All P (xs ++ x ∷ []) → P x
all_last P xs x all = All-contains P (xs ++ x ∷ []) x all (Contains-push xs x)

-- the element of a number stays where others come behind it, and one that comes has the next number
get_front : {X : Type 0} (xs ys : List X) (k : ℕ) (x : X) → slice_get xs k ≡ Some x → slice_get (xs ++ ys) k ≡ Some x
get_front [] ys k x is = absurd (cc)
get_front (y ∷ xs) ys zero x is = is
get_front (y ∷ xs) ys (suc k) x is = get_front xs ys k x is

get_last : {X : Type 0} (xs : List X) (x : X) → slice_get (xs ++ x ∷ []) (length xs) ≡ Some x
get_last [] x = refl
get_last (y ∷ xs) x = get_last xs x

module _ (changes : List DocRows) (olds : List (List BackRow)) where
  counts_add : (view few more : ℕ) → row_edit_count view (few + more) changes olds ≡ row_edit_count view few changes olds + row_edit_count (view + few) more changes olds
  counts_add view zero more =
      let all : 0 + more ≡ more = omega arith in
      let same : view + 0 ≡ view = omega arith in
      let front = ap (λ m. row_edit_count view m changes olds) all in
      let back = ap (λ v. row_edit_count v more changes olds) same in
      omega (arith, front, back)
  counts_add view (suc few) more =
      let all : suc few + more ≡ suc (few + more) = omega arith in
      let same : suc view + few ≡ view + suc few = omega arith in
      let front = ap (λ m. row_edit_count view m changes olds) all in
      let back = ap (λ v. row_edit_count v more changes olds) same in
      let rest = counts_add (suc view) few more in
      omega (arith, front, back, rest)

  -- the edits of a front of the views, and those of the views behind
  pub count_split : {X : Type 0} (xs ys : List X) → row_edit_count 0 (length (xs ++ ys)) changes olds ≡ row_edit_count 0 (length xs) changes olds + row_edit_count (length xs) (length ys) changes olds
  count_split xs ys =
      let here : 0 + length xs ≡ length xs = omega arith in
      let all = ap (λ count. row_edit_count 0 count changes olds) (length-append xs ys) ∙ counts_add 0 (length xs) (length ys) in
      all ∙ ap (λ v. row_edit_count 0 (length xs) changes olds + row_edit_count v (length ys) changes olds) here

  pub count_more : {X : Type 0} (xs : List X) (x : X) → row_edit_count 0 (length (xs ++ x ∷ [])) changes olds ≡ row_edit_count 0 (length xs) changes olds + length (view_edits (length xs) changes olds)
  count_more xs x = let split = count_split xs (x ∷ []) in omega (arith, split)

module _ {S F C : Type 0} (n : Sources S F) (laws : StoreLaws n) (s : Servers C) (changes : List DocRows) (olds : List (List BackRow)) where
  -- ---- the first trees, and the next one

  module _ (a b c : S) (u v w : Summers C) (i j k : ℕ) (ts es : List Tree) (t : Tree) (begun : EditsViews n s changes olds a b u v i j ts (Ok es)) where
    abbrev here : ℕ
    here = length ts

    same_design : v.design ≡ u.design
    same_design = begun.went.talk.design

    module _ (f : Option Functions) (there : Places) (rows : List (List Row)) (rest : List Tree) (over : OverViews n s changes olds a c u w i k (ts ++ t ∷ rest) f there rows) where
      first_over : OverViews n s changes olds a b u v i j ts f there rows
      first_over = record {
        begins = record { told = over.begins.told; by = over.begins.by; apart = over.begins.apart; found = over.begins.found };
        long = omega (arith, over.long, length-append ts (t ∷ rest));
        have = each_front (HasRows f u.design.now.views there rows) 0 ts (t ∷ rest) over.have;
      }

      next_over : OverView n s changes olds b c v w j k here t f (places (n.nodes b)) rows
      next_over =
          let now = told_then (n.nodes a) (n.nodes b) there over.begins.told begun.went.kept in
          let at : 0 + length ts ≡ here = omega arith in
          let own : HasRows f u.design.now.views there rows here t = subst (λ number. HasRows f u.design.now.views there rows number t) at (each_next (HasRows f u.design.now.views there rows) 0 ts t rest over.have) in
          record {
            begins = record { told = now.0; by = begun.went.by f over.begins.by; apart = over.begins.apart; found = over.begins.found };
            within = omega (arith, over.long, length-append ts (t ∷ rest));
            has = subst (λ d. HasRows f d.now.views (places (n.nodes b)) rows here t) (sym same_design) (rows_stay f u.design.now.views there (places (n.nodes b)) rows here t now.1 own);
          }

    sum_steps : (h : ℕ) → j ≤ i + row_edit_count 0 here changes olds * (8 * (h + 1)) → k ≤ j + length (view_edits here changes olds) * (8 * (h + 1)) → k ≤ i + row_edit_count 0 (length (ts ++ t ∷ [])) changes olds * (8 * (h + 1))
    sum_steps h first second =
        let both = sum_bounds (row_edit_count 0 here changes olds) (length (view_edits here changes olds)) (8 * (h + 1)) i j k first second in
        subst (λ e. k ≤ i + e * (8 * (h + 1))) (sym (count_more changes olds ts t)) both

    sum_puts : (h : ℕ) → length (n.puts b) ≤ length (n.puts a) + row_edit_count 0 here changes olds * (4 * (h + 1)) → length (n.puts c) ≤ length (n.puts b) + length (view_edits here changes olds) * (4 * (h + 1))
        → length (n.puts c) ≤ length (n.puts a) + row_edit_count 0 (length (ts ++ t ∷ [])) changes olds * (4 * (h + 1))
    sum_puts h first second =
        let both = sum_bounds (row_edit_count 0 here changes olds) (length (view_edits here changes olds)) (4 * (h + 1)) (length (n.puts a)) (length (n.puts b)) (length (n.puts c)) first second in
        subst (λ e. length (n.puts c) ≤ length (n.puts a) + e * (4 * (h + 1))) (sym (count_more changes olds ts t)) both

    sum_bytes : (size h : ℕ) → n.size b ≤ n.size a + (row_edit_count 0 here changes olds * (4 * (h + 1))) * size → n.size c ≤ n.size b + (length (view_edits here changes olds) * (4 * (h + 1))) * size
        → n.size c ≤ n.size a + (row_edit_count 0 (length (ts ++ t ∷ [])) changes olds * (4 * (h + 1))) * size
    sum_bytes size h first second =
        let both = sum_products (row_edit_count 0 here changes olds) (length (view_edits here changes olds)) (4 * (h + 1)) size (n.size a) (n.size b) (n.size c) first second in
        subst (λ e. n.size c ≤ n.size a + (e * (4 * (h + 1))) * size) (sym (count_more changes olds ts t)) both

    -- so many levels are enough for the first trees, and for the next one
    module _ (h : ℕ) (enough : AreEnough n s changes olds a c u w i k (ts ++ t ∷ []) h) where
      first_enough : AreEnough n s changes olds a b u v i j ts h
      first_enough = record {
        more = enough.more;
        inserts = omega (arith, enough.inserts, inserts_more changes ts t);
        each = all_front (λ (tree : Tree). (tree.height ≤ h) × (tree.count + enough.more < 8 ^ h)) ts (t ∷ []) enough.each;
      }

      own_enough : (t.height ≤ h) × (t.count + length (new_rows changes here) < 8 ^ h)
      own_enough =
          let own = all_last (λ (tree : Tree). (tree.height ≤ h) × (tree.count + enough.more < 8 ^ h)) ts t enough.each in
          (own.0, omega (arith, own.1, enough.inserts, inserts_more changes ts t))

    -- the rows of the next view are short too
    first_short : (longest : ℕ) (rows : List (List Row)) → AreAllShort n s changes olds a c u w i k (ts ++ t ∷ []) longest rows → AreAllShort n s changes olds a b u v i j ts longest rows
    first_short longest rows short = record { old_rows = short.old_rows; then_rows = short.then_rows }

    next_short : (longest : ℕ) (rows : List (List Row)) → here < length rows → AreAllShort n s changes olds a c u w i k (ts ++ t ∷ []) longest rows → AreShortIn n s changes olds b c v w j k here t longest rows
    next_short longest rows within short = record {
      old_rows = All-get_or (AreShortRows longest) rows here [] within short.old_rows;
      then_rows = All-get_or (AreShortRows longest) (replaced_views changes rows) here [] (omega (arith, within, length-each_from (replaced changes) 0 rows)) short.then_rows;
    }

    -- each piece is small, and something stands at each place that was got
    module _ (f : Option Functions) (there : Places) (rows : List (List Row)) (rest : List Tree) (over : OverViews n s changes olds a c u w i k (ts ++ t ∷ rest) f there rows) where
      both_found : (r : Result Tree (TreeFault F PoolFault)) → EditsView n s changes olds b c v w j k here t r → GotFound n a c r
      both_found r next =
          found_then n laws a b c begun.went.store (begun.found f there rows (first_over f there rows rest over)) r next.went.kept (next.found f (places (n.nodes b)) rows (next_over f there rows rest over))

    both_pieces : (f : Option Functions) (there : Places) (rows : List (List Row)) (longest : ℕ) → OverViews n s changes olds a c u w i k (ts ++ t ∷ []) f there rows → AreAllShort n s changes olds a c u w i k (ts ++ t ∷ []) longest rows
        → (r : Result Tree (TreeFault F PoolFault)) → EditsView n s changes olds b c v w j k here t r → PutsWithin (node_size longest) (n.puts a) (n.puts c)
    both_pieces f there rows longest over short r next =
        let Small : List ℕ → Type 0 = λ piece. length piece + 8 ≤ node_size longest in
        let over_next = next_over f there rows [] over in
        since_both Small Small Small (λ x h. h) (λ x h. h) (n.puts a) (n.puts b) (n.puts c) (begun.pieces f there rows longest (first_over f there rows [] over) (first_short longest rows short))
        (next.pieces f (places (n.nodes b)) rows longest over_next (next_short longest rows over_next.within short))

    damaged_here : (at : ℕ) → WhereTold (n.nodes c) (λ there. IsFaulty row_items (view_values None (reduce_in v.design.now.views here)) there t at)
        → WhereTold (n.nodes c) (λ there. IsFaulty row_items (view_values None (reduce_in u.design.now.views here)) there t at)
    damaged_here at damaged there told = subst (λ d. IsFaulty row_items (view_values None (reduce_in d.now.views here)) there t at) same_design (damaged there told)

    -- the next one was asked about the source of its view
    usable_before : IsUsable s v here → IsUsable s u here
    usable_before usable source is path calls stands =
        let goes = begun.went.talk.slot in
        let w = goes.talks path calls stands in
        let views : reduce_in v.design.now.views here ≡ Source source = ap (λ d. reduce_in d.now.views here) same_design ∙ is in
        subst (λ d. Compiles s d.now.language source v.slot) same_design (usable source views) path w.now
        (stands_on s u.design.now.language (reduce_sources u.design.now.views) (λ fault. ⊥) u.slot v.slot path calls goes.keeps stands w)

    complains_behind : Complains s v w here → Complains s u w here
    complains_behind complains = record {
      source = complains.source;
      is = sym (ap (λ d. reduce_in d.now.views here) same_design) ∙ complains.is;
      mid = complains.mid;
      went =
          goes_both s u.design.now.language (reduce_sources u.design.now.views) u.slot v.slot complains.mid begun.went.talk.slot
          (subst (λ d. Goes s d.now.language (reduce_sources d.now.views) v.slot complains.mid) same_design complains.went);
      fails = subst (λ d. Fails s d.now.language (complains.source ∷ []) complains.mid w.slot Compile) same_design complains.fails;
    }

    here_or_before : (view : ℕ) → view < length (ts ++ t ∷ []) → (view ≡ here) ⊎ (view < here)
    here_or_before view small = eq-or-lt_of_le (let most = length-append ts (t ∷ []) in let within : view ≤ length ts = omega (arith, small, most) in within)

    -- ---- the next tree is edited

    module _ (e : Tree) (next : EditsView n s changes olds b c v w j k here t (Ok e)) where
      abbrev Has : Option Functions → List (List Row) → Places → ℕ → Tree → Type 0
      Has f rows there = HasRows f u.design.now.views there (replaced_views changes rows)

      made_ok : (f : Option Functions) (there : Places) (rows : List (List Row)) → OverViews n s changes olds a c u w i k (ts ++ t ∷ []) f there rows → EachAt (Has f rows (places (n.nodes c))) 0 (es ++ e ∷ [])
      made_ok f there rows over =
          let first : EachAt (Has f rows (places (n.nodes b))) 0 es = begun.made f there rows (first_over f there rows [] over) in
          let own = next.made f (places (n.nodes b)) rows (next_over f there rows [] over) in
          let has : Has f rows (places (n.nodes c)) here e = subst (λ d. HasRows f d.now.views (places (n.nodes c)) (replaced_views changes rows) here e) same_design own in
          let count = begun.number in
          let last : here ≡ 0 + length es = omega (arith, count) in
          let at_end : Has f rows (places (n.nodes c)) (0 + length es) e = subst (λ number. Has f rows (places (n.nodes c)) number e) last has in
          each_append (Has f rows (places (n.nodes c))) 0 es e
          (each_map (Has f rows (places (n.nodes b))) (Has f rows (places (n.nodes c)))
          (λ view tree. rows_stay f u.design.now.views (places (n.nodes b)) (places (n.nodes c)) (replaced_views changes rows) view tree (extends_then (n.nodes b) (n.nodes c) next.went.kept)) 0 es first) at_end

      room_ok : All (λ (tree : Tree). 8 * tree.count ≤ n.size a) (ts ++ t ∷ []) → All (λ (tree : Tree). 8 * tree.count ≤ n.size c) (es ++ e ∷ [])
      room_ok all =
          let fits = begun.room (all_front (λ (tree : Tree). 8 * tree.count ≤ n.size a) ts (t ∷ []) all) in
          let more = begun.went.more in
          let later = next.went.more in
          let own = all_last (λ (tree : Tree). 8 * tree.count ≤ n.size a) ts t all in
          All-push (λ (tree : Tree). 8 * tree.count ≤ n.size c) es e
          (All-weaker (λ (tree : Tree). 8 * tree.count ≤ n.size b) (λ (tree : Tree). 8 * tree.count ≤ n.size c) (λ x h. omega (arith, h, later)) es fits)
          (next.room (omega (arith, own, more)))

      usable_ok : (view : ℕ) (row : Row) → view < length (ts ++ t ∷ []) → Contains (view_edits view changes olds) (Insert row) → IsUsable s u view
      usable_ok view row small comes = elim (here_or_before view small) [
        | inl at ↦ subst (IsUsable s u) (sym at) (usable_before (next.usable row (subst (λ x. Contains (view_edits x changes olds) (Insert row)) at comes)))
        | inr before ↦ begun.usable view row before comes
      ]

      pub next_ok : EditsViews n s changes olds a c u w i k (ts ++ t ∷ []) (Ok (es ++ e ∷ []))
      next_ok = record {
        went = went_then n laws s changes olds a b c u v w i j k es (Ok (es ++ e ∷ [])) begun.went
            (record { kept = next.went.kept; ready = next.went.ready; reads = next.went.reads; store = next.went.store; talk = next.went.talk; more = next.went.more; by = next.went.by });
        made = made_ok;
        number = let count = begun.number in omega (arith, count, length-append es (e ∷ []), length-append ts (t ∷ []));
        sizes = All-push IsTreeSize es e begun.sizes next.size;
        room = room_ok;
        steps = λ h low after.
            sum_steps h (begun.steps h (all_front (λ (tree : Tree). tree.height ≤ h) ts (t ∷ []) low) (all_front (λ (tree : Tree). tree.height ≤ h) es (e ∷ []) after))
            (next.steps h (all_last (λ (tree : Tree). tree.height ≤ h) ts t low) (all_last (λ (tree : Tree). tree.height ≤ h) es e after));
        most_steps = λ h enough. let own = own_enough h enough in sum_steps h (begun.most_steps h (first_enough h enough)) (next.most_steps h own.0 own.1);
        puts = λ h low after.
            sum_puts h (begun.puts h (all_front (λ (tree : Tree). tree.height ≤ h) ts (t ∷ []) low) (all_front (λ (tree : Tree). tree.height ≤ h) es (e ∷ []) after))
            (next.puts h (all_last (λ (tree : Tree). tree.height ≤ h) ts t low) (all_last (λ (tree : Tree). tree.height ≤ h) es e after));
        most_puts = λ h enough. let own = own_enough h enough in sum_puts h (begun.most_puts h (first_enough h enough)) (next.most_puts h own.0 own.1);
        bytes = λ f there rows longest h over short low after.
            let over_next = next_over f there rows [] over in
            sum_bytes (node_size longest) h
            (begun.bytes f there rows longest h (first_over f there rows [] over) (first_short longest rows short) (all_front (λ (tree : Tree). tree.height ≤ h) ts (t ∷ []) low) (all_front (λ (tree : Tree). tree.height ≤ h) es (e ∷ []) after))
            (next.bytes f (places (n.nodes b)) rows longest h over_next (next_short longest rows over_next.within short) (all_last (λ (tree : Tree). tree.height ≤ h) ts t low) (all_last (λ (tree : Tree). tree.height ≤ h) es e after));
        most_bytes = λ f there rows longest h over short enough.
            let own = own_enough h enough in
            let over_next = next_over f there rows [] over in
            sum_bytes (node_size longest) h (begun.most_bytes f there rows longest h (first_over f there rows [] over) (first_short longest rows short) (first_enough h enough))
            (next.most_bytes f (places (n.nodes b)) rows longest h over_next (next_short longest rows over_next.within short) own.0 own.1);
        pieces = λ f there rows longest over short. both_pieces f there rows longest over short (Ok e) next;
        usable = usable_ok;
        complains = λ is. absurd (let never : Ok (es ++ e ∷ []) ≡ Err (tree_fault.Summer Compile) = is in cc);
        found = λ f there rows over. both_found f there rows [] over (Ok e) next;
        got = nodes_both u.design.now.views n a b c next.went.kept begun.got (subst (λ d. NodesGot d.now.views n b c) same_design next.got);
        sound = λ f there rows at over is. let never : Ok (es ++ e ∷ []) ≡ Err (tree_fault.BadNode at) = is in cc;
        damaged = λ at is. absurd (let never : Ok (es ++ e ∷ []) ≡ Err (tree_fault.BadNode at) = is in cc);
      }

    -- ---- or it gives up

    module _ (fault : TreeFault F PoolFault) (next : EditsView n s changes olds b c v w j k here t (Err fault)) where
      complains_err : fault ≡ tree_fault.Summer Compile → (view : ℕ) × (view < length (ts ++ t ∷ [])) × Complains s u w view × (view_edits view changes olds ≢ [])
      complains_err is =
          let own = next.complains (ap (refused Tree) is) in
          (here, omega (arith, length-append ts (t ∷ [])), complains_behind own.0, own.1)

      pub next_err : EditsViews n s changes olds a c u w i k (ts ++ t ∷ []) (Err fault)
      next_err = record {
        went = went_then n laws s changes olds a b c u v w i j k es (Err fault) begun.went
            (record { kept = next.went.kept; ready = next.went.ready; reads = next.went.reads; store = next.went.store; talk = next.went.talk; more = tt; by = λ f by. tt });
        made = λ f there rows over. tt;
        number = tt;
        sizes = tt;
        room = λ all. tt;
        steps = λ h low. tt;
        most_steps = λ h enough. let own = own_enough h enough in sum_steps h (begun.most_steps h (first_enough h enough)) (next.most_steps h own.0 own.1);
        puts = λ h low. tt;
        most_puts = λ h enough. let own = own_enough h enough in sum_puts h (begun.most_puts h (first_enough h enough)) (next.most_puts h own.0 own.1);
        bytes = λ f there rows longest h over short low. tt;
        most_bytes = λ f there rows longest h over short enough.
            let own = own_enough h enough in
            let over_next = next_over f there rows [] over in
            sum_bytes (node_size longest) h (begun.most_bytes f there rows longest h (first_over f there rows [] over) (first_short longest rows short) (first_enough h enough))
            (next.most_bytes f (places (n.nodes b)) rows longest h over_next (next_short longest rows over_next.within short) own.0 own.1);
        pieces = λ f there rows longest over short. both_pieces f there rows longest over short (Err fault) next;
        usable = λ view row small comes. tt;
        complains = λ is. complains_err (err_same (List Tree) fault (tree_fault.Summer Compile) is);
        found = λ f there rows over. found_other Tree (List Tree) n a c fault (both_found f there rows [] over (Err fault) next);
        got = tt;
        sound = λ f there rows at over is. next.sound f (places (n.nodes b)) rows at (next_over f there rows [] over) (ap (refused Tree) (err_same (List Tree) fault (tree_fault.BadNode at) is));
        damaged = λ at is. (here, t, get_last ts t, damaged_here at (next.damaged at (ap (refused Tree) (err_same (List Tree) fault (tree_fault.BadNode at) is))));
      }

  -- ---- the ends

  pub edits_none : (a : S) (u : Summers C) (i : ℕ) → n.is_ready a → EditsViews n s changes olds a a u u i i [] (Ok [])
  edits_none a u i ready = record {
    went = record {
      kept = keeps_itself (n.nodes a);
      ready = ready;
      reads = (omega arith, omega arith);
      store = laws.steps.none a;
      talk = talks_none s u;
      more = omega arith;
      by = λ f by. by;
    };
    made = λ f there rows over. tt;
    number = refl;
    sizes = All-nil IsTreeSize;
    room = λ all. All-nil (λ (tree : Tree). 8 * tree.count ≤ n.size a);
    steps = λ h low after. omega arith;
    most_steps = λ h enough. omega arith;
    puts = λ h low after. omega arith;
    most_puts = λ h enough. omega arith;
    bytes = λ f there rows longest h over short low after. omega arith;
    most_bytes = λ f there rows longest h over short enough. omega arith;
    pieces = λ f there rows longest over short. since_none (λ piece. length piece + 8 ≤ node_size longest) (n.puts a) (n.puts a) refl;
    usable = λ view row small comes. absurd (omega (arith, small));
    complains = λ is. absurd (let never : done (List Tree) (TreeFault F PoolFault) [] ≡ Err (tree_fault.Summer Compile) = is in cc);
    found = λ f there rows over. got_none (places (n.nodes a)) (n.gets a);
    got = nodes_none u.design.now.views n a;
    sound = λ f there rows at over is. let never : done (List Tree) (TreeFault F PoolFault) [] ≡ Err (tree_fault.BadNode at) = is in cc;
    damaged = λ at is. absurd (let never : done (List Tree) (TreeFault F PoolFault) [] ≡ Err (tree_fault.BadNode at) = is in cc);
  }

  module _ (a c : S) (u w : Summers C) (i k : ℕ) (ts : List Tree) where
    -- memory ran out behind the last one
    pub out_of_memory : (es : List Tree) → EditsViews n s changes olds a c u w i k ts (Ok es) → EditsViews n s changes olds a c u w i k ts (Err tree_fault.NoMemory)
    out_of_memory es done = record {
      went = record { kept = done.went.kept; ready = done.went.ready; reads = done.went.reads; store = done.went.store; talk = done.went.talk; more = tt; by = λ f by. tt };
      made = λ f there rows over. tt;
      number = tt;
      sizes = tt;
      room = λ all. tt;
      steps = λ h low. tt;
      most_steps = done.most_steps;
      puts = λ h low. tt;
      most_puts = done.most_puts;
      bytes = λ f there rows longest h over short low. tt;
      most_bytes = done.most_bytes;
      pieces = done.pieces;
      usable = λ view row small comes. tt;
      complains = λ is. absurd (let never = err_same (List Tree) tree_fault.NoMemory (tree_fault.Summer Compile) is in cc);
      found = done.found;
      got = tt;
      sound = λ f there rows at over is. let never = err_same (List Tree) tree_fault.NoMemory (tree_fault.BadNode at) is in cc;
      damaged = λ at is. absurd (let never = err_same (List Tree) tree_fault.NoMemory (tree_fault.BadNode at) is in cc);
    }

    -- trees that weren't reached change nothing of a refusal
    module _ (fault : TreeFault F PoolFault) (done : EditsViews n s changes olds a c u w i k ts (Err fault)) (rest : List Tree) where
      front_over : (f : Option Functions) (there : Places) (rows : List (List Row)) → OverViews n s changes olds a c u w i k (ts ++ rest) f there rows → OverViews n s changes olds a c u w i k ts f there rows
      front_over f there rows over = record {
        begins = over.begins;
        long = omega (arith, over.long, length-append ts rest);
        have = each_front (HasRows f u.design.now.views there rows) 0 ts rest over.have;
      }

      front_enough : (h : ℕ) → AreEnough n s changes olds a c u w i k (ts ++ rest) h → AreEnough n s changes olds a c u w i k ts h
      front_enough h enough = record {
        more = enough.more;
        inserts = omega (arith, enough.inserts, inserts_split changes ts rest);
        each = all_front (λ (tree : Tree). (tree.height ≤ h) × (tree.count + enough.more < 8 ^ h)) ts rest enough.each;
      }

      more_steps : (h : ℕ) → k ≤ i + row_edit_count 0 (length ts) changes olds * (8 * (h + 1)) → k ≤ i + row_edit_count 0 (length (ts ++ rest)) changes olds * (8 * (h + 1))
      more_steps h few =
          let both = sum_bounds (row_edit_count 0 (length ts) changes olds) (row_edit_count (length ts) (length rest) changes olds) (8 * (h + 1)) i k k few (omega arith) in
          subst (λ e. k ≤ i + e * (8 * (h + 1))) (sym (count_split changes olds ts rest)) both

      more_puts : (h : ℕ) → length (n.puts c) ≤ length (n.puts a) + row_edit_count 0 (length ts) changes olds * (4 * (h + 1)) → length (n.puts c) ≤ length (n.puts a) + row_edit_count 0 (length (ts ++ rest)) changes olds * (4 * (h + 1))
      more_puts h few =
          let both = sum_bounds (row_edit_count 0 (length ts) changes olds) (row_edit_count (length ts) (length rest) changes olds) (4 * (h + 1)) (length (n.puts a)) (length (n.puts c)) (length (n.puts c)) few (omega arith) in
          subst (λ e. length (n.puts c) ≤ length (n.puts a) + e * (4 * (h + 1))) (sym (count_split changes olds ts rest)) both

      more_bytes : (size h : ℕ) → n.size c ≤ n.size a + (row_edit_count 0 (length ts) changes olds * (4 * (h + 1))) * size → n.size c ≤ n.size a + (row_edit_count 0 (length (ts ++ rest)) changes olds * (4 * (h + 1))) * size
      more_bytes size h few =
          let both = sum_products (row_edit_count 0 (length ts) changes olds) (row_edit_count (length ts) (length rest) changes olds) (4 * (h + 1)) size (n.size a) (n.size c) (n.size c) few (omega arith) in
          subst (λ e. n.size c ≤ n.size a + (e * (4 * (h + 1))) * size) (sym (count_split changes olds ts rest)) both

      further : (view : ℕ) → view < length ts → view < length (ts ++ rest)
      further view small = omega (arith, small, length-append ts rest)

      complains_further : refused (List Tree) fault ≡ Err (tree_fault.Summer Compile) → (view : ℕ) × (view < length (ts ++ rest)) × Complains s u w view × (view_edits view changes olds ≢ [])
      complains_further is = let own = done.complains is in (own.0, further own.0 own.1, own.2, own.3)

      damaged_further : (at : ℕ) → refused (List Tree) fault ≡ Err (tree_fault.BadNode at)
          → (view : ℕ) × (tree : Tree) × (slice_get (ts ++ rest) view ≡ Some tree) × WhereTold (n.nodes c) (λ there. IsFaulty row_items (view_values None (reduce_in u.design.now.views view)) there tree at)
      damaged_further at is = let own = done.damaged at is in (own.0, own.1, get_front ts rest own.0 own.1 own.2, own.3)

      pub gives_up_early : EditsViews n s changes olds a c u w i k (ts ++ rest) (Err fault)
      gives_up_early = record {
        went = done.went;
        made = λ f there rows over. tt;
        number = tt;
        sizes = tt;
        room = λ all. tt;
        steps = λ h low. tt;
        most_steps = λ h enough. more_steps h (done.most_steps h (front_enough h enough));
        puts = λ h low. tt;
        most_puts = λ h enough. more_puts h (done.most_puts h (front_enough h enough));
        bytes = λ f there rows longest h over short low. tt;
        most_bytes = λ f there rows longest h over short enough.
            more_bytes (node_size longest) h (done.most_bytes f there rows longest h (front_over f there rows over) (record { old_rows = short.old_rows; then_rows = short.then_rows }) (front_enough h enough));
        pieces = λ f there rows longest over short. done.pieces f there rows longest (front_over f there rows over) (record { old_rows = short.old_rows; then_rows = short.then_rows });
        usable = λ view row small comes. tt;
        complains = complains_further;
        found = λ f there rows over. done.found f there rows (front_over f there rows over);
        got = tt;
        sound = λ f there rows at over is. done.sound f there rows at (front_over f there rows over) is;
        damaged = damaged_further;
      }

  -- ---- the steps of the loop

  pub begins_so : (a : S) (u : Summers C) (i : ℕ) (es : List Tree) → es ≡ [] → n.is_ready a → EditsViews n s changes olds a a u u i i [] (Ok es)
  begins_so a u i es none ready = subst (λ xs. EditsViews n s changes olds a a u u i i [] (Ok xs)) (sym none) (edits_none a u i ready)

  module _ (a b c : S) (u v w : Summers C) (i j k : ℕ) (trees es : List Tree) (count view : ℕ) (t : Tree) (begun : EditsViews n s changes olds a b u v i j (take count trees) (Ok es))
      (less : count < length trees) (is : t ≡ get_or trees count t) (at : view ≡ count) where
    abbrev ts : List Tree
    ts = take count trees

    next : take (count + 1) trees ≡ ts ++ t ∷ []
    next = take_next trees count t less is

    here_is : view ≡ length ts
    here_is = at ∙ sym (length-take-le count trees (omega (arith, less)))

    all_are : (ts ++ t ∷ []) ++ drop (count + 1) trees ≡ trees
    all_are = ap (λ xs. xs ++ drop (count + 1) trees) (sym next) ∙ take-append-drop (count + 1) trees

    pub goes_on : (e : Tree) (fs : List Tree) → EditsView n s changes olds b c v w j k view t (Ok e) → fs ≡ es ++ e ∷ [] → EditsViews n s changes olds a c u w i k (take (count + 1) trees) (Ok fs)
    goes_on e fs own are =
        let here = subst (λ x. EditsView n s changes olds b c v w j k x t (Ok e)) here_is own in
        subst (λ xs. EditsViews n s changes olds a c u w i k xs (Ok fs)) (sym next)
        (subst (λ ys. EditsViews n s changes olds a c u w i k (ts ++ t ∷ []) (Ok ys)) (sym are) (next_ok a b c u v w i j k ts es t begun e here))

    pub stops_here : (fault : TreeFault F PoolFault) → EditsView n s changes olds b c v w j k view t (Err fault) → EditsViews n s changes olds a c u w i k trees (Err fault)
    stops_here fault own =
        let here = subst (λ x. EditsView n s changes olds b c v w j k x t (Err fault)) here_is own in
        subst (λ xs. EditsViews n s changes olds a c u w i k xs (Err fault)) all_are
        (gives_up_early a c u w i k (ts ++ t ∷ []) fault (next_err a b c u v w i j k ts es t begun fault here) (drop (count + 1) trees))

    pub wants_behind : (e : Tree) → EditsView n s changes olds b c v w j k view t (Ok e) → EditsViews n s changes olds a c u w i k trees (Err tree_fault.NoMemory)
    wants_behind e own =
        let here = subst (λ x. EditsView n s changes olds b c v w j k x t (Ok e)) here_is own in
        let so_far = next_ok a b c u v w i j k ts es t begun e here in
        subst (λ xs. EditsViews n s changes olds a c u w i k xs (Err tree_fault.NoMemory)) all_are
        (gives_up_early a c u w i k (ts ++ t ∷ []) tree_fault.NoMemory (out_of_memory a c u w i k (ts ++ t ∷ []) (es ++ e ∷ []) so_far) (drop (count + 1) trees))

  -- the answer is such a refusal
  pub answers_so : (a c : S) (u w : Summers C) (i k : ℕ) (ts : List Tree) (fault y : TreeFault F PoolFault) (r : Result (Vec Tree Global) (TreeFault F PoolFault)) → r ≡ Err y → y ≡ fault
      → EditsViews n s changes olds a c u w i k ts (Err fault) → EditsViews n s changes olds a c u w i k ts (listed r)
  answers_so a c u w i k ts fault y r is same all = subst (EditsViews n s changes olds a c u w i k ts) (sym (ap listed is ∙ ap (refused (List Tree)) same)) all

  pub all_done : (a c : S) (u w : Summers C) (i k : ℕ) (trees es : List Tree) (count : ℕ) → length trees ≤ count → EditsViews n s changes olds a c u w i k (take count trees) (Ok es) → EditsViews n s changes olds a c u w i k trees (Ok es)
  all_done a c u w i k trees es count past all = subst (λ xs. EditsViews n s changes olds a c u w i k xs (Ok es)) (take_all count trees past) all
