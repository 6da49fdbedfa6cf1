-- Which places are bad for a value of a range.
use Rattle.std.proofs.Common.{◌≡◌, ◌+◌, ◌<◌, ◌≤◌, ℕ, zero, suc, Result, Ok, Err, IfErr, List, [], ◌∷◌, ◌++◌, Contains, length, get_or, sym, ap, ◌∙◌, subst, append_assoc, arith}
use Rattle.tree_laws.specs.declared.item.Item.{Ghosts as Items}
use Rattle.tree_laws.specs.declared.summer.Summer.{Ghosts as Summers}
use Rattle.tree_laws.specs.declared.node.Child.{Child}
use Rattle.tree_laws.specs.declared.node.Node.TheVariants.{Inner}
use Rattle.tree_laws.specs.declared.tree.Fill.{Fill}
use Rattle.tree_laws.specs.declared.tree.Tree.{Tree}
use Rattle.tree_laws.specs.declared.tree.TreeFault.{TreeFault}
use Rattle.tree_laws.specs.declared.tree.TreeFault.TheVariants as tree_fault
use Rattle.tree_laws.specs.Fetching.{IsBadAt, IsUnread}
use Rattle.tree_laws.specs.Meaning.{KeepsMeaning, Meaning}
use Rattle.tree_laws.specs.Stores.{Places}
use Rattle.tree_laws.specs.Values.{values_of}
use Rattle.tree_query.specs.Calls.{Summed}
use Rattle.tree_query.specs.Leading.{AreLedTo, Blames, IsLedTo, Leads, count_in}
use Rattle.tree_query.specs.Reaching.{HasUnread, ReadFails}
use Rattle.tree_query.specs.Summaries.{Cuts, IsCut, IsWhole, RangeStops, no_node, no_value}
use Rattle.tree_query.proofs.Counts.{count_append, count_cons}
use Rattle.tree_query.proofs.Leading.{blames_as}

-- a list by one of its entries
record Parted {X : Type 0} (xs : List X) (x : X) : Type 0 where
  pub front : List X
  pub back : List X
  pub is : xs ≡ front ++ x ∷ back

part_at : {X : Type 0} (xs : List X) (x : X) (k : ℕ) → k < length xs → get_or xs k x ≡ x → Parted xs x
part_at [] x k less e = absurd (omega arith)
part_at (y ∷ ys) x zero less e = let own : y ≡ x = e in record { front = []; back = ys; is = ap (λ z. z ∷ ys) own }
part_at (y ∷ ys) x (suc k) less e =
    let r = part_at ys x k (omega arith) e in
    record { front = y ∷ r.front; back = r.back; is = ap (λ t. y ∷ t) r.is }

parted : {X : Type 0} (xs : List X) (x : X) → Contains xs x → Parted xs x
parted xs x h = part_at xs x h.0 h.1 h.2

-- a call on a summer alone blames no place
pub summed_fault : {M T Sum G F : Type 0} (m : Summers M T Sum G) (P : ℕ → Type 0) (u v : M) (X : Type 0) (fault : TreeFault F G) → Summed m {X = X} u v (Err fault) → Blames P fault
summed_fault m P u v X (tree_fault.Store fault) h = tt
summed_fault m P u v X (tree_fault.BadNode at) h = absurd h
summed_fault m P u v X (tree_fault.Summer fault) h = tt
summed_fault m P u v X tree_fault.NoMemory h = tt

pub summed_blames : {M T Sum G F X : Type 0} (m : Summers M T Sum G) (P : ℕ → Type 0) (u v : M) (result : Result X (TreeFault F G)) → Summed m u v result → IfErr result (Blames P)
summed_blames m P u v (Ok value) h = tt
summed_blames {X = X} m P u v (Err fault) h = summed_fault m P u v X fault h

-- a child of which some items are of the range, and not all
pub is_cut : (from to start count : ℕ) → from < start + count → start < to → ((from ≤ start) → (start + count ≤ to) → ⊥) → IsCut from to start count
is_cut from to start count begins ends parted = record { begins = begins; ends = ends; parted = λ w. parted w.begins w.ends }

-- with the start in two parts, as a row has it
pub cuts : {T : Type 0} (from to start : ℕ) (c : Child T) → IsCut from to start c.count → (begin : ℕ) (front : List (Child T)) → begin + count_in front ≡ start → Cuts from to begin front c
cuts from to start c h begin front e = subst (λ n. IsCut from to n c.count) (sym e) h

module _ {T M Sum G : Type 0} (i : Items T) (m : Summers M T Sum G) (keeps : KeepsMeaning m.goes m.meaning m.lawful m.usable m.fits) (first : M) (there : Places) (tree : Tree) (from to : ℕ) where
  -- the range leads to a place where no node stands that fits
  pub gap_stops : {F H : Type 0} (at level count start : ℕ) (fill : Fill) (fault : TreeFault F H) → Leads i there tree (Cuts from to) at level count start fill → Blames (λ place. (place ≡ at) × IsBadAt i level count fill there at) fault
      → Blames (RangeStops i there tree from to (values_of m first)) fault
  gap_stops at level count start fill fault leads h = blames_as (λ place. (place ≡ at) × IsBadAt i level count fill there at) (RangeStops i there tree from to (values_of m first)) fault
      (λ place k. subst (RangeStops i there tree from to (values_of m first)) (sym k.0) (no_node level count start fill leads k.1)) h

  unread_before : (u : M) (bytes : List ℕ) → m.goes first u → IsUnread (values_of m u) bytes → IsUnread (values_of m first) bytes
  unread_before u bytes g h sum fits is = h sum ((keeps.fits first u sum g).0 fits) (ap (λ (x : Meaning T Sum). x.spelled sum) (keeps.meaning first u g) ∙ is)

  unread_stops : (u : M) (at low start : ℕ) (cs : List (Child T)) → m.goes first u → AreLedTo i there tree (Cuts from to) at low start cs → from ≤ start → start + count_in cs ≤ to → HasUnread m u cs
      → RangeStops i there tree from to (values_of m first) at
  unread_stops u at low start cs goes led begins ends h =
      let c = h.child in
      let p = parted cs c h.inside in
      let all : led.front ++ (cs ++ led.back) ≡ (led.front ++ p.front) ++ c ∷ (p.back ++ led.back) =
      ap (λ t. led.front ++ (t ++ led.back)) p.is ∙ ap (λ t. led.front ++ t) (append_assoc p.front (c ∷ p.back) led.back) ∙ sym (append_assoc led.front p.front (c ∷ (p.back ++ led.back))) in
      let own : IsLedTo i there tree (Cuts from to) at (suc low) led.begin (Inner ((led.front ++ p.front) ++ c ∷ (p.back ++ led.back))) = subst (λ ds. IsLedTo i there tree (Cuts from to) at (suc low) led.begin (Inner ds)) all led.own in
      let before = count_append led.front p.front in
      let within : count_in cs ≡ count_in p.front + (c.count + count_in p.back) = ap count_in p.is ∙ count_append p.front (c ∷ p.back) ∙ ap (λ n. count_in p.front + n) (count_cons c p.back) in
      let whole : IsWhole from to (led.begin + count_in (led.front ++ p.front)) c.count = record { begins = omega (arith, begins, led.number, before); ends = omega (arith, ends, led.number, before, within) } in
      no_value low own.count led.begin own.fill (led.front ++ p.front) (p.back ++ led.back) c own.leads own.stands whole (unread_before u c.sum goes h.unread)

  -- children that are whole in the range, of which one has the bytes of no value
  pub row_stops : {F H : Type 0} (u : M) (at low start : ℕ) (cs : List (Child T)) (fault : TreeFault F H) → m.goes first u → AreLedTo i there tree (Cuts from to) at low start cs → from ≤ start → start + count_in cs ≤ to → ReadFails m u at cs fault
      → Blames (RangeStops i there tree from to (values_of m first)) fault
  row_stops u at low start cs (tree_fault.Store fault) goes led begins ends h = tt
  row_stops u at low start cs (tree_fault.BadNode place) goes led begins ends h = subst (RangeStops i there tree from to (values_of m first)) (sym h.0) (unread_stops u at low start cs goes led begins ends h.1)
  row_stops u at low start cs (tree_fault.Summer fault) goes led begins ends h = tt
  row_stops u at low start cs tree_fault.NoMemory goes led begins ends h = tt

  pub result_stops : {X F H : Type 0} (u : M) (at low start : ℕ) (cs : List (Child T)) (result : Result X (TreeFault F H)) → m.goes first u → AreLedTo i there tree (Cuts from to) at low start cs → from ≤ start → start + count_in cs ≤ to → IfErr result (ReadFails m u at cs)
      → IfErr result (Blames (RangeStops i there tree from to (values_of m first)))
  result_stops u at low start cs (Ok value) goes led begins ends h = tt
  result_stops u at low start cs (Err fault) goes led begins ends h = row_stops u at low start cs fault goes led begins ends h
