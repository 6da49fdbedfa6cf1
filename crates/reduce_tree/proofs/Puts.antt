-- Which items were put, and where none was.
use Rattle.std.proofs.Common.{◌≡◌, ◌⊎◌, inl, inr, ℕ, zero, suc, Some, List, [], ◌∷◌, ◌++◌, length, ◌+◌, ◌*◌, ◌<◌, ◌≤◌, refl, ap, ◌∙◌, length-append, arith}
use Rattle.std.specs.List.{flat_map}
use Rattle.tree_laws.specs.declared.store.NodeSource.{Ghosts as Sources}
use Rattle.tree_laws.specs.declared.node.Node.{Node}
use Rattle.tree_laws.specs.declared.node.Node.TheVariants.{Leaf, Inner}
use Rattle.tree_laws.specs.Nodes.{entries, item_entry, number_bytes, spelled_node}
use Rattle.tree_laws.proofs.Prefixes.{number_long}
use Rattle.reduce_tree.specs.declared.edit.Edit.{Edit}
use Rattle.reduce_tree.specs.Applied.{insertions}
use Rattle.reduce_tree.specs.Charges.{ArePut}
use Rattle.reduce_tree.specs.Calls.{PutNone}
use Rattle.reduce_tree.specs.Rows.{IsSplit, leaf_items, lone}

pub less_or : (a b : ℕ) → (a < b) ⊎ (b ≤ a)
less_or a zero = inr (omega arith)
less_or zero (suc b) = inl (omega arith)
less_or (suc a) (suc b) = elim (less_or a b) [
  | inl h ↦ inl (omega (arith, h))
  | inr h ↦ inr (omega (arith, h))
]

-- where nothing is put, all goes out again
pub put_none : {x : ℕ} {U : Type 0} {a b : ℕ} → a ≤ b → ArePut x x U a b
put_none h = record { size = omega (arith, h); usable = λ less. absurd (omega (arith, h, less)) }

-- from before and until later
pub put_on : {x y z w a b e f : ℕ} {U V : Type 0} → ArePut x y V a b → z ≤ x → y ≤ w → (V → U) → e + b ≤ f + a → ArePut z w U e f
put_on h before later back le = record {
  size = let s = h.size in omega (arith, s, before, later, le);
  usable = λ less. back (h.usable (omega (arith, less, le)));
}

-- two calls one after another: what goes out of the first may come into the second
pub put_two : {p x y v z w a b c d e f : ℕ} {U V W : Type 0} → ArePut x y U a b → ArePut v z V c d → p ≤ x → y ≤ v → z ≤ w → (U → W) → (V → W) → e + (b + d) ≤ f + (a + c) → ArePut p w W e f
put_two {a = a} {b = b} h k before on later first second le = record {
  size = let s = h.size in let t = k.size in omega (arith, s, t, before, on, later, le);
  usable = λ less. elim (less_or b a) [
    | inl l ↦ first (h.usable l)
    | inr l ↦ second (k.usable (omega (arith, l, less, le)))
  ];
}

module _ {T : Type 0} where
  pub leaf_none : (node : Node T) → entries node ≡ 0 → leaf_items node ≡ 0
  leaf_none (Leaf xs) e = e
  leaf_none (Inner cs) e = refl

  pub leaf_split : (node left right : Node T) → IsSplit node left right → leaf_items node ≡ leaf_items left + leaf_items right
  leaf_split (Leaf xs) (Leaf ys) (Leaf zs) s = ap length s ∙ length-append ys zs
  leaf_split (Inner xs) (Inner ys) (Inner zs) s = refl
  leaf_split (Leaf xs) (Leaf ys) (Inner zs) s = absurd s
  leaf_split (Leaf xs) (Inner ys) right s = absurd s
  leaf_split (Inner xs) (Leaf ys) right s = absurd s
  leaf_split (Inner xs) (Inner ys) (Leaf zs) s = absurd s

  pub leaf_lone : (node : Node T) (p : ℕ × ℕ) → Some p ≡ lone node → leaf_items node ≡ 0
  leaf_lone (Leaf xs) p e = absurd (cc)
  leaf_lone (Inner cs) p e = refl

  pub inserts_none : (es : List (Edit T)) → length es ≡ 0 → insertions es ≡ 0
  inserts_none [] e = refl
  inserts_none (d ∷ es) e = absurd (omega arith)

  module _ (spelled : T → List ℕ) where
    entries_long : (items : List T) → 8 * length items ≤ length (flat_map (item_entry spelled) items)
    entries_long [] = omega arith
    entries_long (x ∷ xs) =
        let n = number_bytes (length (spelled x)) in
        omega (arith, entries_long xs, length-append (n ++ spelled x) (flat_map (item_entry spelled) xs), length-append n (spelled x), number_long (length (spelled x)))

    -- an item takes the 8 bytes of its length at least
    pub leaf_long : (node : Node T) → 8 * leaf_items node ≤ length (spelled_node spelled node)
    leaf_long (Leaf items) = omega (arith, entries_long items)
    leaf_long (Inner children) = omega arith

module _ {S F : Type 0} (s : Sources S F) where
  pub unput : (a : S) → PutNone s a a
  unput a = record { puts = refl; size = refl }

  pub unput_on : {a b c : S} → PutNone s a b → PutNone s b c → PutNone s a c
  unput_on h k = record { puts = k.puts ∙ h.puts; size = k.size ∙ h.size }
