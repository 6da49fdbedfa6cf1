-- Taking values one behind another.
use Rattle.std.proofs.Common.{◌≡◌, ◌≢◌, ◌+◌, ◌<◌, ℕ, List, [], ◌∷◌, ◌++◌, All, Result, Err, length, take, get_or, sym, ap, ◌∙◌, subst, append_assoc, length-append, arith}
use Rattle.std.specs.List.{flat_map}
use Rattle.std.proofs.lemmas.Grind.{flat_map-append}
use Rattle.std.proofs.lemmas.List.{append-nil, take_more}
use Rattle.std.proofs.lemmas.List.Elements.{All-append, All-cons, All-nil, All-more}
use Rattle.tree_laws.specs.declared.reader.ReadFault.{ReadFault}
use Rattle.tree_laws.specs.declared.reader.ReadFault.TheVariants as read_fault
use Rattle.tree_laws.specs.declared.node.Child.{Child}
use Rattle.tree_laws.specs.declared.node.Node.{Node}
use Rattle.tree_laws.specs.Nodes.{FitsChild, FitsItem, FitsNode, IsNumber, IsSized, child_entry, item_entry, number_bytes, sized, spelled_node}
use Rattle.tree_laws.specs.Reading.{AreCounted, IsTaken}
use Rattle.tree_laws.specs.Spelled.{IsPrefixFree, IsSpelledOnce}
use Rattle.tree_laws.proofs.Prefixes.{child_parts, item_prefix_free, node_prefix_free, number_long, number_prefix_free, one_more, sized_prefix_free}

-- the bytes begin with no value of this kind
abbrev pub BeginsNone : {T : Type 0} → (T → Type 0) → (T → List ℕ) → List ℕ → Type 0
BeginsNone {T} fits spelled bytes = (value : T) (more : List ℕ) → fits value → bytes ≢ spelled value ++ more

-- ---- faults

module _ {A B : Type 0} (fa : A → Type 0) (sa : A → List ℕ) (fb : B → Type 0) (sb : B → List ℕ) (bytes left whole after : List ℕ) where
  at_fault : (e : ReadFault) → IsTaken fa sa bytes left (Err e) → (BeginsNone fa sa bytes → BeginsNone fb sb whole) → IsTaken fb sb whole after (Err e)
  at_fault read_fault.NotThere taken none = none taken
  at_fault read_fault.NoMemory taken none = tt

  -- a part isn't taken, so the whole isn't
  pub passed_on : (e y : ReadFault) (q : Result B ReadFault) → y ≡ e → q ≡ Err y → IsTaken fa sa bytes left (Err e) → (BeginsNone fa sa bytes → BeginsNone fb sb whole) → IsTaken fb sb whole after q
  passed_on e y q same is taken none = subst (IsTaken fb sb whole after) (sym (is ∙ ap Err same)) (at_fault e taken none)

-- ---- numbers, and bytes behind their length

pub too_short : (bytes : List ℕ) → length bytes < 8 → BeginsNone IsNumber number_bytes bytes
too_short bytes short value more fits same =
    let eight = number_long value in
    omega (arith, ap length same, length-append (number_bytes value) more)

module _ (bytes left : List ℕ) (count : ℕ) (number : IsNumber count) (is : bytes ≡ number_bytes count ++ left) where
  counted : (value more : List ℕ) → IsSized value → bytes ≡ sized value ++ more → (count ≡ length value) × (left ≡ value ++ more)
  counted value more fits same = number_prefix_free count (length value) left (value ++ more) number fits (sym is ∙ same ∙ append_assoc (number_bytes (length value)) value more)

  -- the length is greater than what is left
  pub past_end : length left < count → BeginsNone IsSized sized bytes
  past_end less value more fits same =
      let parts = counted value more fits same in
      omega (arith, ap length parts.1, length-append value more, parts.0)

-- ---- entries

module _ {T : Type 0} (fits : T → Type 0) (spelled : T → List ℕ) (once : IsSpelledOnce fits spelled) where
  -- behind the length stand the bytes of no item
  pub no_item : (bytes part left : List ℕ) → IsSized part → bytes ≡ sized part ++ left → ((item : T) → fits item → spelled item ≢ part) → BeginsNone (FitsItem fits spelled) (item_entry spelled) bytes
  no_item bytes part left short is none value more fit same =
      let parts = sized_prefix_free part (spelled value) left more short fit.short (sym is ∙ same) in
      none value fit.fits (sym parts.0)

  -- nothing behind a length
  pub no_sized : (bytes : List ℕ) → BeginsNone IsSized sized bytes → BeginsNone (FitsItem fits spelled) (item_entry spelled) bytes
  no_sized bytes none value more fit same = none (spelled value) more fit.short same

  module _ (bytes left : List ℕ) (at : ℕ) (number : IsNumber at) (is : bytes ≡ number_bytes at ++ left) where
    behind_at : (value : Child T) (more : List ℕ) → FitsChild fits spelled value → bytes ≡ child_entry spelled value ++ more → left ≡ number_bytes value.count ++ (item_entry spelled value.last ++ (sized value.sum ++ more))
    behind_at value more fit same = (number_prefix_free at value.at left _ number fit.at (sym is ∙ same ∙ child_parts fits spelled once value more)).1

    pub no_count : BeginsNone IsNumber number_bytes left → BeginsNone (FitsChild fits spelled) (child_entry spelled) bytes
    no_count none value more fit same = none value.count _ fit.count (behind_at value more fit same)

    module _ (left2 : List ℕ) (count : ℕ) (number2 : IsNumber count) (is2 : left ≡ number_bytes count ++ left2) where
      behind_count : (value : Child T) (more : List ℕ) → FitsChild fits spelled value → bytes ≡ child_entry spelled value ++ more → left2 ≡ item_entry spelled value.last ++ (sized value.sum ++ more)
      behind_count value more fit same = (number_prefix_free count value.count left2 _ number2 fit.count (sym is2 ∙ behind_at value more fit same)).1

      pub no_last : BeginsNone (FitsItem fits spelled) (item_entry spelled) left2 → BeginsNone (FitsChild fits spelled) (child_entry spelled) bytes
      no_last none value more fit same = none value.last _ fit.last (behind_count value more fit same)

      pub no_sum : (left3 : List ℕ) (last : T) → FitsItem fits spelled last → left2 ≡ item_entry spelled last ++ left3 → BeginsNone IsSized sized left3 → BeginsNone (FitsChild fits spelled) (child_entry spelled) bytes
      no_sum left3 last fit3 is3 none value more fit same =
          none value.sum more fit.sum (item_prefix_free fits spelled once last value.last left3 _ fit3 fit.last (sym is3 ∙ behind_count value more fit same)).1

-- ---- entries one after another

module _ {X : Type 0} (fits : X → Type 0) (spelled : X → List ℕ) where
  pub no_more : IsPrefixFree fits spelled → (bytes left : List ℕ) (xs : List X) (count i : ℕ) → length xs ≡ i → i < count → All fits xs → bytes ≡ flat_map spelled xs ++ left
      → BeginsNone fits spelled left → BeginsNone (AreCounted count fits) (flat_map spelled) bytes
  no_more free bytes left xs count i long less fit is none values more fv same =
      let next = one_more fits spelled free xs values left more (omega (arith, fv.0)) fit fv.1 (sym is ∙ same) in
      none next.0 next.1 next.2 next.3

  pub taken_more : (bytes left after : List ℕ) (xs ys : List X) (x : X) → bytes ≡ flat_map spelled xs ++ left → left ≡ spelled x ++ after → ys ≡ xs ++ x ∷ [] → bytes ≡ flat_map spelled ys ++ after
  taken_more bytes left after xs ys x is first more =
      is ∙ ap (λ bs. flat_map spelled xs ++ bs) first ∙ sym (append_assoc (flat_map spelled xs) (spelled x) after)
      ∙ ap (λ bs. (flat_map spelled xs ++ bs) ++ after) (sym (append-nil (spelled x)))
      ∙ ap (λ bs. bs ++ after) (sym (flat_map-append spelled xs (x ∷ [])) ∙ ap (flat_map spelled) (sym more))

  pub all_more : (xs ys : List X) (x : X) → All fits xs → fits x → ys ≡ xs ++ x ∷ [] → All fits ys
  all_more xs ys x fit fx more = subst (All fits) (sym more) (All-append fits xs (x ∷ []) fit (All-cons fits x [] fx (All-nil fits)))

  pub long_more : (xs ys : List X) (x : X) (i : ℕ) → length xs ≡ i → ys ≡ xs ++ x ∷ [] → length ys ≡ i + 1
  long_more xs ys x i long more = ap length more ∙ omega (arith, length-append xs (x ∷ []), long)

  -- the bytes of one value more were written
  pub put_more : (xs : List X) (i : ℕ) (x : X) (front out new : List ℕ) → i < length xs → x ≡ get_or xs i x → out ≡ front ++ flat_map spelled (take i xs) → new ≡ out ++ spelled x → new ≡ front ++ flat_map spelled (take (i + 1) xs)
  put_more xs i x front out new less at is more =
      let step : take (i + 1) xs ≡ take i xs ++ x ∷ [] = take_more xs i x less ∙ ap (λ y. take i xs ++ y ∷ []) (sym at) in
      more ∙ ap (λ bs. bs ++ spelled x) is ∙ append_assoc front (flat_map spelled (take i xs)) (spelled x)
      ∙ ap (λ bs. front ++ bs) (ap (λ bs. flat_map spelled (take i xs) ++ bs) (sym (append-nil (spelled x))) ∙ sym (flat_map-append spelled (take i xs) (x ∷ [])) ∙ ap (flat_map spelled) (sym step))

  pub fit_more : (xs : List X) (i : ℕ) (x : X) → i < length xs → x ≡ get_or xs i x → All fits (take i xs) → fits x → All fits (take (i + 1) xs)
  fit_more xs i x less at fit fx = All-more fits xs i x less fit (subst fits at fx)

-- ---- nodes

module _ {T : Type 0} (fits : T → Type 0) (spelled : T → List ℕ) (once : IsSpelledOnce fits spelled) where
  -- bytes are left behind a node
  pub goes_on : (bytes left : List ℕ) (node : Node T) → FitsNode fits spelled node → bytes ≡ spelled_node spelled node ++ left → left ≢ [] → (value : Node T) → FitsNode fits spelled value → spelled_node spelled value ≢ bytes
  goes_on bytes left node fit is some value fv same =
      some (node_prefix_free fits spelled once node value left [] fit fv (sym is ∙ sym same ∙ sym (append-nil (spelled_node spelled value)))).1
