-- The last writes in the order of their numbers are those in byte order of id, and so are the documents that views map.
use Rattle.std.specs.Prelude.{◌≡◌, ◌⊎◌, ℕ, List, [], ◌∷◌, ◌++◌, length, Bool, true, false, not, filter, Option, Some, None, option_map, bytes_eq, if◌then◌else◌}
use Rattle.std.specs.List.{filter_map, cons_option}
use Rattle.std.specs.List.Sorted.{IsPermutation}
use Rattle.std.proofs.Common.{inl, inr, refl, sym, ap, ◌∙◌, subst, arith, append-nil}
use Rattle.std.specs.declared.cmp.Ordering.TheVariants.{Less, Equal, Greater}
use Rattle.std.specs.Ordering.{is_eq, match_ordering}
use Rattle.std.specs.BTreeMap.{insert_entry}
use Rattle.std.proofs.lemmas.Bool.{lt-ltb}
use Rattle.std.proofs.lemmas.List.Elements.{filter_map-append}
use Rattle.std.proofs.lemmas.List.Sorted.{IsPermutation-append_left, IsPermutation-cons, IsPermutation-refl, IsPermutation-sym, IsPermutation-to_front, IsPermutation-trans}
use Rattle.std.proofs.lemmas.Map.Text.{is_eq-slice_cmp}
use Rattle.json_terms.specs.Json.{Json}
use Rattle.design_docs.specs.Documents.{is_design_id}
use Rattle.design_docs.specs.History.{Write, changes_after, last_writes, mapped, mapped_after, of_others, stored}
use Rattle.design_docs.proofs.LastWrites.{IsBelow, Rises, below_below, last_writes_rise, order, unlike}
use Rattle.design_docs.proofs.Numbers.{with_newest}
use Rattle.design_docs.proofs.Ids.{bool_cases, equal_id}

module _ {Y : Type 0} where
  -- what may be put in front may be put behind
  behind : (o : Option Y) (ys : List Y) → IsPermutation (cons_option o ys) (ys ++ cons_option o [])
  behind None ys = subst (IsPermutation ys) (sym (append-nil ys)) (IsPermutation-refl ys)
  behind (Some y) ys = IsPermutation-sym (ys ++ y ∷ []) (y ∷ ys) (IsPermutation-to_front ys y)

  in_front : (o : Option Y) (xs ys : List Y) → IsPermutation xs ys → IsPermutation (cons_option o xs) (cons_option o ys)
  in_front None xs ys same = same
  in_front (Some y) xs ys same = IsPermutation-cons y xs ys same

  append_front : (o : Option Y) (xs ys : List Y) → cons_option o xs ++ ys ≡ cons_option o (xs ++ ys)
  append_front None xs ys = refl
  append_front (Some y) xs ys = refl

  -- what is taken of the entries of other ids
  abbrev others : List ℕ → (List ℕ × Write → Option Y) → List ℕ × Write → Option Y
  others id take entry = if bytes_eq id entry.0 then None else take entry

  other_taken : (id : List ℕ) (take : List ℕ × Write → Option Y) (e : List ℕ × Write) → bytes_eq id e.0 ≡ false → others id take e ≡ take e
  other_taken id take e differs = rw differs refl

  own_left : (id : List ℕ) (take : List ℕ × Write → Option Y) (e : List ℕ × Write) → bytes_eq id e.0 ≡ true → others id take e ≡ None
  own_left id take e same = rw same refl

  all_taken : (id : List ℕ) (take : List ℕ × Write → Option Y) (es : List (List ℕ × Write)) → IsBelow id es → filter_map (others id take) es ≡ filter_map take es
  all_taken id take [] below = refl
  all_taken id take (e ∷ es) below =
      ap (λ o. cons_option o (filter_map (others id take) es)) (other_taken id take e (unlike id e.0 below.0)) ∙ ap (cons_option (take e)) (all_taken id take es below.1)

  -- setting an entry takes it in place of the one of its id
  set_entry : (id : List ℕ) (write : Write) (take : List ℕ × Write → Option Y) (es : List (List ℕ × Write)) → Rises es
      → IsPermutation (filter_map take (insert_entry order es id write)) (filter_map (others id take) es ++ cons_option (take (id, write)) [])
  set_entry id write take [] rises = IsPermutation-refl (cons_option (take (id, write)) [])
  set_entry id write take (e ∷ es) rises =
      elim (order id e.0) as (λ o. order id e.0 ≡ o
      → IsPermutation (filter_map take (match_ordering o ((id, write) ∷ e ∷ es) ((e.0, write) ∷ es) (e ∷ insert_entry order es id write))) (filter_map (others id take) (e ∷ es) ++ cons_option (take (id, write)) [])) [
        | Less ↦ λ is.
            subst (λ l. IsPermutation (cons_option (take (id, write)) (filter_map take (e ∷ es))) (l ++ cons_option (take (id, write)) []))
            (sym (all_taken id take (e ∷ es) (is, below_below id e.0 es is rises.0)))
            (behind (take (id, write)) (filter_map take (e ∷ es)))
        | Equal ↦ λ is.
            let same : id ≡ e.0 = equal_id id e.0 is in
            let own : bytes_eq id e.0 ≡ true = sym (is_eq-slice_cmp id e.0) ∙ ap is_eq is in
            let left : filter_map (others id take) (e ∷ es) ≡ filter_map take es =
            ap (λ o. cons_option o (filter_map (others id take) es)) (own_left id take e own) ∙ all_taken id take es (subst (λ i. IsBelow i es) (sym same) rises.0) in
            subst (λ i. IsPermutation (cons_option (take (i, write)) (filter_map take es)) (filter_map (others id take) (e ∷ es) ++ cons_option (take (id, write)) [])) same
            (subst (λ l. IsPermutation (cons_option (take (id, write)) (filter_map take es)) (l ++ cons_option (take (id, write)) [])) (sym left)
            (behind (take (id, write)) (filter_map take es)))
        | Greater ↦ λ is.
            let rest = filter_map (others id take) es in
            let last = cons_option (take (id, write)) [] in
            let differs : bytes_eq id e.0 ≡ false = sym (is_eq-slice_cmp id e.0) ∙ ap is_eq is in
            subst (IsPermutation (cons_option (take e) (filter_map take (insert_entry order es id write))))
            (sym (ap (λ o. cons_option o rest ++ last) (other_taken id take e differs) ∙ append_front (take e) rest last))
            (in_front (take e) (filter_map take (insert_entry order es id write)) (rest ++ last) (set_entry id write take es rises.1))
      ] refl

  -- what is taken of changes, each beside the id of its write
  abbrev pub of_change : (List ℕ × Write → Option Y) → ℕ × Write → Option Y
  of_change take change = take ((change.1).id, change.1)

  others_match : (id : List ℕ) (take : List ℕ × Write → Option Y) (c : ℕ × Write) (cs : List (ℕ × Write)) → (bytes_eq id (c.1).id ≡ true) ⊎ (bytes_eq id (c.1).id ≡ false)
      → filter_map (of_change take) (of_others id cs) ≡ filter_map (of_change (others id take)) cs
      → filter_map (of_change take) (of_others id (c ∷ cs)) ≡ filter_map (of_change (others id take)) (c ∷ cs)
  others_match id take c cs (inl same) rest = rw same rest
  others_match id take c cs (inr differs) rest = rw differs (ap (cons_option (of_change take c)) rest)

  others_changed : (id : List ℕ) (take : List ℕ × Write → Option Y) (cs : List (ℕ × Write)) → filter_map (of_change take) (of_others id cs) ≡ filter_map (of_change (others id take)) cs
  others_changed id take [] = refl
  others_changed id take (c ∷ cs) = others_match id take c cs (bool_cases (bytes_eq id (c.1).id)) (others_changed id take cs)

  -- of the last writes in either order the same is taken
  pub taken_once : (take : List ℕ × Write → Option Y) (history : List Write) → IsPermutation (filter_map take (last_writes history)) (filter_map (of_change take) (changes_after 0 history))
  taken_once take [] = IsPermutation-refl []
  taken_once take (write ∷ older) =
      let last = cons_option (take (write.id, write)) [] in
      let left = filter_map (others write.id take) (last_writes older) in
      let right = filter_map (of_change (others write.id take)) (changes_after 0 older) in
      let whole : filter_map (of_change take) (changes_after 0 (write ∷ older)) ≡ right ++ last =
      ap (filter_map (of_change take)) (with_newest 0 write older (lt-ltb 0 (length (write ∷ older)) (omega arith)))
      ∙ filter_map-append (of_change take) (of_others write.id (changes_after 0 older)) ((length (write ∷ older), write) ∷ [])
      ∙ ap (λ l. l ++ last) (others_changed write.id take (changes_after 0 older)) in
      subst (IsPermutation (filter_map take (last_writes (write ∷ older)))) (sym whole)
      (IsPermutation-trans (filter_map take (last_writes (write ∷ older))) (left ++ last) (right ++ last)
      (set_entry write.id write take (last_writes older) (last_writes_rise older))
      (IsPermutation-append_left last left right (taken_once (others write.id take) older)))

-- ---- the documents that views map

-- an entry's document, unless it is a deletion or a design document
abbrev pub to_map : List ℕ × Write → Option (List ℕ × Json)
to_map entry = if is_design_id entry.0 then None else option_map (λ document. (entry.0, document)) (entry.1).document

abbrev is_mapped : List ℕ × Json → Bool
is_mapped entry = not (is_design_id entry.0)

kept_match : (id : List ℕ) (document : Option Json) (rest : List (List ℕ × Json)) → (is_design_id id ≡ true) ⊎ (is_design_id id ≡ false)
    → filter is_mapped (cons_option (option_map (λ d. (id, d)) document) rest) ≡ cons_option (if is_design_id id then None else option_map (λ d. (id, d)) document) (filter is_mapped rest)
kept_match id None rest (inl design) = rw design refl
kept_match id None rest (inr plain) = rw plain refl
kept_match id (Some d) rest (inl design) = rw design refl
kept_match id (Some d) rest (inr plain) = rw plain refl

pub kept : (entries : List (List ℕ × Write)) → filter is_mapped (filter_map stored entries) ≡ filter_map to_map entries
kept [] = refl
kept (e ∷ es) = kept_match e.0 (e.1).document (filter_map stored es) (bool_cases (is_design_id e.0)) ∙ ap (cons_option (to_map e)) (kept es)

pub mapped_listed : (history : List Write) → IsPermutation (mapped history) (mapped_after 0 history)
mapped_listed history = subst (λ l. IsPermutation l (mapped_after 0 history)) (sym (kept (last_writes history))) (taken_once to_map history)
