-- The documents that views map whose last write came after some number are the same in either order.
use Rattle.std.specs.Prelude.{◌≡◌, ◌⊎◌, ℕ, List, [], ◌∷◌, Bool, true, false, filter, nat_lt, Option, Some, None, option_map, if◌then◌else◌, ◌<◌, All, AllPairs}
use Rattle.std.specs.List.{filter_map, cons_option}
use Rattle.std.specs.List.Sorted.{IsPermutation}
use Rattle.std.proofs.Common.{inl, inr, refl, sym, ap, ◌∙◌, subst, arith}
use Rattle.std.proofs.lemmas.List.Elements.{All-head, All-tail}
use Rattle.json_terms.specs.Json.{Json}
use Rattle.design_docs.specs.Documents.{is_design_id}
use Rattle.design_docs.specs.History.{Write, changes_after, last_seq, last_write, last_writes, mapped, mapped_after}
use Rattle.design_docs.proofs.MappedOrder.{kept, of_change, taken_once, to_map}
use Rattle.design_docs.proofs.Numbers.{each_numbered, is_after, later, rises, IsNumbered}
use Rattle.design_docs.proofs.Ids.{bool_cases}

module _ (seq : ℕ) (history : List Write) where
  -- the id's last write came later
  abbrev is_later : List ℕ → Bool
  is_later id = nat_lt seq (last_seq history id)

  -- an entry's document, where it is mapped and its last write came later
  abbrev map_later : List ℕ × Write → Option (List ℕ × Json)
  map_later entry = if is_later entry.0 then to_map entry else None

  -- ---- in byte order of id

  left_match : (id : List ℕ) (document : Option Json) (rest : List (List ℕ × Json)) → (is_design_id id ≡ true) ⊎ (is_design_id id ≡ false) → (is_later id ≡ true) ⊎ (is_later id ≡ false)
      → filter (λ e. is_later e.0) (cons_option (if is_design_id id then None else option_map (λ d. (id, d)) document) rest)
      ≡ cons_option (if is_later id then if is_design_id id then None else option_map (λ d. (id, d)) document else None) (filter (λ e. is_later e.0) rest)
  left_match id document rest (inl design) (inl after) = rw design (rw after refl)
  left_match id document rest (inl design) (inr before) = rw design (rw before refl)
  left_match id None rest (inr plain) (inl after) = rw plain (rw after refl)
  left_match id None rest (inr plain) (inr before) = rw plain (rw before refl)
  left_match id (Some d) rest (inr plain) (inl after) = rw plain (rw after refl)
  left_match id (Some d) rest (inr plain) (inr before) = rw plain (rw before refl)

  left : (entries : List (List ℕ × Write)) → filter (λ e. is_later e.0) (filter_map to_map entries) ≡ filter_map map_later entries
  left [] = refl
  left (e ∷ es) = left_match e.0 (e.1).document (filter_map to_map es) (bool_cases (is_design_id e.0)) (bool_cases (is_later e.0)) ∙ ap (cons_option (map_later e)) (left es)

  -- ---- in the order of the numbers

  right_match : (c : ℕ × Write) (cs : List (ℕ × Write)) → (nat_lt seq c.0 ≡ true) ⊎ (nat_lt seq c.0 ≡ false) → last_seq history (c.1).id ≡ c.0
      → filter_map (of_change map_later) cs ≡ filter_map (of_change to_map) (filter (is_after seq) cs)
      → filter_map (of_change map_later) (c ∷ cs) ≡ filter_map (of_change to_map) (filter (is_after seq) (c ∷ cs))
  right_match c cs (inl after) number rest = rw number (rw after (ap (cons_option (of_change to_map c)) rest))
  right_match c cs (inr before) number rest = rw number (rw before rest)

  right : (cs : List (ℕ × Write)) → All (IsNumbered history 0) cs → filter_map (of_change map_later) cs ≡ filter_map (of_change to_map) (filter (is_after seq) cs)
  right [] numbered = refl
  right (c ∷ cs) numbered =
      right_match c cs (bool_cases (nat_lt seq c.0)) (All-head (IsNumbered history 0) c cs numbered).number (right cs (All-tail (IsNumbered history 0) c cs numbered))

  pub later_listed : IsPermutation (filter (λ e. is_later e.0) (mapped history)) (mapped_after seq history)
  later_listed =
      let in_turn : filter_map (of_change map_later) (changes_after 0 history) ≡ mapped_after seq history =
      right (changes_after 0 history) (each_numbered 0 history) ∙ ap (filter_map (of_change to_map)) (later 0 seq history (omega arith)) in
      let by_id : filter (λ e. is_later e.0) (mapped history) ≡ filter_map map_later (last_writes history) =
      ap (filter (λ e. is_later e.0)) (kept (last_writes history)) ∙ left (last_writes history) in
      subst (λ l. IsPermutation l (mapped_after seq history)) (sym by_id)
      (subst (IsPermutation (filter_map map_later (last_writes history))) in_turn (taken_once map_later history))

-- each change is the last write of its id, and the numbers rise
pub numbered : (seq : ℕ) (history : List Write) → AllPairs (λ change later. change.0 < later.0) (changes_after seq history)
    × All (λ change. (last_write history (change.1).id ≡ Some change.1) × (last_seq history (change.1).id ≡ change.0)) (changes_after seq history)
numbered seq history = (rises seq history, λ k d within. let is = each_numbered seq history k d within in (is.write, is.number))
