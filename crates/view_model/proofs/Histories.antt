-- The last writes of a history are those of its first writes that weren't followed by another, and those since.
use Rattle.std.specs.Prelude.{◌≡◌, ℕ, List, [], ◌∷◌, ◌++◌, length, filter, refl, Bool, true, false, not, ◌&&◌, ◌||◌, nat_lt, bytes_eq, Option, Some, None, option_map, if◌then◌else◌}
use Rattle.std.specs.List.{cons_option}
use Rattle.std.proofs.Common.{ap, sym, ◌∙◌, append-nil, append_assoc, inl, inr, arith}
use Rattle.std.proofs.lemmas.Bool.{cases_Bool, lt-ltb}
use Rattle.std.proofs.lemmas.List.Elements.{filter-append, filter_agree, filter_map-append}
use Rattle.std.proofs.lemmas.Slice.Eq.{bytes_eq-Decides}
use Rattle.json_terms.specs.Json.{Json}
use Rattle.design_docs.specs.History.{Write, changes_after, of_others, mapped_by, mapped_after}
use Rattle.design_docs.specs.Documents.{is_design_id}
use Rattle.view_model.specs.Since.{first, is_among, mapped_of}
use Rattle.view_model.proofs.Lists.{filter_all, filter_both}

pub bytes_eq-sym : (x y : List ℕ) → bytes_eq x y ≡ bytes_eq y x
bytes_eq-sym x y =
    elim (cases_Bool (bytes_eq x y)) [
      | inl same ↦ same ∙ sym ((bytes_eq-Decides y x).1 (sym ((bytes_eq-Decides x y).0 same)))
      | inr differ ↦ elim (cases_Bool (bytes_eq y x)) [
        | inl same ↦ absurd (let clash : bytes_eq x y ≡ true = (bytes_eq-Decides x y).1 (sym ((bytes_eq-Decides y x).0 same)) in cc)
        | inr also ↦ differ ∙ sym also
      ]
    ]

or_assoc : (a b c : Bool) → (a || (b || c)) ≡ ((a || b) || c)
or_assoc true b c = refl
or_assoc false b c = refl

or_again : (a b : Bool) → (a || b) ≡ ((b || a) || b)
or_again true true = refl
or_again true false = refl
or_again false true = refl
or_again false false = refl

or_false : (a : Bool) → (a || false) ≡ a
or_false true = refl
or_false false = refl

not_or : (a b : Bool) → (not a && not b) ≡ not (a || b)
not_or true b = refl
not_or false b = refl

-- with one more write its id is among them
pub is_among-more : (seq : ℕ) (write : Write) (changes : List (ℕ × Write)) (id : List ℕ)
    → is_among (of_others write.id changes ++ (seq, write) ∷ []) id ≡ (is_among changes id || bytes_eq id write.id)
is_among-more seq write [] id = or_false (bytes_eq id write.id)
is_among-more seq write (c ∷ changes) id =
    let rest = is_among-more seq write changes id in
    let others : List (ℕ × Write) = of_others write.id changes in
    elim (bytes_eq write.id (c.1).id) as (λ b. bytes_eq write.id (c.1).id ≡ b
    → is_among ((if not b then c ∷ others else others) ++ (seq, write) ∷ []) id ≡ ((bytes_eq id (c.1).id || is_among changes id) || bytes_eq id write.id)) [
      | true ↦ λ same.
          let own : write.id ≡ (c.1).id = (bytes_eq-Decides write.id (c.1).id).0 same in
          rest ∙ or_again (is_among changes id) (bytes_eq id write.id) ∙ ap (λ (i : List ℕ). (bytes_eq id i || is_among changes id) || bytes_eq id write.id) own
      | false ↦ λ other. ap (λ r. bytes_eq id (c.1).id || r) rest ∙ or_assoc (bytes_eq id (c.1).id) (is_among changes id) (bytes_eq id write.id)
    ] refl

-- those of which no write is among the changes
abbrev pub still : List (ℕ × Write) → List (ℕ × Write) → List (ℕ × Write)
still changes = filter (λ change. not (is_among changes (change.1).id))

still-more : (seq : ℕ) (write : Write) (changes before : List (ℕ × Write))
    → of_others write.id (still changes before) ≡ still (of_others write.id changes ++ (seq, write) ∷ []) before
still-more seq write changes before =
    filter_both (λ (c : ℕ × Write). not (bytes_eq write.id (c.1).id)) (λ (c : ℕ × Write). not (is_among changes (c.1).id)) before
    ∙ filter_agree (λ (c : ℕ × Write). not (is_among changes (c.1).id) && not (bytes_eq write.id (c.1).id))
    (λ (c : ℕ × Write). not (is_among (of_others write.id changes ++ (seq, write) ∷ []) (c.1).id))
    (λ c. ap (λ (b : Bool). not (is_among changes (c.1).id) && not b) (bytes_eq-sym write.id (c.1).id)
    ∙ not_or (is_among changes (c.1).id) (bytes_eq (c.1).id write.id)
    ∙ ap not (sym (is_among-more seq write changes (c.1).id))) before

pub all_since : (write : Write) (older : List Write) → changes_after 0 (write ∷ older) ≡ of_others write.id (changes_after 0 older) ++ (length (write ∷ older), write) ∷ []
all_since write older =
    ap (λ (b : Bool). if b then of_others write.id (changes_after 0 older) ++ (length (write ∷ older), write) ∷ [] else []) (lt-ltb 0 (length (write ∷ older)) (omega arith))

pub changes_since : (seq : ℕ) (history : List Write) → changes_after 0 history ≡ still (changes_after seq history) (changes_after 0 (first seq history)) ++ changes_after seq history
changes_since seq [] = refl
changes_since seq (write ∷ older) =
    let now : ℕ = length (write ∷ older) in
    let last : List (ℕ × Write) = (now, write) ∷ [] in
    let since : List (ℕ × Write) = changes_after seq older in
    let before : List (ℕ × Write) = changes_after 0 (first seq older) in
    let new : List (ℕ × Write) = of_others write.id since ++ last in
    let all : List (ℕ × Write) = changes_after 0 (write ∷ older) in
    elim (nat_lt seq now) as (λ b. all ≡ still (if b then new else []) (changes_after 0 (if b then first seq older else write ∷ older)) ++ (if b then new else [])) [
      | true ↦
          all_since write older
          ∙ ap (λ l. of_others write.id l ++ last) (changes_since seq older)
          ∙ ap (λ l. l ++ last) (filter-append (λ (c : ℕ × Write). not (bytes_eq write.id (c.1).id)) (still since before) since)
          ∙ append_assoc (of_others write.id (still since before)) (of_others write.id since) last
          ∙ ap (λ l. l ++ new) (still-more now write since before)
      | false ↦ sym (ap (λ l. l ++ []) (filter_all all) ∙ append-nil all)
    ]

-- ---- what is mapped of them

abbrev pub left : Bool → List ℕ → Option Json → Option (List ℕ × Json)
left design id document = if design then None else option_map (λ d. (id, d)) document

module _ (test : List ℕ → Bool) where
  abbrev passes : List (List ℕ × Json) → List (List ℕ × Json)
  passes = filter (λ entry. test entry.0)

  left_passes : (design : Bool) (id : List ℕ) (document : Option Json) (rest : List (List ℕ × Json)) → test id ≡ true
      → cons_option (left design id document) (passes rest) ≡ passes (cons_option (left design id document) rest)
  left_passes true id document rest is = refl
  left_passes false id None rest is = refl
  left_passes false id (Some d) rest is = sym (ap (λ b. if b then (id, d) ∷ passes rest else passes rest) is)

  left_fails : (design : Bool) (id : List ℕ) (document : Option Json) (rest : List (List ℕ × Json)) → test id ≡ false
      → passes rest ≡ passes (cons_option (left design id document) rest)
  left_fails true id document rest is = refl
  left_fails false id None rest is = refl
  left_fails false id (Some d) rest is = sym (ap (λ b. if b then (id, d) ∷ passes rest else passes rest) is)

  pub mapped_of-filter : (changes : List (ℕ × Write)) → mapped_of (filter (λ change. test (change.1).id) changes) ≡ passes (mapped_of changes)
  mapped_of-filter [] = refl
  mapped_of-filter (c ∷ changes) =
      let rest = mapped_of-filter changes in
      let kept : List (ℕ × Write) = filter (λ change. test (change.1).id) changes in
      let own : Option (List ℕ × Json) = left (is_design_id (c.1).id) (c.1).id (c.1).document in
      elim (test (c.1).id) as (λ b. test (c.1).id ≡ b → mapped_of (if b then c ∷ kept else kept) ≡ passes (cons_option own (mapped_of changes))) [
        | true ↦ λ is. ap (cons_option own) rest ∙ left_passes (is_design_id (c.1).id) (c.1).id (c.1).document (mapped_of changes) is
        | false ↦ λ is. rest ∙ left_fails (is_design_id (c.1).id) (c.1).id (c.1).document (mapped_of changes) is
      ] refl

pub mapped_since : (seq : ℕ) (history : List Write)
    → mapped_after 0 history ≡ filter (λ entry. not (is_among (changes_after seq history) entry.0)) (mapped_after 0 (first seq history)) ++ mapped_after seq history
mapped_since seq history =
    let changes : List (ℕ × Write) = changes_after seq history in
    let before : List (ℕ × Write) = changes_after 0 (first seq history) in
    ap mapped_of (changes_since seq history)
    ∙ filter_map-append (λ (change : ℕ × Write). mapped_by change.1) (still changes before) changes
    ∙ ap (λ l. l ++ mapped_of changes) (mapped_of-filter (λ id. not (is_among changes id)) before)
