-- The designs of a history are fit, or two of them clash: it has finitely many, and of each two it can be told whether they differ.
use Rattle.std.specs.Prelude.{◌≡◌, ◌≢◌, ◌⊎◌, zero, suc, List, [], ◌∷◌, Bool, true, false, Option, Some, None, Contains, refl}
use Rattle.std.proofs.Common.{ap, sym, ◌∙◌, subst, inl, inr, arith}
use Rattle.std.specs.declared.cmp.Ordering.{Ordering}
use Rattle.std.specs.declared.cmp.Ordering.TheVariants.{Less, Equal, Greater}
use Rattle.json_terms.specs.Json.{Json}
use Rattle.raw_collation.specs.Collation.{json_cmp}
use Rattle.raw_collation.proofs.Equals.{json_cmp-equal, json_cmp-refl}
use Rattle.design_docs.specs.Documents.{is_design_id}
use Rattle.design_docs.specs.Design.{design_term}
use Rattle.design_docs.specs.History.{Write}
use Rattle.view_model.specs.Standing.{IsDesignIn}
use Rattle.view_signature.specs.Signature.{signature_of}
use Rattle.tree_groups.proofs.Standing.{same_or_not}
use Rattle.view_engine.specs.Updating.{AreFit, HasClash}
use Rattle.view_engine.proofs.Signatures.{still_stored}

-- ---- two terms, and two designs

-- two terms that come out as equal in the order of views are the same, and others aren't
pub json_same_or_not : (a b : Json) → (a ≡ b) ⊎ (a ≢ b)
json_same_or_not a b = by_order (json_cmp a b) refl
  where
    equal : a ≡ b → json_cmp a b ≡ Equal
    equal same = ap (json_cmp a) (sym same) ∙ json_cmp-refl a

    by_order : (order : Ordering) → json_cmp a b ≡ order → (a ≡ b) ⊎ (a ≢ b)
    by_order Equal is = inl (json_cmp-equal a b is)
    by_order Less is = inr (λ same. let both : Less ≡ Equal = sym is ∙ equal same in let clash : ⊥ = cc in clash)
    by_order Greater is = inr (λ same. let both : Greater ≡ Equal = sym is ∙ equal same in let clash : ⊥ = cc in clash)

-- two designs differ in their signatures, or in nothing that matters to views
abbrev Agree : Json → Json → Type 0
Agree one other = signature_of one ≡ signature_of other → design_term one ≡ design_term other

-- the signatures of two designs are one, and yet they differ
abbrev Clash : Json → Json → Type 0
Clash one other = (signature_of one ≡ signature_of other) × (design_term one ≢ design_term other)

agree_or_clash : (one other : Json) → Agree one other ⊎ Clash one other
agree_or_clash one other = by_signature (same_or_not (signature_of one) (signature_of other))
  where
    by_term : signature_of one ≡ signature_of other → (design_term one ≡ design_term other) ⊎ (design_term one ≢ design_term other) → Agree one other ⊎ Clash one other
    by_term signed (inl same) = inl (λ signed. same)
    by_term signed (inr differ) = inr (signed, differ)

    by_signature : (signature_of one ≡ signature_of other) ⊎ (signature_of one ≢ signature_of other) → Agree one other ⊎ Clash one other
    by_signature (inl signed) = by_term signed (json_same_or_not (design_term one) (design_term other))
    by_signature (inr differ) = inl (λ signed. absurd (differ signed))

-- ---- the designs of a history

-- a design that the newest write doesn't store is of an older one
older_or_newest : (write : Write) (older : List Write) (document : Json) → IsDesignIn (write ∷ older) document
    → ((is_design_id write.id ≡ true) × (write.document ≡ Some document)) ⊎ IsDesignIn older document
older_or_newest write older document is = by_place is.stored
  where
    stored : Write
    stored = record { id = is.id; document = Some document }

    by_place : Contains (write ∷ older) stored → ((is_design_id write.id ≡ true) × (write.document ≡ Some document)) ⊎ IsDesignIn older document
    by_place (zero, below, same) = inl (ap (λ (w : Write). is_design_id w.id) same ∙ is.design, ap (λ (w : Write). w.document) same)
    by_place (suc k, below, same) = inr (record { id = is.id; design = is.design; stored = (k, omega (arith, below), same) })

newest_stored : (write : Write) (older : List Write) (document : Json) → is_design_id write.id ≡ true → write.document ≡ Some document → IsDesignIn (write ∷ older) document
newest_stored write older document design stored = record {
  id = write.id;
  design = design;
  stored = (0, omega arith, let same : write ≡ record { id = write.id; document = Some document } = λ i. record { id = write.id; document = stored i } in same);
}

-- one of the designs of a history is so
record HasOne (history : List Write) (is_so : Json → Type 0) : Type 0 where
  document : Json
  stored : IsDesignIn history document
  so : is_so document

-- each of them is so
abbrev AreEach : List Write → (Json → Type 0) → Type 0
AreEach history is_so = (document : Json) → IsDesignIn history document → is_so document

-- where of each term one of two things can be told, the first is so of each design of a history, or the second of one
module _ (is_good is_bad : Json → Type 0) (tell : (document : Json) → is_good document ⊎ is_bad document) where
  -- each is good where those of the older writes are, and the one that the newest write may store
  each_later : (write : Write) (older : List Write) → AreEach older is_good → ((document : Json) → is_design_id write.id ≡ true → write.document ≡ Some document → is_good document)
      → AreEach (write ∷ older) is_good
  each_later write older each newest document is = elim (older_or_newest write older document is) [
    | inl first ↦ newest document first.0 first.1
    | inr rest ↦ each document rest
  ]

  by_newest : (write : Write) (older : List Write) → AreEach older is_good → (design : Bool) → is_design_id write.id ≡ design → (stored : Option Json) → write.document ≡ stored
      → AreEach (write ∷ older) is_good ⊎ HasOne (write ∷ older) is_bad
  by_newest write older each false design stored there = inl (each_later write older each (λ document is also. absurd (let clash : ⊥ = cc in clash)))
  by_newest write older each true design None there = inl (each_later write older each (λ document is also. absurd (let clash : ⊥ = cc in clash)))
  by_newest write older each true design (Some newest) there = elim (tell newest) [
    | inl good ↦ inl (each_later write older each (λ document is also. let both : Some newest ≡ Some document = sym there ∙ also in let same : newest ≡ document = cc in subst is_good same good))
    | inr bad ↦ inr (record { document = newest; stored = newest_stored write older newest design there; so = bad })
  ]

  each_or_one : (history : List Write) → AreEach history is_good ⊎ HasOne history is_bad
  each_or_one [] = inl (λ document is. absurd (let below = (is.stored).1 in omega (arith, below)))
  each_or_one (write ∷ older) = elim (each_or_one older) [
    | inl each ↦ by_newest write older each (is_design_id write.id) refl write.document refl
    | inr one ↦ inr (record { document = one.document; stored = still_stored write older one.document one.stored; so = one.so })
  ]

-- ---- a history

-- a design goes with each of a history, or clashes with one
with_each : (history : List Write) (one : Json) → AreEach history (Agree one) ⊎ HasOne history (Clash one)
with_each history one = each_or_one (Agree one) (Clash one) (agree_or_clash one) history

-- the designs of a history are fit, or two of them have one signature and differ
pub fit_or_clash : (history : List Write) → AreFit history ⊎ HasClash history
fit_or_clash history = elim (each_or_one (λ one. AreEach history (Agree one)) (λ one. HasOne history (Clash one)) (with_each history) history) [
  | inl each ↦ inl (record { apart = λ one other is also. each one is other also })
  | inr first ↦
      let second = first.so in
      inr (record { one = first.document; other = second.document; first = first.stored; second = second.stored; signed = (second.so).0; differ = (second.so).1 })
]
