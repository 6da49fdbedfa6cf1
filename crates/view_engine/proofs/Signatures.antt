-- Of which views signatures are, as a history goes on, and what is held of a world by them.
use Rattle.std.specs.Prelude.{◌≡◌, ◌≢◌, ◌⊎◌, ◌≤◌, ℕ, zero, suc, List, [], ◌∷◌, Bool, true, false, if◌then◌else◌, length, Option, Some, None, All, Contains, bytes_eq, nat_lt, slice_index_or}
use Rattle.std.proofs.Common.{refl, sym, ap, ◌∙◌, subst, inl, inr, arith}
use Rattle.std.proofs.lemmas.List.Elements.{Contains-append_right}
use Rattle.std.proofs.lemmas.Slice.Eq.{bytes_eq-Decides}
use Rattle.json_terms.specs.Json.{Json}
use Rattle.design_docs.specs.Documents.{is_design_id}
use Rattle.design_docs.specs.Design.{language_of, views_of}
use Rattle.design_docs.specs.History.{Write}
use Rattle.view_ports.specs.File.{File}
use Rattle.view_ports.specs.Functions.{Functions}
use Rattle.view_ports.specs.declared.file_name.FileName.{FileName}
use Rattle.view_ports.specs.declared.file_name.Stem.TheVariants.{View as ViewStem}
use Rattle.child_pool.specs.Languages.{path_in}
use Rattle.view_model.specs.Picture.{Picture}
use Rattle.view_model.specs.Since.{first}
use Rattle.view_model.specs.Standing.{AreSetAt, AreSigned, IsDesignIn}
use Rattle.view_model.proofs.Designs.{digests_tell_designs}
use Rattle.view_model.proofs.Firsts.{first_all, first_less}
use Rattle.view_signature.specs.Signature.{digest_of, signature_of}
use Rattle.tree_index.specs.Calls.{IsAt as IsIndexAt}
use Rattle.tree_index.specs.Index.{stem_of}
use Rattle.tree_groups.specs.declared.groups.Groups.{Groups}
use Rattle.tree_groups.specs.Groups.{open_of, AreAt as AreIndexesAt, OpensOnly}
use Rattle.tree_groups.specs.Pictures.{Kind, Pictures, AreHeld, StandFor}
use Rattle.tree_groups.proofs.Standing.{image_kinds_are_free, kinds_are_free, same_or_not}
use Rattle.view_engine.specs.Signatures.{design_in, first_or, kind_of, kinds_by, oldest_design, signed_so, AreOpenOwned, AreOwned, HasSignature}
use Rattle.view_engine.specs.Updating.{AreFit}

-- ---- designs of a history that goes on

pub still_stored : (write : Write) (history : List Write) (document : Json) → IsDesignIn history document → IsDesignIn (write ∷ history) document
still_stored write history document is = record { id = is.id; design = is.design; stored = Contains-append_right (write ∷ []) history (record { id = is.id; document = Some document }) is.stored }

-- the designs of a history that goes on are fit only where those before are
pub fit_before : (write : Write) (history : List Write) → AreFit (write ∷ history) → AreFit history
fit_before write history fit = record {
  apart = λ one other is also. fit.apart one other (still_stored write history one is) (still_stored write history other also);
}

-- designs that are fit are the same to views where their signatures are
pub fit_signed : (languages : List (List ℕ × List ℕ)) (history : List Write) → AreFit history → AreSigned signature_of (λ document. path_in languages (language_of document)) views_of history
fit_signed languages history fit = digests_tell_designs digest_of (path_in languages) history fit.apart

pub has_later : (write : Write) (history : List Write) (sig : List ℕ) → HasSignature history sig → HasSignature (write ∷ history) sig
has_later write history sig has = record { document = has.document; stored = still_stored write history has.document has.stored; signed = has.signed }

in_first : (write : Write) (older : List Write) (x : Write) → Contains (write ∷ older) x → (write ≡ x) ⊎ Contains older x
in_first write older x (zero, below, is) = inl is
in_first write older x (suc k, below, is) = inr (k, omega (arith, below), is)

-- ---- the oldest design of a signature

-- a design document with it
own_design : (sig : List ℕ) (id : List ℕ) (document : Json) → is_design_id id ≡ true → signature_of document ≡ sig → signed_so sig (design_in (record { id = id; document = Some document })) ≡ Some document
own_design sig id document design signed =
    ap (λ (b : Bool). signed_so sig (if b then Some document else None)) design
    ∙ ap (λ (b : Bool). if b then Some document else None) ((bytes_eq-Decides (signature_of document) sig).1 signed)

-- where a design document has the signature, there is an oldest one
pub found_design : (history : List Write) (sig : List ℕ) → HasSignature history sig → (document : Json) × (oldest_design history sig ≡ Some document)
found_design history sig has = by_stored history (has.stored).stored
  where
    by_stored : (h : List Write) → Contains h (record { id = (has.stored).id; document = Some has.document }) → (document : Json) × (oldest_design h sig ≡ Some document)
    by_stored [] stored = absurd (let below = stored.1 in omega (arith, below))
    by_stored (write ∷ older) stored = elim (in_first write older (record { id = (has.stored).id; document = Some has.document }) stored) [
      | inl this ↦ by_older (oldest_design older sig) refl
          (ap (λ (w : Write). signed_so sig (design_in w)) this ∙ own_design sig (has.stored).id has.document (has.stored).design has.signed)
      | inr rest ↦ let found = by_stored older rest in (found.0, ap (λ o. first_or o (signed_so sig (design_in write))) found.1)
    ]
      where
        by_older : (o : Option Json) → oldest_design older sig ≡ o → signed_so sig (design_in write) ≡ Some has.document → (document : Json) × (oldest_design (write ∷ older) sig ≡ Some document)
        by_older None there own = (has.document, ap (λ o. first_or o (signed_so sig (design_in write))) there ∙ own)
        by_older (Some document) there own = (document, ap (λ o. first_or o (signed_so sig (design_in write))) there)

-- and it is one of the history that has it
pub record IsOldest (history : List Write) (sig : List ℕ) (document : Json) : Type 0 where
  pub stored : IsDesignIn history document
  pub signed : signature_of document ≡ sig

first_stored : (write : Write) (older : List Write) (document : Json) → is_design_id write.id ≡ true → write.document ≡ Some document → IsDesignIn (write ∷ older) document
first_stored write older document design stored = record {
  id = write.id;
  design = design;
  stored = (0, omega arith, let same : write ≡ record { id = write.id; document = Some document } = λ i. record { id = write.id; document = stored i } in same);
}

pub oldest_is : (history : List Write) (sig : List ℕ) (document : Json) → oldest_design history sig ≡ Some document → IsOldest history sig document
oldest_is [] sig document is = absurd (let clash : ⊥ = cc in clash)
oldest_is (write ∷ older) sig document is = by_older (λ found there. oldest_is older sig found there) (oldest_design older sig) refl
  where
    by_signed : (own : Json) → is_design_id write.id ≡ true → write.document ≡ Some own → (b : Bool) → bytes_eq (signature_of own) sig ≡ b → (if b then Some own else None) ≡ Some document
        → IsOldest (write ∷ older) sig document
    by_signed own design stored true signed there =
        let same : own ≡ document = cc in
        subst (IsOldest (write ∷ older) sig) same (record { stored = first_stored write older own design stored; signed = (bytes_eq-Decides (signature_of own) sig).0 signed })
    by_signed own design stored false signed there = absurd (let clash : ⊥ = cc in clash)

    by_stored : (stored : Option Json) → write.document ≡ stored → is_design_id write.id ≡ true → signed_so sig stored ≡ Some document → IsOldest (write ∷ older) sig document
    by_stored None stored design there = absurd (let clash : ⊥ = cc in clash)
    by_stored (Some own) stored design there = by_signed own design stored (bytes_eq (signature_of own) sig) refl there

    by_design : (b : Bool) → is_design_id write.id ≡ b → signed_so sig (if b then write.document else None) ≡ Some document → IsOldest (write ∷ older) sig document
    by_design true design there = by_stored write.document refl design there
    by_design false design there = absurd (let clash : ⊥ = cc in clash)

    by_older : ((found : Json) → oldest_design older sig ≡ Some found → IsOldest older sig found) → (o : Option Json) → oldest_design older sig ≡ o → IsOldest (write ∷ older) sig document
    by_older before (Some found) there =
        let oldest = before found there in
        let all : Some found ≡ Some document = ap (λ o. first_or o (signed_so sig (design_in write))) (sym there) ∙ is in
        let same : found ≡ document = cc in
        subst (IsOldest (write ∷ older) sig) same (record { stored = still_stored write older found oldest.stored; signed = oldest.signed })
    by_older before None there = by_design (is_design_id write.id) refl (ap (λ o. first_or o (signed_so sig (design_in write))) (sym there) ∙ is)

-- ---- kinds

module _ (functions : List ℕ → List ℕ → Option Functions) where
  -- a newer write doesn't change of which kind a signature is that a design document has
  pub kind_later : (write : Write) (history : List Write) (sig : List ℕ) → HasSignature history sig → kinds_by functions (write ∷ history) sig ≡ kinds_by functions history sig
  kind_later write history sig has =
      let found = found_design history sig has in
      ap (kind_of (functions sig)) (ap (λ o. first_or o (signed_so sig (design_in write))) found.1 ∙ sym found.1)

  -- where designs that differ have different signatures, that of a design is of its views, and of the functions of its language
  pub kind_is : (history : List Write) → AreFit history → (document : Json) → IsDesignIn history document
      → ((kinds_by functions history (signature_of document)).views ≡ views_of document) × ((kinds_by functions history (signature_of document)).functions ≡ functions (signature_of document) (language_of document))
  kind_is history fit document is =
      let found = found_design history (signature_of document) (record { document = document; stored = is; signed = refl }) in
      let oldest = oldest_is history (signature_of document) found.0 found.1 in
      let kind : kinds_by functions history (signature_of document) ≡ kind_of (functions (signature_of document)) (Some found.0) = ap (kind_of (functions (signature_of document))) found.1 in
      let signed = digests_tell_designs digest_of (λ language. Some language) history fit.apart found.0 document oldest.stored is oldest.signed in
      let named : Some (language_of found.0) ≡ Some (language_of document) = signed.0 in
      let same : language_of found.0 ≡ language_of document = cc in
      (ap (λ (k : Kind). k.views) kind ∙ signed.1, ap (λ (k : Kind). k.functions) kind ∙ ap (functions (signature_of document)) same)

-- a design document that was stored by some write of the history is one of it
has_whole : (count : ℕ) (history : List Write) (sig : List ℕ) → HasSignature (first count history) sig → HasSignature history sig
has_whole count [] sig has = has
has_whole count (write ∷ older) sig has = by_test (has_whole count older sig) (nat_lt count (length (write ∷ older))) refl
  where
    by_test : (HasSignature (first count older) sig → HasSignature older sig) → (t : Bool) → nat_lt count (length (write ∷ older)) ≡ t → HasSignature (write ∷ older) sig
    by_test before true test = has_later write older sig (before (subst (λ h. HasSignature h sig) (ap (λ b. if b then first count older else write ∷ older) test) has))
    by_test before false test = subst (λ h. HasSignature h sig) (ap (λ b. if b then first count older else write ∷ older) test) has

-- ---- what is held

module _ (functions : List ℕ → List ℕ → Option Functions) (write : Write) (history : List Write) (pictures : Pictures) (owned : AreOwned history pictures) where
  free_later : (sig : List ℕ) → (pictures sig ≡ None) ⊎ (kinds_by functions (write ∷ history) sig ≡ kinds_by functions history sig)
  free_later sig = by_picture (pictures sig) refl
    where
      by_picture : (picture : Option Picture) → pictures sig ≡ picture → (pictures sig ≡ None) ⊎ (kinds_by functions (write ∷ history) sig ≡ kinds_by functions history sig)
      by_picture None is = inl is
      by_picture (Some picture) is = inr (kind_later functions write history sig (has_whole picture.seq history sig (owned sig picture is)))

  pub owned_later : ((sig : List ℕ) (picture : Picture) → pictures sig ≡ Some picture → picture.seq ≤ length history) → AreOwned (write ∷ history) pictures
  owned_later within sig picture is = subst (λ h. HasSignature h sig) (sym (first_less picture.seq write history (within sig picture is))) (owned sig picture is)

  pub stand_later : (image : FileName → List ℕ) → StandFor (kinds_by functions history) image pictures → StandFor (kinds_by functions (write ∷ history)) image pictures
  stand_later image stand = image_kinds_are_free (kinds_by functions history) (kinds_by functions (write ∷ history)) image pictures free_later stand

  pub held_later : (files : FileName → File) → AreHeld (kinds_by functions history) files pictures → AreHeld (kinds_by functions (write ∷ history)) files pictures
  held_later files held = kinds_are_free (kinds_by functions history) (kinds_by functions (write ∷ history)) files pictures free_later held

  pub indexes_later : (groups : Groups) (files : FileName → File) → AreOpenOwned history groups → AreIndexesAt (kinds_by functions history) groups files pictures → AreIndexesAt (kinds_by functions (write ∷ history)) groups files pictures
  indexes_later groups files opened at = record {
    held = held_later files at.held;
    each = λ k d within sig named.
        subst (λ (kind : Kind). IsIndexAt kind.functions kind.views (slice_index_or (open_of groups) k d) files (pictures sig)) (sym (kind_later functions write history sig (opened k d within sig named))) (at.each k d within sig named);
  }

pub opened_later : (write : Write) (history : List Write) (groups : Groups) → AreOpenOwned history groups → AreOpenOwned (write ∷ history) groups
opened_later write history groups opened k d within sig named = has_later write history sig (opened k d within sig named)

-- where none is open
pub none_opened : (history : List Write) (groups : Groups) → open_of groups ≡ [] → AreOpenOwned history groups
none_opened history groups none k d within = absurd (let few : length (open_of groups) ≡ 0 = ap length none in omega (arith, within, few))

-- where some are closed the others are those of designs
pub opened_fewer : (history : List Write) (groups groups' : Groups) → All (Contains (open_of groups)) (open_of groups') → AreOpenOwned history groups → AreOpenOwned history groups'
opened_fewer history groups groups' closes opened k d within sig named =
    let there = closes k d within in
    opened there.0 (slice_index_or (open_of groups') k d) there.1 sig (ap stem_of there.2 ∙ named)

-- and where none is opened but one of a design
pub opened_beside : (history : List Write) (own : List ℕ) (groups groups' : Groups) → HasSignature history own → OpensOnly (ViewStem own) groups groups' → AreOpenOwned history groups → AreOpenOwned history groups'
opened_beside history own groups groups' has only opened k d within sig named = by_sig (same_or_not sig own)
  where
    by_sig : (sig ≡ own) ⊎ (sig ≢ own) → HasSignature history sig
    by_sig (inl same) = subst (HasSignature history) (sym same) has
    by_sig (inr differs) =
        let there = only k d within (λ is. differs (let same : ViewStem sig ≡ ViewStem own = sym named ∙ is in cc)) in
        opened there.0 (slice_index_or (open_of groups') k d) there.1 sig (ap stem_of there.2 ∙ named)

-- ---- pictures that are set, or gone

pub owned_set : (history : List Write) (own : List ℕ) (next : Picture) (before after : Pictures) → next.seq ≡ length history → HasSignature history own → AreOwned history before → AreSetAt own (Some next) before after → AreOwned history after
owned_set history own next before after seq has owned set sig picture is = by_test (bytes_eq sig own) refl
  where
    by_test : (t : Bool) → bytes_eq sig own ≡ t → HasSignature (first picture.seq history) sig
    by_test true test =
        let there : Some next ≡ Some picture = sym (set sig ∙ ap (λ b. if b then Some next else before sig) test) ∙ is in
        let same : next ≡ picture = cc in
        let number : picture.seq ≡ length history = ap (λ (p : Picture). p.seq) (sym same) ∙ seq in
        subst (λ h. HasSignature h sig) (sym (first_all picture.seq history (omega (arith, number)))) (subst (HasSignature history) (sym ((bytes_eq-Decides sig own).0 test)) has)
    by_test false test = owned sig picture (sym (set sig ∙ ap (λ b. if b then Some next else before sig) test) ∙ is)
