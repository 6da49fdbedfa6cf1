-- Pictures stand where there are none, after each write, update and drop, and at an earlier moment.
use Rattle.std.specs.Prelude.{◌≡◌, ◌≤◌, ℕ, List, [], ◌∷◌, length, refl, true, false, Option, Some, None, unwrap_or, bytes_eq, Contains, nat_lt, if◌then◌else◌}
use Rattle.std.proofs.Common.{ap, sym, ◌∙◌, subst, arith, inl, inr}
use Rattle.std.proofs.lemmas.Bool.{cases_Bool, cases_lt}
use Rattle.std.proofs.lemmas.List.Elements.{Contains-append_right}
use Rattle.std.proofs.lemmas.Slice.Eq.{bytes_eq-Decides}
use Rattle.json_terms.specs.Json.{Json}
use Rattle.view_ports.specs.Functions.{Functions}
use Rattle.design_docs.specs.History.{Write}
use Rattle.view_model.specs.Since.{first}
use Rattle.view_model.specs.Picture.{Picture, IsTrueOf, picture_or_none, IsShaped}
use Rattle.view_model.specs.Standing.{AreSetAt, DropsKeepPictures, FirstsHavePictures, IsDesignIn, PicturesStand, UpdatesKeepPictures, WritesKeepPictures, NoPicturesStand}
use Rattle.view_model.proofs.Firsts.{first_all, first_less, first-first, length-first}
use Rattle.view_model.proofs.Pictures.{is_true_before, no_picture_is_true, stays_true}
use Rattle.view_model.proofs.Updates.{updates_stay_true}
use Rattle.design_docs.specs.declared.design.View.{View}
use Rattle.view_model.proofs.Shapes.{no_picture_is_shaped, updates_keep_shape}

still_in : (history : List Write) (write : Write) (document : Json) → IsDesignIn history document → IsDesignIn (write ∷ history) document
still_in history write document is = record { id = is.id; design = is.design; stored = Contains-append_right (write ∷ []) history (record { id = is.id; document = Some document }) is.stored }

in_first : (count : ℕ) (history : List Write) (write : Write) → Contains (first count history) write → Contains history write
in_first count [] write has = has
in_first count (w ∷ older) write has =
    elim (nat_lt count (length (w ∷ older))) as (λ b. Contains (if b then first count older else w ∷ older) write → Contains (w ∷ older) write) [
      | true ↦ λ there. Contains-append_right (w ∷ []) older write (in_first count older write there)
      | false ↦ λ there. there
    ] has

stored_in : (count : ℕ) (history : List Write) (document : Json) → IsDesignIn (first count history) document → IsDesignIn history document
stored_in count history document is = record { id = is.id; design = is.design; stored = in_first count history (record { id = is.id; document = Some document }) is.stored }

module _ (own : List ℕ) (set : Option Picture) (before after : List ℕ → Option Picture) (are : AreSetAt own set before after) where
  is_set : (sig : List ℕ) (picture : Picture) → after sig ≡ Some picture → bytes_eq sig own ≡ true → set ≡ Some picture
  is_set sig picture has same = sym (are sig ∙ ap (λ b. if b then set else before sig) same) ∙ has

  is_kept : (sig : List ℕ) (picture : Picture) → after sig ≡ Some picture → bytes_eq sig own ≡ false → before sig ≡ Some picture
  is_kept sig picture has other = sym (are sig ∙ ap (λ b. if b then set else before sig) other) ∙ has

one_value : {X : Type 0} (x y : X) → Some x ≡ Some y → x ≡ y
one_value {X} x y same = ap (λ (o : Option X). unwrap_or o x) same

module _ (signature : Json → List ℕ) (path_for : Json → Option (List ℕ)) (views_for : Json → List View) (functions : List ℕ → Functions) (honest : List ℕ → Type 0) where
  abbrev Stand : List Write → (List ℕ → Option Picture) → Type 0
  Stand = PicturesStand signature path_for views_for functions honest

  pub no_pictures_stand : NoPicturesStand signature path_for views_for functions honest
  no_pictures_stand history pictures none = record {
    within = λ sig picture has. absurd (let clash : None ≡ Some picture = sym (none sig) ∙ has in cc);
    owned = λ sig picture has. absurd (let clash : None ≡ Some picture = sym (none sig) ∙ has in cc);
    shaped = λ sig picture document has. absurd (let clash : None ≡ Some picture = sym (none sig) ∙ has in cc);
    are_true = λ sig picture document path has. absurd (let clash : None ≡ Some picture = sym (none sig) ∙ has in cc);
  }

  pub writes_keep_pictures : WritesKeepPictures signature path_for views_for functions honest
  writes_keep_pictures history write pictures signed stand = record {
    within = λ sig picture has. let low = stand.within sig picture has in omega arith;
    owned = λ sig picture has. let own = stand.owned sig picture has in (own.0, subst (λ h. IsDesignIn h own.0) (sym (first_less picture.seq write history (stand.within sig picture has))) own.1, own.2);
    shaped = λ sig picture document has design is.
        let own = stand.owned sig picture has in
        let same = signed document own.0 design (still_in history write own.0 (stored_in picture.seq history own.0 own.1)) (is ∙ sym own.2) in
        subst (λ views. IsShaped views picture) (sym same.1) (stand.shaped sig picture own.0 has (stored_in picture.seq history own.0 own.1) own.2);
    are_true = λ sig picture document path has design is goes is_honest.
        let own = stand.owned sig picture has in
        let same = signed document own.0 design (still_in history write own.0 (stored_in picture.seq history own.0 own.1)) (is ∙ sym own.2) in
        let was : IsTrueOf (functions path) (views_for own.0) history picture = stand.are_true sig picture own.0 path has (stored_in picture.seq history own.0 own.1) own.2 (sym same.0 ∙ goes) is_honest in
        stays_true (functions path) (views_for document) history write picture (subst (λ views. IsTrueOf (functions path) views history picture) (sym same.1) was);
  }

  old_is_true : (history : List Write) (document : Json) (path : List ℕ) (before : List ℕ → Option Picture) (old : Option Picture) → before (signature document) ≡ old → Stand history before
      → IsDesignIn history document → path_for document ≡ Some path → honest path → IsTrueOf (functions path) (views_for document) history (picture_or_none (views_for document) old)
  old_is_true history document path before None has stand design goes is_honest = no_picture_is_true (functions path) (views_for document) history
  old_is_true history document path before (Some picture) has stand design goes is_honest = stand.are_true (signature document) picture document path has design refl goes is_honest

  old_is_shaped : (history : List Write) (document : Json) (before : List ℕ → Option Picture) (old : Option Picture) → before (signature document) ≡ old → Stand history before
      → IsDesignIn history document → IsShaped (views_for document) (picture_or_none (views_for document) old)
  old_is_shaped history document before None has stand design = no_picture_is_shaped (views_for document)
  old_is_shaped history document before (Some picture) has stand design = stand.shaped (signature document) picture document has design refl

  pub updates_keep_pictures : UpdatesKeepPictures signature path_for views_for functions honest
  updates_keep_pictures history document path new before after signed stand design goes updated sound are =
      let own : List ℕ = signature document in
      record {
        within = λ sig picture has. elim (cases_Bool (bytes_eq sig own)) [
          | inl same ↦ (let is : new ≡ picture = one_value new picture (is_set own (Some new) before after are sig picture has same) in
              subst (λ (p : Picture). p.seq ≤ length history) is (let end = updated.seq in omega (arith, end)))
          | inr other ↦ stand.within sig picture (is_kept own (Some new) before after are sig picture has other)
        ];
        owned = λ sig picture has. elim (cases_Bool (bytes_eq sig own)) [
          | inl same ↦
              (let is : new ≡ picture = one_value new picture (is_set own (Some new) before after are sig picture has same) in
              let all : first new.seq history ≡ history = first_all new.seq history (let end = updated.seq in omega (arith, end)) in
              (document, subst (λ h. IsDesignIn h document) (sym all ∙ ap (λ (p : Picture). first p.seq history) is) design, sym ((bytes_eq-Decides sig own).0 same)))
          | inr other ↦ stand.owned sig picture (is_kept own (Some new) before after are sig picture has other)
        ];
        shaped = λ sig picture asked has there is. elim (cases_Bool (bytes_eq sig own)) [
          | inl same ↦
              (let now : new ≡ picture = one_value new picture (is_set own (Some new) before after are sig picture has same) in
              let like = signed asked document there design (is ∙ (bytes_eq-Decides sig own).0 same) in
              let shape : IsShaped (views_for document) new =
              updates_keep_shape (functions path) (honest path) (views_for document) history (picture_or_none (views_for document) (before own)) new
              (old_is_shaped history document before (before own) refl stand design) updated in
              subst (λ (p : Picture). IsShaped (views_for asked) p) now (subst (λ views. IsShaped views new) (sym like.1) shape))
          | inr other ↦ stand.shaped sig picture asked (is_kept own (Some new) before after are sig picture has other) there is
        ];
        are_true = λ sig picture asked way has there is leads is_honest. elim (cases_Bool (bytes_eq sig own)) [
          | inl same ↦
              (let now : new ≡ picture = one_value new picture (is_set own (Some new) before after are sig picture has same) in
              let like = signed asked document there design (is ∙ (bytes_eq-Decides sig own).0 same) in
              let one : way ≡ path = one_value way path (sym leads ∙ like.0 ∙ goes) in
              let does : honest path = subst honest one is_honest in
              let truth : IsTrueOf (functions path) (views_for document) history new =
              updates_stay_true (functions path) (honest path) (views_for document) history (picture_or_none (views_for document) (before own)) new
              (old_is_true history document path before (before own) refl stand design goes does) does updated (sound does) in
              subst (λ (p : Picture). IsTrueOf (functions way) (views_for asked) history p) now
              (subst (λ views. IsTrueOf (functions way) views history new) (sym like.1)
              (subst (λ (p : List ℕ). IsTrueOf (functions p) (views_for document) history new) (sym one) truth)))
          | inr other ↦ stand.are_true sig picture asked way (is_kept own (Some new) before after are sig picture has other) there is leads is_honest
        ];
      }

  kept_if : (own : List ℕ) (before after : List ℕ → Option Picture) → AreSetAt own None before after → (sig : List ℕ) (picture : Picture) → after sig ≡ Some picture → before sig ≡ Some picture
  kept_if own before after are sig picture has = elim (cases_Bool (bytes_eq sig own)) [
    | inl same ↦ absurd (let clash : None ≡ Some picture = is_set own None before after are sig picture has same in cc)
    | inr other ↦ is_kept own None before after are sig picture has other
  ]

  pub drops_keep_pictures : DropsKeepPictures signature path_for views_for functions honest
  drops_keep_pictures history own before after stand are = record {
    within = λ sig picture has. stand.within sig picture (kept_if own before after are sig picture has);
    owned = λ sig picture has. stand.owned sig picture (kept_if own before after are sig picture has);
    shaped = λ sig picture document has. stand.shaped sig picture document (kept_if own before after are sig picture has);
    are_true = λ sig picture document path has. stand.are_true sig picture document path (kept_if own before after are sig picture has);
  }

  pub firsts_have_pictures : FirstsHavePictures signature path_for views_for functions honest
  firsts_have_pictures history count before after stand reach =
      let truth : (sig : List ℕ) (picture : Picture) (document : Json) (path : List ℕ) → after sig ≡ Some picture → IsDesignIn (first count history) document → signature document ≡ sig
      → path_for document ≡ Some path → honest path → IsTrueOf (functions path) (views_for document) (first count history) picture =
      λ sig picture document path has design is goes is_honest.
      let was = reach sig picture has in
      is_true_before (functions path) (views_for document) history count picture was.1 (stand.are_true sig picture document path was.0 (stored_in count history document design) is goes is_honest) in
      record {
        within = λ sig picture has.
            let was = reach sig picture has in
            let low = stand.within sig picture was.0 in
            elim (cases_lt count (length history)) [
              | inl less ↦ (let long = length-first count history (omega arith) in omega (arith, was.1, long))
              | inr more ↦ (let all = ap length (first_all count history more) in omega (arith, low, all))
            ];
        owned = λ sig picture has.
            let was = reach sig picture has in
            let own = stand.owned sig picture was.0 in
            (own.0, subst (λ h. IsDesignIn h own.0) (sym (first-first picture.seq count history was.1)) own.1, own.2);
        shaped = λ sig picture document has design is.
            let was = reach sig picture has in
            stand.shaped sig picture document was.0 (stored_in count history document design) is;
        are_true = truth;
      }
