-- True pictures: where there is none, after another write, at the end, and where a source doesn't compile.
use Rattle.std.specs.Prelude.{◌≡◌, ℕ, List, [], ◌∷◌, ◌++◌, length, map, filter, refl, true, false, not, ◌||◌, IsPermutation, if◌then◌else◌}
use Rattle.std.proofs.Common.{ap, sym, ◌∙◌, subst, arith, inl, inr}
use Rattle.std.proofs.lemmas.Bool.{cases_lt}
use Rattle.std.proofs.lemmas.List.Sorted.{length_permutation}
use Rattle.json_terms.specs.Json.{Json}
use Rattle.json_terms.specs.declared.term.Row.{Row}
use Rattle.view_ports.specs.Functions.{Functions}
use Rattle.design_docs.specs.History.{Write, changes_after, mapped, mapped_after}
use Rattle.view_model.specs.Since.{first, is_among}
use Rattle.view_model.specs.Rows.{rows_of, spoiled, maps_compile, has_some, reduce_fails, some_reduce_fails}
use Rattle.view_model.specs.Picture.{Picture, IsTrueOf}
use Rattle.view_model.specs.Laws.{NoPictureIsTrue, StaysTrue, IsTrueBefore, ComplaintsMeetAll, IsSpoiledAsMet, IsSpoiledByMapped}
use Rattle.view_model.proofs.Firsts.{first_all, first_less, first_none, first-first, length-first}
use Rattle.view_model.proofs.Histories.{mapped_since}
use Rattle.design_docs.proofs.MappedOrder.{mapped_listed}
use Rattle.view_model.proofs.Updates.{updates_are_afresh}
use Rattle.design_docs.specs.declared.design.View.{View}
use Rattle.design_docs.specs.declared.design.Reduce.{Reduce}
use Rattle.design_docs.specs.declared.design.Reduce.TheVariants.{Absent, Builtin, Source}

module _ (functions : Functions) (views : List View) where
  -- ---- no picture

  no_rows : (vs : List View) → map (λ (view : View). []) vs ≡ rows_of functions vs []
  no_rows [] = refl
  no_rows (view ∷ vs) = ap (λ (l : List (List Row)). [] ∷ l) (no_rows vs)

  none_wanted : (reduce : Reduce) → reduce_fails functions reduce [] ≡ false
  none_wanted Absent = refl
  none_wanted (Builtin builtin) = refl
  none_wanted (Source source) = refl

  none_fails : (vs : List View) → some_reduce_fails functions vs (rows_of functions vs []) ≡ false
  none_fails [] = refl
  none_fails (view ∷ vs) = ap (λ b. b || some_reduce_fails functions vs (rows_of functions vs [])) (none_wanted view.reduce) ∙ none_fails vs

  never_spoiled : spoiled functions views [] ≡ false
  never_spoiled =
      elim (maps_compile functions views) as (λ b. (if b then some_reduce_fails functions views (rows_of functions views []) else false) ≡ false) [
        | true ↦ none_fails views
        | false ↦ refl
      ]

  pub no_picture_is_true : NoPictureIsTrue functions views
  no_picture_is_true history = record {
    within = omega arith;
    rows = no_rows views ∙ ap (rows_of functions views) (sym (first_none history));
    sound = ap (spoiled functions views) (first_none history) ∙ never_spoiled;
  }

  -- ---- other histories

  pub stays_true : StaysTrue functions views
  stays_true history write picture is =
      let same : first picture.seq (write ∷ history) ≡ first picture.seq history = first_less picture.seq write history is.within in
      record {
        within = let low = is.within in omega arith;
        rows = is.rows ∙ ap (rows_of functions views) (sym same);
        sound = ap (spoiled functions views) same ∙ is.sound;
      }

  -- ---- a map source that doesn't compile

  empty : {X : Type 0} (xs : List X) → has_some xs ≡ false → xs ≡ []
  empty [] none = refl
  empty (x ∷ xs) none = absurd cc

  no_length : {X : Type 0} (xs : List X) → length xs ≡ 0 → xs ≡ []
  no_length [] none = refl
  no_length (x ∷ xs) none = absurd (omega (arith, none))

  some_length : {X : Type 0} (xs ys : List X) → length xs ≡ length ys → has_some xs ≡ has_some ys
  some_length [] [] same = refl
  some_length [] (y ∷ ys) same = absurd (omega (arith, same))
  some_length (x ∷ xs) [] same = absurd (omega (arith, same))
  some_length (x ∷ xs) (y ∷ ys) same = refl

  none_before : (history : List Write) (picture : Picture) → IsTrueOf functions views history picture → maps_compile functions views ≡ false → mapped_after 0 (first picture.seq history) ≡ []
  none_before history picture is fails =
      let before : List Write = first picture.seq history in
      let none : mapped before ≡ [] =
      empty (mapped before) (sym (ap (λ b. if b then some_reduce_fails functions views (rows_of functions views before) else has_some (mapped before)) fails) ∙ is.sound) in
      no_length (mapped_after 0 before) (length_permutation (mapped before) (mapped_after 0 before) (mapped_listed before) ∙ ap length none)

  all_since : (history : List Write) (picture : Picture) → IsTrueOf functions views history picture → maps_compile functions views ≡ false → mapped_after 0 history ≡ mapped_after picture.seq history
  all_since history picture is fails =
      mapped_since picture.seq history
      ∙ ap (λ l. filter (λ (entry : List ℕ × Json). not (is_among (changes_after picture.seq history) entry.0)) l ++ mapped_after picture.seq history) (none_before history picture is fails)

  pub complaints_meet_all : ComplaintsMeetAll functions views
  complaints_meet_all history picture is fails = subst (IsPermutation (mapped history)) (all_since history picture is fails) (mapped_listed history)

  pub some_mapped : (history : List Write) (picture : Picture) → IsTrueOf functions views history picture → maps_compile functions views ≡ false
      → has_some (mapped history) ≡ has_some (mapped_after picture.seq history)
  some_mapped history picture is fails =
      some_length (mapped history) (mapped_after picture.seq history) (sym (length_permutation (mapped history) (mapped_after picture.seq history) (complaints_meet_all history picture is fails)))

  pub is_spoiled_by_mapped : IsSpoiledByMapped functions views
  is_spoiled_by_mapped history picture is fails =
      ap (λ b. if b then some_reduce_fails functions views (rows_of functions views history) else has_some (mapped history)) fails ∙ some_mapped history picture is fails

module _ (functions : Functions) (views : List View) where
  pub is_true_before : IsTrueBefore functions views
  is_true_before history count picture seq is =
      let same : first picture.seq (first count history) ≡ first picture.seq history = first-first picture.seq count history seq in
      record {
        within = elim (cases_lt count (length history)) [
          | inl less ↦ (let long = length-first count history (omega arith) in omega (arith, seq, long))
          | inr more ↦ (let all = ap length (first_all count history more) in omega (arith, is.within, all))
        ];
        rows = is.rows ∙ ap (rows_of functions views) (sym same);
        sound = ap (spoiled functions views) same ∙ is.sound;
      }

pub is_spoiled_as_met : (functions : Functions) (honest : Type 0) (views : List View) → IsSpoiledAsMet functions honest views
is_spoiled_as_met functions honest views history old new is is_honest updated =
    let rows : new.rows ≡ rows_of functions views history = updates_are_afresh functions honest views history old new is is_honest updated in
    elim (maps_compile functions views) as (λ b. maps_compile functions views ≡ b
    → (if b then some_reduce_fails functions views (rows_of functions views history) else has_some (mapped history)) ≡ (if b then some_reduce_fails functions views new.rows else has_some (mapped_after old.seq history))) [
      | true ↦ λ compile. ap (some_reduce_fails functions views) (sym rows)
      | false ↦ λ fails. some_mapped functions views history old is fails
    ] refl
