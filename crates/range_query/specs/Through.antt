-- Values of groups that are had through a reference to a summer.
use Rattle.std.proofs.Common.{◌≡◌, ℕ, List, refl, ap, ◌∙◌}
use Rattle.json_terms.specs.declared.term.Row.{Row}
use Rattle.tree_laws.specs.Meaning.{AreSteps, KeepsMeaning, Meaning, StaysCaused}
use Rattle.view_model.specs.GroupValues.{KeepsValues}
use Rattle.range_query.specs.Summed.{IsSummedText}

-- the reference is the same, and what it points to made such a step
abbrev pub Through : {A B N : Type 0} → (A → N) → (A → B) → (B → B → Type 0) → A → A → Type 0
Through name at Goes a b = (name b ≡ name a) × Goes (at a) (at b)

module _ {A B N : Type 0} (name : A → N) (at : A → B) (Goes : B → B → Type 0) where
  pub are_steps_through : AreSteps Goes → AreSteps (Through name at Goes)
  are_steps_through steps = record {
    none = λ a. (refl, steps.none (at a));
    both = λ a b c first second. (second.0 ∙ first.0, steps.both (at a) (at b) (at c) first.1 second.1);
  }

  pub stays_caused_through : {F : Type 0} (Fails : B → B → F → Type 0) → StaysCaused Goes Fails → StaysCaused (Through name at Goes) (λ a b fault. Through name at (λ x y. Fails x y fault) a b)
  stays_caused_through Fails stays = λ a b c fault before cause. (cause.0 ∙ before.0, stays (at a) (at b) (at c) fault before.1 cause.1)

-- ---- what the values mean

module _ {S : Type 0} (text_of : S → List ℕ) (Fits Still : S → Type 0) (Lawful Now : Type 0) (m now : Meaning Row S) (same : now ≡ m) (lawful : Lawful → Now) (fits : (sum : S) → Still sum → Fits sum) (group : List Row) (text : List ℕ) where
  earlier : IsSummedText text_of Still Now now group text → IsSummedText text_of Fits Lawful m group text
  earlier is = record { sum = is.sum; is = λ l. is.is (lawful l) ∙ ap (λ own. own.value group) same; fits = fits is.sum is.fits; shown = is.shown }

pub keeps_through : {A B N S : Type 0} (name : A → N) (at : A → B) (Goes : B → B → Type 0) (text_of : S → List ℕ) (means : B → Meaning Row S) (Lawful Usable : B → Type 0)
    (Fits : B → S → Type 0) → KeepsMeaning Goes means Lawful Usable Fits
    → KeepsValues (Through name at Goes) (λ a. IsSummedText text_of (Fits (at a)) (Lawful (at a)) (means (at a)))
keeps_through name at Goes text_of means Lawful Usable Fits k = record {
  value = λ a b group text goes.
      earlier text_of (Fits (at a)) (Fits (at b)) (Lawful (at a)) (Lawful (at b)) (means (at a)) (means (at b)) (k.meaning (at a) (at b) goes.1) (k.lawful (at a) (at b) goes.1)
      (λ sum. (k.fits (at a) (at b) sum goes.1).1) group text;
}
