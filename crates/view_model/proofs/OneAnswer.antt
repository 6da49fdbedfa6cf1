-- Answers where the value of each group is one text, and where it is one of more.
use Rattle.std.specs.Prelude.{◌≡◌, ℕ, List, [], ◌∷◌, Bool, true, false, refl, map, if◌then◌else◌}
use Rattle.std.proofs.Common.{ap, sym, ◌∙◌}
use Rattle.std.specs.List.{AllZip}
use Rattle.json_terms.specs.Json.{Json}
use Rattle.json_terms.specs.declared.term.Row.{Row}
use Rattle.raw_collation.specs.declared.group.Level.{Level}
use Rattle.query_args.specs.declared.query.Query.{Query}
use Rattle.view_model.specs.Answer.{answer, groups_answer, key_of_group, keyed, rows_answer, IsAnswer}
use Rattle.view_model.specs.AnswerLaws.{HasAnswer, IsOneAnswer}
use Rattle.view_model.specs.Groups.{picked_groups}
use Rattle.view_model.proofs.GroupAnswers.{zip_weaker}

-- the texts may be any of more
pub weaker_answer : (P Q : List Row → List ℕ → Type 0) → ((group : List Row) (text : List ℕ) → P group text → Q group text)
    → (query : Query) (seq : ℕ) (rows : List Row) (text : List ℕ) → IsAnswer P query seq rows text → IsAnswer Q query seq rows text
weaker_answer P Q weaker query seq rows text is = record {
  whole = is.whole;
  reduced = λ reduced. let groups = is.reduced reduced in record {
    values = groups.values;
    each = zip_weaker P Q weaker (picked_groups query rows) groups.values groups.each;
    is = groups.is;
  };
}

module _ (value : List Row → List ℕ) where
  abbrev Own : List Row → List ℕ → Type 0
  Own group text = text ≡ value group

  abbrev pair : Level → List Row → Json × List ℕ
  pair level group = (key_of_group level group, value group)

  own_values : (level : Level) (groups : List (List Row)) (texts : List (List ℕ)) → AllZip Own groups texts → keyed level groups texts ≡ map (pair level) groups
  own_values level [] [] each = refl
  own_values level [] (text ∷ texts) each = absurd each
  own_values level (group ∷ groups) [] each = absurd each
  own_values level (group ∷ groups) (text ∷ texts) each =
      ap (λ t. (key_of_group level group, t) ∷ keyed level groups texts) each.0 ∙ ap (λ rest. pair level group ∷ rest) (own_values level groups texts each.1)

  all_own : (groups : List (List Row)) → AllZip Own groups (map value groups)
  all_own [] = tt
  all_own (group ∷ groups) = (refl, all_own groups)

  -- as the answer is chosen
  abbrev either : Query → ℕ → List Row → Bool → List ℕ
  either query seq rows reduced = if reduced then groups_answer query seq (map (pair query.level) (picked_groups query rows)) else rows_answer query seq rows

  module _ (query : Query) (seq : ℕ) (rows : List Row) where
    grouped : query.reduced ≡ true → groups_answer query seq (map (pair query.level) (picked_groups query rows)) ≡ answer value query seq rows
    grouped reduced = ap (either query seq rows) (sym reduced)

    ungrouped : query.reduced ≡ false → rows_answer query seq rows ≡ answer value query seq rows
    ungrouped whole = ap (either query seq rows) (sym whole)

    one : (reduced : Bool) → query.reduced ≡ reduced → (text : List ℕ) → IsAnswer Own query seq rows text → text ≡ answer value query seq rows
    one true reduced text is =
        let groups = is.reduced reduced in
        groups.is ∙ ap (groups_answer query seq) (own_values query.level (picked_groups query rows) groups.values groups.each) ∙ grouped reduced
    one false whole text is = is.whole whole ∙ ungrouped whole

    some : IsAnswer Own query seq rows (answer value query seq rows)
    some = record {
      whole = λ whole. sym (ungrouped whole);
      reduced = λ reduced. let groups = picked_groups query rows in record {
        values = map value groups;
        each = all_own groups;
        is = sym (grouped reduced) ∙ ap (groups_answer query seq) (sym (own_values query.level groups (map value groups) (all_own groups)));
      };
    }

pub one_answer : IsOneAnswer
one_answer value query seq rows text is = one value query seq rows query.reduced refl text is

pub has_answer : HasAnswer
has_answer value query seq rows = some value query seq rows
