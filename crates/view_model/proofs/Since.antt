-- The ids that have a write since are those whose last write is.
use Rattle.std.specs.Prelude.{◌≡◌, ◌≤◌, ℕ, List, [], ◌∷◌, ◌++◌, length, filter, refl, Bool, true, false, not, ◌&&◌, ◌||◌, nat_lt, bytes_eq, if◌then◌else◌}
use Rattle.std.specs.List.{AllByRecursion}
use Rattle.std.proofs.Common.{ap, sym, ◌∙◌, arith}
use Rattle.std.proofs.lemmas.Bool.{le-ltb, ltb-false, or_right}
use Rattle.std.proofs.lemmas.List.Elements.{filter-append, filter_agree}
use Rattle.json_terms.specs.Json.{Json}
use Rattle.design_docs.specs.History.{Write, changes_after, of_others, last_seq, mapped_after}
use Rattle.view_model.specs.Since.{first, is_among}
use Rattle.view_model.specs.Update.{ids_of}
use Rattle.view_model.specs.Laws.{ChangedIsWrittenSince, MapsWrittenSince}
use Rattle.view_model.proofs.Lists.{filter_both}
use Rattle.view_model.proofs.Histories.{is_among-more, mapped_since}
use Rattle.view_model.proofs.Distinct.{mapped_among}

last_seq-within : (history : List Write) (id : List ℕ) → last_seq history id ≤ length history
last_seq-within [] id = omega arith
last_seq-within (write ∷ older) id =
    let rest = last_seq-within older id in
    elim (bytes_eq id write.id) as (λ b. (if b then length (write ∷ older) else last_seq older id) ≤ length (write ∷ older)) [
      | true ↦ omega arith
      | false ↦ omega arith
    ]

pub changed_is_written_since : ChangedIsWrittenSince
changed_is_written_since [] seq id = sym (le-ltb seq 0 (omega arith))
changed_is_written_since (write ∷ older) seq id =
    let now : ℕ = length (write ∷ older) in
    let new : List (ℕ × Write) = of_others write.id (changes_after seq older) ++ (now, write) ∷ [] in
    elim (nat_lt seq now) as (λ b. nat_lt seq now ≡ b → is_among (if b then new else []) id ≡ nat_lt seq (last_seq (write ∷ older) id)) [
      | true ↦ λ is.
          is_among-more now write (changes_after seq older) id
          ∙ elim (bytes_eq id write.id) as (λ b. (is_among (changes_after seq older) id || b) ≡ nat_lt seq (if b then now else last_seq older id)) [
            | true ↦ or_right (is_among (changes_after seq older) id) true refl ∙ sym is
            | false ↦ or_nothing (is_among (changes_after seq older) id) ∙ changed_is_written_since older seq id
          ]
      | false ↦ λ is. sym (le-ltb seq (last_seq (write ∷ older) id) (let high = ltb-false seq now is in let low = last_seq-within (write ∷ older) id in omega arith))
    ] refl
  where
    or_nothing : (b : Bool) → (b || false) ≡ b
    or_nothing true = refl
    or_nothing false = refl

-- ---- the mapped documents

filter_none : {X : Type 0} (xs : List X) → filter (λ x. false) xs ≡ []
filter_none [] = refl
filter_none (x ∷ xs) = filter_none xs

not_both : (b : Bool) → (not b && b) ≡ false
not_both true = refl
not_both false = refl

keep_each : (test : List ℕ → Bool) (documents : List (List ℕ × Json)) → AllByRecursion (λ id. test id ≡ true) (ids_of documents) → filter (λ entry. test entry.0) documents ≡ documents
keep_each test [] all = refl
keep_each test (d ∷ documents) all =
    ap (λ b. if b then d ∷ filter (λ entry. test entry.0) documents else filter (λ entry. test entry.0) documents) all.0 ∙ ap (λ l. d ∷ l) (keep_each test documents all.1)

pub maps_written_since : MapsWrittenSince
maps_written_since history seq =
    let changes : List (ℕ × Write) = changes_after seq history in
    let before : List (List ℕ × Json) = mapped_after 0 (first seq history) in
    let new : List (List ℕ × Json) = mapped_after seq history in
    let is_new : List ℕ × Json → Bool = λ entry. is_among changes entry.0 in
    let old : List (List ℕ × Json) = filter (λ entry. not (is_new entry)) before in
    sym (filter_agree (λ (entry : List ℕ × Json). nat_lt seq (last_seq history entry.0)) is_new (λ entry. sym (changed_is_written_since history seq entry.0)) (mapped_after 0 history)
    ∙ ap (filter is_new) (mapped_since seq history)
    ∙ filter-append is_new old new
    ∙ ap (λ l. l ++ filter is_new new) (filter_both is_new (λ entry. not (is_new entry)) before
    ∙ filter_agree (λ entry. not (is_new entry) && is_new entry) (λ entry. false) (λ entry. not_both (is_new entry)) before
    ∙ filter_none before)
    ∙ keep_each (is_among changes) new (mapped_among seq history))
