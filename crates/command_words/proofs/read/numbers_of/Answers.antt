use Rattle.std.proofs.Common.{◌≡◌, ◌∙◌, ◌≤◌, ℕ, refl, ap, List, [], ◌∷◌, length, map, Option, Some, arith, slice_index_or}
use Rattle.std.specs.Borrow.{Bor}
use Rattle.command_words.specs.Commands.{Word}
use Rattle.command_words.specs.Reader.{texts_of}
use Rattle.command_words.proofs.read.numbers_of.Goals as goal

-- the default of an index past the end
abbrev none : Bor (List ℕ)
none = record { ref_ptr = (0, 0); now = [] }

two_texts : (xs : List (Bor Word)) → 2 ≤ length xs → length xs ≤ 2 → map (λ x. x.now) xs ≡ (slice_index_or xs 0 none).now ∷ (slice_index_or xs 1 none).now ∷ []
two_texts [] low high = absurd (omega arith)
two_texts (x ∷ []) low high = absurd (omega arith)
two_texts (x ∷ y ∷ []) low high = refl
two_texts (x ∷ y ∷ z ∷ xs) low high = absurd (omega arith)

two_words : (o : Option (Bor (List (Bor Word)))) (ws : Bor (List (Bor Word))) → o ≡ Some ws → 2 ≤ length ws.now → length ws.now ≤ 2
    → texts_of o ≡ (slice_index_or ws.now 0 none).now ∷ (slice_index_or ws.now 1 none).now ∷ []
two_words o ws is low high = ap texts_of is ∙ two_texts ws.now low high

pub returns-in_default-number-clause-cause : goal.returns-in_default-number-clause-cause
returns-in_default-number-clause-cause c =
    let same = two_words c.args.words c.in-Some.words c.in-Some.is (omega (arith, c.in-len2.len_at_least)) (omega (arith, c.in-len2.len_below)) in
    ((slice_index_or c.in-Some.words.now 0 none).now, (slice_index_or c.in-Some.words.now 1 none).now, same, c.in_default-number.ensures.none refl)

pub returns-in-None-clause-cause : goal.returns-in-None-clause-cause
returns-in-None-clause-cause c =
    let same = two_words c.args.words c.in-Some.words c.in-Some.is (omega (arith, c.in-len2.len_at_least)) (omega (arith, c.in-len2.len_below)) in
    ((slice_index_or c.in-Some.words.now 0 none).now, (slice_index_or c.in-Some.words.now 1 none).now, same, c.in-None.ensures.none refl)
