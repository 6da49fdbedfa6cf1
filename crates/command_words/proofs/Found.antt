-- Words that `clap` takes, and of which none begins with one dash alone, are a split.
use Rattle.std.proofs.Common.{◌≡◌, ◌∙◌, ◌||◌, inl, inr, Bool, cond, true, false, not, refl, sym, ap, ap₂, subst, List, [], ◌∷◌, ◌++◌, append_assoc, Option, Some, None, true≢false, codes}
use Rattle.std.specs.Prelude.{is_some}
use Rattle.std.specs.List.{fold, list_any, take_while}
use Rattle.std.proofs.lemmas.List.Sums.{take_while-cons}
use Rattle.std.proofs.lemmas.Slice.Eq.{bytes_eq-Decides}
use Rattle.clap.specs.Walk.{Row, Text, Waiting, Walk, has_row, idle, nothing_held, option, walk_from, walked}
use Rattle.clap.specs.Faults.{settle_fault, turn_fault, use_fault, walk_fault}
use Rattle.clap.specs.Kinds.{Kinds, or_else}
use Rattle.clap.specs.declared.error.kind.ErrorKind.{ErrorKind}
use Rattle.clap.specs.declared.error.kind.ErrorKind.TheVariants.{ArgumentConflict}
use Rattle.command_words.specs.Commands.{HasNoDashes, HasNoOption, HasOptions, IsCut, IsSplit, IsWidthOption, Word, is_option}
use Rattle.command_words.specs.Faults.{has_short, is_dashes, is_short}
use Rattle.command_words.proofs.WordKinds.{WordKind, dashes_word, width_word, equals_word, other_word, short_word, plain_word, kind_of_word, plain_word_is}
use Rattle.command_words.proofs.Steps.{Pending, at, dashes_step, equals_fault, is_open, other_fault, owes, plain_fault, rows_then, rules, shape, trailing_fault, value_step, width_arg, width_fault}
use Rattle.command_words.proofs.Walks.{IsAt, IsWaiting, on_equals, on_plain, on_value, on_width, start_at}

-- what fails in a walk over words, up to the use of what waits at its end
abbrev pub total : Walk → List Text → Kinds
total w words = or_else (walk_fault shape [] w words) (settle_fault rules false (fold (walked rules []) w words).held)

cons≢nil : (k : ErrorKind) (ks : Kinds) → k ∷ ks ≡ [] → ⊥
cons≢nil k ks e = true≢false (ap is_more e)
  where
    is_more : Kinds → Bool
    is_more [] = false
    is_more (x ∷ xs) = true

both_none : (a b : Kinds) → or_else a b ≡ [] → (a ≡ []) × (b ≡ [])
both_none [] b e = (refl, e)
both_none (k ∷ ks) b e = absurd (cons≢nil k ks e)

-- the first word passes, and so do the others
passes_on : (w : Walk) (word : Text) (words : List Text) → total w (word ∷ words) ≡ [] → (turn_fault shape [] w word ≡ []) × (total (walked rules [] w word) words ≡ [])
unfolding walk_fault
passes_on w word words e =
    let parts = both_none (or_else (turn_fault shape [] w word) (walk_fault shape [] (walked rules [] w word) words)) _ e in
    let inner = both_none (turn_fault shape [] w word) (walk_fault shape [] (walked rules [] w word) words) parts.0 in
    (inner.0, ap₂ or_else inner.1 parts.1)

nothing_left : (w : Walk) → total w [] ≡ [] → settle_fault rules false w.held ≡ []
unfolding walk_fault
nothing_left w e = e

-- ---- what must not wait

bad_trailing : (rows : List Row) (pending : Pending) (waiting : Waiting) (words : List Text) → total (at rows pending waiting true) words ≡ [] → owes rows pending ≡ []
bad_trailing rows pending waiting [] e = nothing_left (at rows pending waiting true) e
bad_trailing rows pending waiting (word ∷ words) e = sym (trailing_fault rows pending waiting word) ∙ (passes_on _ word words e).0

-- an option at a walk owes what waits
bad_option : (rows : List Row) (pending : Pending) (waiting : Waiting) (word : Text) (words : List Text) → is_short word ≡ false → is_option word ≡ true
    → total (at rows pending waiting false) (word ∷ words) ≡ [] → owes rows pending ≡ []
bad_option rows pending waiting word words no_short is e = go (kind_of_word word)
  where
    passed : (turn_fault shape [] (at rows pending waiting false) word ≡ []) × (total (walked rules [] (at rows pending waiting false) word) words ≡ [])
    passed = passes_on _ word words e

    go : WordKind word → owes rows pending ≡ []
    go (dashes_word same) = bad_trailing rows pending waiting words
        (ap (λ v. total v words) (sym (dashes_step rows pending waiting)) ∙ ap (λ (x : Text). total (walked rules [] (at rows pending waiting false) x) words) (sym same) ∙ passed.1)
    go (width_word same) = sym (width_fault rows pending waiting) ∙ ap (λ (x : Text). turn_fault shape [] (at rows pending waiting false) x) (sym same) ∙ passed.0
    go (equals_word text same) =
        (both_none (owes rows pending) _ (sym (equals_fault rows pending waiting text) ∙ ap (λ (x : Text). turn_fault shape [] (at rows pending waiting false) x) (sym same) ∙ passed.0)).0
    go (other_word name value off long apart) = absurd (cons≢nil _ _ (sym (other_fault rows pending waiting word name value off long apart) ∙ passed.0))
    go (short_word is_one) = absurd (true≢false (sym is_one ∙ no_short))
    go (plain_word none) = absurd (true≢false (sym is ∙ none))

or_false : (a b : Bool) → (a || b) ≡ false → (a ≡ false) × (b ≡ false)
or_false true b e = absurd (true≢false e)
or_false false b e = (refl, e)

short_first : (word : Word) (words : List Word) → has_short (word ∷ words) ≡ false
    → (is_short word ≡ false) × (is_dashes word ≡ false → has_short words ≡ false)
short_first word words e = go (is_dashes word) refl (sym (ap (list_any is_short) (take_while-cons (λ (x : Word). not (is_dashes x)) word words)) ∙ e)
  where
    go : (b : Bool) → is_dashes word ≡ b → list_any is_short (cond (not b) (word ∷ take_while (λ (x : Word). not (is_dashes x)) words) []) ≡ false
        → (is_short word ≡ false) × (b ≡ false → has_short words ≡ false)
    go true is h = (ap is_short ((bytes_eq-Decides word (codes "--")).0 is), λ f. absurd (true≢false f))
    go false is h = let parts = or_false (is_short word) _ h in (parts.0, λ f. parts.1)

bad_open : (rows : List Row) (pending : Pending) (waiting : Waiting) (words : List Text) → is_open waiting ≡ true → has_short words ≡ false
    → total (at rows pending waiting false) words ≡ [] → owes rows pending ≡ []
bad_open rows pending waiting [] is_free no_short e = nothing_left (at rows pending waiting false) e
bad_open rows pending waiting (word ∷ words) is_free no_short e = go (is_option word) refl
  where
    go : (b : Bool) → is_option word ≡ b → owes rows pending ≡ []
    go true is = bad_option rows pending waiting word words (short_first word words no_short).0 is e
    go false is = sym (plain_fault rows pending waiting word is_free is) ∙ (passes_on _ word words e).0

-- ---- splits, word by word

nil_split : IsSplit [] None []
nil_split = record { before = []; behind = []; left = []; cut = (tt, inl (refl, refl)); options = (tt, refl); plain_is = refl }

dashes_split : (words : List Word) → IsSplit (codes "--" ∷ words) None words
dashes_split words = record { before = []; behind = words; left = []; cut = (tt, inr refl); options = (tt, refl); plain_is = refl }

no_dashes : (word : Word) → is_option word ≡ false → ¬ (word ≡ codes "--")
no_dashes word none is = true≢false (sym (ap is_option is) ∙ none)

more_cut : (first words before behind : List Word) → HasNoDashes (first ++ before) → IsCut words before behind → IsCut (first ++ words) (first ++ before) behind
more_cut first words before behind none (_, inl (same, empty)) = (none, inl (ap (λ (xs : List Word). first ++ xs) same, empty))
more_cut first words before behind none (_, inr same) =
    (none, inr (ap (λ (xs : List Word). first ++ xs) same ∙ sym (append_assoc first before (codes "--" ∷ behind))))

more_options : (word : Word) (before left : List Word) (given : Option Word) → is_option word ≡ false → HasOptions before left given → HasOptions (word ∷ before) (word ∷ left) given
more_options word before left None none (no_option, same) = ((none, no_option), ap (λ (xs : List Word). word ∷ xs) same)
more_options word before left (Some text) none h = record {
  first = word ∷ h.first;
  option = h.option;
  rest = h.rest;
  place = ap (λ (xs : List Word). word ∷ xs) h.place;
  left = ap (λ (xs : List Word). word ∷ xs) h.left;
  is_width = h.is_width;
  no_other = (none, h.no_other);
}

plain_split : (word : Word) (words : List Word) (given : Option Word) (plain : List Word) → is_option word ≡ false → IsSplit words given plain
    → IsSplit (word ∷ words) given (word ∷ plain)
plain_split word words given plain none s = record {
  before = word ∷ s.before;
  behind = s.behind;
  left = word ∷ s.left;
  cut = more_cut (word ∷ []) words s.before s.behind (no_dashes word none, s.cut.0) s.cut;
  options = more_options word s.before s.left given none s.options;
  plain_is = ap (λ (xs : List Word). word ∷ xs) s.plain_is;
}

option_no_dashes : (opt before : List Word) (text : Word) → IsWidthOption opt text → HasNoDashes before → HasNoDashes (opt ++ before)
option_no_dashes opt before text (inl two) none =
    let apart : ¬ (codes "--width" ≡ codes "--") = λ e. true≢false (ap (λ (w : Word). not (is_dashes w)) e) in
    subst (λ (o : List Word). HasNoDashes (o ++ before)) (sym two.0) (apart, (no_dashes text two.1, none))
option_no_dashes opt before text (inr one) none =
    let apart : ¬ (codes "--width=" ++ text ≡ codes "--") = λ e. true≢false (ap (λ (w : Word). not (is_dashes w)) e) in
    subst (λ (o : List Word). HasNoDashes (o ++ before)) (sym one) (apart, none)

width_split : (opt words : List Word) (text : Word) (plain : List Word) → IsWidthOption opt text → IsSplit words None plain → IsSplit (opt ++ words) (Some text) plain
width_split opt words text plain is s = record {
  before = opt ++ s.before;
  behind = s.behind;
  left = s.left;
  cut = more_cut opt words s.before s.behind (option_no_dashes opt s.before text is s.cut.0) s.cut;
  options = record {
    first = [];
    option = opt;
    rest = s.before;
    place = refl;
    left = s.options.1;
    is_width = is;
    no_other = subst HasNoOption (sym s.options.1) s.options.0;
  };
  plain_is = s.plain_is;
}

-- ---- the words, one by one

-- where the walk stands: `--width` waits for its value, or no option does
abbrev Stands : Bool → Walk → Option Text → Type 0
Stands true w given = (plain : List Text) × IsWaiting w given plain
Stands false w given = (plain : List Text) × IsAt w given plain false

-- what the words are from there on
abbrev Finds : Bool → Option Text → List Text → Type 0
Finds true given words = (text : Text) × (rest plain : List Text) × (words ≡ text ∷ rest) × (is_option text ≡ false) × (given ≡ None) × IsSplit rest None plain
Finds false None words = (given : Option Text) × (plain : List Text) × IsSplit words given plain
Finds false (Some text) words = (plain : List Text) × IsSplit words None plain

abbrev FindsAll : List Text → Type 0
FindsAll words = (waits : Bool) (w : Walk) (given : Option Text) → Stands waits w given → has_short words ≡ false → total w words ≡ [] → Finds waits given words

some_not_none : (text : Text) → Some text ≡ None → ⊥
some_not_none text e = true≢false (ap is_some e)

-- a second width may not be used
second_fails : (rows : List Row) (text : Text) → has_row (codes "width") rows ≡ true → use_fault false width_arg (text ∷ []) rows ≡ [] → ⊥
second_fails rows text seen e =
    let fails : use_fault false width_arg (text ∷ []) rows ≡ ArgumentConflict ∷ [] = rw seen refl in
    cons≢nil ArgumentConflict [] (sym fails ∙ e)

found_plain : (word : Text) (words : List Text) (given : Option Text) → is_option word ≡ false → Finds false given words → Finds false given (word ∷ words)
found_plain word words None none (g, others, s) = (g, word ∷ others, plain_split word words g others none s)
found_plain word words (Some text) none (others, s) = (word ∷ others, plain_split word words None others none s)

found_dashes : (words : List Text) (given : Option Text) → Finds false given (codes "--" ∷ words)
found_dashes words None = (None, words, dashes_split words)
found_dashes words (Some text) = (words, dashes_split words)

found_width : (words : List Text) (given : Option Text) → Finds true given words → Finds false given (codes "--width" ∷ words)
found_width words (Some text) h = absurd (some_not_none text h.5)
found_width words None (text, rest, others, same, none, _, s) = (
  Some text,
  others,
  subst (λ (xs : List Word). IsSplit (codes "--width" ∷ xs) (Some text) others) (sym same)
      (width_split (codes "--width" ∷ text ∷ []) rest text others (inl (refl, none)) s),
)

-- `--width=TEXT` at a walk passes only where it is the first
equals_ready : (w : Walk) (words : List Text) (given : Option Text) (text : Text) → Stands false w given → has_short words ≡ false
    → turn_fault shape [] w (codes "--width=" ++ text) ≡ [] → total (walked rules [] w (codes "--width=" ++ text)) words ≡ [] → FindsAll words
    → Finds false given ((codes "--width=" ++ text) ∷ words)
equals_ready w words None text (others, s) no_short turn e rest =
    let step = on_equals w others text s in
    let found = rest false _ (Some text) (others, step.1) no_short e in
    (Some text, found.0, width_split ((codes "--width=" ++ text) ∷ []) words text found.0 (inr refl) found.1)
equals_ready w words (Some first) text (others, s) no_short turn e rest =
    let parts = both_none (owes s.rows s.pending) _
    (sym (equals_fault s.rows s.pending s.waiting text) ∙ sym (ap (λ (v : Walk). turn_fault shape [] v (codes "--width=" ++ text)) s.is) ∙ turn) in
    absurd (second_fails (rows_then s.rows s.pending) text s.shows.seen parts.1)

step_ready : (word : Text) (words : List Text) (w : Walk) (given : Option Text) → Stands false w given → has_short (word ∷ words) ≡ false
    → total w (word ∷ words) ≡ [] → FindsAll words → Finds false given (word ∷ words)
step_ready word words w given (others, s) no_short e rest = go (kind_of_word word) refl
  where
    passed : (turn_fault shape [] w word ≡ []) × (total (walked rules [] w word) words ≡ [])
    passed = passes_on w word words e

    left : is_dashes word ≡ false → has_short words ≡ false
    left = (short_first word words no_short).1

    go : (k : WordKind word) → k ≡ k → Finds false given (word ∷ words)
    go (dashes_word same) _ = subst (λ (x : Text). Finds false given (x ∷ words)) (sym same) (found_dashes words given)
    go (width_word same) _ =
        let step = on_width w given others s in
        subst (λ (x : Text). Finds false given (x ∷ words)) (sym same)
        (found_width words given (rest true _ given (others, step.1) (left (ap is_dashes same)) (subst (λ (x : Text). total (walked rules [] w x) words ≡ []) same passed.1)))
    go (equals_word text same) _ =
        subst (λ (x : Text). Finds false given (x ∷ words)) (sym same)
        (equals_ready w words given text (others, s) (left (ap is_dashes same)) (subst (λ (x : Text). turn_fault shape [] w x ≡ []) same passed.0)
        (subst (λ (x : Text). total (walked rules [] w x) words ≡ []) same passed.1) rest)
    go (other_word name value off long apart) _ =
        absurd (cons≢nil _ _ (sym (other_fault s.rows s.pending s.waiting word name value off long apart)
        ∙ sym (ap (λ (v : Walk). turn_fault shape [] v word) s.is) ∙ passed.0))
    go (short_word is_one) _ = absurd (true≢false (sym is_one ∙ (short_first word words no_short).0))
    go (plain_word none) _ =
        let step = on_plain w given others word none s in
        found_plain word words given none (rest false _ given (others ++ word ∷ [], step.1) (left (plain_word_is word none).no_dashes) passed.1)

-- a word at which `--width` waits for its value
value_ready : (word : Text) (words : List Text) (w : Walk) (given : Option Text) → is_option word ≡ false → Stands true w given → has_short words ≡ false
    → total (walked rules [] w word) words ≡ [] → FindsAll words → Finds true given (word ∷ words)
value_ready word words w None none (others, s) no_short e rest =
    let step = on_value w others word none s in
    let found = rest false _ (Some word) (others, step.1) no_short e in
    (word, words, found.0, refl, none, refl, found.1)
value_ready word words w (Some first) none (others, s) no_short e rest =
    let there = ap (λ (v : Walk). walked rules [] v word) s.is ∙ value_step s.rows word none in
    absurd (second_fails s.rows word s.shows.seen
    (bad_open s.rows (Some (codes "width", word ∷ [])) idle words refl no_short (subst (λ (v : Walk). total v words ≡ []) there e)))

step_waiting : (word : Text) (words : List Text) (w : Walk) (given : Option Text) → Stands true w given → has_short (word ∷ words) ≡ false
    → total w (word ∷ words) ≡ [] → FindsAll words → Finds true given (word ∷ words)
step_waiting word words w given (others, s) no_short e rest = go (is_option word) refl
  where
    facts : (is_short word ≡ false) × (is_dashes word ≡ false → has_short words ≡ false)
    facts = short_first word words no_short

    go : (b : Bool) → is_option word ≡ b → Finds true given (word ∷ words)
    go true is = absurd (cons≢nil _ _ (bad_option s.rows (Some (codes "width", [])) (option (codes "width")) word words facts.0 is
        (subst (λ (v : Walk). total v (word ∷ words) ≡ []) s.is e)))
    go false is = value_ready word words w given is (others, s) (facts.1 (plain_word_is word is).no_dashes) (passes_on w word words e).1 rest

ends : (waits : Bool) (w : Walk) (given : Option Text) → Stands waits w given → total w [] ≡ [] → Finds waits given []
ends true w given (others, s) e = absurd (cons≢nil _ _ (nothing_left _ (subst (λ (v : Walk). total v [] ≡ []) s.is e)))
ends false w None s e = (None, [], nil_split)
ends false w (Some text) s e = ([], nil_split)

steps : (waits : Bool) (word : Text) (words : List Text) → FindsAll words → (w : Walk) (given : Option Text) → Stands waits w given → has_short (word ∷ words) ≡ false
    → total w (word ∷ words) ≡ [] → Finds waits given (word ∷ words)
steps true word words rest w given s no_short e = step_waiting word words w given s no_short e rest
steps false word words rest w given s no_short e = step_ready word words w given s no_short e rest

find_all : (words : List Text) → FindsAll words
find_all [] = λ waits w given s no_short e. ends waits w given s e
find_all (word ∷ words) = λ waits w given s no_short e. steps waits word words (find_all words) w given s no_short e

-- words that are taken are a split
pub found_split : (words : List Text) → has_short words ≡ false → total (walk_from nothing_held) words ≡ []
    → (given : Option Text) × (plain : List Text) × IsSplit words given plain
found_split words no_short e = find_all words false (walk_from nothing_held) None ([], start_at) no_short e
