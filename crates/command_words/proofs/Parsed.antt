-- What a parse by `clap` says of the words, in terms of their split.
use Rattle.std.proofs.Common.{◌≡◌, ◌∙◌, ◌||◌, inl, ⊎_elim, Bool, cond, true, false, refl, sym, ap, ap₂, subst, List, [], Option, Some, None, true≢false, codes}
use Rattle.std.specs.Prelude.{option_map, unwrap_or}
use Rattle.std.specs.List.{fold}
use Rattle.clap.specs.Walk.{Row, Text, Walk, all_of, first_of, has_row, nothing_held, rows_of, walk_from, walked, with_default}
use Rattle.clap.specs.Simple.{App, built, is_simple, matches_of, HasMatchesOf}
use Rattle.clap.specs.Faults.{defaults_fault, fault_of, is_simple_and_free, settle_fault, walk_fault}
use Rattle.clap.specs.Kinds.{HasKind, Kinds, or_else}
use Rattle.clap.specs.Matches.{found_of}
use Rattle.clap.specs.Values.{kind_of}
use Rattle.clap.proofs.FaultLemmas.{leaf_fault}
use Rattle.clap.proofs.WalkLemmas.{first_value-rows, raw_values-rows}
use Rattle.clap.specs.declared.error.Error.{Error}
use Rattle.clap.specs.declared.error.kind.ErrorKind.{ErrorKind}
use Rattle.clap.specs.declared.error.kind.ErrorKind.TheVariants.{ArgumentConflict, OutOfMemory, UnknownArgument}
use Rattle.clap.specs.declared.parser.matches.ArgMatches.{ArgMatches}
use Rattle.command_words.specs.Commands.{IsSplit, Word}
use Rattle.command_words.specs.Faults.{HasServeFault, fault_for, has_short}
use Rattle.command_words.specs.declared.fault.WordsFault.{WordsFault}
use Rattle.command_words.specs.Reader.{given_in, plain_in, reader}
use Rattle.command_words.proofs.Rows.{row_for, values_in}
use Rattle.command_words.proofs.Steps.{or_nothing, owes, rules, shape}
use Rattle.command_words.proofs.Walks.{splits_go}
use Rattle.command_words.proofs.OneCommand.{rows_at_end, split_shown, walk_over}
use Rattle.command_words.proofs.Found.{found_split, total}

pub is_simple_reader : is_simple reader ≡ true
is_simple_reader = refl

pub is_free_reader : is_simple_and_free reader ≡ true
is_free_reader = refl

or_true : (b : Bool) → (b || true) ≡ true
or_true true = refl
or_true false = refl

either_way : {X : Type 0} (b : Bool) (x : X) → cond b x x ≡ x
either_way true x = refl
either_way false x = refl

no_defaults : (rows : List Row) → defaults_fault rows rules ≡ []
unfolding defaults_fault
no_defaults rows = rw (or_true (has_row (codes "width") rows), either_way (has_row (codes "width") rows) rows, or_true (has_row (codes "words") rows)) refl

pub fault_is : (words : List Text) → fault_of reader words ≡ total (walk_from nothing_held) words
fault_is words =
    let w = fold (walked rules []) (walk_from nothing_held) words in
    leaf_fault (built reader) nothing_held words refl
    ∙ ap (λ (ks : Kinds). or_else (walk_fault shape [] (walk_from nothing_held) words) (or_else (settle_fault rules false w.held) (or_else ks []))) (no_defaults (rows_at_end w))
    ∙ ap (or_else (walk_fault shape [] (walk_from nothing_held) words)) (or_nothing (settle_fault rules false w.held))

pub rows_are : (words : List Text) → matches_of reader words ≡ rows_at_end (walk_over words)
rows_are words =
    let rows = rows_at_end (walk_over words) in
    ap (λ (rs : List Row). with_default rs (Rattle.command_words.proofs.Steps.plain_arg)) (either_way (has_row (codes "width") rows) rows)
    ∙ either_way (has_row (codes "words") rows) rows

-- the words of a split fail in nothing
pub split_passes : (words : List Text) (given : Option Word) (plain : List Word) → IsSplit words given plain → fault_of reader words ≡ []
split_passes words given plain s =
    let goes = splits_go words given plain s in
    fault_is words ∙ ap₂ or_else goes.1.passes (ap (λ (w : Walk). settle_fault rules false w.held) goes.1.end.is ∙ goes.1.end.owes_none)

values_all : (o : Option Row) → unwrap_or (option_map (λ r. r.values) o) [] ≡ values_in o
values_all None = refl
values_all (Some r) = refl

-- what was found of words that are taken is their split
pub parsed_split : (words : List Text) (m : ArgMatches) → has_short words ≡ false → fault_of reader words ≡ [] → HasMatchesOf reader words m → IsSplit words (given_in m) (plain_in m)
parsed_split words m no_short none has =
    let found = found_split words no_short (sym (fault_is words) ∙ none) in
    let shows = split_shown words found.0 found.1 found.2 in
    let rows : rows_of (found_of m) ≡ rows_at_end (walk_over words) = (has is_simple_reader).0 ∙ rows_are words in
    let given : given_in m ≡ found.0 = first_value-rows (found_of m) (codes "width") ∙ ap (first_of (codes "width")) rows ∙ shows.width in
    let plain : plain_in m ≡ found.1 =
    ap (λ (o : Option (List Text)). unwrap_or o []) (raw_values-rows (found_of m) (codes "words") ∙ ap (all_of (codes "words")) rows)
    ∙ values_all (row_for (codes "words") (rows_at_end (walk_over words))) ∙ shows.words in
    subst (λ (g : Option Word). IsSplit words g (plain_in m)) (sym given) (subst (λ (p : List Word). IsSplit words found.0 p) (sym plain) found.2)

-- the same of a parser that is built like the reader
pub ok_split : (a : App) (words : List Text) (m : ArgMatches) → a ≡ reader → has_short words ≡ false → (is_simple_and_free a ≡ true → fault_of a words ≡ [])
    → HasMatchesOf a words m → IsSplit words (given_in m) (plain_in m)
ok_split a words m is no_short passes has =
    parsed_split words m no_short
    (subst (λ (x : App). is_simple_and_free x ≡ true → fault_of x words ≡ []) is passes is_free_reader)
    (subst (λ (x : App). HasMatchesOf x words m) is has)

-- at the words of a split, an error is want of memory
pub err_memory : (a : App) (words : List Text) (e : Error) (given : Option Word) (plain : List Word) → a ≡ reader
    → (is_simple_and_free a ≡ true → HasKind (fault_of a words) e) → IsSplit words given plain → kind_of e ≡ OutOfMemory
err_memory a words e given plain is fails s =
    let kinds = subst (λ (x : App). is_simple_and_free x ≡ true → HasKind (fault_of x words) e) is fails is_free_reader in
    ⊎_elim (λ m. m) (λ none. absurd none) (subst (λ (ks : Kinds). HasKind ks e) (split_passes words given plain s) kinds)

abbrev is_memory : ErrorKind → Bool
is_memory OutOfMemory = true
is_memory _ = false

-- an error that isn't want of memory comes where there is no split
kind_means : (k : ErrorKind) (words : List Word) → ((given : Option Word) (plain : List Word) → IsSplit words given plain → k ≡ OutOfMemory) → HasServeFault words (fault_for k)
kind_means OutOfMemory words only = tt
kind_means UnknownArgument words only = λ given plain s. true≢false (sym (ap is_memory (only given plain s)))
kind_means ArgumentConflict words only = λ given plain s. true≢false (sym (ap is_memory (only given plain s)))
kind_means _ words only = inl (λ given plain s. true≢false (sym (ap is_memory (only given plain s))))

pub fault_means : (k : ErrorKind) (fault : WordsFault) (words : List Word) → fault ≡ fault_for k
    → ((given : Option Word) (plain : List Word) → IsSplit words given plain → k ≡ OutOfMemory) → HasServeFault words fault
fault_means k fault words is only = subst (HasServeFault words) (sym is) (kind_means k words only)
