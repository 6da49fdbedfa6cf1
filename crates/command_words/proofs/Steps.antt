-- What each word does in the walk of `clap` over the words behind a command.
use Rattle.std.proofs.Common.{◌≡◌, ◌&&◌, Bool, true, false, refl, sym, List, [], ◌∷◌, ◌++◌, Option, Some, None, true≢false, codes}
use Rattle.std.specs.Str.{bytes_eq}
use Rattle.clap.specs.Lexer.{long_of}
use Rattle.clap.specs.Walk.{Held, Row, Rule, Text, Waiting, Walk, idle, positional, option, settled_rows, used, walked}
use Rattle.clap.specs.Simple.{Shape, built}
use Rattle.clap.specs.Faults.{settle_fault, turn_fault, use_fault}
use Rattle.clap.specs.Kinds.{Kinds, or_else}
use Rattle.clap.specs.declared.error.kind.ErrorKind.TheVariants as kind
use Rattle.command_words.specs.Commands.{is_option}
use Rattle.command_words.specs.Reader.{reader}
use Rattle.command_words.proofs.WordKinds.{IsPlain, plain_word_is}

-- the arguments as clap builds them
abbrev pub shape : Shape
shape = (built reader).top

abbrev pub rules : List Rule
rules = shape.rules

abbrev pub first_rule : List Rule → Rule
first_rule [] = Rattle.command_words.specs.Reader.width_rule
first_rule (r ∷ rs) = r

abbrev pub second_rule : List Rule → Rule
second_rule [] = Rattle.command_words.specs.Reader.plain_rule
second_rule (r ∷ rs) = first_rule rs

abbrev pub width_arg : Rule
width_arg = first_rule rules

abbrev pub plain_arg : Rule
plain_arg = second_rule rules

-- what waits to be used: nothing, or an argument with the values that it has
abbrev pub Pending : Type 0
Pending = Option (Text × List Text)

abbrev pub held : List Row → Pending → Held
held rows pending = record { rows = rows; pending = pending; skip = 0 }

-- a walk that has met no subcommand, at the first positional
abbrev pub at : List Row → Pending → Waiting → Bool → Walk
at rows pending waiting is_trailing =
    record { held = held rows pending; waiting = waiting; position = 1; is_trailing = is_trailing; stopped = None }

-- the rows once what waits is used, and the kinds of error of that use
abbrev pub rows_then : List Row → Pending → List Row
rows_then rows pending = settled_rows rules pending rows

abbrev pub owes : List Row → Pending → Kinds
owes rows pending = settle_fault rules false (held rows pending)

abbrev pub is_open : Waiting → Bool
is_open (option id) = false
is_open _ = true

pub or_nothing : (a : Kinds) → or_else a [] ≡ a
or_nothing [] = refl
or_nothing (k ∷ ks) = refl

and_false : (b : Bool) → (b && false) ≡ false
and_false true = refl
and_false false = refl

-- ---- a word behind `--`

pub trailing_fault : (rows : List Row) (pending : Pending) (waiting : Waiting) (word : Text)
    → turn_fault shape [] (at rows pending waiting true) word ≡ owes rows pending
trailing_fault rows None waiting word = refl
trailing_fault rows (Some p) waiting word = rw (and_false (bytes_eq p.0 (codes "words"))) refl

pub trailing_step : (rows : List Row) (pending : Pending) (waiting : Waiting) (word : Text)
    → walked rules [] (at rows pending waiting true) word ≡ at (rows_then rows pending) (Some (codes "words", word ∷ [])) positional true
unfolding walked
trailing_step rows None waiting word = refl
trailing_step rows (Some p) waiting word = rw (and_false (bytes_eq p.0 (codes "words"))) refl

-- ---- `--`

pub dashes_fault : (rows : List Row) (pending : Pending) (waiting : Waiting) → turn_fault shape [] (at rows pending waiting false) (codes "--") ≡ []
dashes_fault rows pending idle = refl
dashes_fault rows pending positional = refl
dashes_fault rows pending (option id) = refl

pub dashes_step : (rows : List Row) (pending : Pending) (waiting : Waiting)
    → walked rules [] (at rows pending waiting false) (codes "--") ≡ at rows pending waiting true
unfolding walked
dashes_step rows pending idle = refl
dashes_step rows pending positional = refl
dashes_step rows pending (option id) = refl

-- ---- a word that is no option, where no option waits for its value

pub plain_fault : (rows : List Row) (pending : Pending) (waiting : Waiting) (word : Text) → is_open waiting ≡ true → is_option word ≡ false
    → turn_fault shape [] (at rows pending waiting false) word ≡ owes rows pending
plain_fault rows pending waiting word is_free is_plain = go waiting pending is_free
  where
    is : IsPlain word
    is = plain_word_is word is_plain

    go : (v : Waiting) (p : Pending) → is_open v ≡ true → turn_fault shape [] (at rows p v false) word ≡ owes rows p
    go (option id) p h = absurd (true≢false (sym h))
    go idle None h = rw (is.no_dashes, is.no_long, is.no_short) refl
    go idle (Some p) h = rw (is.no_dashes, is.no_long, is.no_short, and_false (bytes_eq p.0 (codes "words"))) refl
    go positional None h = rw (is.no_dashes, is.no_long, is.no_short) refl
    go positional (Some p) h = rw (is.no_dashes, is.no_long, is.no_short, and_false (bytes_eq p.0 (codes "words"))) refl

pub plain_step : (rows : List Row) (pending : Pending) (waiting : Waiting) (word : Text) → is_open waiting ≡ true → is_option word ≡ false
    → walked rules [] (at rows pending waiting false) word ≡ at (rows_then rows pending) (Some (codes "words", word ∷ [])) positional false
unfolding walked
plain_step rows pending waiting word is_free is_plain = go waiting pending is_free
  where
    is : IsPlain word
    is = plain_word_is word is_plain

    go : (v : Waiting) (p : Pending) → is_open v ≡ true
        → walked rules [] (at rows p v false) word ≡ at (rows_then rows p) (Some (codes "words", word ∷ [])) positional false
    go (option id) p h = absurd (true≢false (sym h))
    go idle None h = rw (is.no_dashes, is.no_long, is.no_short) refl
    go idle (Some p) h = rw (is.no_dashes, is.no_long, is.no_short, and_false (bytes_eq p.0 (codes "words"))) refl
    go positional None h = rw (is.no_dashes, is.no_long, is.no_short) refl
    go positional (Some p) h = rw (is.no_dashes, is.no_long, is.no_short, and_false (bytes_eq p.0 (codes "words"))) refl

-- ---- `--width`

pub width_fault : (rows : List Row) (pending : Pending) (waiting : Waiting)
    → turn_fault shape [] (at rows pending waiting false) (codes "--width") ≡ owes rows pending
width_fault rows pending idle = or_nothing (owes rows pending)
width_fault rows pending positional = or_nothing (owes rows pending)
width_fault rows pending (option id) = or_nothing (owes rows pending)

pub width_step : (rows : List Row) (pending : Pending) (waiting : Waiting)
    → walked rules [] (at rows pending waiting false) (codes "--width") ≡ at (rows_then rows pending) (Some (codes "width", [])) (option (codes "width")) false
unfolding walked
width_step rows pending idle = refl
width_step rows pending positional = refl
width_step rows pending (option id) = refl

-- the next word, which is no option
pub value_fault : (rows : List Row) (word : Text) → is_option word ≡ false
    → turn_fault shape [] (at rows (Some (codes "width", [])) (option (codes "width")) false) word ≡ []
value_fault rows word is_plain =
    let is = plain_word_is word is_plain in
    rw (is.no_dashes, is.no_long, is.no_short) refl

pub value_step : (rows : List Row) (word : Text) → is_option word ≡ false
    → walked rules [] (at rows (Some (codes "width", [])) (option (codes "width")) false) word ≡ at rows (Some (codes "width", word ∷ [])) idle false
unfolding walked
value_step rows word is_plain =
    let is = plain_word_is word is_plain in
    rw (is.no_dashes, is.no_long, is.no_short) refl

-- ---- `--width=TEXT`

pub equals_fault : (rows : List Row) (pending : Pending) (waiting : Waiting) (text : Text)
    → turn_fault shape [] (at rows pending waiting false) (codes "--width=" ++ text) ≡ or_else (owes rows pending) (use_fault false width_arg (text ∷ []) (rows_then rows pending))
equals_fault rows pending idle text = or_nothing _
equals_fault rows pending positional text = or_nothing _
equals_fault rows pending (option id) text = or_nothing _

pub equals_step : (rows : List Row) (pending : Pending) (waiting : Waiting) (text : Text)
    → walked rules [] (at rows pending waiting false) (codes "--width=" ++ text) ≡ at (used width_arg (text ∷ []) (rows_then rows pending)) None idle false
unfolding walked
equals_step rows pending idle text = refl
equals_step rows pending positional text = refl
equals_step rows pending (option id) text = refl

-- ---- another option with two dashes

pub other_fault : (rows : List Row) (pending : Pending) (waiting : Waiting) (word name : Text) (value : Option Text)
    → bytes_eq word (codes "--") ≡ false → long_of word ≡ Some (name, value) → bytes_eq (codes "width") name ≡ false
    → turn_fault shape [] (at rows pending waiting false) word ≡ kind.UnknownArgument ∷ []
other_fault rows pending idle word name value off long apart = rw (off, long, apart) refl
other_fault rows pending positional word name value off long apart = rw (off, long, apart) refl
other_fault rows pending (option id) word name value off long apart = rw (off, long, apart) refl
