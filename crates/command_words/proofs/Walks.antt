-- The walk of `clap` over words that hold no option, or `--width` alone, once.
use Rattle.std.proofs.Common.{◌≡◌, ◌∙◌, ◌⊎◌, inl, inr, Bool, true, false, refl, sym, ap, ap₂, subst, List, [], ◌∷◌, ◌++◌, append_assoc, append-nil, Option, Some, None, true≢false, codes}
use Rattle.std.specs.Prelude.{option_and_then, is_some, slice_get}
use Rattle.std.specs.List.{fold}
use Rattle.clap.specs.Walk.{Row, Text, Waiting, Walk, has_row, idle, nothing_held, option, positional, reading_by, used, walk_from, walked, with_values}
use Rattle.clap.specs.Faults.{turn_fault, use_fault, walk_fault}
use Rattle.clap.specs.Kinds.{Kinds, or_else}
use Rattle.clap.specs.declared.parser.matches.ValueSource.TheVariants.{CommandLine}
use Rattle.command_words.specs.Commands.{HasNoOption, HasOptions, IsSplit, IsWidthOption, is_option}
use Rattle.command_words.proofs.Rows.{none_taken, other_row, own_row, has_row-is_some, row_for, values_in}
use Rattle.command_words.proofs.Steps.{Pending, at, dashes_fault, dashes_step, equals_fault, equals_step, is_open, owes, plain_arg, plain_fault, plain_step, rows_then, rules, shape, trailing_fault, trailing_step, value_fault, value_step, width_arg, width_fault, width_step}

-- the rows show what `--width` was given, and which other words there were
pub record Shows (rows : List Row) (given : Option Text) (plain : List Text) : Type 0 where
  pub width : option_and_then (λ r. slice_get r.values 0) (row_for (codes "width") rows) ≡ given
  pub seen : has_row (codes "width") rows ≡ is_some given
  pub words : values_in (row_for (codes "words") rows) ≡ plain

-- a walk at which no option waits for its value, and what waits may be used
pub record IsAt (w : Walk) (given : Option Text) (plain : List Text) (is_trailing : Bool) : Type 0 where
  pub rows : List Row
  pub pending : Pending
  pub waiting : Waiting
  pub is : w ≡ at rows pending waiting is_trailing
  pub is_free : is_open waiting ≡ true
  pub owes_none : owes rows pending ≡ []
  pub shows : Shows (rows_then rows pending) given plain

pub start_shows : Shows [] None []
start_shows = record { width = refl; seen = refl; words = refl }

pub start_at : IsAt (walk_from nothing_held) None [] false
start_at = record { rows = []; pending = None; waiting = idle; is = refl; is_free = refl; owes_none = refl; shows = start_shows }

pub shows_word : (rows : List Row) (given : Option Text) (plain : List Text) (word : Text) → Shows rows given plain
    → Shows (used plain_arg (word ∷ []) rows) given (plain ++ word ∷ [])
shows_word rows given plain word s =
    let after = with_values (codes "words") (reading_by plain_arg) CommandLine (word ∷ []) rows in
    let own = own_row (codes "words") (reading_by plain_arg) CommandLine (word ∷ []) rows in
    let other : row_for (codes "width") after ≡ row_for (codes "width") rows = other_row (codes "words") (codes "width") (reading_by plain_arg) CommandLine (word ∷ []) rows refl in
    record {
      width = ap (option_and_then (λ (r : Row). slice_get r.values 0)) other ∙ s.width;
      seen = has_row-is_some (codes "width") after ∙ ap is_some other ∙ sym (has_row-is_some (codes "width") rows) ∙ s.seen;
      words = ap values_in own.1 ∙ own.2 ∙ ap (λ (vs : List Text). vs ++ word ∷ []) s.words;
    }

values_of_none : (o : Option Row) → is_some o ≡ false → values_in o ≡ []
values_of_none None e = refl
values_of_none (Some r) e = absurd (true≢false e)

pub shows_width : (rows : List Row) (plain : List Text) (text : Text) → Shows rows None plain → Shows (used width_arg (text ∷ []) rows) (Some text) plain
shows_width rows plain text s =
    let after = with_values (codes "width") (reading_by width_arg) CommandLine (text ∷ []) rows in
    let own = own_row (codes "width") (reading_by width_arg) CommandLine (text ∷ []) rows in
    let other : row_for (codes "words") after ≡ row_for (codes "words") rows = other_row (codes "width") (codes "words") (reading_by width_arg) CommandLine (text ∷ []) rows refl in
    let none : values_in (row_for (codes "width") rows) ≡ [] = values_of_none (row_for (codes "width") rows) (sym (has_row-is_some (codes "width") rows) ∙ s.seen) in
    let values : own.0.values ≡ text ∷ [] = own.2 ∙ ap (λ (vs : List Text). vs ++ text ∷ []) none in
    let shown : Shows after (Some text) plain = record {
      width = ap (option_and_then (λ (r : Row). slice_get r.values 0)) own.1 ∙ ap (λ (vs : List Text). slice_get vs 0) values;
      seen = has_row-is_some (codes "width") after ∙ ap is_some own.1;
      words = ap values_in other ∙ s.words;
    } in
    subst (λ (rs : List Row). Shows (with_values (codes "width") (reading_by width_arg) CommandLine (text ∷ []) rs) (Some text) plain) (sym (none_taken (codes "width") rows s.seen)) shown

-- a first width may be used
pub width_owes : (rows : List Row) (text : Text) → has_row (codes "width") rows ≡ false → use_fault false width_arg (text ∷ []) rows ≡ []
width_owes rows text none = rw none refl

-- the words pass, and at their end the rows show this
pub record Goes (w : Walk) (words : List Text) (given : Option Text) (plain : List Text) (is_trailing : Bool) : Type 0 where
  pub passes : walk_fault shape [] w words ≡ []
  pub end : IsAt (fold (walked rules []) w words) given plain is_trailing

pub goes_on : (w : Walk) (word : Text) (words : List Text) (given : Option Text) (plain : List Text) (is_trailing : Bool) → turn_fault shape [] w word ≡ []
    → Goes (walked rules [] w word) words given plain is_trailing → Goes w (word ∷ words) given plain is_trailing
unfolding walk_fault
goes_on w word words given plain is_trailing none goes = record {
  passes = ap (λ (ks : Kinds). or_else ks (walk_fault shape [] (walked rules [] w word) words)) none ∙ goes.passes;
  end = goes.end;
}

stays : (w : Walk) (given : Option Text) (plain : List Text) (is_trailing : Bool) → IsAt w given plain is_trailing → Goes w [] given plain is_trailing
unfolding walk_fault
stays w given plain is_trailing is = record { passes = refl; end = is }

-- ---- each word

pub on_trailing : (w : Walk) (given : Option Text) (plain : List Text) (word : Text) → IsAt w given plain true
    → (turn_fault shape [] w word ≡ []) × IsAt (walked rules [] w word) given (plain ++ word ∷ []) true
on_trailing w given plain word s = (
  ap (λ v. turn_fault shape [] v word) s.is ∙ trailing_fault s.rows s.pending s.waiting word ∙ s.owes_none,
  record {
    rows = rows_then s.rows s.pending;
    pending = Some (codes "words", word ∷ []);
    waiting = positional;
    is = ap (λ v. walked rules [] v word) s.is ∙ trailing_step s.rows s.pending s.waiting word;
    is_free = refl;
    owes_none = refl;
    shows = shows_word _ given plain word s.shows;
  },
)

pub on_plain : (w : Walk) (given : Option Text) (plain : List Text) (word : Text) → is_option word ≡ false → IsAt w given plain false
    → (turn_fault shape [] w word ≡ []) × IsAt (walked rules [] w word) given (plain ++ word ∷ []) false
on_plain w given plain word none s = (
  ap (λ v. turn_fault shape [] v word) s.is ∙ plain_fault s.rows s.pending s.waiting word s.is_free none ∙ s.owes_none,
  record {
    rows = rows_then s.rows s.pending;
    pending = Some (codes "words", word ∷ []);
    waiting = positional;
    is = ap (λ v. walked rules [] v word) s.is ∙ plain_step s.rows s.pending s.waiting word s.is_free none;
    is_free = refl;
    owes_none = refl;
    shows = shows_word _ given plain word s.shows;
  },
)

pub on_dashes : (w : Walk) (given : Option Text) (plain : List Text) → IsAt w given plain false
    → (turn_fault shape [] w (codes "--") ≡ []) × IsAt (walked rules [] w (codes "--")) given plain true
on_dashes w given plain s = (
  ap (λ v. turn_fault shape [] v (codes "--")) s.is ∙ dashes_fault s.rows s.pending s.waiting,
  record {
    rows = s.rows;
    pending = s.pending;
    waiting = s.waiting;
    is = ap (λ v. walked rules [] v (codes "--")) s.is ∙ dashes_step s.rows s.pending s.waiting;
    is_free = s.is_free;
    owes_none = s.owes_none;
    shows = s.shows;
  },
)

pub on_equals : (w : Walk) (plain : List Text) (text : Text) → IsAt w None plain false
    → (turn_fault shape [] w (codes "--width=" ++ text) ≡ []) × IsAt (walked rules [] w (codes "--width=" ++ text)) (Some text) plain false
on_equals w plain text s = (
  ap (λ v. turn_fault shape [] v (codes "--width=" ++ text)) s.is ∙ equals_fault s.rows s.pending s.waiting text
      ∙ ap₂ or_else s.owes_none (width_owes (rows_then s.rows s.pending) text s.shows.seen),
  record {
    rows = used width_arg (text ∷ []) (rows_then s.rows s.pending);
    pending = None;
    waiting = idle;
    is = ap (λ v. walked rules [] v (codes "--width=" ++ text)) s.is ∙ equals_step s.rows s.pending s.waiting text;
    is_free = refl;
    owes_none = refl;
    shows = shows_width _ plain text s.shows;
  },
)

-- a walk at which `--width` waits for its value
pub record IsWaiting (w : Walk) (given : Option Text) (plain : List Text) : Type 0 where
  pub rows : List Row
  pub is : w ≡ at rows (Some (codes "width", [])) (option (codes "width")) false
  pub shows : Shows rows given plain

pub on_width : (w : Walk) (given : Option Text) (plain : List Text) → IsAt w given plain false
    → (turn_fault shape [] w (codes "--width") ≡ []) × IsWaiting (walked rules [] w (codes "--width")) given plain
on_width w given plain s = (
  ap (λ v. turn_fault shape [] v (codes "--width")) s.is ∙ width_fault s.rows s.pending s.waiting ∙ s.owes_none,
  record {
    rows = rows_then s.rows s.pending;
    is = ap (λ v. walked rules [] v (codes "--width")) s.is ∙ width_step s.rows s.pending s.waiting;
    shows = s.shows;
  },
)

pub on_value : (w : Walk) (plain : List Text) (text : Text) → is_option text ≡ false → IsWaiting w None plain
    → (turn_fault shape [] w text ≡ []) × IsAt (walked rules [] w text) (Some text) plain false
on_value w plain text none s = (
  ap (λ v. turn_fault shape [] v text) s.is ∙ value_fault s.rows text none,
  record {
    rows = s.rows;
    pending = Some (codes "width", text ∷ []);
    waiting = idle;
    is = ap (λ v. walked rules [] v text) s.is ∙ value_step s.rows text none;
    is_free = refl;
    owes_none = width_owes s.rows text s.shows.seen;
    shows = shows_width _ plain text s.shows;
  },
)

-- ---- words in a row

over_trailing : (words : List Text) (w : Walk) (given : Option Text) (plain : List Text) → IsAt w given plain true → Goes w words given (plain ++ words) true
over_trailing [] w given plain s = stays w given (plain ++ []) true (subst (λ (p : List Text). IsAt w given p true) (sym (append-nil plain)) s)
over_trailing (word ∷ words) w given plain s =
    let step = on_trailing w given plain word s in
    subst (λ (p : List Text). Goes w (word ∷ words) given p true) (append_assoc plain (word ∷ []) words)
    (goes_on w word words given ((plain ++ word ∷ []) ++ words) true step.0 (over_trailing words _ given _ step.1))

-- past words with no option, the walk goes on as from their end
over_plain : (first rest : List Text) (w : Walk) (given end : Option Text) (plain all : List Text) (t : Bool) → HasNoOption first → IsAt w given plain false
    → ((v : Walk) → IsAt v given (plain ++ first) false → Goes v rest end all t) → Goes w (first ++ rest) end all t
over_plain [] rest w given end plain all t none s next = next w (subst (λ (p : List Text). IsAt w given p false) (sym (append-nil plain)) s)
over_plain (word ∷ first) rest w given end plain all t none s next =
    let step = on_plain w given plain word none.0 s in
    goes_on w word (first ++ rest) end all t step.0 (over_plain first rest _ given end (plain ++ word ∷ []) all t none.1 step.1
    (λ v is. next v (subst (λ (p : List Text). IsAt v given p false) (append_assoc plain (word ∷ []) first) is)))

over_width : (opt rest : List Text) (text : Text) (w : Walk) (end : Option Text) (plain all : List Text) (t : Bool) → IsWidthOption opt text → IsAt w None plain false
    → ((v : Walk) → IsAt v (Some text) plain false → Goes v rest end all t) → Goes w (opt ++ rest) end all t
over_width opt rest text w end plain all t (inl two) s next =
    let first = on_width w None plain s in
    let second = on_value (walked rules [] w (codes "--width")) plain text two.1 first.1 in
    subst (λ (o : List Text). Goes w (o ++ rest) end all t) (sym two.0)
    (goes_on w (codes "--width") (text ∷ rest) end all t first.0 (goes_on _ text rest end all t second.0 (next _ second.1)))
over_width opt rest text w end plain all t (inr one) s next =
    let step = on_equals w plain text s in
    subst (λ (o : List Text). Goes w (o ++ rest) end all t) (sym one) (goes_on w (codes "--width=" ++ text) rest end all t step.0 (next _ step.1))

pub each_first : (xs ys : List Text) → HasNoOption (xs ++ ys) → HasNoOption xs × HasNoOption ys
each_first [] ys all = (tt, all)
each_first (x ∷ xs) ys all = let rest = each_first xs ys all.1 in ((all.0, rest.0), rest.1)

over_options : (before left rest : List Text) (given end : Option Text) (all : List Text) (t : Bool) → HasOptions before left given
    → ((v : Walk) → IsAt v given left false → Goes v rest end all t) → Goes (walk_from nothing_held) (before ++ rest) end all t
over_options before left rest None end all t (none, is) next =
    over_plain before rest _ None end [] all t none start_at (λ v s. next v (subst (λ (p : List Text). IsAt v None p false) (sym is) s))
over_options before left rest (Some text) end all t h next =
    let none = each_first h.first h.rest (subst HasNoOption h.left h.no_other) in
    let words : before ++ rest ≡ h.first ++ (h.option ++ (h.rest ++ rest)) =
    ap (λ (xs : List Text). xs ++ rest) h.place ∙ append_assoc h.first (h.option ++ h.rest) rest ∙ ap (λ (xs : List Text). h.first ++ xs) (append_assoc h.option h.rest rest) in
    subst (λ (xs : List Text). Goes (walk_from nothing_held) xs end all t) (sym words)
    (over_plain h.first (h.option ++ (h.rest ++ rest)) _ None end [] all t none.0 start_at
    (λ v s. over_width h.option (h.rest ++ rest) text v end h.first all t h.is_width s
    (λ u r. over_plain h.rest rest u (Some text) end h.first all t none.1 r
    (λ x q. next x (subst (λ (p : List Text). IsAt x (Some text) p false) (sym h.left) q)))))

-- the words of a split pass, and their rows show it
pub splits_go : (words : List Text) (given : Option Text) (plain : List Text) → IsSplit words given plain
    → (t : Bool) × Goes (walk_from nothing_held) words given plain t
splits_go words given plain s = go (s.cut).1
  where
    go : ((words ≡ s.before) × (s.behind ≡ [])) ⊎ (words ≡ s.before ++ codes "--" ∷ s.behind) → (t : Bool) × Goes (walk_from nothing_held) words given plain t
    go (inl (is, none)) =
        let all : s.left ≡ plain = sym (append-nil s.left) ∙ ap (λ (b : List Text). s.left ++ b) (sym none) ∙ sym s.plain_is in (
          false,
          subst (λ (xs : List Text). Goes (walk_from nothing_held) xs given plain false) (append-nil s.before ∙ sym is)
              (over_options s.before s.left [] given given plain false s.options
              (λ v r. stays v given plain false (subst (λ (p : List Text). IsAt v given p false) all r))),
        )
    go (inr is) = (
      true,
      subst (λ (xs : List Text). Goes (walk_from nothing_held) xs given plain true) (sym is)
          (over_options s.before s.left (codes "--" ∷ s.behind) given given plain true s.options
          (λ v r. let step = on_dashes v given s.left r in
          goes_on v (codes "--") s.behind given plain true step.0
          (subst (λ (p : List Text). Goes (walked rules [] v (codes "--")) s.behind given p true) (sym s.plain_is) (over_trailing s.behind _ given s.left step.1)))),
    )
