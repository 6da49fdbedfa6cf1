-- Rows, or groups of them, that are printed part by part.
use Rattle.std.specs.Prelude.{◌≡◌, ℕ, zero, suc, ◌+◌, ◌-◌, ◌≤◌, min, List, [], ◌∷◌, ◌++◌, Bool, true, false, ◌||◌, refl, drop, take, length, map, reverse, filter, Option, Some, None}
use Rattle.std.proofs.Common.{ap, sym, ◌∙◌, arith, append_assoc, subst}
use Rattle.std.proofs.lemmas.List.{append-nil, length-drop, take_min, drop_min, reverse-append, take-append-drop, length-reverse, take_at, drop_at, take_rest}
use Rattle.json_terms.specs.Seen.{json}
use Rattle.json_terms.specs.declared.term.Row.{Row}
use Rattle.json_terms.specs.declared.term.Term.{Term}
use Rattle.view_ports.specs.Lines.{IsLine}
use Rattle.std.specs.List.{flat_map}
use Rattle.json_terms.specs.Json.{Json}
use Rattle.query_args.specs.declared.query.Query.{Query}
use Rattle.view_model.specs.Selection.{limited, listed_or_ranged, rows_of_key, is_in_range, picked, before_start, offset, offset_unless}
use Rattle.view_model.specs.Answer.{comma, row_text, with_commas, more}
use Rattle.view_model.specs.declared.print.Progress.{Progress}
use Rattle.view_model.specs.Progress.{start_of, walked, texts_after, due, due_text, is_some_list, past}
use Rattle.view_model.proofs.Lines.{joined, line}

-- ---- commas

module _ {A : Type 0} (text : A → List ℕ) where
  pub text_first : (later : Bool) (x : A) (rest : List A) → texts_after text later (x ∷ rest) ≡ texts_after text later (x ∷ []) ++ texts_after text true rest
  text_first true x rest = ap (λ t. t ++ texts_after text true rest) (sym (append-nil (comma ∷ text x)))
  text_first false x rest = ap (λ t. t ++ texts_after text true rest) (sym (append-nil (text x)))

  pub texts_after-append : (later : Bool) (xs ys : List A) → texts_after text later (xs ++ ys) ≡ texts_after text later xs ++ texts_after text (later || is_some_list xs) ys
  texts_after-append true [] ys = refl
  texts_after-append false [] ys = refl
  texts_after-append true (x ∷ xs) ys =
      ap (λ t. (comma ∷ text x) ++ t) (texts_after-append true xs ys) ∙ sym (append_assoc (comma ∷ text x) (texts_after text true xs) (texts_after text true ys))
  texts_after-append false (x ∷ xs) ys = ap (λ t. text x ++ t) (texts_after-append true xs ys) ∙ sym (append_assoc (text x) (texts_after text true xs) (texts_after text true ys))

  more_after : (xs : List A) → texts_after text true xs ≡ more text xs
  more_after [] = refl
  more_after (x ∷ xs) = ap (λ t. (comma ∷ text x) ++ t) (more_after xs)

  pub none_before : (xs : List A) → texts_after text false xs ≡ with_commas text xs
  none_before [] = refl
  none_before (x ∷ xs) = ap (λ t. text x ++ t) (more_after xs)

  -- one more is printed, and what is left is one less
  pub one_more : (later b : Bool) (x : A) (left rest all : List A) (old mid new : List ℕ) → left ≡ x ∷ rest → mid ++ texts_after text later left ≡ old ++ texts_after text b all
      → new ≡ mid ++ texts_after text later (x ∷ []) → new ++ texts_after text true rest ≡ old ++ texts_after text b all
  one_more later b x left rest all old mid new is whole added =
      ap (λ t. t ++ texts_after text true rest) added ∙ append_assoc mid (texts_after text later (x ∷ [])) (texts_after text true rest)
      ∙ ap (λ t. mid ++ t) (sym (text_first later x rest)) ∙ ap (λ xs. mid ++ texts_after text later xs) (sym is) ∙ whole

  pub one_more_line : (later : Bool) (x : A) (left rest : List A) → left ≡ x ∷ rest → IsLine (texts_after text later (x ∷ [])) → IsLine (texts_after text true rest)
      → IsLine (texts_after text later left)
  one_more_line later x left rest is first others =
      subst (λ (t : List ℕ). IsLine t) (sym (ap (texts_after text later) is ∙ text_first later x rest)) (joined (texts_after text later (x ∷ [])) (texts_after text true rest) first others)

  pub next_line : (later : Bool) (x : A) → IsLine (text x) → IsLine (texts_after text later (x ∷ []))
  next_line true x plain = joined (comma ∷ text x) [] (joined (comma ∷ []) (text x) (line (comma ∷ []) refl) plain) (line [] refl)
  next_line false x plain = joined (text x) [] plain (line [] refl)

-- ---- parts

drop-append : {X : Type 0} (n : ℕ) (xs ys : List X) → drop n (xs ++ ys) ≡ drop n xs ++ drop (n - length xs) ys
drop-append zero xs ys = let e : 0 ≡ 0 - length xs = omega arith in ap (λ m. xs ++ drop m ys) e
drop-append (suc n) [] ys = let e : suc n ≡ suc n - 0 = omega arith in ap (λ m. drop m ys) e
drop-append (suc n) (x ∷ xs) ys = let e : n - length xs ≡ suc n - suc (length xs) = omega arith in drop-append n xs ys ∙ ap (λ m. drop n xs ++ drop m ys) e

take-append : {X : Type 0} (n : ℕ) (xs ys : List X) → take n (xs ++ ys) ≡ take n xs ++ take (n - length xs) ys
take-append zero xs ys = let e : 0 ≡ 0 - length xs = omega arith in ap (λ m. take m ys) e
take-append (suc n) [] ys = let e : suc n ≡ suc n - 0 = omega arith in ap (λ m. take m ys) e
take-append (suc n) (x ∷ xs) ys = let e : n - length xs ≡ suc n - suc (length xs) = omega arith in ap (λ zs. x ∷ zs) (take-append n xs ys ∙ ap (λ m. take n xs ++ take m ys) e)

pub due_parts : {A : Type 0} (skip : ℕ) (limit : Option ℕ) (printed : Bool) (xs ys : List A)
    → let progress : Progress = record { skip = skip; limit = limit; printed = printed } in due progress (xs ++ ys) ≡ due progress xs ++ due (past progress xs) ys
due_parts skip None printed xs ys = drop-append skip xs ys
due_parts skip (Some limit) printed xs ys =
    ap (take limit) (drop-append skip xs ys) ∙ take-append limit (drop skip xs) (drop (skip - length xs) ys)
    ∙ ap (λ m. take limit (drop skip xs) ++ take (limit - m) (drop (skip - length xs) ys)) (length-drop skip xs)

pub due_none : {A : Type 0} (skip : ℕ) (limit : Option ℕ) → limited {A = A} limit (drop skip []) ≡ []
due_none zero None = refl
due_none (suc skip) None = refl
due_none zero (Some zero) = refl
due_none zero (Some (suc limit)) = refl
due_none (suc skip) (Some zero) = refl
due_none (suc skip) (Some (suc limit)) = refl

module _ {A : Type 0} (text : A → List ℕ) where
  pub due_text-append : (progress : Progress) (xs ys : List A) → due_text text progress (xs ++ ys) ≡ due_text text progress xs ++ due_text text (past progress xs) ys
  due_text-append progress xs ys =
      ap (texts_after text progress.printed) (due_parts progress.skip progress.limit progress.printed xs ys)
      ∙ texts_after-append text progress.printed (due progress xs) (due (past progress xs) ys)

  pub no_texts : (later : Bool) → texts_after text later [] ≡ []
  no_texts true = refl
  no_texts false = refl

  -- nothing is left
  pub due_text-nil : (progress : Progress) → due_text text progress [] ≡ []
  due_text-nil progress = ap (texts_after text progress.printed) (due_none progress.skip progress.limit) ∙ no_texts progress.printed

  -- one more part is printed
  pub part_more : (progress start next : Progress) (part left rest all : List A) (old mid new : List ℕ) → left ≡ part ++ rest → next ≡ past progress part
      → mid ++ due_text text progress left ≡ old ++ due_text text start all → new ≡ mid ++ due_text text progress part
      → new ++ due_text text next rest ≡ old ++ due_text text start all
  part_more progress start next part left rest all old mid new is then whole added =
      ap (λ p. new ++ due_text text p rest) then ∙ ap (λ t. t ++ due_text text (past progress part) rest) added
      ∙ append_assoc mid (due_text text progress part) (due_text text (past progress part) rest)
      ∙ ap (λ t. mid ++ t) (sym (due_text-append progress part rest)) ∙ ap (λ xs. mid ++ due_text text progress xs) (sym is) ∙ whole

  pub part_more_line : (progress next : Progress) (part left rest : List A) → left ≡ part ++ rest → next ≡ past progress part → IsLine (due_text text progress part)
      → IsLine (due_text text next rest) → IsLine (due_text text progress left)
  part_more_line progress next part left rest is then first others =
      subst (λ (t : List ℕ). IsLine t) (sym (ap (due_text text progress) is ∙ due_text-append progress part rest))
      (joined (due_text text progress part) (due_text text (past progress part) rest) first (subst (λ (p : Progress). IsLine (due_text text p rest)) then others))

  -- no part is left
  pub part_end : (progress : Progress) (left : List A) (mid whole : List ℕ) → left ≡ [] → mid ++ due_text text progress left ≡ whole → mid ≡ whole
  part_end progress left mid whole none is = sym (append-nil mid) ∙ ap (λ t. mid ++ t) (sym (ap (due_text text progress) none ∙ due_text-nil progress)) ∙ is

  pub part_end_line : (progress : Progress) (left : List A) → left ≡ [] → IsLine (due_text text progress left)
  part_end_line progress left none = subst (λ (t : List ℕ). IsLine t) (sym (ap (due_text text progress) none ∙ due_text-nil progress)) (line [] refl)

-- ---- what a query picks

-- the rows of each of these keys
abbrev pub of_keys : Query → List Row → List Term → List Row
of_keys query rows keys = flat_map (rows_of_key query rows) (map json keys)

pub length-walked : (descending : Bool) (rows : List Row) → length (walked descending rows) ≡ length rows
length-walked true rows = length-reverse rows
length-walked false rows = refl

pub listed : (query : Query) (start : Progress) (rows : List Row) (keys others : List Json) → start ≡ start_of query → query.keys ≡ Some keys → others ≡ keys
    → due_text row_text start (flat_map (rows_of_key query rows) others) ≡ with_commas row_text (picked query rows)
listed query start rows keys others begun is same =
    ap (λ p. due_text row_text p (flat_map (rows_of_key query rows) others)) begun
    ∙ ap (λ ks. due_text row_text (start_of query) (flat_map (rows_of_key query rows) ks)) same
    ∙ none_before row_text (due (start_of query) (flat_map (rows_of_key query rows) keys))
    ∙ ap (λ ks. with_commas row_text (limited query.limit (drop query.skip (listed_or_ranged ks query rows)))) (sym is)

pub in_range : (query : Query) (start : Progress) (rows part : List Row) → start ≡ start_of query → query.keys ≡ None → part ≡ filter (is_in_range query) rows
    → due_text row_text start (walked query.descending part) ≡ with_commas row_text (picked query rows)
in_range query start rows part begun is same =
    ap (λ p. due_text row_text p (walked query.descending part)) begun
    ∙ ap (λ ps. due_text row_text (start_of query) (walked query.descending ps)) same
    ∙ none_before row_text (due (start_of query) (walked query.descending (filter (is_in_range query) rows)))
    ∙ ap (λ ks. with_commas row_text (limited query.limit (drop query.skip (listed_or_ranged ks query rows)))) (sym is)

pub offset_is : (query : Query) (rows : List Row) (n : ℕ) → query.keys ≡ None → n ≡ before_start query rows + min query.skip (length (filter (is_in_range query) rows))
    → offset query rows ≡ Some n
offset_is query rows n is same =
    ap (λ ks. offset_unless ks query rows) is
    ∙ ap (λ ks. Some (before_start query rows + min query.skip (length (listed_or_ranged ks query rows)))) is
    ∙ ap (λ m. Some (before_start query rows + min query.skip m)) (length-walked query.descending (filter (is_in_range query) rows))
    ∙ ap (λ m. Some m) (sym same)

-- ---- the first of a list that is walked backwards

-- a list is its first part and the last so many
abbrev front : {X : Type 0} → ℕ → List X → List X
front n xs = take (length xs - n) xs

abbrev back : {X : Type 0} → ℕ → List X → List X
back n xs = drop (length xs - n) xs

reverse_parts : {X : Type 0} (n : ℕ) (xs : List X) → reverse xs ≡ reverse (back n xs) ++ reverse (front n xs)
reverse_parts n xs = ap reverse (sym (take-append-drop (length xs - n) xs)) ∙ reverse-append (front n xs) (back n xs)

back_length : {X : Type 0} (n : ℕ) (xs : List X) → n ≤ length xs → length (reverse (back n xs)) ≡ n
back_length n xs few = length-reverse (back n xs) ∙ length-drop (length xs - n) xs ∙ omega arith

take_back : {X : Type 0} (n : ℕ) (xs : List X) → n ≤ length xs → reverse (back n xs) ≡ take n (reverse xs)
take_back n xs few = sym (ap (take n) (reverse_parts n xs) ∙ take_at (reverse (back n xs)) (reverse (front n xs)) n (back_length n xs few))

drop_front : {X : Type 0} (n : ℕ) (xs : List X) → n ≤ length xs → reverse (front n xs) ≡ drop n (reverse xs)
drop_front n xs few = sym (ap (drop n) (reverse_parts n xs) ∙ drop_at (reverse (back n xs)) (reverse (front n xs)) n (back_length n xs few))

-- where fewer are there, all are meant
take_most : {X : Type 0} (count : ℕ) (xs : List X) → take (min count (length xs)) (reverse xs) ≡ take count (reverse xs)
take_most count xs = ap (λ n. take (min count n) (reverse xs)) (sym (length-reverse xs)) ∙ take_min count (reverse xs)

drop_most : {X : Type 0} (count : ℕ) (xs : List X) → drop (min count (length xs)) (reverse xs) ≡ drop count (reverse xs)
drop_most count xs = ap (λ n. drop (min count n) (reverse xs)) (sym (length-reverse xs)) ∙ drop_min count (reverse xs)

pub first_back : {X : Type 0} (count : ℕ) (xs : List X) → reverse (back (min count (length xs)) xs) ≡ take count (reverse xs)
first_back count xs = take_back (min count (length xs)) xs (omega arith) ∙ take_most count xs

pub without_first_back : {X : Type 0} (count : ℕ) (xs : List X) → reverse (front (min count (length xs)) xs) ≡ drop count (reverse xs)
without_first_back count xs = drop_front (min count (length xs)) xs (omega arith) ∙ drop_most count xs

-- as the parts of a slice are written
pub first_walked : (descending : Bool) (count n : ℕ) (rows : List Row) → descending ≡ true → n ≡ min count (length rows)
    → walked descending (take (length rows - (length rows - n)) (drop (length rows - n) rows)) ≡ take count (walked descending rows)
first_walked true count n rows down is =
    ap (λ m. reverse (take (length rows - (length rows - m)) (drop (length rows - m) rows))) is ∙ ap reverse (take_rest rows (length rows - min count (length rows)))
    ∙ first_back count rows
first_walked false count n rows down is = cc

pub without_first_walked : (descending : Bool) (count n : ℕ) (rows : List Row) → descending ≡ true → n ≡ min count (length rows)
    → walked descending (take (length rows - n) rows) ≡ drop count (walked descending rows)
without_first_walked true count n rows down is = ap (λ m. reverse (front m rows)) is ∙ without_first_back count rows
without_first_walked false count n rows down is = cc
