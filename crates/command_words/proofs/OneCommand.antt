-- Words name one command at most.
use Rattle.std.proofs.Common.{◌≡◌, ◌∙◌, ◌<◌, ◌^◌, ℕ, sym, ap, subst, List, [], ◌∷◌, Option, Some, None, codes, arith, lit<, true≢false}
use Rattle.std.specs.Prelude.{nat_eq}
use Rattle.std.specs.List.{fold}
use Rattle.std.proofs.lemmas.Fmt.{decimal_injective}
use Rattle.clap.specs.Walk.{Row, Text, Walk, nothing_held, settled_rows, walk_from, walked}
use Rattle.command_words.specs.Commands.{AreNumbers, IsNumber, IsSplit, IsWidth, Word}
use Rattle.command_words.specs.Laws.{NameOneCommand}
use Rattle.command_words.specs.declared.command.Command.TheVariants.{Serve, Load}
use Rattle.command_words.proofs.Steps.{rules}
use Rattle.command_words.proofs.Walks.{IsAt, Shows, splits_go}

-- the rows at the end of the walk over the words, with what waits there used
abbrev pub rows_at_end : Walk → List Row
rows_at_end w = settled_rows rules w.held.pending w.held.rows

abbrev pub walk_over : List Text → Walk
walk_over words = fold (walked rules []) (walk_from nothing_held) words

pub shown : (w : Walk) (given : Option Text) (plain : List Text) (t : _) → IsAt w given plain t → Shows (rows_at_end w) given plain
shown w given plain t s = subst (λ (rows : List Row). Shows rows given plain) (sym (ap rows_at_end s.is)) s.shows

pub split_shown : (words : List Word) (given : Option Word) (plain : List Word) → IsSplit words given plain → Shows (rows_at_end (walk_over words)) given plain
split_shown words given plain s = let goes = splits_go words given plain s in shown _ given plain goes.0 goes.1.end

-- words are split in one way at most
pub one_split : (words : List Word) (given other : Option Word) (plain others : List Word) → IsSplit words given plain → IsSplit words other others
    → (given ≡ other) × (plain ≡ others)
one_split words given other plain others s r =
    let a = split_shown words given plain s in
    let b = split_shown words other others r in
    (sym a.width ∙ b.width, sym a.words ∙ b.words)

-- a text is one number at most
pub one_number : (least most : ℕ) (text : Word) (m n : ℕ) → most < 2 ^ 64 → IsNumber least most text m → IsNumber least most text n → m ≡ n
one_number least most text m n small a b =
    decimal_injective m n (omega (arith, a.high, small)) (omega (arith, b.high, small)) (sym a.digits ∙ b.digits)

pub one_width : (given : Option Word) (m n : ℕ) → IsWidth given m → IsWidth given n → m ≡ n
one_width None m n a b = a ∙ sym b
one_width (Some text) m n a b = one_number 1 8 text m n (lit< tt) a b

abbrev pub head_of : List Word → Word
head_of [] = []
head_of (x ∷ xs) = x

abbrev pub tail_of : List Word → List Word
tail_of [] = []
tail_of (x ∷ xs) = xs

pub one_pair : (plain : List Word) (docs number other others : ℕ) → AreNumbers plain docs number → AreNumbers plain other others → (docs ≡ other) × (number ≡ others)
one_pair plain docs number other others a b =
    let same = sym (a.2) ∙ b.2 in
    let firsts : a.0 ≡ b.0 = ap head_of same in
    let seconds : a.1 ≡ b.1 = ap (λ (xs : List Word). head_of (tail_of xs)) same in (
      one_number 1 20000 b.0 docs other (lit< tt) (subst (λ (t : Word). IsNumber 1 20000 t docs) firsts a.3) b.3,
      one_number 0 2147483647 b.1 number others (lit< tt) (subst (λ (t : Word). IsNumber 0 2147483647 t number) seconds a.4) b.4,
    )

abbrev first_byte : Word → ℕ
first_byte [] = 0
first_byte (x ∷ xs) = x

pub not_both : (word : Word) → word ≡ codes "serve" → word ≡ codes "load" → ⊥
not_both word a b = true≢false (ap (λ (w : Word). nat_eq (first_byte w) 115) (sym a ∙ b))

pub one_command : NameOneCommand
one_command [] one other is_one is_other = absurd is_one
one_command (first ∷ rest) (Serve width words) (Serve other others) (_, (given, split, is_width)) (_, (given', split', is_width')) =
    let same = one_split rest given given' _ _ split split' in
    (one_width given' width other (subst (λ (g : Option Word). IsWidth g width) same.0 is_width) is_width', same.1)
one_command (first ∷ rest) (Load docs number) (Load other others) (_, (plain, split, are)) (_, (plain', split', are')) =
    let same = one_split rest None None plain plain' split split' in
    one_pair plain' docs number other others (subst (λ (p : List Word). AreNumbers p docs number) same.1 are) are'
one_command (first ∷ rest) (Serve width words) (Load other others) is_one is_other = absurd (not_both first is_one.0 is_other.0)
one_command (first ∷ rest) (Load docs number) (Serve other others) is_one is_other = absurd (not_both first is_other.0 is_one.0)
