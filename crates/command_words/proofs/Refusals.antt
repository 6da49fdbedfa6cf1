-- Where parts of a command are missing, there is none.
use Rattle.std.proofs.Common.{◌≡◌, ◌≢◌, ◌∙◌, inl, inr, ℕ, Bool, false, length, refl, sym, subst, ap, List, ◌∷◌, Option, Some, None, Result, Ok, Err, IfErr, IsErrAnd, true, true≢false, codes}
use Rattle.std.specs.Prelude.{is_some, option_map}
use Rattle.command_words.specs.Commands.{AreNumbers, IsCommand, IsLoad, IsNumber, IsServe, IsSplit, IsWidth, Word}
use Rattle.command_words.specs.Faults.{HasFault, HasLoadFault, HasNumbersFault, HasServeFault, IsNoWidth, IsUnsplit, behind_load}
use Rattle.command_words.specs.declared.command.Command.{Command}
use Rattle.command_words.specs.declared.command.Command.TheVariants.{Serve, Load}
use Rattle.command_words.specs.declared.fault.WordsFault.{WordsFault}
use Rattle.command_words.specs.declared.fault.WordsFault.TheVariants.{NoWord, UnknownCommand, ShortOption, UnknownOption, WidthTwice, BadWidth, LoadOption, NotTwoNumbers, BadDocs, BadNumber, NoMemory}
use Rattle.command_words.proofs.OneCommand.{head_of, not_both, one_split, tail_of}

abbrev pub IsNoServe : List Word → Type 0
IsNoServe words = (width : ℕ) (plain : List Word) → ¬ IsServe words width plain

abbrev pub IsNoLoad : List Word → Type 0
IsNoLoad words = (docs number : ℕ) → ¬ IsLoad words docs number

pub unsplit_serve : (words : List Word) → IsUnsplit words → IsNoServe words
unsplit_serve words none width plain (given, s, _) = none given plain s

pub unsplit_load : (words : List Word) → IsUnsplit words → IsNoLoad words
unsplit_load words none docs number (plain, s, _) = none None plain s

no_width_number : (given : Option Word) → IsNoWidth given → (width : ℕ) → ¬ IsWidth given width
no_width_number None none width is = none
no_width_number (Some text) none width is = none width is

pub no_width : (words : List Word) (given : Option Word) (others : List Word) → IsSplit words given others → IsNoWidth given → IsNoServe words
no_width words given others s none width plain (other, r, is) =
    no_width_number given none width (subst (λ (g : Option Word). IsWidth g width) (sym (one_split words given other others plain s r).0) is)

pub width_fault_is : (words : List Word) (given : Option Word) (others : List Word) → IsSplit words given others → IsNoWidth given → HasServeFault words BadWidth
width_fault_is words None others s none = absurd none
width_fault_is words (Some text) others s none = inr (text, others, s, none)

pub no_option : (words : List Word) (given : Option Word) (others : List Word) → IsSplit words given others → is_some given ≡ true → IsNoLoad words
no_option words given others s there docs number (plain, r, _) =
    true≢false (sym there ∙ ap is_some (one_split words given None others plain s r).0)

numbers_none : (plain : List Word) (fault : WordsFault) → HasNumbersFault plain fault → (docs number : ℕ) → ¬ AreNumbers plain docs number
numbers_none plain NotTwoNumbers none docs number are = none (ap length are.2)
numbers_none plain BadDocs (first, second, same, none) docs number are =
    none docs (subst (λ (t : Word). IsNumber 1 20000 t docs) (ap head_of (sym are.2 ∙ same)) are.3)
numbers_none plain BadNumber (first, second, same, none) docs number are =
    none number (subst (λ (t : Word). IsNumber 0 2147483647 t number) (ap (λ (xs : List Word). head_of (tail_of xs)) (sym are.2 ∙ same)) are.4)
numbers_none plain NoWord h docs number are = h
numbers_none plain UnknownCommand h docs number are = h
numbers_none plain (ShortOption place) h docs number are = h
numbers_none plain UnknownOption h docs number are = h
numbers_none plain WidthTwice h docs number are = h
numbers_none plain BadWidth h docs number are = h
numbers_none plain LoadOption h docs number are = h
numbers_none plain NoMemory h docs number are = h

pub no_numbers : (words : List Word) (given : Option Word) (others : List Word) (fault : WordsFault) → IsSplit words given others → HasNumbersFault others fault → IsNoLoad words
no_numbers words given others fault s has docs number (plain, r, are) =
    numbers_none others fault has docs number (subst (λ (p : List Word). AreNumbers p docs number) (sym (one_split words given None others plain s r).1) are)

pub numbers_fault_is : (words : List Word) (plain : List Word) (fault : WordsFault) → IsSplit words None plain → HasNumbersFault plain fault → HasLoadFault words fault
numbers_fault_is words plain NotTwoNumbers s h = (plain, s, h)
numbers_fault_is words plain BadDocs s h = (plain, s, h)
numbers_fault_is words plain BadNumber s h = (plain, s, h)
numbers_fault_is words plain NoWord s h = absurd h
numbers_fault_is words plain UnknownCommand s h = absurd h
numbers_fault_is words plain (ShortOption place) s h = absurd h
numbers_fault_is words plain UnknownOption s h = absurd h
numbers_fault_is words plain WidthTwice s h = absurd h
numbers_fault_is words plain BadWidth s h = absurd h
numbers_fault_is words plain LoadOption s h = absurd h
numbers_fault_is words plain NoMemory s h = absurd h

pub option_fault_is : (words : List Word) (given : Option Word) (others : List Word) → IsSplit words given others → is_some given ≡ true → HasLoadFault words LoadOption
option_fault_is words given others s there plain r = true≢false (sym there ∙ ap is_some (one_split words given None others plain s r).0)

abbrev is_memory : WordsFault → Bool
is_memory NoMemory = true
is_memory _ = false

pub load_fault_is : (words : List Word) (fault : WordsFault) → (fault ≢ NoMemory → IsUnsplit words) → HasLoadFault words (behind_load fault)
load_fault_is words NoMemory none = tt
load_fault_is words _ none = λ plain s. none (λ e. true≢false (sym (ap is_memory e))) None plain s

-- the fault of the words behind a command is that of all words
pub serve_fault_is : (words rest : List Word) (first : Word) (fault : WordsFault) → words ≡ first ∷ rest → first ≡ codes "serve" → HasServeFault rest fault → HasFault words fault
serve_fault_is words rest first fault are is has = subst (λ (ws : List Word). HasFault ws fault) (sym are) (inl (is, has))

pub load_fault_of : (words rest : List Word) (first : Word) (fault : WordsFault) → words ≡ first ∷ rest → first ≡ codes "load" → HasLoadFault rest fault → HasFault words fault
load_fault_of words rest first fault are is has = subst (λ (ws : List Word). HasFault ws fault) (sym are) (inr (inl (is, has)))

pub no_serve_command : (words rest : List Word) (first : Word) → words ≡ first ∷ rest → first ≡ codes "serve" → IsNoServe rest → (c : Command) → ¬ IsCommand words c
no_serve_command words rest first are is none c command = go c (subst (λ (ws : List Word). IsCommand ws c) are command)
  where
    go : (d : Command) → ¬ IsCommand (first ∷ rest) d
    go (Serve width kept) (_, serves) = none _ _ serves
    go (Load docs number) (named, _) = not_both first is named

pub no_load_command : (words rest : List Word) (first : Word) → words ≡ first ∷ rest → first ≡ codes "load" → IsNoLoad rest → (c : Command) → ¬ IsCommand words c
no_load_command words rest first are is none c command = go c (subst (λ (ws : List Word). IsCommand ws c) are command)
  where
    go : (d : Command) → ¬ IsCommand (first ∷ rest) d
    go (Serve width kept) (named, _) = not_both first named is
    go (Load docs number) (_, loads) = none _ _ loads

-- an error that `?` passes on
pub passed_on : {T E : Type 0} (r : Result T E) (e : E) (P : E → Type 0) → IsErrAnd r (λ y. y ≡ e) → P e → IfErr r P
passed_on (Ok x) e P is known = absurd is
passed_on (Err y) e P is known = subst P (sym is) known

pub on_err_weaker : {T E : Type 0} (r : Result T E) (P Q : E → Type 0) → IfErr r P → ((e : E) → P e → Q e) → IfErr r Q
on_err_weaker (Ok x) P Q none weaker = tt
on_err_weaker (Err e) P Q none weaker = weaker e none

pub none_of : {X : Type 0} (o : Option X) → is_some o ≡ false → o ≡ None
none_of None e = refl
none_of (Some x) e = absurd (true≢false e)

pub is_some-option_map : {A B : Type 0} (f : A → B) (o : Option A) → is_some (option_map f o) ≡ is_some o
is_some-option_map f None = refl
is_some-option_map f (Some x) = refl
