-- Groups whose values may be any of some.
use Rattle.std.specs.Prelude.{◌≡◌, ℕ, List, [], ◌∷◌, ◌++◌, Bool, true, false, ◌||◌, refl, codes}
use Rattle.std.proofs.Common.{ap, sym, subst, ◌∙◌, append_assoc}
use Rattle.std.proofs.lemmas.List.{append-nil}
use Rattle.std.specs.List.{AllZip}
use Rattle.json_terms.specs.Json.{Json}
use Rattle.json_terms.specs.declared.term.Row.{Row}
use Rattle.raw_collation.specs.declared.group.Level.{Level}
use Rattle.query_args.specs.declared.query.Query.{Query}
use Rattle.view_ports.specs.Lines.{IsLine}
use Rattle.view_model.specs.declared.print.Progress.{Progress}
use Rattle.view_model.specs.declared.reply.Reply.{Reply}
use Rattle.view_model.specs.Adding.{AddsGroups, AddsSome}
use Rattle.view_model.specs.Answer.{comma, group_text, groups_answer, key_of_group, keyed, seq_text, with_commas, IsGroupsAnswer}
use Rattle.view_model.specs.Groups.{picked_groups}
use Rattle.view_model.specs.GroupValues.{KeepsValues}
use Rattle.view_model.specs.Progress.{due, is_some_list, past, texts_after}
use Rattle.view_model.specs.Written.{Adds, written_of}
use Rattle.view_model.proofs.Lines.{joined, line, lines5}
use Rattle.view_model.proofs.Pieces.{appended5}
use Rattle.view_model.proofs.Printed.{due_parts, no_texts, none_before, texts_after-append}

-- ---- lists of groups and texts of their values

-- the same list of groups
pub zip_append : {A B : Type 0} (R : A → B → Type 0) (xs ys : List A) (ts us : List B) → AllZip R xs ts → AllZip R ys us → AllZip R (xs ++ ys) (ts ++ us)
zip_append R [] ys [] us first second = second
zip_append R [] ys (a ∷ ts) us first second = absurd first
zip_append R (x ∷ xs) ys [] us first second = absurd first
zip_append R (x ∷ xs) ys (a ∷ ts) us first second = (first.0, zip_append R xs ys ts us first.1 second)

pub zip_weaker : {A B : Type 0} (R S : A → B → Type 0) → ((x : A) (a : B) → R x a → S x a) → (xs : List A) (ts : List B) → AllZip R xs ts → AllZip S xs ts
zip_weaker R S weaker [] [] all = all
zip_weaker R S weaker [] (a ∷ ts) all = absurd all
zip_weaker R S weaker (x ∷ xs) [] all = absurd all
zip_weaker R S weaker (x ∷ xs) (a ∷ ts) all = (weaker x a all.0, zip_weaker R S weaker xs ts all.1)

module _ (IsValue : List Row → List ℕ → Type 0) (level : Level) where
  keyed_append : (xs ys : List (List Row)) (ts us : List (List ℕ)) → AllZip IsValue xs ts → keyed level (xs ++ ys) (ts ++ us) ≡ keyed level xs ts ++ keyed level ys us
  keyed_append [] ys [] us first = refl
  keyed_append [] ys (a ∷ ts) us first = absurd first
  keyed_append (x ∷ xs) ys [] us first = absurd first
  keyed_append (x ∷ xs) ys (a ∷ ts) us first = ap (λ rest. (key_of_group level x, a) ∷ rest) (keyed_append xs ys ts us first.1)

  some_keyed : (xs : List (List Row)) (ts : List (List ℕ)) → AllZip IsValue xs ts → is_some_list (keyed level xs ts) ≡ is_some_list xs
  some_keyed [] ts first = refl
  some_keyed (x ∷ xs) [] first = absurd first
  some_keyed (x ∷ xs) (a ∷ ts) first = refl

  -- ---- what is written of them

  -- nothing
  pub no_groups : (later : Bool) (groups : List (List Row)) (old : Reply) → groups ≡ [] → AddsGroups IsValue level later groups old old
  no_groups later groups old none =
      let nothing = no_texts group_text later in
      subst (λ gs. AddsGroups IsValue level later gs old old) (sym none)
      (record {
        values = [];
        each = tt;
        adds = sym (append-nil (written_of old)) ∙ ap (λ t. written_of old ++ t) (sym nothing);
        line = subst IsLine (sym nothing) (line [] refl);
      })

  -- these and then those
  pub more_groups : (later : Bool) (xs ys : List (List Row)) (old mid new : Reply) → AddsGroups IsValue level later xs old mid
      → AddsGroups IsValue level (later || is_some_list xs) ys mid new → AddsGroups IsValue level later (xs ++ ys) old new
  more_groups later xs ys old mid new first second =
      let here = texts_after group_text later (keyed level xs first.values) in
      let there = texts_after group_text (later || is_some_list xs) (keyed level ys second.values) in
      let whole : texts_after group_text later (keyed level (xs ++ ys) (first.values ++ second.values)) ≡ here ++ there =
      ap (texts_after group_text later) (keyed_append xs ys first.values second.values first.each)
      ∙ texts_after-append group_text later (keyed level xs first.values) (keyed level ys second.values)
      ∙ ap (λ b. here ++ texts_after group_text (later || b) (keyed level ys second.values)) (some_keyed xs first.values first.each) in
      record {
        values = first.values ++ second.values;
        each = zip_append IsValue xs ys first.values second.values first.each second.each;
        adds = second.adds ∙ ap (λ t. t ++ there) first.adds ∙ append_assoc (written_of old) here there ∙ ap (λ t. written_of old ++ t) (sym whole);
        line = subst IsLine (sym whole) (joined here there first.line second.line);
      }

  -- one part of all that is due
  pub part_of_groups : (progress next : Progress) (part left rest : List (List Row)) (old mid new : Reply) → left ≡ part ++ rest → next ≡ past progress part
      → AddsGroups IsValue level progress.printed (due progress part) old mid → AddsGroups IsValue level next.printed (due next rest) mid new
      → AddsGroups IsValue level progress.printed (due progress left) old new
  part_of_groups progress next part left rest old mid new is past_is first second =
      subst (λ gs. AddsGroups IsValue level progress.printed gs old new)
      (sym (ap (due progress) is ∙ due_parts progress.skip progress.limit progress.printed part rest))
      (more_groups progress.printed (due progress part) (due (past progress part) rest) old mid new first
      (subst (λ (p : Progress). AddsGroups IsValue level p.printed (due p rest) mid new) past_is second))

  -- one group, by its key and the text of its value
  pub one_group_added : (group : List Row) (key : Json) (text : List ℕ) (old new : Reply) → IsValue group text → key ≡ key_of_group level group
      → written_of new ≡ written_of old ++ group_text (key, text) → IsLine (group_text (key, text)) → AddsGroups IsValue level false (group ∷ []) old new
  one_group_added group key text old new is same added plain =
      let whole : group_text (key, text) ≡ texts_after group_text false (keyed level (group ∷ []) (text ∷ [])) =
      ap (λ k. group_text (k, text)) same ∙ sym (append-nil (group_text (key_of_group level group, text))) in
      record {
        values = text ∷ [];
        each = (is, tt);
        adds = added ∙ ap (λ t. written_of old ++ t) whole;
        line = subst IsLine whole plain;
      }

  -- a comma, and then a group
  pub comma_before : (group : List Row) (old mid new : Reply) → Adds old mid (codes ",") → AddsGroups IsValue level false (group ∷ []) mid new
      → AddsGroups IsValue level true (group ∷ []) old new
  comma_before group old mid new before first = behind first.values first.each first.adds first.line
    where
      behind : (values : List (List ℕ)) → AllZip IsValue (group ∷ []) values → Adds mid new (texts_after group_text false (keyed level (group ∷ []) values))
          → IsLine (texts_after group_text false (keyed level (group ∷ []) values)) → AddsGroups IsValue level true (group ∷ []) old new
      behind [] each adds plain = absurd each
      behind (text ∷ values) each adds plain =
          let rest = texts_after group_text false (keyed level (group ∷ []) (text ∷ values)) in
          let same : texts_after group_text true (keyed level (group ∷ []) (text ∷ values)) ≡ (comma ∷ []) ++ rest = refl in record {
            values = text ∷ values;
            each = each;
            adds = adds ∙ ap (λ t. t ++ rest) before ∙ append_assoc (written_of old) (comma ∷ []) rest ∙ ap (λ t. written_of old ++ t) (sym same);
            line = subst IsLine (sym same) (joined (comma ∷ []) rest (line (comma ∷ []) refl) plain);
          }

-- the next group, where the comma was written if one is due
module _ (IsValue : List Row → List ℕ → Type 0) (level : Level) (later : Bool) (group : List Row) (old mid new : Reply) (whole : AddsGroups IsValue level false (group ∷ []) mid new) where
  pub after_comma : (put : Reply) → later ≡ true → mid ≡ put → Adds old put (codes ",") → AddsGroups IsValue level later (group ∷ []) old new
  after_comma put is same before =
      subst (λ b. AddsGroups IsValue level b (group ∷ []) old new) (sym is)
      (comma_before IsValue level group old put new before (subst (λ (r : Reply). AddsGroups IsValue level false (group ∷ []) r new) same whole))

  pub without_comma : later ≡ false → mid ≡ old → AddsGroups IsValue level later (group ∷ []) old new
  without_comma is same =
      subst (λ b. AddsGroups IsValue level b (group ∷ []) old new) (sym is) (subst (λ (r : Reply). AddsGroups IsValue level false (group ∷ []) r new) same whole)

-- the texts may be any of more
pub weaker_groups : (P Q : List Row → List ℕ → Type 0) → ((group : List Row) (text : List ℕ) → P group text → Q group text)
    → (level : Level) (later : Bool) (groups : List (List Row)) (old new : Reply) → AddsGroups P level later groups old new → AddsGroups Q level later groups old new
weaker_groups P Q weaker level later groups old new added = record {
  values = added.values;
  each = zip_weaker P Q weaker groups added.values added.each;
  adds = added.adds;
  line = added.line;
}

-- ---- what calls do

module _ {A : Type 0} {Goes : A → A → Type 0} {IsValue : A → List Row → List ℕ → Type 0} (k : KeepsValues Goes IsValue) where
  -- groups that were written later are groups of values at first
  pub groups_before : (a b : A) → Goes a b → (level : Level) (later : Bool) (groups : List (List Row)) (old new : Reply)
      → AddsGroups (IsValue b) level later groups old new → AddsGroups (IsValue a) level later groups old new
  groups_before a b goes = weaker_groups (IsValue b) (IsValue a) (λ group text is. k.value a b group text goes is)

-- ---- the whole answer

-- with nothing before them the commas stand between
pub whole_groups : (IsValue : List Row → List ℕ → Type 0) (query : Query) (seq : ℕ) (rows : List Row) (old a b c new : Reply)
    → Adds old a (codes "{") → Adds a b (seq_text query seq) → Adds b c (codes "\"rows\":[") → IsLine (seq_text query seq)
    → (end : Reply) → AddsGroups IsValue query.level false (picked_groups query rows) c end → Adds end new (codes "]}")
    → AddsSome (IsGroupsAnswer IsValue query seq rows) old new
whole_groups IsValue query seq rows old a b c new first second third plain end groups last =
    let pairs = keyed query.level (picked_groups query rows) groups.values in
    let same = none_before group_text pairs in record {
      text = groups_answer query seq pairs;
      is = record { values = groups.values; each = groups.each; is = refl };
      adds = appended5 (written_of old) (codes "{") (seq_text query seq) (codes "\"rows\":[") (with_commas group_text pairs) (codes "]}") first second third
          (groups.adds ∙ ap (λ t. written_of c ++ t) same) last;
      line = lines5 (codes "{") (seq_text query seq) (codes "\"rows\":[") (with_commas group_text pairs) (codes "]}") (line (codes "{") refl) plain
          (line (codes "\"rows\":[") refl) (subst IsLine same groups.line) (line (codes "]}") refl);
    }
