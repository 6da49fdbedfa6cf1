-- What is read was spelled.
use Rattle.std.proofs.Common.{◌≡◌, ◌^◌, ◌<◌, ◌≤◌, ℕ, zero, suc, List, [], ◌∷◌, ◌++◌, length, Bool, true, false, cond, nat_le, nat_eq, Option, Some, None, option_map, nat_cmp, IsUtf8, refl, ap, sym, ◌∙◌, subst, arith, append_assoc}
use Rattle.std.specs.declared.cmp.Ordering.{Ordering}
use Rattle.std.specs.declared.cmp.Ordering.TheVariants.{Less, Equal, Greater}
use Rattle.std.specs.Ordering.{is_lt}
use Rattle.std.specs.Cmp.Lexicographic.{slice_cmp}
use Rattle.std.proofs.lemmas.Bool.{eqb-true}
use Rattle.std.proofs.lemmas.List.{append-nil}
use Rattle.std.proofs.lemmas.Option.{option_and_then_some}
use Rattle.json_terms.specs.Json.{Json, number, is_false, is_null, is_true, object, array, string, Items, no_items, item, items_of, list_of_items, Members, no_members, member, members_of, list_of_members, depth, items_depth, members_depth}
use Rattle.json_terms.specs.Terms.{IsTerm, AreTerms, AreMembers, ComesBefore}
use Rattle.json_terms.proofs.Sames.{items_of-list_of_items, members_of-list_of_members}
use Rattle.term_codec.specs.Spelling.{spelling, items_spelling, members_spelling, items_count, members_count, count_bytes, text_bytes}
use Rattle.term_codec.specs.SpelledAt.{CountsFit, ItemsFit, MembersFit}
use Rattle.term_codec.specs.Reading.{reading, scalar_in, value_in, number_in, text_in, string_in, array_in, array_of_count, object_in, object_of_count, count_in, items_from, items_of_count, members_from, members_of_count, member_after, follows, Reader}
use Rattle.term_codec.proofs.Words.{count_in-read, number_in-read, some-pair}
use Rattle.term_codec.proofs.Texts.{text_in-read}

-- what was read of a value of this depth at most
pub record IsRead (n : ℕ) (bytes : List ℕ) (t : Json) (rest : List ℕ) : Type 0 where
  pub term : IsTerm t
  pub deep : depth t ≤ n
  pub counts : CountsFit t
  pub is : bytes ≡ spelling t ++ rest

pub record AreRead (n count : ℕ) (bytes : List ℕ) (ts : Items) (rest : List ℕ) : Type 0 where
  pub terms : AreTerms ts
  pub deep : items_depth ts ≤ n
  pub fit : ItemsFit ts
  pub counted : items_count ts ≡ count
  pub is : bytes ≡ items_spelling ts ++ rest

pub record MembersAreRead (n count : ℕ) (bytes : List ℕ) (ms : Members) (rest : List ℕ) : Type 0 where
  pub terms : AreMembers ms
  pub deep : members_depth ms ≤ n
  pub fit : MembersFit ms
  pub counted : members_count ms ≡ count
  pub is : bytes ≡ members_spelling ms ++ rest

-- the reader takes values of this depth at most
abbrev pub IsSound : ℕ → Reader → Type 0
IsSound n one = (bytes : List ℕ) (t : Json) (rest : List ℕ) → one bytes ≡ Some (t, rest) → IsRead n bytes t rest

map_some : {A B P : Type 0} (f : A → B) (o : Option A) (y : B) → option_map f o ≡ Some y → ((x : A) → o ≡ Some x → f x ≡ y → P) → P
map_some f None y h k = absurd cc
map_some f (Some x) y h k = k x refl cc

by_test : {A P : Type 0} (b : Bool) (x y : Option A) (r : A) → cond b x y ≡ Some r → (b ≡ true → x ≡ Some r → P) → (y ≡ Some r → P) → P
by_test true x y r h p q = p refl h
by_test false x y r h p q = q h

items-read : (n : ℕ) (one : Reader) → IsSound n one → (count : ℕ) (done : List Json) (bytes : List ℕ) (all : List Json) (rest : List ℕ) → items_from one done count bytes ≡ Some (all, rest)
    → (ts : Items) × (all ≡ done ++ list_of_items ts) × AreRead n count bytes ts rest
items-read n one sound zero done bytes all rest h =
    let same = some-pair (done, bytes) (all, rest) h in
    (no_items, sym same.0 ∙ sym (append-nil done), record { terms = tt; deep = omega arith; fit = tt; counted = refl; is = same.1 })
items-read n one sound (suc count) done bytes all rest h =
    option_and_then_some (λ r. items_from one (done ++ r.0 ∷ []) count r.1) (one bytes) (all, rest) h (λ r first others.
    let value = sound bytes r.0 r.1 first in
    let tail = items-read n one sound count (done ++ r.0 ∷ []) r.1 all rest others in
    let ts = tail.0 in (
      item r.0 ts,
      tail.1 ∙ append_assoc done (r.0 ∷ []) (list_of_items ts),
      record {
        terms = (value.term, tail.2.terms);
        deep = omega (arith, value.deep, tail.2.deep);
        fit = (value.counts, tail.2.fit);
        counted = ap suc tail.2.counted;
        is = value.is ∙ ap (λ bs. spelling r.0 ++ bs) tail.2.is ∙ sym (append_assoc (spelling r.0) (items_spelling ts) rest);
      },
    ))

-- the first name follows what is done
abbrev FirstFollows : List (List ℕ × Json) → Members → Type 0
FirstFollows done no_members = Unit {0}
FirstFollows done (member n t ms) = follows n done ≡ true

by_lt : (o : Ordering) → is_lt o ≡ true → o ≡ Less
by_lt Less h = refl
by_lt Equal h = absurd cc
by_lt Greater h = absurd cc

is_lt-Less : (m n : List ℕ) → is_lt (slice_cmp nat_cmp m n) ≡ true → slice_cmp nat_cmp m n ≡ Less
is_lt-Less m n h = by_lt (slice_cmp nat_cmp m n) h

follows-less : (name : List ℕ) (done : List (List ℕ × Json)) (last : List ℕ) (t : Json) → follows name (done ++ (last, t) ∷ []) ≡ true → slice_cmp nat_cmp last name ≡ Less
follows-less name [] last t h = is_lt-Less last name h
follows-less name (x ∷ []) last t h = is_lt-Less last name h
follows-less name (x ∷ y ∷ done) last t h = follows-less name (y ∷ done) last t h

FirstFollows-before : (n : List ℕ) (t : Json) (done : List (List ℕ × Json)) (ms : Members) → FirstFollows (done ++ (n, t) ∷ []) ms → ComesBefore n ms
FirstFollows-before n t done no_members h = tt
FirstFollows-before n t done (member m u ms) h = follows-less m done n t h

-- what was read of a member
pub record IsMember (n : ℕ) (done : List (List ℕ × Json)) (bytes : List ℕ) (m : List ℕ × Json) (rest : List ℕ) : Type 0 where
  pub utf8 : IsUtf8 m.0
  pub small : length m.0 < 2 ^ 32
  pub rises : follows m.0 done ≡ true
  pub term : IsTerm m.1
  pub deep : depth m.1 ≤ n
  pub counts : CountsFit m.1
  pub is : bytes ≡ text_bytes m.0 ++ (spelling m.1 ++ rest)

pub member-read : (n : ℕ) (one : Reader) → IsSound n one → (done : List (List ℕ × Json)) (bytes : List ℕ) (m : List ℕ × Json) (rest : List ℕ) → member_after one done bytes ≡ Some (m, rest) → IsMember n done bytes m rest
member-read n one sound done bytes m rest h =
    option_and_then_some (λ r. cond (follows r.0 done) (option_map (λ v. ((r.0, v.0), v.1)) (one r.1)) None) (text_in bytes) (m, rest) h (λ r name found.
    let text = text_in-read bytes r.0 r.1 name in
    by_test (follows r.0 done) (option_map (λ v. ((r.0, v.0), v.1)) (one r.1)) None (m, rest) found
    (λ rises valued. map_some (λ v. ((r.0, v.0), v.1)) (one r.1) (m, rest) valued (λ v first same.
    let value = sound r.1 v.0 v.1 first in
    let is_m : (r.0, v.0) ≡ m = ap (λ p. p.0) same in
    let is_rest : v.1 ≡ rest = ap (λ p. p.1) same in
    let read : IsMember n done bytes (r.0, v.0) v.1 = record { utf8 = text.utf8; small = text.small; rises = rises; term = value.term; deep = value.deep; counts = value.counts; is = text.is ∙ ap (λ bs. text_bytes r.0 ++ bs) value.is } in
    subst (λ p. IsMember n done bytes p.0 p.1) same read))
    (λ none. absurd cc))

members-read : (n : ℕ) (one : Reader) → IsSound n one → (count : ℕ) (done : List (List ℕ × Json)) (bytes : List ℕ) (all : List (List ℕ × Json)) (rest : List ℕ) → members_from one done count bytes ≡ Some (all, rest)
    → (ms : Members) × (all ≡ done ++ list_of_members ms) × FirstFollows done ms × MembersAreRead n count bytes ms rest
members-read n one sound zero done bytes all rest h =
    let same = some-pair (done, bytes) (all, rest) h in
    (no_members, sym same.0 ∙ sym (append-nil done), tt, record { terms = tt; deep = omega arith; fit = tt; counted = refl; is = same.1 })
members-read n one sound (suc count) done bytes all rest h =
    option_and_then_some (λ r. members_from one (done ++ r.0 ∷ []) count r.1) (member_after one done bytes) (all, rest) h (λ r first others.
    let m = r.0 in
    let value = member-read n one sound done bytes m r.1 first in
    let tail = members-read n one sound count (done ++ m ∷ []) r.1 all rest others in
    let ms = tail.0 in (
      member m.0 m.1 ms,
      tail.1 ∙ append_assoc done (m ∷ []) (list_of_members ms),
      value.rises,
      record {
        terms = (value.utf8, FirstFollows-before m.0 m.1 done ms tail.2, value.term, tail.3.terms);
        deep = omega (arith, value.deep, tail.3.deep);
        fit = (value.small, value.counts, tail.3.fit);
        counted = ap suc tail.3.counted;
        is = value.is ∙ ap (λ bs. text_bytes m.0 ++ (spelling m.1 ++ bs)) tail.3.is ∙ ap (λ bs. text_bytes m.0 ++ bs) (sym (append_assoc (spelling m.1) (members_spelling ms) rest))
            ∙ sym (append_assoc (text_bytes m.0) (spelling m.1 ++ members_spelling ms) rest);
      },
    ))

array-read : (n : ℕ) (one : Reader) → IsSound n one → (bytes : List ℕ) (t : Json) (rest : List ℕ) → array_in one bytes ≡ Some (t, rest) → IsRead (suc n) (6 ∷ bytes) t rest
unfolding array_in
array-read n one sound bytes t rest h =
    option_and_then_some (λ c. array_of_count one c.0 c.1) (count_in bytes) (t, rest) h (λ c counted whole.
    map_some (λ r. (array (items_of r.0), r.1)) (items_of_count one c.0 c.1) (t, rest) whole (λ r parts same.
    let count = count_in-read bytes c.0 c.1 counted in
    by_test (nat_le c.0 (length c.1)) (items_from one [] c.0 c.1) None r parts
    (λ within done.
    let all = items-read n one sound c.0 [] c.1 r.0 r.1 done in
    let ts = all.0 in
    let seen : items_of r.0 ≡ ts = ap items_of all.1 ∙ items_of-list_of_items ts in
    let same_term : array ts ≡ t = ap array (sym seen) ∙ ap (λ p. p.0) same in
    let same_rest : r.1 ≡ rest = ap (λ p. p.1) same in
    let read : IsRead (suc n) (6 ∷ bytes) (array ts) r.1 = record {
      term = all.2.terms;
      deep = omega (arith, all.2.deep);
      counts = (subst (λ k. k < 2 ^ 32) (sym all.2.counted) count.0, all.2.fit);
      is = ap (λ bs. 6 ∷ bs) (count.1 ∙ (λ i. count_bytes (sym all.2.counted i) ++ all.2.is i) ∙ sym (append_assoc (count_bytes (items_count ts)) (items_spelling ts) r.1));
    } in
    subst (λ u. IsRead (suc n) (6 ∷ bytes) u rest) same_term (subst (λ bs. IsRead (suc n) (6 ∷ bytes) (array ts) bs) same_rest read))
    (λ none. absurd cc)))

object-read : (n : ℕ) (one : Reader) → IsSound n one → (bytes : List ℕ) (t : Json) (rest : List ℕ) → object_in one bytes ≡ Some (t, rest) → IsRead (suc n) (5 ∷ bytes) t rest
unfolding object_in
object-read n one sound bytes t rest h =
    option_and_then_some (λ c. object_of_count one c.0 c.1) (count_in bytes) (t, rest) h (λ c counted whole.
    map_some (λ r. (object (members_of r.0), r.1)) (members_of_count one c.0 c.1) (t, rest) whole (λ r parts same.
    let count = count_in-read bytes c.0 c.1 counted in
    by_test (nat_le c.0 (length c.1)) (members_from one [] c.0 c.1) None r parts
    (λ within done.
    let all = members-read n one sound c.0 [] c.1 r.0 r.1 done in
    let ms = all.0 in
    let seen : members_of r.0 ≡ ms = ap members_of all.1 ∙ members_of-list_of_members ms in
    let same_term : object ms ≡ t = ap object (sym seen) ∙ ap (λ p. p.0) same in
    let same_rest : r.1 ≡ rest = ap (λ p. p.1) same in
    let read : IsRead (suc n) (5 ∷ bytes) (object ms) r.1 = record {
      term = all.3.terms;
      deep = omega (arith, all.3.deep);
      counts = (subst (λ k. k < 2 ^ 32) (sym all.3.counted) count.0, all.3.fit);
      is = ap (λ bs. 5 ∷ bs) (count.1 ∙ (λ i. count_bytes (sym all.3.counted i) ++ all.3.is i) ∙ sym (append_assoc (count_bytes (members_count ms)) (members_spelling ms) r.1));
    } in
    subst (λ u. IsRead (suc n) (5 ∷ bytes) u rest) same_term (subst (λ bs. IsRead (suc n) (5 ∷ bytes) (object ms) bs) same_rest read))
    (λ none. absurd cc)))

string-read : (n : ℕ) (bytes : List ℕ) (t : Json) (rest : List ℕ) → string_in bytes ≡ Some (t, rest) → IsRead n (7 ∷ bytes) t rest
string-read n bytes t rest h =
    map_some (λ r. (string r.0, r.1)) (text_in bytes) (t, rest) h (λ r found same.
    let text = text_in-read bytes r.0 r.1 found in
    let read : IsRead n (7 ∷ bytes) (string r.0) r.1 = record { term = text.utf8; deep = omega arith; counts = text.small; is = ap (λ bs. 7 ∷ bs) text.is } in
    subst (λ p. IsRead n (7 ∷ bytes) p.0 p.1) same read)

number-read : (n : ℕ) (bytes : List ℕ) (t : Json) (rest : List ℕ) → number_in bytes ≡ Some (t, rest) → IsRead n (1 ∷ bytes) t rest
number-read n bytes t rest h =
    let found = number_in-read bytes t rest h in
    let read : IsRead n (1 ∷ bytes) (number found.0) rest = record { term = found.2; deep = omega arith; counts = tt; is = ap (λ bs. 1 ∷ bs) found.3 } in
    subst (λ u. IsRead n (1 ∷ bytes) u rest) (sym found.1) read

plain-read : (n kind : ℕ) (bytes : List ℕ) (t u : Json) (rest : List ℕ) → IsTerm u → depth u ≤ n → CountsFit u → spelling u ≡ kind ∷ [] → ◌≡◌ {A = Option (Json × List ℕ)} (Some (u, bytes)) (Some (t, rest)) → IsRead n (kind ∷ bytes) t rest
plain-read n kind bytes t u rest term deep counts is same =
    let read : IsRead n (kind ∷ bytes) u bytes = record { term = term; deep = deep; counts = counts; is = ap (λ bs. bs ++ bytes) (sym is) } in
    let parts = some-pair (u, bytes) (t, rest) same in
    subst (λ x. IsRead n (kind ∷ bytes) x rest) parts.0 (subst (λ bs. IsRead n (kind ∷ bytes) u bs) parts.1 read)

of_kind : (n k kind : ℕ) (bytes : List ℕ) (t : Json) (rest : List ℕ) → nat_eq kind k ≡ true → IsRead n (k ∷ bytes) t rest → IsRead n (kind ∷ bytes) t rest
of_kind n k kind bytes t rest same read = subst (λ x. IsRead n (x ∷ bytes) t rest) (sym (eqb-true kind k same)) read

scalar-read : (n kind : ℕ) (bytes : List ℕ) (t : Json) (rest : List ℕ) → scalar_in kind bytes ≡ Some (t, rest) → IsRead n (kind ∷ bytes) t rest
scalar-read n kind bytes t rest h =
    by_test (nat_eq kind 1) _ _ (t, rest) h (λ e x. of_kind n 1 kind bytes t rest e (number-read n bytes t rest x)) (λ h2.
    by_test (nat_eq kind 2) _ _ (t, rest) h2 (λ e x. of_kind n 2 kind bytes t rest e (plain-read n 2 bytes t is_false rest tt (omega arith) tt refl x)) (λ h3.
    by_test (nat_eq kind 3) _ _ (t, rest) h3 (λ e x. of_kind n 3 kind bytes t rest e (plain-read n 3 bytes t is_null rest tt (omega arith) tt refl x)) (λ h4.
    by_test (nat_eq kind 4) _ _ (t, rest) h4 (λ e x. of_kind n 4 kind bytes t rest e (plain-read n 4 bytes t is_true rest tt (omega arith) tt refl x)) (λ h7.
    by_test (nat_eq kind 7) _ _ (t, rest) h7 (λ e x. of_kind n 7 kind bytes t rest e (string-read n bytes t rest x)) (λ none. absurd cc)))))

value-read : (n kind : ℕ) (one : Reader) → IsSound n one → (bytes : List ℕ) (t : Json) (rest : List ℕ) → value_in one kind bytes ≡ Some (t, rest) → IsRead (suc n) (kind ∷ bytes) t rest
value-read n kind one sound bytes t rest h =
    by_test (nat_eq kind 5) _ _ (t, rest) h (λ e x. of_kind (suc n) 5 kind bytes t rest e (object-read n one sound bytes t rest x)) (λ h6.
    by_test (nat_eq kind 6) _ _ (t, rest) h6 (λ e x. of_kind (suc n) 6 kind bytes t rest e (array-read n one sound bytes t rest x)) (λ other.
    scalar-read (suc n) kind bytes t rest other))

pub reading-read : (n : ℕ) → IsSound n (reading n)
reading-read zero [] t rest h = absurd cc
reading-read (suc n) [] t rest h = absurd cc
reading-read zero (kind ∷ bytes) t rest h = scalar-read zero kind bytes t rest h
reading-read (suc n) (kind ∷ bytes) t rest h = value-read n kind (reading n) (reading-read n) bytes t rest h
