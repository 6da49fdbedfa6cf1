-- What is spelled is read, so no spelling is the beginning of another.
use Rattle.std.proofs.Common.{◌≡◌, ◌^◌, ◌<◌, ◌≤◌, ℕ, zero, suc, List, [], ◌∷◌, ◌++◌, length, true, cond, Some, None, option_map, option_and_then, Less, nat_cmp, refl, ap, sym, ◌∙◌, arith, length-append, append_assoc}
use Rattle.std.specs.Ordering.{is_lt}
use Rattle.std.specs.Cmp.Lexicographic.{slice_cmp}
use Rattle.std.proofs.lemmas.List.{append-nil}
use Rattle.std.proofs.lemmas.Bool.{cond-true, le-leb}
use Rattle.json_terms.specs.Json.{Json, number, is_false, is_null, is_true, object, array, string, Items, no_items, item, items_of, list_of_items, Members, no_members, member, members_of, list_of_members, depth, items_depth, members_depth}
use Rattle.json_terms.specs.Terms.{IsTerm, AreTerms, AreMembers, ComesBefore}
use Rattle.json_terms.proofs.Sames.{items_of-list_of_items, members_of-list_of_members}
use Rattle.term_codec.specs.Spelling.{spelling, items_spelling, members_spelling, items_count, members_count, count_bytes, text_bytes}
use Rattle.term_codec.specs.SpelledAt.{CountsFit, ItemsFit, MembersFit, IsWithin}
use Rattle.term_codec.specs.Reading.{reading, text_in, string_in, count_in, array_in, array_of_count, items_from, object_in, object_of_count, members_from, member_after, follows, Reader}
use Rattle.term_codec.proofs.Words.{count_in-spelled, number_in-spelled, some-pair}
use Rattle.term_codec.proofs.Texts.{text_in-spelled}

-- each part has at least one byte
pub spelling-long : (t : Json) → 0 < length (spelling t)
spelling-long (number n) = omega arith
spelling-long is_false = omega arith
spelling-long is_null = omega arith
spelling-long is_true = omega arith
spelling-long (object ms) = omega arith
spelling-long (array ts) = omega arith
spelling-long (string s) = omega arith

items_count_le : (ts : Items) → items_count ts ≤ length (items_spelling ts)
items_count_le no_items = omega arith
items_count_le (item t ts) = let one = spelling-long t in let others = items_count_le ts in omega (arith, length-append (spelling t) (items_spelling ts))

members_count_le : (ms : Members) → members_count ms ≤ length (members_spelling ms)
members_count_le no_members = omega arith
members_count_le (member n t ms) =
    let one = spelling-long t in
    let others = members_count_le ms in
    omega (arith, length-append (text_bytes n) (spelling t ++ members_spelling ms), length-append (spelling t) (members_spelling ms))

-- the names rise from those that are done
abbrev pub Follows : List (List ℕ × Json) → Members → Type 0
Follows done no_members = Unit {0}
Follows done (member n t ms) = follows n done ≡ true

Follows-start : (ms : Members) → Follows [] ms
Follows-start no_members = tt
Follows-start (member n t ms) = refl

follows-last : (name : List ℕ) (done : List (List ℕ × Json)) (last : List ℕ) (t : Json) → slice_cmp nat_cmp last name ≡ Less → follows name (done ++ (last, t) ∷ []) ≡ true
follows-last name [] last t less = ap is_lt less
follows-last name (x ∷ []) last t less = ap is_lt less
follows-last name (x ∷ y ∷ done) last t less = follows-last name (y ∷ done) last t less

Follows-next : (done : List (List ℕ × Json)) (n : List ℕ) (t : Json) (ms : Members) → ComesBefore n ms → Follows (done ++ (n, t) ∷ []) ms
Follows-next done n t no_members before = tt
Follows-next done n t (member m u ms) before = follows-last m done n t before

array-spelled : (one : Reader) (ts : Items) (rest : List ℕ) → items_count ts < 2 ^ 32 → items_from one [] (items_count ts) (items_spelling ts ++ rest) ≡ Some (list_of_items ts, rest)
    → array_in one ((count_bytes (items_count ts) ++ items_spelling ts) ++ rest) ≡ Some (array ts, rest)
unfolding array_in
array-spelled one ts rest small parts =
    let long : items_count ts ≤ length (items_spelling ts ++ rest) = omega (arith, items_count_le ts, length-append (items_spelling ts) rest) in
    let all = cond-true _ (items_from one [] (items_count ts) (items_spelling ts ++ rest)) None (le-leb _ _ long) ∙ parts in
    ap (λ bs. option_and_then (λ r. array_of_count one r.0 r.1) (count_in bs)) (append_assoc (count_bytes (items_count ts)) (items_spelling ts) rest)
    ∙ ap (option_and_then (λ (r : ℕ × List ℕ). array_of_count one r.0 r.1)) (count_in-spelled (items_count ts) (items_spelling ts ++ rest) small)
    ∙ ap (option_map (λ (r : List Json × List ℕ). (array (items_of r.0), r.1))) all ∙ ap (λ us. Some (array us, rest)) (items_of-list_of_items ts)

object-spelled : (one : Reader) (ms : Members) (rest : List ℕ) → members_count ms < 2 ^ 32 → members_from one [] (members_count ms) (members_spelling ms ++ rest) ≡ Some (list_of_members ms, rest)
    → object_in one ((count_bytes (members_count ms) ++ members_spelling ms) ++ rest) ≡ Some (object ms, rest)
unfolding object_in
object-spelled one ms rest small parts =
    let long : members_count ms ≤ length (members_spelling ms ++ rest) = omega (arith, members_count_le ms, length-append (members_spelling ms) rest) in
    let all = cond-true _ (members_from one [] (members_count ms) (members_spelling ms ++ rest)) None (le-leb _ _ long) ∙ parts in
    ap (λ bs. option_and_then (λ r. object_of_count one r.0 r.1) (count_in bs)) (append_assoc (count_bytes (members_count ms)) (members_spelling ms) rest)
    ∙ ap (option_and_then (λ (r : ℕ × List ℕ). object_of_count one r.0 r.1)) (count_in-spelled (members_count ms) (members_spelling ms ++ rest) small)
    ∙ ap (option_map (λ (r : List (List ℕ × Json) × List ℕ). (object (members_of r.0), r.1))) all ∙ ap (λ us. Some (object us, rest)) (members_of-list_of_members ms)

-- one more element
items_from-item : (one : Reader) (done : List Json) (t : Json) (ts : Items) (rest : List ℕ) → one (spelling t ++ (items_spelling ts ++ rest)) ≡ Some (t, items_spelling ts ++ rest)
    → items_from one (done ++ t ∷ []) (items_count ts) (items_spelling ts ++ rest) ≡ Some ((done ++ t ∷ []) ++ list_of_items ts, rest)
    → items_from one done (suc (items_count ts)) ((spelling t ++ items_spelling ts) ++ rest) ≡ Some (done ++ t ∷ list_of_items ts, rest)
items_from-item one done t ts rest first others =
    ap (λ bs. items_from one done (suc (items_count ts)) bs) (append_assoc (spelling t) (items_spelling ts) rest)
    ∙ ap (option_and_then (λ (r : Json × List ℕ). items_from one (done ++ r.0 ∷ []) (items_count ts) r.1)) first
    ∙ others ∙ ap (λ all. Some (all, rest)) (append_assoc done (t ∷ []) (list_of_items ts))

member_after-spelled : (one : Reader) (done : List (List ℕ × Json)) (n : List ℕ) (t : Json) (rest : List ℕ) → text_in (text_bytes n ++ (spelling t ++ rest)) ≡ Some (n, spelling t ++ rest)
    → follows n done ≡ true → one (spelling t ++ rest) ≡ Some (t, rest) → member_after one done (text_bytes n ++ (spelling t ++ rest)) ≡ Some ((n, t), rest)
member_after-spelled one done n t rest name rises value =
    ap (option_and_then (λ (r : List ℕ × List ℕ). cond (follows r.0 done) (option_map (λ v. ((r.0, v.0), v.1)) (one r.1)) None)) name
    ∙ cond-true (follows n done) (option_map (λ v. ((n, v.0), v.1)) (one (spelling t ++ rest))) None rises
    ∙ ap (option_map (λ (v : Json × List ℕ). ((n, v.0), v.1))) value

members_from-member : (one : Reader) (done : List (List ℕ × Json)) (n : List ℕ) (t : Json) (ms : Members) (rest : List ℕ)
    → member_after one done (text_bytes n ++ (spelling t ++ (members_spelling ms ++ rest))) ≡ Some ((n, t), members_spelling ms ++ rest)
    → members_from one (done ++ (n, t) ∷ []) (members_count ms) (members_spelling ms ++ rest) ≡ Some ((done ++ (n, t) ∷ []) ++ list_of_members ms, rest)
    → members_from one done (suc (members_count ms)) ((text_bytes n ++ (spelling t ++ members_spelling ms)) ++ rest) ≡ Some (done ++ (n, t) ∷ list_of_members ms, rest)
members_from-member one done n t ms rest first others =
    ap (λ bs. members_from one done (suc (members_count ms)) bs) (append_assoc (text_bytes n) (spelling t ++ members_spelling ms) rest ∙ ap (λ bs. text_bytes n ++ bs) (append_assoc (spelling t) (members_spelling ms) rest))
    ∙ ap (option_and_then (λ (r : (List ℕ × Json) × List ℕ). members_from one (done ++ r.0 ∷ []) (members_count ms) r.1)) first
    ∙ others ∙ ap (λ all. Some (all, rest)) (append_assoc done ((n, t) ∷ []) (list_of_members ms))

string-spelled : (s rest : List ℕ) → IsTerm (string s) → CountsFit (string s) → string_in (text_bytes s ++ rest) ≡ Some (string s, rest)
string-spelled s rest utf8 small = ap (option_map (λ (r : List ℕ × List ℕ). (string r.0, r.1))) (text_in-spelled s rest utf8 small)

mutual
  pub reading-spelled : (n : ℕ) (t : Json) (rest : List ℕ) → depth t ≤ n → IsTerm t → CountsFit t → reading n (spelling t ++ rest) ≡ Some (t, rest)
  reading-spelled zero (number z) rest deep term fit = number_in-spelled z rest term
  reading-spelled zero is_false rest deep term fit = refl
  reading-spelled zero is_null rest deep term fit = refl
  reading-spelled zero is_true rest deep term fit = refl
  reading-spelled zero (object ms) rest deep term fit = absurd (omega arith)
  reading-spelled zero (array ts) rest deep term fit = absurd (omega arith)
  reading-spelled zero (string s) rest deep term fit = string-spelled s rest term fit
  reading-spelled (suc n) (number z) rest deep term fit = number_in-spelled z rest term
  reading-spelled (suc n) is_false rest deep term fit = refl
  reading-spelled (suc n) is_null rest deep term fit = refl
  reading-spelled (suc n) is_true rest deep term fit = refl
  reading-spelled (suc n) (object ms) rest deep term fit = object-spelled (reading n) ms rest fit.0 (members-spelled n [] ms rest (omega arith) term fit.1 (Follows-start ms))
  reading-spelled (suc n) (array ts) rest deep term fit = array-spelled (reading n) ts rest fit.0 (items-spelled n [] ts rest (omega arith) term fit.1)
  reading-spelled (suc n) (string s) rest deep term fit = string-spelled s rest term fit

  items-spelled : (n : ℕ) (done : List Json) (ts : Items) (rest : List ℕ) → items_depth ts ≤ n → AreTerms ts → ItemsFit ts
      → items_from (reading n) done (items_count ts) (items_spelling ts ++ rest) ≡ Some (done ++ list_of_items ts, rest)
  items-spelled n done no_items rest deep terms fit = ap (λ all. Some (all, rest)) (sym (append-nil done))
  items-spelled n done (item t ts) rest deep terms fit =
      items_from-item (reading n) done t ts rest (reading-spelled n t (items_spelling ts ++ rest) (omega arith) terms.0 fit.0) (items-spelled n (done ++ t ∷ []) ts rest (omega arith) terms.1 fit.1)

  members-spelled : (n : ℕ) (done : List (List ℕ × Json)) (ms : Members) (rest : List ℕ) → members_depth ms ≤ n → AreMembers ms → MembersFit ms → Follows done ms
      → members_from (reading n) done (members_count ms) (members_spelling ms ++ rest) ≡ Some (done ++ list_of_members ms, rest)
  members-spelled n done no_members rest deep terms fit rises = ap (λ all. Some (all, rest)) (sym (append-nil done))
  members-spelled n done (member m t ms) rest deep terms fit rises =
      members_from-member (reading n) done m t ms rest
      (member_after-spelled (reading n) done m t (members_spelling ms ++ rest) (text_in-spelled m (spelling t ++ (members_spelling ms ++ rest)) terms.0 fit.0) rises (reading-spelled n t (members_spelling ms ++ rest) (omega arith) terms.2 fit.1))
      (members-spelled n (done ++ (m, t) ∷ []) ms rest (omega arith) terms.3 fit.2 (Follows-next done m t ms terms.1))

-- of two terms whose spellings begin the same bytes each is the other
pub spelling-prefix_free : (t u : Json) (rest more : List ℕ) → IsTerm t → IsWithin t → IsTerm u → IsWithin u → spelling t ++ rest ≡ spelling u ++ more → (t ≡ u) × (rest ≡ more)
spelling-prefix_free t u rest more term within term_u within_u same =
    let both = sym (reading-spelled 100 t rest within.depth term within.counts) ∙ ap (reading 100) same ∙ reading-spelled 100 u more within_u.depth term_u within_u.counts in
    some-pair (t, rest) (u, more) both
