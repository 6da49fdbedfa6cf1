-- What is put can be stored.
use Rattle.std.proofs.Common.{◌≡◌, ◌⊎◌, inl, inr, ◌/◌, ◌%◌, ◌<◌, ◌≤◌, ◌^◌, ◌&&◌, ◌||◌, nat_le, ℕ, zero, suc, List, [], ◌∷◌, ◌++◌, length, codes, decimal, Bool, true, false, bytes_eq, if◌then◌else◌, Option, Some, None, refl, sym, ap, ◌∙◌, subst, arith, append_assoc}
use Rattle.std.specs.Prelude.{EachIndex, slice_index, IsTrue}
use Rattle.std.specs.List.{AllByRecursion}
use Rattle.std.specs.Int.{byte_at, bytes_high_first, to_be_bytes, w128}
use Rattle.std.specs.declared.cmp.Ordering.TheVariants.{Less, Equal, Greater}
use Rattle.std.specs.Ordering.{nat_cmp, match_ordering}
use Rattle.std.specs.Cmp.Lexicographic.{slice_cmp}
use Rattle.std.proofs.lemmas.Bool.{and_parts, or_cases, cases_eq}
use Rattle.std.proofs.lemmas.Bool.Decides.{nat_tests}
use Rattle.hex.specs.Hex.{encode_lower, encode_with, lower_digits}
use Rattle.hex.proofs.HexLemmas.{length-encode_with}
use Rattle.json_terms.specs.Json.{Json, object, string, Members, no_members, member}
use Rattle.json_terms.specs.Find.{find, with_member}
use Rattle.json_terms.specs.Terms.{IsTerm}
use Rattle.json_terms.specs.Text.{text_of}
use Rattle.view_ports.specs.Stored.{is_id, is_underscored, without, IsHexDigit, IsRevision, stored_limit}
use Rattle.design_docs.specs.Documents.{id_of}
use Rattle.design_docs.proofs.Revised.{find-with_member}
use Rattle.doc_file.specs.Content.{content}
use Rattle.doc_file.specs.Held.{IsObject}
use Rattle.design_docs.specs.History.{IsStoredAs}
use Rattle.doc_file.specs.Incoming.{first_bad, is_bad, is_known, IsWritable}
use Rattle.design_docs.specs.Revision.{revision, stored_document}
use Rattle.doc_file.proofs.Changed.{find-without}
use Rattle.doc_file.proofs.Contents.{IsDocument-stored, IsUtf8-revision, find-kept, id_at, id_of-stored, length-revision}
use Rattle.doc_file.proofs.Left.{kept}
use Rattle.design_docs.proofs.Ids.{bool_cases, bytes_eq-same, equal_id, greater_differs, same_id}

-- ---- the revision

abbrev is_hex : ℕ → Bool
is_hex c = (nat_le 48 c && nat_le c 57) || (nat_le 97 c && nat_le c 102)

hex_of : (c : ℕ) → is_hex c ≡ true → IsHexDigit c
hex_of c is = grind (arith, nat_tests)

abbrev are_hex_below : ℕ → Bool
are_hex_below zero = true
are_hex_below (suc n) = is_hex (slice_index lower_digits n) && are_hex_below n

hex_below : (n : ℕ) → are_hex_below n ≡ true → (k : ℕ) → k < n → IsHexDigit (slice_index lower_digits k)
hex_below zero e k h = absurd (omega arith)
hex_below (suc n) e k h =
    let p = and_parts (is_hex (slice_index lower_digits n)) (are_hex_below n) e in
    elim (cases_eq k n) [
      | inl same ↦ subst (λ m. IsHexDigit (slice_index lower_digits m)) (sym same) (hex_of (slice_index lower_digits n) p.0)
      | inr other ↦ hex_below n p.1 k (omega arith)
    ]

abbrev pub IsByte : ℕ → Type 0
IsByte b = b < 256

IsByte-byte_at : (i n : ℕ) → IsByte (byte_at i n)
IsByte-byte_at zero n = omega arith
IsByte-byte_at (suc i) n = omega arith

pub are_bytes : (k n : ℕ) → AllByRecursion IsByte (bytes_high_first k n)
are_bytes zero n = tt
are_bytes (suc k) n = (IsByte-byte_at k n, are_bytes k n)

pub are_digits : (xs : List ℕ) → AllByRecursion IsByte xs → AllByRecursion IsHexDigit (encode_lower xs)
unfolding encode_with
are_digits [] all = tt
are_digits (x ∷ xs) all = (hex_below 16 refl (x / 16) (omega (arith, all.0)), (hex_below 16 refl (x % 16) (omega arith), are_digits xs all.1))

each_at : (P : ℕ → Type 0) (xs : List ℕ) → AllByRecursion P xs → EachIndex xs (λ k. P (slice_index xs k))
each_at P [] all k below = absurd (omega arith)
each_at P (x ∷ xs) all zero below = all.0
each_at P (x ∷ xs) all (suc k) below = each_at P xs all.1 k (omega arith)

IsRevision-revision : (generation seq : ℕ) → 0 < generation → generation < 2 ^ 63 → IsRevision (revision generation seq)
unfolding revision
IsRevision-revision generation seq some few =
    let digits = encode_lower (to_be_bytes w128 seq) in
    let sixteen : length (to_be_bytes w128 seq) ≡ 16 = refl in
    let long : length digits ≡ 32 = omega (arith, sixteen, length-encode_with lower_digits (to_be_bytes w128 seq)) in (
      decimal generation,
      codes "-" ++ digits,
      (generation, some, few, refl),
      (digits, long, each_at IsHexDigit digits (are_digits (to_be_bytes w128 seq) (are_bytes 16 seq)), refl),
      append_assoc (decimal generation) (codes "-") digits,
    )

-- ---- a member that was set or left out

greater_apart : (name n : List ℕ) → slice_cmp nat_cmp name n ≡ Greater → bytes_eq n name ≡ false
greater_apart name n greater = elim (bool_cases (bytes_eq n name)) [
  | inl same ↦ absurd (greater_differs name n greater (sym (same_id n name same)))
  | inr apart ↦ apart
]

find-set : (name : List ℕ) (value : Json) (ms : Members) → find name (with_member name value ms) ≡ Some value
find-set name value no_members = ap (λ b. if b then Some value else None) (bytes_eq-same name)
find-set name value (member n t ms) =
    elim (slice_cmp nat_cmp name n) as (λ o. slice_cmp nat_cmp name n ≡ o → find name (match_ordering o (member name value (member n t ms)) (member name value ms) (member n t (with_member name value ms))) ≡ Some value) [
      | Less ↦ λ is. ap (λ b. if b then Some value else find name (member n t ms)) (bytes_eq-same name)
      | Equal ↦ λ is. ap (λ b. if b then Some value else find name ms) (bytes_eq-same name)
      | Greater ↦ λ is. ap (λ b. if b then Some t else find name (with_member name value ms)) (greater_apart name n is) ∙ find-set name value ms
    ] refl

without-set : (name : List ℕ) (value : Json) (ms : Members) → without name (with_member name value ms) ≡ without name ms
without-set name value no_members = ap (λ b. if b then no_members else member name value no_members) (bytes_eq-same name)
without-set name value (member n t ms) =
    elim (slice_cmp nat_cmp name n) as (λ o. slice_cmp nat_cmp name n ≡ o
    → without name (match_ordering o (member name value (member n t ms)) (member name value ms) (member n t (with_member name value ms))) ≡ without name (member n t ms)) [
      | Less ↦ λ is. ap (λ b. if b then without name (member n t ms) else member name value (without name (member n t ms))) (bytes_eq-same name)
      | Equal ↦ λ is.
          let same : bytes_eq n name ≡ true = ap (λ m. bytes_eq m name) (sym (equal_id name n is)) ∙ bytes_eq-same name in
          ap (λ b. if b then without name ms else member name value (without name ms)) (bytes_eq-same name) ∙ sym (ap (λ b. if b then without name ms else member n t (without name ms)) same)
      | Greater ↦ λ is. ap (λ rest. if bytes_eq n name then rest else member n t rest) (without-set name value ms)
    ] refl

without-again : (name other : List ℕ) (ms : Members) → without name (without other (without name ms)) ≡ without other (without name ms)
without-again name other no_members = refl
without-again name other (member n t ms) =
    let rest = without-again name other ms in
    let left = without name ms in
    elim (bytes_eq n name) as (λ p. bytes_eq n name ≡ p → without name (without other (if p then left else member n t left)) ≡ without other (if p then left else member n t left)) [
      | true ↦ λ is. rest
      | false ↦ λ is. elim (bytes_eq n other) as (λ q. without name (if q then without other left else member n t (without other left)) ≡ (if q then without other left else member n t (without other left))) [
        | true ↦ rest
        | false ↦ ap (λ b. if b then without name (without other left) else member n t (without name (without other left))) is ∙ ap (member n t) rest
      ]
    ] refl

not_found : (name : List ℕ) (ms : Members) → find name (without name ms) ≡ None
not_found name no_members = refl
not_found name (member n t ms) =
    let rest = not_found name ms in
    elim (bytes_eq n name) as (λ p. bytes_eq n name ≡ p → find name (if p then without name ms else member n t (without name ms)) ≡ None) [
      | true ↦ λ is. rest
      | false ↦ λ is. ap (λ b. if b then Some t else find name (without name ms)) is ∙ rest
    ] refl

-- ---- no other member is kept for the database

not_bad_at : (n : List ℕ) (t : Json) (ms : Members) (name : List ℕ) (value : Json) (p q : Bool) → is_bad n t ≡ p → bytes_eq n name ≡ q → (if p then Some n else first_bad ms) ≡ None → (if q then Some t else find name ms) ≡ Some value
    → (first_bad ms ≡ None → find name ms ≡ Some value → is_bad name value ≡ false) → is_bad name value ≡ false
not_bad_at n t ms name value true q bad is none found rest = absurd cc
not_bad_at n t ms name value false true bad is none found rest =
    let same : t ≡ value = cc in
    ap (λ m. is_bad m value) (sym (same_id n name is)) ∙ ap (is_bad n) (sym same) ∙ bad
not_bad_at n t ms name value false false bad is none found rest = rest none found

not_bad : (ms : Members) (name : List ℕ) (value : Json) → first_bad ms ≡ None → find name ms ≡ Some value → is_bad name value ≡ false
not_bad no_members name value none found = absurd cc
not_bad (member n t ms) name value none found = not_bad_at n t ms name value (is_bad n t) (bytes_eq n name) refl refl none found (not_bad ms name value)

known_of : (name : List ℕ) (value : Json) (b : Bool) → is_known name ≡ b → is_bad name value ≡ false → IsTrue (is_underscored name) → is_known name ≡ true
known_of name value true known fine underscored = known
known_of name value false known fine underscored = let bad : is_bad name value ≡ true = rw (underscored, known) refl in absurd cc

flip : (a b : List ℕ) → bytes_eq a b ≡ true → bytes_eq b a ≡ true
flip a b same = ap (bytes_eq b) (same_id a b same) ∙ bytes_eq-same b

-- a member that is found of what is stored, and neither its revision nor the mark of a deletion
named_so : (ms : Members) (name : List ℕ) (value : Json) → first_bad ms ≡ None → find name (kept ms) ≡ Some value → IsTrue (is_underscored name) → bytes_eq (codes "_rev") name ≡ false → bytes_eq (codes "_deleted") name ≡ false
    → name ≡ codes "_id"
named_so ms name value none found underscored no_rev no_mark =
    let there : find name ms ≡ Some value =
    sym (find-without name (codes "_rev") ms no_rev) ∙ sym (find-without name (codes "_deleted") (without (codes "_rev") ms) no_mark) ∙ found in
    let known = known_of name value (is_known name) refl (not_bad ms name value none there) underscored in
    elim (or_cases (bytes_eq name (codes "_id")) (bytes_eq name (codes "_rev") || bytes_eq name (codes "_deleted")) known) [
      | inl id ↦ same_id name (codes "_id") id
      | inr other ↦ elim (or_cases (bytes_eq name (codes "_rev")) (bytes_eq name (codes "_deleted")) other) [
        | inl rev ↦ absurd (let yes = flip name (codes "_rev") rev in cc)
        | inr mark ↦ absurd (let yes = flip name (codes "_deleted") mark in cc)
      ]
    ]

plain_members : (ms : Members) (rev : Json) → first_bad ms ≡ None → (name : List ℕ) (value : Json) → find name (with_member (codes "_rev") rev (kept ms)) ≡ Some value → IsTrue (is_underscored name)
    → (name ≡ codes "_id") ⊎ (name ≡ codes "_rev")
plain_members ms rev none name value found underscored = elim (bool_cases (bytes_eq (codes "_rev") name)) [
  | inl is_rev ↦ inr (sym (same_id (codes "_rev") name is_rev))
  | inr no_rev ↦
      let left : find name (kept ms) ≡ Some value = sym (find-with_member name (codes "_rev") rev (kept ms) no_rev) ∙ found in
      elim (bool_cases (bytes_eq (codes "_deleted") name)) [
        | inl is_mark ↦
            let gone : find name (kept ms) ≡ None = ap (λ n. find n (kept ms)) (sym (same_id (codes "_deleted") name is_mark)) ∙ not_found (codes "_deleted") (without (codes "_rev") ms) in
            absurd cc
        | inr no_mark ↦ inl (named_so ms name value none left underscored no_rev no_mark)
      ]
]

-- ---- the stored document

id_found : (found : Option Json) → IsTrue (is_id (id_at found)) → (text : List ℕ) × (found ≡ Some (string text)) × IsTrue (is_id text)
id_found None is = absurd cc
id_found (Some (string text)) is = (text, refl, is)
id_found (Some other) is = absurd cc

pub stored_as : (document : Json) → IsTerm document → IsObject document → IsWritable document → (generation seq : ℕ) → 0 < generation → generation < 2 ^ 63
    → IsStoredAs (id_of document) (stored_document (content document) (revision generation seq))
stored_as (object ms) term is writable generation seq some few =
    let rev = revision generation seq in
    let fits : generation < 2 ^ 64 = omega (arith, few) in
    let spelled = IsDocument-stored (object ms) rev term is writable (IsUtf8-revision generation seq fits) (length-revision generation seq fits) in
    let id = id_found (find (codes "_id") ms) writable.id in
    let left : without (codes "_rev") (with_member (codes "_rev") (string rev) (kept ms)) ≡ kept ms =
    without-set (codes "_rev") (string rev) (kept ms) ∙ without-again (codes "_rev") (codes "_deleted") ms in
    record {
      stored = record {
        valid = spelled.term;
        nested = spelled.shallow;
        id = (id.0, find-with_member (codes "_id") (codes "_rev") (string rev) (kept ms) refl ∙ find-kept ms ∙ id.1, id.2);
        revision = (rev, find-set (codes "_rev") (string rev) (kept ms), IsRevision-revision generation seq some few);
        plain = plain_members ms (string rev) writable.members;
        size = subst (λ members. length (text_of (object members)) ≤ stored_limit) (sym left) writable.small;
      };
      named = id_of-stored (object ms) rev;
    }
stored_as other term is writable generation seq some few = absurd is
