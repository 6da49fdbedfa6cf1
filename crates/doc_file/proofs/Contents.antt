-- What is stored of a document that may be put.
use Rattle.std.proofs.Common.{◌≡◌, ◌<◌, ◌≤◌, ◌^◌, ◌&&◌, nat_lt, Bool, true, ℕ, List, [], ◌∷◌, ◌++◌, length, codes, decimal, Option, Some, None, option_and_then, unwrap_or, IsUtf8, refl, ap, ◌∙◌, arith, length-append}
use Rattle.std.specs.Int.{w128, to_be_bytes}
use Rattle.std.specs.Str.{IsAscii}
use Rattle.std.proofs.lemmas.Bool.{and_parts, ltb-true}
use Rattle.std.proofs.lemmas.Str.Ascii.{IsAscii-nil, IsAscii-cons}
use Rattle.std.proofs.lemmas.Fmt.{IsAscii-decimal, length-decimal-le}
use Rattle.std.proofs.lemmas.Str.{IsUtf8-append, IsUtf8-nil, IsUtf8-from_ascii}
use Rattle.hex.specs.Hex.{encode_lower, lower_digits}
use Rattle.hex.proofs.HexLemmas.{length-encode_with, IsAscii-encode_with}
use Rattle.json_terms.specs.Json.{Json, object, string, Members}
use Rattle.json_terms.specs.Find.{find, with_member}
use Rattle.json_terms.specs.Kinds.{text_in}
use Rattle.json_terms.specs.Terms.{IsTerm, AreMembers}
use Rattle.json_terms.specs.Text.{text_of}
use Rattle.json_terms.proofs.Inserted.{AreMembers-with_member}
use Rattle.json_terms.proofs.Parts.{length-text_of-find, IsTerm-find}
use Rattle.term_codec.specs.Spelling.{spelling, members_spelling, members_count, count_bytes}
use Rattle.term_codec.specs.SpelledAt.{CountsFit}
use Rattle.term_codec.proofs.Words.{length-count_bytes}
use Rattle.design_docs.specs.Documents.{id_of, is_design_id}
use Rattle.design_docs.proofs.Revised.{find-with_member}
use Rattle.doc_file.specs.Held.{IsDocument, IsObject}
use Rattle.view_ports.specs.Stored.{without}
use Rattle.doc_file.specs.Content.{content}
use Rattle.doc_file.specs.Incoming.{IsWritable}
use Rattle.design_docs.specs.Revision.{revision, stored_document}
use Rattle.doc_file.proofs.Changed.{AreMembers-without, depth-without, find-without, members_count-with_member, MembersFit-with_member, depth-with_member, length-with_member}
use Rattle.doc_file.proofs.Left.{kept}
use Rattle.doc_file.proofs.Sizes.{length-quoted, length-text_bytes, length-spelling, members_count-fits, CountsFit-short}

AreMembers-kept : (members : Members) → AreMembers members → AreMembers (kept members)
AreMembers-kept members all = AreMembers-without (codes "_deleted") (without (codes "_rev") members) (AreMembers-without (codes "_rev") members all)

-- a document that may be put is an object, since it has an id
pub IsObject-writable : (document : Json) → IsWritable document → IsObject document
IsObject-writable (object _) writable = tt
IsObject-writable other writable = let id = writable.id in absurd (cc)

-- ---- the id

pub find-kept : (members : Members) → find (codes "_id") (kept members) ≡ find (codes "_id") members
find-kept members =
    find-without (codes "_id") (codes "_deleted") (without (codes "_rev") members) refl ∙ find-without (codes "_id") (codes "_rev") members refl

abbrev pub id_at : Option Json → List ℕ
id_at found = unwrap_or (option_and_then text_in found) []

pub id_of-content : (document : Json) → id_of (content document) ≡ id_of document
id_of-content (object members) = ap id_at (find-kept members)
id_of-content other = refl

pub is_design_id-content : (document : Json) → is_design_id (id_of (content document)) ≡ is_design_id (id_of document)
is_design_id-content document = ap is_design_id (id_of-content document)

id_of-set : (document : Json) (rev : List ℕ) → id_of (stored_document document rev) ≡ id_of document
id_of-set (object members) rev = ap id_at (find-with_member (codes "_id") (codes "_rev") (string rev) members refl)
id_of-set other rev = refl

pub id_of-stored : (document : Json) (rev : List ℕ) → id_of (stored_document (content document) rev) ≡ id_of document
id_of-stored document rev = id_of-set (content document) rev ∙ id_of-content document

short_at : (found : Option Json) (size : ℕ) → ((value : Json) → found ≡ Some value → length (text_of value) ≤ size) → length (id_at found) ≤ size
short_at None size each = omega arith
short_at (Some (string text)) size each =
    let within = each (string text) refl in
    let inner = length-quoted text in
    omega arith
short_at (Some other) size each = omega arith

-- the id of a document that may be put is no longer than the text of its content
pub id_short : (document : Json) → IsObject document → IsWritable document → length (id_of document) ≤ 524288
id_short (object members) is writable =
    let small = writable.small in
    let within = short_at (find (codes "_id") (kept members)) (length (text_of (object (kept members)))) (length-text_of-find (kept members) (codes "_id")) in
    let same : length (id_at (find (codes "_id") (kept members))) ≡ length (id_of (object members)) = ap (λ found. length (id_at found)) (find-kept members) in
    omega arith
id_short other is writable = absurd is

utf8_at : (found : Option Json) → ((value : Json) → found ≡ Some value → IsTerm value) → IsUtf8 (id_at found)
utf8_at None each = IsUtf8-nil
utf8_at (Some (string text)) each = each (string text) refl
utf8_at (Some other) each = IsUtf8-nil

pub id_utf8 : (document : Json) → IsTerm document → IsUtf8 (id_of document)
id_utf8 (object members) term = utf8_at (find (codes "_id") members) (λ value. IsTerm-find members (codes "_id") value term)
id_utf8 other term = IsUtf8-nil

-- ---- the revision

abbrev are_ascii : List ℕ → Bool
are_ascii [] = true
are_ascii (x ∷ xs) = nat_lt x 128 && are_ascii xs

IsAscii-of : (xs : List ℕ) → are_ascii xs ≡ true → IsAscii xs
IsAscii-of [] e = IsAscii-nil
IsAscii-of (x ∷ xs) e = let p = and_parts _ _ e in IsAscii-cons x xs (ltb-true x 128 p.0) (IsAscii-of xs p.1)

pub length-revision : (generation seq : ℕ) → generation < 2 ^ 64 → length (revision generation seq) ≤ 100
unfolding revision
length-revision generation seq small =
    let front = length-decimal-le 20 generation (omega arith) (omega arith) small in
    let sixteen : length (to_be_bytes w128 seq) ≡ 16 = refl in
    let behind = length-encode_with lower_digits (to_be_bytes w128 seq) in
    let dashed = length-append (decimal generation) (codes "-") in
    let whole = length-append (decimal generation ++ codes "-") (encode_lower (to_be_bytes w128 seq)) in
    omega arith

pub IsUtf8-revision : (generation seq : ℕ) → generation < 2 ^ 64 → IsUtf8 (revision generation seq)
unfolding revision
IsUtf8-revision generation seq small =
    let digits = IsUtf8-from_ascii (encode_lower (to_be_bytes w128 seq)) (IsAscii-encode_with lower_digits (to_be_bytes w128 seq) (IsAscii-of lower_digits refl)) in
    let front = IsUtf8-from_ascii (decimal generation) (IsAscii-decimal generation small) in
    IsUtf8-append (decimal generation ++ codes "-") (encode_lower (to_be_bytes w128 seq)) (IsUtf8-append (decimal generation) (codes "-") front (IsUtf8-from_ascii (codes "-") (IsAscii-of (codes "-") refl))) digits

-- ---- the stored document

IsUtf8-rev_name : IsUtf8 (codes "_rev")
IsUtf8-rev_name = IsUtf8-from_ascii (codes "_rev") (IsAscii-of (codes "_rev") refl)

-- what is stored is what a body spells
pub IsDocument-stored : (document : Json) (rev : List ℕ) → IsTerm document → IsObject document → IsWritable document → IsUtf8 rev → length rev ≤ 100 → IsDocument (stored_document (content document) rev)
IsDocument-stored (object members) rev term is writable utf8 short =
    let left : Members = kept members in
    let small = writable.small in
    let shallow = writable.shallow in
    let fit : CountsFit (object left) = CountsFit-short (object left) (omega arith) in
    let few = members_count-fits left in
    let count = members_count-with_member (codes "_rev") (string rev) left in
    let deep = depth-with_member (codes "_rev") (string rev) left in
    let one = depth-without (codes "_rev") members in
    let both = depth-without (codes "_deleted") (without (codes "_rev") members) in
    record {
      term = AreMembers-with_member (codes "_rev") (string rev) left IsUtf8-rev_name utf8 (AreMembers-kept members term);
      object = tt;
      shallow = omega arith;
      counts = (omega arith, MembersFit-with_member (codes "_rev") (string rev) left (omega arith) (omega arith) fit.1);
    }
IsDocument-stored other rev term is writable utf8 short = absurd is

-- its spelling is short
pub spelling_short : (document : Json) (rev : List ℕ) → IsTerm document → IsObject document → IsWritable document → IsUtf8 rev → length rev ≤ 100
    → length (spelling (stored_document (content document) rev)) < 2 ^ 32
spelling_short (object members) rev term is writable utf8 short =
    let left : Members = kept members in
    let new : Members = with_member (codes "_rev") (string rev) left in
    let small = writable.small in
    let old = length-spelling (object left) (AreMembers-kept members term) in
    let old_count = length-count_bytes (members_count left) in
    let old_whole = length-append (count_bytes (members_count left)) (members_spelling left) in
    let grows = length-with_member (codes "_rev") (string rev) left in
    let name = length-text_bytes (codes "_rev") in
    let text = length-text_bytes rev in
    let new_count = length-count_bytes (members_count new) in
    let new_whole = length-append (count_bytes (members_count new)) (members_spelling new) in
    omega arith
spelling_short other rev term is writable utf8 short = absurd is
