-- Documents as they are stored, which is how query servers are sent them.
use Rattle.std.specs.Prelude.{◌≡◌, ◌⊎◌, ◌<◌, ◌≤◌, ◌^◌, ◌++◌, ◌&&◌, ◌||◌, ℕ, List, Bool, not, length, codes, decimal, bytes_eq, nat_eq, nat_lt, if◌then◌else◌, EachIndex, slice_index, IsTrue, Some}
use Rattle.std.specs.List.{starts_with}
use Rattle.json_terms.specs.Json.{Json, number, is_false, is_null, is_true, object, array, string, Members, no_members, member, depth}
use Rattle.json_terms.specs.Find.{member_of}
use Rattle.json_terms.specs.Terms.{IsTerm}
use Rattle.json_terms.specs.Text.{text_of}
use Rattle.view_ports.specs.Commands.{document_depth}

-- the members but the one with this name
abbrev pub without : List ℕ → Members → Members
without name no_members = no_members
without name (member n t rest) = if bytes_eq n name then without name rest else member n t (without name rest)

-- the document without its revision
abbrev pub unrevised : Json → Json
unrevised (object ms) = object (without (codes "_rev") ms)
unrevised (number n) = number n
unrevised is_false = is_false
unrevised is_null = is_null
unrevised is_true = is_true
unrevised (array ts) = array ts
unrevised (string s) = string s

-- ---- the form of a revision

-- `0` to `9` and `a` to `f`
abbrev pub IsHexDigit : ℕ → Type 0
IsHexDigit c = ((48 ≤ c) × (c ≤ 57)) ⊎ ((97 ≤ c) × (c ≤ 102))

-- a decimal number from 1 to 2^63 - 1 without leading zeros
abbrev pub IsGeneration : List ℕ → Type 0
IsGeneration text = (generation : ℕ) × (0 < generation) × (generation < 2 ^ 63) × (text ≡ decimal generation)

-- a dash and 32 digits
abbrev pub IsSequence : List ℕ → Type 0
IsSequence text = (digits : List ℕ) × (length digits ≡ 32) × EachIndex digits (λ k. IsHexDigit (slice_index digits k)) × (text ≡ codes "-" ++ digits)

-- the text has the form of a revision
abbrev pub IsRevision : List ℕ → Type 0
IsRevision text = (generation : List ℕ) × (seq : List ℕ) × IsGeneration generation × IsSequence seq × (text ≡ generation ++ seq)

-- ---- stored documents

-- names that begin so are kept for the database
abbrev pub is_underscored : List ℕ → Bool
is_underscored name = starts_with nat_eq name (codes "_")

-- an id isn't empty, and begins with an underscore only where it is that of a design document with a name
abbrev pub is_id : List ℕ → Bool
is_id id = nat_lt 0 (length id) && (not (is_underscored id) || (starts_with nat_eq id (codes "_design/") && nat_lt (length (codes "_design/")) (length id)))

-- The text of a document has so many bytes at most without its revision.
abbrev pub stored_limit : ℕ
stored_limit = 524288

-- A document that can be stored: an object of depth 64 at most, with an id and a revision and no other member that is kept for the
-- database.
pub record IsStoredDocument (document : Json) : Type 0 where
  pub valid : IsTerm document
  pub nested : depth document ≤ document_depth
  pub id : (text : List ℕ) × (member_of (codes "_id") document ≡ Some (string text)) × IsTrue (is_id text)
  pub revision : (text : List ℕ) × (member_of (codes "_rev") document ≡ Some (string text)) × IsRevision text
  pub plain : (name : List ℕ) (value : Json) → member_of name document ≡ Some value → IsTrue (is_underscored name) → (name ≡ codes "_id") ⊎ (name ≡ codes "_rev")
  pub size : length (text_of (unrevised document)) ≤ stored_limit
