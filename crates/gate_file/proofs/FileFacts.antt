-- What a crash leaves of a file of which nothing durable may be lost, and its states between the steps of a commit.
use Rattle.std.proofs.Common.{◌≡◌, ◌⊎◌, inl, inr, ℕ, ◌+◌, ◌<◌, ◌≤◌, List, [], ◌∷◌, length, get_or, take, drop, Option, refl, sym, ap, ◌∙◌, arith, length-take, length-drop}
use Rattle.std.proofs.lemmas.Bool.{cases_lt}
use Rattle.view_ports.specs.File.{File, IsIn, IsOneOf, IsImage, settled, splice, wrote}
use Rattle.view_ports.proofs.Images.{length-splice, splice_before, splice_behind}
use Rattle.gate_file.specs.declared.root.Root.{Root}
use Rattle.gate_file.specs.Header.{data_start, slot_at}
use Rattle.gate_file.specs.Shown.{HasAll, KeepsDurable, Shows}
use Rattle.gate_file.specs.Open.{IsPart}
use Rattle.gate_file.specs.Commit.{Continues}
use Rattle.gate_file.proofs.Windows.{window-same, part_same}

-- an image is the bytes, and perhaps more behind them, with anything in a range of places
pub record Torn (at count : ℕ) (bytes image : List ℕ) : Type 0 where
  pub long : length bytes ≤ length image
  pub same : (place : ℕ) → place < length bytes → ((at ≤ place) × (place < at + count) → ⊥) → get_or image place 0 ≡ get_or bytes place 0

-- a write to a file of which nothing durable may be lost
pub torn_write : (at : ℕ) (piece : List ℕ) (file : File) (image : List ℕ) → KeepsDurable file → IsImage (wrote at piece file) image → Torn at (length piece) file.durable image
torn_write at piece file image keeps is = record { long = long; same = same }
  where
    long : length file.durable ≤ length image
    long = keeps.behind.lengths (length image) is.long

    unwritten : (place : ℕ) → place < length file.durable → ((at ≤ place) × (place < at + length piece) → ⊥) → IsIn ((at, length piece) ∷ file.written) place → ⊥
    unwritten place within outside (inl here) = outside here
    unwritten place within outside (inr there) = let behind = keeps.behind.written place there in omega arith

    durable : (place : ℕ) → place < length file.durable → (get_or image place 0 ≡ get_or file.durable place 0) ⊎ (IsIn file.added place × (get_or image place 0 ≡ 0)) → get_or image place 0 ≡ get_or file.durable place 0
    durable place within (inl same_there) = same_there
    durable place within (inr added) = let behind = keeps.behind.added place added.0 in absurd (omega arith)

    same : (place : ℕ) → place < length file.durable → ((at ≤ place) × (place < at + length piece) → ⊥) → get_or image place 0 ≡ get_or file.durable place 0
    same place within outside = durable place within (is.kept place (omega (arith, long)) (unwritten place within outside))

pub torn_nothing : (file : File) (image : List ℕ) → KeepsDurable file → IsImage file image → Torn 0 0 file.durable image
torn_nothing file image keeps is = record { long = long; same = same }
  where
    long : length file.durable ≤ length image
    long = keeps.behind.lengths (length image) is.long

    durable : (place : ℕ) → place < length file.durable → (get_or image place 0 ≡ get_or file.durable place 0) ⊎ (IsIn file.added place × (get_or image place 0 ≡ 0)) → get_or image place 0 ≡ get_or file.durable place 0
    durable place within (inl same_there) = same_there
    durable place within (inr added) = let behind = keeps.behind.added place added.0 in absurd (omega arith)

    unwritten : (place : ℕ) → place < length file.durable → IsIn file.written place → ⊥
    unwritten place within there = let behind = keeps.behind.written place there in omega arith

    same : (place : ℕ) → place < length file.durable → ((0 ≤ place) × (place < 0 + 0) → ⊥) → get_or image place 0 ≡ get_or file.durable place 0
    same place within outside = durable place within (is.kept place (omega (arith, long)) (unwritten place within))

-- the write itself
pub torn_splice : (at : ℕ) (piece : List ℕ) (file : File) → at + length piece ≤ length file.seen → KeepsDurable file → Torn at (length piece) file.durable (splice file.seen at piece)
torn_splice at piece file fits keeps = record { long = omega (arith, length-splice file.seen at piece fits, keeps.long); same = same }
  where
    same : (place : ℕ) → place < length file.durable → ((at ≤ place) × (place < at + length piece) → ⊥) → get_or (splice file.seen at piece) place 0 ≡ get_or file.durable place 0
    same place within outside = elim (cases_lt place at) [
      | inl before ↦ splice_before file.seen at piece fits place before ∙ keeps.same place within
      | inr later ↦ elim (cases_lt place (at + length piece)) [
        | inl inside ↦ absurd (outside (later, inside))
        | inr behind ↦ splice_behind file.seen at piece fits place behind ∙ keeps.same place within
      ]
    ]

-- the same over all that is seen
pub seen_splice : (at : ℕ) (piece : List ℕ) (bytes : List ℕ) → at + length piece ≤ length bytes → Torn at (length piece) bytes (splice bytes at piece)
seen_splice at piece bytes fits = record { long = omega (arith, length-splice bytes at piece fits); same = same }
  where
    same : (place : ℕ) → place < length bytes → ((at ≤ place) × (place < at + length piece) → ⊥) → get_or (splice bytes at piece) place 0 ≡ get_or bytes place 0
    same place within outside = elim (cases_lt place at) [
      | inl before ↦ splice_before bytes at piece fits place before
      | inr later ↦ elim (cases_lt place (at + length piece)) [
        | inl inside ↦ absurd (outside (later, inside))
        | inr behind ↦ splice_behind bytes at piece fits place behind
      ]
    ]

-- a slot that the range doesn't touch
pub slot_kept : (at count : ℕ) (bytes image : List ℕ) (there : ℕ) → Torn at count bytes image → there + 65 ≤ length bytes → (there + 65 ≤ at) ⊎ (at + count ≤ there) → slot_at image there ≡ slot_at bytes there
slot_kept at count bytes image there torn fits apart =
    window-same image bytes there 65 (λ i within. torn.same (there + i) (omega arith) (λ inside. omega arith))

-- what stands behind the slots, where the range is in them
pub rest_kept : (at count : ℕ) (bytes image : List ℕ) → Torn at count bytes image → at + count ≤ 8192 → (place : ℕ) → 8192 ≤ place → place < length bytes → get_or image place 0 ≡ get_or bytes place 0
rest_kept at count bytes image torn low place behind within = torn.same place within (λ inside. omega arith)

one_length : (bytes : List ℕ) (size : ℕ) → IsOneOf (length bytes ∷ []) size → length bytes ≤ size
one_length bytes size (inl same) = omega arith
one_length bytes size (inr never) = absurd never

-- nothing is pending
pub settled_keeps : (bytes : List ℕ) → KeepsDurable (settled bytes)
settled_keeps bytes = record {
  behind = record { lengths = one_length bytes; written = λ place never. absurd never; added = λ place never. absurd never };
  long = omega arith;
  same = λ place within. refl;
}

pub continues_same : (file : File) → Continues file file
continues_same file = record { size = refl; seen = λ place behind within. refl; long = omega arith; durable = λ place behind within. refl }

pub continues_then : (a b c : File) → Continues a b → Continues b c → Continues a c
continues_then a b c first second = record {
  size = second.size ∙ first.size;
  seen = λ place behind within. second.seen place behind (omega (arith, first.size)) ∙ first.seen place behind within;
  long = omega (arith, first.long, second.long);
  durable = λ place behind within. second.durable place behind (omega (arith, first.long)) ∙ first.durable place behind within;
}

-- a write in the slots that is synced
pub continues_put : (at : ℕ) (piece : List ℕ) (file : File) → at + length piece ≤ 8192 → 8192 ≤ length file.durable → KeepsDurable file → Continues file (settled (splice file.seen at piece))
continues_put at piece file low made keeps =
    let fits : at + length piece ≤ length file.seen = omega (arith, keeps.long) in
    let durable = torn_splice at piece file fits keeps in
    record {
      size = length-splice file.seen at piece fits;
      seen = rest_kept at (length piece) file.seen (splice file.seen at piece) (seen_splice at piece file.seen fits) low;
      long = durable.long;
      durable = rest_kept at (length piece) file.durable (splice file.seen at piece) durable low;
    }

module _ {root : Option Root} where
  -- what is shown of the durable bytes later is shown of those before
  pub shows_before : (old new : File) (image : List ℕ) → Continues old new → Shows root new.durable image → Shows root old.durable image
  shows_before old new image continues shows = record {
    names = shows.names;
    low = shows.low;
    high = shows.high;
    has = record {
      long = omega (arith, shows.has.long, continues.long);
      rest = λ place behind within. shows.has.rest place behind (omega (arith, continues.long)) ∙ continues.durable place behind within;
    };
  }

  pub shows_seen : (old new : File) (image : List ℕ) → Continues old new → Shows root new.seen image → Shows root old.seen image
  shows_seen old new image continues shows = record {
    names = shows.names;
    low = shows.low;
    high = shows.high;
    has = record {
      long = omega (arith, shows.has.long, continues.size);
      rest = λ place behind within. shows.has.rest place behind (omega (arith, continues.size)) ∙ continues.seen place behind within;
    };
  }

-- a part behind the slots stands in what has all of the bytes as it stands in the bytes
part_kept : (bytes image : List ℕ) (offset count : ℕ) → HasAll bytes image → data_start ≤ offset → offset + count ≤ length bytes → take count (drop offset image) ≡ take count (drop offset bytes)
part_kept bytes image offset count has behind fits =
    part_same image bytes offset count (omega (arith, has.long)) fits (λ i within. has.rest (offset + i) (omega arith) (omega arith))

pub part_carried : (bytes image : List ℕ) → HasAll bytes image → (offset count : ℕ) (part : List ℕ) → data_start ≤ offset → IsPart bytes offset count part → IsPart image offset count part
part_carried bytes image has offset count part behind is = record { long = is.long; same = is.same ∙ sym (same_bytes (cases_lt 0 count)) }
  where
    same_bytes : (0 < count) ⊎ (count ≤ 0) → take count (drop offset image) ≡ take count (drop offset bytes)
    same_bytes (inl some) =
        let whole : length (take count (drop offset bytes)) ≡ count = sym (ap length is.same) ∙ is.long in
        part_kept bytes image offset count has behind (omega (arith, length-take count (drop offset bytes), length-drop offset bytes))
    same_bytes (inr none) = let zero_there : count ≡ 0 = omega arith in
        ap (λ n. take n (drop offset image)) zero_there ∙ sym (ap (λ n. take n (drop offset bytes)) zero_there)
