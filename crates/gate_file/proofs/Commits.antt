-- One file over the steps of a commit: the gate of the next slot is shut, its header is written, and it is opened.
use Rattle.std.proofs.Common.{◌≡◌, ◌⊎◌, inl, inr, ℕ, ◌+◌, ◌^◌, ◌<◌, ◌≤◌, List, length, get_or, Option, Some, None, sym, ap, ◌∙◌, subst, arith}
use Rattle.std.specs.Prelude.{IsTrue, is_some, ◌↔◌, IfSome}
use Rattle.std.proofs.lemmas.Bool.{cases_eq}
use Rattle.gate_file.specs.declared.root.Root.{Root}
use Rattle.gate_file.specs.Header.{place_of, slot_at, IsOpen, open_root, IsSound, IsFit}
use Rattle.gate_file.specs.Shown.{Shows}
use Rattle.gate_file.specs.GateFile.{IsOlder}
use Rattle.gate_file.specs.Commit.{HasHeader, Holds}
use Rattle.gate_file.proofs.Windows.{window-same, get_or-window, length-window}
use Rattle.gate_file.proofs.SlotFacts.{places, place_twice, place_below, open_root-closed, open_root-open, open_iff, IsFit-same, IsFit-closed, shows_at, IsSmall, header_root, header_sound}
use Rattle.gate_file.proofs.FileFacts.{Torn, slot_kept}

-- the two slots don't overlap
apart : (k at count : ℕ) → place_of (k + 1) ≤ at → at + count ≤ place_of (k + 1) + 65 → (place_of k + 65 ≤ at) ⊎ (at + count ≤ place_of k)
apart k at count low high = elim (places k) [
  | inl even ↦ inl (omega (arith, even.0, even.1))
  | inr odd ↦ inr (omega (arith, odd.0, odd.1))
]

abbrev pub next_place : ℕ → ℕ
next_place k = place_of (k + 1)

module _ (k : ℕ) (root : Option Root) (bytes image : List ℕ) (holds : Holds k root bytes) where
  -- a change within the next slot
  kept : (at count : ℕ) → Torn at count bytes image → next_place k ≤ at → at + count ≤ next_place k + 65 → slot_at image (place_of k) ≡ slot_at bytes (place_of k)
  kept at count torn low high = slot_kept at count bytes image (place_of k) torn (omega (arith, holds.made, place_below k)) (apart k at count low high)

  -- it leaves the slot of the next commit closed
  pub holds_closed : (at count : ℕ) → Torn at count bytes image → next_place k ≤ at → at + count ≤ next_place k + 65 → (IsOpen (slot_at image (next_place k)) → ⊥) → Holds k root image
  holds_closed at count torn low high closed =
      let same = kept at count torn low high in
      record {
        made = omega (arith, holds.made, torn.long);
        last = ap open_root same ∙ holds.last;
        next = subst (λ r. IsOlder r root) (sym (open_root-closed (slot_at image (next_place k)) closed)) tt;
        fit = IsFit-same (place_of k) bytes image same torn.long holds.fit;
        fit_next = IsFit-closed (next_place k) image closed;
      }

  -- it leaves the slot of the next commit as it was
  pub holds_same : (at count : ℕ) → Torn at count bytes image → next_place k ≤ at → at + count ≤ next_place k + 65 → slot_at image (next_place k) ≡ slot_at bytes (next_place k) → Holds k root image
  holds_same at count torn low high same_next =
      let same = kept at count torn low high in
      record {
        made = omega (arith, holds.made, torn.long);
        last = ap open_root same ∙ holds.last;
        next = subst (λ slot. IsOlder (open_root slot) root) (sym same_next) holds.next;
        fit = IsFit-same (place_of k) bytes image same torn.long holds.fit;
        fit_next = IsFit-same (next_place k) bytes image same_next torn.long holds.fit_next;
      }

  -- only its gate may be another
  gate_same : Torn (next_place k + 64) 1 bytes image → get_or image (next_place k + 64) 0 ≡ get_or bytes (next_place k + 64) 0 → slot_at image (next_place k) ≡ slot_at bytes (next_place k)
  gate_same torn same = window-same image bytes (next_place k) 65 (λ i within.
      elim (cases_eq i 64) [
        | inl gate ↦ ap (λ j. get_or image (next_place k + j) 0) gate ∙ same ∙ ap (λ j. get_or bytes (next_place k + j) 0) (sym gate)
        | inr before ↦ torn.same (next_place k + i) (omega (arith, holds.made, place_below (k + 1))) (λ inside. before (omega arith))
      ])

  gate_read : (b : List ℕ) → get_or (slot_at b (next_place k)) 64 0 ≡ get_or b (next_place k + 64) 0
  gate_read b = get_or-window b (next_place k) 65 64 (omega arith)

  -- the gate of the next slot is torn while it is shut
  pub holds_torn : Torn (next_place k + 64) 1 bytes image → IsOpen (slot_at bytes (next_place k)) → Holds k root image
  holds_torn torn opened = elim (cases_eq (get_or image (next_place k + 64) 0) 1) [
    | inl still ↦ holds_same (next_place k + 64) 1 torn (omega arith) (omega arith) (gate_same torn (still ∙ sym (sym (gate_read bytes) ∙ opened)))
    | inr shut ↦ holds_closed (next_place k + 64) 1 torn (omega arith) (omega arith) (λ is. shut (sym (gate_read image) ∙ is))
  ]

  pub holds_shut : Torn (next_place k + 64) 1 bytes image → get_or image (next_place k + 64) 0 ≡ 0 → Holds k root image
  holds_shut torn shut = holds_closed (next_place k + 64) 1 torn (omega arith) (omega arith) (λ is. let clash : ⊥ = (omega (arith, gate_read image, shut, is)) in clash)

  -- the header of the next slot is written or torn behind a closed gate
  pub holds_staged : Torn (next_place k) 32 bytes image → (IsOpen (slot_at bytes (next_place k)) → ⊥) → Holds k root image
  holds_staged torn closed = holds_closed (next_place k) 32 torn (omega arith) (omega arith)
      (λ is. closed (gate_read bytes ∙ sym (torn.same (next_place k + 64) (omega (arith, holds.made, place_below (k + 1))) (λ inside. omega arith)) ∙ sym (gate_read image) ∙ is))

  -- the gate stays closed
  pub staged_closed : Torn (next_place k) 32 bytes image → (IsOpen (slot_at bytes (next_place k)) → ⊥) → IsOpen (slot_at image (next_place k)) → ⊥
  staged_closed torn closed is =
      closed (gate_read bytes ∙ sym (torn.same (next_place k + 64) (omega (arith, holds.made, place_below (k + 1))) (λ inside. omega arith)) ∙ sym (gate_read image) ∙ is)

  pub shut_closed : get_or image (next_place k + 64) 0 ≡ 0 → IsOpen (slot_at image (next_place k)) → ⊥
  shut_closed shut is = omega (arith, gate_read image, shut, is)

-- what holds the root shows it
pub holds_shows : (k : ℕ) (root : Option Root) (bytes image : List ℕ) → Holds k root image → length bytes ≤ length image → ((place : ℕ) → 8192 ≤ place → place < length bytes → get_or image place 0 ≡ get_or bytes place 0) → Shows root bytes image
holds_shows k root bytes image holds long rest = shows_at k root bytes image holds.last holds.next holds.fit holds.fit_next long rest

-- The next slot has a header, whose gate is opened.
module _ (k : ℕ) (root : Option Root) (new : Root) (bytes image : List ℕ) (holds : Holds k root bytes) (has : HasHeader new (slot_at bytes (next_place k)))
    (torn : Torn (next_place k + 64) 1 bytes image) (small : IsSmall new) (number : new.number ≡ k + 1) (most : k + 1 ≤ 2 ^ 50)
    (behind : 8192 ≤ new.offset) (within : new.offset + new.length ≤ length bytes) (older : IfSome root (λ r. r.number ≡ k)) where
  header_kept : HasHeader new (slot_at image (next_place k))
  header_kept = record {
    long = length-window image (next_place k) 65;
    each = λ i below.
        get_or-window image (next_place k) 65 i (omega arith)
        ∙ torn.same (next_place k + i) (omega (arith, holds.made, place_below (k + 1))) (λ inside. omega arith)
        ∙ sym (get_or-window bytes (next_place k) 65 i (omega arith)) ∙ has.each i below;
  }

  is_older : (old : Option Root) → IfSome old (λ r. r.number ≡ k) → IsOlder old (Some new)
  is_older None known = tt
  is_older (Some old) known = omega arith

  last_kept : slot_at image (place_of k) ≡ slot_at bytes (place_of k)
  last_kept = slot_kept (next_place k + 64) 1 bytes image (place_of k) torn (omega (arith, holds.made, place_below k)) (apart k (next_place k + 64) 1 (omega arith) (omega arith))

  sound : IsSound (next_place k) (length image) (slot_at image (next_place k))
  sound = header_sound new (slot_at image (next_place k)) header_kept (next_place k) (length image) small (omega arith) (omega arith) (ap place_of number) behind (omega (arith, torn.long))

  -- it holds the new root from then on
  pub holds_opened : IsOpen (slot_at image (next_place k)) → Holds (k + 1) (Some new) image
  holds_opened opened = record {
    made = omega (arith, holds.made, torn.long);
    last = open_root-open (slot_at image (next_place k)) opened ∙ ap (λ (r : Root). Some r) (header_root new (slot_at image (next_place k)) header_kept small);
    next = subst (λ at. IsOlder (open_root (slot_at image at)) (Some new)) (sym (place_twice k)) (subst (λ r. IsOlder r (Some new)) (sym (ap open_root last_kept ∙ holds.last)) (is_older root older));
    fit = λ is. sound;
    fit_next = subst (λ at. IsFit at image) (sym (place_twice k)) (IsFit-same (place_of k) bytes image last_kept torn.long holds.fit);
  }

  -- the slot before it is open where there was a root
  pub before_opened : IsTrue (is_some root) ↔ IsOpen (slot_at image (place_of (k + 1 + 1)))
  before_opened = subst (λ at. IsTrue (is_some root) ↔ IsOpen (slot_at image at)) (sym (place_twice k)) (open_iff (slot_at image (place_of k)) root (ap open_root last_kept ∙ holds.last))
