-- Slots, and the root that the two of them name.
use Rattle.std.proofs.Common.{◌≡◌, ◌≢◌, ◌⊎◌, inl, inr, ℕ, ◌+◌, ◌%◌, ◌^◌, ◌<◌, ◌≤◌, List, length, get_or, take, drop, Option, Some, None, refl, sym, ap, ◌∙◌, subst, arith}
use Rattle.std.specs.Prelude.{codes, slice_range, is_some, IsTrue, ◌↔◌}
use Rattle.std.specs.Int.{from_le_bytes, w64}
use Rattle.std.proofs.lemmas.Nat.{from_le_bytes-to_le_bytes_8}
use Rattle.std.proofs.lemmas.Bool.{cases_lt, cases_eq}
use Rattle.std.proofs.lemmas.Bool.Decides.{nat_tests}
use Rattle.gate_file.specs.declared.root.Root.{Root}
use Rattle.gate_file.specs.Header.{place_of, slot_at, root_in, IsOpen, open_root, IsSound, IsFit, newer, newest}
use Rattle.gate_file.specs.Shown.{Shows}
use Rattle.gate_file.specs.GateFile.{IsOlder}
use Rattle.gate_file.specs.Commit.{header, HasHeader}
use Rattle.gate_file.proofs.Windows.{part_same}

-- the slots of two commits in a row are the two slots
pub places : (k : ℕ) → ((place_of k ≡ 0) × (place_of (k + 1) ≡ 4096)) ⊎ ((place_of k ≡ 4096) × (place_of (k + 1) ≡ 0))
places k = elim (cases_lt (k % 2) 1) [
  | inl even ↦ inl (omega arith, omega arith)
  | inr odd ↦ inr (omega arith, omega arith)
]

pub place_twice : (k : ℕ) → place_of (k + 1 + 1) ≡ place_of k
place_twice k = omega arith

pub place_below : (k : ℕ) → place_of k ≤ 4096
place_below k = omega arith

pub open_root-closed : (slot : List ℕ) → (IsOpen slot → ⊥) → open_root slot ≡ None
open_root-closed slot closed = elim (cases_eq (get_or slot 64 0) 1) [
  | inl opened ↦ absurd (closed opened)
  | inr shut ↦ grind (arith, nat_tests)
]

pub open_root-open : (slot : List ℕ) → IsOpen slot → open_root slot ≡ Some (root_in slot)
open_root-open slot opened = grind (arith, nat_tests)

-- an open slot is one that names a root
pub open_iff : (slot : List ℕ) (root : Option Root) → open_root slot ≡ root → IsTrue (is_some root) ↔ IsOpen slot
open_iff slot None same = (λ never. absurd (cc), λ opened. (let clash : ⊥ = cc (open_root-open slot opened, same) in absurd clash))
open_iff slot (Some root) same = (λ some. opened_of (cases_eq (get_or slot 64 0) 1), λ opened. refl)
  where
    opened_of : (IsOpen slot) ⊎ (get_or slot 64 0 ≢ 1) → IsOpen slot
    opened_of (inl opened) = opened
    opened_of (inr shut) = (let clash : ⊥ = cc (open_root-closed slot shut, same) in absurd clash)

pub IsSound-longer : (at size size' : ℕ) (slot : List ℕ) → size ≤ size' → IsSound at size slot → IsSound at size' slot
IsSound-longer at size size' slot longer sound = record {
  first_bytes = sound.first_bytes;
  from_one = sound.from_one;
  to_most = sound.to_most;
  own_place = sound.own_place;
  behind_slots = sound.behind_slots;
  within = omega (arith, sound.within);
}

pub IsFit-same : (at : ℕ) (a b : List ℕ) → slot_at b at ≡ slot_at a at → length a ≤ length b → IsFit at a → IsFit at b
IsFit-same at a b same longer fit = λ opened.
    subst (IsSound at (length b)) (sym same) (IsSound-longer at (length a) (length b) (slot_at a at) longer (fit (subst IsOpen same opened)))

pub IsFit-closed : (at : ℕ) (b : List ℕ) → (IsOpen (slot_at b at) → ⊥) → IsFit at b
IsFit-closed at b closed = λ opened. absurd (closed opened)

-- either slot is the one of this commit
pub fit_at : (b : List ℕ) → IsFit 0 b → IsFit 4096 b → (k : ℕ) → IsFit (place_of k) b
fit_at b low high k = elim (places k) [
  | inl even ↦ subst (λ at. IsFit at b) (sym even.0) low
  | inr odd ↦ subst (λ at. IsFit at b) (sym odd.0) high
]

newer_older : (old root : Option Root) → IsOlder old root → newer root old ≡ root
newer_older None None older = refl
newer_older None (Some root) older = refl
newer_older (Some old) None older = absurd older
newer_older (Some old) (Some root) older = grind (arith, nat_tests)

older_newer : (old root : Option Root) → IsOlder old root → newer old root ≡ root
older_newer None root older = refl
older_newer (Some old) None older = absurd older
older_newer (Some old) (Some root) older = grind (arith, nat_tests)

-- the root in one slot, and an older one or none in the other
pub newest_at : (b : List ℕ) (k : ℕ) (root : Option Root) → open_root (slot_at b (place_of k)) ≡ root → IsOlder (open_root (slot_at b (place_of (k + 1)))) root → newest b ≡ root
newest_at b k root last next = elim (places k) [
  | inl even ↦
      let here : open_root (slot_at b 0) ≡ root = subst (λ at. open_root (slot_at b at) ≡ root) even.0 last in
      let there : IsOlder (open_root (slot_at b 4096)) root = subst (λ at. IsOlder (open_root (slot_at b at)) root) even.1 next in
      ap (λ r. newer r (open_root (slot_at b 4096))) here ∙ newer_older (open_root (slot_at b 4096)) root there
  | inr odd ↦
      let here : open_root (slot_at b 4096) ≡ root = subst (λ at. open_root (slot_at b at) ≡ root) odd.0 last in
      let there : IsOlder (open_root (slot_at b 0)) root = subst (λ at. IsOlder (open_root (slot_at b at)) root) odd.1 next in
      ap (λ r. newer (open_root (slot_at b 0)) r) here ∙ older_newer (open_root (slot_at b 0)) root there
]

pub shows_at : (k : ℕ) (root : Option Root) (bytes image : List ℕ) → open_root (slot_at image (place_of k)) ≡ root → IsOlder (open_root (slot_at image (place_of (k + 1)))) root
    → IsFit (place_of k) image → IsFit (place_of (k + 1)) image → length bytes ≤ length image
    → ((place : ℕ) → 8192 ≤ place → place < length bytes → get_or image place 0 ≡ get_or bytes place 0) → Shows root bytes image
shows_at k root bytes image last next fit fit' long rest = elim (places k) [
  | inl even ↦ record {
    names = newest_at image k root last next;
    low = subst (λ at. IsFit at image) even.0 fit;
    high = subst (λ at. IsFit at image) even.1 fit';
    has = record { long = long; rest = rest };
  }
  | inr odd ↦ record {
    names = newest_at image k root last next;
    low = subst (λ at. IsFit at image) odd.1 fit';
    high = subst (λ at. IsFit at image) odd.0 fit;
    has = record { long = long; rest = rest };
  }
]

-- the numbers of a root fit 8 bytes
pub record IsSmall (root : Root) : Type 0 where
  pub number : root.number < 2 ^ 64
  pub offset : root.offset < 2 ^ 64
  pub length : root.length < 2 ^ 64

module _ (root : Root) (slot : List ℕ) (has : HasHeader root slot) where
  part : (at : ℕ) → at + 8 ≤ 32 → take 8 (drop at slot) ≡ take 8 (drop at (header root))
  part at fits = part_same slot (header root) at 8 (omega (arith, has.long)) (let long : length (header root) ≡ 32 = refl in omega (arith, long)) (λ i within. has.each (at + i) (omega arith))

  pub header_first : slice_range slot 0 8 ≡ codes "CVIEW001"
  header_first = part 0 (omega arith)

  pub header_root : IsSmall root → root_in slot ≡ root
  header_root small =
      let number : (root_in slot).number ≡ root.number = ap (from_le_bytes w64) (part 8 (omega arith)) ∙ from_le_bytes-to_le_bytes_8 root.number small.number in
      let offset : (root_in slot).offset ≡ root.offset = ap (from_le_bytes w64) (part 16 (omega arith)) ∙ from_le_bytes-to_le_bytes_8 root.offset small.offset in
      let size : (root_in slot).length ≡ root.length = ap (from_le_bytes w64) (part 24 (omega arith)) ∙ from_le_bytes-to_le_bytes_8 root.length small.length in
      λ i. record { number = number i; offset = offset i; length = size i }

  -- a slot with the header of a root that may be committed is sound
  pub header_sound : (at size : ℕ) → IsSmall root → 0 < root.number → root.number ≤ 2 ^ 50 → place_of root.number ≡ at → 8192 ≤ root.offset → root.offset + root.length ≤ size → IsSound at size slot
  header_sound at size small one most own behind within =
      let same = header_root small in
      let number : (root_in slot).number ≡ root.number = ap (λ (r : Root). r.number) same in
      let offset : (root_in slot).offset ≡ root.offset = ap (λ (r : Root). r.offset) same in
      let long : (root_in slot).length ≡ root.length = ap (λ (r : Root). r.length) same in
      record {
        first_bytes = header_first;
        from_one = subst (λ n. 0 < n) (sym number) one;
        to_most = subst (λ n. n ≤ 2 ^ 50) (sym number) most;
        own_place = ap place_of number ∙ own;
        behind_slots = subst (λ n. 8192 ≤ n) (sym offset) behind;
        within = subst (λ (r : Root). r.offset + r.length ≤ size) (sym same) within;
      }
