-- What a crash may leave of one file, before and after a call.
use Rattle.std.proofs.Common.{◌≡◌, ◌⊎◌, inl, inr, ℕ, ◌+◌, ◌-◌, ◌<◌, ◌≤◌, List, [], ◌∷◌, ◌++◌, length, get_or, take, drop, replicate, refl, sym, ap, ◌∙◌, subst, arith, length-append, length-take, length-drop}
use Rattle.std.proofs.lemmas.Bool.{cases_lt}
use Rattle.std.proofs.lemmas.List.{ext_get_or, length-replicate, get_or-replicate, get_or-append_right, get_or_append_left, get_or-take, get_or-drop}
use Rattle.view_ports.specs.File.{File, IsIn, IsOneOf, IsImage, settled, splice, wrote, grew, emptied}

module _ (bytes : List ℕ) (at : ℕ) (piece : List ℕ) (fits : at + length piece ≤ length bytes) where
  front_long : length (take at bytes) ≡ at
  front_long = omega (arith, length-take at bytes)

  -- `++` groups to the left
  both_long : length (take at bytes ++ piece) ≡ at + length piece
  both_long = omega (arith, front_long, length-append (take at bytes) piece)

  pub length-splice : length (splice bytes at piece) ≡ length bytes
  length-splice = omega (arith, both_long, length-append (take at bytes ++ piece) (drop (at + length piece) bytes), length-drop (at + length piece) bytes)

  pub splice_before : (place : ℕ) → place < at → get_or (splice bytes at piece) place 0 ≡ get_or bytes place 0
  splice_before place before =
      get_or_append_left (take at bytes ++ piece) (drop (at + length piece) bytes) 0 place (omega (arith, both_long))
      ∙ get_or_append_left (take at bytes) piece 0 place (omega (arith, front_long))
      ∙ get_or-take at bytes place 0 before

  -- the byte at a place that is given as so many behind the first
  pub splice_inside : (place i : ℕ) → place ≡ at + i → i < length piece → get_or (splice bytes at piece) place 0 ≡ get_or piece i 0
  splice_inside place i is inside =
      let same : place - at ≡ i = omega arith in
      get_or_append_left (take at bytes ++ piece) (drop (at + length piece) bytes) 0 place (omega (arith, both_long))
      ∙ get_or-append_right (take at bytes) piece at place 0 front_long (omega arith)
      ∙ ap (λ k. get_or piece k 0) same

  pub splice_behind : (place : ℕ) → at + length piece ≤ place → get_or (splice bytes at piece) place 0 ≡ get_or bytes place 0
  splice_behind place behind =
      let same : at + length piece + (place - (at + length piece)) ≡ place = omega arith in
      get_or-append_right (take at bytes ++ piece) (drop (at + length piece) bytes) (at + length piece) place 0 both_long behind
      ∙ get_or-drop (at + length piece) bytes (place - (at + length piece)) 0
      ∙ ap (λ k. get_or bytes k 0) same

-- nothing is pending: what a crash leaves is known
pub IsImage-settled : (bytes image : List ℕ) → IsImage (settled bytes) image → image ≡ bytes
IsImage-settled bytes image is = ext_get_or 0 image bytes (long is.long) each
  where
    long : IsOneOf (length bytes ∷ []) (length image) → length image ≡ length bytes
    long (inl same) = same
    long (inr never) = absurd never

    at_place : (place : ℕ) → (get_or image place 0 ≡ get_or bytes place 0) ⊎ (IsIn [] place × (get_or image place 0 ≡ 0)) → get_or image place 0 ≡ get_or bytes place 0
    at_place place (inl same) = same
    at_place place (inr never) = absurd never.0

    each : (place : ℕ) → place < length image → get_or image place 0 ≡ get_or bytes place 0
    each place within = at_place place (is.kept place within (λ never. absurd never))

pub settled_stays : (bytes : List ℕ) → IsImage (settled bytes) bytes
settled_stays bytes = record { long = inl refl; kept = λ place within unwritten. inl refl }

-- What is read stays one of the images over each call.
pub stays_written : (at : ℕ) (piece : List ℕ) (file : File) → at + length piece ≤ length file.seen → IsImage file file.seen → IsImage (wrote at piece file) (wrote at piece file).seen
stays_written at piece file fits stays = record { long = subst (IsOneOf file.lengths) (sym same_long) stays.long; kept = kept }
  where
    same_long : length (splice file.seen at piece) ≡ length file.seen
    same_long = length-splice file.seen at piece fits

    Kept : ℕ → ℕ → Type 0
    Kept place byte = (byte ≡ get_or file.durable place 0) ⊎ (IsIn file.added place × (byte ≡ 0))

    from_old : (place : ℕ) → place < length (splice file.seen at piece) → (IsIn file.written place → ⊥) → get_or (splice file.seen at piece) place 0 ≡ get_or file.seen place 0 → Kept place (get_or (splice file.seen at piece) place 0)
    from_old place within unwritten same = subst (Kept place) (sym same) (stays.kept place (omega (arith, same_long)) unwritten)

    kept : (place : ℕ) → place < length (splice file.seen at piece) → (IsIn ((at, length piece) ∷ file.written) place → ⊥) → Kept place (get_or (splice file.seen at piece) place 0)
    kept place within unwritten =
        let old_unwritten : IsIn file.written place → ⊥ = λ is. unwritten (inr is) in
        elim (cases_lt place at) [
          | inl before ↦ from_old place within old_unwritten (splice_before file.seen at piece fits place before)
          | inr later ↦ elim (cases_lt place (at + length piece)) [
            | inl inside ↦ absurd (unwritten (inl (later, inside)))
            | inr behind ↦ from_old place within old_unwritten (splice_behind file.seen at piece fits place behind)
          ]
        ]

pub stays_grown : (by : ℕ) (file : File) → IsImage file file.seen → IsImage (grew by file) (grew by file).seen
stays_grown by file stays = record { long = inl long; kept = kept }
  where
    long : length (file.seen ++ replicate by 0) ≡ length file.seen + by
    long = length-append file.seen (replicate by 0) ∙ ap (λ n. length file.seen + n) (length-replicate {A = ℕ} by 0)

    Kept : ℕ → ℕ → Type 0
    Kept place byte = (byte ≡ get_or file.durable place 0) ⊎ (IsIn ((length file.seen, by) ∷ file.added) place × (byte ≡ 0))

    old_kept : (place : ℕ) → (get_or file.seen place 0 ≡ get_or file.durable place 0) ⊎ (IsIn file.added place × (get_or file.seen place 0 ≡ 0)) → Kept place (get_or file.seen place 0)
    old_kept place (inl same) = inl same
    old_kept place (inr zero_there) = inr (inr zero_there.0, zero_there.1)

    kept : (place : ℕ) → place < length (file.seen ++ replicate by 0) → (IsIn file.written place → ⊥) → Kept place (get_or (file.seen ++ replicate by 0) place 0)
    kept place within unwritten =
        elim (cases_lt place (length file.seen)) [
          | inl old ↦ subst (Kept place) (sym (get_or_append_left file.seen (replicate by 0) 0 place old)) (old_kept place (stays.kept place old unwritten))
          | inr new ↦
              let below : place - length file.seen < by = omega (arith, long) in
              let is_zero : get_or (file.seen ++ replicate by 0) place 0 ≡ 0 =
              get_or-append_right file.seen (replicate by 0) (length file.seen) place 0 refl new ∙ get_or-replicate by (place - length file.seen) 0 0 below in
              inr (inl (new, omega (arith, long)), is_zero)
        ]

pub stays_emptied : (file : File) → IsImage (emptied file) (emptied file).seen
stays_emptied file = record { long = inl refl; kept = λ place within unwritten. absurd (omega arith) }

-- after a cut a crash leaves what it might have left before, or nothing
pub IsImage-emptied : (file : File) (image : List ℕ) → IsImage (emptied file) image → IsImage file image ⊎ (length image ≡ 0)
IsImage-emptied file image is = pick is.long
  where
    pick : IsOneOf (0 ∷ file.lengths) (length image) → IsImage file image ⊎ (length image ≡ 0)
    pick (inl none) = inr none
    pick (inr old) = inl (record { long = old; kept = is.kept })
