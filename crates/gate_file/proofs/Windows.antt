-- The bytes from a place on.
use Rattle.std.proofs.Common.{◌≡◌, ℕ, ◌+◌, ◌<◌, ◌≤◌, List, length, get_or, take, drop, sym, ap, ◌∙◌, arith, length-take, length-drop}
use Rattle.std.specs.List.{range_with_len}
use Rattle.std.proofs.lemmas.List.{ext_get_or, get_or-take, get_or-drop, get_or-map}
use Rattle.std.proofs.lemmas.List.FromFn.{length-range_with_len, length-map-range_with_len, get_or-range_with_len}
use Rattle.gate_file.specs.Header.{window}

pub length-window : (bytes : List ℕ) (at count : ℕ) → length (window bytes at count) ≡ count
unfolding window
length-window bytes at count = length-map-range_with_len (λ i. get_or bytes (at + i) 0) 0 count

pub get_or-window : (bytes : List ℕ) (at count i : ℕ) → i < count → get_or (window bytes at count) i 0 ≡ get_or bytes (at + i) 0
unfolding window
get_or-window bytes at count i within =
    let place : get_or (range_with_len 0 count) i 0 ≡ i = get_or-range_with_len 0 count i 0 within ∙ omega arith in
    get_or-map (λ k. get_or bytes (at + k) 0) (range_with_len 0 count) i 0 0 (omega (arith, length-range_with_len 0 count))
    ∙ ap (λ k. get_or bytes (at + k) 0) place

pub window-same : (a b : List ℕ) (at count : ℕ) → ((i : ℕ) → i < count → get_or a (at + i) 0 ≡ get_or b (at + i) 0) → window a at count ≡ window b at count
window-same a b at count each = ext_get_or 0 (window a at count) (window b at count)
    (length-window a at count ∙ sym (length-window b at count))
    (λ i within.
    let below : i < count = omega (arith, length-window a at count) in
    get_or-window a at count i below ∙ each i below ∙ sym (get_or-window b at count i below))

-- a window that the bytes fill is a part of them
pub window-part : (bytes : List ℕ) (at count : ℕ) → at + count ≤ length bytes → window bytes at count ≡ take count (drop at bytes)
window-part bytes at count fits =
    let long : length (take count (drop at bytes)) ≡ count = omega (arith, length-take count (drop at bytes), length-drop at bytes) in
    ext_get_or 0 (window bytes at count) (take count (drop at bytes))
    (length-window bytes at count ∙ sym long)
    (λ i within.
    let below : i < count = omega (arith, length-window bytes at count) in
    get_or-window bytes at count i below ∙ sym (get_or-take count (drop at bytes) i 0 below ∙ get_or-drop at bytes i 0))

-- two parts of lists that are the same place by place
pub part_same : (a b : List ℕ) (at count : ℕ) → at + count ≤ length a → at + count ≤ length b → ((i : ℕ) → i < count → get_or a (at + i) 0 ≡ get_or b (at + i) 0) → take count (drop at a) ≡ take count (drop at b)
part_same a b at count fits fits' each = sym (window-part a at count fits) ∙ window-same a b at count each ∙ window-part b at count fits'
