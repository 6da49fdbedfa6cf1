-- The parts of a last write: what is spelled is read, and what is read was spelled.
use Rattle.std.proofs.Common.{◌≡◌, ◌^◌, ◌<◌, ◌&&◌, ◌||◌, ℕ, List, ◌++◌, length, take, drop, Bool, true, false, not, nat_lt, nat_eq, Some, None, bytes_eq, refl, ap, sym, ◌∙◌, subst, arith, length-append}
use Rattle.std.proofs.lemmas.Bool.{cond-true, and_from, and_parts, lt-ltb, ltb-true, eqb-true}
use Rattle.std.proofs.lemmas.Option.{cond_some}
use Rattle.std.proofs.lemmas.Slice.Eq.{bytes_eq-Decides}
use Rattle.std.proofs.lemmas.List.{take-append-drop}
use Rattle.std.proofs.lemmas.Nat.{from_le_bytes-to_le_bytes_8, from_le_bytes-to_le_bytes_4}
use Rattle.term_codec.specs.Spelling.{count_bytes}
use Rattle.term_codec.proofs.Words.{cond_none}
use Rattle.doc_file.specs.declared.entry.LastWrite.{LastWrite}
use Rattle.doc_file.specs.Record.{whole_bytes, last_bytes, flag_byte, IsLast}
use Rattle.doc_file.specs.Reading.{last_at, last_if, last_in, is_sound, numbers_fit}

pub length-last_bytes : (last : LastWrite) → length (last_bytes last) ≡ 29
unfolding last_bytes whole_bytes count_bytes
length-last_bytes last = refl

flag-read : (b : Bool) → nat_eq (flag_byte b) 1 ≡ b
flag-read true = refl
flag-read false = refl

last_at-spelled : (last : LastWrite) (rest : List ℕ) → IsLast last → last_at (take 29 (last_bytes last ++ rest)) ≡ last
unfolding last_at last_bytes whole_bytes count_bytes
last_at-spelled last rest is = λ i. record {
  seq = from_le_bytes-to_le_bytes_8 last.seq is.seq i;
  generation = from_le_bytes-to_le_bytes_8 last.generation is.generation i;
  deleted = flag-read last.deleted i;
  offset = from_le_bytes-to_le_bytes_8 last.offset is.offset i;
  length = from_le_bytes-to_le_bytes_4 last.length is.length i;
}

front-last_bytes : (last : LastWrite) (rest : List ℕ) → take 29 (last_bytes last ++ rest) ≡ last_bytes last
unfolding last_bytes whole_bytes count_bytes
front-last_bytes last rest = refl

behind-last_bytes : (last : LastWrite) (rest : List ℕ) → drop 29 (last_bytes last ++ rest) ≡ rest
unfolding last_bytes whole_bytes count_bytes
behind-last_bytes last rest = refl

sound-tombstone : (deleted : Bool) (offset size : ℕ) → (deleted ≡ true → (offset ≡ 0) × (size ≡ 0)) → (not deleted || (nat_eq offset 0 && nat_eq size 0)) ≡ true
sound-tombstone false offset size h = refl
sound-tombstone true offset size h = let e = h refl in ap (λ n. nat_eq n 0 && nat_eq size 0) e.0 ∙ ap (λ n. nat_eq n 0) e.1

tombstone-sound : (deleted : Bool) (offset size : ℕ) → (not deleted || (nat_eq offset 0 && nat_eq size 0)) ≡ true → deleted ≡ true → (offset ≡ 0) × (size ≡ 0)
tombstone-sound false offset size h e = absurd cc
tombstone-sound true offset size h e = let both = and_parts (nat_eq offset 0) (nat_eq size 0) h in (eqb-true offset 0 both.0, eqb-true size 0 both.1)

pub numbers_fit-of : (last : LastWrite) → last.seq < 2 ^ 64 → last.generation < 2 ^ 64 → last.offset < 2 ^ 64 → last.length < 2 ^ 32 → numbers_fit last ≡ true
numbers_fit-of last seq generation offset size =
    and_from _ _ (lt-ltb last.seq (2 ^ 64) seq) (and_from _ _ (lt-ltb last.generation (2 ^ 64) generation) (and_from _ _ (lt-ltb last.offset (2 ^ 64) offset) (lt-ltb last.length (2 ^ 32) size)))

-- these 29 bytes are a last write's
pub last_if-is : (last : LastWrite) (bytes : List ℕ) → numbers_fit last ≡ true → last_bytes last ≡ take 29 bytes → is_sound last ≡ true → last_if last bytes ≡ Some (last, drop 29 bytes)
last_if-is last bytes fit same sound =
    cond-true _ (Some (last, drop 29 bytes)) None (and_from _ _ fit (and_from _ _ ((bytes_eq-Decides (last_bytes last) (take 29 bytes)).1 same) sound))

pub last_in-spelled : (last : LastWrite) (rest : List ℕ) → IsLast last → last_in (last_bytes last ++ rest) ≡ Some (last, rest)
unfolding last_in
last_in-spelled last rest is =
    ap (λ l. last_if l (last_bytes last ++ rest)) (last_at-spelled last rest is)
    ∙ last_if-is last (last_bytes last ++ rest) (numbers_fit-of last is.seq is.generation is.offset is.length) (sym (front-last_bytes last rest)) (sound-tombstone last.deleted last.offset last.length is.tombstone)
    ∙ ap (λ r. Some (last, r)) (behind-last_bytes last rest)

pub last_in-read : (bytes : List ℕ) (last : LastWrite) (rest : List ℕ) → last_in bytes ≡ Some (last, rest) → IsLast last × (bytes ≡ last_bytes last ++ rest)
unfolding last_in
last_in-read bytes last rest h =
    let l : LastWrite = last_at (take 29 bytes) in
    let found = cond_some (numbers_fit l && (bytes_eq (last_bytes l) (take 29 bytes) && is_sound l)) (l, drop 29 bytes) (last, rest) h in
    let tests = and_parts (numbers_fit l) (bytes_eq (last_bytes l) (take 29 bytes) && is_sound l) found.0 in
    let more = and_parts (bytes_eq (last_bytes l) (take 29 bytes)) (is_sound l) tests.1 in
    let is : l ≡ last = ap (λ r. r.0) found.1 in
    let behind : drop 29 bytes ≡ rest = ap (λ r. r.1) found.1 in
    let front : last_bytes l ≡ take 29 bytes = (bytes_eq-Decides (last_bytes l) (take 29 bytes)).0 more.0 in
    let fit = subst (λ x. numbers_fit x ≡ true) is tests.0 in
    let sound = subst (λ x. is_sound x ≡ true) is more.1 in
    let first = and_parts (nat_lt last.seq (2 ^ 64)) (nat_lt last.generation (2 ^ 64) && (nat_lt last.offset (2 ^ 64) && nat_lt last.length (2 ^ 32))) fit in
    let second = and_parts (nat_lt last.generation (2 ^ 64)) (nat_lt last.offset (2 ^ 64) && nat_lt last.length (2 ^ 32)) first.1 in
    let third = and_parts (nat_lt last.offset (2 ^ 64)) (nat_lt last.length (2 ^ 32)) second.1 in
    let all : IsLast last = record {
      seq = ltb-true last.seq (2 ^ 64) first.0;
      generation = ltb-true last.generation (2 ^ 64) second.0;
      offset = ltb-true last.offset (2 ^ 64) third.0;
      length = ltb-true last.length (2 ^ 32) third.1;
      tombstone = tombstone-sound last.deleted last.offset last.length sound;
    } in
    (all, sym (take-append-drop 29 bytes) ∙ ap (λ f. f ++ drop 29 bytes) (sym front ∙ ap last_bytes is) ∙ ap (λ r. last_bytes last ++ r) behind)

-- the answers of the call that reads one
pub last_in-short : (bytes : List ℕ) → length bytes < 29 → last_in bytes ≡ None
unfolding last_in
last_in-short bytes short =
    let l : LastWrite = last_at (take 29 bytes) in
    cond_none (numbers_fit l && (bytes_eq (last_bytes l) (take 29 bytes) && is_sound l)) (Some (l, drop 29 bytes)) (λ h.
    let tests = and_parts (numbers_fit l) (bytes_eq (last_bytes l) (take 29 bytes) && is_sound l) h in
    let same : last_bytes l ≡ take 29 bytes = (bytes_eq-Decides (last_bytes l) (take 29 bytes)).0 ((and_parts (bytes_eq (last_bytes l) (take 29 bytes)) (is_sound l) tests.1).0) in
    let long : length (last_bytes l) ≡ length (take 29 bytes) = ap length same in
    let whole : length (take 29 bytes ++ drop 29 bytes) ≡ length bytes = ap length (take-append-drop 29 bytes) in
    let parts = length-append (take 29 bytes) (drop 29 bytes) in
    let size = length-last_bytes l in
    omega arith)

pub last_in-is : (bytes head : List ℕ) (last : LastWrite) → head ≡ take 29 bytes → last ≡ last_at head → numbers_fit last ≡ true → last_bytes last ≡ head → is_sound last ≡ true → last_in bytes ≡ Some (last, drop 29 bytes)
unfolding last_in
last_in-is bytes head last is_head is fit same sound =
    ap (λ l. last_if l bytes) (ap last_at (sym is_head) ∙ sym is) ∙ last_if-is last bytes fit (same ∙ is_head) sound

pub last_in-not : (bytes head : List ℕ) (last : LastWrite) → head ≡ take 29 bytes → last ≡ last_at head → ((last_bytes last ≡ head) → is_sound last ≡ true → ⊥) → last_in bytes ≡ None
unfolding last_in
last_in-not bytes head last is_head is other =
    ap (λ l. last_if l bytes) (ap last_at (sym is_head) ∙ sym is)
    ∙ cond_none (numbers_fit last && (bytes_eq (last_bytes last) (take 29 bytes) && is_sound last)) (Some (last, drop 29 bytes)) (λ h.
    let tests = and_parts (numbers_fit last) (bytes_eq (last_bytes last) (take 29 bytes) && is_sound last) h in
    let more = and_parts (bytes_eq (last_bytes last) (take 29 bytes)) (is_sound last) tests.1 in
    other ((bytes_eq-Decides (last_bytes last) (take 29 bytes)).0 more.0 ∙ sym is_head) more.1)
