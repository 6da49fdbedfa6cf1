-- Files of a list by name, with what is pending on them, after a change of one of them; and lists that match file by file.
use Rattle.std.proofs.Common.{◌≡◌, ◌≢◌, inl, inr, ℕ, ◌<◌, List, [], ◌∷◌, ◌++◌, Bool, true, false, cond, length, get_or, refl, sym, ◌∙◌, subst}
use Rattle.std.proofs.Math.ListN.{set}
use Rattle.std.specs.List.{All}
use Rattle.view_ports.specs.declared.file_name.FileName.{FileName}
use Rattle.view_ports.specs.File.{File, settled}
use Rattle.crash_disk.specs.declared.held_file.HeldFile.{HeldFile}
use Rattle.crash_disk.specs.declared.pending_file.PendingFile.{PendingFile}
use Rattle.crash_disk.specs.Chosen.{IsSound}
use Rattle.crash_disk.specs.Names.{is_same}
use Rattle.crash_disk.specs.SameNames.{names_split}
use Rattle.crash_disk.specs.Held.{bytes_of, IsAbsent, AreApart}
use Rattle.crash_disk.specs.Pending.{file_of}
use Rattle.crash_disk.specs.PendingList.{file_named, IsPendingAbsent, ArePendingApart, IsPendingIndex, AreMatched}
use Rattle.crash_disk.proofs.NamedLists as named

pub absent_by_index : (name : FileName) (files : List PendingFile) → ((k : ℕ) (d : PendingFile) → k < length files → (get_or files k d).name ≢ name) → IsPendingAbsent name files
absent_by_index = named.absent_by_index (λ (file : PendingFile). file.name)

pub apart_set : (files : List PendingFile) (at : ℕ) (d file : PendingFile) → ArePendingApart files → at < length files → file.name ≡ (get_or files at d).name → ArePendingApart (set files at file)
apart_set = named.apart_set (λ (file : PendingFile). file.name)

pub apart_pushed : (files new : List PendingFile) (file : PendingFile) (ok : Bool) → new ≡ cond ok (files ++ file ∷ []) files → ArePendingApart files → IsPendingAbsent file.name files → ArePendingApart new
apart_pushed = named.apart_pushed (λ (file : PendingFile). file.name)

pub file_at : (name : FileName) (files : List PendingFile) (at : ℕ) (d : PendingFile) → ArePendingApart files → at < length files → (get_or files at d).name ≡ name → file_named files name ≡ file_of (get_or files at d).pending
file_at = named.value_at (λ (file : PendingFile). file.name) (λ (file : PendingFile). file_of file.pending) (settled [])

-- a file without bytes is put behind the others
pub file_push : (files : List PendingFile) (file : PendingFile) (name : FileName) → file_of file.pending ≡ settled [] → file_named (files ++ file ∷ []) name ≡ file_named files name
file_push = named.value_push (λ (file : PendingFile). file.name) (λ (file : PendingFile). file_of file.pending) (settled [])

-- a step on the file with a name, by its place in the list
pub step_at : (name : FileName) (files : List PendingFile) (at : ℕ) (d file : PendingFile) (step : File → File) → ArePendingApart files → IsPendingIndex name files at
    → d ≡ get_or files at d → file.name ≡ d.name → file_of file.pending ≡ step (file_of d.pending)
    → (n : FileName) → file_named (set files at file) n ≡ cond (is_same name n) (step (file_named files n)) (file_named files n)
step_at = named.step_at (λ (file : PendingFile). file.name) (λ (file : PendingFile). file_of file.pending) (settled [])

pub each_sound : (files : List PendingFile) → ArePendingApart files → ((name : FileName) → IsSound (file_named files name)) → All (λ (file : PendingFile). IsSound (file_of file.pending)) files
each_sound files apart sound = λ k d below. subst IsSound (file_at (get_or files k d).name files k d apart below refl) (sound (get_or files k d).name)

module _ (P : File → List ℕ → Type 0) where
  pub matched_push : (files : List PendingFile) (helds : List HeldFile) (file : PendingFile) (held : HeldFile) → AreMatched P files helds → file.name ≡ held.name → P (file_of file.pending) held.bytes.items
      → AreMatched P (files ++ file ∷ []) (helds ++ held ∷ [])
  matched_push [] [] file held matched same is = (same, is, tt)
  matched_push [] (h ∷ helds) file held matched same is = absurd matched
  matched_push (f ∷ files) [] file held matched same is = absurd matched
  matched_push (f ∷ files) (h ∷ helds) file held matched same is = (matched.0, matched.1, matched_push files helds file held matched.2 same is)

  pub matched_value : P (settled []) [] → (files : List PendingFile) (helds : List HeldFile) → AreMatched P files helds → (name : FileName) → P (file_named files name) (bytes_of helds name)
  matched_value none [] [] matched name = none
  matched_value none [] (h ∷ helds) matched name = absurd matched
  matched_value none (f ∷ files) [] matched name = absurd matched
  matched_value none (f ∷ files) (h ∷ helds) matched name =
      elim (names_split f.name name) [
        | inl same ↦ rw (same.1, subst (λ n. is_same n name ≡ true) matched.0 same.1) matched.1
        | inr other ↦ rw (other.1, subst (λ n. is_same n name ≡ false) matched.0 other.1) (matched_value none files helds matched.2 name)
      ]

  absent_left : (name : FileName) (files : List PendingFile) (helds : List HeldFile) → AreMatched P files helds → IsAbsent name helds → IsPendingAbsent name files
  absent_left name [] helds matched absent = tt
  absent_left name (f ∷ files) [] matched absent = absurd matched
  absent_left name (f ∷ files) (h ∷ helds) matched absent = ((λ is. absent.0 (sym matched.0 ∙ is)), absent_left name files helds matched.2 absent.1)

  absent_right : (name : FileName) (files : List PendingFile) (helds : List HeldFile) → AreMatched P files helds → IsPendingAbsent name files → IsAbsent name helds
  absent_right name files [] matched absent = tt
  absent_right name [] (h ∷ helds) matched absent = absurd matched
  absent_right name (f ∷ files) (h ∷ helds) matched absent = ((λ is. absent.0 (matched.0 ∙ is)), absent_right name files helds matched.2 absent.1)

  pub apart_left : (files : List PendingFile) (helds : List HeldFile) → AreMatched P files helds → AreApart helds → ArePendingApart files
  apart_left [] helds matched apart = tt
  apart_left (f ∷ files) [] matched apart = absurd matched
  apart_left (f ∷ files) (h ∷ helds) matched apart = (absent_left f.name files helds matched.2 (subst (λ n. IsAbsent n helds) (sym matched.0) apart.0), apart_left files helds matched.2 apart.1)

  pub apart_right : (files : List PendingFile) (helds : List HeldFile) → AreMatched P files helds → ArePendingApart files → AreApart helds
  apart_right files [] matched apart = tt
  apart_right [] (h ∷ helds) matched apart = absurd matched
  apart_right (f ∷ files) (h ∷ helds) matched apart = (absent_right h.name files helds matched.2 (subst (λ n. IsPendingAbsent n files) matched.0 apart.0), apart_right files helds matched.2 apart.1)
