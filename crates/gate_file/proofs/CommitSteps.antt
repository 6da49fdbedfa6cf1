-- What each step of a commit leaves of the file, from what the object keeps.
use Rattle.std.proofs.Common.{◌≡◌, ◌⊎◌, inl, inr, ℕ, ◌+◌, ◌^◌, ◌<◌, ◌≤◌, List, [], ◌∷◌, length, get_or, Option, Some, refl, sym, ap, ◌∙◌, subst, arith}
use Rattle.std.specs.Prelude.{true, false, IsTrue, is_some, ◌↔◌, IfSome}
use Rattle.std.proofs.lemmas.Bool.{cases_eq}
use Rattle.view_ports.specs.File.{File, IsImage, settled, splice, wrote, synced}
use Rattle.view_ports.proofs.Images.{length-splice, splice_inside}
use Rattle.gate_file.specs.declared.root.Root.{Root}
use Rattle.gate_file.specs.declared.gate.GateFile.{GateFile}
use Rattle.gate_file.specs.Header.{place_of, slot_at, IsOpen}
use Rattle.gate_file.specs.Shown.{Shows, KeepsDurable}
use Rattle.gate_file.specs.GateFile.{Keeps, committed, IsCommitted}
use Rattle.gate_file.specs.Commit.{header, HasHeader, Holds, Continues, IsReady, IsStaged, IsNext}
use Rattle.gate_file.proofs.Windows.{get_or-window, length-window}
use Rattle.gate_file.proofs.SlotFacts.{place_below, fit_at, IsSmall}
use Rattle.gate_file.proofs.FileFacts.{Torn, torn_write, torn_nothing, torn_splice, seen_splice, slot_kept, rest_kept, settled_keeps, continues_same, continues_put, shows_before, shows_seen}
use Rattle.gate_file.proofs.Commits.{next_place, holds_torn, holds_same, holds_shut, holds_staged, shut_closed, holds_shows, holds_opened, before_opened, holds_closed}

pub keeps_holds : (gate : GateFile) (file : File) → 0 < gate.length → Keeps gate file → Holds gate.commits gate.root file.durable
keeps_holds gate file made keeps = record {
  made = keeps.made made;
  last = keeps.last;
  next = keeps.next;
  fit = fit_at file.durable keeps.low keeps.high gate.commits;
  fit_next = fit_at file.durable keeps.low keeps.high (gate.commits + 1);
}

-- what nothing was done to in its first bytes
holds_whole : (k : ℕ) (root : Option Root) (bytes image : List ℕ) → Holds k root bytes → Torn 0 0 bytes image → Holds k root image
holds_whole k root bytes image holds torn =
    holds_same k root bytes image holds (next_place k) 0
    (record { long = torn.long; same = λ place within outside. torn.same place within (λ inside. omega arith) })
    (omega arith) (omega arith)
    (slot_kept 0 0 bytes image (next_place k) torn (omega (arith, holds.made, place_below (k + 1))) (inr (omega arith)))

-- a file of which nothing durable may be lost shows its root
pub durable_shows : (k : ℕ) (root : Option Root) (file : File) (image : List ℕ) → KeepsDurable file → Holds k root file.durable → IsImage file image → Shows root file.durable image
durable_shows k root file image keeps holds is =
    let torn = torn_nothing file image keeps is in
    holds_shows k root file.durable image (holds_whole k root file.durable image holds torn) torn.long (rest_kept 0 0 file.durable image torn (omega arith))

-- The gate is shut.
module _ (gate : GateFile) (made : 0 < gate.length) where
  pub shut_before : (file : File) (image : List ℕ) → Keeps gate file → IsImage file image → Shows gate.root file.durable image
  shut_before file image keeps is = durable_shows gate.commits gate.root file image keeps.durable (keeps_holds gate file made keeps) is

  pub shut_already : gate.next_is_open ≡ false → (file : File) → Keeps gate file → IsReady gate file × Continues file file
  shut_already closed file keeps = (
    record {
      size = keeps.size;
      holds = keeps_holds gate file made keeps;
      closed = λ is. (let opened : gate.next_is_open ≡ true = keeps.next_open.1 is in let clash : ⊥ = cc in clash);
      durable = keeps.durable;
    },
    continues_same file,
  )

  pub shut_images : gate.next_is_open ≡ true → (at : ℕ) → at ≡ place_of (gate.commits + 1) + 64 → (file : File) (image : List ℕ) → Keeps gate file → IsImage (wrote at (0 ∷ []) file) image → Shows gate.root file.durable image
  shut_images opened at is file image keeps left =
      let torn : Torn (next_place gate.commits + 64) 1 file.durable image = subst (λ a. Torn a 1 file.durable image) is (torn_write at (0 ∷ []) file image keeps.durable left) in
      let holds = holds_torn gate.commits gate.root file.durable image (keeps_holds gate file made keeps) torn (keeps.next_open.0 opened) in
      holds_shows gate.commits gate.root file.durable image holds torn.long (rest_kept (next_place gate.commits + 64) 1 file.durable image torn (omega (arith, place_below (gate.commits + 1))))

  pub shut_ends : (at : ℕ) → at ≡ place_of (gate.commits + 1) + 64 → (file now : File) → Keeps gate file → now ≡ synced (wrote at (0 ∷ []) file) → IsReady gate now × Continues file now
  shut_ends at is file now keeps done = subst (λ f. IsReady gate f × Continues file f) (sym done) (ready, continues)
    where
      low : at + 1 ≤ 8192
      low = omega (arith, is, place_below (gate.commits + 1))

      fits : at + 1 ≤ length file.seen
      fits = omega (arith, low, keeps.made made, keeps.durable.long)

      bytes_torn : Torn at 1 file.durable (splice file.seen at (0 ∷ []))
      bytes_torn = torn_splice at (0 ∷ []) file fits keeps.durable

      torn : Torn (next_place gate.commits + 64) 1 file.durable (splice file.seen at (0 ∷ []))
      torn = subst (λ a. Torn a 1 file.durable (splice file.seen at (0 ∷ []))) is bytes_torn

      shut : get_or (splice file.seen at (0 ∷ [])) (next_place gate.commits + 64) 0 ≡ 0
      shut = splice_inside file.seen at (0 ∷ []) fits (next_place gate.commits + 64) 0 (omega (arith, is)) (omega arith)

      continues : Continues file (settled (splice file.seen at (0 ∷ [])))
      continues = continues_put at (0 ∷ []) file low (keeps.made made) keeps.durable

      ready : IsReady gate (settled (splice file.seen at (0 ∷ [])))
      ready = record {
        size = length-splice file.seen at (0 ∷ []) fits ∙ keeps.size;
        holds = holds_shut gate.commits gate.root file.durable (splice file.seen at (0 ∷ [])) (keeps_holds gate file made keeps) torn shut;
        closed = shut_closed gate.commits gate.root file.durable (splice file.seen at (0 ∷ [])) (keeps_holds gate file made keeps) shut;
        durable = settled_keeps (splice file.seen at (0 ∷ []));
      }

-- The header is written.
module _ (gate : GateFile) (root : Root) (at : ℕ) (is : at ≡ place_of (gate.commits + 1)) (piece : List ℕ) (piece_is : piece ≡ header root) where
  piece_long : length piece ≡ 32
  piece_long = ap length piece_is

  pub stage_images : (file : File) (image : List ℕ) → IsReady gate file → IsImage (wrote at piece file) image → Shows gate.root file.durable image
  stage_images file image ready left =
      let torn_at : Torn at 32 file.durable image = subst (λ n. Torn at n file.durable image) piece_long (torn_write at piece file image ready.durable left) in
      let torn : Torn (next_place gate.commits) 32 file.durable image = subst (λ a. Torn a 32 file.durable image) is torn_at in
      let holds = holds_staged gate.commits gate.root file.durable image ready.holds torn ready.closed in
      holds_shows gate.commits gate.root file.durable image holds torn.long (rest_kept (next_place gate.commits) 32 file.durable image torn (omega (arith, place_below (gate.commits + 1))))

  pub stage_ends : (file now : File) → IsReady gate file → now ≡ synced (wrote at piece file) → IsStaged gate root now × Continues file now
  stage_ends file now ready done = subst (λ f. IsStaged gate root f × Continues file f) (sym done) (staged, continues)
    where
      low : at + length piece ≤ 8192
      low = omega (arith, is, piece_long, place_below (gate.commits + 1))

      fits : at + length piece ≤ length file.seen
      fits = omega (arith, low, ready.holds.made, ready.durable.long)

      torn_at : Torn at 32 file.durable (splice file.seen at piece)
      torn_at = subst (λ n. Torn at n file.durable (splice file.seen at piece)) piece_long (torn_splice at piece file fits ready.durable)

      torn : Torn (next_place gate.commits) 32 file.durable (splice file.seen at piece)
      torn = subst (λ a. Torn a 32 file.durable (splice file.seen at piece)) is torn_at

      continues : Continues file (settled (splice file.seen at piece))
      continues = continues_put at piece file low ready.holds.made ready.durable

      has : HasHeader root (slot_at (splice file.seen at piece) (next_place gate.commits))
      has = record {
        long = length-window (splice file.seen at piece) (next_place gate.commits) 65;
        each = λ i below.
            get_or-window (splice file.seen at piece) (next_place gate.commits) 65 i (omega arith)
            ∙ splice_inside file.seen at piece fits (next_place gate.commits + i) i (omega (arith, is)) (omega (arith, piece_long))
            ∙ ap (λ l. get_or l i 0) piece_is;
      }

      staged : IsStaged gate root (settled (splice file.seen at piece))
      staged = record {
        size = length-splice file.seen at piece fits ∙ ready.size;
        settled_now = refl;
        holds = holds_staged gate.commits gate.root file.durable (splice file.seen at piece) ready.holds torn ready.closed;
        has = has;
      }

-- The gate is opened.
module _ (gate : GateFile) (root : Root) (next : IsNext gate root) (small : IsSmall root) (known : IfSome gate.root (λ r. r.number ≡ gate.commits)) (at : ℕ) (is : at ≡ place_of (gate.commits + 1) + 64) where
  abbrev pub OldOrNew : File → List ℕ → Type 0
  OldOrNew file image = Shows gate.root file.durable image ⊎ Shows (Some root) file.seen image

  low : at + 1 ≤ 8192
  low = omega (arith, is, place_below (gate.commits + 1))

  module _ (bytes image : List ℕ) (size : length bytes ≡ gate.length) (holds : Holds gate.commits gate.root bytes) (has : HasHeader root (slot_at bytes (next_place gate.commits))) (torn_at : Torn at 1 bytes image) where
    torn : Torn (next_place gate.commits + 64) 1 bytes image
    torn = subst (λ a. Torn a 1 bytes image) is torn_at

    most : gate.commits + 1 ≤ 2 ^ 50
    most = omega (arith, next.number, next.most)

    rest : (place : ℕ) → 8192 ≤ place → place < length bytes → get_or image place 0 ≡ get_or bytes place 0
    rest = rest_kept at 1 bytes image torn_at low

    opened_holds : IsOpen (slot_at image (next_place gate.commits)) → Holds (gate.commits + 1) (Some root) image
    opened_holds opened = holds_opened gate.commits gate.root root bytes image holds has torn small next.number most next.behind (omega (arith, next.within, size)) known opened

    opened_shows : IsOpen (slot_at image (next_place gate.commits)) → Shows (Some root) bytes image
    opened_shows opened = holds_shows (gate.commits + 1) (Some root) bytes image (opened_holds opened) torn.long rest

    gate_read : get_or (slot_at image (next_place gate.commits)) 64 0 ≡ get_or image (next_place gate.commits + 64) 0
    gate_read = get_or-window image (next_place gate.commits) 65 64 (omega arith)

    either : Shows gate.root bytes image ⊎ Shows (Some root) bytes image
    either = elim (cases_eq (get_or (slot_at image (next_place gate.commits)) 64 0) 1) [
      | inl opened ↦ inr (opened_shows opened)
      | inr shut ↦ inl (holds_shows gate.commits gate.root bytes image (holds_closed gate.commits gate.root bytes image holds (next_place gate.commits + 64) 1 torn (omega arith) (omega arith) shut) torn.long rest)
    ]

  pub publish_images : (file : File) (image : List ℕ) → IsStaged gate root file → IsImage (wrote at (1 ∷ []) file) image → Shows gate.root file.durable image ⊎ Shows (Some root) file.seen image
  publish_images file image staged left =
      let bytes = file.seen in
      let is_settled : file ≡ settled bytes = staged.settled_now in
      let durable : file.durable ≡ bytes = ap (λ (f : File). f.durable) is_settled in
      let keeps : KeepsDurable file = subst KeepsDurable (sym is_settled) (settled_keeps bytes) in
      let torn_at : Torn at 1 bytes image = subst (λ b. Torn at 1 b image) durable (torn_write at (1 ∷ []) file image keeps left) in
      subst (λ b. Shows gate.root b image ⊎ Shows (Some root) bytes image) (sym durable) (either bytes image staged.size staged.holds staged.has torn_at)

  pub publish_ends : (file now : File) → IsStaged gate root file → now ≡ synced (wrote at (1 ∷ []) file) → IsCommitted (committed gate root) file now
  publish_ends file now staged done = subst (IsCommitted (committed gate root) file) (sym done) (record {
    settled_now = refl;
    size = length-splice file.seen at (1 ∷ []) fits;
    shows = shows;
    keeps = keeps;
  })
    where
      fits : at + 1 ≤ length file.seen
      fits = omega (arith, low, staged.holds.made)

      torn_at : Torn at 1 file.seen (splice file.seen at (1 ∷ []))
      torn_at = seen_splice at (1 ∷ []) file.seen fits

      opened : IsOpen (slot_at (splice file.seen at (1 ∷ [])) (next_place gate.commits))
      opened = gate_read file.seen (splice file.seen at (1 ∷ [])) staged.size staged.holds staged.has torn_at
          ∙ splice_inside file.seen at (1 ∷ []) fits (next_place gate.commits + 64) 0 (omega (arith, is)) (omega arith)

      holds : Holds (gate.commits + 1) (Some root) (splice file.seen at (1 ∷ []))
      holds = opened_holds file.seen (splice file.seen at (1 ∷ [])) staged.size staged.holds staged.has torn_at opened

      shows : Shows (Some root) file.seen (splice file.seen at (1 ∷ []))
      shows = opened_shows file.seen (splice file.seen at (1 ∷ [])) staged.size staged.holds staged.has torn_at opened

      size : length (splice file.seen at (1 ∷ [])) ≡ gate.length
      size = length-splice file.seen at (1 ∷ []) fits ∙ staged.size

      number : gate.commits + 1 ≡ root.number
      number = sym next.number

      before : IsTrue (is_some gate.root) ↔ IsOpen (slot_at (splice file.seen at (1 ∷ [])) (place_of (gate.commits + 1 + 1)))
      before = before_opened gate.commits gate.root root file.seen (splice file.seen at (1 ∷ [])) staged.holds staged.has
          (torn file.seen (splice file.seen at (1 ∷ [])) staged.size staged.holds staged.has torn_at) small next.number (omega (arith, next.number, next.most)) next.behind (omega (arith, next.within, staged.size)) known

      moved : Holds root.number (Some root) (splice file.seen at (1 ∷ []))
      moved = subst (λ k. Holds k (Some root) (splice file.seen at (1 ∷ []))) number holds

      keeps : Keeps (committed gate root) (settled (splice file.seen at (1 ∷ [])))
      keeps = record {
        size = size;
        new = λ none. absurd (omega (arith, size, staged.holds.made, torn_at.long));
        made = λ some. moved.made;
        durable = settled_keeps (splice file.seen at (1 ∷ []));
        last = moved.last;
        counted = refl;
        next = moved.next;
        next_open = subst (λ k. IsTrue (is_some gate.root) ↔ IsOpen (slot_at (splice file.seen at (1 ∷ [])) (place_of (k + 1)))) number before;
        low = shows.low;
        high = shows.high;
      }

-- what is left of the old root or the new one later is left of it before
pub either_before : (root : Option Root) (new : Root) (old now : File) (image : List ℕ) → Continues old now → Shows root now.durable image ⊎ Shows (Some new) now.seen image → Shows root old.durable image ⊎ Shows (Some new) old.seen image
either_before root new old now image continues (inl before) = inl (shows_before old now image continues before)
either_before root new old now image continues (inr after) = inr (shows_seen old now image continues after)

pub committed_before : (gate : GateFile) (old mid now : File) → Continues old mid → IsCommitted gate mid now → IsCommitted gate old now
committed_before gate old mid now continues done = record {
  settled_now = done.settled_now;
  size = done.size ∙ continues.size;
  shows = shows_seen old mid now.seen continues done.shows;
  keeps = done.keeps;
}
