-- One file while bytes are appended.
use Rattle.std.proofs.Common.{◌≡◌, ◌⊎◌, inl, inr, ℕ, ◌+◌, ◌<◌, ◌≤◌, List, [], ◌∷◌, ◌++◌, length, get_or, drop, replicate, Option, None, refl, sym, ap, ◌∙◌, subst, arith, length-append, append-nil}
use Rattle.std.proofs.lemmas.Bool.{cases_lt, cases_eq}
use Rattle.std.proofs.lemmas.List.{length-replicate, get_or-replicate, get_or_past, get_or_append_left, take_at, drop_all}
use Rattle.view_ports.specs.File.{File, IsIn, IsOneOf, IsImage, settled, grew, synced}
use Rattle.gate_file.specs.declared.root.Root.{Root}
use Rattle.gate_file.specs.declared.gate.GateFile.{GateFile}
use Rattle.gate_file.specs.Header.{place_of, slot_at, IsOpen, open_root}
use Rattle.gate_file.specs.Shown.{HasAll, Shows, KeepsDurable, IsFront}
use Rattle.gate_file.specs.GateFile.{IsOlder, Keeps, start_of, appended, IsAppended}
use Rattle.gate_file.specs.Append.{IsZeros, IsGrown, IsMade}
use Rattle.gate_file.specs.Commit.{Holds}
use Rattle.gate_file.proofs.Stepped.{ungrown}
use Rattle.gate_file.proofs.Cuts.{adding}
use Rattle.gate_file.proofs.Windows.{get_or-window}
use Rattle.gate_file.proofs.SlotFacts.{open_root-closed, IsFit-closed, shows_at}
use Rattle.gate_file.proofs.FileFacts.{settled_keeps}
use Rattle.gate_file.proofs.CommitSteps.{keeps_holds, durable_shows}

-- A file that is made.
zero_image : (size : ℕ) (image : List ℕ) → IsImage (grew size (settled [])) image → IsZeros image
zero_image size image is place = elim (cases_lt place (length image)) [
  | inl within ↦ at_place (is.kept place within (λ never. never))
  | inr past ↦ get_or_past image place 0 past
]
  where
    at_place : (get_or image place 0 ≡ 0) ⊎ (IsIn ((0, size) ∷ []) place × (get_or image place 0 ≡ 0)) → get_or image place 0 ≡ 0
    at_place (inl same) = same
    at_place (inr added) = added.1

pub grown_images : (size : ℕ) (file : File) (image : List ℕ) → file ≡ settled [] → IsImage (grew size file) image → IsZeros image
grown_images size file image new is = zero_image size image (subst (λ f. IsImage (grew size f) image) new is)

pub grown_ends : (size : ℕ) (file now : File) → file ≡ settled [] → now ≡ synced (grew size file) → IsGrown size now
grown_ends size file now new done = subst (IsGrown size) (sym (done ∙ ap (λ f. synced (grew size f)) new)) (record {
  settled_now = refl;
  long = length-replicate {A = ℕ} size 0;
  zeros = zeros;
})
  where
    zeros : IsZeros (replicate size 0)
    zeros place = elim (cases_lt place size) [
      | inl within ↦ get_or-replicate size place 0 0 within
      | inr past ↦ get_or_past (replicate size 0) place 0 (omega (arith, length-replicate {A = ℕ} size 0))
    ]

-- all gates of zero bytes are closed
zeros_closed : (bytes : List ℕ) (at : ℕ) → IsZeros bytes → IsOpen (slot_at bytes at) → ⊥
zeros_closed bytes at zeros opened = omega (arith, get_or-window bytes at 65 64 (omega arith), zeros (at + 64), opened)

zeros_none : (bytes : List ℕ) (at : ℕ) → IsZeros bytes → open_root (slot_at bytes at) ≡ None
zeros_none bytes at zeros = open_root-closed (slot_at bytes at) (zeros_closed bytes at zeros)

nothing_zeros : IsZeros []
nothing_zeros place = refl

module _ (gate : GateFile) (file : File) (keeps : Keeps gate file) where
  module _ (none : gate.length ≡ 0) where
    new : file ≡ settled []
    new = keeps.new none

    durable : file.durable ≡ []
    durable = ap (λ (f : File). f.durable) new

    closed : (at : ℕ) → IsOpen (slot_at file.durable at) → ⊥
    closed at opened = zeros_closed [] at nothing_zeros (subst (λ b. IsOpen (slot_at b at)) durable opened)

    -- a new file has no root
    rootless : None ≡ gate.root
    rootless = sym (open_root-closed (slot_at file.durable (place_of gate.commits)) (closed (place_of gate.commits))) ∙ keeps.last

    pub zeros_shows : (image : List ℕ) → IsZeros image → Shows gate.root file.durable image
    zeros_shows image zeros = subst (λ b. Shows gate.root b image) (sym durable)
        (shows_at gate.commits gate.root [] image
        (zeros_none image (place_of gate.commits) zeros ∙ rootless)
        (subst (λ r. IsOlder r gate.root) (sym (zeros_none image (place_of (gate.commits + 1)) zeros)) tt)
        (IsFit-closed (place_of gate.commits) image (zeros_closed image (place_of gate.commits) zeros))
        (IsFit-closed (place_of (gate.commits + 1)) image (zeros_closed image (place_of (gate.commits + 1)) zeros))
        (omega arith)
        (λ place behind within. absurd (omega arith)))

    start : start_of gate ≡ 8192
    start = omega arith

    pub made_new : (now : File) → IsGrown 8192 now → IsMade gate file now
    made_new now grown =
        let is_settled = grown.settled_now in
        let durable_now : now.durable ≡ now.seen = ap (λ (f : File). f.durable) is_settled in
        let zeros : IsZeros now.durable = subst IsZeros (sym durable_now) grown.zeros in
        let long : length now.durable ≡ 8192 = ap length durable_now ∙ grown.long in
        let seen : file.seen ≡ [] = ap (λ (f : File). f.seen) new in
        record {
          front = subst (λ b. IsFront b now.seen) (sym seen) (record { long = grown.long; zero_there = grown.zeros });
          shows = zeros_shows now.durable zeros;
          keeps = record {
            size = grown.long ∙ sym start;
            new = λ never. absurd (omega (arith, start));
            made = λ some. omega (arith, long);
            durable = subst KeepsDurable (sym is_settled) (settled_keeps now.seen);
            last = zeros_none now.durable (place_of gate.commits) zeros ∙ rootless;
            counted = keeps.counted;
            next = subst (λ r. IsOlder r gate.root) (sym (zeros_none now.durable (place_of (gate.commits + 1)) zeros)) tt;
            next_open = (
              λ yes_open. absurd (closed (place_of (gate.commits + 1)) (keeps.next_open.0 yes_open)),
              λ opened. absurd (zeros_closed now.durable (place_of (gate.commits + 1)) zeros opened),
            );
            low = IsFit-closed 0 now.durable (zeros_closed now.durable 0 zeros);
            high = IsFit-closed 4096 now.durable (zeros_closed now.durable 4096 zeros);
          };
        }

  module _ (some : 0 < gate.length) where
    start_there : start_of gate ≡ gate.length
    start_there = omega (arith, keeps.made some, keeps.durable.long, keeps.size)

    front_same : (bytes : List ℕ) → 0 < length bytes → IsFront bytes bytes
    front_same [] more = absurd (omega arith)
    front_same (b ∷ bs) more = refl

    -- the file is there already
    pub made_already : IsMade gate file file
    made_already = record {
      front = front_same file.seen (omega (arith, keeps.size));
      shows = shows_at gate.commits gate.root file.durable file.durable
          (keeps_holds gate file some keeps).last (keeps_holds gate file some keeps).next (keeps_holds gate file some keeps).fit (keeps_holds gate file some keeps).fit_next
          (omega arith) (λ place behind within. refl);
      keeps = record {
        size = keeps.size ∙ sym start_there;
        new = λ never. absurd (omega (arith, start_there));
        made = λ more. keeps.made some;
        durable = keeps.durable;
        last = keeps.last;
        counted = keeps.counted;
        next = keeps.next;
        next_open = keeps.next_open;
        low = keeps.low;
        high = keeps.high;
      };
    }

    pub there_shows : (image : List ℕ) → IsImage file image → Shows gate.root file.durable image
    there_shows image is = durable_shows gate.commits gate.root file image keeps.durable (keeps_holds gate file some keeps) is

pub has_all_then : (a b c : List ℕ) → HasAll a b → HasAll b c → HasAll a c
has_all_then a b c first second = record {
  long = omega (arith, first.long, second.long);
  rest = λ place behind within. second.rest place behind (omega (arith, first.long)) ∙ first.rest place behind within;
}

-- what is shown of the bytes that are shown
pub shows_then : (root : Option Root) (a b c : List ℕ) → Shows root a b → Shows root b c → Shows root a c
shows_then root a b c first second = record {
  names = second.names;
  low = second.low;
  high = second.high;
  has = has_all_then a b c first.has second.has;
}

-- Bytes are added to a file that is made.
module _ (gate : GateFile) (at : ℕ) (at_is : at ≡ start_of gate) (bytes : List ℕ) where
  start_some : 0 < start_of gate
  start_some = omega arith

  module _ (file mid : File) (made : IsMade gate file mid) where
    end_is : at ≡ length mid.seen
    end_is = at_is ∙ sym made.keeps.size

    holds : Holds gate.commits gate.root mid.durable
    holds = keeps_holds (record gate { length = start_of gate }) mid start_some made.keeps

    -- what is seen then
    pub added_seen : (adding at bytes mid).seen ≡ mid.seen ++ bytes
    added_seen =
        let zeros = replicate (length bytes) 0 in
        let long : length (mid.seen ++ zeros) ≡ at + length bytes = omega (arith, length-append mid.seen zeros, length-replicate {A = ℕ} (length bytes) 0, end_is) in
        ap (λ (front : List ℕ). front ++ bytes ++ drop (at + length bytes) (mid.seen ++ zeros)) (take_at mid.seen zeros at (sym end_is))
        ∙ ap (λ (rest : List ℕ). mid.seen ++ bytes ++ rest) (drop_all (at + length bytes) (mid.seen ++ zeros) (omega (arith, long)))
        ∙ append-nil (mid.seen ++ bytes)

    added_keeps : KeepsDurable (adding at bytes mid)
    added_keeps = record {
      behind = record { lengths = lengths; written = written; added = added };
      long = omega (arith, ap length added_seen, length-append mid.seen bytes, made.keeps.durable.long);
      same = λ place within. ap (λ (l : List ℕ). get_or l place 0) added_seen ∙ get_or_append_left mid.seen bytes 0 place (omega (arith, made.keeps.durable.long)) ∙ made.keeps.durable.same place within;
    }
      where
        lengths : (size : ℕ) → IsOneOf ((length mid.seen + length bytes) ∷ mid.lengths) size → length mid.durable ≤ size
        lengths size (inl here) = omega (arith, made.keeps.durable.long)
        lengths size (inr there) = made.keeps.durable.behind.lengths size there

        written : (place : ℕ) → IsIn ((at, length bytes) ∷ mid.written) place → length mid.durable ≤ place
        written place (inl here) = omega (arith, made.keeps.durable.long, end_is, here.0)
        written place (inr there) = made.keeps.durable.behind.written place there

        added : (place : ℕ) → IsIn ((length mid.seen, length bytes) ∷ mid.added) place → length mid.durable ≤ place
        added place (inl here) = omega (arith, made.keeps.durable.long, here.0)
        added place (inr there) = made.keeps.durable.behind.added place there

    pub append_images : (image : List ℕ) → IsImage (adding at bytes mid) image → Shows gate.root file.durable image
    append_images image is =
        shows_then gate.root file.durable mid.durable image made.shows (durable_shows gate.commits gate.root (adding at bytes mid) image added_keeps holds is)

    pub append_ends : (now : File) → now ≡ adding at bytes mid → IsAppended (appended gate (length bytes)) bytes file now
    append_ends now done = subst (IsAppended (appended gate (length bytes)) bytes file) (sym done) (record {
      front = mid.seen;
      made = made.front;
      seen = added_seen;
      durable = made.shows;
      keeps = record {
        size = ap length added_seen ∙ length-append mid.seen bytes ∙ ap (λ n. n + length bytes) made.keeps.size;
        new = λ never. absurd (omega (arith, start_some));
        made = λ more. made.keeps.made start_some;
        durable = added_keeps;
        last = made.keeps.last;
        counted = made.keeps.counted;
        next = made.keeps.next;
        next_open = made.keeps.next_open;
        low = made.keeps.low;
        high = made.keeps.high;
      };
    })

-- what a crash leaves while nothing is done
pub still_shows : (gate : GateFile) (file : File) → Keeps gate file → (image : List ℕ) → IsImage file image → Shows gate.root file.durable image
still_shows gate file keeps image is = elim (cases_eq gate.length 0) [
  | inl none ↦ zeros_shows gate file keeps none image (grown_images 0 file image (keeps.new none) (ungrown 0 file image is))
  | inr some ↦ there_shows gate file keeps (omega arith) image is
]
