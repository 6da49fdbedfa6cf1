-- The moments of a disk by the log that made it, and what a crash within a call finds.
use Rattle.std.proofs.Common.{◌≡◌, inl, inr, ℕ, ◌+◌, ◌<◌, ◌≤◌, List, [], ◌∷◌, ◌++◌, zero, suc, true, false, length, get_or, take, refl, sym, ap, ◌∙◌, subst, arith}
use Rattle.std.proofs.lemmas.Bool.{cases_Bool, cond-true, cond-false, cond_below, cond_above}
use Rattle.std.proofs.lemmas.List.{take_more}
use Rattle.view_ports.specs.declared.file_name.FileName.{FileName}
use Rattle.view_ports.specs.File.{File}
use Rattle.view_ports.specs.Disk.{Disk}
use Rattle.crash_disk.specs.declared.did.Change.{Change}
use Rattle.crash_disk.specs.declared.did.Change.TheVariants.{Wrote, Grew, Emptied, Synced}
use Rattle.crash_disk.specs.declared.did.Did.{Did}
use Rattle.crash_disk.specs.declared.did.Did.TheVariants.{Passed, Changed}
use Rattle.crash_disk.specs.Names.{is_same}
use Rattle.crash_disk.specs.Chosen.{IsChosen, IsOverwritten, IsSound}
use Rattle.crash_disk.specs.Moments.{stepped, after, noted, disk_after, disk_at, AllFit}
use Rattle.crash_disk.specs.Torn.{moment, moment_of, written_within, IsTorn}
use Rattle.crash_disk.specs.Within.{is_sync, within, files_before}
use Rattle.crash_disk.proofs.Logs.{disk_push}
use Rattle.crash_disk.proofs.Overwriting.{overwritten_after, overwritten_before}
use Rattle.crash_disk.proofs.Sound.{call_sound, fit_at, fit_take, log_sound}

abbrev Files : Type 0
Files = FileName → File

pub clock_after : (disk : Disk FileName) (log : List Did) → length (disk_after disk log).past ≡ length disk.past + length log
clock_after disk [] = omega arith
clock_after disk (did ∷ log) = omega (arith, clock_after (noted did disk) log)

moment_now : (now : Files) (past : List Files) → moment_of now past (length past) ≡ now
moment_now now [] = refl
moment_now now (before ∷ past) = sym (cond_below (length past) (length (before ∷ past)) now (moment_of before past (length (before ∷ past))) (omega arith))

-- a moment stays as it was
moment_stays : (disk : Disk FileName) (log : List Did) (k : ℕ) → k ≤ length disk.past → moment (disk_after disk log) k ≡ moment disk k
moment_stays disk [] k past = refl
moment_stays disk (did ∷ log) k past =
    moment_stays (noted did disk) log k (omega arith) ∙ sym (cond_above (length disk.past) k (after did disk.now) (moment disk k) (moment disk k) past refl)

-- the moment after so many calls of the log
moment_at : (disk : Disk FileName) (log : List Did) (j k : ℕ) → k ≡ length disk.past + j → j ≤ length log → moment (disk_after disk log) k ≡ (disk_after disk (take j log)).now
moment_at disk log zero k is within = moment_stays disk log k (omega arith) ∙ ap (moment disk) (let same : k ≡ length disk.past = omega arith in same) ∙ moment_now disk.now disk.past
moment_at disk [] (suc j) k is within = absurd (omega arith)
moment_at disk (did ∷ log) (suc j) k is within = moment_at (noted did disk) log j k (omega arith) (omega arith)

pub moment_before : (bytes : FileName → List ℕ) (log : List Did) (call : ℕ) → call ≤ length log → moment (disk_after (disk_at bytes) log) call ≡ files_before (disk_at bytes) log call
moment_before bytes log call within = moment_at (disk_at bytes) log call call (omega arith) within

-- one call further
pub before_next : (disk : Disk FileName) (log : List Did) (i : ℕ) (d : Did) → i < length log → (disk_after disk (take (i + 1) log)).now ≡ after (get_or log i d) (disk_after disk (take i log)).now
before_next disk log i d below =
    ap (λ dids. (disk_after disk dids).now) (take_more log i d below) ∙ ap (λ (e : Disk FileName). e.now) (disk_push disk (take i log) (get_or log i d))

pub within_sound : (disk : Disk FileName) (log : List Did) (call : ℕ) (d : Did) → AllFit disk.now log → ((name : FileName) → IsSound (disk.now name)) → call < length log
    → (name : FileName) → IsSound (within (get_or log call d) (files_before disk log call) name)
within_sound disk log call d fit sound below name =
    let before : (n : FileName) → IsSound (files_before disk log call n) = log_sound disk (take call log) (fit_take disk.now log call fit) sound in
    elim (cases_Bool (is_sync (get_or log call d))) [
      | inl is ↦ subst IsSound (sym (cond-true (is_sync (get_or log call d)) (files_before disk log call name) (after (get_or log call d) (files_before disk log call) name) is)) (before name)
      | inr not ↦
          subst IsSound (sym (cond-false (is_sync (get_or log call d)) (files_before disk log call name) (after (get_or log call d) (files_before disk log call) name) not))
          (call_sound (get_or log call d) (files_before disk log call) (fit_at disk log call d fit below) before name)
    ]

durable_kept : (change : Change) (at : FileName) (file : File) → is_sync (Changed at change) ≡ false → (stepped change file).durable ≡ file.durable
durable_kept (Wrote place bytes) at file not = refl
durable_kept (Grew by) at file not = refl
durable_kept Emptied at file not = refl
durable_kept Synced at file not = let never : ⊥ = cc in absurd never

-- a call that is no sync keeps what was synced
pub after_durable : (did : Did) (files : Files) (name : FileName) → is_sync did ≡ false → (after did files name).durable ≡ (files name).durable
after_durable Passed files name not = refl
after_durable (Changed at change) files name not =
    elim (cases_Bool (is_same at name)) [
      | inl is ↦ ap (λ (f : File). f.durable) (cond-true (is_same at name) (stepped change (files name)) (files name) is) ∙ durable_kept change at (files name) not
      | inr other ↦ ap (λ (f : File). f.durable) (cond-false (is_same at name) (stepped change (files name)) (files name) other)
    ]

seen_kept : (change : Change) (at : FileName) (file : File) → is_sync (Changed at change) ≡ true → (stepped change file).seen ≡ file.seen
seen_kept (Wrote place bytes) at file is = let never : ⊥ = cc in absurd never
seen_kept (Grew by) at file is = let never : ⊥ = cc in absurd never
seen_kept Emptied at file is = let never : ⊥ = cc in absurd never
seen_kept Synced at file is = refl

-- a sync changes nothing that is read
pub after_seen : (did : Did) (files : Files) (name : FileName) → is_sync did ≡ true → (after did files name).seen ≡ (files name).seen
after_seen Passed files name is = refl
after_seen (Changed at change) files name is =
    elim (cases_Bool (is_same at name)) [
      | inl same ↦ ap (λ (f : File). f.seen) (cond-true (is_same at name) (stepped change (files name)) (files name) same) ∙ seen_kept change at (files name) is
      | inr other ↦ ap (λ (f : File). f.seen) (cond-false (is_same at name) (stepped change (files name)) (files name) other)
    ]

abbrev written_of : Files → Files → FileName → List (ℕ × ℕ)
written_of before behind name = (before name).written ++ (behind name).written

-- the same of the moments that these files are
shown_of : (disk : Disk FileName) (call : ℕ) (behind before : Files) (image : FileName → List ℕ) → moment disk call ≡ before → moment disk (call + 1) ≡ behind → (name : FileName)
    → IsOverwritten (written_of before behind name) (behind name).seen (image name) → IsOverwritten (written_within disk call name) (moment disk (call + 1) name).seen (image name)
shown_of disk call behind before image first second name is =
    subst (λ (fs : Files). IsOverwritten (written_of fs (moment disk (call + 1)) name) (moment disk (call + 1) name).seen (image name)) (sym first)
    (subst (λ (fs : Files). IsOverwritten (written_of before fs name) (fs name).seen (image name)) (sym second) is)

-- what is chosen of the files within a call is what a crash within it may leave
torn_of : (disk : Disk FileName) (call choice : ℕ) (did : Did) (files : Files) (image : FileName → List ℕ)
    → moment disk call ≡ files → moment disk (call + 1) ≡ after did files → ((name : FileName) → IsChosen choice (within did files name) (image name)) → IsTorn disk call choice image
torn_of disk call choice did files image before behind chosen =
    let shown = shown_of disk call (after did files) files image in
    elim (cases_Bool (is_sync did)) [
      | inl is ↦
          let here : (name : FileName) → IsChosen choice (moment disk call name) (image name) =
          λ name. subst (λ file. IsChosen choice file (image name)) (cond-true (is_sync did) (files name) (after did files name) is ∙ ap (λ (fs : Files). fs name) (sym before)) (chosen name) in
          record {
            stays = inl (λ name. (here name).stays);
            synced_alone = λ zero name. (here name).synced_alone zero;
            all = λ one name. (here name).all one ∙ ap (λ (fs : Files). (fs name).seen) before ∙ sym (after_seen did files name is) ∙ ap (λ (fs : Files). (fs name).seen) (sym behind);
            overwritten = λ two name. shown before behind name
                (subst (λ (bytes : List ℕ). IsOverwritten (written_of files (after did files) name) bytes (image name)) (sym (after_seen did files name is))
                (overwritten_before did files name (files name).seen (image name) is (subst (λ (fs : Files). IsOverwritten (fs name).written (fs name).seen (image name)) before ((here name).overwritten two))));
          }
      | inr not ↦
          let there : (name : FileName) → IsChosen choice (moment disk (call + 1) name) (image name) =
          λ name. subst (λ file. IsChosen choice file (image name)) (cond-false (is_sync did) (files name) (after did files name) not ∙ ap (λ (fs : Files). fs name) (sym behind)) (chosen name) in
          record {
            stays = inr (λ name. (there name).stays);
            synced_alone = λ zero name. (there name).synced_alone zero ∙ ap (λ (fs : Files). (fs name).durable) behind ∙ after_durable did files name not ∙ ap (λ (fs : Files). (fs name).durable) (sym before);
            all = λ one name. (there name).all one;
            overwritten = λ two name. shown before behind name
                (overwritten_after did files name (after did files name).seen (image name) not (subst (λ (fs : Files). IsOverwritten (fs name).written (fs name).seen (image name)) behind ((there name).overwritten two)));
          }
    ]

pub torn : (bytes : FileName → List ℕ) (log : List Did) (call choice : ℕ) (d : Did) (image : FileName → List ℕ) → call < length log
    → ((name : FileName) → IsChosen choice (within (get_or log call d) (files_before (disk_at bytes) log call) name) (image name))
    → IsTorn (disk_after (disk_at bytes) log) call choice image
torn bytes log call choice d image below chosen =
    torn_of (disk_after (disk_at bytes) log) call choice (get_or log call d) (files_before (disk_at bytes) log call) image
    (moment_before bytes log call (omega arith))
    (moment_before bytes log (call + 1) (omega arith) ∙ before_next (disk_at bytes) log call d below)
    chosen
