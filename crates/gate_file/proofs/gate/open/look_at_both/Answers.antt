use Rattle.std.proofs.Common.{◌≡◌, ℕ, All, Err, OnOk, subst, rules}
use Rattle.std.specs.Prelude.{true, false}
use Rattle.view_ports.specs.File.{IsImage, settled}
use Rattle.view_ports.specs.Disk.{Moves, MovesFile, SeenStays}
use Rattle.view_ports.specs.declared.file_name.FileName.{FileName}
use Rattle.view_ports.proofs.Told.{told_map, told_then, told_given, told_back, told_now, told_pair}
use Rattle.view_ports.proofs.DiskRuns.{file_weaker, on_ok}
use Rattle.gate_file.specs.declared.fault.GateFault.TheVariants.{Damaged}
use Rattle.gate_file.specs.Header.{IsFit}
use Rattle.gate_file.specs.Open.{found, side_of, BeforeOpening, IsFirstDamage, IsFirstIn, IsFitSlot, IsPair, IsSettledPair, slots_of}
use Rattle.gate_file.proofs.Stepped.{ended_err}
use Rattle.gate_file.proofs.Pairs.{apart, looked_first, looked_second, settled_both, damage_first, damage_second, all_sound}
use Rattle.gate_file.proofs.gate.open.look_at_both.Goals as goal

pub returns-in_err-first-clause-damaged : goal.returns-in_err-first-clause-damaged
returns-in_err-first-clause-damaged g c =
    let stem = c.args.stem in
    let low = side_of stem false in
    let high = side_of stem true in
    told_now (g.F.Folder.disk c.args.folder.now) (λ d. (n : FileName) (at : ℕ) → c.look.result ≡ Err (Damaged n at) → (n ≡ low) × IsFirstIn (d.now low).seen at)
    (λ d. (n : FileName) (at : ℕ) → c.from_residual.result ≡ Err (Damaged n at) → IsFirstDamage stem d.now n at)
    (λ d known n at same.
    let was : c.look.result ≡ Err (Damaged n at) = search rules in
    let is = known n at was in
    damage_first stem d.now n at is.0 is.1)
    c.look.ensures.damaged

pub returns-in_err-first-clause-disk : goal.returns-in_err-first-clause-disk
returns-in_err-first-clause-disk g c =
    let stem = c.args.stem in
    let low = side_of stem false in
    let high = side_of stem true in
    told_map (g.F.Folder.disk c.args.folder.now) (g.F.Folder.disk c.look.new.folder) (MovesFile low (λ file image. IsImage file image) (λ file now. OnOk c.look.result (now ≡ settled file.seen))) (λ old new. Moves (λ name. name.stem ≡ stem) (BeforeOpening stem old.now) (λ files. OnOk c.from_residual.result (IsSettledPair stem old.now files)) old new)
    (λ a b moves. looked_first stem (λ file now. OnOk c.look.result (now ≡ settled file.seen)) (λ files. OnOk c.from_residual.result (IsSettledPair stem a.now files)) a b (λ ended same. ended_err c.from_residual.result (IsSettledPair stem a.now b.now) c.from_residual.ensures.0) moves)
    c.look.ensures.disk

pub returns-in_err-second-clause-damaged : goal.returns-in_err-second-clause-damaged
returns-in_err-second-clause-damaged g c =
    let stem = c.args.stem in
    let low = side_of stem false in
    let high = side_of stem true in
    let same_high = told_map (g.F.Folder.disk c.args.folder.now) (g.F.Folder.disk c.look.new.folder) (MovesFile low (λ file image. IsImage file image) (λ file now. OnOk c.look.result (now ≡ settled file.seen))) (λ a b. b.now high ≡ a.now high) (λ a b moves. moves.others high (apart stem)) c.look.ensures.disk in
    let later = told_back (g.F.Folder.disk c.args.folder.now) (g.F.Folder.disk c.look.new.folder) (λ d. (n : FileName) (at : ℕ) → c.look-2.result ≡ Err (Damaged n at) → (n ≡ high) × IsFirstIn (d.now high).seen at) (λ d. (n : FileName) (at : ℕ) → c.look-2.result ≡ Err (Damaged n at) → (n ≡ high) × IsFirstIn (d.now high).seen at)
    (λ a b. b.now high ≡ a.now high) (λ a b same is. subst (λ file. (n : FileName) (at : ℕ) → c.look-2.result ≡ Err (Damaged n at) → (n ≡ high) × IsFirstIn file.seen at) same is) same_high c.look-2.ensures.damaged in
    told_pair (g.F.Folder.disk c.args.folder.now) (λ d. (c.in_ok-first.first ≡ found low (d.now low).seen) × IsFit 0 (d.now low).seen × IsFit 4096 (d.now low).seen) (λ d. (n : FileName) (at : ℕ) → c.look-2.result ≡ Err (Damaged n at) → (n ≡ high) × IsFirstIn (d.now high).seen at)
    (λ d. (n : FileName) (at : ℕ) → c.from_residual-in_err-second.result ≡ Err (Damaged n at) → IsFirstDamage stem d.now n at)
    (λ d first known n at same.
    let was : c.look-2.result ≡ Err (Damaged n at) = search rules in
    let is = known n at was in
    damage_second stem d.now n at is.0 first.1 first.2 is.1)
    c.in_ok-first.ensures.found later

pub returns-in_err-second-clause-disk : goal.returns-in_err-second-clause-disk
returns-in_err-second-clause-disk g c =
    let stem = c.args.stem in
    let low = side_of stem false in
    let high = side_of stem true in
    told_then (g.F.Folder.disk c.args.folder.now) (g.F.Folder.disk c.look.new.folder) (g.F.Folder.disk c.look-2.new.folder) (λ a b. SeenStays a × MovesFile low (λ file image. IsImage file image) (λ file now. OnOk c.look.result (now ≡ settled file.seen)) a b) (MovesFile high (λ file image. IsImage file image) (λ file now. OnOk c.look-2.result (now ≡ settled file.seen)))
    (λ old new. Moves (λ name. name.stem ≡ stem) (BeforeOpening stem old.now) (λ files. OnOk c.from_residual-in_err-second.result (IsSettledPair stem old.now files)) old new)
    (λ a b d first second. looked_second stem (λ file now. OnOk c.look-2.result (now ≡ settled file.seen)) (λ files. OnOk c.from_residual-in_err-second.result (IsSettledPair stem a.now files)) a b d first.0 (λ ended first_is. ended_err c.from_residual-in_err-second.result (IsSettledPair stem a.now d.now) c.from_residual-in_err-second.ensures.0)
    (file_weaker low (λ file image. IsImage file image) (λ file image. IsImage file image) (λ file now. OnOk c.look.result (now ≡ settled file.seen)) (λ file now. now ≡ settled file.seen) a b (λ image is. is)
    (λ ended. on_ok c.look.result c.in_ok-first.first (b.now low ≡ settled (a.now low).seen) c.in_ok-first.was ended) first.1) second)
    (told_given (g.F.Folder.disk c.args.folder.now) (g.F.Folder.disk c.look.new.folder) SeenStays (MovesFile low (λ file image. IsImage file image) (λ file now. OnOk c.look.result (now ≡ settled file.seen))) (λ a b. SeenStays a × MovesFile low (λ file image. IsImage file image) (λ file now. OnOk c.look.result (now ≡ settled file.seen)) a b) (λ a b is moves. (is, moves)) (g.met.F.Folder.seen_may_stay c.args.folder.now) c.look.ensures.disk)
    c.look-2.ensures.disk

pub returns-clause-found : goal.returns-clause-found
returns-clause-found g c =
    let stem = c.args.stem in
    let low = side_of stem false in
    let high = side_of stem true in
    let same_high = told_map (g.F.Folder.disk c.args.folder.now) (g.F.Folder.disk c.look.new.folder) (MovesFile low (λ file image. IsImage file image) (λ file now. OnOk c.look.result (now ≡ settled file.seen))) (λ a b. b.now high ≡ a.now high) (λ a b moves. moves.others high (apart stem)) c.look.ensures.disk in
    let later = told_back (g.F.Folder.disk c.args.folder.now) (g.F.Folder.disk c.look.new.folder) (λ d. (c.in_ok-second.second ≡ found high (d.now high).seen) × IsFit 0 (d.now high).seen × IsFit 4096 (d.now high).seen) (λ d. (c.in_ok-second.second ≡ found high (d.now high).seen) × IsFit 0 (d.now high).seen × IsFit 4096 (d.now high).seen) (λ a b. b.now high ≡ a.now high)
    (λ a b same is. subst (λ file. (c.in_ok-second.second ≡ found high file.seen) × IsFit 0 file.seen × IsFit 4096 file.seen) same is) same_high c.in_ok-second.ensures.found in
    let pairs = told_pair (g.F.Folder.disk c.args.folder.now) (λ d. (c.in_ok-first.first ≡ found low (d.now low).seen) × IsFit 0 (d.now low).seen × IsFit 4096 (d.now low).seen) (λ d. (c.in_ok-second.second ≡ found high (d.now high).seen) × IsFit 0 (d.now high).seen × IsFit 4096 (d.now high).seen) (λ d. IsPair stem d.now c.in_ok-first.first c.in_ok-second.second)
    (λ d first second. record { first_is = first.0; second_is = second.0; first_low = first.1; first_high = first.2; second_low = second.1; second_high = second.2 }) c.in_ok-first.ensures.found later in
    pairs

pub returns-clause-sound : goal.returns-clause-sound
returns-clause-sound g c =
    let stem = c.args.stem in
    let low = side_of stem false in
    let high = side_of stem true in
    let same_high = told_map (g.F.Folder.disk c.args.folder.now) (g.F.Folder.disk c.look.new.folder) (MovesFile low (λ file image. IsImage file image) (λ file now. OnOk c.look.result (now ≡ settled file.seen))) (λ a b. b.now high ≡ a.now high) (λ a b moves. moves.others high (apart stem)) c.look.ensures.disk in
    let later = told_back (g.F.Folder.disk c.args.folder.now) (g.F.Folder.disk c.look.new.folder) (λ d. (c.in_ok-second.second ≡ found high (d.now high).seen) × IsFit 0 (d.now high).seen × IsFit 4096 (d.now high).seen) (λ d. (c.in_ok-second.second ≡ found high (d.now high).seen) × IsFit 0 (d.now high).seen × IsFit 4096 (d.now high).seen) (λ a b. b.now high ≡ a.now high)
    (λ a b same is. subst (λ file. (c.in_ok-second.second ≡ found high file.seen) × IsFit 0 file.seen × IsFit 4096 file.seen) same is) same_high c.in_ok-second.ensures.found in
    let pairs = told_pair (g.F.Folder.disk c.args.folder.now) (λ d. (c.in_ok-first.first ≡ found low (d.now low).seen) × IsFit 0 (d.now low).seen × IsFit 4096 (d.now low).seen) (λ d. (c.in_ok-second.second ≡ found high (d.now high).seen) × IsFit 0 (d.now high).seen × IsFit 4096 (d.now high).seen) (λ d. IsPair stem d.now c.in_ok-first.first c.in_ok-second.second)
    (λ d first second. record { first_is = first.0; second_is = second.0; first_low = first.1; first_high = first.2; second_low = second.1; second_high = second.2 }) c.in_ok-first.ensures.found later in
    told_now (g.F.Folder.disk c.args.folder.now) (λ d. IsPair stem d.now c.in_ok-first.first c.in_ok-second.second) (λ d. All (IsFitSlot d.now) (slots_of stem)) (λ d pair. all_sound stem d.now c.in_ok-first.first c.in_ok-second.second pair) pairs

pub returns-clause-disk : goal.returns-clause-disk
returns-clause-disk g c =
    let stem = c.args.stem in
    let low = side_of stem false in
    let high = side_of stem true in
    told_then (g.F.Folder.disk c.args.folder.now) (g.F.Folder.disk c.look.new.folder) (g.F.Folder.disk c.look-2.new.folder) (λ a b. SeenStays a × MovesFile low (λ file image. IsImage file image) (λ file now. OnOk c.look.result (now ≡ settled file.seen)) a b) (MovesFile high (λ file image. IsImage file image) (λ file now. OnOk c.look-2.result (now ≡ settled file.seen)))
    (λ old new. Moves (λ name. name.stem ≡ stem) (BeforeOpening stem old.now) (λ files. IsSettledPair stem old.now files) old new)
    (λ a b d first second. looked_second stem (λ file now. OnOk c.look-2.result (now ≡ settled file.seen)) (λ files. IsSettledPair stem a.now files) a b d first.0 (λ ended first_is. settled_both stem a.now d.now first_is (on_ok c.look-2.result c.in_ok-second.second (d.now high ≡ settled (a.now high).seen) c.in_ok-second.was ended))
    (file_weaker low (λ file image. IsImage file image) (λ file image. IsImage file image) (λ file now. OnOk c.look.result (now ≡ settled file.seen)) (λ file now. now ≡ settled file.seen) a b (λ image is. is)
    (λ ended. on_ok c.look.result c.in_ok-first.first (b.now low ≡ settled (a.now low).seen) c.in_ok-first.was ended) first.1) second)
    (told_given (g.F.Folder.disk c.args.folder.now) (g.F.Folder.disk c.look.new.folder) SeenStays (MovesFile low (λ file image. IsImage file image) (λ file now. OnOk c.look.result (now ≡ settled file.seen))) (λ a b. SeenStays a × MovesFile low (λ file image. IsImage file image) (λ file now. OnOk c.look.result (now ≡ settled file.seen)) a b) (λ a b is moves. (is, moves)) (g.met.F.Folder.seen_may_stay c.args.folder.now) c.look.ensures.disk)
    c.look-2.ensures.disk
