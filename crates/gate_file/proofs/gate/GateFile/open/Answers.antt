use Rattle.std.proofs.Common.{◌≡◌, inl, [], Err, OnOk, rules}
use Rattle.std.specs.Prelude.{true, false, IfOk}
use Rattle.view_ports.specs.File.{settled}
use Rattle.view_ports.specs.Disk.{Disk, Moves, MovesFile}
use Rattle.view_ports.specs.declared.file_name.FileName.{FileName}
use Rattle.view_ports.proofs.Told.{told_map, told_then, told_given, told_now}
use Rattle.view_ports.proofs.DiskRuns.{moves_wider, on_ok}
use Rattle.gate_file.specs.declared.fault.GateFault.TheVariants.{Damaged}
use Rattle.gate_file.specs.Calls.{IsDamageOf}
use Rattle.gate_file.specs.Open.{side_of, opened, BeforeOpening, WhileOpening, IsFirstDamage, IsOpened, IsPair, IsSettledPair}
use Rattle.gate_file.proofs.Cuts.{Cut}
use Rattle.gate_file.proofs.Pairs.{opens_second}
use Rattle.gate_file.proofs.Openings.{failed_open, some_root, no_root, take_second, opened_second, drop_second, opened_first, drop_both, opened_new}
use Rattle.gate_file.proofs.gate.GateFile.open.Goals as goal

pub returns-in_err-first-clause-damaged : goal.returns-in_err-first-clause-damaged
returns-in_err-first-clause-damaged g c =
    let stem = c.args.stem in
    told_now (g.F.Folder.disk c.args.folder.now) (λ d. IsDamageOf (IsFirstDamage stem d.now) c.look_at_both.result) (λ d. IsDamageOf (IsFirstDamage stem d.now) c.from_residual.result)
    (λ d known n at same. let was : c.look_at_both.result ≡ Err (Damaged n at) = search rules in known n at was)
    c.look_at_both.ensures.damaged

pub returns-in_err-first-clause-disk : goal.returns-in_err-first-clause-disk
returns-in_err-first-clause-disk g c =
    let stem = c.args.stem in
    told_map (g.F.Folder.disk c.args.folder.now) (g.F.Folder.disk c.look_at_both.new.folder) (λ old new. Moves (λ name. name.stem ≡ stem) (BeforeOpening stem old.now) (λ files. OnOk c.look_at_both.result (IsSettledPair stem old.now files)) old new) (λ old new. Moves (λ name. name.stem ≡ stem) (WhileOpening stem old.now) (λ files. IfOk c.from_residual.result (λ gate. IsOpened gate old.now files)) old new)
    (λ a b moves. moves_wider (λ name. name.stem ≡ stem) (λ name. name.stem ≡ stem) (BeforeOpening stem a.now) (WhileOpening stem a.now)
    (λ files. OnOk c.look_at_both.result (IsSettledPair stem a.now files)) (λ files. IfOk c.from_residual.result (λ gate. IsOpened gate a.now files)) a b (λ name is. is) (λ image framed. inl framed.inside)
    (λ others ended. failed_open c.from_residual.result (λ gate. IsOpened gate a.now b.now) c.from_residual.ensures.0) moves)
    c.look_at_both.ensures.disk

pub returns-in_err-clear-clause-disk : goal.returns-in_err-clear-clause-disk
returns-in_err-clear-clause-disk g c =
    let stem = c.args.stem in
    let first = c.in_ok-first.field-0.first in
    let second = c.in_ok-first.field-0.second in
    let low = side_of stem false in
    let high = side_of stem true in
    let started = told_given (g.F.Folder.disk c.args.folder.now) (g.F.Folder.disk c.look_at_both.new.folder) (λ d. IsPair stem d.now first second) (λ old new. Moves (λ name. name.stem ≡ stem) (BeforeOpening stem old.now) (λ files. OnOk c.look_at_both.result (IsSettledPair stem old.now files)) old new)
    (λ a b. IsPair stem a.now first second × Moves (λ name. name.stem ≡ stem) (BeforeOpening stem a.now) (IsSettledPair stem a.now) a b)
    (λ a b pair moves. (
      pair,
      moves_wider (λ name. name.stem ≡ stem) (λ name. name.stem ≡ stem) (BeforeOpening stem a.now) (BeforeOpening stem a.now)
          (λ files. OnOk c.look_at_both.result (IsSettledPair stem a.now files)) (IsSettledPair stem a.now) a b (λ name is. is) (λ image framed. framed.inside)
          (λ others ended. on_ok c.look_at_both.result c.in_ok-first.field-0 (IsSettledPair stem a.now b.now) c.in_ok-first.was ended) moves,
    ))
    c.in_ok-first.ensures.found c.look_at_both.ensures.disk in
    told_then (g.F.Folder.disk c.args.folder.now) (g.F.Folder.disk c.look_at_both.new.folder) (g.F.Folder.disk c.clear.new.folder) (λ a b. IsPair stem a.now first second × Moves (λ name. name.stem ≡ stem) (BeforeOpening stem a.now) (IsSettledPair stem a.now) a b) (MovesFile first.name Cut (λ file now. OnOk c.clear.result (now ≡ settled []))) (λ old new. Moves (λ name. name.stem ≡ stem) (WhileOpening stem old.now) (λ files. IfOk c.from_residual-in_err-clear.result (λ gate. IsOpened gate old.now files)) old new)
    (λ a b d start moves. take_second stem a b first second start.0 start.1 c.if-first-second.true (λ file now. OnOk c.clear.result (now ≡ settled [])) (λ files. IfOk c.from_residual-in_err-clear.result (λ gate. IsOpened gate a.now files)) d (λ ended kept. failed_open c.from_residual-in_err-clear.result (λ gate. IsOpened gate a.now d.now) c.from_residual-in_err-clear.ensures.0) moves)
    started c.clear.ensures.disk

pub returns-then-first-second-clause-opened : goal.returns-then-first-second-clause-opened
returns-then-first-second-clause-opened g c =
    let stem = c.args.stem in
    let first = c.in_ok-first.field-0.first in
    let second = c.in_ok-first.field-0.second in
    let low = side_of stem false in
    let high = side_of stem true in
    let started = told_given (g.F.Folder.disk c.args.folder.now) (g.F.Folder.disk c.look_at_both.new.folder) (λ d. IsPair stem d.now first second) (λ old new. Moves (λ name. name.stem ≡ stem) (BeforeOpening stem old.now) (λ files. OnOk c.look_at_both.result (IsSettledPair stem old.now files)) old new)
    (λ a b. IsPair stem a.now first second × Moves (λ name. name.stem ≡ stem) (BeforeOpening stem a.now) (IsSettledPair stem a.now) a b)
    (λ a b pair moves. (
      pair,
      moves_wider (λ name. name.stem ≡ stem) (λ name. name.stem ≡ stem) (BeforeOpening stem a.now) (BeforeOpening stem a.now)
          (λ files. OnOk c.look_at_both.result (IsSettledPair stem a.now files)) (IsSettledPair stem a.now) a b (λ name is. is) (λ image framed. framed.inside)
          (λ others ended. on_ok c.look_at_both.result c.in_ok-first.field-0 (IsSettledPair stem a.now b.now) c.in_ok-first.was ended) moves,
    ))
    c.in_ok-first.ensures.found c.look_at_both.ensures.disk in
    told_now (g.F.Folder.disk c.args.folder.now) (λ d. IsPair stem d.now first second) (λ d. second ≡ opened stem d.now) (λ d pair. opens_second stem d.now first second pair c.if-first-second.true) c.in_ok-first.ensures.found

pub returns-then-first-second-clause-disk : goal.returns-then-first-second-clause-disk
returns-then-first-second-clause-disk g c =
    let stem = c.args.stem in
    let first = c.in_ok-first.field-0.first in
    let second = c.in_ok-first.field-0.second in
    let low = side_of stem false in
    let high = side_of stem true in
    let started = told_given (g.F.Folder.disk c.args.folder.now) (g.F.Folder.disk c.look_at_both.new.folder) (λ d. IsPair stem d.now first second) (λ old new. Moves (λ name. name.stem ≡ stem) (BeforeOpening stem old.now) (λ files. OnOk c.look_at_both.result (IsSettledPair stem old.now files)) old new)
    (λ a b. IsPair stem a.now first second × Moves (λ name. name.stem ≡ stem) (BeforeOpening stem a.now) (IsSettledPair stem a.now) a b)
    (λ a b pair moves. (
      pair,
      moves_wider (λ name. name.stem ≡ stem) (λ name. name.stem ≡ stem) (BeforeOpening stem a.now) (BeforeOpening stem a.now)
          (λ files. OnOk c.look_at_both.result (IsSettledPair stem a.now files)) (IsSettledPair stem a.now) a b (λ name is. is) (λ image framed. framed.inside)
          (λ others ended. on_ok c.look_at_both.result c.in_ok-first.field-0 (IsSettledPair stem a.now b.now) c.in_ok-first.was ended) moves,
    ))
    c.in_ok-first.ensures.found c.look_at_both.ensures.disk in
    told_then (g.F.Folder.disk c.args.folder.now) (g.F.Folder.disk c.look_at_both.new.folder) (g.F.Folder.disk c.clear.new.folder) (λ a b. IsPair stem a.now first second × Moves (λ name. name.stem ≡ stem) (BeforeOpening stem a.now) (IsSettledPair stem a.now) a b) (MovesFile first.name Cut (λ file now. OnOk c.clear.result (now ≡ settled []))) (λ old new. Moves (λ name. name.stem ≡ stem) (WhileOpening stem old.now) (λ files. IsOpened second old.now files) old new)
    (λ a b d start moves. take_second stem a b first second start.0 start.1 c.if-first-second.true (λ file now. OnOk c.clear.result (now ≡ settled [])) (λ files. IsOpened second a.now files) d (λ ended kept. opened_second stem a b first second start.0 start.1 c.if-first-second.true d.now (on_ok c.clear.result c.in_ok-clear.field-0 (d.now low ≡ settled []) c.in_ok-clear.was ended) kept) moves)
    started c.clear.ensures.disk

pub returns-in_err-clear-2-clause-disk : goal.returns-in_err-clear-2-clause-disk
returns-in_err-clear-2-clause-disk g c =
    let stem = c.args.stem in
    let first = c.in_ok-first.field-0.first in
    let second = c.in_ok-first.field-0.second in
    let low = side_of stem false in
    let high = side_of stem true in
    let started = told_given (g.F.Folder.disk c.args.folder.now) (g.F.Folder.disk c.look_at_both.new.folder) (λ d. IsPair stem d.now first second) (λ old new. Moves (λ name. name.stem ≡ stem) (BeforeOpening stem old.now) (λ files. OnOk c.look_at_both.result (IsSettledPair stem old.now files)) old new)
    (λ a b. IsPair stem a.now first second × Moves (λ name. name.stem ≡ stem) (BeforeOpening stem a.now) (IsSettledPair stem a.now) a b)
    (λ a b pair moves. (
      pair,
      moves_wider (λ name. name.stem ≡ stem) (λ name. name.stem ≡ stem) (BeforeOpening stem a.now) (BeforeOpening stem a.now)
          (λ files. OnOk c.look_at_both.result (IsSettledPair stem a.now files)) (IsSettledPair stem a.now) a b (λ name is. is) (λ image framed. framed.inside)
          (λ others ended. on_ok c.look_at_both.result c.in_ok-first.field-0 (IsSettledPair stem a.now b.now) c.in_ok-first.was ended) moves,
    ))
    c.in_ok-first.ensures.found c.look_at_both.ensures.disk in
    told_then (g.F.Folder.disk c.args.folder.now) (g.F.Folder.disk c.look_at_both.new.folder) (g.F.Folder.disk c.clear-2.new.folder) (λ a b. IsPair stem a.now first second × Moves (λ name. name.stem ≡ stem) (BeforeOpening stem a.now) (IsSettledPair stem a.now) a b) (MovesFile second.name Cut (λ file now. OnOk c.clear-2.result (now ≡ settled []))) (λ old new. Moves (λ name. name.stem ≡ stem) (WhileOpening stem old.now) (λ files. IfOk c.from_residual-in_err-clear-2.result (λ gate. IsOpened gate old.now files)) old new)
    (λ a b d start moves. drop_second stem a b first second start.0 start.1 c.if-first-second.false (λ file now. OnOk c.clear-2.result (now ≡ settled [])) (λ files. IfOk c.from_residual-in_err-clear-2.result (λ gate. IsOpened gate a.now files)) d (λ ended kept. failed_open c.from_residual-in_err-clear-2.result (λ gate. IsOpened gate a.now d.now) c.from_residual-in_err-clear-2.ensures.0) moves)
    started c.clear-2.ensures.disk

pub returns-then-is_some-clause-disk : goal.returns-then-is_some-clause-disk
returns-then-is_some-clause-disk g c =
    let stem = c.args.stem in
    let first = c.in_ok-first.field-0.first in
    let second = c.in_ok-first.field-0.second in
    let low = side_of stem false in
    let high = side_of stem true in
    let started = told_given (g.F.Folder.disk c.args.folder.now) (g.F.Folder.disk c.look_at_both.new.folder) (λ d. IsPair stem d.now first second) (λ old new. Moves (λ name. name.stem ≡ stem) (BeforeOpening stem old.now) (λ files. OnOk c.look_at_both.result (IsSettledPair stem old.now files)) old new)
    (λ a b. IsPair stem a.now first second × Moves (λ name. name.stem ≡ stem) (BeforeOpening stem a.now) (IsSettledPair stem a.now) a b)
    (λ a b pair moves. (
      pair,
      moves_wider (λ name. name.stem ≡ stem) (λ name. name.stem ≡ stem) (BeforeOpening stem a.now) (BeforeOpening stem a.now)
          (λ files. OnOk c.look_at_both.result (IsSettledPair stem a.now files)) (IsSettledPair stem a.now) a b (λ name is. is) (λ image framed. framed.inside)
          (λ others ended. on_ok c.look_at_both.result c.in_ok-first.field-0 (IsSettledPair stem a.now b.now) c.in_ok-first.was ended) moves,
    ))
    c.in_ok-first.ensures.found c.look_at_both.ensures.disk in
    let root = some_root first.root (search rules) in
    told_then (g.F.Folder.disk c.args.folder.now) (g.F.Folder.disk c.look_at_both.new.folder) (g.F.Folder.disk c.clear-2.new.folder) (λ a b. IsPair stem a.now first second × Moves (λ name. name.stem ≡ stem) (BeforeOpening stem a.now) (IsSettledPair stem a.now) a b) (MovesFile second.name Cut (λ file now. OnOk c.clear-2.result (now ≡ settled []))) (λ old new. Moves (λ name. name.stem ≡ stem) (WhileOpening stem old.now) (λ files. IsOpened first old.now files) old new)
    (λ a b d start moves. drop_second stem a b first second start.0 start.1 c.if-first-second.false (λ file now. OnOk c.clear-2.result (now ≡ settled [])) (λ files. IsOpened first a.now files) d (λ ended kept. opened_first stem a b first second start.0 start.1 root.0 root.1 d.now (on_ok c.clear-2.result c.in_ok-clear-2.field-0 (d.now high ≡ settled []) c.in_ok-clear-2.was ended) kept) moves)
    started c.clear-2.ensures.disk

pub returns-in_err-clear-3-clause-disk : goal.returns-in_err-clear-3-clause-disk
returns-in_err-clear-3-clause-disk g c =
    let stem = c.args.stem in
    let first = c.in_ok-first.field-0.first in
    let second = c.in_ok-first.field-0.second in
    let low = side_of stem false in
    let high = side_of stem true in
    let started = told_given (g.F.Folder.disk c.args.folder.now) (g.F.Folder.disk c.look_at_both.new.folder) (λ d. IsPair stem d.now first second) (λ old new. Moves (λ name. name.stem ≡ stem) (BeforeOpening stem old.now) (λ files. OnOk c.look_at_both.result (IsSettledPair stem old.now files)) old new)
    (λ a b. IsPair stem a.now first second × Moves (λ name. name.stem ≡ stem) (BeforeOpening stem a.now) (IsSettledPair stem a.now) a b)
    (λ a b pair moves. (
      pair,
      moves_wider (λ name. name.stem ≡ stem) (λ name. name.stem ≡ stem) (BeforeOpening stem a.now) (BeforeOpening stem a.now)
          (λ files. OnOk c.look_at_both.result (IsSettledPair stem a.now files)) (IsSettledPair stem a.now) a b (λ name is. is) (λ image framed. framed.inside)
          (λ others ended. on_ok c.look_at_both.result c.in_ok-first.field-0 (IsSettledPair stem a.now b.now) c.in_ok-first.was ended) moves,
    ))
    c.in_ok-first.ensures.found c.look_at_both.ensures.disk in
    let none = no_root first.root (search rules) in
    let early = told_then (g.F.Folder.disk c.args.folder.now) (g.F.Folder.disk c.look_at_both.new.folder) (g.F.Folder.disk c.clear-2.new.folder) (λ a b. IsPair stem a.now first second × Moves (λ name. name.stem ≡ stem) (BeforeOpening stem a.now) (IsSettledPair stem a.now) a b) (MovesFile second.name Cut (λ file now. OnOk c.clear-2.result (now ≡ settled [])))
    (λ a d. IsPair stem a.now first second × ((b : Disk FileName) × Moves (λ name. name.stem ≡ stem) (BeforeOpening stem a.now) (IsSettledPair stem a.now) a b) × Moves (λ name. name.stem ≡ stem) (WhileOpening stem a.now) (λ files. (files high ≡ settled []) × (files low ≡ settled (a.now low).seen)) a d)
    (λ a b d start moves. (
      start.0,
      (b, start.1),
      drop_second stem a b first second start.0 start.1 c.if-first-second.false (λ file now. OnOk c.clear-2.result (now ≡ settled [])) (λ files. (files high ≡ settled []) × (files low ≡ settled (a.now low).seen)) d
          (λ ended kept. (on_ok c.clear-2.result c.in_ok-clear-2.field-0 (d.now high ≡ settled []) c.in_ok-clear-2.was ended, kept)) moves,
    ))
    started c.clear-2.ensures.disk in
    told_then (g.F.Folder.disk c.args.folder.now) (g.F.Folder.disk c.clear-2.new.folder) (g.F.Folder.disk c.clear-3.new.folder) (λ a d. IsPair stem a.now first second × ((b : Disk FileName) × Moves (λ name. name.stem ≡ stem) (BeforeOpening stem a.now) (IsSettledPair stem a.now) a b) × Moves (λ name. name.stem ≡ stem) (WhileOpening stem a.now) (λ files. (files high ≡ settled []) × (files low ≡ settled (a.now low).seen)) a d)
    (MovesFile first.name Cut (λ file now. OnOk c.clear-3.result (now ≡ settled []))) (λ old new. Moves (λ name. name.stem ≡ stem) (WhileOpening stem old.now) (λ files. IfOk c.from_residual-in_err-clear-3.result (λ gate. IsOpened gate old.now files)) old new)
    (λ a e d start moves. drop_both stem a start.1.0 first second start.0 start.1.1 c.if-first-second.false none (λ file now. OnOk c.clear-3.result (now ≡ settled [])) (λ files. IfOk c.from_residual-in_err-clear-3.result (λ gate. IsOpened gate a.now files)) e d (λ ended emptied. failed_open c.from_residual-in_err-clear-3.result (λ gate. IsOpened gate a.now d.now) c.from_residual-in_err-clear-3.ensures.0) start.2 moves)
    early c.clear-3.ensures.disk

pub returns-clause-disk : goal.returns-clause-disk
returns-clause-disk g c =
    let stem = c.args.stem in
    let first = c.in_ok-first.field-0.first in
    let second = c.in_ok-first.field-0.second in
    let low = side_of stem false in
    let high = side_of stem true in
    let started = told_given (g.F.Folder.disk c.args.folder.now) (g.F.Folder.disk c.look_at_both.new.folder) (λ d. IsPair stem d.now first second) (λ old new. Moves (λ name. name.stem ≡ stem) (BeforeOpening stem old.now) (λ files. OnOk c.look_at_both.result (IsSettledPair stem old.now files)) old new)
    (λ a b. IsPair stem a.now first second × Moves (λ name. name.stem ≡ stem) (BeforeOpening stem a.now) (IsSettledPair stem a.now) a b)
    (λ a b pair moves. (
      pair,
      moves_wider (λ name. name.stem ≡ stem) (λ name. name.stem ≡ stem) (BeforeOpening stem a.now) (BeforeOpening stem a.now)
          (λ files. OnOk c.look_at_both.result (IsSettledPair stem a.now files)) (IsSettledPair stem a.now) a b (λ name is. is) (λ image framed. framed.inside)
          (λ others ended. on_ok c.look_at_both.result c.in_ok-first.field-0 (IsSettledPair stem a.now b.now) c.in_ok-first.was ended) moves,
    ))
    c.in_ok-first.ensures.found c.look_at_both.ensures.disk in
    let none = no_root first.root (search rules) in
    let early = told_then (g.F.Folder.disk c.args.folder.now) (g.F.Folder.disk c.look_at_both.new.folder) (g.F.Folder.disk c.clear-2.new.folder) (λ a b. IsPair stem a.now first second × Moves (λ name. name.stem ≡ stem) (BeforeOpening stem a.now) (IsSettledPair stem a.now) a b) (MovesFile second.name Cut (λ file now. OnOk c.clear-2.result (now ≡ settled [])))
    (λ a d. IsPair stem a.now first second × ((b : Disk FileName) × Moves (λ name. name.stem ≡ stem) (BeforeOpening stem a.now) (IsSettledPair stem a.now) a b) × Moves (λ name. name.stem ≡ stem) (WhileOpening stem a.now) (λ files. (files high ≡ settled []) × (files low ≡ settled (a.now low).seen)) a d)
    (λ a b d start moves. (
      start.0,
      (b, start.1),
      drop_second stem a b first second start.0 start.1 c.if-first-second.false (λ file now. OnOk c.clear-2.result (now ≡ settled [])) (λ files. (files high ≡ settled []) × (files low ≡ settled (a.now low).seen)) d
          (λ ended kept. (on_ok c.clear-2.result c.in_ok-clear-2.field-0 (d.now high ≡ settled []) c.in_ok-clear-2.was ended, kept)) moves,
    ))
    started c.clear-2.ensures.disk in
    told_then (g.F.Folder.disk c.args.folder.now) (g.F.Folder.disk c.clear-2.new.folder) (g.F.Folder.disk c.clear-3.new.folder) (λ a d. IsPair stem a.now first second × ((b : Disk FileName) × Moves (λ name. name.stem ≡ stem) (BeforeOpening stem a.now) (IsSettledPair stem a.now) a b) × Moves (λ name. name.stem ≡ stem) (WhileOpening stem a.now) (λ files. (files high ≡ settled []) × (files low ≡ settled (a.now low).seen)) a d)
    (MovesFile first.name Cut (λ file now. OnOk c.clear-3.result (now ≡ settled []))) (λ old new. Moves (λ name. name.stem ≡ stem) (WhileOpening stem old.now) (λ files. IsOpened (record first { length = 0 }) old.now files) old new)
    (λ a e d start moves. drop_both stem a start.1.0 first second start.0 start.1.1 c.if-first-second.false none (λ file now. OnOk c.clear-3.result (now ≡ settled [])) (λ files. IsOpened (record first { length = 0 }) a.now files) e d (λ ended emptied. opened_new stem a start.1.0 first second start.0 start.1.1 none d.now emptied (on_ok c.clear-3.result c.in_ok-clear-3.field-0 (d.now low ≡ settled []) c.in_ok-clear-3.was ended)) start.2 moves)
    early c.clear-3.ensures.disk
