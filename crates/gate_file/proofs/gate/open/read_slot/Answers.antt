use Rattle.std.proofs.Common.{◌≡◌, length, Some, None}
use Rattle.view_ports.specs.FolderCalls.{IsReadAt}
use Rattle.view_ports.proofs.Told.{told_now, told_pair}
use Rattle.gate_file.specs.Header.{slot_at, open_root, IsFit}
use Rattle.gate_file.proofs.Looks.{slot_short, slot_closed, slot_open, slot_damaged}
use Rattle.gate_file.proofs.gate.open.read_slot.Goals as goal

pub returns-then-count-lt-SLOT-clause-root : goal.returns-then-count-lt-SLOT-clause-root
returns-then-count-lt-SLOT-clause-root g c =
    let into = c.read_at.new.into in
    told_now (g.F.Folder.disk c.args.folder.now) (λ d. IsReadAt (d.now c.args.name).seen c.args.at c.in_ok-count.count into)
    (λ d. (None ≡ open_root (slot_at (d.now c.args.name).seen c.args.at)) × IsFit c.args.at (d.now c.args.name).seen)
    (λ d read. slot_short (d.now c.args.name).seen into c.args.at c.in_ok-count.count c.read_at.auto.into c.if-count-lt-SLOT.true read) c.in_ok-count.ensures.bytes

pub returns-in-Closed-clause-root : goal.returns-in-Closed-clause-root
returns-in-Closed-clause-root g c =
    let into = c.read_at.new.into in
    told_now (g.F.Folder.disk c.args.folder.now) (λ d. IsReadAt (d.now c.args.name).seen c.args.at c.in_ok-count.count into)
    (λ d. (None ≡ open_root (slot_at (d.now c.args.name).seen c.args.at)) × IsFit c.args.at (d.now c.args.name).seen)
    (λ d read. slot_closed (d.now c.args.name).seen into c.args.at c.in_ok-count.count c.read_at.auto.into c.if-count-lt-SLOT.false c.in-Closed.ensures read) c.in_ok-count.ensures.bytes

pub returns-in-Open-clause-root : goal.returns-in-Open-clause-root
returns-in-Open-clause-root g c =
    let into = c.read_at.new.into in
    let found = c.in-Open.ensures in
    told_pair (g.F.Folder.disk c.args.folder.now) (λ d. IsReadAt (d.now c.args.name).seen c.args.at c.in_ok-count.count into) (λ d. c.args.size ≡ length (d.now c.args.name).seen)
    (λ d. (Some c.in-Open.root ≡ open_root (slot_at (d.now c.args.name).seen c.args.at)) × IsFit c.args.at (d.now c.args.name).seen)
    (λ d read size. slot_open (d.now c.args.name).seen into c.args.at c.in_ok-count.count c.args.size c.in-Open.root c.read_at.auto.into c.if-count-lt-SLOT.false size found.0 found.1 found.2 read)
    c.in_ok-count.ensures.bytes c.requires

pub returns-in-Damaged-clause-damaged : goal.returns-in-Damaged-clause-damaged
returns-in-Damaged-clause-damaged g c =
    let into = c.read_at.new.into in
    let found = c.in-Damaged.ensures in
    told_pair (g.F.Folder.disk c.args.folder.now) (λ d. IsReadAt (d.now c.args.name).seen c.args.at c.in_ok-count.count into) (λ d. c.args.size ≡ length (d.now c.args.name).seen)
    _
    (λ d read size same. slot_damaged (d.now c.args.name).seen into c.args.at c.in_ok-count.count c.args.size c.read_at.auto.into c.if-count-lt-SLOT.false size found.0 found.1 read)
    c.in_ok-count.ensures.bytes c.requires
