use Rattle.index_items.specs.BackRows.{IsKeptRow, row_bytes}
use Rattle.index_items.specs.BackLaws.{back_row_prefix_free}
use Rattle.index_items.proofs.Taking.{all_more, long_more, no_more, none_taken, one_taken, taken_more}
use Rattle.index_items.proofs.back_bytes.read_each_row.Goals as goal

pub returns-in-None : goal.returns-in-None
returns-in-None c =
    let l = c.loop-row in
    no_more IsKeptRow row_bytes back_row_prefix_free c.args.bytes.now l.rest.now l.rows.items c.args.count l._row l.invariant.count c.loop-row-test.true l.invariant.each l.invariant.bytes
    (none_taken IsKeptRow row_bytes l.rest.now c.in_ok-row.field-0 c.in-None.is c.in_ok-row.ensures)

pub loop-row-preserved : goal.loop-row-preserved
loop-row-preserved c =
    let l = c.loop-row in
    let pushed = c.in_ok-push-in-Some.ensures.items in
    let taken = one_taken IsKeptRow row_bytes l.rest.now c.in_ok-row.field-0 c.in-Some.row c.in-Some.behind c.in-Some.is c.in_ok-row.ensures in
    record {
      bytes = taken_more IsKeptRow row_bytes c.args.bytes.now l.rest.now c.in-Some.behind.now l.rows.items c.push.new.self.items c.in-Some.row l.invariant.bytes taken.1 pushed;
      count = long_more IsKeptRow row_bytes l.rows.items c.push.new.self.items c.in-Some.row l._row l.invariant.count pushed;
      each = all_more IsKeptRow row_bytes l.rows.items c.push.new.self.items c.in-Some.row l.invariant.each taken.0 pushed;
    }
