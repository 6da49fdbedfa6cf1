use Rattle.std.proofs.Common.{◌≡◌, ◌++◌, reverse}
use Rattle.std.specs.Iterator.Adapters.{rev_source}
use Rattle.std.specs.Slice.Iter.{iter_rest}
use Rattle.view_ports.specs.Lines.{IsLine}
use Rattle.view_model.specs.Answer.{row_text}
use Rattle.view_model.specs.Progress.{texts_after}
use Rattle.view_model.specs.Written.{before_of, written_of}
use Rattle.view_model.proofs.print.print_backwards.Given as goal

-- with what is left, all rows will be printed, and nothing before them has changed; and they are one line where what is left is
abbrev pub invariant-loop-row : goal.invariant-loop-row
invariant-loop-row l =
    let left = reverse (iter_rest (rev_source l.row-iterator)) in record {
      written : written_of l.reply ++ texts_after row_text l.later left ≡ written_of l.initial.reply ++ texts_after row_text l.printed (reverse l.rows);
      before : before_of l.reply ≡ before_of l.initial.reply;
      line : IsLine (texts_after row_text l.later left) → IsLine (texts_after row_text l.printed (reverse l.rows));
    }
