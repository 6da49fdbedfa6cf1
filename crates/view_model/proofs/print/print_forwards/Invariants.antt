use Rattle.std.proofs.Common.{◌≡◌, ◌++◌, drop}
use Rattle.view_ports.specs.Lines.{IsLine}
use Rattle.view_model.specs.Answer.{row_text}
use Rattle.view_model.specs.Progress.{texts_after}
use Rattle.view_model.specs.Written.{before_of, written_of}
use Rattle.view_model.proofs.print.print_forwards.Given as goal

-- with what is left, all rows will be printed, and nothing before them has changed; and they are one line where what is left is
abbrev pub invariant-loop-row : goal.invariant-loop-row
invariant-loop-row l = record {
  written : written_of l.reply ++ texts_after row_text l.later (drop l.row-index l.rows) ≡ written_of l.initial.reply ++ texts_after row_text l.printed l.rows;
  before : before_of l.reply ≡ before_of l.initial.reply;
  line : IsLine (texts_after row_text l.later (drop l.row-index l.rows)) → IsLine (texts_after row_text l.printed l.rows);
}
