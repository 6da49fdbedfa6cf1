use Rattle.std.proofs.Common.{◌≡◌, ◌++◌, drop}
use Rattle.view_ports.specs.Lines.{IsLine}
use Rattle.view_model.specs.Answer.{row_text}
use Rattle.view_model.specs.Progress.{due_text}
use Rattle.view_model.specs.Written.{before_of, written_of}
use Rattle.view_model.proofs.Printed.{of_keys}
use Rattle.view_model.proofs.answers.print_keys.Given as goal

-- with the keys that are left, all that is due will be printed, and nothing before it has changed; and it is one line where what is left is
abbrev pub invariant-loop-key : goal.invariant-loop-key
invariant-loop-key l =
    let all = of_keys l.query l.rows l.keys in
    let left = of_keys l.query l.rows (drop l.key-index l.keys) in record {
      written : written_of l.reply ++ due_text row_text l.progress left ≡ written_of l.initial.reply ++ due_text row_text l.initial.progress all;
      before : before_of l.reply ≡ before_of l.initial.reply;
      line : IsLine (due_text row_text l.progress left) → IsLine (due_text row_text l.initial.progress all);
    }
