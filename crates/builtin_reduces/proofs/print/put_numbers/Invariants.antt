use Rattle.std.proofs.Common.{◌≡◌, ◌++◌, drop}
use Rattle.builtin_reduces.specs.Written.{before_of, written_of}
use Rattle.builtin_reduces.proofs.Printed.{numbers_after}
use Rattle.builtin_reduces.proofs.print.put_numbers.Given as goal

-- with what is left, all numbers will be printed, and nothing before them has changed
abbrev pub invariant-loop-number : goal.invariant-loop-number
invariant-loop-number l = record {
  written : written_of l.text ++ numbers_after l.later (drop l.number-index l.numbers) ≡ written_of l.initial.text ++ numbers_after l.initial.later l.numbers;
  before : before_of l.text ≡ before_of l.initial.text;
}
