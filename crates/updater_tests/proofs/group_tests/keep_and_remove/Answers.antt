-- The folder of the bench is as its calls left it.
use Rattle.updater_tests.proofs.group_tests.keep_and_remove.Goals as goal

pub invariant_of-bench-in_err-same_text : goal.invariant_of-bench-in_err-same_text
invariant_of-bench-in_err-same_text g c = record { tied = c.found.new.self.folder.tied }
