use Rattle.updater_tests.proofs.stop_tests.stop_in_script.Goals as goal

pub invariant_of-bench-in_err-stop_in_each : goal.invariant_of-bench-in_err-stop_in_each
invariant_of-bench-in_err-stop_in_each g c = record { tied = c.play.new.bench.folder.tied }
