-- The run that the code keeps.
use Rattle.map_lang.specs.declared.run.Progress.{Progress}
use Rattle.map_lang.specs.Meaning.{Run}

abbrev pub run_of : Progress → Run
run_of p = record { rows = p.rows; bytes = p.bytes; turns = p.turns; ended = p.ended }
