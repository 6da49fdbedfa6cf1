-- The text is the request's.
use Rattle.std.proofs.Common.{refl}
use Rattle.json.specs.Print.{escape_byte}
use Rattle.load_lines.specs.Documents.{load_design}
use Rattle.load_lines.specs.Lines.{put_line}
use Rattle.load_lines.proofs.lines.design_line.Goals as goal

pub returns : goal.returns
unfolding put_line load_design escape_byte
returns c = refl
