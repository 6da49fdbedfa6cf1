-- The text is the request's.
use Rattle.std.proofs.Common.{refl}
use Rattle.json.specs.Print.{escape_byte}
use Rattle.load_lines.specs.Lines.{info_request, info_line}
use Rattle.load_lines.proofs.lines.info_line.Goals as goal

pub returns : goal.returns
unfolding info_line info_request escape_byte
returns c = refl
