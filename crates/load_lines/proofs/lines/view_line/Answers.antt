-- The text is the request's.
use Rattle.std.proofs.Common.{refl}
use Rattle.std.specs.Fmt.{digits}
use Rattle.json.specs.Print.{escape_byte}
use Rattle.load_lines.specs.Lines.{view_request, view_line}
use Rattle.load_lines.proofs.lines.view_line.Goals as goal

pub returns : goal.returns
unfolding view_line view_request escape_byte digits
returns c = refl
