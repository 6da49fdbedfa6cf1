-- Whether two names of files are the same.
use Rattle.std.specs.Prelude.{Bool, true, false, ◌&&◌}
use Rattle.std.specs.Str.{bytes_eq}
use Rattle.view_ports.specs.declared.file_name.Stem.{Stem}
use Rattle.view_ports.specs.declared.file_name.Stem.TheVariants.{Docs, View}
use Rattle.view_ports.specs.declared.file_name.FileName.{FileName}

abbrev pub is_same_stem : Stem → Stem → Bool
is_same_stem Docs Docs = true
is_same_stem Docs (View other) = false
is_same_stem (View digits) Docs = false
is_same_stem (View digits) (View other) = bytes_eq digits other

abbrev pub is_same_side : Bool → Bool → Bool
is_same_side true side = side
is_same_side false true = false
is_same_side false false = true

abbrev pub is_same : FileName → FileName → Bool
is_same a b = is_same_stem a.stem b.stem && is_same_side a.side b.side
