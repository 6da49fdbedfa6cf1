use Rattle.map_lang.specs.Tokens.{is_blank}
use Rattle.map_lang.proofs.Lexed.{boundary_after, blank_ascii}
use Rattle.map_lang.proofs.lex.after_blanks.Goals as goal

pub range_from-requires : goal.range_from-requires
range_from-requires c =
    let within = rw c.as_bytes.ensures.value at c.run_of-len.ensures.within in
    let blank = rw c.as_bytes.ensures.value at c.run_of-len.ensures.passing in
    λ _. boundary_after is_blank blank_ascii c.args.source.now c.run_of-len.result c.utf8.source within blank
