use Rattle.std.proofs.Common.{◌≡◌, ◌-◌, arith, take, ap, ◌∙◌}
use Rattle.map_lang.specs.Tokens.{is_in_word}
use Rattle.map_lang.proofs.Lexed.{boundary_after, word_ascii}
use Rattle.map_lang.proofs.Cut.{word_found}
use Rattle.map_lang.proofs.lex.word_at.Goals as goal

pub range-requires-clause-end_boundary : goal.range-requires-clause-end_boundary
range-requires-clause-end_boundary c =
    let within = rw c.as_bytes.ensures.value at c.run_of-len.ensures.within in
    let passing = rw c.as_bytes.ensures.value at c.run_of-len.ensures.passing in
    boundary_after is_in_word word_ascii c.args.source.now c.run_of-len.result c.utf8.source within passing

pub returns-clause-found : goal.returns-clause-found
returns-clause-found c =
    let within = rw c.as_bytes.ensures.value at c.run_of-len.ensures.within in
    let passing = rw c.as_bytes.ensures.value at c.run_of-len.ensures.passing in
    let ends = rw c.as_bytes.ensures.value at c.run_of-len.ensures.ends in
    let same : c.run_of-len.result - 0 ≡ c.run_of-len.result = omega arith in
    let word : c.in_ok-word.word ≡ take c.run_of-len.result c.args.source.now = c.in_ok-word.ensures ∙ c.range.ensures.value ∙ ap (λ k. take k c.args.source.now) same in
    rw word (word_found c.args.source.now c.run_of-len.result c.utf8.source within c.requires passing ends)
