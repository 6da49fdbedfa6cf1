use Rattle.std.proofs.Common.{sym}
use Rattle.map_lang.proofs.Continued.{err_weaker}
use Rattle.map_lang.proofs.Cut.{mark_found, only_mark, only_text}
use Rattle.map_lang.proofs.lex.token_at.Goals as goal

pub returns-then-first-eq39-clause-refused : goal.returns-then-first-eq39-clause-refused
returns-then-first-eq39-clause-refused c =
    let quote = rw c.as_bytes-bytes.ensures.value at c.if-first-eq39.true in
    err_weaker c.text_at.result _ _ (λ fault h same. only_text c.args.source.now quote (h same)) c.text_at.ensures.refused

pub returns-in-Some-clause-found : goal.returns-in-Some-clause-found
returns-in-Some-clause-found c =
    let found = rw c.as_bytes-bytes.ensures.value at c.in-Some.ensures in
    mark_found c.args.source.now c.in-Some.mark c.in-Some.len c.utf8.source found.0 found.1 found.2

pub returns-in-None-clause-refused : goal.returns-in-None-clause-refused
returns-in-None-clause-refused c =
    let letter = rw c.as_bytes-bytes.ensures.value at (sym c.if-is_letter.ensures) in
    let digit = rw c.as_bytes-bytes.ensures.value at (sym c.if-is_digit.ensures) in
    let sign = rw c.as_bytes-bytes.ensures.value at c.if-first-eq45.false in
    let quote = rw c.as_bytes-bytes.ensures.value at c.if-first-eq39.false in
    let none = rw c.as_bytes-bytes.ensures.value at c.in-None.ensures in
    λ _. only_mark c.args.source.now letter sign digit quote none
