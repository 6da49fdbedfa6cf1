-- Nothing happens in a run that has ended.
use Rattle.std.specs.Prelude.{◌≡◌, ℕ, zero, suc, ◌≤◌, ◌<◌, List, [], ◌∷◌, ◌++◌, length, map, true, cond, reverse, refl}
use Rattle.std.proofs.Common.{◌∙◌, sym, ap, arith, get_or}
use Rattle.std.proofs.lemmas.List.{reverse-append}
use Rattle.json_terms.specs.declared.term.Term.{Term}
use Rattle.json_terms.specs.Json.{Json}
use Rattle.json_terms.specs.Seen.{json}
use Rattle.map_lang.specs.declared.syntax.Statement.{Statement}
use Rattle.map_lang.specs.Syntax.{stmt_nesting, stmts_of, stmts_nesting}
use Rattle.map_lang.specs.SeenStatements.{stmt_of}
use Rattle.map_lang.specs.Meaning.{Event, turn, Run, goes_on, step, after, each_turn}

-- the statement at i of a block
pub stmt_nesting_at : (ss : List Statement) (i : ℕ) (s : Statement) → i < length ss → s ≡ get_or ss i s → stmt_nesting (stmt_of s) ≤ stmts_nesting (stmts_of (map stmt_of ss))
stmt_nesting_at [] i s within is = absurd (omega arith)
stmt_nesting_at (x ∷ ss) zero s within is = let same : stmt_nesting (stmt_of s) ≡ stmt_nesting (stmt_of x) = ap (λ y. stmt_nesting (stmt_of y)) is in omega arith
stmt_nesting_at (x ∷ ss) (suc i) s within is = let rest = stmt_nesting_at ss i s (omega arith) is in omega arith

pub after_ended : (run : Run) (events : List Event) → run.ended ≡ true → after run events ≡ run
after_ended run [] h = refl
after_ended run (e ∷ events) h =
    let stays : step run e ≡ run = ap (λ b. cond b run (goes_on run e)) h in
    ap (λ r. after r events) stays ∙ after_ended run events h

pub reverse_last : (values rest : List Term) (v : Term) → values ≡ rest ++ v ∷ [] → reverse values ≡ v ∷ reverse rest
reverse_last values rest v e = ap reverse e ∙ reverse-append rest (v ∷ [])

-- the run ends at a turn, and the other turns make no difference
pub turns_ended : (block : Json → List Event) (old new whole : Run) (values rest : List Term) (v : Term) → values ≡ rest ++ v ∷ [] → new ≡ step old turn → new.ended ≡ true → after old (each_turn block (map json (reverse values))) ≡ whole → new ≡ whole
turns_ended block old new whole values rest v e turned ended all =
    let later : List Event = block (json v) ++ each_turn block (map json (reverse rest)) in
    sym (after_ended new later ended) ∙ ap (λ r. after r later) turned ∙ ap (λ vs. after old (each_turn block (map json vs))) (sym (reverse_last values rest v e)) ∙ all
