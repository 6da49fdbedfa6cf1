-- Each answer is the case of the definition that the calls before it tell.
use Rattle.std.proofs.Common.{◌≡◌, ◌≢◌, ◌≤◌, Err, inl, inr, sym, ap, ◌∙◌, arith, rules}
use Rattle.serde_json.specs.View.{view}
use Rattle.json_terms.specs.declared.fault.TermFault.TheVariants.{NoMemory}
use Rattle.json_terms.specs.Json.{depth}
use Rattle.json_terms.specs.Reading.{reading}
use Rattle.json_terms.specs.Seen.{json}
use Rattle.json_terms.proofs.Readings.{reading-NotJson, reading-NotWhole, reading-TooDeep, reading-Ok}
use Rattle.json_terms.proofs.read.read_term.Goals as goal

pub returns-in-Err-clause-err : goal.returns-in-Err-clause-err
returns-in-Err-clause-err c =
    λ _. reading-NotJson c.args.bytes.now (c.in-Err.ensures.err (λ m. let h = c.is_memory.ensures.1 m in cc))

pub returns-in_err-term-clause-err : goal.returns-in_err-term-clause-err
returns-in_err-term-clause-err c =
    let known : c.in_err-term.field-0.0 ≢ NoMemory → reading c.args.bytes.now ≡ Err c.in_err-term.field-0.0 =
    elim c.in_err-term.ensures.err [
      | inl fraction ↦ λ _. reading-NotWhole c.args.bytes.now (view c.in-Ok.value) c.in-Ok.ensures.ok.0 c.in-Ok.ensures.ok.1 fraction.1 ∙ ap Err (sym fraction.0)
      | inr memory ↦ λ other. absurd (other memory)
    ] in
    search (rules, known)

pub returns-then-depth_within-clause-ok : goal.returns-then-depth_within-clause-ok
returns-then-depth_within-clause-ok c =
    reading-Ok c.args.bytes.now (view c.in-Ok.value) (json c.in_ok-term.term) c.in-Ok.ensures.ok.0 c.in-Ok.ensures.ok.1 c.in_ok-term.ensures.ok (c.depth_within.ensures.0 c.if-depth_within.true)

pub returns-else-depth_within-clause-err : goal.returns-else-depth_within-clause-err
returns-else-depth_within-clause-err c =
    let over : depth (json c.in_ok-term.term) ≤ 100 → ⊥ = λ h. let within = c.depth_within.ensures.1 h in cc in
    λ _. reading-TooDeep c.args.bytes.now (view c.in-Ok.value) (json c.in_ok-term.term) c.in-Ok.ensures.ok.0 c.in-Ok.ensures.ok.1 c.in_ok-term.ensures.ok (omega arith)
