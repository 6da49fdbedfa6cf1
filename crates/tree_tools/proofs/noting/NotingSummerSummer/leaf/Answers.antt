-- The rows are noted, and the value where there is one.
use Rattle.std.proofs.Common.{rules, ◌≡◌, ◌∷◌, ◌∙◌, ap}
use Rattle.design_docs.specs.declared.design.Builtin.TheVariants as builtin
use Rattle.tree_tools.specs.Noting.{Fails, NotingState}
use Rattle.tree_tools.specs.NotingLaws.{goes_asked, goes_given, noting_steps, since_one}
use Rattle.tree_tools.proofs.Faults.{each_fault}
use Rattle.tree_tools.proofs.noting.NotingSummerSummer.leaf.Goals as goal

pub returns-in_err-sum-clause-cause : goal.returns-in_err-sum-clause-cause
returns-in_err-sum-clause-cause c =
    let old : NotingState = c.args.self.now in
    let mid : NotingState = c.note_asked.new.self in
    let kind : old.kind ≡ builtin.Sum = search rules in
    each_fault {P = Fails old mid} c.from_residual.result (record { goes = goes_asked old mid c.args.items.now c.note_asked.ensures; cause = kind })

pub returns-in_err-sum-clause-asked : goal.returns-in_err-sum-clause-asked
returns-in_err-sum-clause-asked c = since_one c.args.items.now c.args.self.now.asks c.note_asked.new.self.asks (ap (λ (s : NotingState). s.asks) c.note_asked.ensures)

pub returns-clause-goes : goal.returns-clause-goes
returns-clause-goes c =
    let old : NotingState = c.args.self.now in
    let mid : NotingState = c.note_asked.new.self in
    let new : NotingState = c.note_given.new.self in
    noting_steps.both old mid new (goes_asked old mid c.args.items.now c.note_asked.ensures) (goes_given mid new c.in_ok-sum.sum c.note_given.ensures)

pub returns-clause-asked : goal.returns-clause-asked
returns-clause-asked c =
    since_one c.args.items.now c.args.self.now.asks c.note_given.new.self.asks (ap (λ (s : NotingState). s.asks) c.note_given.ensures ∙ ap (λ (s : NotingState). s.asks) c.note_asked.ensures)

pub returns-clause-gave : goal.returns-clause-gave
returns-clause-gave c =
    let sum = c.in_ok-sum.sum in
    since_one sum c.args.self.now.answers c.note_given.new.self.answers (ap (λ (s : NotingState). s.answers) c.note_given.ensures ∙ ap (λ (s : NotingState). sum ∷ s.answers) c.note_asked.ensures)
