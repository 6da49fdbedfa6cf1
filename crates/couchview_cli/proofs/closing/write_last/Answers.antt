-- The line about a file is that of the fault.
use Rattle.std.proofs.Common.{◌≡◌, ◌∙◌, OnOk, ap, sym, subst}
use Rattle.std.specs.Prelude.{codes}
use Rattle.std.specs.Io.KnownBytes.{Appends}
use Rattle.view_engine.specs.declared.halt.StepFault.TheVariants.{Full}
use Rattle.couchview_cli.specs.Closing.{about_file, closing_of}
use Rattle.couchview_cli.proofs.closing.write_last.Goals as goal

pub returns-in-Damaged-clause-ok : goal.returns-in-Damaged-clause-ok
returns-in-Damaged-clause-ok g c =
    let name = c.in-Damaged.name in
    let line : about_file (codes "damaged") name c.as_bytes.result.now ≡ closing_of c.args.fault =
    ap (about_file (codes "damaged") name) (c.as_bytes.ensures.value ∙ c.format-offset.ensures.text) ∙ ap closing_of (sym c.in-Damaged.is) in
    subst (λ text. OnOk c.write_about.result (Appends (g.K.Sink.held c.args.sink.now) (g.K.Sink.held c.write_about.new.sink) text)) line c.write_about.ensures.ok

pub returns-in-Some-clause-ok : goal.returns-in-Some-clause-ok
returns-in-Some-clause-ok g c =
    let name = c.in-Full.name in
    let call = c.write_about-in-Some in
    let line : about_file (codes "full") name c.as_bytes-in-Some.result.now ≡ closing_of c.args.fault =
    ap (about_file (codes "full") name) (c.as_bytes-in-Some.ensures.value ∙ c.format-length.ensures.text) ∙ ap (λ l. closing_of (Full name l)) (sym c.in-Some.is) ∙ ap closing_of (sym c.in-Full.is) in
    subst (λ text. OnOk call.result (Appends (g.K.Sink.held c.args.sink.now) (g.K.Sink.held call.new.sink) text)) line call.ensures.ok

pub returns-in-None-clause-ok : goal.returns-in-None-clause-ok
returns-in-None-clause-ok g c =
    let name = c.in-Full.name in
    let call = c.write_about-in-None in
    let line : about_file (codes "full") name (codes "commits") ≡ closing_of c.args.fault = ap (λ l. closing_of (Full name l)) (sym c.in-None.is) ∙ ap closing_of (sym c.in-Full.is) in
    subst (λ text. OnOk call.result (Appends (g.K.Sink.held c.args.sink.now) (g.K.Sink.held call.new.sink) text)) line call.ensures.ok
