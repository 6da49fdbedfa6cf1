-- The pieces of the line, one after another.
use Rattle.std.proofs.Common.{◌++◌, codes, subst}
use Rattle.std.specs.Io.KnownBytes.{Appends}
use Rattle.std.proofs.KnownBytes.{Appends-trans}
use Rattle.real_ports.specs.FileNames.{file_text}
use Rattle.line_loop.specs.Loops.{FailsIn}
use Rattle.couchview_cli.proofs.Pieces.{behind, in_front, on_err}
use Rattle.view_ports.proofs.Results.{OnErr-map, OnOk-map}
use Rattle.couchview_cli.proofs.closing.write_about.Goals as goal

pub returns-in_err-write_all-clause-err : goal.returns-in_err-write_all-clause-err
returns-in_err-write_all-clause-err g c = on_err c.from_residual.result _
    (in_front (g.K.Sink.held c.args.sink.now) (g.K.Sink.held c.write_all.new.sink) (codes "{\"error\":\"") (c.args.error.now ++ ((codes "\",\"reason\":\"") ++ ((file_text c.args.name.now) ++ ((codes " ") ++ (c.args.what.now ++ (codes "\"}\n")))))) c.in_err-write_all.ensures.err)

pub returns-in_err-write_all-2-clause-err : goal.returns-in_err-write_all-2-clause-err
returns-in_err-write_all-2-clause-err g c = on_err c.from_residual-in_err-write_all-2.result _
    (behind (g.K.Sink.held c.args.sink.now) (g.K.Sink.held c.write_all.new.sink) (g.K.Sink.held c.write_all-2.new.sink) (codes "{\"error\":\"") (c.args.error.now ++ ((codes "\",\"reason\":\"") ++ ((file_text c.args.name.now) ++ ((codes " ") ++ (c.args.what.now ++ (codes "\"}\n"))))))
    c.in_ok-write_all.ensures.ok (in_front (g.K.Sink.held c.write_all.new.sink) (g.K.Sink.held c.write_all-2.new.sink) c.args.error.now ((codes "\",\"reason\":\"") ++ ((file_text c.args.name.now) ++ ((codes " ") ++ (c.args.what.now ++ (codes "\"}\n"))))) c.in_err-write_all-2.ensures.err))

pub returns-in_err-write_all-3-clause-err : goal.returns-in_err-write_all-3-clause-err
returns-in_err-write_all-3-clause-err g c = on_err c.from_residual-in_err-write_all-3.result _
    (behind (g.K.Sink.held c.args.sink.now) (g.K.Sink.held c.write_all.new.sink) (g.K.Sink.held c.write_all-3.new.sink) (codes "{\"error\":\"") (c.args.error.now ++ ((codes "\",\"reason\":\"") ++ ((file_text c.args.name.now) ++ ((codes " ") ++ (c.args.what.now ++ (codes "\"}\n"))))))
    c.in_ok-write_all.ensures.ok (behind (g.K.Sink.held c.write_all.new.sink) (g.K.Sink.held c.write_all-2.new.sink) (g.K.Sink.held c.write_all-3.new.sink) c.args.error.now ((codes "\",\"reason\":\"") ++ ((file_text c.args.name.now) ++ ((codes " ") ++ (c.args.what.now ++ (codes "\"}\n")))))
    c.in_ok-write_all-2.ensures.ok (in_front (g.K.Sink.held c.write_all-2.new.sink) (g.K.Sink.held c.write_all-3.new.sink) (codes "\",\"reason\":\"") ((file_text c.args.name.now) ++ ((codes " ") ++ (c.args.what.now ++ (codes "\"}\n")))) c.in_err-write_all-3.ensures.err)))

pub returns-in_err-write_all-4-clause-err : goal.returns-in_err-write_all-4-clause-err
returns-in_err-write_all-4-clause-err g c = on_err c.from_residual-in_err-write_all-4.result _
    (behind (g.K.Sink.held c.args.sink.now) (g.K.Sink.held c.write_all.new.sink) (g.K.Sink.held c.write_all-4.new.sink) (codes "{\"error\":\"") (c.args.error.now ++ ((codes "\",\"reason\":\"") ++ ((file_text c.args.name.now) ++ ((codes " ") ++ (c.args.what.now ++ (codes "\"}\n"))))))
    c.in_ok-write_all.ensures.ok (behind (g.K.Sink.held c.write_all.new.sink) (g.K.Sink.held c.write_all-2.new.sink) (g.K.Sink.held c.write_all-4.new.sink) c.args.error.now ((codes "\",\"reason\":\"") ++ ((file_text c.args.name.now) ++ ((codes " ") ++ (c.args.what.now ++ (codes "\"}\n")))))
    c.in_ok-write_all-2.ensures.ok (behind (g.K.Sink.held c.write_all-2.new.sink) (g.K.Sink.held c.write_all-3.new.sink) (g.K.Sink.held c.write_all-4.new.sink) (codes "\",\"reason\":\"") ((file_text c.args.name.now) ++ ((codes " ") ++ (c.args.what.now ++ (codes "\"}\n"))))
    c.in_ok-write_all-3.ensures.ok (in_front (g.K.Sink.held c.write_all-3.new.sink) (g.K.Sink.held c.write_all-4.new.sink) (file_text c.args.name.now) ((codes " ") ++ (c.args.what.now ++ (codes "\"}\n"))) (subst (FailsIn (g.K.Sink.held c.write_all-3.new.sink) (g.K.Sink.held c.write_all-4.new.sink)) c.file_text.ensures c.in_err-write_all-4.ensures.err)))))

pub returns-in_err-write_all-5-clause-err : goal.returns-in_err-write_all-5-clause-err
returns-in_err-write_all-5-clause-err g c = on_err c.from_residual-in_err-write_all-5.result _
    (behind (g.K.Sink.held c.args.sink.now) (g.K.Sink.held c.write_all.new.sink) (g.K.Sink.held c.write_all-5.new.sink) (codes "{\"error\":\"") (c.args.error.now ++ ((codes "\",\"reason\":\"") ++ ((file_text c.args.name.now) ++ ((codes " ") ++ (c.args.what.now ++ (codes "\"}\n"))))))
    c.in_ok-write_all.ensures.ok (behind (g.K.Sink.held c.write_all.new.sink) (g.K.Sink.held c.write_all-2.new.sink) (g.K.Sink.held c.write_all-5.new.sink) c.args.error.now ((codes "\",\"reason\":\"") ++ ((file_text c.args.name.now) ++ ((codes " ") ++ (c.args.what.now ++ (codes "\"}\n")))))
    c.in_ok-write_all-2.ensures.ok (behind (g.K.Sink.held c.write_all-2.new.sink) (g.K.Sink.held c.write_all-3.new.sink) (g.K.Sink.held c.write_all-5.new.sink) (codes "\",\"reason\":\"") ((file_text c.args.name.now) ++ ((codes " ") ++ (c.args.what.now ++ (codes "\"}\n"))))
    c.in_ok-write_all-3.ensures.ok (behind (g.K.Sink.held c.write_all-3.new.sink) (g.K.Sink.held c.write_all-4.new.sink) (g.K.Sink.held c.write_all-5.new.sink) (file_text c.args.name.now) ((codes " ") ++ (c.args.what.now ++ (codes "\"}\n")))
    (subst (Appends (g.K.Sink.held c.write_all-3.new.sink) (g.K.Sink.held c.write_all-4.new.sink)) c.file_text.ensures c.in_ok-write_all-4.ensures.ok) (in_front (g.K.Sink.held c.write_all-4.new.sink) (g.K.Sink.held c.write_all-5.new.sink) (codes " ") (c.args.what.now ++ (codes "\"}\n")) c.in_err-write_all-5.ensures.err)))))

pub returns-in_err-write_all-6-clause-err : goal.returns-in_err-write_all-6-clause-err
returns-in_err-write_all-6-clause-err g c = on_err c.from_residual-in_err-write_all-6.result _
    (behind (g.K.Sink.held c.args.sink.now) (g.K.Sink.held c.write_all.new.sink) (g.K.Sink.held c.write_all-6.new.sink) (codes "{\"error\":\"") (c.args.error.now ++ ((codes "\",\"reason\":\"") ++ ((file_text c.args.name.now) ++ ((codes " ") ++ (c.args.what.now ++ (codes "\"}\n"))))))
    c.in_ok-write_all.ensures.ok (behind (g.K.Sink.held c.write_all.new.sink) (g.K.Sink.held c.write_all-2.new.sink) (g.K.Sink.held c.write_all-6.new.sink) c.args.error.now ((codes "\",\"reason\":\"") ++ ((file_text c.args.name.now) ++ ((codes " ") ++ (c.args.what.now ++ (codes "\"}\n")))))
    c.in_ok-write_all-2.ensures.ok (behind (g.K.Sink.held c.write_all-2.new.sink) (g.K.Sink.held c.write_all-3.new.sink) (g.K.Sink.held c.write_all-6.new.sink) (codes "\",\"reason\":\"") ((file_text c.args.name.now) ++ ((codes " ") ++ (c.args.what.now ++ (codes "\"}\n"))))
    c.in_ok-write_all-3.ensures.ok (behind (g.K.Sink.held c.write_all-3.new.sink) (g.K.Sink.held c.write_all-4.new.sink) (g.K.Sink.held c.write_all-6.new.sink) (file_text c.args.name.now) ((codes " ") ++ (c.args.what.now ++ (codes "\"}\n")))
    (subst (Appends (g.K.Sink.held c.write_all-3.new.sink) (g.K.Sink.held c.write_all-4.new.sink)) c.file_text.ensures c.in_ok-write_all-4.ensures.ok) (behind (g.K.Sink.held c.write_all-4.new.sink) (g.K.Sink.held c.write_all-5.new.sink) (g.K.Sink.held c.write_all-6.new.sink) (codes " ") (c.args.what.now ++ (codes "\"}\n"))
    c.in_ok-write_all-5.ensures.ok (in_front (g.K.Sink.held c.write_all-5.new.sink) (g.K.Sink.held c.write_all-6.new.sink) c.args.what.now (codes "\"}\n") c.in_err-write_all-6.ensures.err))))))

pub returns-clause-ok : goal.returns-clause-ok
returns-clause-ok g c = OnOk-map c.write_all-7.result _ _ (λ wrote. (Appends-trans (g.K.Sink.held c.args.sink.now) (g.K.Sink.held c.write_all.new.sink) (g.K.Sink.held c.write_all-7.new.sink) (codes "{\"error\":\"") (c.args.error.now ++ ((codes "\",\"reason\":\"") ++ ((file_text c.args.name.now) ++ ((codes " ") ++ (c.args.what.now ++ (codes "\"}\n"))))))
    c.in_ok-write_all.ensures.ok (Appends-trans (g.K.Sink.held c.write_all.new.sink) (g.K.Sink.held c.write_all-2.new.sink) (g.K.Sink.held c.write_all-7.new.sink) c.args.error.now ((codes "\",\"reason\":\"") ++ ((file_text c.args.name.now) ++ ((codes " ") ++ (c.args.what.now ++ (codes "\"}\n")))))
    c.in_ok-write_all-2.ensures.ok (Appends-trans (g.K.Sink.held c.write_all-2.new.sink) (g.K.Sink.held c.write_all-3.new.sink) (g.K.Sink.held c.write_all-7.new.sink) (codes "\",\"reason\":\"") ((file_text c.args.name.now) ++ ((codes " ") ++ (c.args.what.now ++ (codes "\"}\n"))))
    c.in_ok-write_all-3.ensures.ok (Appends-trans (g.K.Sink.held c.write_all-3.new.sink) (g.K.Sink.held c.write_all-4.new.sink) (g.K.Sink.held c.write_all-7.new.sink) (file_text c.args.name.now) ((codes " ") ++ (c.args.what.now ++ (codes "\"}\n")))
    (subst (Appends (g.K.Sink.held c.write_all-3.new.sink) (g.K.Sink.held c.write_all-4.new.sink)) c.file_text.ensures c.in_ok-write_all-4.ensures.ok) (Appends-trans (g.K.Sink.held c.write_all-4.new.sink) (g.K.Sink.held c.write_all-5.new.sink) (g.K.Sink.held c.write_all-7.new.sink) (codes " ") (c.args.what.now ++ (codes "\"}\n"))
    c.in_ok-write_all-5.ensures.ok (Appends-trans (g.K.Sink.held c.write_all-5.new.sink) (g.K.Sink.held c.write_all-6.new.sink) (g.K.Sink.held c.write_all-7.new.sink) c.args.what.now (codes "\"}\n")
    c.in_ok-write_all-6.ensures.ok wrote))))))) c.write_all-7.ensures.ok

pub returns-clause-err : goal.returns-clause-err
returns-clause-err g c = OnErr-map c.write_all-7.result _ _ (λ stopped. (behind (g.K.Sink.held c.args.sink.now) (g.K.Sink.held c.write_all.new.sink) (g.K.Sink.held c.write_all-7.new.sink) (codes "{\"error\":\"") (c.args.error.now ++ ((codes "\",\"reason\":\"") ++ ((file_text c.args.name.now) ++ ((codes " ") ++ (c.args.what.now ++ (codes "\"}\n"))))))
    c.in_ok-write_all.ensures.ok (behind (g.K.Sink.held c.write_all.new.sink) (g.K.Sink.held c.write_all-2.new.sink) (g.K.Sink.held c.write_all-7.new.sink) c.args.error.now ((codes "\",\"reason\":\"") ++ ((file_text c.args.name.now) ++ ((codes " ") ++ (c.args.what.now ++ (codes "\"}\n")))))
    c.in_ok-write_all-2.ensures.ok (behind (g.K.Sink.held c.write_all-2.new.sink) (g.K.Sink.held c.write_all-3.new.sink) (g.K.Sink.held c.write_all-7.new.sink) (codes "\",\"reason\":\"") ((file_text c.args.name.now) ++ ((codes " ") ++ (c.args.what.now ++ (codes "\"}\n"))))
    c.in_ok-write_all-3.ensures.ok (behind (g.K.Sink.held c.write_all-3.new.sink) (g.K.Sink.held c.write_all-4.new.sink) (g.K.Sink.held c.write_all-7.new.sink) (file_text c.args.name.now) ((codes " ") ++ (c.args.what.now ++ (codes "\"}\n")))
    (subst (Appends (g.K.Sink.held c.write_all-3.new.sink) (g.K.Sink.held c.write_all-4.new.sink)) c.file_text.ensures c.in_ok-write_all-4.ensures.ok) (behind (g.K.Sink.held c.write_all-4.new.sink) (g.K.Sink.held c.write_all-5.new.sink) (g.K.Sink.held c.write_all-7.new.sink) (codes " ") (c.args.what.now ++ (codes "\"}\n"))
    c.in_ok-write_all-5.ensures.ok (behind (g.K.Sink.held c.write_all-5.new.sink) (g.K.Sink.held c.write_all-6.new.sink) (g.K.Sink.held c.write_all-7.new.sink) c.args.what.now (codes "\"}\n")
    c.in_ok-write_all-6.ensures.ok stopped))))))) c.write_all-7.ensures.err
