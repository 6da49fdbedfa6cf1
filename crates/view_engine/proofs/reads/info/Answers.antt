-- The reply is one line.
use Rattle.std.specs.Prelude.{OnOk}
use Rattle.std.proofs.Common.{Result, subst}
use Rattle.std.proofs.lemmas.Result.{on_ok_weaker}
use Rattle.json_terms.specs.declared.fault.NoMemory.{NoMemory}
use Rattle.doc_file.specs.declared.docs.Info.{Info}
use Rattle.view_engine.specs.Answer.{info_text}
use Rattle.view_engine.specs.Calls.{IsReplyLine}
use Rattle.view_engine.proofs.reads.info.Goals as goal

pub returns-clause-line : goal.returns-clause-line
returns-clause-line c =
    on_ok_weaker c.end.result (λ whole. subst (λ (info : Info). IsReplyLine (info_text info)) c.info.ensures.kept
    (subst (λ (r : Result (Unit {0}) NoMemory). OnOk r (IsReplyLine (info_text c.info.result))) whole c.write_info-written.ensures.line)) c.end.ensures.whole
