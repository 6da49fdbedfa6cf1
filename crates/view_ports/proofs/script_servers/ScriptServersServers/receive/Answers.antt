-- One answer more was given.
use Rattle.std.proofs.Common.{◌≡◌, ◌∷◌, [], ap, ◌∙◌, append-nil, take, arith}
use Rattle.view_ports.specs.declared.script_servers.Answer.{Answer}
use Rattle.view_ports.specs.Script.{lines_in}
use Rattle.view_ports.proofs.Scripts.{lines_in-more}
use Rattle.view_ports.proofs.script_servers.ScriptServersServers.receive.Goals as goal

pub returns-in_ok-line-in-Line-clause-told : goal.returns-in_ok-line-in-Line-clause-told
returns-in_ok-line-in-Line-clause-told c = λ calls gave.
    let s = c.args.self.now in
    let more = lines_in-more s.script.items s.at c.index.result.now (omega (arith, s.script.ok)) c.index.ensures in
    let given : lines_in (c.index.result.now ∷ []) ≡ c.in-Line.line ∷ [] = ap (λ (a : Answer). lines_in (a ∷ [])) c.in-Line.is in
    let same : c.in_ok-line-in-Line.line.items ≡ c.in-Line.line = c.in_ok-line-in-Line.ensures.items ∙ c.as_bytes.ensures.value ∙ c.as_str.ensures in
    cc

pub returns-in-Fail-clause-told : goal.returns-in-Fail-clause-told
returns-in-Fail-clause-told c = λ calls gave.
    let s = c.args.self.now in
    let more = lines_in-more s.script.items s.at c.index.result.now (omega (arith, s.script.ok)) c.index.ensures in
    let given : lines_in (c.index.result.now ∷ []) ≡ [] = ap (λ (a : Answer). lines_in (a ∷ [])) c.in-Fail.is in
    let none = append-nil (lines_in (take s.at s.script.items)) in
    cc
