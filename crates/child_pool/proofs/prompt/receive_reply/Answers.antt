-- Log lines, and then the answer.
use Rattle.std.proofs.Common.{◌≡◌, ℕ, [], ◌∷◌, Some, None, Ok, Err, subst, inl, arith}
use Rattle.child_pool.specs.declared.heard.Heard.{Heard}
use Rattle.child_pool.specs.Histories.{Went}
use Rattle.child_pool.specs.Outcomes.{AfterLine, AfterPrompt}
use Rattle.child_pool.specs.Sessions.{IsInSession}
use Rattle.child_pool.proofs.Going.{Went-map}
use Rattle.child_pool.proofs.Prompts.{logs_more, prompt_later}
use Rattle.child_pool.proofs.prompt.receive_reply.Goals as goal

pub returns-in-Ok-Answer-clause-went : goal.returns-in-Ok-Answer-clause-went
returns-in-Ok-Answer-clause-went g c = λ job sources prompt calls follows is of at.
    let functions = g.C.Servers.functions in
    let honest = g.C.Servers.honest in
    let slot = c.args.slot in
    let w = c.loop-logs.invariant.1 job sources prompt calls follows is of at in
    let v = subst (λ (h : Heard). Went (g.C.Servers.may_follow c.receive_line.new.servers) job slot w.now (AfterLine functions honest job sources prompt c.loop-logs.logs slot (Ok h) w.now)) c.in-Ok-Answer.field-0-is (c.in-Ok-Answer.ensures.went job sources prompt w.now w.follows is of w.holds.0) in
    prompt_later functions honest job sources prompt [] (Ok (Some c.in-Ok-Answer.reply)) w w.holds.1 v

pub returns-in-Ok-Failed-clause-went : goal.returns-in-Ok-Failed-clause-went
returns-in-Ok-Failed-clause-went g c = λ job sources prompt calls follows is of at.
    let functions = g.C.Servers.functions in
    let honest = g.C.Servers.honest in
    let slot = c.args.slot in
    let w = c.loop-logs.invariant.1 job sources prompt calls follows is of at in
    let v = subst (λ (h : Heard). Went (g.C.Servers.may_follow c.receive_line.new.servers) job slot w.now (AfterLine functions honest job sources prompt c.loop-logs.logs slot (Ok h) w.now)) c.in-Ok-Failed.field-0-is (c.in-Ok-Failed.ensures.went job sources prompt w.now w.follows is of w.holds.0) in
    prompt_later functions honest job sources prompt [] (Ok None) w w.holds.1 (Went-map v (AfterPrompt functions honest job sources prompt slot [] (Ok None) w.now) (inl v.holds))

pub returns-in-Err-clause-went : goal.returns-in-Err-clause-went
returns-in-Err-clause-went g c = λ job sources prompt calls follows is of at.
    let functions = g.C.Servers.functions in
    let honest = g.C.Servers.honest in
    let slot = c.args.slot in
    let w = c.loop-logs.invariant.1 job sources prompt calls follows is of at in
    let v = c.in-Err.ensures.went job sources prompt w.now w.follows is of w.holds.0 in
    prompt_later functions honest job sources prompt [] (Err c.in-Err.fault) w w.holds.1 v

pub loop-logs-preserved : goal.loop-logs-preserved
loop-logs-preserved g c = (
  omega (arith, c.loop-logs.invariant.0, c.in-Ok-Log.ensures.ends.later),
  λ job sources prompt calls follows is of at.
      let functions = g.C.Servers.functions in
      let honest = g.C.Servers.honest in
      let slot = c.args.slot in
      let w = c.loop-logs.invariant.1 job sources prompt calls follows is of at in
      let v = subst (λ (h : Heard). Went (g.C.Servers.may_follow c.receive_line.new.servers) job slot w.now (AfterLine functions honest job sources prompt c.loop-logs.logs slot (Ok h) w.now)) c.in-Ok-Log.field-0-is (c.in-Ok-Log.ensures.went job sources prompt w.now w.follows is of w.holds.0) in
      logs_more functions honest job sources prompt c.loop-logs.logs w v,
)

pub returns-in-Ok-Answer-receive_line-clause-went : goal.returns-in-Ok-Answer-receive_line-clause-went
returns-in-Ok-Answer-receive_line-clause-went g c = λ job sources prompt calls follows is of at.
    let functions = g.C.Servers.functions in
    let honest = g.C.Servers.honest in
    let slot = c.args.slot in
    let w = c.loop-logs.invariant.1 job sources prompt calls follows is of at in
    let all : c.loop-logs.logs ≡ 1000 = omega arith in
    let there : IsInSession job.path sources (prompt ∷ []) 1000 slot w.now = subst (λ (logs : ℕ). IsInSession job.path sources (prompt ∷ []) logs slot w.now) all w.holds.0 in
    let v = subst (λ (h : Heard). Went (g.C.Servers.may_follow c.receive_line-2.new.servers) job slot w.now (AfterLine functions honest job sources prompt 1000 slot (Ok h) w.now)) c.in-Ok-Answer-receive_line.field-0-is (c.in-Ok-Answer-receive_line.ensures.went job sources prompt w.now w.follows is of there) in
    prompt_later functions honest job sources prompt [] (Ok (Some c.in-Ok-Answer-receive_line.reply)) w w.holds.1 v

pub returns-in-Ok-Failed-receive_line-clause-went : goal.returns-in-Ok-Failed-receive_line-clause-went
returns-in-Ok-Failed-receive_line-clause-went g c = λ job sources prompt calls follows is of at.
    let functions = g.C.Servers.functions in
    let honest = g.C.Servers.honest in
    let slot = c.args.slot in
    let w = c.loop-logs.invariant.1 job sources prompt calls follows is of at in
    let all : c.loop-logs.logs ≡ 1000 = omega arith in
    let there : IsInSession job.path sources (prompt ∷ []) 1000 slot w.now = subst (λ (logs : ℕ). IsInSession job.path sources (prompt ∷ []) logs slot w.now) all w.holds.0 in
    let v = subst (λ (h : Heard). Went (g.C.Servers.may_follow c.receive_line-2.new.servers) job slot w.now (AfterLine functions honest job sources prompt 1000 slot (Ok h) w.now)) c.in-Ok-Failed-receive_line.field-0-is (c.in-Ok-Failed-receive_line.ensures.went job sources prompt w.now w.follows is of there) in
    prompt_later functions honest job sources prompt [] (Ok None) w w.holds.1 (Went-map v (AfterPrompt functions honest job sources prompt slot [] (Ok None) w.now) (inl v.holds))

pub returns-in-Err-receive_line-clause-went : goal.returns-in-Err-receive_line-clause-went
returns-in-Err-receive_line-clause-went g c = λ job sources prompt calls follows is of at.
    let functions = g.C.Servers.functions in
    let honest = g.C.Servers.honest in
    let slot = c.args.slot in
    let w = c.loop-logs.invariant.1 job sources prompt calls follows is of at in
    let all : c.loop-logs.logs ≡ 1000 = omega arith in
    let there : IsInSession job.path sources (prompt ∷ []) 1000 slot w.now = subst (λ (logs : ℕ). IsInSession job.path sources (prompt ∷ []) logs slot w.now) all w.holds.0 in
    let v = c.in-Err-receive_line.ensures.went job sources prompt w.now w.follows is of there in
    prompt_later functions honest job sources prompt [] (Err c.in-Err-receive_line.fault) w w.holds.1 v
