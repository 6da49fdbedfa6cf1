-- The documents are mapped by the design's path and sources.
use Rattle.std.proofs.Common.{◌≡◌, ◌∙◌, [], Some, None, Err, sym, subst, inl, inr, arith}
use Rattle.view_ports.specs.Faults.{Rose}
use Rattle.design_docs.specs.Design.{map_sources}
use Rattle.child_pool.specs.declared.pool_fault.PoolFault.{PoolFault}
use Rattle.child_pool.specs.declared.pool_fault.PoolFault.TheVariants.{NoMemory}
use Rattle.child_pool.specs.Histories.{Went}
use Rattle.child_pool.specs.Jobs.{job_of}
use Rattle.child_pool.specs.PoolCalls.{path_for}
use Rattle.child_pool.specs.Pools.{AfterMapping, StandReady}
use Rattle.child_pool.specs.Refused.{Refused}
use Rattle.child_pool.specs.Prompts.{document_prompts}
use Rattle.child_pool.proofs.Going.{Went-none}
use Rattle.child_pool.proofs.Pooled.{for_job, one_path}
use Rattle.child_pool.proofs.Trying.{stops_first}
use Rattle.child_pool.proofs.pool.Pool.try_map.Goals as goal

pub returns-in-Ok-clause-went : goal.returns-in-Ok-clause-went
returns-in-Ok-clause-went g c = λ path all slots kept calls follows known among within few enough stand.
    let functions = g.C.Servers.functions in
    let honest = g.C.Servers.honest in
    let documents = c.args.documents.now in
    let rose = Rose (g.C.Servers.faults c.args.servers.now) (g.C.Servers.faults c.map_each.new.servers) in
    let same_path : c.as_str.result.now ≡ path = c.as_str.ensures ∙ one_path (path_for c.args.self.now c.args.design.now) c.in-Ok.plan.path path c.in-Ok.ensures.path known in
    let same_sources : c.as_slice.result.now ≡ map_sources c.args.design.now.views = c.as_slice.ensures.value ∙ c.in-Ok.ensures.sources in
    let here = for_job (λ p s. StandReady functions honest (job_of p s all) slots kept calls) (sym same_path) (sym same_sources) stand in
    let one = c.args.self.now.one_child in
    for_job (λ p s. Went (g.C.Servers.may_follow c.map_each.new.servers) (job_of p s all) 0 calls (AfterMapping functions honest (job_of p s all) slots kept documents rose c.map_each.result calls)) same_path same_sources
    (c.map_each.ensures.went all slots kept calls follows among (omega (arith, one, within)) (omega (arith, one, few)) (omega (arith, one, enough)) here)

pub returns-in-Err-clause-went : goal.returns-in-Err-clause-went
returns-in-Err-clause-went g c = λ path all slots kept calls follows known among within few enough stand.
    let functions = g.C.Servers.functions in
    let honest = g.C.Servers.honest in
    let job = job_of path (map_sources c.args.design.now.views) all in
    let documents = c.args.documents.now in
    let rose = Rose (g.C.Servers.faults c.args.servers.now) (g.C.Servers.faults c.args.servers.now) in
    let prompts = document_prompts job.sources documents in
    let memory : c.in-Err.fault ≡ NoMemory = elim c.in-Err.ensures.refused [
      | inl memory ↦ memory
      | inr language ↦ let never : Some path ≡ None = sym known ∙ language.1 in absurd cc
    ] in
    Went-none follows (AfterMapping functions honest job slots kept documents rose (Err c.in-Err.fault) calls)
    (subst (λ (f : PoolFault). Refused functions honest job prompts rose f calls []) (sym memory) (record { caused = tt; stops = stops_first rose prompts }))
