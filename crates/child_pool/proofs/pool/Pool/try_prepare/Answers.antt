-- The children are made ready by the design's path and sources.
use Rattle.std.proofs.Common.{◌≡◌, ◌∙◌, ℕ, List, [], max, OnOk, Some, None, Ok, Err, Result, refl, sym, ap, subst, inl, inr, arith}
use Rattle.view_ports.specs.Faults.{Rose}
use Rattle.design_docs.specs.Design.{map_sources}
use Rattle.child_pool.specs.declared.pool_fault.PoolFault.{PoolFault}
use Rattle.child_pool.specs.declared.pool_fault.PoolFault.TheVariants.{NoMemory}
use Rattle.child_pool.specs.Histories.{WentIn}
use Rattle.child_pool.specs.Jobs.{job_of}
use Rattle.child_pool.specs.PoolCalls.{AreLeft, path_for}
use Rattle.child_pool.specs.Pools.{AfterReadying, AfterTrying, IsKeptOf, AreThere}
use Rattle.child_pool.specs.Prompts.{slots_prompts}
use Rattle.child_pool.specs.Refused.{Refused}
use Rattle.child_pool.proofs.Pooled.{for_job, kept_there, one_path, prepared_pool, some_kept, unasked_pool, unprepared_pool}
use Rattle.child_pool.proofs.Slots.{none_in}
use Rattle.child_pool.proofs.Trying.{stops_first}
use Rattle.child_pool.proofs.pool.Pool.try_prepare.Goals as goal

pub returns-in-Err-clause-went : goal.returns-in-Err-clause-went
returns-in-Err-clause-went g c = λ path documents calls follows known stands.
    let functions = g.C.Servers.functions in
    let honest = g.C.Servers.honest in
    let job = job_of path (map_sources c.args.design.now.views) documents in
    let width = c.args.self.now.width in
    let rose = Rose (g.C.Servers.faults c.args.servers.now) (g.C.Servers.faults c.args.servers.now) in
    let kept = some_kept c.args.self.now path c.args.self.now.started refl in
    let memory : c.in-Err.fault ≡ NoMemory = elim c.in-Err.ensures.refused [
      | inl memory ↦ memory
      | inr language ↦ let never : Some path ≡ None = sym known ∙ language.1 in absurd cc
    ] in
    let prompts = slots_prompts job.sources kept.0 c.args.slots in
    none_in follows (AfterTrying functions honest job c.args.self.now c.args.slots rose c.args.self.now (Err c.in-Err.fault) calls)
    (kept.0, kept.1, subst (λ (f : PoolFault). Refused functions honest job prompts rose f calls []) (sym memory) (record { caused = tt; stops = stops_first rose prompts }))

pub returns-then-slots-eq0-clause-went : goal.returns-then-slots-eq0-clause-went
returns-then-slots-eq0-clause-went g c = λ path documents calls follows known stands.
    let job = job_of path (map_sources c.args.design.now.views) documents in
    unasked_pool g.C.Servers.functions g.C.Servers.honest job c.args.self.now c.args.slots _ c.if-slots-eq0.true follows stands

pub returns-in-Ok-prepare_slots-clause-went : goal.returns-in-Ok-prepare_slots-clause-went
returns-in-Ok-prepare_slots-clause-went g c = λ path documents calls follows known stands.
    let functions = g.C.Servers.functions in
    let honest = g.C.Servers.honest in
    let width = c.args.self.now.width in
    let slots = c.args.slots in
    let kept = c.count_of-kept.result in
    let rose = Rose (g.C.Servers.faults c.args.servers.now) (g.C.Servers.faults c.prepare_slots.new.servers) in
    let mine : c.in-Ok.plan.path ≡ path = one_path (path_for c.args.self.now c.args.design.now) c.in-Ok.plan.path path c.in-Ok.ensures.path known in
    let same_path : c.as_str-2.result.now ≡ path = c.as_str-2.ensures ∙ mine in
    let same_sources : c.as_slice.result.now ≡ map_sources c.args.design.now.views = c.as_slice.ensures.value ∙ c.in-Ok.ensures.sources in
    let was = subst (λ (p : List ℕ). IsKeptOf c.args.self.now p kept) (c.as_str.ensures ∙ mine) c.count_of-kept.ensures in
    let there = kept_there c.args.self.now path kept calls was stands in
    let here = subst (λ (p : List ℕ). AreThere p kept calls) (sym same_path) there.1 in
    let result = subst (λ (r : Result (Unit {0}) PoolFault). WentIn (g.C.Servers.may_follow c.prepare_slots.new.servers) (job_of c.as_str-2.result.now c.as_slice.result.now documents) width calls
    (λ added now. AfterReadying functions honest (job_of c.as_str-2.result.now c.as_slice.result.now documents) kept slots rose r calls added now × OnOk r (AreThere c.as_str-2.result.now kept now × AreLeft slots calls now))) c.in-Ok-prepare_slots.is (c.prepare_slots.ensures.went width documents calls c.requires.slots follows here) in
    let count = c.max.result in
    let most : count ≡ max slots kept = c.max.ensures in
    prepared_pool functions honest (job_of path (map_sources c.args.design.now.views) documents) c.args.self.now slots kept count rose _ was most (omega (arith, most, there.0, c.requires.slots)) (ap (λ (p : List ℕ). Some (record { path = p; count = count })) mine)
    refl refl c.requires.slots stands.reducing
    (for_job (λ p s. WentIn (g.C.Servers.may_follow c.prepare_slots.new.servers) (job_of p s documents) width calls (λ added now. AfterReadying functions honest (job_of p s documents) kept slots rose (Ok tt) calls added now × (AreThere p kept now × AreLeft slots calls now))) same_path same_sources result)

pub returns-in-Err-prepare_slots-clause-went : goal.returns-in-Err-prepare_slots-clause-went
returns-in-Err-prepare_slots-clause-went g c = λ path documents calls follows known stands.
    let functions = g.C.Servers.functions in
    let honest = g.C.Servers.honest in
    let width = c.args.self.now.width in
    let slots = c.args.slots in
    let kept = c.count_of-kept.result in
    let rose = Rose (g.C.Servers.faults c.args.servers.now) (g.C.Servers.faults c.prepare_slots.new.servers) in
    let mine : c.in-Ok.plan.path ≡ path = one_path (path_for c.args.self.now c.args.design.now) c.in-Ok.plan.path path c.in-Ok.ensures.path known in
    let same_path : c.as_str-2.result.now ≡ path = c.as_str-2.ensures ∙ mine in
    let same_sources : c.as_slice.result.now ≡ map_sources c.args.design.now.views = c.as_slice.ensures.value ∙ c.in-Ok.ensures.sources in
    let was = subst (λ (p : List ℕ). IsKeptOf c.args.self.now p kept) (c.as_str.ensures ∙ mine) c.count_of-kept.ensures in
    let there = kept_there c.args.self.now path kept calls was stands in
    let here = subst (λ (p : List ℕ). AreThere p kept calls) (sym same_path) there.1 in
    let result = subst (λ (r : Result (Unit {0}) PoolFault). WentIn (g.C.Servers.may_follow c.prepare_slots.new.servers) (job_of c.as_str-2.result.now c.as_slice.result.now documents) width calls
    (λ added now. AfterReadying functions honest (job_of c.as_str-2.result.now c.as_slice.result.now documents) kept slots rose r calls added now × OnOk r (AreThere c.as_str-2.result.now kept now × AreLeft slots calls now))) c.in-Err-prepare_slots.is (c.prepare_slots.ensures.went width documents calls c.requires.slots follows here) in
    unprepared_pool functions honest (job_of path (map_sources c.args.design.now.views) documents) c.args.self.now slots kept rose c.args.self.now c.in-Err-prepare_slots.fault was
    (for_job (λ p s. WentIn (g.C.Servers.may_follow c.prepare_slots.new.servers) (job_of p s documents) width calls (λ added now. AfterReadying functions honest (job_of p s documents) kept slots rose (Err c.in-Err-prepare_slots.fault) calls added now × Unit {0})) same_path same_sources result)
