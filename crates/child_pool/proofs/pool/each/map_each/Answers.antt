-- One document more is mapped, or refused.
use Rattle.std.proofs.Common.{◌≡◌, ◌<◌, ◌∙◌, ◌+◌, ◌++◌, ◌∷◌, ℕ, List, [], length, take, drop, take-append-drop, get_or, Err, Bool, cond, refl, sym, ap, subst, arith}
use Rattle.std.proofs.lemmas.List.{take_all, take_more}
use Rattle.json_terms.specs.Json.{Json}
use Rattle.view_ports.specs.Faults.{Rose}
use Rattle.child_pool.specs.declared.pool_fault.PoolFault.TheVariants.{NoMemory}
use Rattle.child_pool.specs.Histories.{Went}
use Rattle.child_pool.specs.Jobs.{IsAmong, job_of}
use Rattle.child_pool.specs.Mapping.{AreBounded}
use Rattle.child_pool.specs.Pools.{AfterMapping, HasMappedEach}
use Rattle.child_pool.proofs.Attempts.{Rose-wider}
use Rattle.child_pool.proofs.Batches.{all_at, bounded_more, forgotten_more, mapped_more, no_rows, refused_more}
use Rattle.child_pool.proofs.Going.{Went-map, Went-none, Went-then}
use Rattle.child_pool.proofs.pool.each.map_each.Goals as goal

pub loop-document-init : goal.loop-document-init
loop-document-init g c = (
  omega arith,
  λ all slots kept calls follows among one few enough stand.
      let job = job_of c.args.path.now c.args.sources.now all in
      let rose = Rose (g.C.Servers.faults c.args.servers.now) (g.C.Servers.faults c.args.servers.now) in
      subst (λ lists. Went (g.C.Servers.may_follow c.args.servers.now) job 0 calls (HasMappedEach g.C.Servers.functions g.C.Servers.honest job slots kept [] rose lists)) (sym c.new-lists.ensures)
      (Went-none follows (HasMappedEach g.C.Servers.functions g.C.Servers.honest job slots kept [] rose []) (record { stand = stand; answered = refl; rows = no_rows g.C.Servers.functions g.C.Servers.honest job })),
  subst (AreBounded (length c.args.sources.now) 0) (sym c.new-lists.ensures) (record { each = refl; all = tt; parts = tt; few = tt }),
)

pub loop-document-preserved : goal.loop-document-preserved
loop-document-preserved g c =
    let pushed : c.push.new.self ≡ c.loop-document.lists ++ c.in-Ok.rows ∷ [] = c.push.ensures ∙ ap (λ (b : Bool). cond b (c.loop-document.lists ++ c.in-Ok.rows ∷ []) c.loop-document.lists) c.if-is_err.ensures.negation in (
      omega (arith, c.loop-document.invariant.0, c.map_one.ensures.ends.later),
      λ all slots kept calls follows among one few enough stand.
          let functions = g.C.Servers.functions in
          let honest = g.C.Servers.honest in
          let job = job_of c.args.path.now c.args.sources.now all in
          let terms = c.args.documents.now in
          let i = c.loop-document.document-index in
          let document = c.document-item.result in
          let is : get_or terms i c.document-item.result ≡ document = sym c.document-item.is in
          let within : i < length terms = omega arith in
          let more : take (i + 1) terms ≡ take i terms ++ document ∷ [] = take_more terms i c.document-item.result within ∙ ap (λ (d : List (List ℕ × Json)). take i terms ++ d ∷ []) is in
          let here : IsAmong all document = subst (IsAmong all) is (all_at (IsAmong all) terms i c.document-item.result within among) in
          let x = g.C.Servers.faults c.args.servers.now in
          let y = g.C.Servers.faults c.loop-document.servers in
          let z = g.C.Servers.faults c.map_one.new.servers in
          let w = c.loop-document.invariant.1 all slots kept calls follows among one few enough stand in
          let v = c.in-Ok.ensures.went all w.now w.follows here (w.holds.stand.told 0 (omega (arith, enough, within))) in
          let went = mapped_more functions honest job slots kept one few (take i terms) document c.loop-document.lists c.in-Ok.rows (Rose x y) (Rose y z) (Rose x z)
          (Rose-wider x x y z (omega arith) c.map_one.ensures.ends.later) (Rose-wider x y z z c.loop-document.invariant.0 (omega arith)) w v in
          subst (λ lists. Went (g.C.Servers.may_follow c.map_one.new.servers) job 0 calls (HasMappedEach functions honest job slots kept (take (i + 1) terms) (Rose x z) lists)) (sym pushed)
          (subst (λ documents. Went (g.C.Servers.may_follow c.map_one.new.servers) job 0 calls (HasMappedEach functions honest job slots kept documents (Rose x z) (c.loop-document.lists ++ c.in-Ok.rows ∷ []))) (sym more) went),
      subst (AreBounded (length c.args.sources.now) (c.loop-document.document-index + 1)) (sym pushed)
          (bounded_more (length c.args.sources.now) c.loop-document.document-index c.loop-document.lists c.in-Ok.rows c.loop-document.invariant.2 c.in-Ok.ensures.bounded),
    )

pub returns-then-is_err-clause-went : goal.returns-then-is_err-clause-went
returns-then-is_err-clause-went g c = λ all slots kept calls follows among one few enough stand.
    let functions = g.C.Servers.functions in
    let honest = g.C.Servers.honest in
    let job = job_of c.args.path.now c.args.sources.now all in
    let terms = c.args.documents.now in
    let i = c.loop-document.document-index in
    let document = c.document-item.result in
    let is : get_or terms i c.document-item.result ≡ document = sym c.document-item.is in
    let within : i < length terms = omega arith in
    let more : take (i + 1) terms ≡ take i terms ++ document ∷ [] = take_more terms i c.document-item.result within ∙ ap (λ (d : List (List ℕ × Json)). take i terms ++ d ∷ []) is in
    let whole : terms ≡ (take i terms ++ document ∷ []) ++ drop (i + 1) terms = sym (take-append-drop (i + 1) terms) ∙ ap (λ (first : List (List (List ℕ × Json))). first ++ drop (i + 1) terms) more in
    let here : IsAmong all document = subst (IsAmong all) is (all_at (IsAmong all) terms i c.document-item.result within among) in
    let x = g.C.Servers.faults c.args.servers.now in
    let y = g.C.Servers.faults c.loop-document.servers in
    let z = g.C.Servers.faults c.map_one.new.servers in
    let w = c.loop-document.invariant.1 all slots kept calls follows among one few enough stand in
    let v = c.in-Ok.ensures.went all w.now w.follows here (w.holds.stand.told 0 (omega (arith, enough, within))) in
    let went = mapped_more functions honest job slots kept one few (take i terms) document c.loop-document.lists c.in-Ok.rows (Rose x y) (Rose y z) (Rose x z)
    (Rose-wider x x y z (omega arith) c.map_one.ensures.ends.later) (Rose-wider x y z z c.loop-document.invariant.0 (omega arith)) w v in
    Went-map went (AfterMapping functions honest job slots kept terms (Rose x z) (Err NoMemory) calls)
    (forgotten_more functions honest job slots kept (take i terms ++ document ∷ []) (drop (i + 1) terms) terms (c.loop-document.lists ++ c.in-Ok.rows ∷ []) (Rose x z) whole went)

pub returns-in-Err-clause-went : goal.returns-in-Err-clause-went
returns-in-Err-clause-went g c = λ all slots kept calls follows among one few enough stand.
    let functions = g.C.Servers.functions in
    let honest = g.C.Servers.honest in
    let job = job_of c.args.path.now c.args.sources.now all in
    let terms = c.args.documents.now in
    let i = c.loop-document.document-index in
    let document = c.document-item.result in
    let is : get_or terms i c.document-item.result ≡ document = sym c.document-item.is in
    let within : i < length terms = omega arith in
    let more : take (i + 1) terms ≡ take i terms ++ document ∷ [] = take_more terms i c.document-item.result within ∙ ap (λ (d : List (List ℕ × Json)). take i terms ++ d ∷ []) is in
    let whole : terms ≡ (take i terms ++ document ∷ []) ++ drop (i + 1) terms = sym (take-append-drop (i + 1) terms) ∙ ap (λ (first : List (List (List ℕ × Json))). first ++ drop (i + 1) terms) more in
    let here : IsAmong all document = subst (IsAmong all) is (all_at (IsAmong all) terms i c.document-item.result within among) in
    let x = g.C.Servers.faults c.args.servers.now in
    let y = g.C.Servers.faults c.loop-document.servers in
    let z = g.C.Servers.faults c.map_one.new.servers in
    let w = c.loop-document.invariant.1 all slots kept calls follows among one few enough stand in
    let v = c.in-Err.ensures.went all w.now w.follows here (w.holds.stand.told 0 (omega (arith, enough, within))) in
    let refused = refused_more functions honest job slots kept (take i terms) document (drop (i + 1) terms) terms c.loop-document.lists (Rose x y) (Rose y z) (Rose x z) c.in-Err.fault whole
    (Rose-wider x x y z (omega arith) c.map_one.ensures.ends.later) (Rose-wider x y z z c.loop-document.invariant.0 (omega arith)) w v in
    Went-then w v (AfterMapping functions honest job slots kept terms (Rose x z) (Err c.in-Err.fault) calls) refused

pub returns-clause-went : goal.returns-clause-went
returns-clause-went g c = λ all slots kept calls follows among one few enough stand.
    let functions = g.C.Servers.functions in
    let honest = g.C.Servers.honest in
    let job = job_of c.args.path.now c.args.sources.now all in
    let terms = c.args.documents.now in
    let whole : take c.loop-document.document-index terms ≡ terms = take_all c.loop-document.document-index terms (omega arith) in
    let rose = Rose (g.C.Servers.faults c.args.servers.now) (g.C.Servers.faults c.loop-document.servers) in
    subst (λ (ts : List (List (List ℕ × Json))). Went (g.C.Servers.may_follow c.loop-document.servers) job 0 calls (HasMappedEach functions honest job slots kept ts rose c.loop-document.lists)) whole (c.loop-document.invariant.1 all slots kept calls follows among one few enough stand)
