-- A view is what was planned, over what bringing the index of its design up to date left.
use Rattle.std.proofs.Common.{◌≡◌, ◌∙◌, ℕ, Bool, true, false, List, inl, inr, refl, Ok, Err, Option, None, Some, ⊎_elim, arith, sym, ap, subst}
use Rattle.design_docs.specs.History.{Write}
use Rattle.gate_file.specs.declared.fault.GateFault.TheVariants.{DiskFault as DiskFaultOfGate}
use Rattle.tree_index.specs.declared.fault.IndexFault.TheVariants.{Store}
use Rattle.tree_index.specs.declared.index.Index.{Index}
use Rattle.tree_index.specs.Index.{views_of}
use Rattle.tree_updater.specs.Faults.{by_index}
use Rattle.tree_groups.proofs.Follows.{follows}
use Rattle.view_engine.proofs.Kept.{kept_idle, kept_refused, kept_then}
use Rattle.view_ports.specs.Disk.{IfTold, MovesNone}
use Rattle.view_ports.specs.File.{File}
use Rattle.view_ports.specs.declared.file_name.FileName.{FileName}
use Rattle.view_ports.proofs.DiskRuns.{none_same}
use Rattle.view_ports.proofs.Told.{told_after, told_now}
use Rattle.child_pool.specs.Languages.{path_in}
use Rattle.child_pool.specs.Pools.{languages_of}
use Rattle.doc_file.specs.declared.docs.Docs.{Docs}
use Rattle.doc_file.specs.Docs.{IsAt as AreAt}
use Rattle.tree_groups.specs.Groups.{AreOpen as AreIndexesOpen}
use Rattle.view_engine.specs.declared.halt.Halt.TheVariants.{Stopped}
use Rattle.view_engine.specs.declared.halt.StepFault.TheVariants.{DiskFault}
use Rattle.view_engine.specs.declared.request.Request.TheVariants.{View}
use Rattle.view_engine.specs.Answering.{lent}
use Rattle.view_engine.specs.Calls.{scene, Performed}
use Rattle.view_engine.specs.ViewPlan.{met_by, IsPlan}
use Rattle.view_engine.specs.Viewed.{IsTurnedAway}
use Rattle.query_args.specs.declared.query.Query.{Query}
use Rattle.view_engine.specs.ViewQuery.{view_query}
use Rattle.view_engine.specs.Worlds.{IsOpen}
use Rattle.view_engine.proofs.Ending.{refused_first, refused_then, shown_then}
use Rattle.view_engine.proofs.Plans.{reads_design, reduced_has}
use Rattle.view_engine.proofs.Sparing.{disk_met_by, disk_met_by_index}
use Rattle.view_engine.proofs.Stages.{shown_from, shown_spares}
use Rattle.view_engine.proofs.Unasked.{told_refused, unasked}
use Rattle.view_engine.proofs.Whole.{documents_at}
use Rattle.view_engine.proofs.engine.Engine.view.Goals as goal

-- the index that was found is the one that is there
number_of : (found index : Index) {at : Option Index} {count : ℕ} → at ≡ Some found → at ≡ Some index → views_of index ≡ count → views_of found ≡ count
number_of found index {at} {count} is there number = let same : Some found ≡ Some index = sym is ∙ there in let one : found ≡ index = cc in ap views_of one ∙ number

pub returns-in-Err-clause-does : goal.returns-in-Err-clause-does
returns-in-Err-clause-does g c =
    let args = c.args.self.now in
    let x = g.F.Folder.disk c.args.folder.now in
    refused_first g.F.Folder g.C.Servers args.docs args.pool args.groups args.cache c.args.folder.now c.plan.new.folder c.args.servers.now (view_query c.args.name c.args.query) c.args.out.now.items c.in-Err.halt c.requires.open (λ is. subst (λ h. IsTurnedAway (Err h)) is c.in-Err.ensures.turned) c.in-Err.ensures.kept c.in-Err.ensures.stopped c.in-Err.ensures.own c.in-Err.ensures.reads
    (λ before at. unasked g.C.Servers.functions g.C.Servers.honest (languages_of args.pool) before (view_query c.args.name c.args.query) c.in-Err.halt x (g.F.Folder.disk c.plan.new.folder) (g.C.Servers.may_follow c.args.servers.now) (g.C.Servers.faults c.args.servers.now) args at c.in-Err.ensures.reads.disk
    (told_refused x (λ d. AreAt args.docs d.now before.world.history) (languages_of args.pool) before.world.history (view_query c.args.name c.args.query) c.in-Err.halt (documents_at _ _ before.world at.documents) (λ r is. c.in-Err.ensures.refused r is before.world.history)))

pub bring-requires-clause-open : goal.bring-requires-clause-open
bring-requires-clause-open g c =
    told_after (g.F.Folder.disk c.args.folder.now) (g.F.Folder.disk c.plan.new.folder) (λ d. IsOpen c.args.self.now d.now) (λ d. AreIndexesOpen c.args.self.now.groups d.now) MovesNone
    (λ a b here none. subst (λ (files : FileName → File). AreIndexesOpen c.args.self.now.groups files) (λ i. λ n. sym (none_same a b none n) i) here.indexes) c.requires.open c.plan.ensures.reads.disk

pub show-requires-in-Ok-bring-clause-within : goal.show-requires-in-Ok-bring-clause-within
show-requires-in-Ok-bring-clause-within g c =
    let place = c.in-Ok-bring.ensures.brings.brings.place in
    let number = number_of c.index-index.result.now place.0 c.index-index.ensures place.1.there place.1.number in
    let below = c.in-Ok.ensures.planned.within in
    omega (arith, number, below)

pub show-requires-in-Ok-bring-clause-views : goal.show-requires-in-Ok-bring-clause-views
show-requires-in-Ok-bring-clause-views g c =
    let place = c.in-Ok-bring.ensures.brings.brings.place in
    let number = number_of c.index-index.result.now place.0 c.index-index.ensures place.1.there place.1.number in
    let few = c.in-Ok.ensures.planned.few in
    omega (arith, number, few)

pub show-requires-in-Ok-bring-clause-reduced : goal.show-requires-in-Ok-bring-clause-reduced
show-requires-in-Ok-bring-clause-reduced g c = reduced_has c.in-Ok.plan.design.views (view_query c.args.name c.args.query) c.in-Ok.plan.place c.in-Ok.plan.query c.in-Ok.ensures.planned.query c.in-Ok.ensures.planned.reduce

pub show-requires-in-Ok-bring-clause-known : goal.show-requires-in-Ok-bring-clause-known
show-requires-in-Ok-bring-clause-known g c = λ none.
    let known = c.in-Ok.ensures.planned.known in
    let follow = follows g.F.Folder g.C.Servers _ _ _ _ _ c.in-Ok-bring.ensures.brings.brings in
    let same = ap (λ (l : List (List ℕ × List ℕ)). path_in l c.in-Ok.plan.design.language) follow.keeps.languages in
    let clash : Some known.0 ≡ None = sym known.1 ∙ sym same ∙ none in
    let no : ⊥ = cc in
    no

pub halt_of-requires-in-Err-bring : goal.halt_of-requires-in-Err-bring
halt_of-requires-in-Err-bring g c =
    let known = c.in-Ok.ensures.planned.known in
    let follow = follows g.F.Folder g.C.Servers _ _ _ _ _ c.in-Err-bring.ensures.brings.brings in
    (follow.file, λ is. let none = follow.unknown (ap Err is) in let clash : Some known.0 ≡ None = sym known.1 ∙ none in let no : ⊥ = cc in no)

pub returns-in-Ok-bring-clause-does : goal.returns-in-Ok-bring-clause-does
returns-in-Ok-bring-clause-does g c =
    let args = c.args.self.now in
    let plan = c.in-Ok.plan in
    let known = c.in-Ok.ensures.planned.known in
    let brought = c.in-Ok-bring.ensures in
    let left = c.bring.new.self in
    let shown = c.show-in-Ok-bring in
    let name = view_query c.args.name c.args.query in
    subst (λ (d : Docs). Performed g.F.Folder g.C.Servers (scene args c.args.folder.now c.args.servers.now)
    (scene (record { docs = d; pool = shown.new.pool; groups = left.groups; cache = shown.new.cache }) shown.new.folder shown.new.servers) (Ok (View c.args.name c.args.query)) c.args.out.now.items shown.new.out.items shown.result) (sym brought.documents)
    (shown_then g.F.Folder g.C.Servers args.docs args.pool args.groups args.cache c.args.folder.now c.plan.new.folder c.args.servers.now name c.args.out.now.items
    left.pool left.groups left.cache brought.brings.steps c.bring.new.folder c.bring.new.servers plan.id plan.design plan.place known.0 c.in-Ok.ensures.planned.within known.1 (sym (ap (λ (q : Query). q.update) c.in-Ok.ensures.planned.query) ∙ c.if-not-plan.false)
    c.in-Ok.ensures.reads.disk c.in-Ok.ensures.reads.later (λ history. told_now (g.F.Folder.disk c.args.folder.now) _ _ (λ d is there. subst (λ (updating : Bool). IsPlan updating (languages_of args.pool) history name plan.id plan.design plan.place known.0) c.if-not-plan.false (is there known.0 known.1)) (c.in-Ok.ensures.plan history)) c.requires.open (reads_design g.F.Folder args.docs c.args.folder.now name plan.design c.in-Ok.ensures.planned.about) c.in-Ok.ensures.planned.live.named c.in-Ok.ensures.planned.live.live c.in-Ok.ensures.planned.taken
    c.in-Ok-bring.slot brought.brings.brings (follows g.F.Folder g.C.Servers args.docs plan.design _ _ (Ok c.in-Ok-bring.slot) brought.brings.brings) c.index-index.result.now c.index-index.ensures plan.query c.in-Ok.ensures.planned.query shown.new.folder shown.new.pool shown.new.cache shown.new.servers shown.result shown.ensures)

pub returns-clause-does : goal.returns-clause-does
returns-clause-does g c =
    let args = c.args.self.now in
    let plan = c.in-Ok.plan in
    let known = c.in-Ok.ensures.planned.known in
    let met = c.in-Err-bring.fault in
    let brought = c.in-Err-bring.ensures in
    let left = c.bring.new.self in
    let name = view_query c.args.name c.args.query in
    let follow = follows g.F.Folder g.C.Servers args.docs plan.design _ _ (Err met) brought.brings.brings in
    rw c.halt_of-in-Err-bring.ensures (subst (λ (d : Docs). Performed g.F.Folder g.C.Servers (scene args c.args.folder.now c.args.servers.now)
    (scene (record { docs = d; pool = left.pool; groups = left.groups; cache = left.cache }) c.bring.new.folder c.bring.new.servers) (Ok (View c.args.name c.args.query)) c.args.out.now.items c.args.out.now.items (Err (met_by plan.id met))) (sym brought.documents)
    (refused_then g.F.Folder g.C.Servers args.docs args.pool args.groups args.cache c.args.folder.now c.plan.new.folder c.args.servers.now name c.args.out.now.items
    left.pool left.groups left.cache brought.brings.steps c.bring.new.folder c.bring.new.servers plan.id plan.design plan.place known.0 c.in-Ok.ensures.planned.within known.1 (sym (ap (λ (q : Query). q.update) c.in-Ok.ensures.planned.query) ∙ c.if-not-plan.false)
    c.in-Ok.ensures.reads.disk c.in-Ok.ensures.reads.later (λ history. told_now (g.F.Folder.disk c.args.folder.now) _ _ (λ d is there. subst (λ (updating : Bool). IsPlan updating (languages_of args.pool) history name plan.id plan.design plan.place known.0) c.if-not-plan.false (is there known.0 known.1)) (c.in-Ok.ensures.plan history)) c.requires.open (reads_design g.F.Folder args.docs c.args.folder.now name plan.design c.in-Ok.ensures.planned.about) c.in-Ok.ensures.planned.live.named c.in-Ok.ensures.planned.live.live c.in-Ok.ensures.planned.taken
    met (follow.file, λ is. let none = follow.unknown (ap Err is) in let clash : Some known.0 ≡ None = sym known.1 ∙ none in let no : ⊥ = cc in no) brought.brings.brings follow))

-- ---- the index is read as it stands

pub index-kept-requires : goal.index-kept-requires
index-kept-requires g c = ⊎_elim (λ opens. (opens.place.0, opens.place.1.there)) (λ none. absurd (let clash : ⊥ = cc in clash)) c.in-Ok-open.ensures

pub show-requires-clause-within : goal.show-requires-clause-within
show-requires-clause-within g c =
    ⊎_elim (λ opens. let number = number_of c.index-kept.result.now opens.place.0 c.index-kept.ensures opens.place.1.there opens.place.1.number in let below = c.in-Ok.ensures.planned.within in omega (arith, number, below))
    (λ none. absurd (let clash : ⊥ = cc in clash)) c.in-Ok-open.ensures

pub show-requires-clause-views : goal.show-requires-clause-views
show-requires-clause-views g c =
    ⊎_elim (λ opens. let number = number_of c.index-kept.result.now opens.place.0 c.index-kept.ensures opens.place.1.there opens.place.1.number in let few = c.in-Ok.ensures.planned.few in omega (arith, number, few))
    (λ none. absurd (let clash : ⊥ = cc in clash)) c.in-Ok-open.ensures

pub show-requires-clause-reduced : goal.show-requires-clause-reduced
show-requires-clause-reduced g c = reduced_has c.in-Ok.plan.design.views (view_query c.args.name c.args.query) c.in-Ok.plan.place c.in-Ok.plan.query c.in-Ok.ensures.planned.query c.in-Ok.ensures.planned.reduce

pub returns-in-Err-open-clause-does : goal.returns-in-Err-open-clause-does
returns-in-Err-open-clause-does g c =
    let args = c.args.self.now in
    let plan = c.in-Ok.plan in
    let known = c.in-Ok.ensures.planned.known in
    let name = view_query c.args.name c.args.query in
    let plans : (history : List Write) → IfTold (g.F.Folder.disk c.args.folder.now) (λ d. AreAt args.docs d.now history → IsPlan false (languages_of args.pool) history name plan.id plan.design plan.place known.0) =
    λ history. told_now (g.F.Folder.disk c.args.folder.now) _ _ (λ d is there. subst (λ (updating : Bool). IsPlan updating (languages_of args.pool) history name plan.id plan.design plan.place known.0) c.if-not-plan.true (is there known.0 known.1)) (c.in-Ok.ensures.plan history) in
    let fault = c.in-Err-open.fault in
    let is : c.halt_of.result ≡ met_by plan.id (by_index fault) = c.halt_of.ensures ∙ ap (met_by plan.id) c.from.ensures in
    rw is (⊎_elim
    (λ opens. kept_refused g.F.Folder g.C.Servers args.docs args.pool args.groups c.open.new.self args.cache c.args.folder.now c.plan.new.folder c.open.new.folder c.args.servers.now name c.args.out.now.items plan.id plan.design plan.place known.0
    c.in-Ok.ensures.planned.within known.1 (sym (ap (λ (q : Query). q.update) c.in-Ok.ensures.planned.query) ∙ c.if-not-plan.true) c.in-Ok.ensures.reads.disk c.in-Ok.ensures.reads.later plans c.requires.open (reads_design g.F.Folder args.docs c.args.folder.now (view_query c.args.name c.args.query) c.in-Ok.plan.design c.in-Ok.ensures.planned.about) c.in-Ok.ensures.planned.live.named c.in-Ok.ensures.planned.live.live c.in-Ok.ensures.planned.taken fault opens.faults opens)
    (λ none. kept_idle g.F.Folder g.C.Servers args.docs args.pool args.groups c.open.new.self args.cache c.args.folder.now c.plan.new.folder c.open.new.folder c.args.servers.now name c.args.out.now.items plan.id plan.design plan.place known.0
    c.in-Ok.ensures.planned.within known.1 (sym (ap (λ (q : Query). q.update) c.in-Ok.ensures.planned.query) ∙ c.if-not-plan.true) c.in-Ok.ensures.reads.disk c.in-Ok.ensures.reads.later plans c.requires.open (reads_design g.F.Folder args.docs c.args.folder.now (view_query c.args.name c.args.query) c.in-Ok.plan.design c.in-Ok.ensures.planned.about) c.in-Ok.ensures.planned.live.named c.in-Ok.ensures.planned.live.live c.in-Ok.ensures.planned.taken fault none.0 none.1 none.2)
    c.in-Err-open.ensures)

pub returns-then-not-plan-clause-does : goal.returns-then-not-plan-clause-does
returns-then-not-plan-clause-does g c =
    let args = c.args.self.now in
    let plan = c.in-Ok.plan in
    let known = c.in-Ok.ensures.planned.known in
    let name = view_query c.args.name c.args.query in
    let plans : (history : List Write) → IfTold (g.F.Folder.disk c.args.folder.now) (λ d. AreAt args.docs d.now history → IsPlan false (languages_of args.pool) history name plan.id plan.design plan.place known.0) =
    λ history. told_now (g.F.Folder.disk c.args.folder.now) _ _ (λ d is there. subst (λ (updating : Bool). IsPlan updating (languages_of args.pool) history name plan.id plan.design plan.place known.0) c.if-not-plan.true (is there known.0 known.1)) (c.in-Ok.ensures.plan history) in
    ⊎_elim
    (λ opens. kept_then g.F.Folder g.C.Servers args.docs args.pool args.groups c.open.new.self args.cache c.args.folder.now c.plan.new.folder c.open.new.folder c.args.servers.now name c.args.out.now.items plan.id plan.design plan.place known.0
    c.in-Ok.ensures.planned.within known.1 (sym (ap (λ (q : Query). q.update) c.in-Ok.ensures.planned.query) ∙ c.if-not-plan.true) c.in-Ok.ensures.reads.disk c.in-Ok.ensures.reads.later plans c.requires.open (reads_design g.F.Folder args.docs c.args.folder.now (view_query c.args.name c.args.query) c.in-Ok.plan.design c.in-Ok.ensures.planned.about) c.in-Ok.ensures.planned.live.named c.in-Ok.ensures.planned.live.live c.in-Ok.ensures.planned.taken c.in-Ok-open.slot opens c.index-kept.result.now c.index-kept.ensures
    plan.query c.in-Ok.ensures.planned.query c.show.new.folder c.show.new.pool c.show.new.cache c.show.new.servers c.show.result c.show.ensures)
    (λ none. absurd (let clash : ⊥ = cc in clash)) c.in-Ok-open.ensures

-- ---- no fault of the folder was counted, unless it ended the view

pub returns-in-Err-clause-spares : goal.returns-in-Err-clause-spares
returns-in-Err-clause-spares g c = λ other. c.in-Err.ensures.spares (λ is. other (let same : c.in-Err.halt ≡ Stopped DiskFault = cc in ap Err same))

pub returns-in-Ok-bring-clause-spares : goal.returns-in-Ok-bring-clause-spares
returns-in-Ok-bring-clause-spares g c = λ other.
    let follow = follows g.F.Folder g.C.Servers _ _ _ _ _ c.in-Ok-bring.ensures.brings.brings in
    shown_spares g.F.Folder g.C.Servers _ _ c.in-Ok.plan.design c.in-Ok.plan.place c.in-Ok.plan.query c.index-index.result.now c.in-Ok.plan.id c.args.out.now.items c.show-in-Ok-bring.new.out.items c.show-in-Ok-bring.result c.show-in-Ok-bring.ensures other
    ∙ follow.still tt ∙ c.in-Ok.ensures.spares (λ is. let no : ⊥ = cc in no)

pub returns-clause-spares : goal.returns-clause-spares
returns-clause-spares g c = λ other.
    let follow = follows g.F.Folder g.C.Servers _ _ _ _ _ c.in-Err-bring.ensures.brings.brings in
    follow.still (λ failed. other (ap Err (c.halt_of-in-Err-bring.ensures ∙ disk_met_by c.in-Ok.plan.id c.in-Err-bring.fault failed)))
    ∙ c.in-Ok.ensures.spares (λ is. let no : ⊥ = cc in no)

pub returns-in-Err-open-clause-spares : goal.returns-in-Err-open-clause-spares
returns-in-Err-open-clause-spares g c = λ other.
    let plan = c.in-Ok.plan in
    let met : c.halt_of.result ≡ met_by plan.id (by_index c.in-Err-open.fault) = c.halt_of.ensures ∙ ap (met_by plan.id) c.from.ensures in
    let first = c.in-Ok.ensures.spares (λ is. let no : ⊥ = cc in no) in
    ⊎_elim
    (λ opens. opens.cause.still (λ is. other (ap Err (met ∙ disk_met_by_index plan.id c.in-Err-open.fault (let same : c.in-Err-open.fault ≡ Store DiskFaultOfGate = cc in same)))) ∙ first)
    (λ none. ap g.F.Folder.faults none.2 ∙ first) c.in-Err-open.ensures

pub returns-then-not-plan-clause-spares : goal.returns-then-not-plan-clause-spares
returns-then-not-plan-clause-spares g c = λ other.
    let first = c.in-Ok.ensures.spares (λ is. let no : ⊥ = cc in no) in
    let last = shown_spares g.F.Folder g.C.Servers _ _ c.in-Ok.plan.design c.in-Ok.plan.place c.in-Ok.plan.query c.index-kept.result.now c.in-Ok.plan.id c.args.out.now.items c.show.new.out.items c.show.result c.show.ensures other in
    ⊎_elim (λ opens. last ∙ opens.cause.still (λ is. let no : ⊥ = cc in no) ∙ first) (λ none. absurd (let clash : ⊥ = cc in clash)) c.in-Ok-open.ensures

-- ---- its stages

pub returns-in-Err-clause-views : goal.returns-in-Err-clause-views
returns-in-Err-clause-views g c = inr (record {
  unasked = record { servers = refl; pool = refl; cache = refl; groups = refl; files = c.in-Err.ensures.reads.disk };
  turned = c.in-Err.ensures.turned;
  silent = refl;
  why = c.in-Err.ensures.reads.why;
})

pub returns-in-Ok-bring-clause-views : goal.returns-in-Ok-bring-clause-views
returns-in-Ok-bring-clause-views g c =
    let plan = c.in-Ok.plan in
    let brought = c.in-Ok-bring.ensures.brings in
    let left = c.bring.new.self in
    let shown = c.show-in-Ok-bring in
    inl (record {
      design = plan.design;
      place = plan.place;
      query = plan.query;
      about = record { of_document = c.in-Ok.ensures.planned.about; within = c.in-Ok.ensures.planned.within; named = c.in-Ok.ensures.planned.shown; is_query = c.in-Ok.ensures.planned.query };
      read = c.plan.new.folder;
      same = c.in-Ok.ensures.reads.disk;
      counted = c.in-Ok.ensures.spares (λ is. let no : ⊥ = cc in no);
      updated = λ updates. record {
        between = lent c.bring.new.folder c.bring.new.servers left.pool left.cache;
        steps = brought.steps;
        brought = Ok c.in-Ok-bring.slot;
        brings = brought.brings;
        ends = shown_from g.F.Folder g.C.Servers (lent c.bring.new.folder c.bring.new.servers left.pool left.cache) (lent shown.new.folder shown.new.servers shown.new.pool shown.new.cache) plan.design plan.place plan.query c.args.out.now.items _ shown.result
            left.groups c.in-Ok-bring.slot _ _ c.index-index.result.now brought.brings.place.0 plan.id _ c.index-index.ensures brought.brings.place.1 c.in-Ok.ensures.planned.live.named shown.ensures;
      };
      kept = λ keeps. absurd (let clash : true ≡ false = sym c.if-not-plan.false ∙ keeps in let no : ⊥ = cc in no);
    })

pub returns-clause-views : goal.returns-clause-views
returns-clause-views g c =
    let plan = c.in-Ok.plan in
    let fault = c.in-Err-bring.fault in
    let brought = c.in-Err-bring.ensures.brings in
    inl (record {
      design = plan.design;
      place = plan.place;
      query = plan.query;
      about = record { of_document = c.in-Ok.ensures.planned.about; within = c.in-Ok.ensures.planned.within; named = c.in-Ok.ensures.planned.shown; is_query = c.in-Ok.ensures.planned.query };
      read = c.plan.new.folder;
      same = c.in-Ok.ensures.reads.disk;
      counted = c.in-Ok.ensures.spares (λ is. let no : ⊥ = cc in no);
      updated = λ updates. record {
        between = lent c.bring.new.folder c.bring.new.servers c.bring.new.self.pool c.bring.new.self.cache;
        steps = brought.steps;
        brought = Err fault;
        brings = brought.brings;
        ends = (ap Err (c.halt_of-in-Err-bring.ensures ∙ ap (λ (id : List ℕ). met_by id fault) c.in-Ok.ensures.planned.live.named), refl, refl);
      };
      kept = λ keeps. absurd (let clash : true ≡ false = sym c.if-not-plan.false ∙ keeps in let no : ⊥ = cc in no);
    })

pub returns-in-Err-open-clause-views : goal.returns-in-Err-open-clause-views
returns-in-Err-open-clause-views g c =
    let plan = c.in-Ok.plan in
    let fault = c.in-Err-open.fault in
    inl (record {
      design = plan.design;
      place = plan.place;
      query = plan.query;
      about = record { of_document = c.in-Ok.ensures.planned.about; within = c.in-Ok.ensures.planned.within; named = c.in-Ok.ensures.planned.shown; is_query = c.in-Ok.ensures.planned.query };
      read = c.plan.new.folder;
      same = c.in-Ok.ensures.reads.disk;
      counted = c.in-Ok.ensures.spares (λ is. let no : ⊥ = cc in no);
      updated = λ updates. absurd (let clash : false ≡ true = sym c.if-not-plan.true ∙ updates in let no : ⊥ = cc in no);
      kept = λ keeps. record {
        folder = c.open.new.folder;
        opened = Err fault;
        opens = c.in-Err-open.ensures;
        ends = (ap Err (c.halt_of.ensures ∙ ap (met_by plan.id) c.from.ensures ∙ ap (λ (id : List ℕ). met_by id (by_index fault)) c.in-Ok.ensures.planned.live.named), refl, refl);
      };
    })

pub returns-then-not-plan-clause-views : goal.returns-then-not-plan-clause-views
returns-then-not-plan-clause-views g c =
    let plan = c.in-Ok.plan in
    let shown = c.show in
    ⊎_elim
    (λ opens. inl (record {
      design = plan.design;
      place = plan.place;
      query = plan.query;
      about = record { of_document = c.in-Ok.ensures.planned.about; within = c.in-Ok.ensures.planned.within; named = c.in-Ok.ensures.planned.shown; is_query = c.in-Ok.ensures.planned.query };
      read = c.plan.new.folder;
      same = c.in-Ok.ensures.reads.disk;
      counted = c.in-Ok.ensures.spares (λ is. let no : ⊥ = cc in no);
      updated = λ updates. absurd (let clash : false ≡ true = sym c.if-not-plan.true ∙ updates in let no : ⊥ = cc in no);
      kept = λ keeps. record {
        folder = c.open.new.folder;
        opened = Ok c.in-Ok-open.slot;
        opens = c.in-Ok-open.ensures;
        ends = shown_from g.F.Folder g.C.Servers (lent c.open.new.folder c.args.servers.now c.args.self.now.pool c.args.self.now.cache) (lent shown.new.folder shown.new.servers shown.new.pool shown.new.cache) plan.design plan.place plan.query c.args.out.now.items _ shown.result
            c.open.new.self c.in-Ok-open.slot _ _ c.index-kept.result.now opens.place.0 plan.id _ c.index-kept.ensures opens.place.1 c.in-Ok.ensures.planned.live.named shown.ensures;
      };
    }))
    (λ none. absurd (let clash : ⊥ = cc in clash)) c.in-Ok-open.ensures
