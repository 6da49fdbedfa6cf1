-- The design that is read is that of the live document.
use Rattle.std.proofs.Common.{◌≡◌, ◌⊎◌, ◌∙◌, ◌≤◌, ℕ, List, length, map, bytes_eq, Option, Some, None, inl, inr, sym, ap, subst, rules}
use Rattle.std.specs.Map.{lookup}
use Rattle.json_terms.specs.Json.{Json}
use Rattle.json_terms.specs.Seen.{json}
use Rattle.view_ports.specs.Disk.{IfTold}
use Rattle.view_ports.specs.declared.folder.Folder.{Ghosts as Folders}
use Rattle.view_ports.proofs.Told.{told_now}
use Rattle.design_docs.specs.declared.design.View.{View}
use Rattle.design_docs.specs.Laws.{entry_of as named}
use Rattle.design_docs.proofs.ViewOrder.{views_are_few}
use Rattle.child_pool.specs.Languages.{path_in}
use Rattle.child_pool.specs.Pools.{languages_of}
use Rattle.doc_file.specs.declared.docs.Docs.{Docs}
use Rattle.doc_file.specs.Docs.{bytes_in, last_of, IsAt, IsLive}
use Rattle.doc_file.specs.Held.{IsBodyOf}
use Rattle.design_docs.specs.History.{live_document}
use Rattle.view_engine.specs.declared.refusal.Refusal.{Refusal}
use Rattle.view_engine.specs.declared.refusal.Refusal.TheVariants.{MissingNamedView, UnknownLanguage}
use Rattle.view_engine.specs.Disks.{IsAskedFor}
use Rattle.view_engine.specs.View.{design_id, view_refusal}
use Rattle.view_engine.specs.ViewPlan.{source_at, HasReduce, IsPlan, ShowsRows}
use Rattle.query_args.specs.declared.fault.QueryFault.{QueryFault}
use Rattle.query_args.specs.declared.fault.QueryFault.TheVariants as query
use Rattle.query_args.specs.declared.query.Target.TheVariants as target
use Rattle.query_args.specs.declared.query.Query.{Query}
use Rattle.query_args.specs.Faults.{query_fault}
use Rattle.query_args.specs.Query.{is_updated, query_of}
use Rattle.view_engine.specs.ViewQuery.{has_reduce, parameters_of, reduce_named, target_for, view_query, ViewQuery}
use Rattle.view_engine.specs.Get.{not_live}
use Rattle.view_engine.specs.InMemory.{state_at, IsLiveIn, IsOfView, IsReadUnder}
use Rattle.view_engine.proofs.Following.{got_live, got_refused, got_stopped, query_of_view}
use Rattle.view_engine.proofs.Reading.{read_of_get}
use Rattle.view_engine.proofs.Plans.{has_there, met_query, own_language, own_query, own_taken, own_view, stored_design, planned, refused_language, reduced_there, refused_query, refused_same, refused_view}
use Rattle.view_engine.proofs.Sparing.{documents_spared, halted_turned}
use Rattle.view_engine.proofs.engine.Engine.plan.Goals as goal
use Rattle.view_engine.specs.World.{of_history}

pub returns-in-Err-clause-reads : goal.returns-in-Err-clause-reads
returns-in-Err-clause-reads g c = rw c.from.ensures (read_of_get c.as_str-2.result.now c.in-Err.fault c.in-Err.ensures.disk c.in-Err.ensures.cause c.in-Err.ensures.deleted.1 c.in-Err.ensures.damaged c.in-Err.ensures.sound c.in-Err.ensures.faults)

pub returns-in_default-clause-refused : goal.returns-in_default-clause-refused
returns-in_default-clause-refused g c = λ refusal is_refusal history.
    let docs = c.args.self.now.docs in
    let languages = languages_of c.args.self.now.pool in
    let name = view_query c.args.name.now c.args.query in
    let id = c.as_str-2.result.now in
    let document = json c.in-Ok.document in
    let design = c.in_ok-design.design in
    let same : MissingNamedView ≡ refusal = cc in
    let is : id ≡ design_id name.design = c.as_str-2.ensures ∙ c.in_ok-id.ensures ∙ ap design_id c.as_str.ensures in
    let none : None ≡ lookup (λ key. bytes_eq key name.view) (map named design.views) =
    c.in_default.ensures.named ∙ (λ i. lookup (λ key. bytes_eq key (c.as_str-3.ensures i)) (map named (c.as_slice.ensures i))) in
    told_now (g.F.Folder.disk c.args.folder.now)
    (λ d. IsAt docs d.now history → live_document history id ≡ Some document)
    (λ d. IsAt docs d.now history → view_refusal languages (of_history history) name ≡ Some refusal)
    (λ d live at. refused_same languages (of_history history) name MissingNamedView refusal same
    (refused_view languages history name id document design is (live at) (stored_design name id document is c.in-Ok.ensures.body) c.in_ok-design.ensures none))
    (c.in-Ok.ensures.document history)

pub returns-in-Some-path_of-clause-plan : goal.returns-in-Some-path_of-clause-plan
returns-in-Some-path_of-clause-plan g c = λ history.
    let docs = c.args.self.now.docs in
    let languages = languages_of c.args.self.now.pool in
    let name = view_query c.args.name.now c.args.query in
    let id = c.as_str-2.result.now in
    let document = json c.in-Ok.document in
    let design = c.in_ok-design.design in
    let place = c.in-Some.place in
    let asked = c.in-Ok-read_query.query in
    let updates : is_updated (parameters_of name) ≡ asked.update = ap is_updated (sym c.parameters_of-parameters.ensures) ∙ sym (ap (λ (q : Query). q.update) c.in-Ok-read_query.ensures.query) in
    let some : has_reduce (reduce_named name.view design.views) ≡ c.has_reduce.result =
    reduced_there design.views c.as_slice.result.now c.as_slice-2.result.now name.view c.as_str-3.result.now place c.index-as_slice-place.result c.has_reduce.result c.as_slice.ensures c.as_slice-2.ensures c.as_str-3.ensures c.in-Some.ensures.within c.has_reduce.ensures c.in-Some.ensures.reduced in
    let fits : query_fault (target_for design.views name) (parameters_of name) ≡ None = (λ i. query_fault (target.View (some i)) (sym c.parameters_of-parameters.ensures i)) ∙ c.in-Ok-read_query.ensures.fault in
    let is : id ≡ design_id name.design = c.as_str-2.ensures ∙ c.in_ok-id.ensures ∙ ap design_id c.as_str.ensures in
    let there : Some (source_at design.views place) ≡ lookup (λ key. bytes_eq key name.view) (map named design.views) =
    ap (λ (views : List View). Some (source_at views place)) (sym c.as_slice.ensures)
    ∙ c.in-Some.ensures.named
    ∙ (λ i. lookup (λ key. bytes_eq key (c.as_str-3.ensures i)) (map named (c.as_slice.ensures i))) in
    let reduced : HasReduce design.views name.view place = has_there design.views c.as_slice.result.now name.view c.as_str-3.result.now place c.as_slice.ensures c.as_str-3.ensures c.in-Some.ensures.reduced in
    let shown : ShowsRows design.views name.view place =
    subst (λ (views : List View). ShowsRows views name.view place) c.as_slice.ensures
    (subst (λ (text : List ℕ). ShowsRows c.as_slice.result.now text place) c.as_str-3.ensures c.in-Some.ensures.shown) in
    told_now (g.F.Folder.disk c.args.folder.now)
    (λ d. IsAt docs d.now history → live_document history id ≡ Some document)
    (λ d. IsAt docs d.now history → (path : List ℕ) → path_in languages design.language ≡ Some path → IsPlan asked.update languages history name c.in_ok-id.id design place path)
    (λ d live at path known. subst (λ i. IsPlan asked.update languages history name i design place path) c.as_str-2.ensures
    (planned languages history name id document design is (live at) (stored_design name id document is c.in-Ok.ensures.body) c.in_ok-design.ensures place there updates fits shown reduced path known))
    (c.in-Ok.ensures.document history)

-- what stands under an id stands under the same id
asked_by : {F : Type 0} (f : Folders F) (docs : Docs) (folder : F) (name : ViewQuery) (id : List ℕ) (document : Json) → id ≡ design_id name.design → IfTold (f.disk folder) (λ d. IsLive id (bytes_in docs d.now) (last_of docs id) document)
    → IfTold (f.disk folder) (λ d. IsAskedFor docs d.now name document)
asked_by f docs folder name id document is live = told_now (f.disk folder) (λ d. IsLive id (bytes_in docs d.now) (last_of docs id) document) (λ d. IsAskedFor docs d.now name document)
    (λ d here. subst (λ (i : List ℕ). IsLive i (bytes_in docs d.now) (last_of docs i) document) is here) live

pub returns-in-Some-path_of-clause-planned : goal.returns-in-Some-path_of-clause-planned
returns-in-Some-path_of-clause-planned g c =
    let docs = c.args.self.now.docs in
    let languages = languages_of c.args.self.now.pool in
    let name = view_query c.args.name.now c.args.query in
    let id = c.as_str-2.result.now in
    let document = json c.in-Ok.document in
    let design = c.in_ok-design.design in
    let place = c.in-Some.place in
    let some : has_reduce (reduce_named name.view design.views) ≡ c.has_reduce.result =
    reduced_there design.views c.as_slice.result.now c.as_slice-2.result.now name.view c.as_str-3.result.now place c.index-as_slice-place.result c.has_reduce.result c.as_slice.ensures c.as_slice-2.ensures c.as_str-3.ensures c.in-Some.ensures.within c.has_reduce.ensures c.in-Some.ensures.reduced in
    let fits : query_fault (target_for design.views name) (parameters_of name) ≡ None = (λ i. query_fault (target.View (some i)) (sym c.parameters_of-parameters.ensures i)) ∙ c.in-Ok-read_query.ensures.fault in
    let is : id ≡ design_id name.design = c.as_str-2.ensures ∙ c.in_ok-id.ensures ∙ ap design_id c.as_str.ensures in
    let there : Some (source_at design.views place) ≡ lookup (λ key. bytes_eq key name.view) (map named design.views) =
    ap (λ (views : List View). Some (source_at views place)) (sym c.as_slice.ensures)
    ∙ c.in-Some.ensures.named
    ∙ (λ i. lookup (λ key. bytes_eq key (c.as_str-3.ensures i)) (map named (c.as_slice.ensures i))) in
    let has = stored_design name id document is c.in-Ok.ensures.body in
    let few : length design.views ≤ 32 = subst (λ (vs : List View). length vs ≤ 32) (sym c.in_ok-design.ensures.1) (views_are_few document has) in
    let read : IsReadUnder g.F.Folder docs c.args.folder.now (design_id name.design) document = record {
      body = subst (λ (i : List ℕ). IsBodyOf i document) is c.in-Ok.ensures.body;
      live = asked_by g.F.Folder docs c.args.folder.now name id document is c.in-Ok.ensures.live;
    } in
    let live : IsLiveIn docs (design_id name.design) = subst (IsLiveIn docs) is (got_live docs id c.in-Ok.document c.in-Ok.ensures.missing.1 c.in-Ok.ensures.deleted.1) in
    record {
      about = record { document = document; read = read; is = c.in_ok-design.ensures };
      few = few;
      within = search rules;
      shown = search rules;
      reduce = has_there design.views c.as_slice.result.now c.args.name.now.view c.as_str-3.result.now place c.as_slice.ensures c.as_str-3.ensures c.in-Some.ensures.reduced;
      query = c.in-Ok-read_query.ensures.query ∙ (λ i. query_of (target.View (sym some i)) (c.parameters_of-parameters.ensures i));
      known = (c.in-Some-path_of._path.now, ap (path_in languages) (sym c.as_str-4.ensures) ∙ sym c.in-Some-path_of.ensures);
      live = record { named = sym c.as_str-2.ensures ∙ is; live = live };
      taken = record {
        document = document;
        read = read;
        says = own_taken languages name document design has c.in_ok-design.ensures place there fits c.in-Some-path_of._path.now
            (ap (path_in languages) (sym c.as_str-4.ensures) ∙ sym c.in-Some-path_of.ensures);
      };
    }

pub returns-clause-refused : goal.returns-clause-refused
returns-clause-refused g c = λ refusal is_refusal history.
    let docs = c.args.self.now.docs in
    let languages = languages_of c.args.self.now.pool in
    let name = view_query c.args.name.now c.args.query in
    let id = c.as_str-2.result.now in
    let document = json c.in-Ok.document in
    let design = c.in_ok-design.design in
    let place = c.in-Some.place in
    let some : has_reduce (reduce_named name.view design.views) ≡ c.has_reduce.result =
    reduced_there design.views c.as_slice.result.now c.as_slice-2.result.now name.view c.as_str-3.result.now place c.index-as_slice-place.result c.has_reduce.result c.as_slice.ensures c.as_slice-2.ensures c.as_str-3.ensures c.in-Some.ensures.within c.has_reduce.ensures c.in-Some.ensures.reduced in
    let fits : query_fault (target_for design.views name) (parameters_of name) ≡ None = (λ i. query_fault (target.View (some i)) (sym c.parameters_of-parameters.ensures i)) ∙ c.in-Ok-read_query.ensures.fault in
    let same : UnknownLanguage design.language ≡ refusal = cc in
    let is : id ≡ design_id name.design = c.as_str-2.ensures ∙ c.in_ok-id.ensures ∙ ap design_id c.as_str.ensures in
    let there : Some (source_at design.views place) ≡ lookup (λ key. bytes_eq key name.view) (map named design.views) =
    ap (λ (views : List View). Some (source_at views place)) (sym c.as_slice.ensures)
    ∙ c.in-Some.ensures.named
    ∙ (λ i. lookup (λ key. bytes_eq key (c.as_str-3.ensures i)) (map named (c.as_slice.ensures i))) in
    let none : None ≡ path_in languages design.language = c.in-None.ensures ∙ ap (path_in languages) c.as_str-4.ensures in
    told_now (g.F.Folder.disk c.args.folder.now)
    (λ d. IsAt docs d.now history → live_document history id ≡ Some document)
    (λ d. IsAt docs d.now history → view_refusal languages (of_history history) name ≡ Some refusal)
    (λ d live at. refused_same languages (of_history history) name (UnknownLanguage design.language) refusal same
    (refused_language languages history name id document design is (live at) (stored_design name id document is c.in-Ok.ensures.body) c.in_ok-design.ensures place there fits none))
    (c.in-Ok.ensures.document history)

pub returns-in-Err-read_query-clause-refused : goal.returns-in-Err-read_query-clause-refused
returns-in-Err-read_query-clause-refused g c = λ refusal is_refusal history.
    let docs = c.args.self.now.docs in
    let languages = languages_of c.args.self.now.pool in
    let name = view_query c.args.name.now c.args.query in
    let id = c.as_str-2.result.now in
    let document = json c.in-Ok.document in
    let design = c.in_ok-design.design in
    let place = c.in-Some.place in
    let found = c.in-Err-read_query.fault in
    let some : has_reduce (reduce_named name.view design.views) ≡ c.has_reduce.result =
    reduced_there design.views c.as_slice.result.now c.as_slice-2.result.now name.view c.as_str-3.result.now place c.index-as_slice-place.result c.has_reduce.result c.as_slice.ensures c.as_slice-2.ensures c.as_str-3.ensures c.in-Some.ensures.within c.has_reduce.ensures c.in-Some.ensures.reduced in
    let stands : (query_fault (target_for design.views name) (parameters_of name) ≡ Some found) ⊎ (found ≡ query.NoMemory) =
    subst (λ (f : Option QueryFault). (f ≡ Some found) ⊎ (found ≡ query.NoMemory)) (λ i. query_fault (target.View (sym some i)) (c.parameters_of-parameters.ensures i)) c.in-Err-read_query.ensures.fault in
    let bad = met_query found refusal (query_fault (target_for design.views name) (parameters_of name)) (sym c.halt_of_query.ensures ∙ is_refusal) stands in
    let is : id ≡ design_id name.design = c.as_str-2.ensures ∙ c.in_ok-id.ensures ∙ ap design_id c.as_str.ensures in
    let there : Some (source_at design.views place) ≡ lookup (λ key. bytes_eq key name.view) (map named design.views) =
    ap (λ (views : List View). Some (source_at views place)) (sym c.as_slice.ensures)
    ∙ c.in-Some.ensures.named
    ∙ (λ i. lookup (λ key. bytes_eq key (c.as_str-3.ensures i)) (map named (c.as_slice.ensures i))) in
    told_now (g.F.Folder.disk c.args.folder.now)
    (λ d. IsAt docs d.now history → live_document history id ≡ Some document)
    (λ d. IsAt docs d.now history → view_refusal languages (of_history history) name ≡ Some refusal)
    (λ d live at. refused_query languages history name id document design is (live at) (stored_design name id document is c.in-Ok.ensures.body) c.in_ok-design.ensures place there refusal bad)
    (c.in-Ok.ensures.document history)

-- ---- as the documents in memory say

pub returns-in-Err-clause-kept : goal.returns-in-Err-clause-kept
returns-in-Err-clause-kept g c = λ refusal is_refusal.
    let docs = c.args.self.now.docs in
    let name = view_query c.args.name.now c.args.query in
    let id = c.as_str-2.result.now in
    let is : id ≡ design_id name.design = c.as_str-2.ensures ∙ c.in_ok-id.ensures ∙ ap design_id c.as_str.ensures in
    inl (subst (λ (i : List ℕ). not_live (state_at docs i) ≡ Some refusal) is (got_refused docs id c.in-Err.fault refusal c.in-Err.ensures.missing.0 c.in-Err.ensures.deleted.0 c.in-Err.ensures.faults (sym c.from.ensures ∙ is_refusal)))

pub returns-in_default-clause-kept : goal.returns-in_default-clause-kept
returns-in_default-clause-kept g c = λ refusal is_refusal.
    let docs = c.args.self.now.docs in
    let name = view_query c.args.name.now c.args.query in
    let id = c.as_str-2.result.now in
    let is : id ≡ design_id name.design = c.as_str-2.ensures ∙ c.in_ok-id.ensures ∙ ap design_id c.as_str.ensures in
    let live : IsLiveIn docs (design_id name.design) = subst (IsLiveIn docs) is (got_live docs id c.in-Ok.document c.in-Ok.ensures.missing.1 c.in-Ok.ensures.deleted.1) in
    let same : MissingNamedView ≡ refusal = cc in
    inr (live, subst (IsOfView (design_id name.design)) same tt)

pub returns-in-Err-read_query-clause-kept : goal.returns-in-Err-read_query-clause-kept
returns-in-Err-read_query-clause-kept g c = λ refusal is_refusal.
    let docs = c.args.self.now.docs in
    let name = view_query c.args.name.now c.args.query in
    let id = c.as_str-2.result.now in
    let is : id ≡ design_id name.design = c.as_str-2.ensures ∙ c.in_ok-id.ensures ∙ ap design_id c.as_str.ensures in
    let live : IsLiveIn docs (design_id name.design) = subst (IsLiveIn docs) is (got_live docs id c.in-Ok.document c.in-Ok.ensures.missing.1 c.in-Ok.ensures.deleted.1) in
    inr (live, query_of_view (design_id name.design) c.in-Err-read_query.fault refusal (sym c.halt_of_query.ensures ∙ is_refusal))

pub returns-clause-kept : goal.returns-clause-kept
returns-clause-kept g c = λ refusal is_refusal.
    let docs = c.args.self.now.docs in
    let name = view_query c.args.name.now c.args.query in
    let id = c.as_str-2.result.now in
    let is : id ≡ design_id name.design = c.as_str-2.ensures ∙ c.in_ok-id.ensures ∙ ap design_id c.as_str.ensures in
    let live : IsLiveIn docs (design_id name.design) = subst (IsLiveIn docs) is (got_live docs id c.in-Ok.document c.in-Ok.ensures.missing.1 c.in-Ok.ensures.deleted.1) in
    let same : UnknownLanguage c.in_ok-design.design.language ≡ refusal = cc in
    inr (live, subst (IsOfView (design_id name.design)) same tt)

pub returns-in-Err-clause-stopped : goal.returns-in-Err-clause-stopped
returns-in-Err-clause-stopped g c = λ fault is_fault other.
    let docs = c.args.self.now.docs in
    let name = view_query c.args.name.now c.args.query in
    let id = c.as_str-2.result.now in
    let is : id ≡ design_id name.design = c.as_str-2.ensures ∙ c.in_ok-id.ensures ∙ ap design_id c.as_str.ensures in
    subst (IsLiveIn docs) is (got_stopped docs id c.in-Err.fault fault c.in-Err.ensures.missing.1 c.in-Err.ensures.deleted.1 (sym c.from.ensures ∙ is_fault))

-- ---- and as the design document says

pub returns-in-Err-clause-own : goal.returns-in-Err-clause-own
returns-in-Err-clause-own g c = λ refusal is_refusal live.
    let docs = c.args.self.now.docs in
    let name = view_query c.args.name.now c.args.query in
    let id = c.as_str-2.result.now in
    let is : id ≡ design_id name.design = c.as_str-2.ensures ∙ c.in_ok-id.ensures ∙ ap design_id c.as_str.ensures in
    let refused : not_live (state_at docs (design_id name.design)) ≡ Some refusal = subst (λ (i : List ℕ). not_live (state_at docs i) ≡ Some refusal) is (got_refused docs id c.in-Err.fault refusal c.in-Err.ensures.missing.0 c.in-Err.ensures.deleted.0 c.in-Err.ensures.faults (sym c.from.ensures ∙ is_refusal)) in
    let clash : None ≡ Some refusal = sym live ∙ refused in
    absurd (let never : ⊥ = cc in never)

pub returns-in_default-clause-own : goal.returns-in_default-clause-own
returns-in_default-clause-own g c = λ refusal is_refusal live.
    let docs = c.args.self.now.docs in
    let languages = languages_of c.args.self.now.pool in
    let name = view_query c.args.name.now c.args.query in
    let id = c.as_str-2.result.now in
    let document = json c.in-Ok.document in
    let design = c.in_ok-design.design in
    let same : MissingNamedView ≡ refusal = cc in
    let is : id ≡ design_id name.design = c.as_str-2.ensures ∙ c.in_ok-id.ensures ∙ ap design_id c.as_str.ensures in
    let none : None ≡ lookup (λ key. bytes_eq key name.view) (map named design.views) =
    c.in_default.ensures.named ∙ (λ i. lookup (λ key. bytes_eq key (c.as_str-3.ensures i)) (map named (c.as_slice.ensures i))) in
    record {
      document = document;
      read = record { body = subst (λ (i : List ℕ). IsBodyOf i document) is c.in-Ok.ensures.body; live = asked_by g.F.Folder docs c.args.folder.now name id document is c.in-Ok.ensures.live };
      says = own_view languages name document design (stored_design name id document is c.in-Ok.ensures.body) c.in_ok-design.ensures none ∙ ap (λ (r : Refusal). Some r) same;
    }

pub returns-in-Err-read_query-clause-own : goal.returns-in-Err-read_query-clause-own
returns-in-Err-read_query-clause-own g c = λ refusal is_refusal live.
    let docs = c.args.self.now.docs in
    let languages = languages_of c.args.self.now.pool in
    let name = view_query c.args.name.now c.args.query in
    let id = c.as_str-2.result.now in
    let document = json c.in-Ok.document in
    let design = c.in_ok-design.design in
    let place = c.in-Some.place in
    let found = c.in-Err-read_query.fault in
    let some : has_reduce (reduce_named name.view design.views) ≡ c.has_reduce.result =
    reduced_there design.views c.as_slice.result.now c.as_slice-2.result.now name.view c.as_str-3.result.now place c.index-as_slice-place.result c.has_reduce.result c.as_slice.ensures c.as_slice-2.ensures c.as_str-3.ensures c.in-Some.ensures.within c.has_reduce.ensures c.in-Some.ensures.reduced in
    let stands : (query_fault (target_for design.views name) (parameters_of name) ≡ Some found) ⊎ (found ≡ query.NoMemory) =
    subst (λ (f : Option QueryFault). (f ≡ Some found) ⊎ (found ≡ query.NoMemory)) (λ i. query_fault (target.View (sym some i)) (c.parameters_of-parameters.ensures i)) c.in-Err-read_query.ensures.fault in
    let bad = met_query found refusal (query_fault (target_for design.views name) (parameters_of name)) (sym c.halt_of_query.ensures ∙ is_refusal) stands in
    let is : id ≡ design_id name.design = c.as_str-2.ensures ∙ c.in_ok-id.ensures ∙ ap design_id c.as_str.ensures in
    let there : Some (source_at design.views place) ≡ lookup (λ key. bytes_eq key name.view) (map named design.views) =
    ap (λ (views : List View). Some (source_at views place)) (sym c.as_slice.ensures)
    ∙ c.in-Some.ensures.named
    ∙ (λ i. lookup (λ key. bytes_eq key (c.as_str-3.ensures i)) (map named (c.as_slice.ensures i))) in
    record {
      document = document;
      read = record { body = subst (λ (i : List ℕ). IsBodyOf i document) is c.in-Ok.ensures.body; live = asked_by g.F.Folder docs c.args.folder.now name id document is c.in-Ok.ensures.live };
      says = own_query languages name document design (stored_design name id document is c.in-Ok.ensures.body) c.in_ok-design.ensures place there refusal bad;
    }

pub returns-clause-own : goal.returns-clause-own
returns-clause-own g c = λ refusal is_refusal live.
    let docs = c.args.self.now.docs in
    let languages = languages_of c.args.self.now.pool in
    let name = view_query c.args.name.now c.args.query in
    let id = c.as_str-2.result.now in
    let document = json c.in-Ok.document in
    let design = c.in_ok-design.design in
    let place = c.in-Some.place in
    let some : has_reduce (reduce_named name.view design.views) ≡ c.has_reduce.result =
    reduced_there design.views c.as_slice.result.now c.as_slice-2.result.now name.view c.as_str-3.result.now place c.index-as_slice-place.result c.has_reduce.result c.as_slice.ensures c.as_slice-2.ensures c.as_str-3.ensures c.in-Some.ensures.within c.has_reduce.ensures c.in-Some.ensures.reduced in
    let fits : query_fault (target_for design.views name) (parameters_of name) ≡ None = (λ i. query_fault (target.View (some i)) (sym c.parameters_of-parameters.ensures i)) ∙ c.in-Ok-read_query.ensures.fault in
    let same : UnknownLanguage design.language ≡ refusal = cc in
    let is : id ≡ design_id name.design = c.as_str-2.ensures ∙ c.in_ok-id.ensures ∙ ap design_id c.as_str.ensures in
    let there : Some (source_at design.views place) ≡ lookup (λ key. bytes_eq key name.view) (map named design.views) =
    ap (λ (views : List View). Some (source_at views place)) (sym c.as_slice.ensures)
    ∙ c.in-Some.ensures.named
    ∙ (λ i. lookup (λ key. bytes_eq key (c.as_str-3.ensures i)) (map named (c.as_slice.ensures i))) in
    let none : None ≡ path_in languages design.language = c.in-None.ensures ∙ ap (path_in languages) c.as_str-4.ensures in
    record {
      document = document;
      read = record { body = subst (λ (i : List ℕ). IsBodyOf i document) is c.in-Ok.ensures.body; live = asked_by g.F.Folder docs c.args.folder.now name id document is c.in-Ok.ensures.live };
      says = own_language languages name document design (stored_design name id document is c.in-Ok.ensures.body) c.in_ok-design.ensures place there fits none ∙ ap (λ (r : Refusal). Some r) same;
    }

-- ---- no fault of the folder was counted, unless it ended the planning

pub returns-in-Err-clause-spares : goal.returns-in-Err-clause-spares
returns-in-Err-clause-spares g c = documents_spared g.F.Folder c.args.folder.now c.get.new.folder c.in-Err.fault c.from.result c.in-Err.ensures.cause c.from.ensures

pub returns-in-Err-clause-turned : goal.returns-in-Err-clause-turned
returns-in-Err-clause-turned g c = rw c.from.ensures (halted_turned c.in-Err.fault)
