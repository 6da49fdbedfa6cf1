-- A view, as its servers answered it.
use Rattle.std.specs.Prelude.{replicate, slice_index_or}
use Rattle.std.proofs.Common.{◌≡◌, ◌≢◌, ◌⊎◌, ◌<◌, ◌≤◌, ◌∙◌, ◌++◌, ℕ, max, min, List, [], ◌∷◌, Bool, true, length, map, Option, None, Some, Result, Ok, Err, refl, sym, ap, subst, inl, inr, eq-eqb, ne_eqb}
use Rattle.std.specs.Prelude.{if◌then◌else◌}
use Rattle.std.specs.List.{AllByRecursion}
use Rattle.std.proofs.lemmas.List.{length-map}
use Rattle.std.proofs.lemmas.Slice.Eq.{bytes_eq-Decides}
use Rattle.json_terms.specs.Json.{Json}
use Rattle.json_terms.specs.Seen.{json}
use Rattle.json_terms.specs.declared.term.Row.{Row}
use Rattle.view_ports.specs.Calls.{Call}
use Rattle.view_ports.specs.Faults.{Rose, RoseBy}
use Rattle.view_ports.specs.Functions.{Functions, IsMappable, source_limit}
use Rattle.design_docs.specs.declared.design.Design.{Design}
use Rattle.design_docs.specs.declared.design.View.{View}
use Rattle.design_docs.specs.Design.{map_sources, views_of}
use Rattle.query_protocol.specs.CommandLines.{document_of}
use Rattle.child_pool.specs.declared.doc_rows.DocRowLists.{DocRowLists}
use Rattle.child_pool.specs.declared.pool.Pool.{Pool}
use Rattle.child_pool.specs.declared.pool_fault.PoolFault.{PoolFault}
use Rattle.child_pool.specs.declared.pool_fault.PoolFault.TheVariants as fault
use Rattle.child_pool.specs.Firsts.{first_prompts, HasMappedFirst}
use Rattle.child_pool.specs.Histories.{WentIn, talk}
use Rattle.child_pool.specs.Jobs.{Job, job_of}
use Rattle.child_pool.specs.Mapping.{IsPart}
use Rattle.child_pool.specs.Pools.{IsKeptOf, kept_of}
use Rattle.child_pool.specs.Prompts.{update_prompts}
use Rattle.child_pool.specs.ReduceTalk.{reduce_in, reduce_sources}
use Rattle.child_pool.specs.Honesty.{SomeSourceFails}
use Rattle.child_pool.specs.Sessions.{AllCompile}
use Rattle.child_pool.specs.Talk.{AreCutShortIn, AreTurns, talk_of}
use Rattle.child_pool.specs.Outcomes.{IsCaused}
use Rattle.child_pool.specs.Tries.{AllAnswered, Prompt, StopsAt}
use Rattle.child_pool.specs.Updates.{AfterTries, AfterUpdate}
use Rattle.child_pool.proofs.Remembered.{kept_is}
use Rattle.child_pool.proofs.Honesty.{maps_complain_rightly, no_bad_reply}
use Rattle.design_docs.specs.History.{AreStored, mapped_after}
use Rattle.doc_file.proofs.CanBeStored.{mapped_are_stored}
use Rattle.view_model.specs.Picture.{Picture, picture_or_none}
use Rattle.view_model.specs.Rows.{some_reduce_fails, spoiled, view_rows}
use Rattle.view_model.specs.Since.{first}
use Rattle.view_model.specs.Standing.{AreSetAt}
use Rattle.view_model.specs.Update.{IsUpdated}
use Rattle.tree_index.specs.Held.{or_empty}
use Rattle.tree_groups.specs.Reached.{picture_for, sig_of}
use Rattle.view_signature.specs.Signature.{digest_of, signature_of}
use Rattle.change_mapper.specs.Written.{documents_since}
use Rattle.tree_updater.specs.Made.{IsRefused as IsUpdateRefused}
use Rattle.tree_updater.proofs.Nexts.{all_mappable}
use Rattle.view_engine.specs.declared.refusal.Refusal.{Refusal}
use Rattle.view_engine.specs.declared.refusal.Refusal.TheVariants as refusal
use Rattle.view_engine.specs.declared.halt.Halt.TheVariants.{Refused}
use Rattle.view_engine.specs.Moments.{Called, Moment}
use Rattle.view_engine.specs.Reducing.{Reduced, ReducedSomehow}
use Rattle.view_engine.specs.Refusals.{refusal_text}
use Rattle.view_engine.specs.Steps.{AskedBy, EndsMapping, EndsShowing, EndsWriting, MayHaveCalled, StopsMapping}
use Rattle.view_engine.specs.Updating.{picture_in, AreFit, IsBrought, IsSound}
use Rattle.view_engine.specs.View.{design_id, or_no_rows, own_reduces, rows_in, shown_rows, due_reduces, DoesUpdatedView, IsAnswerOf, IsBroughtUp, IsBrokenOff, IsGivenUp, IsJobOf, IsMet, IsRefusedWriting, IsServed, PrintsRows, fault_of, prompts_of}
use Rattle.view_engine.specs.ViewPlan.{IsPlan, met_by_pool, source_at}
use Rattle.view_engine.specs.World.{World}
use Rattle.view_engine.proofs.Updated.{all_first, are_spoiled, are_spoiled_by_reduce, can_be_answered, not_spoiled, not_spoiled_before, rows_are_afresh, rows_at_place}
use Rattle.query_args.specs.declared.query.Query.{Query}
use Rattle.view_engine.specs.ViewQuery.{ViewQuery, asked_sources, query_for, reduce_named, view_request}

no_documents : (entries : List (List ℕ × Json)) → map (λ entry. document_of entry.1) entries ≡ [] → entries ≡ []
no_documents [] none = refl
no_documents (entry ∷ entries) none = let clash : ⊥ = cc in absurd clash

-- ---- the fault that a refusal tells

pub told_by : (id : List ℕ) (f : PoolFault) (r : Refusal) → met_by_pool id f ≡ Refused r → f ≡ fault_of r
told_by id fault.ServerFault r is = let same : refusal.ServerFault ≡ r = cc in ap fault_of same
told_by id (fault.BadReply line) r is = let same : refusal.ServerReply line ≡ r = cc in ap fault_of same
told_by id fault.Compile r is = let same : refusal.CompilationError id ≡ r = cc in ap fault_of same
told_by id fault.NoMemory r is = absurd (let clash : ⊥ = cc in clash)
told_by id fault.UnknownLanguage r is = absurd (let clash : ⊥ = cc in clash)

-- ---- the picture of a design, in the words of the indexes and in those of the world

empty_rows : (views : List View) → replicate {A = List Row} (length views) [] ≡ map (λ view. []) views
empty_rows [] = refl
empty_rows (view ∷ views) = ap (λ rows. [] ∷ rows) (empty_rows views)

no_picture : (views : List View) (picture : Option Picture) → or_empty (length views) picture ≡ picture_or_none views picture
no_picture views None = ap (λ rows. record { seq = 0; rows = rows }) (empty_rows views)
no_picture views (Some picture) = refl

-- what was set is there
pub set_there : (own : List ℕ) (next : Picture) (before after : List ℕ → Option Picture) → AreSetAt own (Some next) before after → after own ≡ Some next
set_there own next before after set = set own ∙ ap (λ b. if b then Some next else before own) ((bytes_eq-Decides own own).1 refl)

-- ---- what is known once the request is planned, where the folder tells its disk

pub record IsKnown (languages : List (List ℕ × List ℕ)) (before : Moment) (name : ViewQuery) (id : List ℕ) (design : Design) (place : ℕ) (path : List ℕ) (documents : List (List (List ℕ × Json))) : Type 0 where
  pub plan : IsPlan true languages before.world.history name id design place path
  pub stored : AreStored before.world.history
  pub documents_are : documents ≡ documents_since (picture_for design before.world.pictures).seq before.world.history

-- the picture of a planned design
module _ {updating : Bool} (languages : List (List ℕ × List ℕ)) (world : World) (name : ViewQuery) (id : List ℕ) (design : Design) (place : ℕ) (path : List ℕ)
    (plan : IsPlan updating languages world.history name id design place path) where
  pub planned_signature : sig_of design ≡ signature_of plan.document
  planned_signature = ap digest_of plan.term

  pub planned_picture : picture_for design world.pictures ≡ picture_in world plan.document
  planned_picture =
      no_picture design.views (world.pictures (sig_of design))
      ∙ ap (λ sig. picture_or_none design.views (world.pictures sig)) planned_signature
      ∙ ap (λ views. picture_or_none views (world.pictures (signature_of plan.document))) plan.views

module _ (languages : List (List ℕ × List ℕ)) (before : Moment) (name : ViewQuery) (id : List ℕ) (design : Design) (place : ℕ) (path : List ℕ) (documents : List (List (List ℕ × Json)))
    (known : IsKnown languages before name id design place path documents) where
  abbrev document : Json
  document = known.plan.document

  pub same_signature : sig_of design ≡ signature_of document
  same_signature = planned_signature languages before.world name id design place path known.plan

  pub same_picture : picture_for design before.world.pictures ≡ picture_in before.world document
  same_picture = planned_picture languages before.world name id design place path known.plan

  pub are_mappable : AllByRecursion IsMappable documents
  are_mappable =
      subst (AllByRecursion IsMappable) (sym known.documents_are)
      (all_mappable (mapped_after (picture_for design before.world.pictures).seq before.world.history) (mapped_are_stored before.world.history known.stored (picture_for design before.world.pictures).seq))

  -- where a document is mapped there is one in the history
  some_mapped : documents ≢ [] → mapped_after (picture_in before.world document).seq before.world.history ≢ []
  some_mapped some none =
      some (known.documents_are ∙ ap (λ (p : Picture). documents_since p.seq before.world.history) same_picture ∙ ap (map (λ entry. document_of entry.1)) none)

  none_mapped : mapped_after (picture_in before.world document).seq before.world.history ≢ [] → documents ≢ []
  none_mapped some none =
      some (no_documents _ (sym (known.documents_are ∙ ap (λ (p : Picture). documents_since p.seq before.world.history) same_picture) ∙ none))

-- ---- the next picture, as the index shows it

-- the world is as before, but that the design's picture is this one: the documents that were written since were mapped
pub record IsNextOf (functions : List ℕ → Functions) (honest : List ℕ → Type 0) (before : World) (design : Design) (path : List ℕ) (documents : List (List (List ℕ × Json))) (next : Picture) (after : World) : Type 0 where
  pub updated : IsUpdated (functions path) (honest path × (length design.views ≤ source_limit)) design.views before.history (picture_for design before.pictures) next
  pub compile : honest path → documents ≢ [] → AllCompile (functions path) (map_sources design.views)
  pub reduces : honest path → some_reduce_fails (functions path) design.views next.rows ≡ true → some_reduce_fails (functions path) design.views (picture_for design before.pictures).rows ≡ true
  pub history : after.history ≡ before.history
  pub known : after.functions ≡ before.functions
  pub set : AreSetAt (sig_of design) (Some next) before.pictures after.pictures

narrower : {functions : Functions} {honest wide : Type 0} {views : List View} {history : _} {old next : Picture} → (honest → wide) → IsUpdated functions wide views history old next → IsUpdated functions honest views history old next
narrower widen updated = record {
  emitted = updated.emitted;
  each_view = updated.each_view;
  each_document = updated.each_document;
  right = λ is. updated.right (widen is);
  seq = updated.seq;
  rows = updated.rows;
}

module _ (functions : List ℕ → Functions) (honest : List ℕ → Type 0) (languages : List (List ℕ × List ℕ)) (before : Moment) (name : ViewQuery) (id : List ℕ) (design : Design) (place : ℕ) (path : List ℕ)
    (within : place < length design.views) (documents : List (List (List ℕ × Json))) where
  abbrev source : List ℕ
  source = source_at design.views place

  abbrev job : Job
  job = job_of path (map_sources design.views) documents

  abbrev Known : Type 0
  Known = IsKnown languages before name id design place path documents

  is_job : (known : Known) → IsJobOf languages before.world name known.plan.document job source
  is_job known = record {
    live = known.plan.live;
    source_is = known.plan.source_is;
    path_is = known.plan.path_is;
    sources = ap map_sources known.plan.views;
    documents = known.documents_are ∙ ap (λ (p : Picture). documents_since p.seq before.world.history) (same_picture languages before name id design place path documents known);
    reduces = refl;
  }

  -- ---- the sources by which a query server reduces, in the words of the design document

  same_seq : (known : Known) → (picture_for design before.world.pictures).seq ≡ (picture_in before.world known.plan.document).seq
  same_seq known = ap (λ (p : Picture). p.seq) (same_picture languages before name id design place path documents known)

  -- those of its reduces, where something was written since the picture
  pub reduces_are : (known : Known) → (picture_for design before.world.pictures).seq ≢ length before.world.history → reduce_sources design.views ≡ due_reduces known.plan.document before.world
  reduces_are known differs =
      ap reduce_sources known.plan.views
      ∙ sym (ap (λ (b : Bool). if b then [] else reduce_sources (views_of known.plan.document))
      (ne_eqb (picture_in before.world known.plan.document).seq (length before.world.history) (λ same. differs (same_seq known ∙ same))))

  -- and none where nothing was
  pub none_due : (known : Known) → (picture_for design before.world.pictures).seq ≡ length before.world.history → [] ≡ due_reduces known.plan.document before.world
  none_due known same =
      sym (ap (λ (b : Bool). if b then [] else reduce_sources (views_of known.plan.document))
      (eq-eqb (picture_in before.world known.plan.document).seq (length before.world.history) (sym (same_seq known) ∙ same)))

  -- that by which the answer is asked for
  pub own_are : (known : Known) (query : Query) → query ≡ query_for design.views name → (rows : List Row) (world : World) → rows ≡ shown_rows name known.plan.document world
      → asked_sources query (reduce_in design.views place) rows ≡ own_reduces name known.plan.document world
  own_are known query query_is rows world rows_are =
      λ i. asked_sources ((query_is ∙ ap (λ (views : List View). query_for views name) known.plan.views) i) ((known.plan.reduced ∙ ap (reduce_named name.view) known.plan.views) i) (rows_are i)

  -- the design was asked for
  asked_to : (known : Known) (now : Moment)
      → EndsMapping functions honest languages job before now ⊎ EndsWriting functions honest languages known.plan.document job before now ⊎ EndsShowing functions honest languages name known.plan.document job before now
      → MayHaveCalled functions honest languages before (Ok (view_request name)) now
  asked_to known now ends = inr (
    known.plan.accepted,
    subst (λ (updating : Bool). AskedBy functions honest languages updating before name now) (sym known.plan.updates) (record {
      design = known.plan.document;
      job = job;
      source = source;
      is_job = is_job known;
      ends = ends;
    }),
  )

  few : Known → length (map_sources design.views) ≤ 32
  few known = subst (λ (n : ℕ). n ≤ 32) (sym (length-map design.views (λ (v : View). v.map))) known.plan.few

  -- ---- the next picture

  pub updated_with : (known : Known) (next : Picture) → IsUpdated (functions path) (honest path × (length design.views ≤ source_limit)) design.views before.world.history (picture_for design before.world.pictures) next
      → IsUpdated (functions path) (honest path) (views_of known.plan.document) before.world.history (picture_in before.world known.plan.document) next
  updated_with known next updated =
      subst (λ p. IsUpdated (functions path) (honest path) (views_of known.plan.document) before.world.history p next) (same_picture languages before name id design place path documents known)
      (subst (λ views. IsUpdated (functions path) (honest path) views before.world.history (picture_for design before.world.pictures) next) known.plan.views
      (narrower (λ is. (is, known.plan.few)) updated))

  -- a picture that is spoiled is so in the words of the design document
  spoiled_old : (known : Known) → some_reduce_fails (functions path) design.views (picture_for design before.world.pictures).rows ≡ true
      → some_reduce_fails (functions path) (views_of known.plan.document) (picture_in before.world known.plan.document).rows ≡ true
  spoiled_old known fails =
      subst (λ (p : Picture). some_reduce_fails (functions path) (views_of known.plan.document) p.rows ≡ true) (same_picture languages before name id design place path documents known)
      (subst (λ views. some_reduce_fails (functions path) views (picture_for design before.world.pictures).rows ≡ true) known.plan.views fails)

  module _ (next : Picture) (left : World) (known : Known) (made : IsNextOf functions honest before.world design path documents next left) where
    updated_there : IsUpdated (functions path) (honest path) (views_of known.plan.document) before.world.history (picture_in before.world known.plan.document) next
    updated_there = updated_with known next made.updated

    signed : AreSetAt (signature_of known.plan.document) (Some next) before.world.pictures left.pictures
    signed = subst (λ sig. AreSetAt sig (Some next) before.world.pictures left.pictures) (same_signature languages before name id design place path documents known) made.set

    pub is_brought : IsBrought functions honest languages known.plan.document path before.world left
    is_brought = record {
      next = next;
      updated = updated_there;
      history = made.history;
      known = made.known;
      set = signed;
      answerable = λ is_honest sound fit.
          can_be_answered functions honest languages before.world (design_id name.design) known.plan.document path refl known.plan.live known.plan.path_is is_honest sound fit next updated_there
          (λ some. subst (λ views. AllCompile (functions path) (map_sources views)) known.plan.views (made.compile is_honest (none_mapped languages before name id design place path documents known some)))
          (λ later. not_spoiled functions honest languages before.world (design_id name.design) known.plan.document path refl known.plan.live known.plan.path_is is_honest sound fit next.rows
          (λ fails. spoiled_old known (made.reduces is_honest (subst (λ views. some_reduce_fails (functions path) views next.rows ≡ true) (sym known.plan.views) fails))));
    }

    abbrev rows_there : List Row
    rows_there = slice_index_or next.rows place []

    -- the picture is there, and its rows are shown
    pub picture_is : picture_in left known.plan.document ≡ next
    picture_is = ap (picture_or_none (views_of known.plan.document)) (set_there (signature_of known.plan.document) next before.world.pictures left.pictures signed)

    shown_is : length next.rows ≡ length design.views → rows_in (views_of known.plan.document) (picture_in left known.plan.document).rows name.view ≡ Some rows_there
    shown_is each =
        ap (λ (picture : Picture). rows_in (views_of known.plan.document) picture.rows name.view) picture_is
        ∙ ap (λ views. rows_in views next.rows name.view) (sym known.plan.views)
        ∙ known.plan.shown next.rows each

    pub shown_are : length next.rows ≡ length design.views → rows_there ≡ shown_rows name known.plan.document left
    shown_are each = ap or_no_rows (sym (shown_is each))

    pub prints : length next.rows ≡ length design.views → AllByRecursion (λ (row : Row). IsPart (json row.key) × IsPart (json row.value)) rows_there
        → (reply : List ℕ) → IsAnswerOf (functions path) (honest path) design.views name next.seq rows_there reply → PrintsRows functions honest languages name known.plan.document path source before.world left reply
    prints each parts reply answers = record {
      rows = rows_there;
      shown = shown_is each;
      parts = parts;
      afresh = λ is_honest sound fit.
          ap (λ rows. slice_index_or rows place [])
          (rows_are_afresh functions honest languages before.world (design_id name.design) known.plan.document path refl known.plan.live known.plan.path_is is_honest sound fit next updated_there)
          ∙ rows_at_place (functions path) (views_of known.plan.document) before.world.history place (subst (λ (views : List View). place < length views) known.plan.views within)
          ∙ ap (λ views. view_rows (functions path) (source_at views place) before.world.history) (sym known.plan.views)
          ∙ ap (view_rows (functions path) source) (sym (all_first before.world.history) ∙ ap (λ count. first count before.world.history) (sym updated_there.seq))
          ∙ ap (λ picture. view_rows (functions path) source (first (picture_or_none (views_of known.plan.document) picture).seq before.world.history))
          (sym (set_there (signature_of known.plan.document) next before.world.pictures left.pictures signed));
      prints =
          subst (λ picture. IsAnswerOf (functions path) (honest path) (views_of known.plan.document) name (picture_or_none (views_of known.plan.document) picture).seq rows_there reply)
          (sym (set_there (signature_of known.plan.document) next before.world.pictures left.pictures signed))
          (subst (λ views. IsAnswerOf (functions path) (honest path) views name next.seq rows_there reply) known.plan.views answers);
    }

  -- ---- a complaint

  pub spoiled_there : (known : Known) → honest path → IsSound functions honest languages before.world → AreFit before.world.history → IsUpdateRefused functions honest design path before.world.history (picture_for design before.world.pictures)
      → spoiled (functions path) (views_of known.plan.document) before.world.history ≡ true
  spoiled_there known is_honest sound fit (inl fails) =
      are_spoiled functions honest languages before.world (design_id name.design) known.plan.document path refl known.plan.live known.plan.path_is is_honest sound fit
      (subst (λ views. SomeSourceFails (functions path) (map_sources views)) known.plan.views fails.1)
      (some_mapped languages before name id design place path documents known (λ none. fails.0 (sym known.documents_are ∙ none)))
  spoiled_there known is_honest sound fit (inr (inl was)) =
      absurd (not_spoiled_before functions honest languages before.world (design_id name.design) known.plan.document path refl known.plan.live known.plan.path_is is_honest sound fit (spoiled_old known was))
  spoiled_there known is_honest sound fit (inr (inr made)) =
      are_spoiled_by_reduce functions honest languages before.world (design_id name.design) known.plan.document path refl known.plan.live known.plan.path_is is_honest sound fit made.0
      (updated_with known made.0 made.1.updated)
      (subst (λ views. some_reduce_fails (functions path) views made.0.rows ≡ true) known.plan.views made.2)

  -- ---- the calls

  module _ (may_follow : List Call → Type 0) (old new : ℕ) (pool : Pool) (counts : old ≡ before.faults) (later : old ≤ new) (old_pool : Pool) (was : old_pool.width ≡ before.width) (started : old_pool.started ≡ before.started) (reducer : old_pool.reducer ≡ before.reducer) where
    later_there : before.faults ≤ new
    later_there = subst (λ (n : ℕ). n ≤ new) counts later

    -- what the pool did, where it has so many children, and the same in the words of the moment
    abbrev pub Updates : ℕ → Result DocRowLists PoolFault → Type 0
    Updates children result = WentIn may_follow job children before.calls (λ added now. AfterTries functions honest job old_pool (Rose old new) pool result before.calls added now
        × AfterUpdate functions honest job children (Rose old new) pool result before.calls added now)

    pub at_moment : (result : Result DocRowLists PoolFault) → Updates old_pool.width result → Updates before.width result
    at_moment result w = subst (λ (n : ℕ). Updates n result) was w

    abbrev pub after : World → List Call → Moment
    after left now = record { world = left; width = before.width; started = pool.started; reducer = pool.reducer; calls = now; faults = new }

    -- what the pool asked, in the words of the moment
    kept_was : (kept : ℕ) → IsKeptOf old_pool job.path kept → kept ≡ kept_of job.path before.started
    kept_was kept is = kept_is old_pool job.path kept is ∙ ap (kept_of job.path) started

    same_prompts : (kept : ℕ) → IsKeptOf old_pool job.path kept → update_prompts job old_pool.width kept ≡ prompts_of job before
    same_prompts kept is = ap (λ (n : ℕ). update_prompts job n kept) was ∙ ap (update_prompts job before.width) (kept_was kept is)

    served : (left : World) (lists : List (List (List (Json × Json)))) (w : Updates before.width (Ok lists)) → (documents ≡ [] → pool.started ≡ old_pool.started) → IsServed job before (after left w.now) w.added
    served left lists w idle =
        let tries = w.holds.0.0 in
        let is = tries.1 in
        record {
          answered = subst (λ (prompts : List Prompt). AllAnswered (Rose before.faults new) prompts w.added) (same_prompts tries.0 is)
              (subst (λ (n : ℕ). AllAnswered (Rose n new) (update_prompts job old_pool.width tries.0) w.added) counts tries.2.answered);
          talked = subst (λ (n : ℕ). AreTurns (talk_of job.sources job.documents before.width) (talk w.added) ⊎ Rose n new) counts w.holds.1.1.talked;
          kept = λ some. tries.2.remembers some ∙ ap (λ (n : ℕ). Some (record { path = path; count = n })) (ap (λ (n : ℕ). max (min n (length documents)) tries.0) was ∙ ap (max (min before.width (length documents))) (kept_was tries.0 is));
          idle = λ none. idle none ∙ started;
          reducer = w.holds.0.1 ∙ reducer;
        }

    given_up : (f : PoolFault) (w : Updates before.width (Err f)) → documents ≢ [] → IsGivenUp job before (after before.world w.now) f w.added
    given_up f w some =
        let tries = w.holds.0 in
        let all = tries.2 in
        record {
          some = some;
          tried = all.tried;
          stops = all.stops;
          is = all.is;
          only = all.only;
          ends = subst (λ (prompts : List Prompt). StopsAt f (Rose before.faults new) prompts all.tried) (same_prompts tries.0 tries.1)
              (subst (λ (n : ℕ). StopsAt f (Rose n new) (update_prompts job old_pool.width tries.0) all.tried) counts all.refused.stops);
          talked = subst (λ (n : ℕ). AreCutShortIn before.width (talk_of job.sources job.documents before.width) (talk w.added) ⊎ Rose n new) counts w.holds.1.refused.talked;
          stopped = w.holds.1.stopped.stopped;
          none_kept = (w.holds.1.stopped.forgotten, w.holds.1.stopped.reducer);
        }

    -- the first documents alone were mapped
    abbrev Breaks : ℕ → List (List (List ℕ × Json)) → DocRowLists → Type 0
    Breaks children done lists = WentIn may_follow job children before.calls (HasMappedFirst functions honest job old_pool done (Rose old new) pool lists)

    pub breaks_at_moment : (done : List (List (List ℕ × Json))) (lists : DocRowLists) → Breaks old_pool.width done lists → Breaks before.width done lists
    breaks_at_moment done lists w = subst (λ (n : ℕ). Breaks n done lists) was w

    broken_off : (done rest : List (List (List ℕ × Json))) (lists : DocRowLists) → documents ≡ done ++ rest → done ≢ [] → (w : Breaks before.width done lists) → IsBrokenOff job before (after before.world w.now) w.added
    broken_off done rest lists all some w =
        let tried = w.holds.tried in
        let kept = tried.0 in
        record {
          done = done;
          left = rest;
          all = all;
          some = some;
          reducer = w.holds.reducer ∙ reducer;
          answered =
              subst (λ (n : ℕ). AllAnswered (Rose before.faults new) (first_prompts job before.width n done) w.added) (kept_was kept tried.1)
              (subst (λ (n : ℕ). AllAnswered (Rose before.faults new) (first_prompts job n kept done) w.added) was
              (subst (λ (n : ℕ). AllAnswered (Rose n new) (first_prompts job old_pool.width kept done) w.added) counts tried.2.answered));
          kept = tried.2.remembers ∙ ap (λ (n : ℕ). Some (record { path = path; count = n })) (ap (λ (n : ℕ). max (min n (length documents)) kept) was ∙ ap (max (min before.width (length documents))) (kept_was kept tried.1));
        }

    -- ---- how it may end

    -- the mapping stopped
    stopped_so : (P : List Call → List Call → Type 0) (w : WentIn may_follow job before.width before.calls P) → StopsMapping job before (after before.world w.now) w.added
        → Known → MayHaveCalled functions honest languages before (Ok (view_request name)) (after before.world w.now)
    stopped_so P w ends known = asked_to known (after before.world w.now) (inl (record {
      called = record { added = w.added; is = w.is_now; width = refl; lawful = w.lawful; later = later_there; holds = inr ends };
      same = refl;
    }))

    -- the documents were mapped
    module _ (lists : DocRowLists) (idle : documents ≡ [] → pool.started ≡ old_pool.started) (w : Updates before.width (Ok lists)) where
      -- the moment then
      abbrev pub mapped : Moment
      mapped = after before.world w.now

      pub served_there : Called job before mapped (IsServed job before mapped)
      served_there = record { added = w.added; is = w.is_now; width = refl; lawful = w.lawful; later = later_there; holds = served before.world lists w idle }

      -- nothing else was asked
      pub mapped_alone : Known → MayHaveCalled functions honest languages before (Ok (view_request name)) mapped
      mapped_alone known = asked_to known mapped (inl (record {
        called = record { added = w.added; is = w.is_now; width = refl; lawful = w.lawful; later = later_there; holds = inl (served before.world lists w idle) };
        same = refl;
      }))

      -- values of what was to be written were asked for
      pub asked_then : (known : Known) (now : Moment) → ReducedSomehow path (due_reduces known.plan.document before.world) mapped now → now.world ≡ before.world
          → MayHaveCalled functions honest languages before (Ok (view_request name)) now
      asked_then known now asked same = asked_to known now (inr (inl (record { mapped = mapped; served = served_there; asked = asked; same = same })))

      -- the world has it, and values of the view were asked for
      pub shown_then : (known : Known) (between now : Moment) → Reduced path (due_reduces known.plan.document before.world) mapped between
          → IsBrought functions honest languages known.plan.document path before.world now.world → ReducedSomehow path (own_reduces name known.plan.document now.world) between now
          → MayHaveCalled functions honest languages before (Ok (view_request name)) now
      shown_then known between now had brought reduced =
          asked_to known now (inr (inr (record { mapped = mapped; served = served_there; between = between; had = had; brought = brought; reduced = reduced })))

      pub mapped_then : (known : Known) (now : Moment) (reply : List ℕ)
          → IsRefusedWriting functions honest languages name known.plan.document path before.world mapped now reply ⊎ IsBroughtUp functions honest languages name known.plan.document path source before.world mapped now reply
          → DoesUpdatedView functions honest languages before name reply now
      mapped_then known now reply ends = record {
        updates = known.plan.updates;
        accepted = known.plan.accepted;
        design = known.plan.document;
        job = job;
        source = source;
        is_job = is_job known;
        ends = inr (record { mapped = mapped; served = served_there; ends = ends });
      }

    -- the first of them were
    pub asked_some : (done rest : List (List (List ℕ × Json))) (lists : DocRowLists) → documents ≡ done ++ rest → done ≢ [] → (w : Breaks before.width done lists) → Known
        → MayHaveCalled functions honest languages before (Ok (view_request name)) (after before.world w.now)
    asked_some done rest lists all some w known = stopped_so _ w (inr (broken_off done rest lists all some w)) known

    -- the servers gave up
    module _ (f : PoolFault) (some : documents ≢ []) (twice : f ≡ fault.ServerFault → RoseBy 2 old new) (w : Updates before.width (Err f)) where
      pub asked_up : Known → MayHaveCalled functions honest languages before (Ok (view_request name)) (after before.world w.now)
      asked_up known = stopped_so _ w (inl (f, given_up f w some)) known

    met : (f : PoolFault) (added now : List Call) (r : Refusal) → Known → IsCaused functions honest job added before.calls f → (f ≡ fault.ServerFault → RoseBy 2 old new) → met_by_pool id f ≡ Refused r
        → IsMet functions honest name job before (after before.world now) added r
    met fault.ServerFault added now r known caused twice is =
        let same : refusal.ServerFault ≡ r = cc in
        subst (IsMet functions honest name job before (after before.world now) added) same (subst (λ (n : ℕ). RoseBy 2 n new) counts (twice refl))
    met (fault.BadReply line) added now r known caused twice is =
        let same : refusal.ServerReply line ≡ r = cc in
        subst (IsMet functions honest name job before (after before.world now) added) same
        (caused, λ h. no_bad_reply functions honest job added before.calls line (record { path = h; few = few known; stored = are_mappable languages before name id design place path documents known }) caused)
    met fault.Compile added now r known caused twice is =
        let same : refusal.CompilationError id ≡ r = cc in
        subst (IsMet functions honest name job before (after before.world now) added) same (known.plan.id_is, caused, λ h. inl (maps_complain_rightly functions honest path (map_sources design.views) documents added before.calls h caused))
    met fault.NoMemory added now r known caused twice is = absurd (let clash : ⊥ = cc in clash)
    met fault.UnknownLanguage added now r known caused twice is = absurd caused

    -- a complaint of an honest path is right, where the pictures stand
    complains : (f : PoolFault) (w : Updates before.width (Err f)) (r : Refusal) (other : List ℕ) (known : Known) → documents ≢ [] → met_by_pool id f ≡ Refused r → r ≡ refusal.CompilationError other
        → honest path → IsSound functions honest languages before.world → AreFit before.world.history
        → spoiled (functions path) (views_of known.plan.document) before.world.history ≡ true
    complains fault.ServerFault w r other known some is complaint = let clash : ⊥ = cc in absurd clash
    complains (fault.BadReply line) w r other known some is complaint = let clash : ⊥ = cc in absurd clash
    complains fault.Compile w r other known some is complaint = λ is_honest sound fit.
        are_spoiled functions honest languages before.world (design_id name.design) known.plan.document path refl known.plan.live known.plan.path_is is_honest sound fit
        (subst (λ views. SomeSourceFails (functions path) (map_sources views)) known.plan.views (maps_complain_rightly functions honest path (map_sources design.views) documents w.added before.calls is_honest w.holds.1.refused.caused))
        (some_mapped languages before name id design place path documents known some)
    complains fault.NoMemory w r other known some is complaint = let clash : ⊥ = cc in absurd clash
    complains fault.UnknownLanguage w r other known some is complaint = let clash : ⊥ = cc in absurd clash

    pub refuses : (f : PoolFault) (r : Refusal) (w : Updates before.width (Err f)) → documents ≢ [] → Known → (f ≡ fault.ServerFault → RoseBy 2 old new)
        → met_by_pool id f ≡ Refused r → DoesUpdatedView functions honest languages before name (refusal_text r) (after before.world w.now)
    refuses f r w some known twice is = record {
      updates = known.plan.updates;
      accepted = known.plan.accepted;
      design = known.plan.document;
      job = job;
      source = source;
      is_job = is_job known;
      ends = inl (record {
        added = w.added;
        is = w.is_now;
        width = refl;
        lawful = w.lawful;
        later = later_there;
        holds = record {
          same = refl;
          refusal = r;
          met = met f w.added w.now r known w.holds.1.refused.caused twice is;
          prints = refl;
          given_up = subst (λ (fault : PoolFault). IsGivenUp job before (after before.world w.now) fault w.added) (told_by id f r is) (given_up f w some);
          spoils = λ other complaint. complains f w r other known some is complaint;
        };
      });
    }
