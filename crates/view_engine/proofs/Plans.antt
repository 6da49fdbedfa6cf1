-- A view request before any server is asked.
use Rattle.std.specs.Prelude.{◌≡◌, ◌<◌, ◌≤◌, ℕ, zero, suc, codes, not, List, [], ◌∷◌, true, Bool, Option, Some, None, option_and_then, option_map, bytes_eq, length, map, slice_index_or}
use Rattle.std.specs.Map.{lookup}
use Rattle.std.proofs.Common.{◌⊎◌, inl, inr, refl, sym, ap, ◌∙◌, subst, arith}
use Rattle.std.proofs.lemmas.Bool.{and_parts}
use Rattle.json_terms.specs.Json.{Json}
use Rattle.json_terms.specs.Find.{member_of}
use Rattle.design_docs.specs.declared.design.Design.{Design}
use Rattle.design_docs.specs.declared.design.View.{View}
use Rattle.design_docs.specs.Design.{IsDesignOf, language_of, source_of, views_of}
use Rattle.design_docs.specs.Documents.{is_design_id}
use Rattle.design_docs.specs.Laws.{entry_of}
use Rattle.design_docs.specs.Faults.{HasDesign}
use Rattle.design_docs.proofs.ViewNames.{has_views_of_names}
use Rattle.design_docs.proofs.ViewOrder.{views_are_few}
use Rattle.view_ports.specs.Disk.{IfTold}
use Rattle.view_ports.specs.declared.folder.Folder.{Ghosts as Folders}
use Rattle.view_ports.proofs.Told.{told_now}
use Rattle.child_pool.specs.Languages.{path_in}
use Rattle.child_pool.specs.ReduceTalk.{reduce_in}
use Rattle.doc_file.specs.declared.docs.Docs.{Docs}
use Rattle.doc_file.specs.Accepted.{state_after}
use Rattle.doc_file.specs.Held.{IsBodyOf}
use Rattle.design_docs.specs.History.{Write, last_write, live_document}
use Rattle.view_engine.specs.declared.refusal.Refusal.{Refusal}
use Rattle.view_engine.specs.declared.refusal.Refusal.TheVariants.{BadQuery, MissingNamedView, UnknownLanguage}
use Rattle.view_engine.specs.World.{World, of_history}
use Rattle.view_engine.specs.Get.{get_refusal, not_live}
use Rattle.view_engine.specs.Disks.{IsAskedFor}
use Rattle.view_engine.specs.InMemory.{own_refusal}
use Rattle.view_engine.specs.Planning.{IsReadOf}
use Rattle.view_engine.specs.Refusals.{first_of}
use Rattle.query_args.specs.declared.fault.QueryFault.{QueryFault}
use Rattle.query_args.specs.declared.fault.QueryFault.TheVariants as query
use Rattle.view_engine.specs.declared.halt.Halt.TheVariants.{Refused, Stopped}
use Rattle.view_engine.specs.declared.halt.StepFault.TheVariants.{NoMemory}
use Rattle.query_args.specs.declared.query.Query.{Query}
use Rattle.query_args.specs.Faults.{is_false_given, is_reduced, query_fault}
use Rattle.query_args.specs.Query.{is_updated}
use Rattle.view_engine.specs.View.{bad_query, design_id, no_language, no_path, no_view, view_refusal}
use Rattle.view_engine.specs.ViewPlan.{HasReduce, IsPlan, ShowsRows, met_by_query, source_at}
use Rattle.view_engine.specs.ViewQuery.{ViewQuery, has_reduce, parameters_of, query_for, reduce_named, target_for}

-- where the folder tells, the design is that of the document that is asked for
pub reads_design : {F : Type 0} (f : Folders F) (docs : Docs) (folder : F) (name : ViewQuery) (design : Design) → IsReadOf f docs folder name design
    → IfTold (f.disk folder) (λ d. (document : Json) × IsAskedFor docs d.now name document × IsDesignOf document design)
reads_design f docs folder name design of_document = told_now (f.disk folder) (λ d. IsAskedFor docs d.now name of_document.document) _ (λ d live. (of_document.document, live, of_document.is)) (of_document.read).live

is_design : (name : List ℕ) → is_design_id (design_id name) ≡ true
is_design name = refl

-- what is stored under the id of a design document has a design
pub stored_design : (name : ViewQuery) (id : List ℕ) (document : Json) → id ≡ design_id name.design → IsBodyOf id document → HasDesign document
stored_design name id document is body = body.design (ap is_design_id is ∙ is_design name.design)

-- a live document isn't refused
not_refused : (write : Option Write) (rev : List ℕ) (document : Json) → option_and_then (λ w. w.document) write ≡ Some document → not_live (state_after write rev) ≡ None
not_refused None rev document is = let clash : ⊥ = cc in absurd clash
not_refused (Some write) rev document is = rw is refl

-- ---- as the design document says

module _ (languages : List (List ℕ × List ℕ)) (name : ViewQuery) (document : Json) (design : Design) (has : HasDesign document) (of : IsDesignOf document design) where
  abbrev Own : Option Refusal
  Own = own_refusal languages name document

  named : lookup (λ key. bytes_eq key name.view) (map entry_of design.views) ≡ source_of name.view document
  named = ap (λ (views : List View). lookup (λ key. bytes_eq key name.view) (map entry_of views)) of.1 ∙ has_views_of_names document has name.view

  pub own_view : None ≡ lookup (λ key. bytes_eq key name.view) (map entry_of design.views) → Own ≡ Some MissingNamedView
  own_view none = ap (λ (s : Option (List ℕ)). first_of (no_view s ∷ bad_query name (Some document) ∷ no_path (language_of document) (path_in languages (language_of document)) ∷ [])) (sym (none ∙ named))

  module _ (place : ℕ) (there : Some (source_at design.views place) ≡ lookup (λ key. bytes_eq key name.view) (map entry_of design.views)) where
    own_source : source_of name.view document ≡ Some (source_at design.views place)
    own_source = sym (there ∙ named)

    own_viewed : Own ≡ first_of (bad_query name (Some document) ∷ no_path (language_of document) (path_in languages (language_of document)) ∷ [])
    own_viewed = ap (λ (s : Option (List ℕ)). first_of (no_view s ∷ bad_query name (Some document) ∷ no_path (language_of document) (path_in languages (language_of document)) ∷ [])) own_source

    -- the query is read for the view of the design that was read
    own_fault : query_fault (target_for design.views name) (parameters_of name) ≡ query_fault (target_for (views_of document) name) (parameters_of name)
    own_fault = ap (λ (views : List View). query_fault (target_for views name) (parameters_of name)) of.1

    pub own_query : (refusal : Refusal) → option_map BadQuery (query_fault (target_for design.views name) (parameters_of name)) ≡ Some refusal → Own ≡ Some refusal
    own_query refusal stands = own_viewed ∙ ap (λ (r : Option Refusal). first_of (r ∷ no_path (language_of document) (path_in languages (language_of document)) ∷ [])) (ap (option_map BadQuery) (sym own_fault) ∙ stands)

    own_served : query_fault (target_for design.views name) (parameters_of name) ≡ None → Own ≡ first_of (no_path (language_of document) (path_in languages (language_of document)) ∷ [])
    own_served fits = own_viewed ∙ ap (λ (f : Option QueryFault). first_of (option_map BadQuery f ∷ no_path (language_of document) (path_in languages (language_of document)) ∷ [])) (sym own_fault ∙ fits)

    pub own_language : query_fault (target_for design.views name) (parameters_of name) ≡ None → None ≡ path_in languages design.language → Own ≡ Some (UnknownLanguage design.language)
    own_language fits none =
        own_served fits
        ∙ ap (λ (l : List ℕ). first_of (no_path l (path_in languages l) ∷ [])) (sym of.0)
        ∙ ap (λ (p : Option (List ℕ)). first_of (no_path design.language p ∷ [])) (sym none)

    pub own_taken : query_fault (target_for design.views name) (parameters_of name) ≡ None → (path : List ℕ) → path_in languages design.language ≡ Some path → Own ≡ None
    own_taken fits path known = own_served fits ∙ ap (λ (p : Option (List ℕ)). first_of (no_path (language_of document) p ∷ [])) (ap (path_in languages) (sym of.0) ∙ known)

-- ---- over a history at which that is live

module _ (languages : List (List ℕ × List ℕ)) (history : List Write) (name : ViewQuery) (id : List ℕ) (document : Json) (design : Design)
    (is : id ≡ design_id name.design) (live : live_document history id ≡ Some document) (has : HasDesign document) (of : IsDesignOf document design) where
  abbrev world : World
  world = of_history history

  lives : live_document history (design_id name.design) ≡ Some document
  lives = ap (live_document history) (sym is) ∙ live

  got : get_refusal world (design_id name.design) ≡ None
  got = not_refused (last_write history (design_id name.design)) _ document lives

  refusals : view_refusal languages world name ≡ own_refusal languages name document
  refusals =
      ap (λ r. first_of (r ∷ no_view (option_and_then (source_of name.view) (live_document history (design_id name.design))) ∷ bad_query name (live_document history (design_id name.design)) ∷ no_language languages (live_document history (design_id name.design)) ∷ [])) got
      ∙ ap (λ (l : Option Json). first_of (no_view (option_and_then (source_of name.view) l) ∷ bad_query name l ∷ no_language languages l ∷ [])) lives

  pub refused_view : None ≡ lookup (λ key. bytes_eq key name.view) (map entry_of design.views) → view_refusal languages world name ≡ Some MissingNamedView
  refused_view none = refusals ∙ own_view languages name document design has of none

  module _ (place : ℕ) (there : Some (source_at design.views place) ≡ lookup (λ key. bytes_eq key name.view) (map entry_of design.views)) where
    pub refused_query : (refusal : Refusal) → option_map BadQuery (query_fault (target_for design.views name) (parameters_of name)) ≡ Some refusal → view_refusal languages world name ≡ Some refusal
    refused_query refusal stands = refusals ∙ own_query languages name document design has of place there refusal stands

    served : query_fault (target_for design.views name) (parameters_of name) ≡ None → view_refusal languages world name ≡ first_of (no_path (language_of document) (path_in languages (language_of document)) ∷ [])
    served fits = refusals ∙ own_served languages name document design has of place there fits

    pub refused_language : query_fault (target_for design.views name) (parameters_of name) ≡ None → None ≡ path_in languages design.language → view_refusal languages world name ≡ Some (UnknownLanguage design.language)
    refused_language fits none = refusals ∙ own_language languages name document design has of place there fits none

    pub planned : {updating : Bool} → is_updated (parameters_of name) ≡ updating → query_fault (target_for design.views name) (parameters_of name) ≡ None → ShowsRows design.views name.view place → HasReduce design.views name.view place → (path : List ℕ) → path_in languages design.language ≡ Some path
        → IsPlan updating languages history name id design place path
    planned updates fits shown reduced path known =
        let there_is : path_in languages (language_of document) ≡ Some path = ap (path_in languages) (sym of.0) ∙ known in
        record {
          document = document;
          live = lives;
          source_is = own_source languages name document design has of place there;
          path_is = there_is;
          language = of.0;
          views = of.1;
          term = of.2;
          shown = shown;
          few = subst (λ (views : List View). length views ≤ 32) (sym of.1) (views_are_few document has);
          reduced = reduced;
          id_is = is;
          updates = updates;
          accepted = served fits ∙ ap (λ (p : Option (List ℕ)). first_of (no_path (language_of document) p ∷ [])) there_is;
        }

-- one refusal is the other
pub refused_same : (languages : List (List ℕ × List ℕ)) (world : World) (name : ViewQuery) (r s : Refusal) → r ≡ s → view_refusal languages world name ≡ Some r → view_refusal languages world name ≡ Some s
refused_same languages w name r s same is = is ∙ ap (λ (x : Refusal). Some x) same

-- a fault of the query, as a request meets it, is the one that stands
pub met_query : (found : QueryFault) (refusal : Refusal) (stands : Option QueryFault) → met_by_query found ≡ Refused refusal → (stands ≡ Some found) ⊎ (found ≡ query.NoMemory) → option_map BadQuery stands ≡ Some refusal
met_query query.NoMemory refusal stands is one = absurd (let clash : ⊥ = cc in clash)
met_query (query.UnknownName name) refusal stands is (inl same) = ap (option_map BadQuery) same ∙ (let met : BadQuery (query.UnknownName name) ≡ refusal = cc in ap (λ r. Some r) met)
met_query (query.BadValue name) refusal stands is (inl same) = ap (option_map BadQuery) same ∙ (let met : BadQuery (query.BadValue name) ≡ refusal = cc in ap (λ r. Some r) met)
met_query query.ReduceOfMapOnly refusal stands is (inl same) = ap (option_map BadQuery) same ∙ (let met : BadQuery query.ReduceOfMapOnly ≡ refusal = cc in ap (λ r. Some r) met)
met_query query.GroupUnreduced refusal stands is (inl same) = ap (option_map BadQuery) same ∙ (let met : BadQuery query.GroupUnreduced ≡ refusal = cc in ap (λ r. Some r) met)
met_query query.KeysNeedGroup refusal stands is (inl same) = ap (option_map BadQuery) same ∙ (let met : BadQuery query.KeysNeedGroup ≡ refusal = cc in ap (λ r. Some r) met)
met_query query.KeyAndKeys refusal stands is (inl same) = ap (option_map BadQuery) same ∙ (let met : BadQuery query.KeyAndKeys ≡ refusal = cc in ap (λ r. Some r) met)
met_query query.CursorReduces refusal stands is (inl same) = ap (option_map BadQuery) same ∙ (let met : BadQuery query.CursorReduces ≡ refusal = cc in ap (λ r. Some r) met)
met_query other refusal stands is (inr memory) = absurd (let clash : ⊥ = memory_is_no_fault other refusal memory is in clash)
  where
    memory_is_no_fault : (found : QueryFault) (refusal : Refusal) → found ≡ query.NoMemory → met_by_query found ≡ Refused refusal → ⊥
    memory_is_no_fault found refusal memory is = let met : Stopped NoMemory ≡ Refused refusal = sym (ap met_by_query memory) ∙ is in cc

-- the reduce of the view in the place that was found is that of the view with the name
pub has_there : (views one : List View) (name text : List ℕ) (place : ℕ) → one ≡ views → text ≡ name → HasReduce one text place → HasReduce views name place
has_there views one name text place one_is text_is has =
    subst (λ (vs : List View). HasReduce vs name place) one_is (subst (λ (t : List ℕ). HasReduce one t place) text_is has)

-- the view in a place has the reduce of that place
reduce_at : (views : List View) (place : ℕ) (found : View) → place < length views → (slice_index_or views place found).reduce ≡ reduce_in views place
reduce_at [] place found within = absurd (omega (arith, within))
reduce_at (view ∷ views) zero found within = refl
reduce_at (view ∷ views) (suc place) found within = reduce_at views place found (omega (arith, within))

pub reduced_there : (views one two : List View) (name text : List ℕ) (place : ℕ) (view : View) (found : Bool) → one ≡ views → two ≡ views → text ≡ name → place < length one
    → found ≡ has_reduce (slice_index_or two place view).reduce → HasReduce one text place → has_reduce (reduce_named name views) ≡ found
reduced_there views one two name text place view found one_is two_is text_is within is has =
    sym (is
    ∙ ap (λ (vs : List View). has_reduce (slice_index_or vs place view).reduce) two_is
    ∙ ap has_reduce (reduce_at views place view (subst (λ (vs : List View). place < length vs) one_is within) ∙ has_there views one name text place one_is text_is has))

-- a query that is reduced is of a view with a reduce
pub reduced_has : (views : List View) (name : ViewQuery) (place : ℕ) (query : Query) → query ≡ query_for views name → HasReduce views name.view place → query.reduced ≡ true → has_reduce (reduce_in views place) ≡ true
reduced_has views name place query is has reduced =
    let there : is_reduced (target_for views name) (parameters_of name) ≡ true = ap (λ (q : Query). q.reduced) (sym is) ∙ reduced in
    ap has_reduce has ∙ (and_parts (has_reduce (reduce_named name.view views)) (not (is_false_given (member_of (codes "reduce") (parameters_of name)))) there).0
