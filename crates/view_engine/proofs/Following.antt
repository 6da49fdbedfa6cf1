-- A request that does as the documents in memory say.
use Rattle.std.specs.Prelude.{IfOk}
use Rattle.std.proofs.Common.{◌≡◌, ◌≢◌, ◌⊎◌, ◌++◌, ◌∙◌, ℕ, List, Bool, true, false, Option, None, Some, Result, Ok, Err, inl, inr, refl, sym, ap, subst}
use Rattle.view_ports.specs.File.{File}
use Rattle.view_ports.specs.Lines.{ended}
use Rattle.view_ports.specs.declared.file_name.FileName.{FileName}
use Rattle.gate_file.specs.declared.fault.GateFault.{GateFault}
use Rattle.gate_file.specs.declared.fault.GateFault.TheVariants as gate
use Rattle.child_pool.specs.declared.pool_fault.PoolFault.{PoolFault}
use Rattle.child_pool.specs.declared.pool_fault.PoolFault.TheVariants as pool
use Rattle.design_docs.specs.Revision.{revision}
use Rattle.view_ports.specs.declared.folder.Folder.{Ghosts as Folders}
use Rattle.doc_file.specs.declared.docs.Docs.{Docs}
use Rattle.doc_file.specs.declared.entry.LastWrite.{LastWrite}
use Rattle.doc_file.specs.declared.fault.DocFault.{DocFault}
use Rattle.doc_file.specs.declared.fault.DocFault.TheVariants as doc
use Rattle.doc_file.specs.Accepted.{State, state_in}
use Rattle.doc_file.specs.Accepted.State.{known}
use Rattle.doc_file.specs.Docs.{bytes_in, entries_of, is_deleted, last_of, IsAt, IsSame}
use Rattle.doc_file.specs.Reads.{IsGetFault}
use Rattle.doc_file.proofs.Histories.{state_kept}
use Rattle.tree_index.specs.declared.fault.IndexFault.TheVariants as index
use Rattle.tree_updater.specs.declared.fault.UpdateFault.{UpdateFault}
use Rattle.tree_updater.specs.declared.fault.UpdateFault.TheVariants as update
use Rattle.view_engine.specs.declared.halt.Halt.{Halt}
use Rattle.view_engine.specs.declared.halt.Halt.TheVariants.{Refused, Stopped}
use Rattle.view_engine.specs.declared.halt.StepFault.{StepFault}
use Rattle.view_engine.specs.declared.halt.StepFault.TheVariants.{DiskFault, Damaged, Full, NoMemory}
use Rattle.view_engine.specs.declared.refusal.Refusal.{Refusal}
use Rattle.view_engine.specs.declared.refusal.Refusal.TheVariants as refusal
use Rattle.view_engine.specs.declared.request.Request.{Request}
use Rattle.view_engine.specs.Get.{get_refusal, not_live}
use Rattle.view_engine.specs.Halts.{halted_as, Writes}
use Rattle.view_engine.specs.InMemory.{state_at, AnswersRequest, FollowsDocuments, FollowsRequest, IsAcceptedBy, IsLiveIn, IsOfView, IsRefusedBy, IsUntouchedBy, IsViewRefusedBy}
use Rattle.view_engine.specs.Refusals.{refusal_text}
use Rattle.view_engine.specs.View.{design_id}
use Rattle.query_args.specs.declared.fault.QueryFault.{QueryFault}
use Rattle.query_args.specs.declared.fault.QueryFault.TheVariants as query
use Rattle.view_engine.specs.ViewPlan.{met_by, met_by_pool, met_by_query}
use Rattle.view_engine.specs.ViewQuery.{ViewQuery, view_request}
use Rattle.view_engine.specs.World.{World}

pub same_docs : (docs : Docs) → IsSame docs docs
same_docs docs = record { file = refl; seq = refl; entries = refl }

-- nothing was called
pub untouched : {F : Type 0} (docs : Docs) (folder : F) (request : Result Request Refusal) → IsUntouchedBy docs docs folder folder request
untouched docs folder request = record { documents = same_docs docs; folder = λ other. refl }

module _ {F : Type 0} (f : Folders F) (docs docs' : Docs) (old new : F) (out out' : List ℕ) where
  -- what was halted is as the halt says
  pub follows_halt : (request : Request) (halt : Halt) → ((r : Refusal) → halt ≡ Refused r → IsRefusedBy docs request r) → ((fault : StepFault) → halt ≡ Stopped fault → fault ≢ NoMemory → IsAcceptedBy docs request)
      → ((halt ≡ Stopped DiskFault) × Writes (Ok request)) ⊎ IsUntouchedBy docs docs' old new (Ok request) → FollowsDocuments f docs docs' old new out out' request (Err halt)
  follows_halt request (Refused r) refused accepted (inl failed) = absurd (let clash = failed.0 in let never : ⊥ = cc in never)
  follows_halt request (Refused r) refused accepted (inr same) = (refused r refl, same)
  follows_halt request (Stopped DiskFault) refused accepted (inl failed) = (accepted DiskFault refl (λ is. cc), λ none. absurd (none failed.1))
  follows_halt request (Stopped DiskFault) refused accepted (inr same) = (accepted DiskFault refl (λ is. cc), λ none. same)
  follows_halt request (Stopped NoMemory) refused accepted (inl failed) = absurd (let clash = failed.0 in let never : ⊥ = cc in never)
  follows_halt request (Stopped NoMemory) refused accepted (inr same) = same
  follows_halt request (Stopped (Damaged name at)) refused accepted (inl failed) = absurd (let clash = failed.0 in let never : ⊥ = cc in never)
  follows_halt request (Stopped (Damaged name at)) refused accepted (inr same) = (accepted (Damaged name at) refl (λ is. cc), same)
  follows_halt request (Stopped (Full name length)) refused accepted (inl failed) = absurd (let clash = failed.0 in let never : ⊥ = cc in never)
  follows_halt request (Stopped (Full name length)) refused accepted (inr same) = (accepted (Full name length) refl (λ is. cc), same)

  -- ---- as a line is answered

  module _ (Fits : Option Refusal → Type 0) where
    abbrev Answers : Result Request Refusal → Result (Unit {0}) StepFault → Type 0
    Answers = AnswersRequest f docs docs' old new out out' Fits

    -- the request was done
    pub answers_done : (request : Result Request Refusal) → Fits None → FollowsRequest f docs docs' old new out out' request (Ok tt) → Answers request (Ok tt)
    answers_done (Ok request) fits done = inl (done, fits)
    answers_done (Err r) fits same = same

    module _ (mid : List ℕ) where
      -- its refusal was told
      pub answers_told : (request : Result Request Refusal) (r : Refusal) → out' ≡ out ++ ended (refusal_text r) → Fits (Some r) → FollowsRequest f docs docs' old new out mid request (Err (Refused r)) → Answers request (Ok tt)
      answers_told (Ok request) r appended fits follows = inr (record { refusal = r; refused = follows.0; appended = appended; kept = follows.1; fits = fits })
      answers_told (Err other) r appended fits same = same

      -- or there was no memory to tell it
      pub answers_untold : (request : Result Request Refusal) (r : Refusal) → FollowsRequest f docs docs' old new out mid request (Err (Refused r)) → Answers request (Err NoMemory)
      answers_untold (Ok request) r follows = follows.1
      answers_untold (Err other) r same = same

      -- a fault
      pub answers_stopped : (request : Result Request Refusal) (fault : StepFault) → FollowsRequest f docs docs' old new out mid request (Err (Stopped fault)) → Answers request (Err fault)
      answers_stopped (Ok request) DiskFault follows = follows
      answers_stopped (Ok request) (Damaged name at) follows = follows
      answers_stopped (Ok request) (Full name length) follows = follows
      answers_stopped (Ok request) NoMemory follows = follows
      answers_stopped (Err other) fault same = same

-- ---- nothing was called

module _ {F : Type 0} (f : Folders F) (docs : Docs) (folder : F) (out : List ℕ) where
  pub follows_spent : (request : Result Request Refusal) → FollowsRequest f docs docs folder folder out out request (Err (Stopped NoMemory))
  follows_spent (Ok request) = untouched docs folder (Ok request)
  follows_spent (Err r) = untouched docs folder (Err r)

  pub follows_refused : (request : Result Request Refusal) (r : Refusal) → IfOk request (λ one. IsRefusedBy docs one r) → FollowsRequest f docs docs folder folder out out request (Err (Refused r))
  follows_refused (Ok request) r refused = (refused, untouched docs folder (Ok request))
  follows_refused (Err other) r refused = untouched docs folder (Err other)

-- ---- documents that are read

live_in : (found : Option LastWrite) → (found ≡ None → ⊥) → (is_deleted found ≡ true → ⊥) → not_live (state_in found) ≡ None
live_in None some live = absurd (some refl)
live_in (Some last) some live = by_deleted (revision last.generation last.seq) last.deleted live
  where
    by_deleted : (rev : List ℕ) (deleted : Bool) → (deleted ≡ true → ⊥) → not_live (known rev deleted) ≡ None
    by_deleted rev true live = absurd (live refl)
    by_deleted rev false live = refl

missing_in : (found : Option LastWrite) → found ≡ None → not_live (state_in found) ≡ Some refusal.Missing
missing_in found none = ap (λ (f : Option LastWrite). not_live (state_in f)) none

deleted_in : (found : Option LastWrite) → is_deleted found ≡ true → not_live (state_in found) ≡ Some refusal.Deleted
deleted_in None deleted = absurd (let never : ⊥ = cc in never)
deleted_in (Some last) deleted = ap (λ (d : Bool). not_live (known (revision last.generation last.seq) d)) deleted

abbrev got : {T : Type 0} → T → Result T DocFault
got document = Ok document

abbrev failed : (T : Type 0) → DocFault → Result T DocFault
failed T fault = Err fault

module _ {T : Type 0} (docs : Docs) (id : List ℕ) where
  -- a document that was got is live
  pub got_live : (document : T) → (last_of docs id ≡ None → got document ≡ Err doc.Missing) → (is_deleted (last_of docs id) ≡ true → got document ≡ Err doc.Deleted) → IsLiveIn docs id
  got_live document missing deleted = live_in (last_of docs id) (λ none. let clash : got document ≡ failed T doc.Missing = missing none in let never : ⊥ = cc in never)
      (λ is. let clash : got document ≡ failed T doc.Deleted = deleted is in let never : ⊥ = cc in never)

  -- and where it is refused it isn't
  pub got_refused : (fault : DocFault) (r : Refusal) → (failed T fault ≡ failed T doc.Missing → last_of docs id ≡ None) → (failed T fault ≡ failed T doc.Deleted → is_deleted (last_of docs id) ≡ true) → IsGetFault fault
      → halted_as fault ≡ Refused r → not_live (state_at docs id) ≡ Some r
  got_refused fault r missing deleted (inl is) met =
      let same : refusal.Missing ≡ r = (let as_met : Refused refusal.Missing ≡ Refused r = sym (ap halted_as is) ∙ met in cc) in
      missing_in (last_of docs id) (missing (ap (failed T) is)) ∙ ap (λ (x : Refusal). Some x) same
  got_refused fault r missing deleted (inr (inl is)) met =
      let same : refusal.Deleted ≡ r = (let as_met : Refused refusal.Deleted ≡ Refused r = sym (ap halted_as is) ∙ met in cc) in
      deleted_in (last_of docs id) (deleted (ap (failed T) is)) ∙ ap (λ (x : Refusal). Some x) same
  got_refused fault r missing deleted (inr (inr (inl is))) met = absurd (let clash : Stopped DiskFault ≡ Refused r = sym (ap halted_as is) ∙ met in let never : ⊥ = cc in never)
  got_refused fault r missing deleted (inr (inr (inr (inl is)))) met = absurd (let clash : Stopped NoMemory ≡ Refused r = sym (ap halted_as is) ∙ met in let never : ⊥ = cc in never)
  got_refused fault r missing deleted (inr (inr (inr (inr is)))) met = absurd (let clash : Stopped (Damaged is.0 is.1) ≡ Refused r = sym (ap halted_as is.2) ∙ met in let never : ⊥ = cc in never)

module _ {T : Type 0} (docs : Docs) (id : List ℕ) where
  -- and by another fault it is
  pub got_stopped : (fault : DocFault) (step : StepFault) → (last_of docs id ≡ None → failed T fault ≡ failed T doc.Missing) → (is_deleted (last_of docs id) ≡ true → failed T fault ≡ failed T doc.Deleted) → halted_as fault ≡ Stopped step → IsLiveIn docs id
  got_stopped fault step missing deleted met =
      live_in (last_of docs id) (λ none. let clash : failed T fault ≡ failed T doc.Missing = missing none in let same : fault ≡ doc.Missing = cc in let never : Refused refusal.Missing ≡ Stopped step = sym (ap halted_as same) ∙ met in cc)
      (λ is. let clash : failed T fault ≡ failed T doc.Deleted = deleted is in let same : fault ≡ doc.Deleted = cc in let never : Refused refusal.Deleted ≡ Stopped step = sym (ap halted_as same) ∙ met in cc)

-- in a world that the documents are at it is refused alike
pub get_refused : (docs : Docs) (files : FileName → File) (world : World) → IsAt docs files world.history → (id : List ℕ) (r : Refusal) → not_live (state_at docs id) ≡ Some r → get_refusal world id ≡ Some r
get_refused docs files world at id r = subst (λ (s : State). not_live s ≡ Some r) (state_kept world.history (bytes_in docs files) (entries_of docs) at.each id)

-- ---- views

-- a fault of the pool is met as a refusal of a view
pub pool_of_view : (id : List ℕ) (fault : PoolFault) (r : Refusal) → met_by_pool id fault ≡ Refused r → IsOfView id r
pool_of_view id pool.ServerFault r is = let same : refusal.ServerFault ≡ r = cc in subst (IsOfView id) same tt
pool_of_view id (pool.BadReply line) r is = let same : refusal.ServerReply line ≡ r = cc in subst (IsOfView id) same tt
pool_of_view id pool.Compile r is = let same : refusal.CompilationError id ≡ r = cc in subst (IsOfView id) same refl
pool_of_view id pool.NoMemory r is = absurd (let never : ⊥ = cc in never)
pool_of_view id pool.UnknownLanguage r is = absurd (let never : ⊥ = cc in never)

-- and so is one of the query
pub query_of_view : (id : List ℕ) (fault : QueryFault) (r : Refusal) → met_by_query fault ≡ Refused r → IsOfView id r
query_of_view id query.NoMemory r is = absurd (let never : ⊥ = cc in never)
query_of_view id (query.UnknownName name) r is = let same : refusal.BadQuery (query.UnknownName name) ≡ r = cc in subst (IsOfView id) same (λ spent. cc)
query_of_view id (query.BadValue name) r is = let same : refusal.BadQuery (query.BadValue name) ≡ r = cc in subst (IsOfView id) same (λ spent. cc)
query_of_view id query.ReduceOfMapOnly r is = let same : refusal.BadQuery query.ReduceOfMapOnly ≡ r = cc in subst (IsOfView id) same (λ spent. cc)
query_of_view id query.GroupUnreduced r is = let same : refusal.BadQuery query.GroupUnreduced ≡ r = cc in subst (IsOfView id) same (λ spent. cc)
query_of_view id query.KeysNeedGroup r is = let same : refusal.BadQuery query.KeysNeedGroup ≡ r = cc in subst (IsOfView id) same (λ spent. cc)
query_of_view id query.KeyAndKeys r is = let same : refusal.BadQuery query.KeyAndKeys ≡ r = cc in subst (IsOfView id) same (λ spent. cc)
query_of_view id query.CursorReduces r is = let same : refusal.BadQuery query.CursorReduces ≡ r = cc in subst (IsOfView id) same (λ spent. cc)

-- a fault of a file is none
pub file_of_none : (fault : GateFault) (r : Refusal) → halted_as (doc.Gate fault) ≡ Refused r → ⊥
file_of_none gate.DiskFault r is = cc
file_of_none (gate.Damaged name at) r is = cc
file_of_none (gate.Full name length) r is = cc
file_of_none gate.NoMemory r is = cc

-- and so are faults of an update
pub met_of_view : (id : List ℕ) (fault : UpdateFault) (r : Refusal) → met_by id fault ≡ Refused r → IsOfView id r
met_of_view id (update.Pool fault) r is = pool_of_view id fault r is
met_of_view id (update.Docs fault) r is = absurd (file_of_none fault r is)
met_of_view id (update.Index (index.Store fault)) r is = absurd (file_of_none fault r is)
met_of_view id (update.Index other) r is = absurd (let never : ⊥ = cc in never)
met_of_view id update.NoMemory r is = absurd (let never : ⊥ = cc in never)

module _ {F : Type 0} (f : Folders F) (docs : Docs) (old new : F) (name : ViewQuery) (out out' : List ℕ) where
  abbrev untouched_but_read : IsUntouchedBy docs docs old new (Ok (view_request name))
  untouched_but_read = record { documents = same_docs docs; folder = λ other. absurd (other tt) }

  -- a view that is done
  pub follows_view : IsLiveIn docs (design_id name.design) → (reply : List ℕ) → out' ≡ out ++ ended reply → FollowsDocuments f docs docs old new out out' (view_request name) (Ok tt)
  follows_view live reply appended = record { accepted = live; reply = reply; is = tt; appended = appended; kept = λ other. untouched_but_read; wrote = tt }

  -- or halted, before any server is asked
  pub follows_unasked : (halt : Halt) → ((r : Refusal) → halt ≡ Refused r → IsViewRefusedBy docs (design_id name.design) r) → ((fault : StepFault) → halt ≡ Stopped fault → fault ≢ NoMemory → IsLiveIn docs (design_id name.design))
      → FollowsDocuments f docs docs old new out out' (view_request name) (Err halt)
  follows_unasked halt refused live = follows_halt f docs docs old new out out' (view_request name) halt refused live (inr untouched_but_read)

  -- or later
  pub follows_asked : (id : List ℕ) → id ≡ design_id name.design → IsLiveIn docs (design_id name.design) → (halt : Halt) → ((r : Refusal) → halt ≡ Refused r → IsOfView id r) → FollowsDocuments f docs docs old new out out' (view_request name) (Err halt)
  follows_asked id is live halt of_view = follows_unasked halt (λ r met. inr (live, subst (λ (i : List ℕ). IsOfView i r) is (of_view r met))) (λ fault met other. live)
