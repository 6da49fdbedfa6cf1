-- What a request promises, whole: over the documents alone, over the engine, and as the step of a line.
use Rattle.std.specs.Prelude.{◌≡◌, ◌≢◌, ◌⊎◌, ◌≤◌, ◌++◌, ℕ, List, [], true, false, Result, Ok, Err, IfErr, OnErr, OnOk, Option, None, Some}
use Rattle.json_terms.specs.Json.{object, members_of}
use Rattle.view_ports.specs.Disk.{IfTold, LeavesOnly, MovesNone, Tells}
use Rattle.view_ports.specs.Faults.{RoseBy}
use Rattle.view_ports.specs.Lines.{ended, IsLine}
use Rattle.view_ports.specs.declared.file_name.FileName.{FileName}
use Rattle.view_ports.specs.declared.folder.Folder.{Ghosts as Folders}
use Rattle.view_ports.specs.declared.servers.Servers.{Ghosts as Servers}
use Rattle.child_pool.specs.Pools.{languages_of, width_of}
use Rattle.doc_file.specs.declared.docs.Docs.{Docs}
use Rattle.doc_file.specs.Docs.{IsAt as AreAt}
use Rattle.view_engine.specs.declared.engine.Engine.{Engine}
use Rattle.view_engine.specs.declared.halt.Halt.{Halt}
use Rattle.view_engine.specs.declared.halt.Halt.TheVariants.{Refused, Stopped}
use Rattle.view_engine.specs.declared.halt.StepFault.{StepFault}
use Rattle.view_engine.specs.declared.halt.StepFault.TheVariants.{Full, NoMemory}
use Rattle.view_engine.specs.declared.refusal.Refusal.{Refusal}
use Rattle.view_engine.specs.declared.refusal.Refusal.TheVariants.{CompilationError, ServerFault, ServerReply}
use Rattle.view_engine.specs.declared.request.Request.{Request}
use Rattle.view_engine.specs.declared.request.Request.TheVariants.{Put, Delete, Get, Info, View}
use Rattle.view_engine.specs.Accepted.{is_ok}
use Rattle.view_engine.specs.Delete.{DoesDelete, IsDeleteRefused}
use Rattle.view_engine.specs.Disks.{Clears, HasGivenUp, HasReply, IfStopped, IsFitFor, IsReason, IsReasonOf, KeepsDisk, KeepsDocuments, IsOnIndexes, IsView, MayGoOn, MayWant, OverWorld}
use Rattle.view_engine.specs.FullIndex.{IsIndexFullFor}
use Rattle.view_engine.specs.Engine.{Appends, HasChild, IsAt, Leaves}
use Rattle.view_engine.specs.Get.{get_refusal, DoesGet, DoesInfo}
use Rattle.view_engine.specs.Halts.{FitsFor, HasGoneOn, HasLeftFiles}
use Rattle.view_engine.specs.InMemory.{AnswersRequest, FollowsDocuments, FollowsRequest, IsLiveIn, IsSaidByDesign}
use Rattle.view_engine.specs.Moments.{Moment}
use Rattle.view_engine.specs.Put.{DoesPut, IsPutRefused}
use Rattle.view_engine.specs.Refusals.{request_of, refusal_text}
use Rattle.view_engine.specs.ServerFaults.{AppendsServerFault, is_get}
use Rattle.view_engine.specs.Steps.{Does, DoesRequest, DoesRequestText, MayHaveCalled}
use Rattle.view_engine.specs.View.{design_id}
use Rattle.view_engine.specs.ViewQuery.{view_query, ViewQuery}
use Rattle.view_engine.specs.World.{World}
use Rattle.view_engine.specs.Worlds.{StandsAround}

-- ---- what is appended

-- a reply is one line, which isn't empty
pub record IsReplyLine (reply : List ℕ) : Type 0 where
  pub some : reply ≢ []
  pub plain : IsLine reply

-- a reply line
abbrev pub AppendsLine : List ℕ → List ℕ → Type 0
AppendsLine out out' = (reply : List ℕ) × IsReplyLine reply × (out' ≡ out ++ ended reply)

-- what is appended says `ok` of a write
abbrev pub AppendsOk : List ℕ → List ℕ → Type 0
AppendsOk out out' = (text : List ℕ) × (out' ≡ out ++ text) × (is_ok text ≡ true)

-- a reply line to each line that isn't empty, and nothing to an empty one
pub record AnswersLine (line out out' : List ℕ) : Type 0 where
  pub none : line ≡ [] → out' ≡ out
  pub some : line ≢ [] → AppendsLine out out'

-- the reply of a request that is done isn't `server_fault`, unless it is the text of a document
abbrev pub IsUnlikeFault : Result Request Refusal → List ℕ → Type 0
IsUnlikeFault request reply = is_get request ≡ false → reply ≢ refusal_text ServerFault

-- the reply line of a request that is done
pub record AppendsReplyTo (request : Result Request Refusal) (out out' : List ℕ) : Type 0 where
  pub reply : List ℕ
  pub line : IsReplyLine reply
  pub appended : out' ≡ out ++ ended reply
  pub unlike : IsUnlikeFault request reply

-- ---- a request on the documents alone

-- what it does
abbrev pub DoesHere : World → Request → List ℕ → World → Type 0
DoesHere world (Put document) reply new = DoesPut world (object (members_of document)) reply new
DoesHere world (Delete id given) reply new = DoesDelete world id given reply new
DoesHere world (Get id) reply new = DoesGet world id reply × (new ≡ world)
DoesHere world Info reply new = DoesInfo world reply × (new ≡ world)
DoesHere world other reply new = ⊥

-- and why it is refused
abbrev pub IsRefusedHere : World → Request → Refusal → Type 0
IsRefusedHere world (Put document) refusal = IsPutRefused world (object (members_of document)) refusal
IsRefusedHere world (Delete id given) refusal = IsDeleteRefused world id given refusal
IsRefusedHere world (Get id) refusal = get_refusal world id ≡ Some refusal
IsRefusedHere world other refusal = ⊥

module _ {F : Type 0} (f : Folders F) where
  -- the documents are at a world that the definition allows
  pub record LeavesWorld (docs' : Docs) (old new : F) (Allows : World → Type 0) : Type 0 where
    pub after : World
    pub is_at : IfTold (f.disk new) (λ d. AreAt docs' d.now after.history)
    pub allowed : IfTold (f.disk old) (λ d. Allows after)

  module _ (docs docs' : Docs) (old new : F) (request : Request) (out out' : List ℕ) where
    -- it was done, and its reply line appended
    pub record IsDoneHere : Type 0 where
      pub reply : List ℕ
      pub line : IsReplyLine reply
      pub appended : out' ≡ out ++ ended reply
      pub unlike : IsUnlikeFault (Ok request) reply
      pub does : OverWorld f docs old (λ world. LeavesWorld docs' old new (DoesHere world request reply))

    -- what it does, by how it ends
    abbrev pub DoesHereBy : Result (Unit {0}) Halt → Type 0
    DoesHereBy (Ok done) = IsDoneHere
    DoesHereBy (Err (Refused refusal)) = OverWorld f docs old (λ world. LeavesWorld docs' old new (λ after. (after ≡ world) × IsRefusedHere world request refusal))
    DoesHereBy (Err (Stopped NoMemory)) = OverWorld f docs old (λ world. LeavesWorld docs' old new (λ after. after ≡ world))
    DoesHereBy (Err (Stopped fault)) = Unit {0}

    pub record ActsHere (result : Result (Unit {0}) Halt) : Type 0 where
      pub does : DoesHereBy result
      pub silent : OnErr result (out' ≡ out)
      pub unblamed : result ≢ Err (Refused ServerFault)
      -- whatever the folder tells, it is accepted or refused as the documents in memory say
      pub follows : FollowsDocuments f docs docs' old new out out' request result
      -- what is written passes no limit of the file
      pub fits : OnOk result (FitsFor docs (Ok request))
      pub disk : KeepsDocuments f docs docs' old new (Ok request) (HasGivenUp result) (MayGoOn result)
      pub why : IfErr result (IfStopped (IsReason f docs old new (Ok request)))
      pub later : f.faults old ≤ f.faults new

-- ---- a request on the engine

-- a line that is no request is refused as that, and no fault but want of memory comes in its place
abbrev pub RefusesLine : List ℕ → List ℕ → List ℕ → Result (Unit {0}) StepFault → Type 0
RefusesLine line out out' (Ok done) = line ≢ [] → IfErr (request_of line) (λ refusal. out' ≡ out ++ ended (refusal_text refusal))
RefusesLine line out out' (Err fault) = IfErr (request_of line) (λ refusal. fault ≡ NoMemory)

-- the same of a request that is performed
abbrev pub RefusesUnread : Result Request Refusal → Result (Unit {0}) Halt → Type 0
RefusesUnread request result = IfErr request (λ refusal. (result ≡ Err (Refused refusal)) ⊎ (result ≡ Err (Stopped NoMemory)))

-- an engine between its ports
pub record Scene (F C : Type 0) : Type 0 where
  pub engine : Engine
  pub folder : F
  pub servers : C

abbrev pub scene : {F C : Type 0} → Engine → F → C → Scene F C
scene engine folder servers = record { engine = engine; folder = folder; servers = servers }

-- What a request leaves as it was, however it ends: one that is no view the query servers, their pool and the cache of nodes, one that
-- is no cleanup either the open indexes too, as does a cleanup that wants memory, and a line that is no request all.
pub record LeavesAlone {F C : Type 0} (request : Result Request Refusal) (Wants : Type 0) (old new : Scene F C) : Type 0 where
  pub servers : (IsView request → ⊥) → new.servers ≡ old.servers
  pub pool : (IsView request → ⊥) → new.engine.pool ≡ old.engine.pool
  pub cache : (IsView request → ⊥) → new.engine.cache ≡ old.engine.cache
  pub groups : (IsOnIndexes request → ⊥) → new.engine.groups ≡ old.engine.groups
  pub wanting : Wants → (IsView request → ⊥) → new.engine.groups ≡ old.engine.groups
  pub all : IfErr request (λ refusal. new ≡ old)

module _ {F C : Type 0} (f : Folders F) (s : Servers C) where
  abbrev pub StandsAt : Scene F C → Moment → Type 0
  StandsAt now = IsAt s.functions s.honest (f.disk now.folder) (s.may_follow now.servers) (s.faults now.servers) now.engine

  abbrev pub KeepsChild : Scene F C → Moment → Type 0
  KeepsChild now = HasChild (s.may_follow now.servers) (s.faults now.servers) now.engine.pool

  -- what the two scenes have in common
  pub record Stays (old new : Scene F C) : Type 0 where
    pub languages : languages_of new.engine.pool ≡ languages_of old.engine.pool
    pub width : width_of new.engine.pool ≡ width_of old.engine.pool
    pub disk_faults : f.faults old.folder ≤ f.faults new.folder
    pub server_faults : s.faults old.servers ≤ s.faults new.servers

  module _ (old new : Scene F C) where
    abbrev Languages : List (List ℕ × List ℕ)
    Languages = languages_of old.engine.pool

    -- no query server was asked: they, their pool, the cache of nodes and the open indexes are as they were, and so is each file
    pub record IsUnasked : Type 0 where
      pub servers : new.servers ≡ old.servers
      pub pool : new.engine.pool ≡ old.engine.pool
      pub cache : new.engine.cache ≡ old.engine.cache
      pub groups : new.engine.groups ≡ old.engine.groups
      pub files : Tells (f.disk old.folder) (f.disk new.folder) MovesNone

    -- so says the design document of a view of its own refusals
    abbrev IsSaid : ViewQuery → Option Refusal → Type 0
    IsSaid = IsSaidByDesign f old.engine.docs Languages old.folder

    -- A view is done, or refused by what its query servers tell, only where its design document doesn't refuse it. At each other refusal no
    -- query server was asked, and it is what the design document says, where that is live.
    abbrev pub FitsView : ViewQuery → Option Refusal → Type 0
    FitsView name None = IsSaid name None
    FitsView name (Some (CompilationError id)) = IsSaid name None
    FitsView name (Some ServerFault) = IsSaid name None
    FitsView name (Some (ServerReply line)) = IsSaid name None
    FitsView name (Some other) = IsUnasked × (IsLiveIn old.engine.docs (design_id name.design) → IsSaid name (Some other))

    -- of a request that is no view nothing is said here
    abbrev pub FitsDesign : Result Request Refusal → Option Refusal → Type 0
    FitsDesign (Ok (View view query)) refusal = FitsView (view_query view query) refusal
    FitsDesign other refusal = Unit {0}

    -- the engine is left at a moment that the definition allows
    abbrev pub LeavesMoment : Moment → (Moment → Type 0) → Type 0
    LeavesMoment before = Leaves s.functions s.honest (f.disk old.folder) (f.disk new.folder) (s.may_follow new.servers) (s.faults new.servers) new.engine before

    -- and so much text is appended
    abbrev pub AppendsText : Moment → (List ℕ → Moment → Type 0) → List ℕ → List ℕ → Type 0
    AppendsText before = Appends s.functions s.honest (f.disk old.folder) (f.disk new.folder) (s.may_follow new.servers) (s.faults new.servers) new.engine before

    -- its children alone are left as at such a moment
    pub record LeavesChild (Allows : Moment → Type 0) : Type 0 where
      pub after : Moment
      pub child : KeepsChild new after
      pub allowed : IfTold (f.disk old.folder) (λ d. Allows after)

    -- a crash meanwhile leaves the world before a request, or the one that it makes
    abbrev pub CrashesAround : Moment → Result Request Refusal → Type 0
    CrashesAround before request = Tells (f.disk old.folder) (f.disk new.folder) (LeavesOnly (StandsAround s.functions s.honest Languages before.world request))

    -- what a request does, by how it ends
    abbrev pub DoesBy : Moment → Result Request Refusal → List ℕ → List ℕ → Result (Unit {0}) Halt → Type 0
    DoesBy before request out out' (Ok done) = AppendsText before (DoesRequestText s.functions s.honest Languages before request) out out'
    DoesBy before request out out' (Err (Refused refusal)) =
        LeavesMoment before (λ after. DoesRequest s.functions s.honest Languages before request (refusal_text refusal) after × MayHaveCalled s.functions s.honest Languages before request after)
    DoesBy before request out out' (Err (Stopped NoMemory)) = LeavesMoment before (MayHaveCalled s.functions s.honest Languages before request)
    DoesBy before request out out' (Err (Stopped fault)) = CrashesAround before request × LeavesChild (MayHaveCalled s.functions s.honest Languages before request)

    -- a request, done or not
    pub record Performed (request : Result Request Refusal) (out out' : List ℕ) (result : Result (Unit {0}) Halt) : Type 0 where
      -- a view is done so where designs that differ have different signatures
      pub does : (before : Moment) → StandsAt old before → IfTold (f.disk old.folder) (λ d. IsFitFor request before.world) → DoesBy before request out out' result
      -- where it is done a reply line is appended, and else nothing
      pub prints : OnOk result (AppendsReplyTo request out out')
      pub silent : OnErr result (out' ≡ out)
      pub refused : RefusesUnread request result
      -- it is refused as a fault of the query servers only where their count rose by two
      pub blames : result ≡ Err (Refused ServerFault) → RoseBy 2 (s.faults old.servers) (s.faults new.servers)
      -- whatever the folder tells, it is accepted or refused as the documents in memory say
      pub follows : FollowsRequest f old.engine.docs new.engine.docs old.folder new.folder out out' request result
      -- and a view as its design document says
      pub designed : OnOk result (FitsDesign request None)
      pub unasked : (refusal : Refusal) → result ≡ Err (Refused refusal) → FitsDesign request (Some refusal)
      -- what isn't asked for is left alone
      pub leaves : LeavesAlone request (MayWant result) old new
      -- what is written passes no limit of the file
      pub fits : OnOk result (FitsFor old.engine.docs request)
      pub disk : KeepsDisk f old.engine new.engine old.folder new.folder request (HasGivenUp result) (MayGoOn result)
      -- a cleanup removes the files of indexes that no live design has, and no others
      pub cleared : Clears f old.engine.docs old.folder new.folder request (HasReply result) (MayWant result)
      -- a file of an index is full only where documents were mapped, by the node that was put last, by the root record or by its commits
      pub filled : (before : Moment) → StandsAt old before → IfTold (f.disk old.folder) (λ d. IsFitFor request before.world) → (name : FileName) (length : Option ℕ) → result ≡ Err (Stopped (Full name length)) → IsView request
          → IfTold (f.disk new.folder) (λ d. IsIndexFullFor s.functions s.honest Languages old.engine.cache new.engine.cache d.now before.world request name length)
      pub why : IfErr result (IfStopped (IsReasonOf f old.engine new.engine old.folder new.folder request))
      pub stays : Stays old new

    -- what a line does
    abbrev pub StepsBy : Moment → List ℕ → List ℕ → List ℕ → Result (Unit {0}) StepFault → Type 0
    StepsBy before line out out' (Ok done) = AppendsText before (Does s.functions s.honest Languages before line) out out'
    StepsBy before line out out' (Err NoMemory) = LeavesMoment before (MayHaveCalled s.functions s.honest Languages before (request_of line))
    StepsBy before line out out' (Err fault) = CrashesAround before (request_of line) × LeavesChild (MayHaveCalled s.functions s.honest Languages before (request_of line))

    -- a line, answered or not
    pub record IsStep (line out out' : List ℕ) (result : Result (Unit {0}) StepFault) : Type 0 where
      -- a view is done so where designs that differ have different signatures
      pub does : (before : Moment) → StandsAt old before → IfTold (f.disk old.folder) (λ d. IsFitFor (request_of line) before.world) → StepsBy before line out out' result
      pub prints : OnOk result (AnswersLine line out out')
      pub silent : OnErr result (out' ≡ out)
      -- where the reply line is `server_fault` the count of the query servers' faults rose by two, whatever the folder holds
      pub blames : OnOk result (AppendsServerFault (request_of line) out out' → RoseBy 2 (s.faults old.servers) (s.faults new.servers))
      -- and where it is `ok`, what the request wrote passed no limit of the file
      pub fits : OnOk result (AppendsOk out out' → FitsFor old.engine.docs (request_of line))
      pub refused : RefusesLine line out out' result
      -- whatever the folder tells, the request is accepted or refused as the documents in memory say, and that is told
      pub follows : line ≢ [] → AnswersRequest f old.engine.docs new.engine.docs old.folder new.folder out out' (FitsDesign (request_of line)) (request_of line) result
      -- what isn't asked for is left alone
      pub leaves : LeavesAlone (request_of line) (result ≡ Err NoMemory) old new
      -- an empty line asks for nothing, and leaves all as it was
      pub asked : OnErr result (line ≢ [])
      pub idle : line ≡ [] → new ≡ old
      pub disk : KeepsDisk f old.engine new.engine old.folder new.folder (request_of line) (HasLeftFiles result) (HasGoneOn result)
      -- a cleanup removes the files of indexes that no live design has, and no others
      pub cleared : line ≢ [] → Clears f old.engine.docs old.folder new.folder (request_of line) (result ≡ Ok tt) (result ≡ Err NoMemory)
      -- a file of an index is full only where documents were mapped, by the node that was put last, by the root record or by its commits
      pub filled : (before : Moment) → StandsAt old before → IfTold (f.disk old.folder) (λ d. IsFitFor (request_of line) before.world) → (name : FileName) (length : Option ℕ) → result ≡ Err (Full name length)
          → IsView (request_of line) → IfTold (f.disk new.folder) (λ d. IsIndexFullFor s.functions s.honest Languages old.engine.cache new.engine.cache d.now before.world (request_of line) name length)
      pub why : IfErr result (IsReasonOf f old.engine new.engine old.folder new.folder (request_of line))
      pub stays : Stays old new

-- ---- what is told of a halt

-- a refusal is told by its line, and a fault by itself
abbrev pub IsToldAs : Halt → List ℕ → List ℕ → Result (Unit {0}) StepFault → Type 0
IsToldAs (Refused refusal) out out' result =
    OnOk result (out' ≡ out ++ ended (refusal_text refusal)) × OnErr result (out' ≡ out) × IfErr result (λ fault. fault ≡ NoMemory)
IsToldAs (Stopped fault) out out' result = (result ≡ Err fault) × (out' ≡ out)
