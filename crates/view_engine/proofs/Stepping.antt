-- A step is the performing of its line's request, told as its halt is told.
use Rattle.std.specs.Prelude.{IfErr, IfOk}
use Rattle.std.proofs.Common.{◌≡◌, ◌≢◌, ◌⊎◌, ◌∙◌, ◌++◌, ℕ, List, [], ◌∷◌, Option, None, Some, Result, Ok, Err, inl, inr, ⊎_elim, refl, sym, ap, subst, append-nil, arith}
use Rattle.view_ports.specs.Disk.{Disk, Framed, IfTold, LeavesOnly, Moves, MovesNone, Tells}
use Rattle.view_ports.specs.File.{File}
use Rattle.view_ports.specs.Functions.{Functions}
use Rattle.view_ports.specs.declared.file_name.FileName.{FileName}
use Rattle.view_ports.specs.Lines.{ended}
use Rattle.view_ports.specs.declared.folder.Folder.{Ghosts as Folders}
use Rattle.view_ports.specs.declared.servers.Servers.{Ghosts as Servers}
use Rattle.view_ports.proofs.DiskRuns.{none_refl, none_same}
use Rattle.view_ports.proofs.Moments.{weaker}
use Rattle.view_ports.proofs.Told.{told_after, told_all, told_given, told_map, told_now, told_pair, told_refl}
use Rattle.child_pool.specs.Pools.{languages_of}
use Rattle.doc_file.specs.declared.docs.Docs.{Docs}
use Rattle.doc_file.specs.Docs.{IsAt as AreAt, IsDocsFile, IsOpen}
use Rattle.gate_file.specs.declared.fault.GateFault.TheVariants as gate
use Rattle.gate_file.specs.Calls.{too_long, used_up}
use Rattle.gate_file.specs.GateFile.{length_of, name_of}
use Rattle.tree_index.specs.declared.index.Index.{Index}
use Rattle.tree_index.specs.Index.{file_of as index_file}
use Rattle.tree_groups.specs.declared.groups.Groups.{Groups}
use Rattle.tree_groups.specs.Cleans.{IsIndexFile}
use Rattle.view_ports.specs.declared.file_name.Stem.TheVariants.{View as ViewStem}
use Rattle.view_engine.specs.declared.engine.Engine.{Engine}
use Rattle.view_engine.specs.declared.halt.Halt.{Halt}
use Rattle.view_engine.specs.declared.halt.Halt.TheVariants.{Refused, Stopped}
use Rattle.view_engine.specs.declared.halt.StepFault.{StepFault}
use Rattle.view_engine.specs.declared.halt.StepFault.TheVariants.{DiskFault, Damaged, Full, NoMemory}
use Rattle.view_engine.specs.declared.refusal.Refusal.{Refusal}
use Rattle.view_engine.specs.declared.refusal.Refusal.TheVariants as refusal
use Rattle.view_engine.specs.declared.request.Request.{Request}
use Rattle.view_engine.specs.declared.request.Request.TheVariants.{Cleanup, Delete, Put, View}
use Rattle.view_engine.specs.Calls.{CrashesAround, DoesBy, FitsDesign, IsStep, IsToldAs, LeavesChild, Performed, RefusesUnread, Scene, StandsAt, StepsBy}
use Rattle.view_engine.specs.Disks.{ChangesFiles, IsOfAskedIndex, IsOfIndex, IsOfSomeIndex, IsOnIndexes, IsReasonOf, IsFitFor, IsView, LiesOpen, MayWant, MeetsFullIndex, MeetsFullIndexIn, MeetsIndexDamage, MeetsIndexDamageIn, MovesIndexes, MovesIndexOf, ReadsDocuments}
use Rattle.view_engine.specs.FullIndex.{IsIndexFullFor}
use Rattle.view_engine.specs.Halts.{halted_by, FitsFor, IsDamage, IsFullFor, LeavesFiles, WouldWrite, Writes}
use Rattle.view_engine.specs.InMemory.{IsRefusedBy}
use Rattle.view_engine.specs.Moments.{Moment}
use Rattle.view_engine.specs.Refusals.{request_of, refusal_text}
use Rattle.view_engine.specs.Steps.{Does, DoesRequest, DoesRequestText, MayHaveCalled}
use Rattle.view_engine.specs.World.{World}
use Rattle.view_engine.specs.Worlds.{HasBodyDamage, HasRoomAt, IsAtWorld, IsFullAt, IsFullIn}
use Rattle.view_engine.proofs.Acting.{leaves_all, leaves_ends, refused_at_once, spent_at_once}
use Rattle.view_engine.proofs.Beside.{damage_beside_indexes, open_beside_indexes}
use Rattle.view_engine.proofs.Following.{answers_done, answers_stopped, answers_told, answers_untold}
use Rattle.view_engine.proofs.Keeping.{open_none}
use Rattle.view_engine.proofs.OnDisk.{disk_ends, documents_still}
use Rattle.view_engine.proofs.Performing.{leaves_as}
use Rattle.view_engine.proofs.ReplyLines.{refusal_line}
use Rattle.view_engine.proofs.Rooms.{nothing_no_ok, refused_no_ok}
use Rattle.view_engine.proofs.ServerFaults.{nothing_appended, reply_no_fault, told_is_fault}
use Rattle.view_engine.proofs.Cleared.{clears_ends}
use Rattle.view_engine.proofs.Slots.{first_damage_own}
use Rattle.view_engine.proofs.Whole.{documents_at, documents_left, documents_open, kept_whole, told_leaves_none, LeavesDocuments}
use Rattle.view_engine.specs.ViewQuery.{view_query}

does_text : (functions : List ℕ → Functions) (honest : List ℕ → Type 0) (languages : List (List ℕ × List ℕ)) (before : Moment) (line text : List ℕ) (after : Moment) → line ≢ []
    → DoesRequestText functions honest languages before (request_of line) text after → Does functions honest languages before line text after
does_text functions honest languages before [] text after some does = absurd (some refl)
does_text functions honest languages before (byte ∷ bytes) text after some does = does

steps_by : {F C : Type 0} (f : Folders F) (s : Servers C) (old new : Scene F C) (before : Moment) (line out mid out' : List ℕ) (fault : StepFault) → DoesBy f s old new before (request_of line) out mid (Err (Stopped fault))
    → StepsBy f s old new before line out out' (Err fault)
steps_by f s old new before line out mid out' DiskFault does = does
steps_by f s old new before line out mid out' (Damaged name at) does = does
steps_by f s old new before line out mid out' (Full name length) does = does
steps_by f s old new before line out mid out' NoMemory does = does

-- a request that was done was one
done_read : (out out' : List ℕ) (request : Result Request Refusal) → RefusesUnread request (Ok tt) → IfErr request (λ refusal. out' ≡ out ++ ended (refusal_text refusal))
done_read out out' (Ok request) unread = tt
done_read out out' (Err refusal) (inl is) = absurd (let never : ⊥ = cc in never)
done_read out out' (Err refusal) (inr is) = absurd (let never : ⊥ = cc in never)

-- and what is told of a line that is none is its refusal
told_unread : (out out' : List ℕ) (request : Result Request Refusal) (told : Refusal) → RefusesUnread request (Err (Refused told)) → out' ≡ out ++ ended (refusal_text told)
    → IfErr request (λ refusal. out' ≡ out ++ ended (refusal_text refusal))
told_unread out out' (Ok request) told unread appended = tt
told_unread out out' (Err refusal) told (inl is) appended = let same : told ≡ refusal = cc in subst (λ (r : Refusal). out' ≡ out ++ ended (refusal_text r)) same appended
told_unread out out' (Err refusal) told (inr is) appended = absurd (let never : ⊥ = cc in never)

-- a fault that isn't told is want of memory there
spent_unread : (request : Result Request Refusal) → IfErr request (λ refusal. NoMemory ≡ NoMemory)
spent_unread (Ok request) = tt
spent_unread (Err refusal) = refl

stopped_unread : (request : Result Request Refusal) (fault : StepFault) → RefusesUnread request (Err (Stopped fault)) → IfErr request (λ refusal. fault ≡ NoMemory)
stopped_unread (Ok request) fault unread = tt
stopped_unread (Err refusal) fault (inl is) = absurd (let never : ⊥ = cc in never)
stopped_unread (Err refusal) fault (inr is) = let same : fault ≡ NoMemory = cc in same

read_as : (request : Result Request Refusal) (refused : Refusal) → request ≡ Err refused → RefusesUnread request (Err (Refused refused))
read_as (Ok request) refused is = tt
read_as (Err refusal) refused is = inl (let same : refusal ≡ refused = cc in ap (λ (r : Refusal). Err (Refused r)) (sym same))

module _ {F C : Type 0} {f : Folders F} {s : Servers C} where
  -- an empty line
  pub step_nothing : {now : Scene F C} {out : List ℕ} → LiesOpen f now.engine now.folder → IsStep f s now now [] out out (Ok tt)
  step_nothing {now} {out} is_open = record {
    does = λ before at fit. record {
      text = [];
      leaves = record {
        after = before;
        is_at = at;
        moments = told_leaves_none now.engine before.world (f.disk now.folder) (f.disk now.folder) (told_refl (f.disk now.folder) MovesNone none_refl) at.documents;
        allowed = told_all (f.disk now.folder) (λ d. Does s.functions s.honest (languages_of now.engine.pool) before [] [] before) (λ d. (refl, refl));
      };
      appended = sym (append-nil out);
    };
    prints = record { none = λ none. refl; some = λ some. absurd (some refl) };
    silent = tt;
    blames = λ appends. absurd (nothing_appended (request_of []) out appends);
    fits = λ appends. absurd (nothing_no_ok out appends);
    refused = λ some. absurd (some refl);
    follows = λ some. absurd (some refl);
    leaves = leaves_all now (request_of []);
    asked = tt;
    idle = λ none. refl;
    disk = kept_whole refl is_open (documents_still (documents_open _ _ is_open));
    cleared = λ some. absurd (some refl);
    filled = λ before at fit name length never. absurd cc;
    why = tt;
    stays = record { languages = refl; width = refl; disk_faults = omega arith; server_faults = omega arith };
  }

  module _ {old new : Scene F C} {line out : List ℕ} (some : line ≢ []) where
    -- the request was done
    pub step_done : {out' : List ℕ} → Performed f s old new (request_of line) out out' (Ok tt) → IsStep f s old new line out out' (Ok tt)
    step_done {out'} performed = record {
      does = λ before at fit.
          let done = performed.does before at fit in
          record {
            text = done.text;
            leaves = leaves_as (DoesRequestText s.functions s.honest (languages_of old.engine.pool) before (request_of line) done.text) (Does s.functions s.honest (languages_of old.engine.pool) before line done.text)
                (λ after does. does_text s.functions s.honest (languages_of old.engine.pool) before line done.text after some does) done.leaves;
            appended = done.appended;
          };
      prints = record { none = λ none. absurd (some none); some = λ filled. let printed = performed.prints in (printed.reply, printed.line, printed.appended) };
      silent = tt;
      blames = λ appends. absurd (reply_no_fault (request_of line) out out' performed.prints appends);
      fits = λ appends. performed.fits;
      refused = λ filled. done_read out out' (request_of line) performed.refused;
      follows = λ filled. answers_done f old.engine.docs new.engine.docs old.folder new.folder out out' (FitsDesign f s old new (request_of line)) (request_of line) performed.designed performed.follows;
      leaves = leaves_ends (λ never. let no : ⊥ = cc in no) performed.leaves;
      asked = tt;
      idle = λ none. absurd (some none);
      disk = disk_ends (λ never. never) (λ goes. tt) performed.disk;
      cleared = λ filled. clears_ends f old.engine.docs old.folder new.folder (request_of line) (λ done. tt) (λ wants. let no : ⊥ = cc in no) performed.cleared;
      filled = λ before at fit name length never. absurd cc;
      why = tt;
      stays = performed.stays;
    }

    -- it was halted, and that was told
    pub step_told : {mid out' : List ℕ} (halt : Halt) (told : Result (Unit {0}) StepFault) → Performed f s old new (request_of line) out mid (Err halt) → IsToldAs halt mid out' told → IsStep f s old new line out out' told
    step_told {mid} {out'} (Refused refusal) (Ok done) performed is = record {
      does = λ before at fit.
          record {
            text = ended (refusal_text refusal);
            leaves = leaves_as (λ after. DoesRequest s.functions s.honest (languages_of old.engine.pool) before (request_of line) (refusal_text refusal) after
                × MayHaveCalled s.functions s.honest (languages_of old.engine.pool) before (request_of line) after)
                (Does s.functions s.honest (languages_of old.engine.pool) before line (ended (refusal_text refusal)))
                (λ after both. does_text s.functions s.honest (languages_of old.engine.pool) before line (ended (refusal_text refusal)) after some (refusal_text refusal, both.0, refl)) (performed.does before at fit);
            appended = is.0 ∙ ap (λ (o : List ℕ). o ++ ended (refusal_text refusal)) performed.silent;
          };
      prints = record { none = λ none. absurd (some none); some = λ filled. (refusal_text refusal, refusal_line refusal, is.0 ∙ ap (λ (o : List ℕ). o ++ ended (refusal_text refusal)) performed.silent) };
      silent = tt;
      blames = λ appends. performed.blames (ap (λ (r : Refusal). Err (Refused r)) (told_is_fault refusal (request_of line) out out' (is.0 ∙ ap (λ (o : List ℕ). o ++ ended (refusal_text refusal)) performed.silent) appends));
      fits = λ appends. absurd (refused_no_ok refusal out out' (is.0 ∙ ap (λ (o : List ℕ). o ++ ended (refusal_text refusal)) performed.silent) appends);
      refused = λ filled. told_unread out out' (request_of line) refusal performed.refused (is.0 ∙ ap (λ (o : List ℕ). o ++ ended (refusal_text refusal)) performed.silent);
      follows = λ filled. answers_told f old.engine.docs new.engine.docs old.folder new.folder out out' (FitsDesign f s old new (request_of line)) mid (request_of line) refusal (is.0 ∙ ap (λ (o : List ℕ). o ++ ended (refusal_text refusal)) performed.silent) (performed.unasked refusal refl) performed.follows;
      leaves = leaves_ends (λ never. tt) performed.leaves;
      asked = tt;
      idle = λ none. absurd (some none);
      disk = disk_ends (λ never. absurd never) (λ goes. tt) performed.disk;
      cleared = λ filled. clears_ends f old.engine.docs old.folder new.folder (request_of line) (λ done. tt) (λ wants. tt) performed.cleared;
      filled = λ before at fit name length never. absurd cc;
      why = tt;
      stays = performed.stays;
    }
    step_told {mid} {out'} (Refused refusal) (Err fault) performed is =
        subst (λ (e : StepFault). IsStep f s old new line out out' (Err e)) (sym is.2) (record {
          does = λ before at fit.
              leaves_as (λ after. DoesRequest s.functions s.honest (languages_of old.engine.pool) before (request_of line) (refusal_text refusal) after
              × MayHaveCalled s.functions s.honest (languages_of old.engine.pool) before (request_of line) after)
              (MayHaveCalled s.functions s.honest (languages_of old.engine.pool) before (request_of line)) (λ after both. both.1) (performed.does before at fit);
          prints = tt;
          silent = is.1 ∙ performed.silent;
          blames = tt;
          fits = tt;
          refused = spent_unread (request_of line);
          follows = λ filled. answers_untold f old.engine.docs new.engine.docs old.folder new.folder out out' (FitsDesign f s old new (request_of line)) mid (request_of line) refusal performed.follows;
          leaves = leaves_ends (λ spent. tt) performed.leaves;
          asked = some;
          idle = λ none. absurd (some none);
          disk = disk_ends (λ given. tt) (λ goes. tt) performed.disk;
          cleared = λ filled. clears_ends f old.engine.docs old.folder new.folder (request_of line) (λ done. tt) (λ wants. tt) performed.cleared;
          filled = λ before at fit name length never. absurd cc;
          why = inl tt;
          stays = performed.stays;
        })
    step_told {mid} {out'} (Stopped fault) told performed is =
        subst (λ (r : Result (Unit {0}) StepFault). IsStep f s old new line out out' r) (sym is.0) (record {
          does = λ before at fit. steps_by f s old new before line out mid out' fault (performed.does before at fit);
          prints = tt;
          silent = is.1 ∙ performed.silent;
          blames = tt;
          fits = tt;
          refused = stopped_unread (request_of line) fault performed.refused;
          follows = λ filled. answers_stopped f old.engine.docs new.engine.docs old.folder new.folder out out' (FitsDesign f s old new (request_of line)) mid (request_of line) fault performed.follows;
          leaves = leaves_ends (λ wants. let same : fault ≡ NoMemory = cc in subst (λ (e : StepFault). MayWant (Err (Stopped e))) (sym same) tt) performed.leaves;
          asked = some;
          idle = λ none. absurd (some none);
          disk = disk_ends (λ left. left) (λ goes. goes) performed.disk;
          cleared = λ filled. clears_ends f old.engine.docs old.folder new.folder (request_of line) (λ done. let no : ⊥ = cc in no)
              (λ wants. let same : fault ≡ NoMemory = cc in subst (λ (e : StepFault). MayWant (Err (Stopped e))) (sym same) tt) performed.cleared;
          filled = λ before at fit name length is view. performed.filled before at fit name length (let same : fault ≡ Full name length = cc in ap (λ (e : StepFault). Err (Stopped e)) same) view;
          why = performed.why;
          stays = performed.stays;
        })

  -- a line that is no request
  pub unread : {now : Scene F C} {request : Result Request Refusal} {out : List ℕ} (refused : Refusal) → request ≢ Err refusal.ServerFault → (refused ≢ refusal.NoMemory → request ≡ Err refused) → LiesOpen f now.engine now.folder
      → Performed f s now now request out out (Err (halted_by refused))
  unread refusal.NoMemory unblamed is is_open = spent_at_once is_open
  unread {now = now} {request = request} other unblamed is is_open =
      refused_at_once (λ same. let never : Err other ≡ Ok Cleanup = sym (is (λ spent. let no : ⊥ = cc in no)) ∙ same in let no : ⊥ = cc in no) (λ view. subst IsView (is (λ spent. let no : ⊥ = cc in no)) view) (read_as request other (is (λ same. let never : ⊥ = cc in never))) (λ same. unblamed (is (λ spent. let never : refusal.NoMemory ≡ refusal.ServerFault = sym spent ∙ same in cc) ∙ ap Err same))
      (subst (λ (r : Result Request Refusal). IfOk r (λ one. IsRefusedBy now.engine.docs one other)) (sym (is (λ same. let never : ⊥ = cc in never))) tt) (λ before. subst (λ (r : Result Request Refusal). DoesRequest s.functions s.honest (languages_of now.engine.pool) before r (refusal_text other) before)
      (sym (is (λ same. let never : ⊥ = cc in never))) (refl, refl)) is_open

-- the same request
pub for_request : {F C : Type 0} {f : Folders F} {s : Servers C} {old new : Scene F C} {request made : Result Request Refusal} {out out' : List ℕ} {result : Result (Unit {0}) Halt} → request ≡ made
    → Performed f s old new made out out' result → Performed f s old new request out out' result
for_request {f = f} {s = s} {old = old} {new = new} {out = out} {out' = out'} {result = result} is = subst (λ (r : Result Request Refusal). Performed f s old new r out out' result) (sym is)

-- ---- what a caller takes out of a step

-- after a fault that ends the engine
stopped_by : {F C : Type 0} (f : Folders F) (s : Servers C) (old new : Scene F C) (before : Moment) (line out out' : List ℕ) (fault : StepFault) → fault ≢ NoMemory → StepsBy f s old new before line out out' (Err fault)
    → CrashesAround f s old new before (request_of line) × LeavesChild f s old new (MayHaveCalled s.functions s.honest (languages_of old.engine.pool) before (request_of line))
stopped_by f s old new before line out out' DiskFault other does = does
stopped_by f s old new before line out out' (Damaged name at) other does = does
stopped_by f s old new before line out out' (Full name length) other does = does
stopped_by f s old new before line out out' NoMemory other does = absurd (other refl)

-- a damaged place is none of the documents, where these are at a world, but one of an index, and of no world that is fit
told_sound : (told : Option (Disk FileName)) (Documents Whole : Disk FileName → Type 0) (Fits : Type 0) (P : FileName → ℕ → Type 0)
    → ((name : FileName) (at : ℕ) → P name at → IfTold told (λ d. Documents d → ⊥) ⊎ IfTold told (λ d. IsIndexFile name × (Whole d → Fits → ⊥))) → IfTold told Documents → IfTold told Whole
    → IfTold told (λ d. (name : FileName) (at : ℕ) → P name at → IsIndexFile name × (Fits → ⊥))
told_sound None Documents Whole Fits P met documents whole = tt
told_sound (Some a) Documents Whole Fits P met documents whole = λ name at is. elim (met name at is) [
  | inl never ↦ absurd (never documents)
  | inr of_index ↦ (of_index.0, of_index.1 whole)
]

-- a file of the index of the design that a view asks for, which brings it up to date
abbrev IsFullIndex : Docs → Groups → Option (Disk FileName) → Option (Disk FileName) → Result Request Refusal → FileName → Option ℕ → Type 0
IsFullIndex docs groups old new request name size = IsOfSomeIndex request name × Tells old new (λ a b. MeetsFullIndex docs groups a.now b.now request name size)

-- what names a full file names that of the index
full_named_as : (name : FileName) (size : Option ℕ) (found : Index) → (gate.Full name size ≡ too_long (index_file found)) ⊎ (gate.Full name size ≡ used_up (index_file found)) → name ≡ name_of (index_file found)
full_named_as name size found (inl long) = let same : gate.Full name size ≡ gate.Full (name_of (index_file found)) (Some (length_of (index_file found))) = long in cc
full_named_as name size found (inr spent) = let same : gate.Full name size ≡ gate.Full (name_of (index_file found)) None = spent in cc

asked_index : (docs : Docs) (groups : Groups) (request : Result Request Refusal) (name : FileName) (size : Option ℕ) (files files' : FileName → File) → MeetsFullIndex docs groups files files' request name size → IsOfAskedIndex docs files request name
asked_index docs groups (Ok (View view limits)) name size files files' full =
    (full.document, full.asked, ap (λ (n : FileName). n.stem) (full_named_as name size full.index full.limit) ∙ (full.group).named)
asked_index docs groups other name size files files' full = absurd full

asked_before : (docs : Docs) (groups : Groups) (request : Result Request Refusal) (name : FileName) (size : Option ℕ) (x y : Option (Disk FileName)) → Tells x y (λ a b. MeetsFullIndex docs groups a.now b.now request name size) → IfTold x (λ d. IsOfAskedIndex docs d.now request name)
asked_before docs groups request name size None y full = tt
asked_before docs groups request name size (Some a) None full = absurd full
asked_before docs groups request name size (Some a) (Some b) full = asked_index docs groups request name size a.now b.now full

-- a full file is met by a write that is accepted, or is one of an index
told_full : (disk after : Option (Disk FileName)) (docs : Docs) (groups : Groups) (world : World) (request : Result Request Refusal) (P : FileName → Option ℕ → Type 0)
    → ((name : FileName) (length : Option ℕ) → P name length → (IsFullFor docs request name length × WouldWrite docs disk request) ⊎ IsFullIndex docs groups disk after request name length) → IfTold disk (λ d. AreAt docs d.now world.history)
    → IfTold disk (λ d. (name : FileName) (length : Option ℕ) → P name length → IsFullAt d.now world request name length ⊎ IsOfIndex d.now request name)
told_full None after docs groups world request P full known = tt
told_full (Some d) after docs groups world request P full known = λ name length is. elim (full name length is) [
  | inl met ↦ (let made = met.1 world known in inl (record { docs = docs; at = known; full = met.0; write = made.0; accepted = made.1 }))
  | inr of_index ↦ inr (record { docs = docs; is_open = known.is_open; updates = of_index.0.0; own = asked_before docs groups request name length (Some d) after of_index.1 })
]

-- what is told of each full file is told of all
told_filled : (disk : Option (Disk FileName)) (P : FileName → Option ℕ → Type 0) (V : Type 0) (Q : Disk FileName → FileName → Option ℕ → Type 0)
    → ((name : FileName) (length : Option ℕ) → P name length → V → IfTold disk (λ d. Q d name length)) → IfTold disk (λ d. (name : FileName) (length : Option ℕ) → P name length → V → Q d name length)
told_filled None P V Q each = tt
told_filled (Some d) P V Q each = each

-- where the disk failed the request would have passed no limit of the file
told_room : (disk : Option (Disk FileName)) (docs : Docs) (world : World) (request : Result Request Refusal) (A : Type 0) → (A → FitsFor docs request) → IfTold disk (λ d. AreAt docs d.now world.history)
    → IfTold disk (λ d. A → HasRoomAt d.now world request)
told_room disk docs world request A fits known = told_now disk (λ d. AreAt docs d.now world.history) (λ d. A → HasRoomAt d.now world request) (λ d at is. record { docs = docs; at = at; fits = fits is }) known

-- why a request met a fault, by its kind
module _ {F : Type 0} (f : Folders F) (engine engine' : Engine) (old new : F) (request : Result Request Refusal) where
  abbrev Why : StepFault → Type 0
  Why = IsReasonOf f engine engine' old new request

  -- what is damaged of an index is a file of it
  of_index : (request : Result Request Refusal) (name : FileName) (at : ℕ) (files files' : FileName → File) → MeetsIndexDamage engine.docs engine'.groups files files' request name at → IsIndexFile name
  of_index (Ok (View view limits)) name at files files' (inl damage) = (_, damage.own)
  of_index (Ok (View view limits)) name at files files' (inr damage) = (_, ap (λ (n : FileName). n.stem) damage.own ∙ (damage.group).named)
  of_index (Ok Cleanup) name at files files' damage = (damage.sig, first_damage_own (ViewStem damage.sig) files name at damage.damage)
  of_index other name at files files' damage = absurd damage

  -- and so it is of the files before
  index_before : (name : FileName) (at : ℕ) (x y : Option (Disk FileName)) (P : Disk FileName → Type 0) → Tells x y (λ a b. MeetsIndexDamage engine.docs engine'.groups a.now b.now request name at) → IfTold x P → IfTold x (λ d. IsIndexFile name × P d)
  index_before name at None y P damage told = tt
  index_before name at (Some a) None P damage told = absurd damage
  index_before name at (Some a) (Some b) P damage told = (of_index request name at a.now b.now damage, told)

  why_failed : Why DiskFault → FitsFor engine.docs request
  why_failed (inl why) = why.1
  why_failed (inr why) = absurd why

  why_full : (name : FileName) (length : Option ℕ) → Why (Full name length) → (IsFullFor engine.docs request name length × WouldWrite engine.docs (f.disk old) request) ⊎ IsFullIndex engine.docs engine'.groups (f.disk old) (f.disk new) request name length
  why_full name length why = why

  why_unsound : (world : World) (name : FileName) (at : ℕ) → Why (Damaged name at)
      → IfTold (f.disk old) (λ d. AreAt engine.docs d.now world.history → ⊥) ⊎ IfTold (f.disk old) (λ d. IsIndexFile name × (IsAtWorld engine d.now world → IsFitFor request world → ⊥))
  why_unsound world name at (inl why) = inl ((why.1).1 world)
  why_unsound world name at (inr why) = inr (index_before name at (f.disk old) (f.disk new) (λ d. IsAtWorld engine d.now world → IsFitFor request world → ⊥) why.1 (why.2 world))

  why_damaged : (name : FileName) (at : ℕ) → Why (Damaged name at) → (ReadsDocuments request × IfTold (f.disk old) (λ d. IsDamage engine.docs d.now name at)) ⊎ (IsOnIndexes request × Tells (f.disk old) (f.disk new) (λ a b. MeetsIndexDamage engine.docs engine'.groups a.now b.now request name at))
  why_damaged name at (inl why) = inl (why.0, (why.1).0)
  why_damaged name at (inr why) = inr (why.0, why.1)

module _ {F C : Type 0} {f : Folders F} {s : Servers C} {old new : Scene F C} {line out out' : List ℕ} {fault : StepFault} (step : IsStep f s old new line out out' (Err fault)) where
  met : {other : StepFault} → fault ≡ other → IsReasonOf f old.engine new.engine old.folder new.folder (request_of line) other
  met is = subst (IsReasonOf f old.engine new.engine old.folder new.folder (request_of line)) is step.why

  module _ (before : Moment) (at : StandsAt f s old before) (fit : IfTold (f.disk old.folder) (λ d. IsFitFor (request_of line) before.world)) where
    -- a crash left the world before the line or the one that it makes, and the engine keeps the children that its calls left
    pub step_stopped : fault ≢ NoMemory → CrashesAround f s old new before (request_of line) × LeavesChild f s old new (MayHaveCalled s.functions s.honest (languages_of old.engine.pool) before (request_of line))
    step_stopped other = stopped_by f s old new before line out out' fault other (step.does before at fit)

    -- a damaged place is one of an index, and in no world that is fit
    pub step_sound : IfTold (f.disk old.folder) (λ d. (name : FileName) (at : ℕ) → fault ≡ Damaged name at → IsIndexFile name × (IsFitFor (request_of line) before.world → ⊥))
    step_sound =
        told_sound (f.disk old.folder) (λ d. AreAt old.engine.docs d.now before.world.history) (λ d. IsAtWorld old.engine d.now before.world) (IsFitFor (request_of line) before.world) (λ name at. fault ≡ Damaged name at)
        (λ name at is. why_unsound f old.engine new.engine old.folder new.folder (request_of line) before.world name at (met is)) (documents_at _ _ before.world at.documents) at.documents

    -- where the disk failed there was room for what the line writes
    pub step_room_left : IfTold (f.disk old.folder) (λ d. fault ≡ DiskFault → HasRoomAt d.now before.world (request_of line))
    step_room_left =
        told_room (f.disk old.folder) old.engine.docs before.world (request_of line) (fault ≡ DiskFault)
        (λ is. why_failed f old.engine new.engine old.folder new.folder (request_of line) (met is)) (documents_at _ _ before.world at.documents)

    -- a full file is one with the write of the line, or one of an index
    pub step_full : IfTold (f.disk old.folder) (λ d. (name : FileName) (length : Option ℕ) → fault ≡ Full name length → IsFullAt d.now before.world (request_of line) name length ⊎ IsOfIndex d.now (request_of line) name)
    step_full =
        told_full (f.disk old.folder) (f.disk new.folder) old.engine.docs new.engine.groups before.world (request_of line) (λ name length. fault ≡ Full name length)
        (λ name length is. why_full f old.engine new.engine old.folder new.folder (request_of line) name length (met is)) (documents_at _ _ before.world at.documents)

    -- where it is one of an index, it would be full with the next picture of the view's design
    pub step_filled : IfTold (f.disk new.folder) (λ d. (name : FileName) (length : Option ℕ) → fault ≡ Full name length → IsView (request_of line)
        → IsIndexFullFor s.functions s.honest (languages_of old.engine.pool) old.engine.cache new.engine.cache d.now before.world (request_of line) name length)
    step_filled =
        told_filled (f.disk new.folder) (λ name length. fault ≡ Full name length) (IsView (request_of line))
        (λ d name length. IsIndexFullFor s.functions s.honest (languages_of old.engine.pool) old.engine.cache new.engine.cache d.now before.world (request_of line) name length)
        (λ name length is view. step.filled before at fit name length (ap Err is) view)

left_files : (fault : StepFault) → fault ≢ DiskFault → LeavesFiles (Stopped fault)
left_files DiskFault other = other refl
left_files (Damaged name at) other = tt
left_files (Full name length) other = tt
left_files NoMemory other = tt

full_writes : (docs : Docs) (request : Result Request Refusal) (name : FileName) (length : Option ℕ) → IsFullFor docs request name length → Writes request
full_writes docs (Ok (Put document)) name length full = tt
full_writes docs (Ok (Delete id given)) name length full = tt
full_writes docs other name length full = absurd full

-- a write is no request on indexes
write_no_index : (request : Result Request Refusal) → Writes request → IsOnIndexes request → ⊥
write_no_index (Ok (View name limits)) writes is = writes
write_no_index (Ok Cleanup) writes is = writes
write_no_index other writes is = is

-- a request is one on indexes or none
reads_either : (request : Result Request Refusal) → ReadsDocuments request → IsOnIndexes request ⊎ (IsOnIndexes request → ⊥)
reads_either (Ok (View name limits)) reads = inl tt
reads_either (Ok Cleanup) reads = inl tt
reads_either other reads = inr (λ is. is)

-- a damaged place is one that an engine met which is open over these files, and none of the documents has changed since
damage_named : (old new : Option (Disk FileName)) (docs : Docs) (name : FileName) (at : ℕ) (R : Disk FileName → Disk FileName → Type 0) → ((a b : Disk FileName) → R a b → (n : FileName) → IsDocsFile n → b.now n ≡ a.now n)
    → IfTold old (λ d. IsOpen docs d.now) → IfTold old (λ d. IsDamage docs d.now name at) → Tells old new R → IfTold new (λ d. HasBodyDamage d.now name at)
damage_named old new docs name at R same is_open damage =
    told_after old new (λ d. IsOpen docs d.now × IsDamage docs d.now name at) (λ d. HasBodyDamage d.now name at) R
    (λ a b here moves. record { docs = docs; is_open = open_beside_indexes docs a.now b.now (same a b moves) here.0; damage = damage_beside_indexes docs a.now b.now (same a b moves) here.0 name at here.1 })
    (told_pair old (λ d. IsOpen docs d.now) (λ d. IsDamage docs d.now name at) (λ d. IsOpen docs d.now × IsDamage docs d.now name at) (λ d opened damaged. (opened, damaged)) is_open damage)

-- a full file is one of an engine that is open over these files, which are as they were
full_named : (old new : Option (Disk FileName)) (docs : Docs) (request : Result Request Refusal) (name : FileName) (length : Option ℕ) → IsFullFor docs request name length → IfTold old (λ d. IsOpen docs d.now) → Tells old new MovesNone
    → IfTold new (λ d. IsFullIn d.now request name length)
full_named old new docs request name length full is_open moves =
    told_now new (λ d. IsOpen docs d.now) (λ d. IsFullIn d.now request name length) (λ d opened. record { docs = docs; is_open = opened; full = full }) (open_none docs old new moves is_open)

module _ {F C : Type 0} {f : Folders F} {s : Servers C} {old new : Scene F C} {line out out' : List ℕ} {fault : StepFault} where
  -- only where the disk failed, or by a view or a cleanup, files have changed
  pub step_kept : IsStep f s old new line out out' (Err fault) → fault ≢ DiskFault → (IsOnIndexes (request_of line) → ⊥) → Tells (f.disk old.folder) (f.disk new.folder) MovesNone
  step_kept step other no_view = (step.disk.documents no_view).unmoved (left_files fault other)

  module _ (is_open : LiesOpen f old.engine old.folder) (step : IsStep f s old new line out out' (Err fault)) where
    -- damage is met by a request that reads documents, in one of these, or else in an index
    pub step_damaged : (name : FileName) (at : ℕ) → fault ≡ Damaged name at
        → (ReadsDocuments (request_of line) × IfTold (f.disk new.folder) (λ d. HasBodyDamage d.now name at)) ⊎ (IsOnIndexes (request_of line) × Tells (f.disk old.folder) (f.disk new.folder) (λ a b. MeetsIndexDamageIn a.now b.now (request_of line) name at))
    step_damaged name at is = elim (why_damaged f old.engine new.engine old.folder new.folder (request_of line) name at (met step is)) [
      | inl damage ↦ inl (damage.0, by_kind damage.1 (reads_either (request_of line) damage.0))
      | inr of_index ↦ inr (
        of_index.0,
        told_given (f.disk old.folder) (f.disk new.folder) (λ d. IsOpen old.engine.docs d.now) (λ a b. MeetsIndexDamage old.engine.docs new.engine.groups a.now b.now (request_of line) name at)
            (λ a b. MeetsIndexDamageIn a.now b.now (request_of line) name at) (λ a b here damage. record { docs = old.engine.docs; groups = new.engine.groups; is_open = here; damage = damage }) opened of_index.1,
      )
    ]
      where
        opened : IfTold (f.disk old.folder) (λ d. IsOpen old.engine.docs d.now)
        opened = documents_open _ _ is_open

        by_kind : IfTold (f.disk old.folder) (λ d. IsDamage old.engine.docs d.now name at) → IsOnIndexes (request_of line) ⊎ (IsOnIndexes (request_of line) → ⊥) → IfTold (f.disk new.folder) (λ d. HasBodyDamage d.now name at)
        by_kind damage (inl is) = damage_named (f.disk old.folder) (f.disk new.folder) old.engine.docs name at LeavesDocuments
            (λ a b left n of_docs. left n of_docs) opened damage (documents_left f old.engine old.folder new.folder (request_of line) is step.disk.indexes)
        by_kind damage (inr no_view) = damage_named (f.disk old.folder) (f.disk new.folder) old.engine.docs name at MovesNone (λ a b moves n of_docs. none_same a b moves n) opened damage
            (step_kept step (λ failed. let never : DiskFault ≡ Damaged name at = sym failed ∙ is in cc) no_view)

    -- and a full file by one that writes a document, as it would be with that, or else one of an index
    pub step_full_in : (name : FileName) (length : Option ℕ) → fault ≡ Full name length
        → (Writes (request_of line) × IfTold (f.disk new.folder) (λ d. IsFullIn d.now (request_of line) name length)) ⊎ (IsOfSomeIndex (request_of line) name × Tells (f.disk old.folder) (f.disk new.folder) (λ a b. MeetsFullIndexIn a.now b.now (request_of line) name length))
    step_full_in name length is = elim (why_full f old.engine new.engine old.folder new.folder (request_of line) name length (met step is)) [
      | inl full ↦
          (let writes : Writes (request_of line) = full_writes old.engine.docs (request_of line) name length full.0 in
          let none = step_kept step (λ failed. let never : DiskFault ≡ Full name length = sym failed ∙ is in cc) (write_no_index (request_of line) writes) in
          inl (writes, full_named (f.disk old.folder) (f.disk new.folder) old.engine.docs (request_of line) name length full.0 (documents_open _ _ is_open) none))
      | inr of_index ↦ inr (
        of_index.0,
        told_given (f.disk old.folder) (f.disk new.folder) (λ d. IsOpen old.engine.docs d.now) (λ a b. MeetsFullIndex old.engine.docs new.engine.groups a.now b.now (request_of line) name length)
            (λ a b. MeetsFullIndexIn a.now b.now (request_of line) name length) (λ a b here full. record { docs = old.engine.docs; groups = new.engine.groups; is_open = here; full = full }) (documents_open _ _ is_open) of_index.1,
      )
    ]

-- a request that is neither a write nor one on indexes changes no file
pub step_still : {F C : Type 0} {f : Folders F} {s : Servers C} {old new : Scene F C} {line out out' : List ℕ} {result : Result (Unit {0}) StepFault} → IsStep f s old new line out out' result
    → (ChangesFiles (request_of line) → ⊥) → Tells (f.disk old.folder) (f.disk new.folder) MovesNone
step_still step never = (step.disk.documents (λ is. never (inr is))).read (λ writes. never (inl writes))

-- a request is one on indexes, or not
on_indexes : (request : Result Request Refusal) → IsOnIndexes request ⊎ (IsOnIndexes request → ⊥)
on_indexes (Ok (View name limits)) = inl tt
on_indexes (Ok Cleanup) = inl tt
on_indexes other = inr (λ is. is)

-- whatever was done, the disk afterwards came behind the one before
abbrev pub LeavesAny : Disk FileName → Disk FileName → Type 0
LeavesAny = LeavesOnly (λ image. Unit {0})

moves_on : (mine : FileName → Type 0) (leaves : (FileName → List ℕ) → Type 0) (ends : (FileName → File) → Type 0) (a b : Disk FileName) → Moves mine leaves ends a b → LeavesAny a b
moves_on mine leaves ends a b moves = weaker (Framed mine a.now leaves) (λ image. Unit {0}) a b (λ image framed. tt) moves.moments

indexes_on : {F : Type 0} (f : Folders F) (engine : Engine) (old new : F) (request : Result Request Refusal) → IsOnIndexes request → MovesIndexes f engine old new request → Tells (f.disk old) (f.disk new) LeavesAny
indexes_on f engine old new (Ok (View name limits)) is moves = told_map (f.disk old) (f.disk new) (MovesIndexOf engine (view_query name limits)) LeavesAny
    (λ a b moved. ⊎_elim (λ none. moves_on _ _ _ a b none) (λ one. moves_on _ _ _ a b one.2) moved.files) moves
indexes_on f engine old new (Ok Cleanup) is moves = told_map (f.disk old) (f.disk new) _ LeavesAny (λ a b moved. moves_on _ _ _ a b moved) moves
indexes_on f engine old new other is moves = absurd is

pub step_on : {F C : Type 0} {f : Folders F} {s : Servers C} {old new : Scene F C} {line out out' : List ℕ} {result : Result (Unit {0}) StepFault} → IsStep f s old new line out out' result → Tells (f.disk old.folder) (f.disk new.folder) LeavesAny
step_on {f = f} {old = old} {new = new} {line = line} step = elim (on_indexes (request_of line)) [
  | inl is ↦ indexes_on f old.engine old.folder new.folder (request_of line) is step.disk.indexes
  | inr other ↦ told_map (f.disk old.folder) (f.disk new.folder) _ LeavesAny (λ a b moved. moves_on _ _ _ a b moved) (step.disk.documents other).own
]
