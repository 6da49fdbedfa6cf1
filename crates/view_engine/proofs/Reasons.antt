-- Why a view met a fault of a file, and which files it changed.
use Rattle.std.specs.Prelude.{◌≡◌, ◌≢◌, ◌⊎◌, ◌≤◌, ℕ, List, length, Option, Some, None, Result, Ok, Err}
use Rattle.std.proofs.Common.{Bool, true, false, refl, sym, ap, ◌∙◌, subst, inl, inr, ⊎_elim}
use Rattle.std.proofs.lemmas.Option.{get_or_from_slice_get, slice_get_within}
use Rattle.json_terms.specs.Json.{Json}
use Rattle.design_docs.specs.declared.design.Design.{Design}
use Rattle.design_docs.specs.Design.{views_of, IsDesignOf}
use Rattle.design_docs.specs.declared.design.View.{View as DesignView}
use Rattle.view_ports.specs.Disk.{Disk, IfTold, Moves, MovesNone, Tells}
use Rattle.view_ports.specs.File.{File}
use Rattle.view_ports.specs.Faults.{Rose}
use Rattle.view_ports.specs.declared.file_name.FileName.{FileName}
use Rattle.view_ports.specs.declared.file_name.Stem.TheVariants.{Docs as DocsStem, View}
use Rattle.view_ports.specs.declared.folder.Folder.{Ghosts as Folders}
use Rattle.view_ports.specs.declared.servers.Servers.{Ghosts as Servers}
use Rattle.view_ports.proofs.Counting.{Rose-earlier}
use Rattle.view_ports.proofs.DiskRuns.{moves_then, none_same, none_wider}
use Rattle.view_ports.proofs.Told.{told_after, told_back, told_given, told_now, told_pair, told_then}
use Rattle.gate_file.specs.declared.fault.GateFault.TheVariants as gate
use Rattle.gate_file.specs.Calls.{too_long, used_up}
use Rattle.gate_file.specs.GateFile.{name_of}
use Rattle.gate_file.proofs.Stretches.{told_end}
use Rattle.child_pool.specs.declared.pool.Pool.{Pool}
use Rattle.child_pool.specs.declared.pool_fault.PoolFault.TheVariants as fault
use Rattle.child_pool.specs.Pools.{languages_of}
use Rattle.doc_file.specs.declared.docs.Docs.{Docs}
use Rattle.doc_file.specs.Docs.{file_of, seq_of as update_seq, IsAt as AreAt, IsDocsFile, IsLoaded, IsOpen as AreDocumentsOpen}
use Rattle.design_docs.specs.History.{Write}
use Rattle.node_file.specs.declared.cache.NodeCache.{NodeCache}
use Rattle.node_file.specs.Records.{node_at}
use Rattle.change_mapper.specs.Written.{IsBodyDamaged}
use Rattle.tree_index.specs.declared.fault.IndexFault.TheVariants as index
use Rattle.tree_index.specs.declared.index.Index.{Index}
use Rattle.tree_index.specs.Calls.{IsOpen as IsIndexOpen}
use Rattle.tree_index.specs.Held.{IsDamagedAt, IsFileOf}
use Rattle.tree_index.specs.Index.{file_of as index_file, seq_of}
use Rattle.tree_updater.specs.declared.fault.UpdateFault.{UpdateFault}
use Rattle.tree_updater.specs.declared.fault.UpdateFault.TheVariants as update
use Rattle.tree_updater.specs.Filled.{IsFilled}
use Rattle.tree_updater.specs.Follows.{IsBadNodeOf}
use Rattle.view_signature.specs.Signature.{digest_of, signature_of}
use Rattle.tree_groups.specs.declared.groups.Groups.{Groups}
use Rattle.tree_groups.specs.Follows.{Follows, IsDamaged}
use Rattle.tree_groups.specs.Sides.{side, Side}
use Rattle.tree_groups.specs.Groups.{open_of, AreOpen as AreIndexesOpen, IsGroup}
use Rattle.tree_groups.specs.Reached.{sig_of, views_in, IsReached}
use Rattle.view_engine.specs.declared.engine.Engine.{Engine}
use Rattle.view_engine.specs.Disks.{HasFullIndex, HasIndexDamage, HasNodeDamage, IfStopped, IsAskedFor, IsNoNode, IsReasonOf, LiesOpen, MeetsFullIndex, MeetsIndexDamage, MovesIndexOf}
use Rattle.view_engine.specs.Halts.{IsDamage}
use Rattle.view_engine.specs.Signatures.{kinds_of}
use Rattle.view_engine.specs.Updating.{AreFit}
use Rattle.view_engine.specs.ViewPlan.{met_by, IsPlan}
use Rattle.view_engine.specs.World.{forgetting, World}
use Rattle.view_engine.specs.Worlds.{IsAtWorld, IsOpen}
use Rattle.view_engine.proofs.Beside.{open_beside_indexes}
use Rattle.tree_updater.proofs.Each.{told_each}
use Rattle.view_engine.proofs.HaltedAs.{after_damage}
use Rattle.view_engine.proofs.Bringing.{by_none, of_own_functions, of_own_views, within_there}
use Rattle.view_engine.proofs.Forgetting.{indexes_forget}
use Rattle.query_args.specs.Query.{is_updated}
use Rattle.view_engine.specs.ViewQuery.{ViewQuery, parameters_of, view_request}

-- a relation of the disks that holds on a condition
told_if : (S R : Disk FileName → Disk FileName → Type 0) (x y : Option (Disk FileName)) (H : Type 0) → Tells x y S → (H → Tells x y R) → Tells x y (λ a b. S a b × (H → R a b))
told_if S R None None H first then = tt
told_if S R None (Some b) H first then = first
told_if S R (Some a) None H first then = first
told_if S R (Some a) (Some b) H first then = (first, then)

-- two stretches in which no file changes
none_on : (a b c : Disk FileName) → MovesNone a b → MovesNone b c → MovesNone a c
none_on a b c one other = moves_then (λ n. ⊥) (λ image. Unit {0}) (λ image. Unit {0}) (λ image. Unit {0}) (λ files. Unit {0}) (λ files. Unit {0}) (λ files. Unit {0}) a b c (λ image is. tt) (λ was image is. tt) (λ was is. tt) one other

-- what is read behind it changes no more files
pub moves_read : (engine : Engine) (name : ViewQuery) (a b c : Disk FileName) → MovesIndexOf engine name a b → MovesNone b c → MovesIndexOf engine name a c
moves_read engine name a b c moves none = record {
  files = ⊎_elim (λ same. inl (none_on a b c same none)) (λ own. inr (
    own.0,
    own.1,
    moves_then (IsFileOf (View (signature_of own.0))) (λ image. Unit {0}) (λ image. Unit {0}) (λ image. Unit {0}) (λ files. Unit {0}) (λ files. Unit {0}) (λ files. Unit {0}) a b c (λ image is. tt) (λ was image is. tt) (λ was is. tt) own.2
        (none_wider (IsFileOf (View (signature_of own.0))) (λ image. Unit {0}) (λ files. Unit {0}) b c (λ image is. tt) (λ same. tt) none),
  )) moves.files;
  current = λ known. none_on a b c (moves.current known) none;
  kept = λ keeps known. none_on a b c (moves.kept keeps known) none;
  refused = λ history refusal at is. none_on a b c (moves.refused history refusal at is) none;
}

abbrev refused_by : UpdateFault → Result ℕ UpdateFault
refused_by met = Err met

-- the index in a place is open as the folder has it
pub open_in_place : (groups : Groups) (slot : ℕ) (sig : List ℕ) (views : ℕ) (found : Index) (files : FileName → File) → IsGroup groups slot sig views found → AreIndexesOpen groups files → IsIndexOpen found files
open_in_place groups slot sig views found files group are =
    subst (λ (i : Index). IsIndexOpen i files) (get_or_from_slice_get (open_of groups) slot found found group.there) (are slot found (slice_get_within (open_of groups) slot found group.there))

module _ {F C : Type 0} (f : Folders F) (s : Servers C) (docs : Docs) (pool pool' : Pool) (groups groups' : Groups) (cache cache' : NodeCache) (steps : ℕ) (old mid new : F) (servers servers' : C) (name : ViewQuery) (id : List ℕ) (design : Design) (place : ℕ) (path : List ℕ) (updating : Bool)
    (updates : is_updated (parameters_of name) ≡ updating) (read : Tells (f.disk old) (f.disk mid) MovesNone) (earlier : f.faults old ≤ f.faults mid)
    (plans : (history : List Write) → IfTold (f.disk old) (λ d. AreAt docs d.now history → IsPlan updating (languages_of pool) history name id design place path))
    (is_open : LiesOpen f (record { docs = docs; pool = pool; groups = groups; cache = cache }) old)
    (asked : IfTold (f.disk old) (λ d. (document : Json) × IsAskedFor docs d.now name document × IsDesignOf document design)) where
  abbrev engine : Engine
  engine = record { docs = docs; pool = pool; groups = groups; cache = cache }

  abbrev engine' : Engine
  engine' = record { docs = docs; pool = pool'; groups = groups'; cache = cache' }

  abbrev own : List ℕ
  own = sig_of design

  -- what is said of the files after reading is said of them before
  told_before : (P : (FileName → File) → Type 0) → IfTold (f.disk mid) (λ d. P d.now) → IfTold (f.disk old) (λ d. P d.now)
  told_before P known = told_back (f.disk old) (f.disk mid) (λ d. P d.now) (λ d. P d.now) MovesNone (λ a b none is. subst P (λ i. λ n. none_same a b none n i) is) read known

  -- ---- which files changed

  abbrev IsOwn : FileName → Type 0
  IsOwn = IsFileOf (View (sig_of design))

  -- the index is that of the design that was asked for, and is open, and nothing was written since, or it is read as it stands
  abbrev pub IsIdle : Type 0
  IsIdle = (slot : ℕ) × (found : Index) × IsGroup groups slot (sig_of design) (views_in design) found × ((seq_of found ≡ update_seq docs) ⊎ (updating ≡ false))

  -- what was done on the index after reading changed its files alone
  module _ (others : Tells (f.disk mid) (f.disk new) (Moves IsOwn (λ image. Unit {0}) (λ files. Unit {0}))) where
    index_moved : Tells (f.disk old) (f.disk new) (Moves IsOwn (λ image. Unit {0}) (λ files. Unit {0}))
    index_moved =
        told_then (f.disk old) (f.disk mid) (f.disk new) MovesNone (Moves IsOwn (λ image. Unit {0}) (λ files. Unit {0})) (Moves IsOwn (λ image. Unit {0}) (λ files. Unit {0}))
        (λ a b c none moves. moves_then IsOwn (λ image. Unit {0}) (λ image. Unit {0}) (λ image. Unit {0}) (λ files. Unit {0}) (λ files. Unit {0}) (λ files. Unit {0}) a b c (λ image one. tt) (λ one image other. tt) (λ one other. tt)
        (none_wider IsOwn (λ image. Unit {0}) (λ files. Unit {0}) a b (λ image is. tt) (λ same. tt) none) moves)
        read others

    -- the index of the document that was asked for is that of the design
    own_group : (document : Json) → IsDesignOf document design → (slot : ℕ) (found : Index) → IsGroup groups slot (signature_of document) (length (views_of document)) found → IsGroup groups slot (sig_of design) (views_in design) found
    own_group document of slot found group =
        subst (λ s. IsGroup groups slot s (views_in design) found) (sym (ap digest_of of.2)) (subst (λ (views : List DesignView). IsGroup groups slot (signature_of document) (length views) found) (sym of.1) group)

    -- and where it is open, and nothing was written since or is to be mapped, nothing was done
    pub index_moves : (IsIdle → new ≡ mid) → Tells (f.disk old) (f.disk new) (MovesIndexOf engine name)
    index_moves idle =
        told_given (f.disk old) (f.disk new)
        (λ d. ((document : Json) × IsAskedFor docs d.now name document × IsDesignOf document design) × ((history : List Write) → AreAt docs d.now history → IsPlan updating (languages_of pool) history name id design place path))
        (λ a b. Moves IsOwn (λ image. Unit {0}) (λ files. Unit {0}) a b × (IsIdle → MovesNone a b)) (MovesIndexOf engine name)
        (λ a b both moves.
        let is = both.0 in
        let sig : sig_of design ≡ signature_of is.0 = ap digest_of (is.2).2 in
        record {
          files = inr (is.0, is.1, subst (λ s. Moves (IsFileOf (View s)) (λ image. Unit {0}) (λ files. Unit {0}) a b) sig moves.0);
          current = λ known. let index_is = known is.0 is.1 in moves.1 (index_is.0, index_is.1, own_group is.0 is.2 index_is.0 index_is.1 index_is.2, inl index_is.3);
          kept = λ keeps known. let index_is = known is.0 is.1 in moves.1 (index_is.0, index_is.1, own_group is.0 is.2 index_is.0 index_is.1 index_is.2, inr (sym updates ∙ keeps));
          refused = λ history refusal at is_refused. let clash : None ≡ Some refusal = sym (both.1 history at).accepted ∙ is_refused in let no : ⊥ = cc in absurd no;
        })
        (told_pair (f.disk old) _ _ _ (λ d is planned. (is, planned)) asked (told_each (f.disk old) (λ history d. AreAt docs d.now history → IsPlan updating (languages_of pool) history name id design place path) plans))
        (told_if (Moves IsOwn (λ image. Unit {0}) (λ files. Unit {0})) MovesNone (f.disk old) (f.disk new) IsIdle index_moved
        (λ is. subst (λ folder. Tells (f.disk old) (f.disk folder) MovesNone) (sym (idle is)) read))

    -- where the indexes are open, the engine lies open
    pub index_open : IfTold (f.disk new) (λ d. AreIndexesOpen groups' d.now) → LiesOpen f engine' new
    index_open indexes =
        told_pair (f.disk new) (λ d. AreDocumentsOpen docs d.now) (λ d. AreIndexesOpen groups' d.now) (λ d. IsOpen engine' d.now) (λ d documents indexes. record { documents = documents; indexes = indexes })
        (told_after (f.disk old) (f.disk new) (λ d. IsOpen engine d.now) (λ d. AreDocumentsOpen docs d.now) (Moves IsOwn (λ image. Unit {0}) (λ files. Unit {0}))
        (λ a b here moves. open_beside_indexes docs a.now b.now (λ n of_docs. moves.others n (λ of_view. let clash : View (sig_of design) ≡ DocsStem = sym of_view ∙ of_docs in let no : ⊥ = cc in no)) here.documents) is_open index_moved)
        indexes

  -- the open indexes, behind reading
  pub open_mid : IfTold (f.disk mid) (λ d. AreIndexesOpen groups d.now)
  open_mid = told_after (f.disk old) (f.disk mid) (λ d. IsOpen engine d.now) (λ d. AreIndexesOpen groups d.now) MovesNone (λ a b here none. subst (AreIndexesOpen groups) (λ i. λ n. sym (none_same a b none n) i) here.indexes) is_open read

  -- the view brings its index up to date
  abbrev Updates : Type 0
  Updates = is_updated (parameters_of name) ≡ true

  -- ---- what is damaged of the index
  module _ (n : FileName) (at : ℕ) where
    -- at a place where it is damaged as it is opened
    opening_damage : (files : FileName → File) (document : Json) → IsAskedFor docs files name document → IsDesignOf document design → IsDamagedAt (View own) (views_in design) files n at → IsOwn n → HasIndexDamage docs files name n at
    opening_damage files document is of there mine =
        let sig : own ≡ signature_of document = ap digest_of of.2 in
        record {
          document = document;
          asked = is;
          own = subst (λ s. IsFileOf (View s) n) sig mine;
          damage = subst (λ s. IsDamagedAt (View s) (length (views_of document)) files n at) sig
              (subst (λ (views : List DesignView). IsDamagedAt (View own) (length views) files n at) of.1 there);
        }

    -- or where a node of it is
    node_damage : (files files' : FileName → File) (document : Json) → IsAskedFor docs files name document → IsDesignOf document design → (slot : ℕ) (found : Index) → IsGroup groups' slot own (views_in design) found → IsIndexOpen found files'
        → n ≡ name_of (index_file found) → IsNoNode (node_at (files' n).seen) design.views found Updates at → HasNodeDamage docs groups' files files' name n at
    node_damage files files' document is of slot found group over mine bad = record {
      document = document;
      asked = is;
      place = slot;
      index = found;
      group = subst (λ s. IsGroup groups' slot s (length (views_of document)) found) (ap digest_of of.2) (subst (λ (views : List DesignView). IsGroup groups' slot own (length views) found) of.1 group);
      is_open = over;
      own = mine;
      bad = subst (λ (views : List DesignView). IsNoNode (node_at (files' n).seen) views found Updates at) of.1 bad;
    }

    -- what an update or an opening meets
    pub meets_there : (Bad : Disk FileName → Disk FileName → Type 0) → ((a b : Disk FileName) → Bad a b → IsOwn n × (IsDamagedAt (View own) (views_in design) a.now n at
        ⊎ ((slot : ℕ) × (found : Index) × IsGroup groups' slot own (views_in design) found × IsIndexOpen found b.now × (n ≡ name_of (index_file found)) × IsNoNode (node_at (b.now n).seen) design.views found Updates at)))
        → Tells (f.disk mid) (f.disk new) Bad → Tells (f.disk old) (f.disk new) (λ a b. MeetsIndexDamage docs groups' a.now b.now (Ok (view_request name)) n at)
    meets_there Bad means bad =
        told_then (f.disk old) (f.disk mid) (f.disk new) (λ a b. ((document : Json) × IsAskedFor docs a.now name document × IsDesignOf document design) × MovesNone a b) Bad _
        (λ a b c first then.
        let is = first.0 in
        let there = means b c then in
        let same : b.now ≡ a.now = λ i. λ m. none_same a b first.1 m i in
        ⊎_elim (λ damage. inl (opening_damage a.now is.0 is.1 is.2 (subst (λ fs. IsDamagedAt (View own) (views_in design) fs n at) same damage) there.0))
        (λ node. inr (node_damage a.now c.now is.0 is.1 is.2 node.0 node.1 node.2 node.3 node.4 node.5)) there.1)
        (told_given (f.disk old) (f.disk mid) _ MovesNone _ (λ a b is none. (is, none)) asked read) bad

    -- there is none in a world that is fit
    pub never_there : (world : World) → IfTold (f.disk mid) (λ d. IsReached s servers pool docs (kinds_of (forgetting world)) groups design world.history world.pictures d.now → ⊥)
        → IfTold (f.disk old) (λ d. IsAtWorld engine d.now world → AreFit world.history → ⊥)
    never_there world sound =
        told_pair (f.disk old) (λ d. AreAt docs d.now world.history → IsPlan updating (languages_of pool) world.history name id design place path) (λ d. IsReached s servers pool docs (kinds_of (forgetting world)) groups design world.history world.pictures d.now → ⊥) _
        (λ d plan never here fit. never (record {
          documents = here.documents;
          indexes = indexes_forget groups d.now world here.indexes;
          within = within_there engine d.now world design here;
          own = of_own_views (languages_of pool) (forgetting world) name id design place path (plan here.documents) fit;
          by = by_none s servers pool design (forgetting world) (of_own_functions (languages_of pool) (forgetting world) name id design place path (plan here.documents) fit);
        })) (plans world.history)
        (told_before (λ files. IsReached s servers pool docs (kinds_of (forgetting world)) groups design world.history world.pictures files → ⊥) sound)

  module _ (result : Result ℕ UpdateFault) (does : updating ≡ true) (follow : Follows f s docs design (side mid servers pool groups cache 0) (side new servers' pool' groups' cache' steps) result) where
    pub view_moves : Tells (f.disk old) (f.disk new) (MovesIndexOf engine name)
    view_moves = index_moves follow.moves (λ idle. ⊎_elim (λ last. ap (λ (there : Side F C). there.folder) (follow.idle idle.0 idle.1 idle.2 last).1)
        (λ keeps. let clash : true ≡ false = sym does ∙ keeps in let no : ⊥ = cc in absurd no) idle.3)

    -- where the disk didn't fail in a file of the index, the indexes are open
    pub groups_open : result ≢ Err (update.Index (index.Store gate.DiskFault)) → IfTold (f.disk new) (λ d. AreIndexesOpen groups' d.now)
    groups_open other = told_now (f.disk new) (λ d. result ≢ Err (update.Index (index.Store gate.DiskFault)) → AreIndexesOpen groups' d.now) _ (λ d are. are other) (follow.is_open open_mid)

    -- and the engine lies open
    pub view_open : result ≢ Err (update.Index (index.Store gate.DiskFault)) → LiesOpen f engine' new
    view_open other = index_open follow.moves (groups_open other)

  -- ---- why it met a fault

  module _ (met : UpdateFault) (does : updating ≡ true) (follow : Follows f s docs design (side mid servers pool groups cache 0) (side new servers' pool' groups' cache' steps) (Err met)) where
    failed : ((met ≡ update.Docs gate.DiskFault) ⊎ (met ≡ update.Index (index.Store gate.DiskFault))) → Rose (f.faults old) (f.faults new)
    failed is = Rose-earlier (f.faults old) (f.faults mid) (f.faults new) earlier (follow.cause is)

    -- a body
    module _ (n : FileName) (at : ℕ) (is : met ≡ update.Docs (gate.Damaged n at)) where
      body_damaged : IfTold (f.disk old) (λ d. IsDamage docs d.now n at)
      body_damaged =
          told_pair (f.disk old) (λ d. IsOpen engine d.now) (λ d. IsDocsFile (name_of (file_of docs)) → IsLoaded docs d.now → IsBodyDamaged docs d.now n at) _
          (λ d here damaged. let there = damaged here.documents.pair.own here.documents.loaded in after_damage docs d.now n there.1 at (there.0, there.2)) is_open
          (told_before (λ files. IsDocsFile (name_of (file_of docs)) → IsLoaded docs files → IsBodyDamaged docs files n at)
          (told_now (f.disk mid) _ _ (λ d damaged of_docs loaded. damaged of_docs loaded n at (ap Err is)) follow.body))

      body_never : (world : World) → IfTold (f.disk old) (λ d. AreAt docs d.now world.history → ⊥)
      body_never world = told_before (λ files. AreAt docs files world.history → ⊥) (told_now (f.disk mid) _ _ (λ d never here. never here n at (ap Err is)) (follow.read world.history))

    -- the index
    module _ (n : FileName) (at : ℕ) (is : met ≡ update.Index (index.Store (gate.Damaged n at))) where
      abbrev Bad : Disk FileName → Disk FileName → Type 0
      Bad a b = (IsOwn n × IsDamaged f s docs design (side mid servers pool groups cache 0) (side new servers' pool' groups' cache' steps) a b n at) × AreIndexesOpen groups' b.now

      no_node : (there : Disk FileName) (found : Index) → IsBadNodeOf design found there n at → IsNoNode (node_at (there.now n).seen) design.views found Updates at
      no_node there found bad = ⊎_elim (λ none. inl (none, inl (updates ∙ does))) (λ faulty. inr (inl faulty)) bad.bad

      bad_there : Tells (f.disk mid) (f.disk new) Bad
      bad_there = told_beside (f.disk mid) (f.disk new) follow.damaged
          (groups_open (Err met) does follow (λ same. let clash : gate.DiskFault ≡ gate.Damaged n at = (let both : update.Index (index.Store gate.DiskFault) ≡ update.Index (index.Store (gate.Damaged n at)) = (let one : met ≡ update.Index (index.Store gate.DiskFault) = cc in sym one ∙ is) in cc) in cc))
        where
          told_beside : (x y : Option (Disk FileName)) → Tells x y (λ a b. (m : FileName) (k : ℕ) → refused_by met ≡ Err (update.Index (index.Store (gate.Damaged m k))) → IsOwn m × IsDamaged f s docs design (side mid servers pool groups cache 0) (side new servers' pool' groups' cache' steps) a b m k)
              → IfTold y (λ d. AreIndexesOpen groups' d.now) → Tells x y Bad
          told_beside None None damaged are = tt
          told_beside None (Some b) damaged are = absurd damaged
          told_beside (Some a) None damaged are = absurd damaged
          told_beside (Some a) (Some b) damaged are = (damaged n at (ap Err is), are)

      pub index_damaged : Tells (f.disk old) (f.disk new) (λ a b. MeetsIndexDamage docs groups' a.now b.now (Ok (view_request name)) n at)
      index_damaged = meets_there n at Bad
          (λ a b bad. (
            bad.0.0,
            ⊎_elim (λ opening. inl opening) (λ node. inr (
              (node.1).0,
              node.0,
              (node.1).1,
              open_in_place groups' (node.1).0 own (views_in design) node.0 b.now (node.1).1 bad.1,
              (node.2).own,
              no_node b node.0 node.2,
            )) bad.0.1,
          )) bad_there

      index_never : (world : World) → IfTold (f.disk old) (λ d. IsAtWorld engine d.now world → AreFit world.history → ⊥)
      index_never world = never_there n at world (told_now (f.disk mid) _ _ (λ d finds reached. (finds reached n at).1 (ap Err is)) (follow.sound (kinds_of (forgetting world)) world.history world.pictures))

    -- the file of the index is full
    module _ (n : FileName) (size : Option ℕ) (is : met ≡ update.Index (index.Store (gate.Full n size))) where
      limit_of : (found : Index) → IsFilled (views_in design) found cache cache' n size → (gate.Full n size ≡ too_long (index_file found)) ⊎ (gate.Full n size ≡ used_up (index_file found))
      limit_of found (inl node) = inl node.limit
      limit_of found (inr (inl root)) = inl root.0
      limit_of found (inr (inr spent)) = inr spent.0

      index_full : Tells (f.disk old) (f.disk new) (λ a b. MeetsFullIndex docs groups' a.now b.now (Ok (view_request name)) n size)
      index_full =
          told_given (f.disk old) (f.disk new) (λ d. (document : Json) × IsAskedFor docs d.now name document × IsDesignOf document design)
          (λ a b. Moves IsOwn (λ image. Unit {0}) (λ files. Unit {0}) a b × AreIndexesOpen groups' b.now) (λ a b. HasFullIndex docs groups' a.now b.now name n size)
          (λ a b here known.
          let of = here.2 in
          let left = (follow.full n size (ap Err is)).1 in
          record {
            document = here.0;
            asked = here.1;
            place = (left.1).0;
            index = left.0;
            group = subst (λ s. IsGroup groups' (left.1).0 s (length (views_of here.0)) left.0) (ap digest_of of.2)
                (subst (λ (views : List DesignView). IsGroup groups' (left.1).0 own (length views) left.0) of.1 (left.1).1);
            is_open = open_in_place groups' (left.1).0 own (views_in design) left.0 b.now (left.1).1 known.1;
            limit = limit_of left.0 left.2;
          })
          asked
          (told_end (f.disk old) (f.disk new) (Moves IsOwn (λ image. Unit {0}) (λ files. Unit {0})) (λ d. AreIndexesOpen groups' d.now) (index_moved follow.moves)
          (groups_open (Err met) does follow (λ same. let clash : gate.DiskFault ≡ gate.Full n size = (let both : update.Index (index.Store gate.DiskFault) ≡ update.Index (index.Store (gate.Full n size)) = (let one : met ≡ update.Index (index.Store gate.DiskFault) = cc in sym one ∙ is) in cc) in cc)))

  -- by the kind of the fault
  pub view_why : updating ≡ true → (met : UpdateFault) → Follows f s docs design (side mid servers pool groups cache 0) (side new servers' pool' groups' cache' steps) (Err met)
      → IfStopped (IsReasonOf f engine engine' old new (Ok (view_request name))) (met_by id met)
  view_why does (update.Pool fault.ServerFault) follow = tt
  view_why does (update.Pool (fault.BadReply line)) follow = tt
  view_why does (update.Pool fault.Compile) follow = tt
  view_why does (update.Pool fault.NoMemory) follow = inl tt
  view_why does (update.Pool fault.UnknownLanguage) follow = inl tt
  view_why does update.NoMemory follow = inl tt
  view_why does (update.Docs gate.DiskFault) follow = inl (failed (update.Docs gate.DiskFault) does follow (inl refl), tt)
  view_why does (update.Docs (gate.Damaged n at)) follow = inl (tt, (body_damaged (update.Docs (gate.Damaged n at)) does follow n at refl, body_never (update.Docs (gate.Damaged n at)) does follow n at refl))
  view_why does (update.Docs (gate.Full n size)) follow = absurd follow.file
  view_why does (update.Docs gate.NoMemory) follow = absurd follow.file
  view_why does (update.Index (index.Store gate.DiskFault)) follow = inl (failed (update.Index (index.Store gate.DiskFault)) does follow (inr refl), tt)
  view_why does (update.Index (index.Store (gate.Damaged n at))) follow =
      inr (tt, index_damaged (update.Index (index.Store (gate.Damaged n at))) does follow n at refl, index_never (update.Index (index.Store (gate.Damaged n at))) does follow n at refl)
  view_why does (update.Index (index.Store (gate.Full n size))) follow = inr ((updates ∙ does, (sig_of design, (follow.full n size refl).0)), index_full (update.Index (index.Store (gate.Full n size))) does follow n size refl)
  view_why does (update.Index (index.Store gate.NoMemory)) follow = absurd follow.file
  view_why does (update.Index (index.Summer other)) follow = absurd follow.file
  view_why does (update.Index index.NoMemory) follow = absurd follow.file
