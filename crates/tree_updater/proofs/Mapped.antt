-- What stands after the documents were mapped, and what their rows make.
use Rattle.std.specs.Prelude.{◌≡◌, ◌≢◌, ◌⊎◌, ℕ, List, [], ◌∷◌, length, Option, Some, None, Result, Ok, Err, IfErr, IfOk}
use Rattle.std.proofs.Common.{refl, sym, ap, ◌∙◌, subst, inl, inr}
use Rattle.json_terms.specs.Json.{Json}
use Rattle.view_ports.specs.Functions.{Functions}
use Rattle.view_ports.specs.declared.folder.Folder.{Ghosts as Folders}
use Rattle.view_ports.specs.declared.servers.Servers.{Ghosts as Servers}
use Rattle.design_docs.specs.declared.design.Design.{Design}
use Rattle.design_docs.specs.Design.{map_sources}
use Rattle.design_docs.specs.History.{AreStored, Write, changes_after, mapped_after}
use Rattle.doc_file.specs.declared.docs.Docs.{Docs}
use Rattle.child_pool.specs.declared.doc_rows.DocRowLists.{DocRowLists}
use Rattle.child_pool.specs.declared.pool.Pool.{Pool}
use Rattle.child_pool.specs.declared.pool_fault.PoolFault.{PoolFault}
use Rattle.child_pool.specs.declared.pool_fault.PoolFault.TheVariants as pool_fault
use Rattle.child_pool.specs.Firsts.{FirstAreMapped}
use Rattle.child_pool.specs.Honesty.{SomeSourceFails}
use Rattle.child_pool.specs.Jobs.{job_of}
use Rattle.child_pool.specs.Languages.{path_in}
use Rattle.child_pool.specs.Outcomes.{IsCaused}
use Rattle.child_pool.specs.PoolCalls.{path_for, MapsAll}
use Rattle.child_pool.proofs.Honesty.{maps_complain_rightly}
use Rattle.view_model.specs.Picture.{Picture}
use Rattle.view_model.specs.Update.{IsUpdated}
use Rattle.row_exchange.specs.declared.doc_rows.DocRows.{DocRows}
use Rattle.row_exchange.specs.Changed.{changed_rows}
use Rattle.row_exchange.specs.Replaced.{replaced_views}
use Rattle.change_mapper.specs.declared.fault.MappingFault.{MappingFault}
use Rattle.change_mapper.specs.declared.fault.MappingFault.TheVariants as mapping
use Rattle.change_mapper.specs.Faults.{by_pool as mapped_by_pool}
use Rattle.change_mapper.specs.Mapped.{BreaksOff, HasMappedAll, IsBreak, IsMetAs, Outer}
use Rattle.change_mapper.specs.Written.{documents_since}
use Rattle.tree_updater.specs.declared.fault.UpdateFault.TheVariants.{Pool as OfPool}
use Rattle.tree_updater.specs.Faults.{by_mapping}
use Rattle.tree_updater.specs.Made.{IsMapped}
use Rattle.tree_updater.specs.Paths.{AreFunctionsBy, IsPathOf}
use Rattle.tree_updater.proofs.Nexts.{freely_updated, rows_updated}

abbrev pub mapped_ok : List DocRows → Result (List DocRows) MappingFault
mapped_ok rows = Ok rows

abbrev pub mapped_err : MappingFault → Result (List DocRows) MappingFault
mapped_err fault = Err fault

-- ---- the path of a design goes on

module _ {C : Type 0} (s : Servers C) (servers servers' : C) (pool pool' : Pool) (design : Design) (documents : List (List (List ℕ × Json))) (lists : DocRowLists)
    (first : FirstAreMapped s servers servers' pool pool' design documents lists) where
  path_known : (path : List ℕ) → path_for pool design ≡ Some path → path_for pool' design ≡ Some path
  path_known path known = ap (λ (l : List (List ℕ × List ℕ)). path_in l design.language) first.keeps.languages ∙ known

  pub path_then : (path : List ℕ) → IsPathOf s servers pool design path → IsPathOf s servers' pool' design path
  path_then path is = by_documents documents refl
    where
      by_documents : (ds : List (List (List ℕ × Json))) → documents ≡ ds → IsPathOf s servers' pool' design path
      by_documents [] none =
          let idle = first.idle none in
          subst (λ (p : Pool). IsPathOf s servers' p design path) (sym idle.1) (subst (λ (c : C). IsPathOf s c pool design path) (sym idle.0) is)
      by_documents (d ∷ ds) some =
          let went = first.maps (λ none. let clash : ⊥ = cc in clash) [] path is.calls is.follows is.known is.children in
          record { known = path_known path is.known; calls = went.now; follows = went.follows; children = (went.holds.is_ready).there }

  pub functions_then : (functions : Option Functions) → AreFunctionsBy s servers pool design functions → AreFunctionsBy s servers' pool' design functions
  functions_then None by = tt
  functions_then (Some functions) by = (by.0, path_then by.0 by.1, by.2, by.3)

-- ---- the documents of a history

module _ {F C : Type 0} (f : Folders F) (s : Servers C) (design : Design) (old new : Outer F C) (history : List Write) (stored : AreStored history) (last : Picture) (shaped : length last.rows ≡ length design.views) where
  -- the rows that were given make the next picture
  pub record Given (rows : List DocRows) : Type 0 where
    pub lists : DocRowLists
    pub maps : MapsAll s old.servers new.servers old.pool design (documents_since last.seq history) new.pool (Ok lists)
    pub are : rows ≡ changed_rows (length design.views) (changes_after last.seq history) lists
    pub each : length lists ≡ length (mapped_after last.seq history)

  abbrev made : List DocRows → Picture
  made rows = record { seq = length history; rows = replaced_views rows last.rows }

  pub is_mapped : (rows : List DocRows) → Given rows → (path : List ℕ) → IsPathOf s old.servers old.pool design path → IsMapped s.functions s.honest design path history last (made rows)
  is_mapped rows given path is =
      let went = given.maps path is.calls is.follows is.known is.children in
      let updated = ((went.holds).1).1 in
      record {
        updated = rows_updated s.functions s.honest path design.views history last (made rows) given.lists shaped stored updated.rows refl (ap (λ rs. replaced_views rs last.rows) given.are);
        compile = updated.compile;
      }

  pub is_freely : (rows : List DocRows) → Given rows → (functions : Functions) → IsUpdated functions ⊥ design.views history last (made rows)
  is_freely rows given functions = freely_updated functions design.views history last (made rows) given.lists shaped given.each refl (ap (λ rs. replaced_views rs last.rows) given.are)

-- ---- what a mapping says of a history

module _ {F C : Type 0} (f : Folders F) (s : Servers C) (docs : Docs) (design : Design) (seq : ℕ) (old new : Outer F C) (history : List Write) where
  -- the rows are those of all documents
  pub given_all : (last : Picture) → last.seq ≡ seq → (stored : AreStored history) (shaped : length last.rows ≡ length design.views) (rows : List DocRows)
      → HasMappedAll f s docs design seq old new history (mapped_ok rows) ⊎ BreaksOff f s docs design seq old new history (mapped_ok rows) → Given f s design old new history stored last shaped rows
  given_all last same stored shaped rows (inr broken) = absurd broken.cause
  given_all last same stored shaped rows (inl all) = by_mapped all.asked.mapped all.asked.met all.asked.maps all.rows all.each
    where
      by_mapped : (mapped : Result DocRowLists PoolFault) → IsMetAs mapped (mapped_ok rows) → MapsAll s old.servers new.servers old.pool design (documents_since seq history) new.pool mapped
          → IfOk mapped (λ lists. rows ≡ changed_rows (length design.views) (changes_after seq history) lists) → IfOk mapped (λ lists. length lists ≡ length (mapped_after seq history)) → Given f s design old new history stored last shaped rows
      by_mapped (Err fault) met maps are each = absurd (let clash : ⊥ = cc in clash)
      by_mapped (Ok lists) met maps are each = record {
        lists = lists;
        maps = subst (λ n. MapsAll s old.servers new.servers old.pool design (documents_since n history) new.pool (Ok lists)) (sym same) maps;
        are = are ∙ ap (λ n. changed_rows (length design.views) (changes_after n history) lists) (sym same);
        each = each ∙ ap (λ n. length (mapped_after n history)) (sym same);
      }

  -- a complaint is of a map source
  complaint_of : (fault : MappingFault) → by_mapping fault ≡ OfPool pool_fault.Compile → fault ≡ mapping.Pool pool_fault.Compile
  complaint_of (mapping.Pool pool_fault.Compile) is = refl
  complaint_of (mapping.Pool pool_fault.NoMemory) is = cc
  complaint_of (mapping.Pool pool_fault.ServerFault) is = cc
  complaint_of (mapping.Pool (pool_fault.BadReply line)) is = cc
  complaint_of (mapping.Pool pool_fault.UnknownLanguage) is = cc
  complaint_of (mapping.Docs fault) is = cc
  complaint_of mapping.NoMemory is = cc

  compile_of : (fault : PoolFault) → mapping.Pool pool_fault.Compile ≡ mapped_by_pool fault → fault ≡ pool_fault.Compile
  compile_of pool_fault.Compile is = refl
  compile_of pool_fault.NoMemory is = cc
  compile_of pool_fault.ServerFault is = cc
  compile_of (pool_fault.BadReply line) is = cc
  compile_of pool_fault.UnknownLanguage is = cc

  pub complains_rightly : (fault : MappingFault) → by_mapping fault ≡ OfPool pool_fault.Compile → HasMappedAll f s docs design seq old new history (mapped_err fault) ⊎ BreaksOff f s docs design seq old new history (mapped_err fault)
      → (path : List ℕ) → IsPathOf s old.servers old.pool design path → s.honest path → (documents_since seq history ≢ []) × SomeSourceFails (s.functions path) (map_sources design.views)
  complains_rightly fault is (inr broken) path of_path honest =
      absurd (subst (λ (e : MappingFault). IsBreak (mapped_err e)) (complaint_of fault is) broken.cause)
  complains_rightly fault is (inl all) path of_path honest = by_mapped all.asked.mapped all.asked.met all.asked.maps all.asked.some
    where
      complaint : fault ≡ mapping.Pool pool_fault.Compile
      complaint = complaint_of fault is

      by_mapped : (mapped : Result DocRowLists PoolFault) → IsMetAs mapped (mapped_err fault) → MapsAll s old.servers new.servers old.pool design (documents_since seq history) new.pool mapped
          → IfErr mapped (λ met. documents_since seq history ≢ []) → (documents_since seq history ≢ []) × SomeSourceFails (s.functions path) (map_sources design.views)
      by_mapped (Ok lists) met maps some = absurd (let none : mapped_err fault ≡ Err mapping.NoMemory = met pool_fault.Compile (ap mapped_err complaint) in let clash : ⊥ = cc in clash)
      by_mapped (Err pool) met maps some =
          let same : pool ≡ pool_fault.Compile = compile_of pool (let both : fault ≡ mapped_by_pool pool = cc in sym complaint ∙ both) in
          let w = maps path of_path.calls of_path.follows of_path.known of_path.children in (
            some,
            maps_complain_rightly s.functions s.honest path (map_sources design.views) (documents_since seq history) w.added of_path.calls honest
                (subst (λ (met : PoolFault). IsCaused s.functions s.honest (job_of path (map_sources design.views) (documents_since seq history)) w.added of_path.calls met) same w.holds.1.refused.caused),
          )
