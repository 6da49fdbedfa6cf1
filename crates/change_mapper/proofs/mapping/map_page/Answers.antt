-- The next page is read, its documents are mapped, and their rows added.
use Rattle.std.specs.Prelude.{◌≡◌, ◌≢◌, ◌==◌, ◌++◌, ◌<◌, ◌||◌, ℕ, List, [], ◌∷◌, map, length, nat_eq, not, false, Err}
use Rattle.std.proofs.Common.{refl, sym, ap, ◌∙◌, subst, arith}
use Rattle.std.proofs.lemmas.Bool.Decides.{nat_tests}
use Rattle.std.proofs.lemmas.List.{length-map}
use Rattle.json_terms.specs.Json.{Json}
use Rattle.child_pool.specs.Firsts.{has_some, FirstAreMapped}
use Rattle.child_pool.specs.Mapping.{AreBounded}
use Rattle.child_pool.specs.PoolCalls.{MapsAll}
use Rattle.query_protocol.specs.CommandLines.{document_of}
use Rattle.doc_file.specs.declared.docs.changes.Changes.{Changes}
use Rattle.doc_file.specs.Changes.{last_number, numbered}
use Rattle.doc_file.proofs.Pages.{last_after}
use Rattle.view_model.specs.Since.{mapped_of}
use Rattle.row_exchange.specs.declared.doc_rows.DocRows.{DocRows}
use Rattle.row_exchange.specs.Changed.{changed_rows}
use Rattle.change_mapper.specs.declared.fault.MappingFault.TheVariants.{NoMemory}
use Rattle.change_mapper.specs.declared.mapping.Progress.{Progress}
use Rattle.change_mapper.specs.declared.mapping.TheConstants.{PAGE}
use Rattle.change_mapper.specs.Faults.{by_pool}
use Rattle.change_mapper.specs.Mapped.{outer, IsBreak}
use Rattle.change_mapper.specs.Written.{documents_of}
use Rattle.change_mapper.proofs.Fitting.{bounded_fit}
use Rattle.change_mapper.proofs.OnlyReading.{break_of, failed_as, pool_of_no_documents, read_then, read_well, reads_then, same_failed}
use Rattle.change_mapper.proofs.PageByPage.{as_made, asks_first, asks_refused, come_on, done, ends_early, ends_well, goes_on, mapped_then, none_behind, page_read, pool_left, pool_refused, refusal, written_on}
use Rattle.change_mapper.proofs.Pages.{back_none, documents-append}
use Rattle.change_mapper.proofs.ReadSoFar.{covers_all, covers_on}
use Rattle.change_mapper.proofs.mapping.map_page.Goals as goal

pub returns-in_err-page : goal.returns-in_err-page
returns-in_err-page g c = λ seq old changes come.
    let now = outer c.args.folder.now c.args.servers.now c.args.pool.now in
    let new = outer c.read_page.new.folder c.args.servers.now c.args.pool.now in
    let docs = c.args.docs.now in
    let design = c.args.design.now in
    let before = c.args.rows.now.items in
    let fault = c.in_err-page.field-0.0 in
    let result = c.from_residual.result in
    let broken : IsBreak (refusal fault) = break_of Changes (List DocRows) fault c.in_err-page.ensures.breaks in
    ends_early g.F.Folder g.C.Servers docs design seq old now c.args.progress changes before come new before fault result (failed_as result fault c.from_residual.ensures)
    (asks_first g.F.Folder g.C.Servers docs design seq old new changes c.args.progress.after come.goes come.written fault (come.given).lists broken (come.given).mapped)
    (same_failed g.F.Folder docs c.args.folder.now c.read_page.new.folder fault (refusal fault) refl c.in_err-page.ensures.reads)
    (pool_left g.C.Servers design now.servers now.servers now.pool now.pool fault broken (as_made now.pool) (omega arith))

pub returns-in_err-changed : goal.returns-in_err-changed
returns-in_err-changed g c = λ seq old changes come.
    let now = outer c.args.folder.now c.args.servers.now c.args.pool.now in
    let new = outer c.read_page.new.folder c.args.servers.now c.args.pool.now in
    let docs = c.args.docs.now in
    let design = c.args.design.now in
    let before = c.args.rows.now.items in
    let result = c.from_residual-in_err-changed.result in
    ends_early g.F.Folder g.C.Servers docs design seq old now c.args.progress changes before come new before NoMemory result (failed_as result NoMemory c.from_residual-in_err-changed.ensures)
    (asks_first g.F.Folder g.C.Servers docs design seq old new changes c.args.progress.after come.goes come.written NoMemory (come.given).lists tt (come.given).mapped)
    (read_then g.F.Folder docs c.args.folder.now c.read_page.new.folder c.in_ok-page.page NoMemory (refusal NoMemory) refl (λ gate is. cc) c.in_ok-page.ensures.reads)
    (pool_left g.C.Servers design now.servers now.servers now.pool now.pool NoMemory tt (as_made now.pool) (omega arith))

pub returns-in_err-lists : goal.returns-in_err-lists
returns-in_err-lists g c = λ seq old changes come.
    let now = outer c.args.folder.now c.args.servers.now c.args.pool.now in
    let new = outer c.read_page.new.folder c.map_next.new.servers c.map_next.new.self in
    let docs = c.args.docs.now in
    let design = c.args.design.now in
    let progress = c.args.progress in
    let before = c.args.rows.now.items in
    let page = map numbered c.in_ok-page.page in
    let read = page_read g.F.Folder docs c.args.folder.now c.read_page.new.folder progress.after PAGE c.in_ok-page.page c.in_ok-page.ensures in
    let fault = c.in_err-lists.field-0.0 in
    let result = c.from_residual-in_err-lists.result in
    let documents = c.as_slice-documents.ensures.value ∙ c.in_ok-changed.ensures.documents in
    let whole = ap (λ (ds : List (List (List ℕ × Json))). documents_of changes ++ ds) documents ∙ sym (documents-append changes page) in
    let refuses = c.in_err-lists.ensures.went old.servers old.pool (documents_of changes) (come.given).lists come.begun (come.given).mapped in
    ends_early g.F.Folder g.C.Servers docs design seq old now progress changes before come new before (by_pool fault) result (failed_as result (by_pool fault) c.from_residual-in_err-lists.ensures)
    (asks_refused g.F.Folder g.C.Servers docs design seq old new (changes ++ page) (last_number progress.after page)
    (goes_on g.F.Folder g.C.Servers docs design seq old now progress changes before come page PAGE read) (written_on g.F.Folder g.C.Servers docs design seq old now progress changes before come page PAGE read) fault
    (λ none. let idle = c.in_err-lists.ensures.idle (documents ∙ back_none (documents_of changes) (documents_of page) (sym (documents-append changes page) ∙ none)) in let refused = idle.0 in let clash : ⊥ = cc in clash)
    (λ left. subst (λ (ds : List (List (List ℕ × Json))). MapsAll g.C.Servers old.servers c.map_next.new.servers old.pool design (ds ++ left) c.map_next.new.self (Err fault)) whole (refuses left)))
    (read_then g.F.Folder docs c.args.folder.now c.read_page.new.folder c.in_ok-page.page (by_pool fault) (refusal (by_pool fault)) refl (pool_of_no_documents fault) c.in_ok-page.ensures.reads)
    (pool_refused g.C.Servers design now.servers new.servers now.pool new.pool fault (Err fault) refl c.in_err-lists.ensures.ends)

pub returns-in_err-add_rows : goal.returns-in_err-add_rows
returns-in_err-add_rows g c = λ seq old changes come.
    let now = outer c.args.folder.now c.args.servers.now c.args.pool.now in
    let new = outer c.read_page.new.folder c.map_next.new.servers c.map_next.new.self in
    let docs = c.args.docs.now in
    let design = c.args.design.now in
    let progress = c.args.progress in
    let before = c.args.rows.now.items in
    let page = map numbered c.in_ok-page.page in
    let read = page_read g.F.Folder docs c.args.folder.now c.read_page.new.folder progress.after PAGE c.in_ok-page.page c.in_ok-page.ensures in
    let lists = (come.given).lists in
    let others = c.in_ok-lists.lists in
    let result = c.from_residual-in_err-add_rows.result in
    let documents = c.as_slice-documents.ensures.value ∙ c.in_ok-changed.ensures.documents in
    let mapped = subst (λ (ds : List (List (List ℕ × Json))). FirstAreMapped g.C.Servers old.servers c.map_next.new.servers old.pool c.map_next.new.self design (documents_of changes ++ ds) (lists ++ others)) documents
    (c.in_ok-lists.ensures.went old.servers old.pool (documents_of changes) lists come.begun (come.given).mapped) in
    ends_early g.F.Folder g.C.Servers docs design seq old now progress changes before come new c.add_rows.new.rows.items NoMemory result (failed_as result NoMemory c.from_residual-in_err-add_rows.ensures)
    (asks_first g.F.Folder g.C.Servers docs design seq old new (changes ++ page) (last_number progress.after page)
    (goes_on g.F.Folder g.C.Servers docs design seq old now progress changes before come page PAGE read) (written_on g.F.Folder g.C.Servers docs design seq old now progress changes before come page PAGE read) NoMemory (lists ++ others) tt
    (mapped_then g.F.Folder g.C.Servers docs design seq old now progress changes before come page PAGE read new others mapped))
    (read_then g.F.Folder docs c.args.folder.now c.read_page.new.folder c.in_ok-page.page NoMemory (refusal NoMemory) refl (λ gate is. cc) c.in_ok-page.ensures.reads)
    (pool_left g.C.Servers design now.servers new.servers now.pool new.pool NoMemory tt c.map_next.ensures.ends.keeps c.map_next.ensures.ends.later)

-- some documents are there where their number isn't 0
is_some_list : (documents : List (List (List ℕ × Json))) → not (length documents == 0) ≡ has_some documents
is_some_list [] = refl
is_some_list (document ∷ documents) =
    let some : nat_eq (length (document ∷ documents)) 0 ≡ false = grind (arith, nat_tests) in ap not some

pub returns-then-count : goal.returns-then-count
returns-then-count g c = λ seq old changes come.
    let now = outer c.args.folder.now c.args.servers.now c.args.pool.now in
    let new = outer c.read_page.new.folder c.map_next.new.servers c.map_next.new.self in
    let docs = c.args.docs.now in
    let design = c.args.design.now in
    let progress = c.args.progress in
    let before = c.args.rows.now.items in
    let rows = c.add_rows.new.rows.items in
    let page = map numbered c.in_ok-page.page in
    let read = page_read g.F.Folder docs c.args.folder.now c.read_page.new.folder progress.after PAGE c.in_ok-page.page c.in_ok-page.ensures in
    let lists = (come.given).lists in
    let others = c.in_ok-lists.lists in
    let documents = c.as_slice-documents.ensures.value ∙ c.in_ok-changed.ensures.documents in
    let mapped = subst (λ (ds : List (List (List ℕ × Json))). FirstAreMapped g.C.Servers old.servers c.map_next.new.servers old.pool c.map_next.new.self design (documents_of changes ++ ds) (lists ++ others)) documents
    (c.in_ok-lists.ensures.went old.servers old.pool (documents_of changes) lists come.begun (come.given).mapped) in
    let few : length page < PAGE = omega (arith, length-map c.in_ok-page.page numbered, c.len-count.ensures, c.if-count.true) in
    let next : Progress = record { after = last_number progress.after page; begun = progress.begun || has_some (documents_of page) } in
    let many : length c.as_slice-documents.result.now ≡ length (mapped_of page) = ap length documents ∙ length-map (mapped_of page) (λ (entry : List ℕ × Json). document_of entry.1) in
    let bounded = subst (λ (n : ℕ). AreBounded (length design.views) n others) many c.in_ok-lists.ensures.bounded in
    let added = c.in_ok-add_rows.ensures page c.in_ok-changed.ensures.written ∙ ap (λ (n : ℕ). before ++ changed_rows n page others) c.len.ensures in
    let reads = read_well g.F.Folder docs c.args.folder.now c.read_page.new.folder c.in_ok-page.page rows c.in_ok-page.ensures.reads in
    ends_well g.F.Folder g.C.Servers docs design seq old new next (changes ++ page) rows
    (come_on g.F.Folder g.C.Servers docs design seq old now progress changes before come page PAGE read new others mapped rows added
    (bounded_fit (length design.views) c.in_ok-page.page others c.in_ok-page.ensures.short bounded) next refl refl bounded.each reads.disk (reads.counted.still (λ is. cc))
    (covers_on docs seq progress.after PAGE changes c.in_ok-page.page come.covers c.in_ok-page.ensures.whole))
    (none_behind g.F.Folder g.C.Servers docs design seq old now progress changes before come page PAGE read few)
    (covers_all docs seq progress.after PAGE changes c.in_ok-page.page come.covers c.in_ok-page.ensures.whole (omega (arith, few, length-map c.in_ok-page.page numbered)))
    (reads_then g.F.Folder docs old.folder c.args.folder.now come.disk c.read_page.new.folder (done rows) come.still reads)

pub returns : goal.returns
returns g c = λ seq old changes come.
    let now = outer c.args.folder.now c.args.servers.now c.args.pool.now in
    let new = outer c.read_page.new.folder c.map_next.new.servers c.map_next.new.self in
    let docs = c.args.docs.now in
    let design = c.args.design.now in
    let progress = c.args.progress in
    let before = c.args.rows.now.items in
    let rows = c.add_rows.new.rows.items in
    let page = map numbered c.in_ok-page.page in
    let read = page_read g.F.Folder docs c.args.folder.now c.read_page.new.folder progress.after PAGE c.in_ok-page.page c.in_ok-page.ensures in
    let lists = (come.given).lists in
    let others = c.in_ok-lists.lists in
    let documents = c.as_slice-documents.ensures.value ∙ c.in_ok-changed.ensures.documents in
    let mapped = subst (λ (ds : List (List (List ℕ × Json))). FirstAreMapped g.C.Servers old.servers c.map_next.new.servers old.pool c.map_next.new.self design (documents_of changes ++ ds) (lists ++ others)) documents
    (c.in_ok-lists.ensures.went old.servers old.pool (documents_of changes) lists come.begun (come.given).mapped) in
    let some : c.in_ok-page.page ≢ [] = λ none. (let long : length c.in_ok-page.page ≡ 0 = ap length none in omega (arith, long, c.len-count.ensures, c.if-count.false)) in
    let next : Progress = record { after = c.last_seq-after.result; begun = progress.begun || not c.is_empty.result } in
    let begun = ap (λ b. progress.begun || not b) c.is_empty.ensures ∙ ap (λ b. progress.begun || b) (is_some_list c.as_slice-documents.result.now ∙ ap has_some documents) in
    let many : length c.as_slice-documents.result.now ≡ length (mapped_of page) = ap length documents ∙ length-map (mapped_of page) (λ (entry : List ℕ × Json). document_of entry.1) in
    let bounded = subst (λ (n : ℕ). AreBounded (length design.views) n others) many c.in_ok-lists.ensures.bounded in
    let added = c.in_ok-add_rows.ensures page c.in_ok-changed.ensures.written ∙ ap (λ (n : ℕ). before ++ changed_rows n page others) c.len.ensures in
    let reads = read_well g.F.Folder docs c.args.folder.now c.read_page.new.folder c.in_ok-page.page rows c.in_ok-page.ensures.reads in (
      subst (λ (n : ℕ). progress.after < n) (sym c.last_seq-after.ensures) (last_after progress.after progress.after c.in_ok-page.page some c.in_ok-page.ensures.order.after),
      changes ++ page,
      come_on g.F.Folder g.C.Servers docs design seq old now progress changes before come page PAGE read new others mapped rows added
          (bounded_fit (length design.views) c.in_ok-page.page others c.in_ok-page.ensures.short bounded) next c.last_seq-after.ensures begun bounded.each reads.disk (reads.counted.still (λ is. cc))
          (covers_on docs seq progress.after PAGE changes c.in_ok-page.page come.covers c.in_ok-page.ensures.whole),
    )
