-- Nothing is called where a put is refused, and else the next write of its id is stored.
use Rattle.std.specs.Prelude.{if◌then◌else◌}
use Rattle.std.proofs.Common.{◌≡◌, ◌+◌, ◌^◌, ◌<◌, ℕ, List, Option, None, Some, length, option_map, sym, ap, ◌∙◌, subst, rules}
use Rattle.json_terms.specs.Json.{Json}
use Rattle.json_terms.specs.Seen.{json}
use Rattle.design_docs.specs.Documents.{id_of}
use Rattle.doc_file.specs.declared.incoming.Incoming.{Incoming}
use Rattle.doc_file.specs.Accepted.{state_in}
use Rattle.doc_file.specs.Calls.{Stores}
use Rattle.doc_file.specs.Docs.{last_of}
use Rattle.doc_file.specs.Incoming.{IsReadAs, deletes}
use Rattle.doc_file.specs.Stored.{IsStorable}
use Rattle.doc_file.specs.Writes.{content_of, IsAcceptedPut}
use Rattle.doc_file.proofs.NotOfFile.{put_not_of_file}
use Rattle.doc_file.proofs.Storable.{id_fits, storable}
use Rattle.doc_file.proofs.Written.{unwritten, written}
use Rattle.doc_file.proofs.docs.Docs.put.Goals as goal

-- what is stored is what the definition says of the document
content_is : (document : Json) (incoming : Incoming) (stored : Option Json) → IsReadAs document incoming → stored ≡ (if incoming.deletes then None else Some (json incoming.content)) → stored ≡ content_of document
content_is document incoming stored read is = is ∙ ap (λ b. if b then None else Some (json incoming.content)) read.deletes ∙ ap (λ c. if deletes document then None else Some c) read.content

both : {i j : List ℕ} {a b : Option Json} (P : List ℕ → Option Json → Type 0) → i ≡ j → a ≡ b → P i a → P j b
both {i} {j} {a} {b} P is same holds = subst (P j) same (subst (λ n. P n a) is holds)

pub returns-in_err-incoming : goal.returns-in_err-incoming
returns-in_err-incoming g c =
    let document = json c.args.document in
    let state = state_in (last_of c.args.self.now (id_of document)) in
    unwritten (put_not_of_file state document) c.from_residual.ensures.1 (λ fault is. search rules)

pub returns-in_err-accept : goal.returns-in_err-accept
returns-in_err-accept g c =
    let document = json c.args.document in
    let state = state_in (last_of c.args.self.now (id_of document)) in
    unwritten (put_not_of_file state document) c.from_residual-in_err-accept.ensures.1 (λ fault is. search rules)

pub store-requires-clause-room : goal.store-requires-clause-room
store-requires-clause-room g c = subst (λ i. length i + 33 < 2 ^ 32) (sym (c.into_stored-id.ensures.id ∙ c.in_ok-incoming.ensures.ok.id)) (id_fits (json c.args.document) c.in_ok-incoming.ensures.ok.writable)

pub store-requires-clause-storable : goal.store-requires-clause-storable
store-requires-clause-storable g c =
    both (λ i content. IsStorable i content) (sym (c.into_stored-id.ensures.id ∙ c.in_ok-incoming.ensures.ok.id))
    (sym (content_is (json c.args.document) c.in_ok-incoming.incoming (option_map json c.into_stored-id.result.1) c.in_ok-incoming.ensures.ok c.into_stored-id.ensures.content))
    (storable (json c.args.document) c.validity.ensures c.in_ok-incoming.ensures.ok.writable)

pub returns : goal.returns
returns g c =
    let document = json c.args.document in
    let accepted : IsAcceptedPut (state_in (last_of c.args.self.now (id_of document))) document = search rules in
    written accepted c.store.ensures.kept c.store.ensures.faults
    (both (λ i content. Stores g.F.Folder c.args.self.now c.store.new.self c.args.folder.now c.store.new.folder i content c.store.result)
    (c.into_stored-id.ensures.id ∙ c.in_ok-incoming.ensures.ok.id)
    (content_is document c.in_ok-incoming.incoming (option_map json c.into_stored-id.result.1) c.in_ok-incoming.ensures.ok c.into_stored-id.ensures.content) c.store.ensures.stored)
