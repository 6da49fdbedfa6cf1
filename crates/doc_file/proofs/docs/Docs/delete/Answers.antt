-- Nothing is called where a deletion is refused, and else a tombstone is stored.
use Rattle.std.specs.Prelude.{option_map}
use Rattle.std.proofs.Common.{◌≡◌, ◌+◌, ◌^◌, ◌<◌, ℕ, List, None, length, refl, sym, ap, ◌∙◌, subst, rules}
use Rattle.doc_file.specs.declared.fault.DocFault.{DocFault}
use Rattle.doc_file.specs.declared.fault.DocFault.TheVariants.{BadRev}
use Rattle.doc_file.specs.Accepted.{state_in}
use Rattle.doc_file.specs.Calls.{Stores}
use Rattle.doc_file.specs.Docs.{last_of}
use Rattle.doc_file.specs.Held.{find_last}
use Rattle.doc_file.specs.Writes.{IsAcceptedDelete}
use Rattle.doc_file.proofs.NotOfFile.{delete_not_of_file}
use Rattle.doc_file.proofs.Storable.{deleted_fits}
use Rattle.doc_file.proofs.Written.{unwritten, written}
use Rattle.doc_file.proofs.docs.Docs.delete.Goals as goal

pub returns-then-not-is_given : goal.returns-then-not-is_given
returns-then-not-is_given g c =
    unwritten {Is = λ (e : DocFault). e ≡ BadRev} (delete_not_of_file (state_in (last_of c.args.self.now c.args.id.now)) (option_map (λ text. text.now) c.args.rev)) refl (λ fault is. search rules)

pub returns-in_err-may_delete : goal.returns-in_err-may_delete
returns-in_err-may_delete g c =
    unwritten (delete_not_of_file (state_in (last_of c.args.self.now c.args.id.now)) (option_map (λ text. text.now) c.args.rev)) c.from_residual.ensures.1 (λ fault is. search rules)

pub returns-in_err-id : goal.returns-in_err-id
returns-in_err-id g c =
    unwritten (delete_not_of_file (state_in (last_of c.args.self.now c.args.id.now)) (option_map (λ text. text.now) c.args.rev)) c.from_residual-in_err-id.ensures.1 (λ fault is. search rules)

pub store-requires-clause-room : goal.store-requires-clause-room
store-requires-clause-room g c =
    subst (λ i. length i + 33 < 2 ^ 32) (sym c.in_ok-id.ensures)
    (deleted_fits c.args.self.now.entries.items c.args.id.now c.find_last-last.result _ (sym (c.find_last-last.ensures ∙ ap (find_last c.args.id.now) c.as_slice.ensures.value)) c.args.self.now.room c.in_ok-may_delete.ensures.ok)

pub returns : goal.returns
returns g c =
    let accepted : IsAcceptedDelete (state_in (last_of c.args.self.now c.args.id.now)) (option_map (λ text. text.now) c.args.rev) = search rules in
    written accepted c.store.ensures.kept c.store.ensures.faults
    (subst (λ (i : List ℕ). Stores g.F.Folder c.args.self.now c.store.new.self c.args.folder.now c.store.new.folder i None c.store.result) c.in_ok-id.ensures c.store.ensures.stored)
