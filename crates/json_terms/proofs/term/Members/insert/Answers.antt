-- The place of the name is within the entries, and what is set there sets the member.
use Rattle.std.proofs.Common.{ℕ, List, map, length, Result, IsUtf8, sym, ap, ap₂, ◌∙◌, subst, arith}
use Rattle.json_terms.specs.declared.term.Member.{Member}
use Rattle.json_terms.specs.Json.{members_of}
use Rattle.json_terms.specs.Terms.{AreMembers}
use Rattle.json_terms.specs.Find.{with_member}
use Rattle.json_terms.specs.Place.{place_after}
use Rattle.json_terms.specs.Seen.{json, pair_of}
use Rattle.json_terms.proofs.Inserted.{AreMembers-with_member, members_of-insert, members_of-replace}
use Rattle.json_terms.proofs.term.Members.insert.Goals as goal

abbrev place_in : List ℕ → List Member → Result ℕ ℕ
place_in name es = place_after 0 name (members_of (map pair_of es))

pub index_mut-entry-requires : goal.index_mut-entry-requires
index_mut-entry-requires c =
    let place = ap₂ place_in (sym c.as_str.ensures) (sym c.as_slice.ensures.value) ∙ sym c.in-Ok.ensures in
    let new : Member = record { name = c.args.name; value = c.args.value } in
    let found = members_of-replace c.self.inside.entries.items c.in-Ok.index new place in
    omega (arith, found.0, ap length c.as_slice.ensures.value)

pub invariant_of-self : goal.invariant_of-self
invariant_of-self c =
    let place = ap₂ place_in (sym c.as_str.ensures) (sym c.as_slice.ensures.value) ∙ sym c.in-Ok.ensures in
    let new : Member = record { name = c.args.name; value = c.args.value } in
    let found = members_of-replace c.self.inside.entries.items c.in-Ok.index new place in
    let utf8 : IsUtf8 c.args.name = subst IsUtf8 c.as_str.ensures c.as_str.utf8 in
    subst AreMembers (sym (found.1 c.index_mut-entry.result.now c.index_mut-entry.ensures.value))
    (AreMembers-with_member c.args.name (json c.args.value) (members_of (map pair_of c.self.inside.entries.items)) utf8 c.validity.ensures c.self.invariant)

pub returns-in-Ok-clause-ok : goal.returns-in-Ok-clause-ok
returns-in-Ok-clause-ok c =
    let place = ap₂ place_in (sym c.as_str.ensures) (sym c.as_slice.ensures.value) ∙ sym c.in-Ok.ensures in
    let new : Member = record { name = c.args.name; value = c.args.value } in
    let found = members_of-replace c.self.inside.entries.items c.in-Ok.index new place in
    found.1 c.index_mut-entry.result.now c.index_mut-entry.ensures.value ∙ ap (λ ms. with_member c.args.name (json c.args.value) (members_of ms)) c.self.view_is

pub insert-requires : goal.insert-requires
insert-requires c =
    let place = ap₂ place_in (sym c.as_str.ensures) (sym c.as_slice.ensures.value) ∙ sym c.in-Err.ensures in
    let new : Member = record { name = c.args.name; value = c.args.value } in
    let found = members_of-insert c.self.inside.entries.items c.in-Err.index new place in
    omega (arith, found.0, ap length c.as_slice.ensures.value)

pub invariant_of-self-in-Err : goal.invariant_of-self-in-Err
invariant_of-self-in-Err c =
    let place = ap₂ place_in (sym c.as_str.ensures) (sym c.as_slice.ensures.value) ∙ sym c.in-Err.ensures in
    let new : Member = record { name = c.args.name; value = c.args.value } in
    let found = members_of-insert c.self.inside.entries.items c.in-Err.index new place in
    let utf8 : IsUtf8 c.args.name = subst IsUtf8 c.as_str.ensures c.as_str.utf8 in
    subst AreMembers (sym (ap (λ es. members_of (map pair_of es)) c.in_ok-insert-in-Err.ensures.items ∙ found.1))
    (AreMembers-with_member c.args.name (json c.args.value) (members_of (map pair_of c.self.inside.entries.items)) utf8 c.validity.ensures c.self.invariant)

pub returns-in_ok-insert-in-Err-clause-ok : goal.returns-in_ok-insert-in-Err-clause-ok
returns-in_ok-insert-in-Err-clause-ok c =
    let place = ap₂ place_in (sym c.as_str.ensures) (sym c.as_slice.ensures.value) ∙ sym c.in-Err.ensures in
    let new : Member = record { name = c.args.name; value = c.args.value } in
    let found = members_of-insert c.self.inside.entries.items c.in-Err.index new place in
    ap (λ es. members_of (map pair_of es)) c.in_ok-insert-in-Err.ensures.items ∙ found.1 ∙ ap (λ ms. with_member c.args.name (json c.args.value) (members_of ms)) c.self.view_is
