-- A member that is set leaves the others.
use Rattle.std.specs.Prelude.{◌≡◌, ℕ, List, false, codes, bytes_eq, Some, None, option_and_then, unwrap_or, if◌then◌else◌}
use Rattle.std.proofs.Common.{refl, sym, ap, ◌∙◌}
use Rattle.std.specs.declared.cmp.Ordering.TheVariants.{Less, Equal, Greater}
use Rattle.std.specs.Ordering.{is_eq, nat_cmp, match_ordering}
use Rattle.std.specs.Cmp.Lexicographic.{slice_cmp}
use Rattle.std.proofs.lemmas.Map.Text.{is_eq-slice_cmp}
use Rattle.std.proofs.lemmas.Slice.Eq.{bytes_eq-Decides}
use Rattle.json_terms.specs.Json.{Json, object, Members, no_members, member}
use Rattle.json_terms.specs.Find.{find, with_member}
use Rattle.json_terms.specs.Kinds.{text_in, members_in}
use Rattle.design_docs.specs.Faults.{◌or◌, language_fault, options_fault, shape_fault, views_fault}
use Rattle.design_docs.specs.Design.{views_in}
use Rattle.design_docs.specs.Laws.{RevisionLeavesDesign}

same_name : (n m : List ℕ) → slice_cmp nat_cmp n m ≡ Equal → n ≡ m
same_name n m equal = (bytes_eq-Decides n m).0 (sym (is_eq-slice_cmp n m) ∙ ap is_eq equal)

pub find-with_member : (name other : List ℕ) (value : Json) (ms : Members) → bytes_eq other name ≡ false → find name (with_member other value ms) ≡ find name ms
find-with_member name other value no_members apart = ap (λ b. if b then Some value else None) apart
find-with_member name other value (member n t ms) apart =
    elim (slice_cmp nat_cmp other n) as (λ o. slice_cmp nat_cmp other n ≡ o
    → find name (match_ordering o (member other value (member n t ms)) (member other value ms) (member n t (with_member other value ms))) ≡ find name (member n t ms)) [
      | Less ↦ λ is. ap (λ b. if b then Some value else find name (member n t ms)) apart
      | Equal ↦ λ is.
          let same : bytes_eq n name ≡ false = ap (λ m. bytes_eq m name) (sym (same_name other n is)) ∙ apart in
          ap (λ b. if b then Some value else find name ms) apart ∙ sym (ap (λ b. if b then Some t else find name ms) same)
      | Greater ↦ λ is. ap (λ found. if bytes_eq n name then Some t else found) (find-with_member name other value ms apart)
    ] refl

pub revision_leaves_design : (members : Members) (revision : Json) → RevisionLeavesDesign members revision
revision_leaves_design members revision =
    let language = find-with_member (codes "language") (codes "_rev") revision members refl in
    let options = find-with_member (codes "options") (codes "_rev") revision members refl in
    let views = find-with_member (codes "views") (codes "_rev") revision members refl in (
      λ i. language_fault (language i) or shape_fault (views i) or options_fault (options i) or views_fault (views i),
      ap (λ o. unwrap_or (option_and_then text_in o) (codes "javascript")) language,
      ap (λ o. views_in (unwrap_or (option_and_then members_in o) no_members)) views,
      ap (λ o. unwrap_or o (object no_members)) views,
    )
