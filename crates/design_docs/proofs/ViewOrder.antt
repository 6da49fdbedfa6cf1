-- The views of a design stand in the order of their names, as the members of its views do, and there are not too many.
use Rattle.std.specs.Prelude.{◌≡◌, ◌≤◌, ◌+◌, nat_lt, ℕ, suc, List, true, length, codes, bytes_eq, Option, Some, None, option_and_then, unwrap_or, if◌then◌else◌}
use Rattle.std.proofs.Common.{arith}
use Rattle.std.specs.declared.cmp.Ordering.{Ordering}
use Rattle.std.specs.declared.cmp.Ordering.TheVariants.{Less}
use Rattle.std.specs.List.{AllByRecursion}
use Rattle.std.specs.List.Sorted.{IsStrictlySortedBy}
use Rattle.std.specs.Ordering.{nat_cmp}
use Rattle.std.specs.Cmp.Lexicographic.{slice_cmp}
use Rattle.std.proofs.lemmas.Bool.{and_parts}
use Rattle.std.proofs.lemmas.Cmp.{nat_list_cmp_total}
use Rattle.json_terms.specs.Json.{Json, number, is_false, is_null, is_true, object, array, string, Members, no_members, member}
use Rattle.json_terms.specs.Find.{find, member_of}
use Rattle.json_terms.specs.Terms.{IsTerm, AreMembers, ComesBefore}
use Rattle.design_docs.specs.declared.design.View.{View}
use Rattle.json_terms.specs.Kinds.{members_in}
use Rattle.design_docs.specs.Faults.{fault_from, is_view, view_limit, views_fault}
use Rattle.design_docs.proofs.Faultless.{faultless_rest, faultless_views, is_formed}
use Rattle.std.proofs.lemmas.Bool.Decides.{nat_tests}
use Rattle.design_docs.specs.Design.{views_in}
use Rattle.design_docs.specs.Laws.{names_of, AreInOrderOfName, AreFew}

abbrev bytes_cmp : List ℕ → List ℕ → Ordering
bytes_cmp = slice_cmp nat_cmp

-- what comes before a name comes before those after it
before : (n m : List ℕ) (ms : Members) → bytes_cmp n m ≡ Less → ComesBefore m ms → ComesBefore n ms
before n m no_members less after = tt
before n m (member l t ms) less after = nat_list_cmp_total.trans n m l less after

all_after : (n : List ℕ) (ms : Members) → ComesBefore n ms → AreMembers ms → AllByRecursion (λ m. bytes_cmp n m ≡ Less) (names_of (views_in ms))
all_after n no_members first all = tt
all_after n (member m t ms) first all = (first, all_after n ms (before n m ms first all.1) all.3)

in_order : (ms : Members) → AreMembers ms → IsStrictlySortedBy bytes_cmp (names_of (views_in ms))
unfolding IsStrictlySortedBy
in_order no_members all = tt
in_order (member m t ms) all = (all_after m ms all.1 all.3, in_order ms all.3)

-- ---- what is found in a term is a term

abbrev IsTermIn : Option Json → Type 0
IsTermIn None = Unit {0}
IsTermIn (Some t) = IsTerm t

found_is_term : (name : List ℕ) (ms : Members) → AreMembers ms → IsTermIn (find name ms)
found_is_term name no_members all = tt
found_is_term name (member n t ms) all =
    elim (bytes_eq n name) as (λ b. IsTermIn (if b then Some t else find name ms)) [ true ↦ all.2 | _ ↦ found_is_term name ms all.3 ]

member_is_term : (name : List ℕ) (document : Json) → IsTerm document → IsTermIn (member_of name document)
member_is_term name (number n) is = tt
member_is_term name is_false is = tt
member_is_term name is_null is = tt
member_is_term name is_true is = tt
member_is_term name (object ms) is = found_is_term name ms is
member_is_term name (array ts) is = tt
member_is_term name (string s) is = tt

abbrev views_at : Option Json → List View
views_at views = views_in (unwrap_or (option_and_then members_in views) no_members)

in_order_at : (views : Option Json) → IsTermIn views → IsStrictlySortedBy bytes_cmp (names_of (views_at views))
in_order_at None is = in_order no_members tt
in_order_at (Some (number n)) is = in_order no_members tt
in_order_at (Some is_false) is = in_order no_members tt
in_order_at (Some is_null) is = in_order no_members tt
in_order_at (Some is_true) is = in_order no_members tt
in_order_at (Some (object ms)) is = in_order ms is
in_order_at (Some (array ts)) is = in_order no_members tt
in_order_at (Some (string s)) is = in_order no_members tt

pub views_are_in_order : (document : Json) → AreInOrderOfName document
views_are_in_order document is = in_order_at (member_of (codes "views") document) (member_is_term (codes "views") document is)

-- ---- there are not too many

few_from : (place : ℕ) (views : Members) → place ≤ view_limit → fault_from place views ≡ None → place + length (views_in views) ≤ view_limit
few_from place no_members before is = omega (arith, before)
few_from place (member name view rest) before is =
    let inside : nat_lt place view_limit ≡ true = (and_parts (nat_lt place view_limit) (is_view name view) (is_formed place name view rest is)).0 in
    let less : suc place ≤ view_limit = grind (arith, nat_tests, inside) in
    let later = few_from (suc place) rest less (faultless_rest place name view rest is) in
    omega (arith, later)

few_at : (views : Option Json) → views_fault views ≡ None → length (views_at views) ≤ view_limit
few_at None is = omega arith
few_at (Some (number n)) is = omega arith
few_at (Some is_false) is = omega arith
few_at (Some is_null) is = omega arith
few_at (Some is_true) is = omega arith
few_at (Some (object ms)) is = let few = few_from 0 ms (omega arith) is in omega (arith, few)
few_at (Some (array ts)) is = omega arith
few_at (Some (string s)) is = omega arith

pub views_are_few : (document : Json) → AreFew document
views_are_few document is = few_at (member_of (codes "views") document) (faultless_views document is)
