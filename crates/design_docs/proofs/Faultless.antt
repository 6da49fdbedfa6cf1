-- Where there is no fault, there is none of a part.
use Rattle.std.specs.Prelude.{◌≡◌, ℕ, suc, List, Bool, true, false, ◌&&◌, nat_lt, codes, if◌then◌else◌, Option, Some, None}
use Rattle.std.proofs.Common.{refl}
use Rattle.json_terms.specs.Json.{Json, Members, member}
use Rattle.json_terms.specs.Find.{member_of}
use Rattle.design_docs.specs.declared.fault.DesignFault.{DesignFault}
use Rattle.design_docs.specs.Faults.{◌or◌, HasDesign, form_fault, fault_from, is_view, language_fault, options_fault, shape_fault, view_fault, view_limit, views_fault}

pub neither : (a b : Option DesignFault) → a or b ≡ None → (a ≡ None) × (b ≡ None)
neither None b is = (refl, is)
neither (Some fault) b is = absurd (cc)

pub passed : (b : Bool) (fault : DesignFault) → (if b then None else Some fault) ≡ None → b ≡ true
passed true fault is = refl
passed false fault is = absurd (cc)

-- the first view is one, and in its place
pub is_formed : (place : ℕ) (name : List ℕ) (view : Json) (rest : Members) → fault_from place (member name view rest) ≡ None → (nat_lt place view_limit && is_view name view) ≡ true
is_formed place name view rest is =
    let first = (neither (view_fault place name view) (fault_from (suc place) rest) is).0 in
    passed (nat_lt place view_limit && is_view name view) _ (neither (form_fault place name view) _ first).0

pub faultless_rest : (place : ℕ) (name : List ℕ) (view : Json) (rest : Members) → fault_from place (member name view rest) ≡ None → fault_from (suc place) rest ≡ None
faultless_rest place name view rest is = (neither (view_fault place name view) (fault_from (suc place) rest) is).1

pub faultless_views : (document : Json) → HasDesign document → views_fault (member_of (codes "views") document) ≡ None
faultless_views document is =
    let after_language = (neither (language_fault (member_of (codes "language") document)) _ is).1 in
    let after_shape = (neither (shape_fault (member_of (codes "views") document)) _ after_language).1 in
    (neither (options_fault (member_of (codes "options") document)) _ after_shape).1
