-- Each fault of a document says something of it: none is want of memory.
use Rattle.std.specs.Prelude.{◌≡◌, ℕ, suc, List, Bool, true, false, ◌&&◌, nat_lt, length, codes, if◌then◌else◌, Option, Some, None}
use Rattle.json_terms.specs.Json.{Json, number, is_false, is_null, is_true, object, array, string, Members, no_members, member}
use Rattle.json_terms.specs.Find.{member_of}
use Rattle.design_docs.specs.declared.fault.DesignFault.{DesignFault}
use Rattle.design_docs.specs.declared.fault.DesignFault.TheVariants.{BadLanguage, BadOption, BadView, UnknownBuiltin, NoMemory}
use Rattle.design_docs.specs.Faults.{◌or◌, builtin_fault, fault_from, form_fault, is_option, is_unknown, is_view, language_fault, option_fault, options_fault, shape_fault, view_fault, view_limit, views_fault}
use Rattle.design_docs.specs.Laws.{IsNoFault}

abbrev IsReal : Option DesignFault → Type 0
IsReal fault = fault ≡ Some NoMemory → ⊥

either : (a b : Option DesignFault) → IsReal a → IsReal b → IsReal (a or b)
either None b one two = two
either (Some fault) b one two = one

chosen : (b : Bool) (x y : Option DesignFault) → IsReal x → IsReal y → IsReal (if b then x else y)
chosen true x y one two = one
chosen false x y one two = two

none : IsReal None
none is = cc

of_language : (language : Option Json) → IsReal (language_fault language)
of_language None = none
of_language (Some (string s)) = chosen (nat_lt 0 (length s)) None (Some BadLanguage) none (λ is. cc)
of_language (Some (number n)) = λ is. cc
of_language (Some is_false) = λ is. cc
of_language (Some is_null) = λ is. cc
of_language (Some is_true) = λ is. cc
of_language (Some (object ms)) = λ is. cc
of_language (Some (array ts)) = λ is. cc

of_shape : (views : Option Json) → IsReal (shape_fault views)
of_shape None = none
of_shape (Some (object ms)) = none
of_shape (Some (string s)) = λ is. cc
of_shape (Some (number n)) = λ is. cc
of_shape (Some is_false) = λ is. cc
of_shape (Some is_null) = λ is. cc
of_shape (Some is_true) = λ is. cc
of_shape (Some (array ts)) = λ is. cc

of_each_option : (options : Members) → IsReal (option_fault options)
of_each_option no_members = none
of_each_option (member name value rest) = chosen (is_option name value) (option_fault rest) (Some (BadOption name)) (of_each_option rest) (λ is. cc)

of_options : (options : Option Json) → IsReal (options_fault options)
of_options None = none
of_options (Some (object ms)) = of_each_option ms
of_options (Some (string s)) = λ is. cc
of_options (Some (number n)) = λ is. cc
of_options (Some is_false) = λ is. cc
of_options (Some is_null) = λ is. cc
of_options (Some is_true) = λ is. cc
of_options (Some (array ts)) = λ is. cc

of_reduce : (name : List ℕ) (reduce : Option Json) → IsReal (builtin_fault name reduce)
of_reduce name None = none
of_reduce name (Some (string s)) = chosen (is_unknown s) (Some (UnknownBuiltin name)) None (λ is. cc) none
of_reduce name (Some (number n)) = none
of_reduce name (Some is_false) = none
of_reduce name (Some is_null) = none
of_reduce name (Some is_true) = none
of_reduce name (Some (object ms)) = none
of_reduce name (Some (array ts)) = none

of_view : (place : ℕ) (name : List ℕ) (view : Json) → IsReal (view_fault place name view)
of_view place name view =
    let options = member_of (codes "options") view in
    let reduce = member_of (codes "reduce") view in
    let formed = chosen (nat_lt place view_limit && is_view name view) None (Some (BadView name)) none (λ is. cc) in
    either (form_fault place name view) (options_fault options or builtin_fault name reduce) formed
    (either (options_fault options) (builtin_fault name reduce) (of_options options) (of_reduce name reduce))

of_each_view : (place : ℕ) (views : Members) → IsReal (fault_from place views)
of_each_view place no_members = none
of_each_view place (member name view rest) = either (view_fault place name view) (fault_from (suc place) rest) (of_view place name view) (of_each_view (suc place) rest)

of_views : (views : Option Json) → IsReal (views_fault views)
of_views None = none
of_views (Some (object ms)) = of_each_view 0 ms
of_views (Some (string s)) = none
of_views (Some (number n)) = none
of_views (Some is_false) = none
of_views (Some is_null) = none
of_views (Some is_true) = none
of_views (Some (array ts)) = none

pub is_no_fault : (document : Json) → IsNoFault document
is_no_fault document =
    let language = member_of (codes "language") document in
    let options = member_of (codes "options") document in
    let views = member_of (codes "views") document in
    either (language_fault language) (shape_fault views or options_fault options or views_fault views) (of_language language)
    (either (shape_fault views) (options_fault options or views_fault views) (of_shape views)
    (either (options_fault options) (views_fault views) (of_options options) (of_views views)))
