-- Why a document has no design: the first fault, in the order in which its parts are looked at.
use Rattle.std.specs.Prelude.{◌≡◌, ◌⊎◌, ℕ, zero, suc, List, Bool, true, false, not, ◌&&◌, ◌||◌, nat_lt, length, codes, bytes_eq, if◌then◌else◌, Option, Some, None, is_none, Result, Ok, Err}
use Rattle.json_terms.specs.Json.{Json, is_false, object, string, Members, no_members, member}
use Rattle.json_terms.specs.Find.{member_of}
use Rattle.design_docs.specs.declared.fault.DesignFault.{DesignFault}
use Rattle.design_docs.specs.declared.fault.DesignFault.TheVariants.{BadLanguage, BadViews, BadOption, BadView, UnknownBuiltin, NoMemory}
use Rattle.design_docs.specs.Documents.{is_special}
use Rattle.design_docs.specs.Reduces.{builtin_of}

-- the most views of a design document
abbrev pub view_limit : ℕ
view_limit = 32

-- the first of two faults
infixr 20 ◌or◌
abbrev pub ◌or◌ : Option DesignFault → Option DesignFault → Option DesignFault
None or next = next
Some fault or next = Some fault

-- ---- the language, which is absent or a text that isn't empty

abbrev pub language_fault : Option Json → Option DesignFault
language_fault None = None
language_fault (Some (string language)) = if nat_lt 0 (length language) then None else Some BadLanguage
language_fault (Some other) = Some BadLanguage

-- ---- options: the raw order, which each view has, and three that are off

abbrev pub is_switch : List ℕ → Bool
is_switch name = bytes_eq name (codes "include_design") || (bytes_eq name (codes "local_seq") || bytes_eq name (codes "partitioned"))

abbrev pub is_option : List ℕ → Json → Bool
is_option name (string value) = bytes_eq name (codes "collation") && bytes_eq value (codes "raw")
is_option name is_false = is_switch name
is_option name other = false

-- the first member that is no such option
abbrev pub option_fault : Members → Option DesignFault
option_fault no_members = None
option_fault (member name value rest) = if is_option name value then option_fault rest else Some (BadOption name)

-- options are absent or an object of such
abbrev pub options_fault : Option Json → Option DesignFault
options_fault None = None
options_fault (Some (object options)) = option_fault options
options_fault (Some other) = Some (BadOption (codes "options"))

-- ---- views

abbrev pub is_text : Option Json → Bool
is_text (Some (string s)) = true
is_text other = false

-- a view has a text `map`, and a `reduce` that is a text if it is there; `lib` is no name of one
abbrev pub is_view : List ℕ → Json → Bool
is_view name view =
    not (bytes_eq name (codes "lib")) && (is_text (member_of (codes "map") view) && (is_none (member_of (codes "reduce") view) || is_text (member_of (codes "reduce") view)))

-- such a view, before which there are not too many others
abbrev pub form_fault : ℕ → List ℕ → Json → Option DesignFault
form_fault place name view = if nat_lt place view_limit && is_view name view then None else Some (BadView name)

-- names of reduces that begin with an underscore are kept for built-in ones
abbrev pub is_unknown : List ℕ → Bool
is_unknown reduce = is_special reduce && is_none (builtin_of reduce)

abbrev pub builtin_fault : List ℕ → Option Json → Option DesignFault
builtin_fault name (Some (string reduce)) = if is_unknown reduce then Some (UnknownBuiltin name) else None
builtin_fault name other = None

abbrev pub view_fault : ℕ → List ℕ → Json → Option DesignFault
view_fault place name view =
    form_fault place name view or options_fault (member_of (codes "options") view) or builtin_fault name (member_of (codes "reduce") view)

-- of views, of which the first has this place
abbrev pub fault_from : ℕ → Members → Option DesignFault
fault_from place no_members = None
fault_from place (member name view rest) = view_fault place name view or fault_from (suc place) rest

-- views are absent or an object
abbrev pub shape_fault : Option Json → Option DesignFault
shape_fault None = None
shape_fault (Some (object views)) = None
shape_fault (Some other) = Some BadViews

-- in byte order of name, which is the order of the members
abbrev pub views_fault : Option Json → Option DesignFault
views_fault (Some (object views)) = fault_from zero views
views_fault other = None

-- ---- the document

abbrev pub design_fault : Json → Option DesignFault
design_fault document =
    language_fault (member_of (codes "language") document)
    or shape_fault (member_of (codes "views") document)
    or options_fault (member_of (codes "options") document)
    or views_fault (member_of (codes "views") document)

abbrev pub HasDesign : Json → Type 0
HasDesign document = design_fault document ≡ None

-- what is found where this fault stands, or none: the fault, unless memory runs out
abbrev pub Finds : {T : Type 0} → Option DesignFault → Result T DesignFault → Type 0
Finds fault (Ok value) = fault ≡ None
Finds fault (Err found) = (fault ≡ Some found) ⊎ (found ≡ NoMemory)
