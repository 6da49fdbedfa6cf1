-- What the definitions of designs, and of the history of documents, say together.
use Rattle.std.specs.Prelude.{◌≡◌, ◌<◌, ◌≤◌, ℕ, List, map, length, filter, nat_lt, codes, bytes_eq, Some, All, AllPairs}
use Rattle.std.specs.Ordering.{nat_cmp}
use Rattle.std.specs.Cmp.Lexicographic.{slice_cmp}
use Rattle.std.specs.List.Sorted.{IsPermutation, IsStrictlySortedBy}
use Rattle.std.specs.Map.{lookup}
use Rattle.json_terms.specs.Json.{Json, object, Members}
use Rattle.json_terms.specs.Terms.{IsTerm}
use Rattle.json_terms.specs.Find.{with_member}
use Rattle.design_docs.specs.declared.design.View.{View}
use Rattle.design_docs.specs.declared.fault.DesignFault.TheVariants.{NoMemory}
use Rattle.design_docs.specs.Faults.{design_fault, HasDesign, view_limit}
use Rattle.design_docs.specs.Design.{language_of, views_of, views_object, source_of}
use Rattle.design_docs.specs.History.{Write, changes_after, last_seq, last_write, mapped, mapped_after}

abbrev pub names_of : List View → List (List ℕ)
names_of = map (λ view. view.name)

-- the views of a term are in strictly rising byte order of name
abbrev pub AreInOrderOfName : Json → Type 0
AreInOrderOfName document = IsTerm document → IsStrictlySortedBy (slice_cmp nat_cmp) (names_of (views_of document))

-- a design has not too many views
abbrev pub AreFew : Json → Type 0
AreFew document = HasDesign document → length (views_of document) ≤ view_limit

-- a view's name, beside the source of its map function
abbrev pub entry_of : View → List ℕ × List ℕ
entry_of view = (view.name, view.map)

-- among the views of a design each name has the source that stands in the document, and no other name has one
abbrev pub HasViewsOfNames : Json → Type 0
HasViewsOfNames document =
    HasDesign document → (name : List ℕ) → lookup (λ key. bytes_eq key name) (map entry_of (views_of document)) ≡ source_of name document

-- want of memory is no fault of a document
abbrev pub IsNoFault : Json → Type 0
IsNoFault document = design_fault document ≡ Some NoMemory → ⊥

-- two documents with the same design
abbrev pub HaveSameDesign : Json → Json → Type 0
HaveSameDesign one other =
    (design_fault one ≡ design_fault other) × (language_of one ≡ language_of other) × (views_of one ≡ views_of other) × (views_object one ≡ views_object other)

-- a revision that is set leaves the design as it was
abbrev pub RevisionLeavesDesign : Members → Json → Type 0
RevisionLeavesDesign members revision = HaveSameDesign (object (with_member (codes "_rev") revision members)) (object members)

-- the documents that views map are the same in byte order of id and in the order of their writes
abbrev pub MappedAreListed : Type 0
MappedAreListed = (history : List Write) → IsPermutation (mapped history) (mapped_after 0 history)

-- of those whose last write came after the first `seq` writes too
abbrev pub LaterAreListed : Type 0
LaterAreListed = (seq : ℕ) (history : List Write) → IsPermutation (filter (λ entry. nat_lt seq (last_seq history entry.0)) (mapped history)) (mapped_after seq history)

-- each change is the last write of its id, with the number of this, and the numbers rise
abbrev pub ChangesAreNumbered : Type 0
ChangesAreNumbered = (seq : ℕ) (history : List Write) → AllPairs (λ change later. change.0 < later.0) (changes_after seq history)
    × All (λ change. (last_write history (change.1).id ≡ Some change.1) × (last_seq history (change.1).id ≡ change.0)) (changes_after seq history)
