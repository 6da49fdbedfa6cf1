-- The documents of a load: a design document with one view, and numbered documents with a group and an amount.
use Rattle.std.specs.Prelude.{ℕ, ◌+◌, ◌-◌, ◌/◌, ◌%◌, List, ◌++◌, length, replicate, codes, decimal, pos}
use Rattle.json_terms.specs.Json.{Json, number, object, string, Members, no_members, member}
use Rattle.design_docs.specs.Revision.{revision}
use Rattle.load_lines.specs.Numbers.{value}

-- the source of the view's map function
abbrev pub load_map : List ℕ
load_map = codes "emit [doc.group, doc.amount], doc.amount"

-- an object of one member
abbrev pub one_member : List ℕ → Json → Json
one_member name part = object (member name part no_members)

abbrev pub by_group : Json
by_group = object (member (codes "map") (string load_map) (member (codes "reduce") (string (codes "_stats")) no_members))

unfoldable pub load_design : Json
load_design = object
    (member (codes "_id") (string (codes "_design/load"))
    (member (codes "language") (string (codes "pick"))
    (member (codes "views") (one_member (codes "by_group") by_group) no_members)))

-- `doc`, and the number in six decimal digits: zeros stand in front
unfoldable pub document_id : ℕ → List ℕ
document_id k = codes "doc" ++ (replicate (6 - length (decimal k)) 48 ++ decimal k)

abbrev pub amount_and_group : ℕ → ℕ → Members
amount_and_group amount group = member (codes "amount") (number (pos amount)) (member (codes "group") (number (pos group)) no_members)

-- document k of this value
abbrev pub document_of : ℕ → ℕ → Json
document_of k v = object (member (codes "_id") (string (document_id k)) (amount_and_group (v / 10) (v % 10)))

-- the same with `amount` one greater, over the revision of the first write of document k: the design is write 1
abbrev pub raised_of : ℕ → ℕ → Json
raised_of k v = object
    (member (codes "_id") (string (document_id k))
    (member (codes "_rev") (string (revision 1 (k + 1))) (amount_and_group (v / 10 + 1) (v % 10))))

unfoldable pub document : ℕ → ℕ → Json
document seed k = document_of k (value seed k)

unfoldable pub raised : ℕ → ℕ → Json
raised seed k = raised_of k (value seed k)
