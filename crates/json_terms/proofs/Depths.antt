-- A part of a term is less deep than the term: the measure of a recursion over terms.
use Rattle.std.specs.Prelude.{◌≡◌, ◌<◌, ◌≤◌, ℕ, zero, suc, List, [], ◌∷◌, map, length}
use Rattle.std.proofs.Common.{arith, get_or, ap}
use Rattle.json_terms.specs.declared.term.Term.{Term}
use Rattle.json_terms.specs.declared.term.Member.{Member}
use Rattle.json_terms.specs.Json.{depth, items_of, items_depth, members_of, members_depth}
use Rattle.json_terms.specs.Seen.{json, pair_of}

-- the element at i of a slice of terms
pub depth_at : (ts : List Term) (i : ℕ) (t : Term) → i < length ts → t ≡ get_or ts i t → depth (json t) ≤ items_depth (items_of (map json ts))
depth_at [] i t within is = absurd (omega arith)
depth_at (x ∷ ts) zero t within is = let same : depth (json t) ≡ depth (json x) = ap (λ u. depth (json u)) is in omega arith
depth_at (x ∷ ts) (suc i) t within is = let rest = depth_at ts i t (omega arith) is in omega arith

-- the member at i of a slice of members
pub member_depth_at : (ms : List Member) (i : ℕ) (m : Member) → i < length ms → m ≡ get_or ms i m → depth (json m.value) ≤ members_depth (members_of (map pair_of ms))
member_depth_at [] i m within is = absurd (omega arith)
member_depth_at (x ∷ ms) zero m within is = let same : depth (json m.value) ≡ depth (json x.value) = ap (λ n. depth (json n.value)) is in omega arith
member_depth_at (x ∷ ms) (suc i) m within is = let rest = member_depth_at ms i m (omega arith) is in omega arith
