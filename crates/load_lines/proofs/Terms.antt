-- The terms of a load are terms of little depth; their lines are short and read as the terms.
use Rattle.std.proofs.Common.{◌≡◌, ◌+◌, ◌-◌, ◌/◌, ◌%◌, ◌<◌, ◌≤◌, ◌^◌, ℕ, zero, suc, List, ◌++◌, length, replicate, codes, decimal, pos, Ok, IsUtf8, FitsSigned, refl, arith, length-append}
use Rattle.std.specs.Int.{w64}
use Rattle.std.specs.Str.{IsAscii}
use Rattle.std.proofs.lemmas.Str.{IsUtf8-append, IsUtf8-from_ascii}
use Rattle.std.proofs.lemmas.Str.Ascii.{IsAscii-nil, IsAscii-cons}
use Rattle.std.proofs.lemmas.List.{length-replicate}
use Rattle.std.proofs.lemmas.Fmt.{IsAscii-decimal, length-decimal-le}
use Rattle.json_terms.specs.Json.{Json, depth}
use Rattle.json_terms.specs.Terms.{IsTerm, AreMembers}
use Rattle.json_terms.specs.Reading.{reading}
use Rattle.json_terms.proofs.ReadBack.{reading-text_of}
use Rattle.load_lines.specs.Numbers.{draw, value}
use Rattle.load_lines.specs.Documents.{load_map, load_design, amount_and_group, document_id, document, raised}
use Rattle.load_lines.specs.Lines.{put_request, view_request, info_request, put_line, view_line, info_line}
use Rattle.load_lines.proofs.Revisions.{IsUtf8-of, IsUtf8-revision, length-revision}
use Rattle.load_lines.proofs.Rooms.{length-text_of}

-- ---- the numbers

-- the generator's numbers are below 2^31
pub draw_below : (seed k : ℕ) → seed < 2 ^ 31 → draw seed k < 2 ^ 31
unfolding draw
draw_below seed zero below = below
draw_below seed (suc k) below = omega arith

pub value_below : (seed k : ℕ) → seed < 2 ^ 31 → value seed k < 32768
value_below seed k below = let drawn = draw_below seed k below in omega arith

-- ---- the ids

zeros_ascii : (n : ℕ) → IsAscii (replicate n 48)
zeros_ascii zero = IsAscii-nil
zeros_ascii (suc n) = IsAscii-cons 48 (replicate n 48) (omega arith) (zeros_ascii n)

pub IsUtf8-document_id : (k : ℕ) → k < 2 ^ 64 → IsUtf8 (document_id k)
unfolding document_id
IsUtf8-document_id k small =
    let zeros : List ℕ = replicate (6 - length (decimal k)) 48 in
    let digits = IsUtf8-append zeros (decimal k) (IsUtf8-from_ascii zeros (zeros_ascii (6 - length (decimal k)))) (IsUtf8-from_ascii (decimal k) (IsAscii-decimal k small)) in
    IsUtf8-append (codes "doc") (zeros ++ decimal k) (IsUtf8-of (codes "doc") refl) digits

pub length-document_id : (k : ℕ) → k < 2 ^ 64 → length (document_id k) ≤ 23
unfolding document_id
length-document_id k small =
    let zeros : List ℕ = replicate (6 - length (decimal k)) 48 in
    let digits : length (decimal k) ≤ 20 = length-decimal-le 20 k (omega arith) (omega arith) small in
    let front : length zeros ≡ 6 - length (decimal k) = length-replicate (6 - length (decimal k)) 48 in
    omega (arith, length-append zeros (decimal k))

-- ---- the documents

pub IsTerm-load_design : IsTerm load_design
unfolding load_design
IsTerm-load_design = (
  IsUtf8-of (codes "_id") refl,
  refl,
  IsUtf8-of (codes "_design/load") refl,
  (
    IsUtf8-of (codes "language") refl,
    refl,
    IsUtf8-of (codes "pick") refl,
    (
      IsUtf8-of (codes "views") refl,
      tt,
      (
        IsUtf8-of (codes "by_group") refl,
        tt,
        (
          IsUtf8-of (codes "map") refl,
          refl,
          IsUtf8-of load_map refl,
          (IsUtf8-of (codes "reduce") refl, tt, IsUtf8-of (codes "_stats") refl, tt),
        ),
        tt,
      ),
      tt,
    ),
  ),
)

fits : (n : ℕ) → n < 2 ^ 63 → FitsSigned w64 (pos n)
fits n below = record { sfits = below }

IsTerm-amount_and_group : (amount group : ℕ) → amount < 2 ^ 63 → group < 2 ^ 63 → AreMembers (amount_and_group amount group)
IsTerm-amount_and_group amount group low small =
    (IsUtf8-of (codes "amount") refl, refl, fits amount low, (IsUtf8-of (codes "group") refl, tt, fits group small, tt))

pub IsTerm-document : (seed k : ℕ) → seed < 2 ^ 31 → k < 2 ^ 64 → IsTerm (document seed k)
unfolding document
IsTerm-document seed k below small =
    let v = value_below seed k below in
    (IsUtf8-of (codes "_id") refl, refl, IsUtf8-document_id k small, IsTerm-amount_and_group (value seed k / 10) (value seed k % 10) (omega arith) (omega arith))

pub IsTerm-raised : (seed k : ℕ) → seed < 2 ^ 31 → k < 2 ^ 64 → IsTerm (raised seed k)
unfolding raised
IsTerm-raised seed k below small =
    let v = value_below seed k below in
    let rest = IsTerm-amount_and_group (value seed k / 10 + 1) (value seed k % 10) (omega arith) (omega arith) in
    (IsUtf8-of (codes "_id") refl, refl, IsUtf8-document_id k small, (IsUtf8-of (codes "_rev") refl, refl, IsUtf8-revision (k + 1), rest))

-- ---- the requests

pub IsTerm-put_request : (doc : Json) → IsTerm doc → IsTerm (put_request doc)
IsTerm-put_request doc term = (IsUtf8-of (codes "put") refl, tt, term, tt)

pub IsTerm-view_request : IsTerm view_request
unfolding view_request
IsTerm-view_request = (
  IsUtf8-of (codes "query") refl,
  refl,
  (IsUtf8-of (codes "group_level") refl, tt, fits 1 (omega arith), tt),
  (IsUtf8-of (codes "view") refl, tt, (IsUtf8-of (codes "load") refl, (IsUtf8-of (codes "by_group") refl, tt)), tt),
)

pub IsTerm-info_request : IsTerm info_request
unfolding info_request
IsTerm-info_request = (IsUtf8-of (codes "info") refl, tt, tt, tt)

-- ---- how deep they are

pub depth-load_design : depth load_design ≡ 3
unfolding load_design
depth-load_design = refl

pub depth-document : (seed k : ℕ) → depth (document seed k) ≡ 1
unfolding document
depth-document seed k = refl

pub depth-raised : (seed k : ℕ) → depth (raised seed k) ≡ 1
unfolding raised
depth-raised seed k = refl

pub depth-view_request : depth view_request ≡ 2
unfolding view_request
depth-view_request = refl

pub depth-info_request : depth info_request ≡ 1
unfolding info_request
depth-info_request = refl

-- ---- the lines read as the requests

pub reading-put_line : (doc : Json) → IsTerm doc → depth doc ≤ 99 → reading (put_line doc) ≡ Ok (put_request doc)
unfolding put_line
reading-put_line doc term shallow = reading-text_of (put_request doc) (IsTerm-put_request doc term) (omega arith)

pub reading-view_line : reading view_line ≡ Ok view_request
unfolding view_line
reading-view_line = let shallow = depth-view_request in reading-text_of view_request IsTerm-view_request (omega arith)

pub reading-info_line : reading info_line ≡ Ok info_request
unfolding info_line
reading-info_line = let shallow = depth-info_request in reading-text_of info_request IsTerm-info_request (omega arith)

-- ---- the lines are short

pub short-design_line : length (put_line load_design) ≤ 1000
unfolding put_line load_design
short-design_line = let whole = length-text_of (put_request load_design) (IsTerm-put_request load_design IsTerm-load_design) in omega arith

pub short-document_line : (seed k : ℕ) → seed < 2 ^ 31 → k < 2 ^ 64 → length (put_line (document seed k)) ≤ 1000
unfolding put_line document
short-document_line seed k below small =
    let whole = length-text_of (put_request (document seed k)) (IsTerm-put_request (document seed k) (IsTerm-document seed k below small)) in
    omega (arith, length-document_id k small)

pub short-raised_line : (seed k : ℕ) → seed < 2 ^ 31 → k < 2 ^ 64 → length (put_line (raised seed k)) ≤ 1000
unfolding put_line raised
short-raised_line seed k below small =
    let whole = length-text_of (put_request (raised seed k)) (IsTerm-put_request (raised seed k) (IsTerm-raised seed k below small)) in
    omega (arith, length-document_id k small, length-revision (k + 1))

pub short-view_line : length view_line ≤ 1000
unfolding view_line view_request
short-view_line = let whole = length-text_of view_request IsTerm-view_request in omega arith

pub short-info_line : length info_line ≤ 1000
unfolding info_line info_request
short-info_line = let whole = length-text_of info_request IsTerm-info_request in omega arith
