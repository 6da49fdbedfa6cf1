-- The laws of records in the bytes of files.
use Rattle.std.proofs.Common.{◌≡◌, ℕ, ◌+◌, ◌<◌, ◌≤◌, inl, inr, List, [], ◌∷◌, ◌++◌, length, take, drop, Some, None, refl, sym, ap, ◌∙◌, subst, arith, length-take, length-drop, length-append}
use Rattle.std.specs.Prelude.{true, false, nat_lt}
use Rattle.std.specs.Int.{from_le_bytes, w64}
use Rattle.std.proofs.Math.Seq.{drop-append_seam}
use Rattle.std.proofs.lemmas.Bool.Decides.{nat_tests}
use Rattle.std.proofs.lemmas.Bool.{cases_lt}
use Rattle.std.proofs.lemmas.List.{drop-drop, take_all}
use Rattle.std.proofs.lemmas.Nat.{from_le_bytes-to_le_bytes_8}
use Rattle.view_ports.specs.File.{File}
use Rattle.gate_file.specs.declared.gate.GateFile.{GateFile}
use Rattle.gate_file.specs.GateFile.{Keeps, start_of, IsAppended}
use Rattle.gate_file.specs.Header.{data_start}
use Rattle.gate_file.specs.Shown.{HasAll, IsFront}
use Rattle.gate_file.proofs.FileFacts.{part_carried}
use Rattle.gate_file.proofs.Opened.{has_all_same}
use Rattle.gate_file.proofs.Published.{front_has, front_long, has_all_more}
use Rattle.tree_laws.specs.Nodes.{IsSized, number_bytes, sized}
use Rattle.tree_laws.specs.Stores.{Extends}
use Rattle.tree_laws.proofs.Prefixes.{number_long}
use Rattle.node_file.specs.Puts.{HasPut}
use Rattle.node_file.specs.Records.{node_at, size_in}

-- a whole record stands there, and these are its bytes
pub record IsWhole (bytes : List ℕ) (at : ℕ) (node : List ℕ) : Type 0 where
  pub behind : data_start ≤ at
  pub within : at + (8 + size_in (drop at bytes)) ≤ length bytes
  pub is : take (size_in (drop at bytes)) (drop 8 (drop at bytes)) ≡ node

-- ---- which bytes stand at a place

pub none_in_slots : (bytes : List ℕ) (at : ℕ) → at < data_start → node_at bytes at ≡ None
unfolding node_at
none_in_slots bytes at before = let e : nat_lt at data_start ≡ true = grind (arith, nat_tests) in rw e

pub none_past : (bytes : List ℕ) (at : ℕ) → length bytes < at + (8 + size_in (drop at bytes)) → node_at bytes at ≡ None
unfolding node_at
none_past bytes at past = elim (cases_lt at data_start) [
  | inl before ↦ none_in_slots bytes at before
  | inr behind ↦
      let e : nat_lt at data_start ≡ false = grind (arith, nat_tests) in
      let short : nat_lt (length (drop at bytes)) (8 + size_in (drop at bytes)) ≡ true = (let long = length-drop at bytes in grind (arith, nat_tests)) in
      rw (e, short)
]

pub whole_there : (bytes : List ℕ) (at : ℕ) (node : List ℕ) → IsWhole bytes at node → node_at bytes at ≡ Some node
unfolding node_at
whole_there bytes at node whole =
    let behind = whole.behind in
    let within = whole.within in
    let e : nat_lt at data_start ≡ false = grind (arith, nat_tests) in
    let long : nat_lt (length (drop at bytes)) (8 + size_in (drop at bytes)) ≡ false = (let long = length-drop at bytes in grind (arith, nat_tests)) in
    rw (e, long) (ap Some whole.is)

-- and the other way round
pub there_whole : (bytes : List ℕ) (at : ℕ) (node : List ℕ) → node_at bytes at ≡ Some node → IsWhole bytes at node
there_whole bytes at node stands = elim (cases_lt at data_start) [
  | inl before ↦ let none = none_in_slots bytes at before in absurd cc
  | inr behind ↦ elim (cases_lt (length bytes) (at + (8 + size_in (drop at bytes)))) [
    | inl past ↦ let none = none_past bytes at past in absurd cc
    | inr within ↦
        let own = whole_there bytes at (take (size_in (drop at bytes)) (drop 8 (drop at bytes))) (record { behind = behind; within = within; is = refl }) in
        record { behind = behind; within = within; is = cc }
  ]
]

-- ---- what keeps them

drop_behind : (bytes : List ℕ) (at : ℕ) → drop 8 (drop at bytes) ≡ drop (at + 8) bytes
drop_behind bytes at = drop-drop 8 at bytes

-- a file that has all of the bytes behind the slots has each record
pub carried : (bytes image : List ℕ) → HasAll bytes image → Extends (node_at bytes) (node_at image)
carried bytes image has at node stands =
    let whole = there_whole bytes at node stands in
    let behind = whole.behind in
    let within = whole.within in
    let size : ℕ = size_in (drop at bytes) in
    let head : take 8 (drop at bytes) ≡ take 8 (drop at image) = (part_carried bytes image has at 8 (take 8 (drop at bytes)) behind (record { long = omega (arith, length-take 8 (drop at bytes), length-drop at bytes); same = refl })).same in
    let same_size : size ≡ size_in (drop at image) = ap (from_le_bytes w64) head in
    let body : take size (drop (at + 8) bytes) ≡ take size (drop (at + 8) image) =
    (part_carried bytes image has (at + 8) size (take size (drop (at + 8) bytes)) (omega arith)
    (record { long = omega (arith, length-take size (drop (at + 8) bytes), length-drop (at + 8) bytes); same = refl })).same in
    whole_there image at node (record {
      behind = behind;
      within = omega (arith, has.long, same_size);
      is = ap (λ n. take n (drop 8 (drop at image))) (sym same_size) ∙ ap (take size) (drop_behind image at) ∙ sym body ∙ sym (ap (take size) (drop_behind bytes at)) ∙ whole.is;
    })

pub has_itself : (bytes : List ℕ) → HasAll bytes bytes
has_itself bytes = has_all_same bytes bytes refl

pub kept_longer : (bytes more : List ℕ) → Extends (node_at bytes) (node_at (bytes ++ more))
kept_longer bytes more = carried bytes (bytes ++ more) (has_all_more bytes bytes more (has_itself bytes))

-- ---- what was put

size_sized : (piece : List ℕ) → IsSized piece → size_in (sized piece) ≡ length piece
unfolding number_bytes
size_sized piece small = from_le_bytes-to_le_bytes_8 (length piece) small

behind_sized : (piece : List ℕ) → drop 8 (sized piece) ≡ piece
unfolding number_bytes
behind_sized piece = refl

pub sized_long : (piece : List ℕ) → length (sized piece) ≡ length piece + 8
sized_long piece = omega (arith, length-append (number_bytes (length piece)) piece, number_long (length piece))

pub put_there : (front piece : List ℕ) → data_start ≤ length front → IsSized piece → node_at (front ++ sized piece) (length front) ≡ Some piece
put_there front piece behind small =
    let at = length front in
    let rest : drop at (front ++ sized piece) ≡ sized piece = drop-append_seam front (sized piece) in
    let size : size_in (drop at (front ++ sized piece)) ≡ length piece = ap size_in rest ∙ size_sized piece small in
    whole_there (front ++ sized piece) at piece (record {
      behind = behind;
      within = omega (arith, size, length-append front (sized piece), sized_long piece);
      is = ap (λ n. take n (drop 8 (drop at (front ++ sized piece)))) size ∙ ap (λ bytes. take (length piece) (drop 8 bytes)) rest ∙ ap (take (length piece)) (behind_sized piece) ∙ take_all (length piece) piece (omega arith);
    })

-- ---- a record that was appended

module _ (gate after : GateFile) (bytes : List ℕ) (old new : File) (appends : IsAppended after bytes old new) where
  -- all that stood behind the slots stands there
  pub appended_stays : HasAll old.seen new.seen
  appended_stays = subst (HasAll old.seen) (sym appends.seen) (has_all_more old.seen appends.front bytes (front_has old.seen appends.front appends.made))

pub appended_put : (gate after : GateFile) (piece : List ℕ) (old new : File) → IsSized piece → Keeps gate old → IsAppended after (sized piece) old new → HasPut gate piece old new
appended_put gate after piece old new small keeps appends =
    let long = front_long gate old keeps appends.front appends.made in
    record {
      placed = subst (λ bytes. node_at bytes (start_of gate) ≡ Some piece) (sym appends.seen)
          (subst (λ at. node_at (appends.front ++ sized piece) at ≡ Some piece) long (put_there appends.front piece (omega (arith, long)) small));
      kept = carried old.seen new.seen (appended_stays gate after (sized piece) old new appends);
    }
