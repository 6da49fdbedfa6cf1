-- The counts of entries, and setting one.
use Rattle.std.proofs.Common.{refl, ◌≡◌, ◌+◌, ◌^◌, ◌<◌, List, [], ◌∷◌, length, true, ◌&&◌, ap, ◌∙◌, arith}
use Rattle.std.specs.List.{list_all}
use Rattle.std.proofs.lemmas.Bool.Decides.{nat_tests}
use Rattle.doc_file.specs.declared.entry.Entry.{Entry}
use Rattle.std.specs.Cmp.{first_so, second_so}
use Rattle.doc_file.specs.Record.{AreEntries, IdsFit}
use Rattle.doc_file.specs.Counts.{has_room}

pub room_of_entries : (entries : List Entry) → AreEntries entries → list_all has_room entries ≡ true
room_of_entries [] are = refl
room_of_entries (entry ∷ entries) are =
    let rest = room_of_entries entries are.2 in
    let short = (are.0).short in
    let here : has_room entry ≡ true = grind (arith, nat_tests) in
    ap (λ b. b && list_all has_room entries) here ∙ rest

-- entries whose ids have room can be written
pub fits_of_room : (entries : List Entry) → list_all has_room entries ≡ true → IdsFit entries
fits_of_room [] room = tt
fits_of_room (entry ∷ entries) room =
    let here : has_room entry ≡ true = first_so (has_room entry) (list_all has_room entries) room in
    let short : length entry.id + 33 < 2 ^ 32 = grind (arith, nat_tests) in
    (short, fits_of_room entries (second_so (has_room entry) (list_all has_room entries) room))

pub room_of : (entry : Entry) → length entry.id + 33 < 2 ^ 32 → has_room entry ≡ true
room_of entry short = grind (arith, nat_tests)
