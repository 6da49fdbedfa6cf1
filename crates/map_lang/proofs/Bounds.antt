-- Whatever happens, a run stays within its bounds.
use Rattle.std.specs.Prelude.{◌≡◌, ◌+◌, ◌≤◌, List, [], ◌∷◌, ◌++◌, Bool, true, false, cond, ◌&&◌, sum_by, refl}
use Rattle.std.proofs.Common.{◌∙◌, ap, arith, leb, lit≤}
use Rattle.std.specs.List.{AllByRecursion}
use Rattle.std.proofs.lemmas.Bool.{leb-true}
use Rattle.std.proofs.lemmas.List.Sums.{sum_by_push}
use Rattle.json_terms.specs.Json.{Json, depth}
use Rattle.map_lang.specs.Meaning.{Event, turn, emission, Run, goes_on, step, after, start, all_events, document_scope, text_length, depth_limit, byte_limit, turn_limit}
use Rattle.map_lang.specs.Laws.{row_bytes, StaysWithinBounds}
use Rattle.map_lang.proofs.Lexed.{and_parts}

abbrev IsShallow : Json × Json → Type 0
IsShallow row = (depth row.0 ≤ depth_limit) × (depth row.1 ≤ depth_limit)

record IsBounded (run : Run) : Type 0 where
  shallow : AllByRecursion IsShallow run.rows
  counted : sum_by row_bytes run.rows ≡ run.bytes
  small : run.bytes ≤ byte_limit

all_push : (rows : List (Json × Json)) (row : Json × Json) → AllByRecursion IsShallow rows → IsShallow row → AllByRecursion IsShallow (rows ++ row ∷ [])
all_push [] row h r = (r, tt)
all_push (x ∷ xs) row h r = (h.0, all_push xs row h.1 r)

ended_bounded : (run : Run) → IsBounded run → IsBounded (record run { ended = true })
ended_bounded run h = record { shallow = h.shallow; counted = h.counted; small = h.small }

turn_bounded : (run : Run) (b : Bool) → IsBounded run → IsBounded (cond b (record run { turns = run.turns + 1 }) (record run { ended = true }))
turn_bounded run true h = record { shallow = h.shallow; counted = h.counted; small = h.small }
turn_bounded run false h = ended_bounded run h

emission_bounded : (run : Run) (k v : Json) (b : Bool) → (leb (depth k) depth_limit && leb (depth v) depth_limit) && leb (run.bytes + text_length k v) byte_limit ≡ b → IsBounded run
    → IsBounded (cond b (record run { rows = run.rows ++ (k, v) ∷ []; bytes = run.bytes + text_length k v }) (record run { ended = true }))
emission_bounded run k v true e h =
    let parts = and_parts (leb (depth k) depth_limit && leb (depth v) depth_limit) (leb (run.bytes + text_length k v) byte_limit) e in
    let deep = and_parts (leb (depth k) depth_limit) (leb (depth v) depth_limit) parts.0 in
    record {
      shallow = all_push run.rows (k, v) h.shallow (leb-true (depth k) depth_limit deep.0, leb-true (depth v) depth_limit deep.1);
      counted = sum_by_push row_bytes run.rows (k, v) ∙ ap (λ n. n + text_length k v) h.counted;
      small = leb-true (run.bytes + text_length k v) byte_limit parts.1;
    }
emission_bounded run k v false e h = ended_bounded run h

goes_on_bounded : (run : Run) (event : Event) → IsBounded run → IsBounded (goes_on run event)
goes_on_bounded run turn h = turn_bounded run (leb (run.turns + 1) turn_limit) h
goes_on_bounded run (emission k v) h = emission_bounded run k v ((leb (depth k) depth_limit && leb (depth v) depth_limit) && leb (run.bytes + text_length k v) byte_limit) refl h

step_bounded : (run : Run) (event : Event) (b : Bool) → IsBounded run → IsBounded (cond b run (goes_on run event))
step_bounded run event true h = h
step_bounded run event false h = goes_on_bounded run event h

after_bounded : (run : Run) (events : List Event) → IsBounded run → IsBounded (after run events)
after_bounded run [] h = h
after_bounded run (e ∷ events) h = after_bounded (step run e) events (step_bounded run e run.ended h)

pub stays_within_bounds : StaysWithinBounds
stays_within_bounds program document =
    let run = after start (all_events program (document_scope document)) in
    let bounded = after_bounded start (all_events program (document_scope document)) (record { shallow = tt; counted = refl; small = lit≤ tt }) in
    (bounded.shallow, omega (arith, bounded.counted, bounded.small))
