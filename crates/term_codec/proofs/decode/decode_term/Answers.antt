-- What is read at a place stands there, and only that.
use Rattle.std.proofs.Common.{◌-◌, ℕ, List, length, drop, option_map, refl, sym, ap, ◌∙◌}
use Rattle.json_terms.specs.Json.{Json}
use Rattle.json_terms.specs.Seen.{json}
use Rattle.term_codec.specs.Reading.{reading}
use Rattle.term_codec.proofs.Words.{some-pair}
use Rattle.term_codec.proofs.Places.{IsSpelledAt-read, reading-IsSpelledAt, end-IsSpelledAt, rest-read}
use Rattle.term_codec.proofs.decode.decode_term.Goals as goal

pub overflow_sub-result : goal.overflow_sub-result
overflow_sub-result c =
    let found = ap (reading 100) (sym c.split_at.ensures.back) ∙ sym (sym (ap (option_map {U = Json × List ℕ} (λ r. (json r.0, r.1.now))) c.in-Some.is) ∙ c.in_ok-term.ensures) in
    rest-read c.args.bytes.now c.args.at (json c.in-Some.term) c.in-Some.rest.now found

pub returns-in-Some-clause-ok : goal.returns-in-Some-clause-ok
returns-in-Some-clause-ok c =
    let bytes = c.args.bytes.now in
    let rest = c.in-Some.rest.now in
    let found = ap (reading 100) (sym c.split_at.ensures.back) ∙ sym (sym (ap (option_map {U = Json × List ℕ} (λ r. (json r.0, r.1.now))) c.in-Some.is) ∙ c.in_ok-term.ensures) in
    IsSpelledAt-read bytes c.args.at (length bytes - length rest) (json c.in-Some.term) rest c.requires found refl

pub returns-in-Some-clause-only : goal.returns-in-Some-clause-only
returns-in-Some-clause-only c = λ t end stands.
    let bytes = c.args.bytes.now in
    let rest = c.in-Some.rest.now in
    let found = ap (reading 100) (sym c.split_at.ensures.back) ∙ sym (sym (ap (option_map {U = Json × List ℕ} (λ r. (json r.0, r.1.now))) c.in-Some.is) ∙ c.in_ok-term.ensures) in
    let same = some-pair (t, drop (end - c.args.at) (drop c.args.at bytes)) (json c.in-Some.term, rest) (sym (reading-IsSpelledAt bytes c.args.at end t stands) ∙ found) in
    (same.0, end-IsSpelledAt bytes c.args.at end t rest c.requires stands same.1)

pub returns-in-None-clause-none : goal.returns-in-None-clause-none
returns-in-None-clause-none c = λ _ t end stands.
    let bytes = c.args.bytes.now in
    let none = ap (reading 100) (sym c.split_at.ensures.back) ∙ sym (sym (ap (option_map {U = Json × List ℕ} (λ r. (json r.0, r.1.now))) c.in-None.is) ∙ c.in_ok-term.ensures) in
    let some = reading-IsSpelledAt bytes c.args.at end t stands in
    let both = sym some ∙ none in
    absurd cc
