use Rattle.std.proofs.Common.{◌≡◌, ◌∙◌, List, map, sym, ap, refl, [], ◌∷◌}
use Rattle.std.proofs.lemmas.Iterator.Adapters.{YieldsList-from_vec}
use Rattle.std.proofs.lemmas.Iterator.Consumers.{YieldsList-end}
use Rattle.json_terms.specs.declared.rows.Emission.{Emission}
use Rattle.json_terms.specs.Json.{array, items_of}
use Rattle.json_terms.specs.Emitted.{key_value}
use Rattle.view_ports.specs.Functions.{pair_term}
use Rattle.map_server.proofs.map_function.pairs.Goals as goal

maps_same : (emissions : List Emission) → map (λ emission. pair_term (key_value emission)) emissions ≡ map pair_term (map key_value emissions)
maps_same [] = refl
maps_same (emission ∷ emissions) = ap (λ rows. pair_term (key_value emission) ∷ rows) (maps_same emissions)

itself : (emissions : List Emission) → map (λ emission. emission) emissions ≡ emissions
itself [] = refl
itself (emission ∷ emissions) = ap (λ es. emission ∷ es) (itself emissions)

pub returns : goal.returns
returns c =
    let given = c.into_iter-emission-iterator.ensures.into_iter_gives in
    let end = YieldsList-end (YieldsList-from_vec {s = c.into_iter-emission-iterator.result} c.args.emissions.items given.0 (given.1 ∙ c.args.emissions.ok.0)) c.loop-emission.yielded c.loop-emission.emission-iterator c.loop-emission.yielded_by c.next.result c.next.new.self c.in-None.is c.next.ensures.steps in
    let all : c.loop-emission.yielded ≡ c.args.emissions.items = sym (itself c.loop-emission.yielded) ∙ end.0 in
    ap (λ rows. array (items_of rows)) (c.loop-emission.invariant ∙ ap (map (λ emission. pair_term (key_value emission))) all ∙ maps_same c.args.emissions.items)
