-- The end is at the term that was read.
use Rattle.std.proofs.Common.{◌≡◌, ◌∙◌, Some, sym, ap, option_map}
use Rattle.json_terms.specs.Seen.{json}
use Rattle.query_args.specs.Query.{edge_at}
use Rattle.query_args.proofs.Ends.{edge_of_term}
use Rattle.query_args.proofs.read.read_edge.Goals as goal

pub returns : goal.returns
returns c =
    let id = option_map (λ x. x.now) c.args.id in
    let key : option_map (λ t. json t.now) c.args.key ≡ Some (json c.in-Some.key.now) = ap (λ k. option_map (λ t. json t.now) k) c.in-Some.is in
    let same : Some (record { key = c.in_ok-key.key; id = c.in_ok-id.id; inclusive = c.args.inclusive }) ≡ edge_at (Some (json c.in-Some.key.now)) id c.args.inclusive =
    (λ i. Some (record { key = c.in_ok-key.ensures i; id = c.in_ok-id.ensures i; inclusive = c.args.inclusive })) ∙ edge_of_term c.in-Some.key.now id c.args.inclusive in
    same ∙ ap (λ k. edge_at k id c.args.inclusive) (sym key)
