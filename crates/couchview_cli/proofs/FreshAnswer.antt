-- The answer afresh to the view of a load, from the last writes of a history.
use Rattle.std.proofs.Common.{◌≡◌, ◌∙◌, ℕ, List, length, ap}
use Rattle.json_terms.specs.declared.term.Row.{Row}
use Rattle.design_docs.specs.declared.design.Builtin.TheVariants.{Stats}
use Rattle.design_docs.specs.History.{Write, changes_after}
use Rattle.query_args.specs.declared.query.Query.{Query}
use Rattle.view_model.specs.Answer.{answer}
use Rattle.view_model.specs.Values.{builtin_text}
use Rattle.fresh_view.specs.Fresh.{fresh_rows}
use Rattle.fresh_view.proofs.TheViews.{fresh_rows-views}
use Rattle.load_lines.specs.Documents.{load_map}
use Rattle.couchview_cli.specs.Loading.{fresh_answer, load_query}

pub fresh_same : (query : Query) (source : List ℕ) (seq : ℕ) (changes : List (ℕ × Write)) (history : List Write) → query ≡ load_query → source ≡ load_map → seq ≡ length history → changes ≡ changes_after 0 history
    → answer (builtin_text Stats) query seq (fresh_rows source changes) ≡ fresh_answer history
fresh_same query source seq changes history is_query is_source is_seq are =
    ap (λ (q : Query). answer (builtin_text Stats) q seq (fresh_rows source changes)) is_query
    ∙ ap (λ (s : List ℕ). answer (builtin_text Stats) load_query seq (fresh_rows s changes)) is_source
    ∙ ap (λ (n : ℕ). answer (builtin_text Stats) load_query n (fresh_rows load_map changes)) is_seq
    ∙ ap (λ (cs : List (ℕ × Write)). answer (builtin_text Stats) load_query (length history) (fresh_rows load_map cs)) are
    ∙ ap (λ (rows : List Row). answer (builtin_text Stats) load_query (length history) rows) (fresh_rows-views load_map history)
