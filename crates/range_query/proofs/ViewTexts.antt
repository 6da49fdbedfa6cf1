-- The texts of the values of groups by the reduce of a view are those that answers have.
use Rattle.std.specs.Prelude.{◌≡◌, ◌≢◌, ℕ, List, map, Some}
use Rattle.std.proofs.Common.{refl, ap, ◌∙◌}
use Rattle.json_terms.specs.Json.{Json}
use Rattle.json_terms.specs.declared.term.Row.{Row}
use Rattle.design_docs.specs.declared.design.Reduce.{Reduce}
use Rattle.design_docs.specs.declared.design.Reduce.TheVariants as reduce
use Rattle.view_ports.specs.Calls.{Call}
use Rattle.view_ports.specs.Functions.{Functions}
use Rattle.view_ports.specs.ReduceRow.{reduce_row}
use Rattle.view_ports.specs.declared.servers.Servers.{Ghosts as Servers}
use Rattle.child_pool.specs.declared.reduce_slot.ReduceSlot.{ReduceSlot}
use Rattle.child_pool.specs.declared.view_sum.ViewSum.{ViewSum}
use Rattle.child_pool.specs.declared.view_sum.ViewSum.TheVariants as value
use Rattle.child_pool.specs.Languages.{path_in}
use Rattle.child_pool.specs.Pools.{languages_of}
use Rattle.child_pool.specs.ReduceTalk.{Stands}
use Rattle.child_pool.specs.Summers.{IsHonestTalk, IsLawfulFor, functions_for, or_no_path, view_meaning, view_value}
use Rattle.child_pool.specs.ViewSums.{FitsView, view_sum_text}
use Rattle.view_model.specs.Values.{IsValueText}
use Rattle.range_query.specs.Summed.{IsSummedText}

-- a child's value is one term
one_term : (a b : Json) → value.Child a ≡ value.Child b → a ≡ b
one_term a b same = cc

module _ {C : Type 0} (s : Servers C) (language : List ℕ) (slot : ReduceSlot C) (path : List ℕ) (calls : List Call) (known : path_in (languages_of slot.pool.now) language ≡ Some path) (stands : Stands s language slot path calls)
    (group : List Row) (text : List ℕ) where
  abbrev functions : Functions
  functions = functions_for s language slot

  -- the functions are those of the path
  own_functions : functions ≡ s.functions path
  own_functions = ap (λ p. s.functions (or_no_path p)) known

  abbrev IsSummed : Reduce → Type 0
  IsSummed own = IsSummedText view_sum_text (FitsView own) (IsLawfulFor s own language slot) (view_meaning functions own) group text

  talk : s.honest path → IsHonestTalk s language slot
  talk is_honest = record { path = path; known = known; honest = is_honest; calls = calls; stands = stands }

  of_source : (source : List ℕ) (sum : ViewSum) → FitsView (reduce.Source source) sum → text ≡ view_sum_text sum → (IsHonestTalk s language slot → sum ≡ view_value functions (reduce.Source source) group)
      → IsValueText (s.functions path) (s.honest path) (reduce.Source source) group text
  of_source source (value.Child term) fits shown right =
      (term, shown, fits, λ is_honest. one_term term (functions.reduce_of source (map reduce_row group)) (right (talk is_honest)) ∙ ap (λ own. own.reduce_of source (map reduce_row group)) own_functions)
  of_source source (value.Builtin sum) fits shown right = absurd fits
  of_source source value.Nothing fits shown right = absurd fits

  -- where the view has a reduce
  pub view_text : (own : Reduce) → own ≢ reduce.Absent → IsSummed own → IsValueText (s.functions path) (s.honest path) own group text
  view_text reduce.Absent some is = absurd (some refl)
  view_text (reduce.Builtin kind) some is = is.shown ∙ ap view_sum_text (is.is tt)
  view_text (reduce.Source source) some is = of_source source is.sum is.fits is.shown is.is
