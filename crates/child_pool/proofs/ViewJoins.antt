-- The reduces of a design's views: what they ask for, and what they join.
use Rattle.std.proofs.Common.{◌≡◌, ◌≢◌, ℕ, List, [], ◌∷◌, map, refl, sym, ap, ◌∙◌, subst, inl, arith}
use Rattle.std.specs.List.{All}
use Rattle.std.proofs.lemmas.List.{get_or-map, length-map}
use Rattle.json_terms.specs.Json.{Json}
use Rattle.design_docs.specs.declared.design.Builtin.{Builtin as Kind}
use Rattle.design_docs.specs.declared.design.Reduce.{Reduce}
use Rattle.design_docs.specs.declared.design.Reduce.TheVariants as reduce
use Rattle.view_ports.specs.declared.servers.Servers.{Ghosts as Servers}
use Rattle.tree_laws.specs.Meaning.{IsJoinValue}
use Rattle.builtin_reduces.specs.declared.sum.BuiltinSum.{BuiltinSum}
use Rattle.builtin_reduces.specs.BuiltinMeaning.{builtin_meaning}
use Rattle.builtin_reduces.specs.Kept.{IsKept}
use Rattle.child_pool.specs.declared.pool_fault.PoolFault.{PoolFault}
use Rattle.child_pool.specs.declared.pool_fault.PoolFault.TheVariants.{NoMemory}
use Rattle.child_pool.specs.declared.reduce_slot.ReduceSlot.{ReduceSlot}
use Rattle.child_pool.specs.declared.reduce_slot.Stage.TheVariants.{GivenUp}
use Rattle.child_pool.specs.declared.summers.Summers.{Summers}
use Rattle.child_pool.specs.declared.view_sum.ViewSum.{ViewSum}
use Rattle.child_pool.specs.declared.view_sum.ViewSum.TheVariants as value
use Rattle.child_pool.specs.Jobs.{IsAmong}
use Rattle.child_pool.specs.ReduceTalk.{Blames, Fails, Goes, Rejoins, Talks, reduce_source}
use Rattle.child_pool.specs.Summers.{IsLawfulFor, SummersFail, SummersGo, functions_for, reduce_of, view_meaning}
use Rattle.child_pool.specs.TalkLaws.{fails_none}
use Rattle.builtin_reduces.proofs.Joinable.{joined_value}
use Rattle.builtin_reduces.specs.SumFits.{FitsUnder}
use Rattle.view_ports.specs.Functions.{IsWithinBounds}
use Rattle.view_ports.specs.ReduceRow.{reduce_row}
use Rattle.child_pool.specs.ViewSums.{FitsView, JoinsBuiltins}
use Rattle.child_pool.proofs.Joining.{join_value}

-- values of one kind are told apart as what they are of
child_apart : (xs ys : List Json) → map value.Child xs ≡ map value.Child ys → xs ≡ ys
child_apart [] [] same = refl
child_apart [] (y ∷ ys) same = absurd (cc)
child_apart (x ∷ xs) [] same = absurd (cc)
child_apart (x ∷ xs) (y ∷ ys) same =
    let first : x ≡ y = cc in
    let others : map value.Child xs ≡ map value.Child ys = cc in
    let rest = child_apart xs ys others in
    λ i. first i ∷ rest i

builtin_apart : (xs ys : List BuiltinSum) → map value.Builtin xs ≡ map value.Builtin ys → xs ≡ ys
builtin_apart [] [] same = refl
builtin_apart [] (y ∷ ys) same = absurd (cc)
builtin_apart (x ∷ xs) [] same = absurd (cc)
builtin_apart (x ∷ xs) (y ∷ ys) same =
    let first : x ≡ y = cc in
    let others : map value.Builtin xs ≡ map value.Builtin ys = cc in
    let rest = builtin_apart xs ys others in
    λ i. first i ∷ rest i

map_map : {A B D : Type 0} (f : A → B) (g : B → D) (xs : List A) → map (λ x. g (f x)) xs ≡ map g (map f xs)
map_map f g [] = refl
map_map f g (x ∷ xs) = ap (λ ys. g (f x) ∷ ys) (map_map f g xs)

-- ---- which values fit

pub source_fits : (found : Reduce) (source : List ℕ) (term : Json) → found ≡ reduce.Source source → IsWithinBounds term → FitsView found (value.Child term)
source_fits found source term is bounded = subst (λ (r : Reduce). FitsView r (value.Child term)) (sym is) bounded

pub builtin_fits : (found : Reduce) (kind : Kind) (sum : BuiltinSum) → found ≡ reduce.Builtin kind → FitsUnder kind sum → FitsView found (value.Builtin sum)
builtin_fits found kind sum is fits = subst (λ (r : Reduce). FitsView r (value.Builtin sum)) (sym is) fits

-- parts that fit have values that fit the kind
pub parts_fit : (kind : Kind) (sums : List BuiltinSum) (parts : List ViewSum) → map value.Builtin sums ≡ parts → All (FitsView (reduce.Builtin kind)) parts → All (FitsUnder kind) sums
parts_fit kind sums parts are all k d within =
    let each = subst (All (FitsView (reduce.Builtin kind))) (sym are) all in
    subst (FitsView (reduce.Builtin kind)) (get_or-map value.Builtin sums k d (value.Builtin d) within) (each k (value.Builtin d) (omega (arith, within, length-map sums value.Builtin)))

pub joined_fits : (found : Reduce) (kind : Kind) (parts : List ViewSum) (sum : BuiltinSum) → found ≡ reduce.Builtin kind → (All (FitsView (reduce.Builtin kind)) parts → FitsUnder kind sum) → All (FitsView found) parts → FitsView found (value.Builtin sum)
joined_fits found kind parts sum is fits all = builtin_fits found kind sum is (fits (subst (λ (r : Reduce). All (FitsView r) parts) is all))

-- where a query server runs the reduce, it has a source
pub has_source : (found : Reduce) (source : List ℕ) → found ≡ reduce.Source source → reduce_source found ≢ []
has_source found source is none = let some : reduce_source found ≡ source ∷ [] = ap reduce_source is in absurd (cc)

-- the source of a reduce is asked for by it
is_own : (found : Reduce) (source asked : List ℕ) → found ≡ reduce.Source source → asked ≡ source → IsAmong (reduce_source found) asked
is_own found source asked is same = subst (λ (r : Reduce). IsAmong (reduce_source r) asked) (sym is) (inl same)

module _ {C : Type 0} (s : Servers C) where
  -- the source of the view is asked for
  pub source_goes : (a b : Summers C) (source language own : List ℕ) → reduce_of s a ≡ reduce.Source source → b.design ≡ a.design → b.view ≡ a.view → language ≡ a.design.now.language → own ≡ source → Talks s language own a.slot b.slot → SummersGo s a b
  source_goes a b source language own is design view of_design of_view talks = record {
    design = design;
    view = view;
    slot = subst (λ (l : List ℕ). Goes s l (reduce_source (reduce_of s a)) a.slot b.slot) of_design
        (talks (reduce_source (reduce_of s a)) (is_own (reduce_of s a) source own is of_view));
    idle = λ none. absurd (has_source (reduce_of s a) source is none);
  }

  pub source_fails : (a b : Summers C) (source language own : List ℕ) (fault : PoolFault) → reduce_of s a ≡ reduce.Source source → b.design ≡ a.design → b.view ≡ a.view → language ≡ a.design.now.language → own ≡ source → Blames s language own a.slot b.slot fault
      → b.slot.stage ≡ GivenUp → SummersFail s a b fault
  source_fails a b source language own fault is design view of_design of_view blames given_up = record {
    design = design;
    view = view;
    slot = subst (λ (l : List ℕ). Fails s l (reduce_source (reduce_of s a)) a.slot b.slot fault) of_design
        (blames (reduce_source (reduce_of s a)) (is_own (reduce_of s a) source own is of_view));
    given_up = λ some. given_up;
    idle = λ none. absurd (has_source (reduce_of s a) source is none);
  }

  -- want of memory, where no query server runs the reduce
  pub no_memory : (a : Summers C) → reduce_source (reduce_of s a) ≡ [] → SummersFail s a a NoMemory
  no_memory a none = record { design = refl; view = refl; slot = fails_none s a.design.now.language (reduce_source (reduce_of s a)) a.slot; given_up = λ some. absurd (some none); idle = λ none. (refl, refl) }

  module _ (language : List ℕ) (slot : ReduceSlot C) where
    abbrev Joins : Reduce → List ViewSum → ViewSum → Type 0
    Joins reduce parts sum = IsJoinValue IsKept (IsLawfulFor s reduce language slot) (view_meaning (functions_for s language slot) reduce) parts sum

    pub join_source : (found : Reduce) (source : List ℕ) (parts : List ViewSum) (sums : List Json) (sum : Json) → found ≡ reduce.Source source → map value.Child sums ≡ parts → Rejoins s language source slot sums sum → Joins found parts (value.Child sum)
    join_source found source parts sums sum is are rejoins = subst (λ (r : Reduce). Joins r parts (value.Child sum)) (sym is)
        (λ lawful groups some whole fits few each.
        let own = join_value s language source slot sums sum rejoins in
        let f = functions_for s language slot in
        let same : sums ≡ map (λ rows. f.reduce_of source (map reduce_row rows)) groups = child_apart sums (map (λ rows. f.reduce_of source (map reduce_row rows)) groups) (are ∙ each ∙ map_map (λ rows. f.reduce_of source (map reduce_row rows)) value.Child groups) in
        ap value.Child (own lawful groups some whole fits few same))

    pub join_builtin : (found : Reduce) (kind : Kind) (parts : List ViewSum) (sum : BuiltinSum) → found ≡ reduce.Builtin kind → JoinsBuiltins kind parts sum → Joins found parts (value.Builtin sum)
    join_builtin found kind parts sum is joins = subst (λ (r : Reduce). Joins r parts (value.Builtin sum)) (sym is)
        (λ lawful groups some whole fits few each.
        let m = builtin_meaning kind in
        let same : joins.sums ≡ map m.value groups = builtin_apart joins.sums (map m.value groups) (joins.are ∙ each ∙ map_map m.value value.Builtin groups) in
        ap value.Builtin (joined_value kind joins.sums sum joins.joined tt groups some whole fits few same))
