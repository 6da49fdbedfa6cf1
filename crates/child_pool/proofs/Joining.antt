-- The values of parts are joined.
use Rattle.std.proofs.Common.{◌≡◌, ◌≢◌, ℕ, zero, suc, List, [], ◌∷◌, length, map, get_or, nat_lt, true, false, Option, Some, None, refl, sym, ap, ◌∙◌, subst, inl, inr, arith}
use Rattle.std.specs.List.{All, AllByRecursion, AllZip}
use Rattle.std.proofs.lemmas.Bool.{cases_lt, lt-ltb, ltb-true, le-ltb}
use Rattle.design_docs.specs.declared.design.View.{View}
use Rattle.design_docs.specs.declared.design.Reduce.TheVariants.{Absent}
use Rattle.json_terms.specs.Json.{Json}
use Rattle.json_terms.specs.declared.term.Row.{Row}
use Rattle.view_ports.specs.declared.servers.Servers.{Ghosts as Servers}
use Rattle.view_ports.specs.Functions.{IsSomeList}
use Rattle.view_ports.specs.ReduceRow.{reduce_row}
use Rattle.tree_laws.specs.Meaning.{IsJoinValue, joined}
use Rattle.builtin_reduces.specs.Kept.{IsKept}
use Rattle.child_pool.specs.declared.reduce_slot.ReduceSlot.{ReduceSlot}
use Rattle.child_pool.specs.Languages.{path_in}
use Rattle.child_pool.specs.Pools.{languages_of}
use Rattle.child_pool.specs.ReduceTalk.{IsRightFor, MayBePath, Rejoins, reduce_in}
use Rattle.child_pool.specs.Summers.{IsHonestTalk, child_meaning, functions_for, or_no_path}

some_part : {A : Type 0} (part : List A) → part ≢ [] → IsSomeList part
some_part [] some = some refl
some_part (x ∷ part) some = tt

some_each : {A : Type 0} (parts : List (List A)) → All (λ part. part ≢ []) parts → AllByRecursion IsSomeList parts
some_each [] all = tt
some_each (part ∷ parts) all = (some_part part (all 0 part (omega arith)), some_each parts (λ k d within. all (suc k) d (omega (arith, within))))

zip_map : {A B : Type 0} (R : A → B → Type 0) (f : A → B) (xs : List A) → ((x : A) → R x (f x)) → AllZip R xs (map f xs)
zip_map R f [] each = tt
zip_map R f (x ∷ xs) each = (each x, zip_map R f xs each)

same_path : (found : Option (List ℕ)) (path known : List ℕ) → found ≡ Some known → MayBePath found path → path ≡ known
same_path None path known is may = absurd (cc)
same_path (Some other) path known is may = let same : other ≡ known = cc in may ∙ same

module _ {C : Type 0} (s : Servers C) (language source : List ℕ) (slot : ReduceSlot C) where
  -- the functions of the one path by which the talk may stand
  functions_of : (talk : IsHonestTalk s language slot) → functions_for s language slot ≡ s.functions talk.path
  functions_of talk = ap (λ o. s.functions (or_no_path o)) talk.known

  pub join_value : (sums : List Json) (value : Json) → Rejoins s language source slot sums value → IsJoinValue IsKept (IsHonestTalk s language slot) (child_meaning (functions_for s language slot) source) sums value
  join_value sums value rejoins = λ talk parts some each fits few is.
      let m = child_meaning (functions_for s language slot) source in
      let right : (part : List Row) → IsRightFor s language source slot part (m.value part) = λ part path calls stands honest.
      ap (λ f. f.reduce_of source (map reduce_row part)) (functions_of talk ∙ ap s.functions (sym (same_path (path_in (languages_of slot.pool.now) language) path talk.path talk.known stands.known))) in
      let zip : AllZip (IsRightFor s language source slot) parts sums = subst (AllZip (IsRightFor s language source slot) parts) (sym is) (zip_map (IsRightFor s language source slot) m.value parts right) in
      rejoins parts (some_part parts some) (some_each parts each) zip talk.path talk.calls talk.stands talk.honest ∙ ap (λ f. f.reduce_of source (map reduce_row (joined parts))) (sym (functions_of talk))

-- ---- the reduce of a view

pub reduce_there : (views : List View) (place : ℕ) (view : View) → true ≡ nat_lt place (length views) → view ≡ get_or views place view → view.reduce ≡ reduce_in views place
reduce_there [] place view within is = absurd (let none = ltb-true place 0 (sym within) in omega (arith, none))
reduce_there (first ∷ views) zero view within is = ap (λ v. v.reduce) is
reduce_there (first ∷ views) (suc place) view within is =
    let less = ltb-true (suc place) (suc (length views)) (sym within) in
    reduce_there views place view (sym (lt-ltb place (length views) (omega (arith, less)))) is

pub reduce_past : (views : List View) (place : ℕ) → false ≡ nat_lt place (length views) → Absent ≡ reduce_in views place
reduce_past [] place past = refl
reduce_past (first ∷ views) zero past = absurd (let here = lt-ltb 0 (suc (length views)) (omega arith) in cc)
reduce_past (first ∷ views) (suc place) past = reduce_past views place (elim (cases_lt place (length views)) [
  | inl less ↦ absurd (let here = lt-ltb (suc place) (suc (length views)) (omega (arith, less)) in cc)
  | inr more ↦ sym (le-ltb place (length views) more)
])
