-- The place of a view in its design.
use Rattle.std.proofs.Common.{◌≡◌, ◌<◌, ◌∙◌, ℕ, zero, suc, List, [], ◌∷◌, length, map, drop, true, false, Some, get_or, bytes_eq, refl, sym, ap, arith}
use Rattle.std.specs.Prelude.{slice_index_or}
use Rattle.std.specs.Map.{lookup}
use Rattle.design_docs.specs.declared.design.View.{View}
use Rattle.design_docs.specs.Laws.{entry_of}
use Rattle.json_terms.specs.declared.term.Row.{Row}
use Rattle.child_pool.specs.ReduceTalk.{reduce_in}
use Rattle.view_engine.specs.View.{rows_in}
use Rattle.view_engine.specs.ViewQuery.{reduce_named}
use Rattle.view_engine.specs.ViewPlan.{source_at}

-- the view in a place is the first of those from there on
pub looked_up : (name : List ℕ) (views : List View) (i : ℕ) (view : View) → i < length views → view ≡ get_or views i view → bytes_eq view.name name ≡ true
    → Some (source_at views i) ≡ lookup (λ key. bytes_eq key name) (map entry_of (drop i views))
looked_up name [] i view within is same = absurd (omega arith)
looked_up name (v ∷ views) zero view within is same =
    let here : bytes_eq v.name name ≡ true = ap (λ (w : View). bytes_eq w.name name) (sym is) ∙ same in
    rw here refl
looked_up name (v ∷ views) (suc i) view within is same = looked_up name views i view (omega arith) is same

-- and so are its rows, whatever they are
pub shown_at : (name : List ℕ) (views : List View) (rows : List (List Row)) (i : ℕ) (view : View) → i < length views → length rows ≡ length views → view ≡ get_or views i view → bytes_eq view.name name ≡ true
    → rows_in (drop i views) (drop i rows) name ≡ Some (slice_index_or rows i [])
shown_at name [] rows i view within long is same = absurd (omega arith)
shown_at name (v ∷ views) [] i view within long is same = absurd (omega (arith, long))
shown_at name (v ∷ views) (own ∷ rows) zero view within long is same =
    let here : bytes_eq v.name name ≡ true = ap (λ (w : View). bytes_eq w.name name) (sym is) ∙ same in
    rw here refl
shown_at name (v ∷ views) (own ∷ rows) (suc i) view within long is same = shown_at name views rows i view (omega arith) (omega (arith, long)) is same

-- a view of another name is passed by
pub passed_over : (name : List ℕ) (views : List View) (i next : ℕ) (view : View) → next ≡ suc i → i < length views → view ≡ get_or views i view → bytes_eq view.name name ≡ false
    → lookup (λ key. bytes_eq key name) (map entry_of (drop next views)) ≡ lookup (λ key. bytes_eq key name) (map entry_of (drop i views))
passed_over name views i next view then within is other = ap (λ n. lookup (λ key. bytes_eq key name) (map entry_of (drop n views))) then ∙ from_here views i within is
  where
    from_here : (views : List View) (i : ℕ) → i < length views → view ≡ get_or views i view → lookup (λ key. bytes_eq key name) (map entry_of (drop (suc i) views)) ≡ lookup (λ key. bytes_eq key name) (map entry_of (drop i views))
    from_here [] i within is = absurd (omega arith)
    from_here (v ∷ views) zero within is =
        let here : bytes_eq v.name name ≡ false = ap (λ (w : View). bytes_eq w.name name) (sym is) ∙ other in
        rw here refl
    from_here (v ∷ views) (suc i) within is = from_here views i (omega arith) is

pub passed_by : (name : List ℕ) (views : List View) (rows : List (List Row)) (i next : ℕ) (view : View) → next ≡ suc i → i < length views → length rows ≡ length views → view ≡ get_or views i view → bytes_eq view.name name ≡ false
    → rows_in (drop next views) (drop next rows) name ≡ rows_in (drop i views) (drop i rows) name
passed_by name views rows i next view then within long is other = ap (λ n. rows_in (drop n views) (drop n rows) name) then ∙ from_here views rows i within long is
  where
    from_here : (views : List View) (rows : List (List Row)) (i : ℕ) → i < length views → length rows ≡ length views → view ≡ get_or views i view → rows_in (drop (suc i) views) (drop (suc i) rows) name ≡ rows_in (drop i views) (drop i rows) name
    from_here [] rows i within long is = absurd (omega arith)
    from_here (v ∷ views) [] i within long is = absurd (omega (arith, long))
    from_here (v ∷ views) (own ∷ rows) zero within long is =
        let here : bytes_eq v.name name ≡ false = ap (λ (w : View). bytes_eq w.name name) (sym is) ∙ other in
        rw here refl
    from_here (v ∷ views) (own ∷ rows) (suc i) within long is = from_here views rows i (omega arith) (omega (arith, long)) is

-- and so is its reduce
pub reduced_at : (name : List ℕ) (views : List View) (i : ℕ) (view : View) → i < length views → view ≡ get_or views i view → bytes_eq view.name name ≡ true
    → reduce_in views i ≡ reduce_named name (drop i views)
reduced_at name [] i view within is same = absurd (omega arith)
reduced_at name (v ∷ views) zero view within is same =
    let here : bytes_eq v.name name ≡ true = ap (λ (w : View). bytes_eq w.name name) (sym is) ∙ same in
    rw here refl
reduced_at name (v ∷ views) (suc i) view within is same = reduced_at name views i view (omega arith) is same

pub passed_on : (name : List ℕ) (views : List View) (i next : ℕ) (view : View) → next ≡ suc i → i < length views → view ≡ get_or views i view → bytes_eq view.name name ≡ false
    → reduce_named name (drop next views) ≡ reduce_named name (drop i views)
passed_on name views i next view then within is other = ap (λ n. reduce_named name (drop n views)) then ∙ from_here views i within is
  where
    from_here : (views : List View) (i : ℕ) → i < length views → view ≡ get_or views i view → reduce_named name (drop (suc i) views) ≡ reduce_named name (drop i views)
    from_here [] i within is = absurd (omega arith)
    from_here (v ∷ views) zero within is =
        let here : bytes_eq v.name name ≡ false = ap (λ (w : View). bytes_eq w.name name) (sym is) ∙ other in
        rw here refl
    from_here (v ∷ views) (suc i) within is = from_here views i (omega arith) is
