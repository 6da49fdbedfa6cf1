-- The last write of each id.
use Rattle.std.specs.Prelude.{◌≡◌, ℕ, List, [], ◌∷◌, Bool, true, false, Option, Some, bytes_eq, if◌then◌else◌}
use Rattle.std.proofs.Common.{refl, sym, ap, ◌∙◌, subst, inl, inr}
use Rattle.std.proofs.lemmas.Bool.{cases_Bool}
use Rattle.std.specs.declared.cmp.Ordering.{Ordering}
use Rattle.std.specs.declared.cmp.Ordering.TheVariants.{Less, Equal, Greater}
use Rattle.std.specs.Ordering.{is_eq, nat_cmp, match_ordering}
use Rattle.std.specs.Cmp.Lexicographic.{slice_cmp}
use Rattle.std.specs.FinMap.{slice_cmp-IsAntisymmetric, nat_cmp-IsAntisymmetric}
use Rattle.std.specs.Map.{lookup}
use Rattle.std.specs.BTreeMap.{insert_entry}
use Rattle.std.proofs.lemmas.Slice.Eq.{bytes_eq-Decides}
use Rattle.std.proofs.lemmas.Map.Text.{is_eq-slice_cmp}
use Rattle.design_docs.specs.History.{Write, last_write, last_writes}

abbrev bytes_cmp : List ℕ → List ℕ → Ordering
bytes_cmp = slice_cmp nat_cmp

same_bytes : (x y : List ℕ) → bytes_cmp x y ≡ Equal → x ≡ y
same_bytes = slice_cmp-IsAntisymmetric nat_cmp-IsAntisymmetric

-- ---- looking up an id

abbrev is_id : List ℕ → List ℕ → Bool
is_id id key = is_eq (bytes_cmp id key)

-- two keys that are the same or not
ties : (id key other : List ℕ) → bytes_cmp key other ≡ Equal → is_id id key ≡ is_id id other
ties id key other is = ap (is_id id) (same_bytes key other is)

untied : (id key other : List ℕ) → bytes_cmp key other ≡ Greater → is_id id key ≡ true → is_id id other ≡ false
untied id key other is found =
    elim (cases_Bool (is_id id other)) [
      | inl too ↦
          let one : id ≡ key = (bytes_eq-Decides id key).0 (sym (is_eq-slice_cmp id key) ∙ found) in
          let two : id ≡ other = (bytes_eq-Decides id other).0 (sym (is_eq-slice_cmp id other) ∙ too) in
          let equal : bytes_cmp key other ≡ Greater = is in
          let same : bytes_cmp key key ≡ Greater = subst (λ (o : List ℕ). bytes_cmp key o ≡ Greater) (sym two ∙ one) equal in
          let itself : is_eq (bytes_cmp key key) ≡ true = is_eq-slice_cmp key key ∙ (bytes_eq-Decides key key).1 refl in
          absurd (let clash : is_eq Greater ≡ true = subst (λ (o : Ordering). is_eq o ≡ true) same itself in cc)
      | inr other_id ↦ other_id
    ]

swap_tests : {X : Type 0} (a b : Bool) (x y z : X) → (a ≡ true → b ≡ false) → (if b then y else (if a then x else z)) ≡ (if a then x else (if b then y else z))
swap_tests true true x y z apart = absurd (let clash : true ≡ false = apart refl in cc)
swap_tests true false x y z apart = refl
swap_tests false true x y z apart = refl
swap_tests false false x y z apart = refl

drop_test : {X : Type 0} (a : Bool) (x y z : X) → (if a then x else z) ≡ (if a then x else (if a then y else z))
drop_test true x y z = refl
drop_test false x y z = refl

lookup-insert_entry : {V : Type 0} (id key : List ℕ) (write : V) (ws : List (List ℕ × V))
    → lookup (is_id id) (insert_entry bytes_cmp ws key write) ≡ (if is_id id key then Some write else lookup (is_id id) ws)
lookup-insert_entry id key write [] = refl
lookup-insert_entry id key write (w ∷ ws) =
    elim (bytes_cmp key w.0) as (λ o. bytes_cmp key w.0 ≡ o
    → lookup (is_id id) (match_ordering o ((key, write) ∷ w ∷ ws) ((w.0, write) ∷ ws) (w ∷ insert_entry bytes_cmp ws key write))
    ≡ (if is_id id key then Some write else (if is_id id w.0 then Some w.1 else lookup (is_id id) ws))) [
      | Less ↦ λ is. refl
      | Equal ↦ λ is. let same : is_id id key ≡ is_id id w.0 = ties id key w.0 is in rw same (drop_test (is_id id w.0) (Some write) (Some w.1) (lookup (is_id id) ws))
      | Greater ↦ λ is.
          ap (λ r. if is_id id w.0 then Some w.1 else r) (lookup-insert_entry id key write ws)
          ∙ swap_tests (is_id id key) (is_id id w.0) (Some write) (Some w.1) (lookup (is_id id) ws) (untied id key w.0 is)
    ] refl

pub last_write-lookup : (history : List Write) (id : List ℕ) → last_write history id ≡ lookup (is_id id) (last_writes history)
last_write-lookup [] id = refl
last_write-lookup (write ∷ older) id =
    ap (λ (r : Option Write). if bytes_eq id write.id then Some write else r) (last_write-lookup older id)
    ∙ ap (λ (b : Bool). if b then Some write else lookup (is_id id) (last_writes older)) (sym (is_eq-slice_cmp id write.id))
    ∙ sym (lookup-insert_entry id write.id write (last_writes older))
