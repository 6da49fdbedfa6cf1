-- The slots of a pool: calls on one leave the child of every other as it was, and calls on one are calls of the pool.
use Rattle.std.proofs.Common.{◌≡◌, ◌≢◌, ◌<◌, ◌≤◌, ℕ, List, [], ◌∷◌, ◌++◌, false, nat_eq, refl, sym, ap, ◌∙◌, subst, inl, inr, append_assoc}
use Rattle.std.proofs.Math.Nat.{eq-or-lt_of_le}
use Rattle.std.proofs.lemmas.Bool.{ne_eqb}
use Rattle.view_ports.specs.Calls.{Call, child, slot_of, stop}
use Rattle.view_ports.specs.Functions.{Functions}
use Rattle.view_ports.specs.Servers.{Goes}
use Rattle.child_pool.specs.Jobs.{Job, IsLawfulAt, AllLawful, AllLawfulIn}
use Rattle.child_pool.specs.Histories.{Went, WentIn}
use Rattle.child_pool.specs.Sessions.{HasTold, IsThere}

-- ---- one slot beside another

pub child_elsewhere : (call : Call) (slot : ℕ) (calls : List Call) → slot_of call ≢ slot → child slot (call ∷ calls) ≡ child slot calls
child_elsewhere call slot calls other = let not_mine : nat_eq (slot_of call) slot ≡ false = ne_eqb (slot_of call) slot other in rw not_mine refl

-- calls on one slot leave the child of every other as it was
pub children_elsewhere : (job : Job) (slot other : ℕ) (added before : List Call) → slot ≢ other → AllLawful job slot added before → child other (added ++ before) ≡ child other before
children_elsewhere job slot other [] before apart lawful = refl
children_elsewhere job slot other (call ∷ added) before apart lawful =
    child_elsewhere call other (added ++ before) (λ here. apart (sym lawful.0 ∙ here)) ∙ children_elsewhere job slot other added before apart lawful.2

module _ {follow : List Call → Type 0} {job : Job} {slot : ℕ} {before : List Call} {P : List Call → List Call → Type 0} (w : Went follow job slot before P) (other : ℕ) (apart : slot ≢ other) where
  pub stays_elsewhere : child other w.now ≡ child other before
  stays_elsewhere = ap (child other) w.is_now ∙ children_elsewhere job slot other w.added before apart w.lawful

  pub there_elsewhere : (path : List ℕ) → IsThere path other before → IsThere path other w.now
  there_elsewhere path there = (there.0, record { is = stays_elsewhere ∙ there.1.is })

  pub told_elsewhere : (functions : List ℕ → Functions) (honest : List ℕ → Type 0) (path : List ℕ) (sources : List (List ℕ)) → HasTold functions honest path sources other before → HasTold functions honest path sources other w.now
  told_elsewhere functions honest path sources told = record { idle = record { is = stays_elsewhere ∙ told.idle.is }; compile = told.compile }

-- ---- calls of a pool

AllLawfulIn-append : (job : Job) (width : ℕ) (more added before : List Call) → AllLawfulIn job width added before → AllLawfulIn job width more (added ++ before) → AllLawfulIn job width (more ++ added) before
AllLawfulIn-append job width [] added before first later = first
AllLawfulIn-append job width (call ∷ more) added before first later =
    (subst (IsLawfulAt job width call) (sym (append_assoc more added before)) later.0, AllLawfulIn-append job width more added before first later.1)

-- what is lawful on a slot below the width is lawful for the pool
lawful_in : (job : Job) (slot width : ℕ) (added before : List Call) → slot < width → AllLawful job slot added before → AllLawfulIn job width added before
lawful_in job slot width [] before below lawful = tt
lawful_in job slot width (call ∷ added) before below lawful =
    (inl (subst (λ (at : ℕ). at < width) (sym lawful.0) below, lawful.1), lawful_in job slot width added before below lawful.2)

-- the pool may stop each slot up to the one at the width
stop_lawful : (job : Job) (slot width : ℕ) (before : List Call) → slot ≤ width → IsLawfulAt job width (stop slot) before
stop_lawful job slot width before within = elim (eq-or-lt_of_le within) [
  | inl at ↦ inr (at, tt)
  | inr below ↦ inl (below, tt)
]

module _ {follow : List Call → Type 0} {job : Job} {before : List Call} where
  pub went_in : {slot width : ℕ} {P : List Call → List Call → Type 0} → slot < width → (w : Went follow job slot before P) → (Q : List Call → List Call → Type 0) → Q w.added w.now → WentIn follow job width before Q
  went_in {slot = slot} {width = width} below w Q q = record {
    added = w.added;
    now = w.now;
    is_now = w.is_now;
    follows = w.follows;
    lawful = lawful_in job slot width w.added before below w.lawful;
    holds = q;
  }

  -- nothing is done
  pub none_in : {width : ℕ} → follow before → (Q : List Call → List Call → Type 0) → Q [] before → WentIn follow job width before Q
  none_in follows Q q = record { added = []; now = before; is_now = refl; follows = follows; lawful = tt; holds = q }

  -- the same, seen in another way
  pub map_in : {width : ℕ} {P : List Call → List Call → Type 0} (w : WentIn follow job width before P) → (Q : List Call → List Call → Type 0) → Q w.added w.now → WentIn follow job width before Q
  map_in w Q q = record { added = w.added; now = w.now; is_now = w.is_now; follows = w.follows; lawful = w.lawful; holds = q }

module _ {first second : List Call → Type 0} {job : Job} {width : ℕ} {before : List Call} where
  -- one function more
  pub then_in : {P R : List Call → List Call → Type 0} (w : WentIn first job width before P) (v : WentIn second job width w.now R)
      → (Q : List Call → List Call → Type 0) → Q (v.added ++ w.added) v.now → WentIn second job width before Q
  then_in w v Q q = record {
    added = v.added ++ w.added;
    now = v.now;
    is_now = v.is_now ∙ ap (λ calls. v.added ++ calls) w.is_now ∙ sym (append_assoc v.added w.added before);
    follows = v.follows;
    lawful = AllLawfulIn-append job width v.added w.added before w.lawful (subst (AllLawfulIn job width v.added) w.is_now v.lawful);
    holds = q;
  }

  -- one function more, on one slot
  pub then_on : {slot : ℕ} {P R : List Call → List Call → Type 0} → slot < width → (w : WentIn first job width before P) (v : Went second job slot w.now R)
      → (Q : List Call → List Call → Type 0) → Q (v.added ++ w.added) v.now → WentIn second job width before Q
  then_on {slot = slot} below w v Q q = record {
    added = v.added ++ w.added;
    now = v.now;
    is_now = v.is_now ∙ ap (λ calls. v.added ++ calls) w.is_now ∙ sym (append_assoc v.added w.added before);
    follows = v.follows;
    lawful = AllLawfulIn-append job width v.added w.added before w.lawful
        (subst (AllLawfulIn job width v.added) w.is_now (lawful_in job slot width v.added w.now below v.lawful));
    holds = q;
  }

  -- one function on one slot, and then one more
  pub on_then : {slot : ℕ} {P R : List Call → List Call → Type 0} → slot < width → (w : Went first job slot before P) (v : WentIn second job width w.now R)
      → (Q : List Call → List Call → Type 0) → Q (v.added ++ w.added) v.now → WentIn second job width before Q
  on_then {slot = slot} below w v Q q = record {
    added = v.added ++ w.added;
    now = v.now;
    is_now = v.is_now ∙ ap (λ calls. v.added ++ calls) w.is_now ∙ sym (append_assoc v.added w.added before);
    follows = v.follows;
    lawful = AllLawfulIn-append job width v.added w.added before (lawful_in job slot width w.added before below w.lawful)
        (subst (AllLawfulIn job width v.added) w.is_now v.lawful);
    holds = q;
  }

  -- a slot is stopped, which may be the one at the width
  pub stop_in : {P : List Call → List Call → Type 0} (slot : ℕ) → slot ≤ width → (w : WentIn first job width before P) → Goes first second (stop slot)
      → (Q : List Call → List Call → Type 0) → Q (stop slot ∷ w.added) (stop slot ∷ w.now) → WentIn second job width before Q
  stop_in slot within w goes Q q = record {
    added = stop slot ∷ w.added;
    now = stop slot ∷ w.now;
    is_now = ap (λ (calls : List Call). stop slot ∷ calls) w.is_now;
    follows = goes w.now w.follows;
    lawful = (stop_lawful job slot width (w.added ++ before) within, w.lawful);
    holds = q;
  }
