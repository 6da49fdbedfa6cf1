-- What functions did, one call or one function more.
use Rattle.std.proofs.Common.{◌≡◌, ℕ, List, [], ◌∷◌, ◌++◌, true, nat_eq, refl, sym, ap, ◌∙◌, subst, append_assoc, append-nil, eq-eqb}
use Rattle.view_ports.specs.Calls.{Call, after, child, slot_of}
use Rattle.view_ports.specs.Servers.{Goes}
use Rattle.child_pool.specs.Jobs.{Job, IsLawful, AllLawful}
use Rattle.child_pool.specs.Histories.{Went, course, steps_of}
pub use Rattle.child_pool.specs.TryLaws.{HasReceived-more, HasReceived-after}

-- ---- lists of calls

pub AllLawful-append : (job : Job) (slot : ℕ) (more added before : List Call) → AllLawful job slot added before → AllLawful job slot more (added ++ before) → AllLawful job slot (more ++ added) before
AllLawful-append job slot [] added before first later = first
AllLawful-append job slot (call ∷ more) added before first later =
    (later.0, subst (IsLawful job call) (sym (append_assoc more added before)) later.1, AllLawful-append job slot more added before first later.2)

pub course-append : (more added : List Call) → course (more ++ added) ≡ course added ++ course more
course-append [] added = sym (append-nil (course added))
course-append (call ∷ more) added = ap (λ turns. turns ++ steps_of call) (course-append more added) ∙ append_assoc (course added) (course more) (steps_of call)

-- ---- the child of a slot

pub child_after : (call : Call) (slot : ℕ) (calls : List Call) → slot_of call ≡ slot → child slot (call ∷ calls) ≡ after call (child slot calls)
child_after call slot calls is = let mine : nat_eq (slot_of call) slot ≡ true = eq-eqb (slot_of call) slot is in rw mine refl

-- ---- what was done

module _ {before_follow now_follow : List Call → Type 0} {job : Job} {slot : ℕ} {before : List Call} where
  -- one call is made
  pub Went-call : (call : Call) → Goes before_follow now_follow call → before_follow before → slot_of call ≡ slot → IsLawful job call before
      → (Q : List Call → List Call → Type 0) → Q (call ∷ []) (call ∷ before) → Went now_follow job slot before Q
  Went-call call goes follows on lawful Q q = record {
    added = call ∷ [];
    now = call ∷ before;
    is_now = refl;
    follows = goes before follows;
    lawful = (on, lawful, tt);
    holds = q;
  }

  -- one function more
  pub Went-then : {P R : List Call → List Call → Type 0} (w : Went before_follow job slot before P) (v : Went now_follow job slot w.now R)
      → (Q : List Call → List Call → Type 0) → Q (v.added ++ w.added) v.now → Went now_follow job slot before Q
  Went-then w v Q q = record {
    added = v.added ++ w.added;
    now = v.now;
    is_now = v.is_now ∙ ap (λ calls. v.added ++ calls) w.is_now ∙ sym (append_assoc v.added w.added before);
    follows = v.follows;
    lawful = AllLawful-append job slot v.added w.added before w.lawful (subst (AllLawful job slot v.added) w.is_now v.lawful);
    holds = q;
  }

module _ {follow : List Call → Type 0} {job : Job} {slot : ℕ} {before : List Call} where
  -- nothing is done
  pub Went-none : follow before → (Q : List Call → List Call → Type 0) → Q [] before → Went follow job slot before Q
  Went-none follows Q q = record { added = []; now = before; is_now = refl; follows = follows; lawful = tt; holds = q }

  -- the same, seen in another way
  pub Went-map : {P : List Call → List Call → Type 0} (w : Went follow job slot before P) → (Q : List Call → List Call → Type 0) → Q w.added w.now → Went follow job slot before Q
  Went-map w Q q = record { added = w.added; now = w.now; is_now = w.is_now; follows = w.follows; lawful = w.lawful; holds = q }
