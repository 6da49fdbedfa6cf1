-- A child is started, asked, or stopped.
use Rattle.std.proofs.Common.{◌≡◌, ◌≤◌, ℕ, List, [], ◌∷◌, length, Bool, true, Some, None, refl, sym, ap, ◌∙◌, subst}
use Rattle.std.proofs.lemmas.Bool.{le-leb}
use Rattle.view_ports.specs.Calls.{Call, start, send, stop, after, child, session}
use Rattle.view_ports.specs.Functions.{line_limit}
use Rattle.child_pool.specs.Jobs.{HasChild}
use Rattle.child_pool.specs.Sessions.{IsInSession, IsIdle}
use Rattle.child_pool.proofs.Going.{child_after}

pub idle_has_child : (path : List ℕ) (sources : List (List ℕ)) (slot : ℕ) (calls : List Call) → IsIdle path sources slot calls → HasChild (child slot calls)
idle_has_child path sources slot calls idle = subst HasChild (sym idle.is) refl

-- a prompt was sent to a child that has answered each line
pub asked_child : (path : List ℕ) (sources : List (List ℕ)) (slot : ℕ) (calls : List Call) (line : List ℕ) → length line ≤ line_limit → IsIdle path sources slot calls → IsInSession path sources (line ∷ []) 0 slot (send slot line true ∷ calls)
asked_child path sources slot calls line short idle = record {
  is = child_after (send slot line true) slot calls refl ∙ ap (after (send slot line true)) idle.is ∙ ap (λ (sound : Bool). Some (session path sources (line ∷ []) 0 sound)) (le-leb (length line) line_limit short);
}

-- a child was started
pub started_child : (path : List ℕ) (slot : ℕ) (calls : List Call) → IsIdle path [] slot (start slot path true ∷ calls)
started_child path slot calls = record { is = child_after (start slot path true) slot calls refl }

-- a child was stopped
pub stopped_child : (slot : ℕ) (calls : List Call) → child slot (stop slot ∷ calls) ≡ None
stopped_child slot calls = child_after (stop slot) slot calls refl
