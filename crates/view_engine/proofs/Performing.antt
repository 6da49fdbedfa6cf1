-- What a request leaves that calls no server: the engine at a moment, and what was appended.
use Rattle.std.proofs.Common.{◌≡◌, ℕ, List, inl, Result, Ok, Option, refl}
use Rattle.view_ports.specs.Calls.{Call}
use Rattle.view_ports.specs.Disk.{Disk}
use Rattle.view_ports.specs.Functions.{Functions}
use Rattle.view_ports.specs.declared.file_name.FileName.{FileName}
use Rattle.view_ports.proofs.Told.{told_now}
use Rattle.doc_file.specs.declared.docs.Docs.{Docs}
use Rattle.view_engine.specs.declared.engine.Engine.{Engine}
use Rattle.view_engine.specs.declared.request.Request.{Request}
use Rattle.view_engine.specs.declared.request.Request.TheVariants.{Cleanup, Put, Delete, Get, View, Info}
use Rattle.view_engine.specs.declared.request.ViewName.{ViewName}
use Rattle.json_terms.specs.declared.term.Chars.{Chars}
use Rattle.json_terms.specs.declared.term.Members.{Members}
use Rattle.view_engine.specs.declared.refusal.Refusal.{Refusal}
use Rattle.view_engine.specs.declared.refusal.Refusal.TheVariants.{NotBuiltYet}
use Rattle.view_engine.specs.Disks.{IsView}
use Rattle.view_engine.specs.Engine.{Leaves}
use Rattle.view_engine.specs.InMemory.{IsRefusedBy}
use Rattle.view_engine.specs.Moments.{Moment}
use Rattle.view_engine.specs.Steps.{IsRefusedAs, MayHaveCalled}
use Rattle.view_engine.specs.World.{World}

-- memory may run out before anything was called
pub none_called : (functions : List ℕ → Functions) (honest : List ℕ → Type 0) (languages : List (List ℕ × List ℕ)) (before : Moment) (request : Result Request Refusal) → MayHaveCalled functions honest languages before request before
none_called functions honest languages before (Ok (View view query)) = inl refl
none_called functions honest languages before other = refl

-- less is said of what is left
pub leaves_as : {functions : List ℕ → Functions} {honest : List ℕ → Type 0} {old disk : Option (Disk FileName)} {may_follow : List Call → Type 0} {faults : ℕ} {engine : Engine} {before : Moment} (P Q : Moment → Type 0) → ((after : Moment) → P after → Q after)
    → Leaves functions honest old disk may_follow faults engine before P → Leaves functions honest old disk may_follow faults engine before Q
leaves_as {functions} {honest} {old} P Q then left = record {
  after = left.after;
  is_at = left.is_at;
  moments = left.moments;
  allowed = told_now old (λ d. P left.after) (λ d. Q left.after) (λ d holds. then left.after holds) left.allowed;
}

module _ (functions : List ℕ → Functions) (honest : List ℕ → Type 0) (languages : List (List ℕ × List ℕ)) where
  -- a request that isn't built yet is refused as such
  pub unbuilt : (world : World) (request : Request) → ((document : Members) → request ≡ Put document → ⊥) → ((id : Chars) (rev : Option Chars) → request ≡ Delete id rev → ⊥)
      → ((id : Chars) → request ≡ Get id → ⊥) → (request ≡ Info → ⊥) → (request ≡ Cleanup → ⊥) → ((view : ViewName) (query : Option Members) → request ≡ View view query → ⊥) → IsRefusedAs functions honest languages world request NotBuiltYet
  unbuilt world (Put document) no_put no_delete no_get no_info no_cleanup no_view = absurd (no_put document refl)
  unbuilt world (Delete id rev) no_put no_delete no_get no_info no_cleanup no_view = absurd (no_delete id rev refl)
  unbuilt world (Get id) no_put no_delete no_get no_info no_cleanup no_view = absurd (no_get id refl)
  unbuilt world Info no_put no_delete no_get no_info no_cleanup no_view = absurd (no_info refl)
  unbuilt world Cleanup no_put no_delete no_get no_info no_cleanup no_view = absurd (no_cleanup refl)
  unbuilt world (View view query) no_put no_delete no_get no_info no_cleanup no_view = absurd (no_view view query refl)
  unbuilt world other no_put no_delete no_get no_info no_cleanup no_view = refl

-- what is no view is none
pub no_view : (request : Request) → ((view : ViewName) (query : Option Members) → request ≡ View view query → ⊥) → IsView (Ok request) → ⊥
no_view (View view query) other is = other view query refl
no_view request other is = is

-- and so it is by the documents in memory
pub unbuilt_by : (docs : Docs) (request : Request) → ((document : Members) → request ≡ Put document → ⊥) → ((id : Chars) (rev : Option Chars) → request ≡ Delete id rev → ⊥)
    → ((id : Chars) → request ≡ Get id → ⊥) → (request ≡ Info → ⊥) → (request ≡ Cleanup → ⊥) → ((view : ViewName) (query : Option Members) → request ≡ View view query → ⊥) → IsRefusedBy docs request NotBuiltYet
unbuilt_by docs (Put document) no_put no_delete no_get no_info no_cleanup no_view = absurd (no_put document refl)
unbuilt_by docs (Delete id rev) no_put no_delete no_get no_info no_cleanup no_view = absurd (no_delete id rev refl)
unbuilt_by docs (Get id) no_put no_delete no_get no_info no_cleanup no_view = absurd (no_get id refl)
unbuilt_by docs Info no_put no_delete no_get no_info no_cleanup no_view = absurd (no_info refl)
unbuilt_by docs Cleanup no_put no_delete no_get no_info no_cleanup no_view = absurd (no_cleanup refl)
unbuilt_by docs (View view query) no_put no_delete no_get no_info no_cleanup no_view = absurd (no_view view query refl)
unbuilt_by docs other no_put no_delete no_get no_info no_cleanup no_view = refl
