-- What the request `cleanup` does: the indexes go that no live design has.
use Rattle.std.specs.Prelude.{◌≡◌, ◌⊎◌, List, ℕ, codes, true, Some, None}
use Rattle.json_terms.specs.Json.{Json}
use Rattle.design_docs.specs.Documents.{is_design_id}
use Rattle.view_signature.specs.Signature.{signature_of}
use Rattle.design_docs.specs.History.{Write, live_document}
use Rattle.view_engine.specs.World.{World}

-- this is the signature of the design of a live document
pub record IsLiveSignature (history : List Write) (sig : List ℕ) : Type 0 where
  pub id : List ℕ
  pub document : Json
  pub of_design : is_design_id id ≡ true
  pub live : live_document history id ≡ Some document
  pub signed : signature_of document ≡ sig

-- each picture is that of a live design and stays, or that of none and is gone
pub record IsCleaned (before after : World) : Type 0 where
  pub history : after.history ≡ before.history
  pub known : after.functions ≡ before.functions
  pub each : (sig : List ℕ) → (IsLiveSignature before.history sig × (after.pictures sig ≡ before.pictures sig)) ⊎ ((IsLiveSignature before.history sig → ⊥) × (after.pictures sig ≡ None))

-- some of the pictures are gone, none of which is that of a live design
pub record IsPartlyCleaned (before after : World) : Type 0 where
  pub history : after.history ≡ before.history
  pub known : after.functions ≡ before.functions
  pub fewer : (sig : List ℕ) → (after.pictures sig ≡ before.pictures sig) ⊎ ((after.pictures sig ≡ None) × (IsLiveSignature before.history sig → ⊥))

-- the reply to a cleanup
abbrev pub done_text : List ℕ
done_text = codes "{\"ok\":true}"

abbrev pub DoesCleanup : World → List ℕ → World → Type 0
DoesCleanup before reply after = IsCleaned before after × (reply ≡ done_text)
