-- Of which kind the signatures in a world are, and to which of them indexes belong.
use Rattle.std.specs.Prelude.{◌≡◌, ℕ, List, [], ◌∷◌, Option, Some, None, All, bytes_eq, if◌then◌else◌}
use Rattle.json_terms.specs.Json.{Json}
use Rattle.design_docs.specs.Documents.{is_design_id}
use Rattle.design_docs.specs.Design.{language_of, views_of}
use Rattle.design_docs.specs.History.{Write}
use Rattle.view_ports.specs.Functions.{Functions}
use Rattle.view_ports.specs.declared.file_name.Stem.TheVariants.{View as ViewStem}
use Rattle.view_signature.specs.Signature.{signature_of}
use Rattle.view_model.specs.Picture.{Picture}
use Rattle.view_model.specs.Since.{first}
use Rattle.view_model.specs.Standing.{IsDesignIn}
use Rattle.tree_index.specs.Index.{stem_of}
use Rattle.tree_groups.specs.declared.groups.Groups.{Groups}
use Rattle.tree_groups.specs.Groups.{open_of}
use Rattle.tree_groups.specs.Pictures.{Kind, Kinds, Pictures}
use Rattle.view_engine.specs.World.{World}

-- the design document that a write stores, if it is one
abbrev pub design_in : Write → Option Json
design_in write = if is_design_id write.id then write.document else None

-- a design document, where it has this signature
abbrev pub signed_so : List ℕ → Option Json → Option Json
signed_so sig None = None
signed_so sig (Some document) = if bytes_eq (signature_of document) sig then Some document else None

-- the first of two, or else the other
abbrev pub first_or : Option Json → Option Json → Option Json
first_or None other = other
first_or (Some document) other = Some document

-- the oldest design document with a signature
abbrev pub oldest_design : List Write → List ℕ → Option Json
oldest_design [] sig = None
oldest_design (write ∷ older) sig = first_or (oldest_design older sig) (signed_so sig (design_in write))

-- of which views a design document is, and by which functions its reduces are, where those of its language are known
abbrev pub kind_of : (List ℕ → Option Functions) → Option Json → Kind
kind_of functions None = record { views = []; functions = None }
kind_of functions (Some document) = record { views = views_of document; functions = functions (language_of document) }

-- A signature is of the kind of the oldest design document that has it, so a newer one doesn't change of which it is.
abbrev pub kinds_by : (List ℕ → List ℕ → Option Functions) → List Write → Kinds
kinds_by functions history = λ sig. kind_of (functions sig) (oldest_design history sig)

abbrev pub kinds_of : World → Kinds
kinds_of world = kinds_by world.functions world.history

-- a design document of the history has this signature
pub record HasSignature (history : List Write) (sig : List ℕ) : Type 0 where
  pub document : Json
  pub stored : IsDesignIn history document
  pub signed : signature_of document ≡ sig

-- each picture is that of a design document which was stored by its sequence
abbrev pub AreOwned : List Write → Pictures → Type 0
AreOwned history pictures = (sig : List ℕ) (picture : Picture) → pictures sig ≡ Some picture → HasSignature (first picture.seq history) sig

-- and each open index is that of a design document
abbrev pub AreOpenOwned : List Write → Groups → Type 0
AreOpenOwned history groups = All (λ index. (sig : List ℕ) → stem_of index ≡ ViewStem sig → HasSignature history sig) (open_of groups)
