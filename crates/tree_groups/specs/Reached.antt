-- What the files have come to as an index is brought up to date.
use Rattle.std.specs.Prelude.{◌≡◌, ◌⊎◌, ◌≤◌, ℕ, List, length, Option, Some}
use Rattle.view_ports.specs.File.{File}
use Rattle.view_ports.specs.declared.file_name.FileName.{FileName}
use Rattle.view_ports.specs.declared.servers.Servers.{Ghosts as Servers}
use Rattle.design_docs.specs.declared.design.Design.{Design}
use Rattle.doc_file.specs.declared.docs.Docs.{Docs}
use Rattle.doc_file.specs.Docs.{IsAt as AreDocumentsAt}
use Rattle.design_docs.specs.History.{Write}
use Rattle.json_terms.specs.Seen.{json}
use Rattle.child_pool.specs.declared.pool.Pool.{Pool}
use Rattle.view_model.specs.Picture.{Picture}
use Rattle.tree_index.specs.Held.{or_empty}
use Rattle.tree_updater.specs.Paths.{AreFunctionsBy}
use Rattle.view_signature.specs.Signature.{digest_of}
use Rattle.tree_groups.specs.declared.groups.Groups.{Groups}
use Rattle.tree_groups.specs.Groups.{AreAt}
use Rattle.tree_groups.specs.Pictures.{Kinds, Pictures, StandsOf}

-- the signature of a design
abbrev pub sig_of : Design → List ℕ
sig_of design = digest_of (json design.term)

-- how many views it has
abbrev pub views_in : Design → ℕ
views_in design = length design.views

-- the picture of a design, where none counts as one of no write, without rows
abbrev pub picture_for : Design → Pictures → Picture
picture_for design pictures = or_empty (views_in design) (pictures (sig_of design))

-- The documents are at a history, the files hold these pictures, that of the design isn't newer, and its signature is of its views, and
-- of the functions that these servers have, where they are known.
pub record IsReached {C : Type 0} (s : Servers C) (servers : C) (pool : Pool) (docs : Docs) (kinds : Kinds) (groups : Groups) (design : Design) (history : List Write) (pictures : Pictures) (files : FileName → File) : Type 0 where
  pub documents : AreDocumentsAt docs files history
  pub indexes : AreAt kinds groups files pictures
  pub within : (picture_for design pictures).seq ≤ length history
  pub own : (kinds (sig_of design)).views ≡ design.views
  pub by : AreFunctionsBy s servers pool design (kinds (sig_of design)).functions

-- these are the pictures but for the design's, which is this one
abbrev pub AreSet : Design → Option Picture → Pictures → Pictures → Type 0
AreSet design next pictures after = (after (sig_of design) ≡ next) × ((sig : List ℕ) → (sig ≡ sig_of design → ⊥) → after sig ≡ pictures sig)

-- an image of the files of the design's index stands for its picture, or for one that `IsNext` has
abbrev pub StandsAround : Kinds → Design → Pictures → (Picture → Type 0) → (FileName → List ℕ) → Type 0
StandsAround kinds design pictures IsNext image =
    StandsOf kinds (sig_of design) image (pictures (sig_of design))
    ⊎ ((next : Picture) × IsNext next × StandsOf kinds (sig_of design) image (Some next))
