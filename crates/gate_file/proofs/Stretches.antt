-- A stretch of calls, and then calls that change nothing.
use Rattle.std.proofs.Common.{◌≡◌, ℕ, List, [], ◌∷◌, ◌++◌, Option, Some, None, sym, ◌∙◌, subst}
use Rattle.view_ports.specs.File.{File}
use Rattle.view_ports.specs.Disk.{Disk, IsImageOf, EachLeaves, LeavesOnly, Framed, Moves, MovesNone, IfTold, Tells}
use Rattle.view_ports.specs.declared.file_name.FileName.{FileName}
use Rattle.view_ports.proofs.DiskRuns.{moves_then, none_wider}
use Rattle.gate_file.specs.declared.gate.GateFile.{GateFile}
use Rattle.gate_file.specs.GateFile.{Keeps}
use Rattle.gate_file.specs.Open.{IsOpened}

module _ {Name : Type 0} where
  last_leaves : (P : (Name → List ℕ) → Type 0) (between : List (Name → File)) (now : Name → File) (past : List (Name → File)) (first : Name → File) (older : List (Name → File))
      → now ∷ past ≡ between ++ first ∷ older → EachLeaves P between → ((image : Name → List ℕ) → IsImageOf first image → P image)
      → (image : Name → List ℕ) → IsImageOf now image → P image
  last_leaves P [] now past first older same each start image is = let here : now ≡ first = cc in start image (subst (λ files. IsImageOf files image) here is)
  last_leaves P (files ∷ between) now past first older same each start image is = let here : now ≡ files = cc in each.0 image (subst (λ f. IsImageOf f image) here is)

  -- what a crash leaves at the end of a stretch
  pub leaves_last : (P : (Name → List ℕ) → Type 0) (old new : Disk Name) → LeavesOnly P old new → (image : Name → List ℕ) → IsImageOf new.now image → P image
  leaves_last P old new leaves image is = last_leaves P leaves.between new.now new.past old.now old.past leaves.follows leaves.then_on leaves.first image is

  pub moves_then_none : (mine : Name → Type 0) (leaves : (Name → List ℕ) → Type 0) (ends ends' : (Name → File) → Type 0) (a b c : Disk Name)
      → (ends b.now → ((name : Name) → c.now name ≡ b.now name) → ends' c.now) → Moves mine leaves ends a b → MovesNone b c → Moves mine leaves ends' a c
  moves_then_none mine leaves ends ends' a b c endings first none =
      moves_then mine leaves leaves leaves ends ends' ends' a b c (λ image is. is) (λ ended image is. is) (λ first_ended second_ended. second_ended) first
      (none_wider mine leaves ends' b c (λ image is. (leaves_last (Framed mine a.now leaves) a b first.moments image is).inside) (λ same. endings first.ended same) none)

pub IsOpened-same : (gate : GateFile) (old mid new : FileName → File) → IsOpened gate old mid → ((name : FileName) → new name ≡ mid name) → IsOpened gate old new
IsOpened-same gate old mid new opened same = record {
  keeps = subst (Keeps gate) (sym (same gate.name)) opened.keeps;
  whole = same gate.name ∙ opened.whole;
  other = λ name stem other. same name ∙ opened.other name stem other;
}

module _ {D : Type 0} where
  -- with what is known at the end
  pub told_end : (old new : Option D) (R : D → D → Type 0) (Q : D → Type 0) → Tells old new R → IfTold new Q → Tells old new (λ a b. R a b × Q b)
  told_end None None R Q told known = tt
  told_end None (Some b) R Q told known = absurd told
  told_end (Some a) None R Q told known = absurd told
  told_end (Some a) (Some b) R Q told known = (told, known)
