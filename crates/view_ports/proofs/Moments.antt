-- What a crash leaves over the moments of several calls.
use Rattle.std.proofs.Common.{◌≡◌, ◌⊎◌, inl, inr, ℕ, ◌+◌, ◌-◌, List, [], ◌∷◌, ◌++◌, length, take, refl, sym, ap, ◌∙◌, subst, arith, append_assoc, length-append}
use Rattle.std.proofs.lemmas.List.{take_at}
use Rattle.view_ports.specs.File.{File}
use Rattle.view_ports.specs.Disk.{Disk, clock, IsImageOf, HadBeen, IsLeftSince, EachLeaves, LeavesOnly}
use Rattle.view_ports.specs.FolderCalls.{Ticks}

abbrev pub Image : Type 0 → Type 0
Image Name = Name → List ℕ

abbrev pub Files : Type 0 → Type 0
Files Name = Name → File

module _ {Name : Type 0} where
  each_weaker : (P Q : Image Name → Type 0) (moments : List (Files Name)) → ((image : Image Name) → P image → Q image) → EachLeaves P moments → EachLeaves Q moments
  each_weaker P Q [] then each = tt
  each_weaker P Q (files ∷ moments) then each = (λ image is. then image (each.0 image is), each_weaker P Q moments then each.1)

  each_append : (P : Image Name → Type 0) (xs ys : List (Files Name)) → EachLeaves P xs → EachLeaves P ys → EachLeaves P (xs ++ ys)
  each_append P [] ys first second = second
  each_append P (files ∷ xs) ys first second = (first.0, each_append P xs ys first.1 second)

  each_had : (P : Image Name → Type 0) (moments : List (Files Name)) (image : Image Name) → EachLeaves P moments → HadBeen moments image → P image
  each_had P [] image each had = absurd had
  each_had P (files ∷ moments) image each (inl here) = each.0 image here
  each_had P (files ∷ moments) image each (inr there) = each_had P moments image each.1 there

  -- before the first call
  pub started : (P : Image Name → Type 0) (disk : Disk Name) → ((image : Image Name) → IsImageOf disk.now image → P image) → LeavesOnly P disk disk
  started P disk here = record { between = []; follows = refl; then_on = tt; first = here }

  -- over one call
  pub ticked : (P : Image Name → Type 0) (old new : Disk Name) → Ticks old new → ((image : Image Name) → IsImageOf old.now image → P image) → ((image : Image Name) → IsImageOf new.now image → P image) → LeavesOnly P old new
  ticked P old new (inl noted) before after = record {
    between = new.now ∷ [];
    follows = ap (λ (past : List (Files Name)). new.now ∷ past) noted;
    then_on = (after, tt);
    first = before;
  }
  ticked P old new (inr same) before after = subst (λ d. LeavesOnly P old d) (sym same) (started P old before)

  -- two stretches, one after the other
  pub joined : (P : Image Name → Type 0) (old mid new : Disk Name) → LeavesOnly P old mid → LeavesOnly P mid new → LeavesOnly P old new
  joined P old mid new early late = record {
    between = late.between ++ early.between;
    follows = late.follows ∙ ap (λ (past : List (Files Name)). late.between ++ past) early.follows ∙ sym (append_assoc late.between early.between (old.now ∷ old.past));
    then_on = each_append P late.between early.between late.then_on early.then_on;
    first = early.first;
  }

  pub weaker : (P Q : Image Name → Type 0) (old new : Disk Name) → ((image : Image Name) → P image → Q image) → LeavesOnly P old new → LeavesOnly Q old new
  weaker P Q old new then leaves = record {
    between = leaves.between;
    follows = leaves.follows;
    then_on = each_weaker P Q leaves.between then leaves.then_on;
    first = λ image is. then image (leaves.first image is);
  }

  first_of_all : (between past later : List (Files Name)) (files : Files Name) (old : Files Name) → files ∷ later ≡ between ++ old ∷ past → (files ≡ old) ⊎ ((rest : List (Files Name)) × (between ≡ files ∷ rest))
  first_of_all [] past later files old same = inl (cc)
  first_of_all (f ∷ fs) past later files old same = let head : files ≡ f = cc in inr (fs, ap (λ (g : Files Name). g ∷ fs) (sym head))

  -- a crash now, at the end of the stretch
  pub at_end : (P : Image Name → Type 0) (old new : Disk Name) → LeavesOnly P old new → (image : Image Name) → IsImageOf new.now image → P image
  at_end P old new leaves image is =
      let now_is : (files : Files Name) → new.now ≡ files → IsImageOf files image = λ files same. subst (λ (f : Files Name). IsImageOf f image) same is in
      elim (first_of_all leaves.between old.past new.past new.now old.now leaves.follows) [
        | inl none ↦ leaves.first image (now_is old.now none)
        | inr some ↦ (let each : EachLeaves P (new.now ∷ some.0) = subst (EachLeaves P) some.1 leaves.then_on in each.0 image is)
      ]

  -- a crash at some moment since the start of the stretch, told by the clock
  pub since : (P : Image Name → Type 0) (old new : Disk Name) → LeavesOnly P old new → (image : Image Name) → IsLeftSince new (clock old) image → P image
  since P old new leaves image (inl now) = at_end P old new leaves image now
  since P old new leaves image (inr had) = by_parts leaves.between leaves.follows leaves.then_on
    where
      by_parts : (between : List (Files Name)) → new.now ∷ new.past ≡ between ++ old.now ∷ old.past → EachLeaves P between → P image
      by_parts [] follows each =
          let same : new.past ≡ old.past = cc in
          let long : length new.past ≡ length old.past = ap length same in
          let none : length new.past - length old.past ≡ 0 = omega arith in
          absurd (subst (λ n. HadBeen (take n new.past) image) none had)
      by_parts (files ∷ rest) follows each =
          let past_is : new.past ≡ rest ++ old.now ∷ old.past = cc in
          let past_is' : new.past ≡ (rest ++ old.now ∷ []) ++ old.past = past_is ∙ sym (append_assoc rest (old.now ∷ []) old.past) in
          let long : length new.past ≡ length (rest ++ old.now ∷ []) + length old.past = ap length past_is' ∙ length-append (rest ++ old.now ∷ []) old.past in
          let count : length new.past - length old.past ≡ length (rest ++ old.now ∷ []) = omega arith in
          let taken : take (length new.past - length old.past) new.past ≡ rest ++ old.now ∷ [] =
          ap (λ (past : List (Files Name)). take (length new.past - length old.past) past) past_is' ∙ take_at (rest ++ old.now ∷ []) old.past (length new.past - length old.past) (sym count) in
          let all : EachLeaves P (rest ++ old.now ∷ []) = each_append P rest (old.now ∷ []) each.1 (leaves.first, tt) in
          each_had P (rest ++ old.now ∷ []) image all (subst (λ (past : List (Files Name)). HadBeen past image) taken had)
