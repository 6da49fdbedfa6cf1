-- Names of files are told apart.
use Rattle.std.proofs.Common.{◌≡◌, ◌≢◌, ◌⊎◌, inl, inr, Bool, true, false, ◌&&◌, refl, sym, ap, ◌∙◌, subst}
use Rattle.std.proofs.lemmas.Bool.{false≢true}
use Rattle.std.proofs.lemmas.Slice.Eq.{bytes_eq-Decides}
use Rattle.view_ports.specs.declared.file_name.Stem.{Stem}
use Rattle.view_ports.specs.declared.file_name.Stem.TheVariants.{Docs, View}
use Rattle.view_ports.specs.declared.file_name.FileName.{FileName}
use Rattle.crash_disk.specs.Names.{is_same, is_same_stem, is_same_side}

same_stem : (a b : Stem) → is_same_stem a b ≡ true → a ≡ b
same_stem Docs Docs is = refl
same_stem Docs (View other) is = absurd (false≢true is)
same_stem (View digits) Docs is = absurd (false≢true is)
same_stem (View digits) (View other) is = ap View ((bytes_eq-Decides digits other).0 is)

same_side : (a b : Bool) → is_same_side a b ≡ true → a ≡ b
same_side true true is = refl
same_side true false is = absurd (false≢true is)
same_side false true is = absurd (false≢true is)
same_side false false is = refl

both : (a b : Bool) → a && b ≡ true → (a ≡ true) × (b ≡ true)
both true b is = (refl, is)
both false b is = absurd (false≢true is)

stem_itself : (stem : Stem) → is_same_stem stem stem ≡ true
stem_itself Docs = refl
stem_itself (View digits) = (bytes_eq-Decides digits digits).1 refl

side_itself : (side : Bool) → is_same_side side side ≡ true
side_itself true = refl
side_itself false = refl

and_true : (a b : Bool) → a ≡ true → b ≡ true → a && b ≡ true
and_true true b first second = second
and_true false b first second = absurd (false≢true first)

pub same_itself : (name : FileName) → is_same name name ≡ true
same_itself name = and_true (is_same_stem name.stem name.stem) (is_same_side name.side name.side) (stem_itself name.stem) (side_itself name.side)

pub same_names : (a b : FileName) → is_same a b ≡ true → a ≡ b
same_names a b is =
    let parts : (is_same_stem a.stem b.stem ≡ true) × (is_same_side a.side b.side ≡ true) = both (is_same_stem a.stem b.stem) (is_same_side a.side b.side) is in
    let stem : a.stem ≡ b.stem = same_stem a.stem b.stem parts.0 in
    let side : a.side ≡ b.side = same_side a.side b.side parts.1 in
    λ i. record { stem = stem i; side = side i }

pub is_same_true : (a b : FileName) → a ≡ b → is_same a b ≡ true
is_same_true a b is = subst (λ name. is_same a name ≡ true) is (same_itself a)

either : (b : Bool) → (b ≡ true) ⊎ (b ≡ false)
either true = inl refl
either false = inr refl

-- two names are one, and the test says so, or they differ, and it says so
pub names_split : (a b : FileName) → ((a ≡ b) × (is_same a b ≡ true)) ⊎ ((a ≢ b) × (is_same a b ≡ false))
names_split a b =
    elim (either (is_same a b)) [
      | inl is ↦ inl (same_names a b is, is)
      | inr not ↦ inr ((λ is. false≢true (sym not ∙ is_same_true a b is)), not)
    ]

pub is_same_false : (a b : FileName) → a ≢ b → is_same a b ≡ false
is_same_false a b differ = elim (names_split a b) [ inl is ↦ absurd (differ is.0) | inr not ↦ not.1 ]
