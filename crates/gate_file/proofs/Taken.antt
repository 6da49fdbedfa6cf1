-- Which side of a pair is taken.
use Rattle.std.proofs.Common.{◌≡◌, ⊎_elim, ℕ, ◌<◌, List, length, Some, None, refl, sym, ap, ◌∙◌, arith}
use Rattle.std.specs.Prelude.{Bool, true, false, is_none, nat_lt}
use Rattle.std.proofs.lemmas.Bool.Decides.{nat_tests}
use Rattle.view_ports.specs.declared.file_name.Stem.{Stem}
use Rattle.view_ports.specs.declared.file_name.FileName.{FileName}
use Rattle.gate_file.specs.declared.root.Root.{Root}
use Rattle.gate_file.specs.declared.gate.GateFile.{GateFile}
use Rattle.gate_file.specs.Header.{IsFit, newest}
use Rattle.gate_file.specs.Open.{IsDropped, found, side_in, side_of}
use Rattle.gate_file.proofs.Images.{found_is}
use Rattle.gate_file.proofs.Looks.{newest_of, option_cases}
use Rattle.gate_file.proofs.Pairs.{has_root, length_is, name_is, root_is, rootless}

by_bool : {P : Type 0} (b : Bool) → (b ≡ true → P) → (b ≡ false → P) → P
by_bool true so otherwise = so refl
by_bool false so otherwise = otherwise refl

module _ (stem : Stem) (seen : FileName → List ℕ) where
  abbrev first : GateFile
  first = found (side_of stem false) (seen (side_of stem false))

  abbrev second : GateFile
  second = found (side_of stem true) (seen (side_of stem true))

  first_name : first.name ≡ side_of stem false
  first_name = name_is first (side_of stem false) (seen (side_of stem false)) refl

  second_name : second.name ≡ side_of stem true
  second_name = name_is second (side_of stem true) (seen (side_of stem true)) refl

  first_root : first.root ≡ newest (seen (side_of stem false))
  first_root = root_is first (side_of stem false) (seen (side_of stem false)) refl

  second_root : second.root ≡ newest (seen (side_of stem true))
  second_root = root_is second (side_of stem true) (seen (side_of stem true)) refl

  -- the second is taken where its commit is later
  takes_second : nat_lt first.commits second.commits ≡ true → side_in stem seen ≡ second
  takes_second later = rw later refl

  pub record IsFirst : Type 0 where
    pub root_is : (side_in stem seen).root ≡ newest (seen (side_of stem false))
    pub named : (side_in stem seen).name ≡ side_of stem false

  takes_first : nat_lt first.commits second.commits ≡ false → IsFirst
  takes_first earlier = by_bool (is_none first.root)
      (λ none.
      let is : side_in stem seen ≡ record first { length = 0 } = rw (earlier, none) refl in
      record { root_is = ap (λ (g : GateFile). g.root) is ∙ first_root; named = ap (λ (g : GateFile). g.name) is ∙ first_name })
      (λ some.
      let is : side_in stem seen ≡ first = rw (earlier, some) refl in
      record { root_is = ap (λ (g : GateFile). g.root) is ∙ first_root; named = ap (λ (g : GateFile). g.name) is ∙ first_name })

  pub is_of_pair : (side_in stem seen).name.stem ≡ stem
  is_of_pair = by_bool (nat_lt first.commits second.commits)
      (λ later. ap (λ (g : GateFile). g.name.stem) (takes_second later) ∙ ap (λ (n : FileName). n.stem) second_name)
      (λ earlier. ap (λ (n : FileName). n.stem) (takes_first earlier).named)

  -- where the second is dropped, the first is taken
  pub second_dropped : IsDropped (side_in stem seen) (side_of stem true) → IsFirst
  second_dropped dropped = by_bool (nat_lt first.commits second.commits)
      (λ later.
      let is = takes_second later in
      let rises : first.commits < second.commits = grind (arith, nat_tests) in
      let some = has_root second (side_of stem true) (seen (side_of stem true)) refl (omega (arith, rises)) in
      let none : (side_in stem seen).root ≡ None = dropped (sym (ap (λ (g : GateFile). g.name) is ∙ second_name)) in
      let clash : ⊥ = cc (ap (λ (g : GateFile). g.root) is, some.1, none) in
      absurd clash)
      takes_first

  -- the whole of the side is taken, where it has a root
  pub whole_length : (r : Root) → (side_in stem seen).root ≡ Some r → (side_in stem seen).length ≡ length (seen (side_in stem seen).name)
  whole_length r some = by_bool (nat_lt first.commits second.commits)
      (λ later. as_found second (side_of stem true) (takes_second later) refl)
      (λ earlier.
      by_bool (is_none first.root)
      (λ none.
      let is : side_in stem seen ≡ record first { length = 0 } = rw (earlier, none) refl in
      let there : is_none first.root ≡ false = ap (λ (g : GateFile). is_none g.root) (sym is) ∙ ap (λ o. is_none o) some in
      let clash : ⊥ = cc (none, there) in absurd clash)
      (λ there. as_found first (side_of stem false) (rw (earlier, there) refl) refl))
    where
      as_found : (gate : GateFile) (name : FileName) → side_in stem seen ≡ gate → gate ≡ found name (seen name) → (side_in stem seen).length ≡ length (seen (side_in stem seen).name)
      as_found gate name is gate_is =
          ap (λ (g : GateFile). g.length) is ∙ length_is gate name (seen name) gate_is
          ∙ sym (ap (λ n. length (seen n)) (ap (λ (g : GateFile). g.name) is ∙ name_is gate name (seen name) gate_is))

  pub record IsSecond : Type 0 where
    pub root_is : (side_in stem seen).root ≡ newest (seen (side_of stem true))
    pub named : (r : Root) → newest (seen (side_of stem true)) ≡ Some r → (side_in stem seen).name ≡ side_of stem true

  -- where the first is dropped, the second is taken, or nothing
  pub first_dropped : IsFit 0 (seen (side_of stem true)) → IsFit 4096 (seen (side_of stem true)) → IsDropped (side_in stem seen) (side_of stem false) → IsSecond
  first_dropped low high dropped = by_bool (nat_lt first.commits second.commits)
      (λ later.
      let is = takes_second later in
      record { root_is = ap (λ (g : GateFile). g.root) is ∙ second_root; named = λ r some. ap (λ (g : GateFile). g.name) is ∙ second_name })
      (λ earlier.
      let taken = takes_first earlier in
      let none : (side_in stem seen).root ≡ None = dropped (sym taken.named) in
      let none_first : first.root ≡ None = first_root ∙ sym taken.root_is ∙ none in
      let zero_first : first.commits ≡ 0 = ap (λ (g : GateFile). g.commits) (rootless first (side_of stem false) (seen (side_of stem false)) refl none_first) in
      let none_second : newest (seen (side_of stem true)) ≡ None = ⊎_elim (λ is. is) (λ some.
      let is : second.commits ≡ (some.0).number = ap (λ (g : GateFile). g.commits) (found_is (side_of stem true) (seen (side_of stem true)) (Some some.0) some.1) in
      let positive : 0 < (some.0).number = (newest_of (seen (side_of stem true)) some.0 low high some.1).some in
      let clash : ⊥ = grind (arith, nat_tests) in absurd clash) (option_cases (newest (seen (side_of stem true)))) in
      record {
        root_is = none ∙ sym none_second;
        named = λ r some. absurd (let clash : ⊥ = cc (none_second, some) in clash);
      })
