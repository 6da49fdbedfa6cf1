-- Each part behind the length is taken, and what is taken is the record.
use Rattle.std.proofs.Common.{◌≡◌, ◌==◌, ℕ, List, [], ◌∷◌, ◌++◌, Bool, Option, Some, Bor, Vec, Global, true, false, option_map, length, refl, sym, ap, ◌∙◌, arith}
use Rattle.std.specs.List.{flat_map}
use Rattle.std.proofs.lemmas.Bool.{eqb-true}
use Rattle.std.proofs.lemmas.List.{append-nil}
use Rattle.term_codec.specs.Spelling.{short_bytes, whole_bytes}
use Rattle.term_codec.specs.Reading.{short_in, whole_in}
use Rattle.term_codec.proofs.Wholes.{short_in-read, whole_in-read}
use Rattle.tree_laws.specs.declared.tree.Tree.{Tree}
use Rattle.tree_laws.specs.Reading.{AreCounted}
use Rattle.index_items.specs.RootRecord.{IsBodyOf, IsTreeAt, tree_bytes}
use Rattle.index_items.proofs.Roots.{after_back, after_number, after_seq, after_views, behind_number, number_read, seq_read}
use Rattle.index_items.proofs.Taking.{none_taken, one_taken}
use Rattle.index_items.proofs.root_record.read_body.Goals as goal

abbrev seen : Option (Vec Tree Global × Bor (List ℕ)) → Option (List Tree × Bor (List ℕ))
seen found = option_map (λ taken. (taken.0.items, taken.1)) found

-- the record of these parts, of which nothing is left
record_of : (count offset : ℕ) (bytes : List ℕ) (seq number : ℕ) (trees : List Tree) (back : Tree) (a b c d : List ℕ) → Some (seq, a) ≡ whole_in bytes → Some (number, b) ≡ short_in a → number ≡ count
    → AreCounted number (IsTreeAt offset) trees × (b ≡ flat_map tree_bytes trees ++ c) → IsTreeAt offset back × (c ≡ tree_bytes back ++ d) → d ≡ [] → IsBodyOf count offset bytes seq trees back
record_of count offset bytes seq number trees back a b c d first second same views last done =
    let one = whole_in-read bytes seq a (sym first) in
    let two = short_in-read a number b (sym second) in
    let behind : c ≡ tree_bytes back = last.1 ∙ ap (λ bs. tree_bytes back ++ bs) done ∙ append-nil (tree_bytes back) in
    record {
      content = record { small = one.0; number = (views.0).0 ∙ same; few = omega (arith, two.0, same); each = (views.0).1; back_fits = last.0 };
      is = one.1 ∙ ap (λ bs. whole_bytes seq ++ bs) (two.1 ∙ (λ i. short_bytes (sym (views.0).0 i) ++ (views.1 ∙ ap (λ bs. flat_map tree_bytes trees ++ bs) behind) i));
    }

module _ (count offset : ℕ) (bytes : List ℕ) (seq : ℕ) (views : List Tree) (back : Tree) (of : IsBodyOf count offset bytes seq views back) where
  -- behind the sequence and the number stand the trees
  trees_behind : (first number : ℕ) (a b : List ℕ) → Some (first, a) ≡ whole_in bytes → Some (number, b) ≡ short_in a → (number ≡ length views) × (b ≡ behind_number views back)
  trees_behind first number a b one two =
      after_number count offset bytes seq views back of a number b ((after_seq count offset bytes seq views back of first a one).1) two

  -- and behind those the tree of the back-index
  back_behind : (first number : ℕ) (a b c : List ℕ) (trees : List Tree) → Some (first, a) ≡ whole_in bytes → Some (number, b) ≡ short_in a → AreCounted number (IsTreeAt offset) trees × (b ≡ flat_map tree_bytes trees ++ c) → c ≡ tree_bytes back
  back_behind first number a b c trees one two taken =
      let before = trees_behind first number a b one two in
      (after_views count offset bytes seq views back of b c number trees before.1 before.0 taken.0 taken.1).1

nothing_left : (bytes : List ℕ) (empty : Bool) → empty ≡ (length bytes == 0) → empty ≡ true → bytes ≡ []
nothing_left [] empty tested passed = refl
nothing_left (b ∷ bytes) empty tested passed = let none : length (b ∷ bytes) ≡ 0 = eqb-true (length (b ∷ bytes)) 0 (sym tested ∙ passed) in absurd (omega (arith, none))

none_left : (bytes : List ℕ) (empty : Bool) → bytes ≡ [] → empty ≡ (length bytes == 0) → empty ≡ false → ⊥
none_left bytes empty is tested failed = let passed : empty ≡ true = tested ∙ ap (λ bs. length bs == 0) is in let both : true ≡ false = sym passed ∙ failed in absurd cc

pub returns-in_default-clause-none : goal.returns-in_default-clause-none
returns-in_default-clause-none c = λ none seq views back of.
    let both = c.in_default.ensures ∙ seq_read c.args.views c.args.offset c.args.bytes.now seq views back of in
    absurd cc

pub returns-in_default-read_short-clause-none : goal.returns-in_default-read_short-clause-none
returns-in_default-read_short-clause-none c = λ none seq views back of.
    let first = after_seq c.args.views c.args.offset c.args.bytes.now seq views back of c.in-Some.seq c.in-Some.rest.now c.in-Some.ensures in
    let both = c.in_default-read_short.ensures ∙ number_read c.args.views c.args.offset c.args.bytes.now seq views back of c.in-Some.rest.now first.1 in
    absurd cc

pub returns-then-count-views-clause-none : goal.returns-then-count-views-clause-none
returns-then-count-views-clause-none c = λ none seq views back of.
    let number = trees_behind c.args.views c.args.offset c.args.bytes.now seq views back of c.in-Some.seq c.in-Some-read_short.count c.in-Some.rest.now c.in-Some-read_short.rest.now c.in-Some.ensures c.in-Some-read_short.ensures in
    absurd (c.if-count-views.true (number.0 ∙ of.content.number))

pub returns-in_default-2-clause-none : goal.returns-in_default-2-clause-none
returns-in_default-2-clause-none c = λ none seq views back of.
    let number = trees_behind c.args.views c.args.offset c.args.bytes.now seq views back of c.in-Some.seq c.in-Some-read_short.count c.in-Some.rest.now c.in-Some-read_short.rest.now c.in-Some.ensures c.in-Some-read_short.ensures in
    none_taken (AreCounted c.in-Some-read_short.count (IsTreeAt c.args.offset)) (flat_map tree_bytes) c.in-Some-read_short.rest.now (seen c.in_ok-views.field-0) (ap seen c.in_default-2.is) c.in_ok-views.ensures
    views (tree_bytes back) (sym number.0, of.content.each) number.1

pub returns-in_default-read_tree-clause-none : goal.returns-in_default-read_tree-clause-none
returns-in_default-read_tree-clause-none c = λ none seq views back of.
    let trees = one_taken (AreCounted c.in-Some-read_short.count (IsTreeAt c.args.offset)) (flat_map tree_bytes) c.in-Some-read_short.rest.now (seen c.in_ok-views.field-0) c.in-Some-2.views.items c.in-Some-2.rest (ap seen c.in-Some-2.is) c.in_ok-views.ensures in
    let behind = back_behind c.args.views c.args.offset c.args.bytes.now seq views back of c.in-Some.seq c.in-Some-read_short.count c.in-Some.rest.now c.in-Some-read_short.rest.now c.in-Some-2.rest.now c.in-Some-2.views.items c.in-Some.ensures c.in-Some-read_short.ensures trees in
    none_taken (IsTreeAt c.args.offset) tree_bytes c.in-Some-2.rest.now c.read_tree.result c.in_default-read_tree.is c.read_tree.ensures back [] of.content.back_fits (behind ∙ sym (append-nil (tree_bytes back)))

pub returns-then-not-is_empty-clause-none : goal.returns-then-not-is_empty-clause-none
returns-then-not-is_empty-clause-none c = λ none seq views back of.
    let trees = one_taken (AreCounted c.in-Some-read_short.count (IsTreeAt c.args.offset)) (flat_map tree_bytes) c.in-Some-read_short.rest.now (seen c.in_ok-views.field-0) c.in-Some-2.views.items c.in-Some-2.rest (ap seen c.in-Some-2.is) c.in_ok-views.ensures in
    let behind = back_behind c.args.views c.args.offset c.args.bytes.now seq views back of c.in-Some.seq c.in-Some-read_short.count c.in-Some.rest.now c.in-Some-read_short.rest.now c.in-Some-2.rest.now c.in-Some-2.views.items c.in-Some.ensures c.in-Some-read_short.ensures trees in
    let last = one_taken (IsTreeAt c.args.offset) tree_bytes c.in-Some-2.rest.now c.read_tree.result c.in-Some-read_tree.back c.in-Some-read_tree.rest c.in-Some-read_tree.is c.read_tree.ensures in
    let left = (after_back c.args.views c.args.offset c.args.bytes.now seq views back of c.in-Some-2.rest.now c.in-Some-read_tree.rest.now c.in-Some-read_tree.back behind last.0 last.1).1 in
    absurd (none_left c.in-Some-read_tree.rest.now c.is_empty.result left c.is_empty.ensures c.if-not-is_empty.true)

-- what was read, where nothing is left behind it
found : (c : goal.Else-not-is_empty) → IsBodyOf c.args.views c.args.offset c.args.bytes.now c.in-Some.seq c.in-Some-2.views.items c.in-Some-read_tree.back
found c =
    let trees = one_taken (AreCounted c.in-Some-read_short.count (IsTreeAt c.args.offset)) (flat_map tree_bytes) c.in-Some-read_short.rest.now (seen c.in_ok-views.field-0) c.in-Some-2.views.items c.in-Some-2.rest (ap seen c.in-Some-2.is) c.in_ok-views.ensures in
    let last = one_taken (IsTreeAt c.args.offset) tree_bytes c.in-Some-2.rest.now c.read_tree.result c.in-Some-read_tree.back c.in-Some-read_tree.rest c.in-Some-read_tree.is c.read_tree.ensures in
    record_of c.args.views c.args.offset c.args.bytes.now c.in-Some.seq c.in-Some-read_short.count c.in-Some-2.views.items c.in-Some-read_tree.back c.in-Some.rest.now c.in-Some-read_short.rest.now c.in-Some-2.rest.now c.in-Some-read_tree.rest.now
    c.in-Some.ensures c.in-Some-read_short.ensures c.if-count-views.false trees last (nothing_left c.in-Some-read_tree.rest.now c.is_empty.result c.is_empty.ensures c.if-not-is_empty.false)

pub returns-clause-some : goal.returns-clause-some
returns-clause-some c = found c
