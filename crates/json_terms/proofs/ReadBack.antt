-- The text of a term reads as the term.
use Rattle.std.proofs.Common.{◌≡◌, ◌≤◌, ◌^◌, ℕ, suc, max, pos, negsuc, List, [], ◌++◌, Some, Ok, option_map, option_and_then, Less, Greater, nat_cmp, refl, sym, ap, ap₂, ◌∙◌, arith, lt-ltb, append-nil}
use Rattle.std.specs.Ordering.{ordering_reverse}
use Rattle.std.specs.Cmp.Lexicographic.{slice_cmp}
use Rattle.std.proofs.lemmas.Cmp.{nat_list_cmp_total}
use Rattle.json.specs.Json as json
use Rattle.json.specs.Lex.{tokens}
use Rattle.json.specs.Tree as tree
use Rattle.json.proofs.Printed.Decimals.{IsNumber-signed_decimal}
use Rattle.json.proofs.Printed.Tokens.{tokens-print}
use Rattle.json.proofs.Printed.Trees.{ArePrintable-json_tokens, value-json_tokens}
use Rattle.serde_json.specs.Data as serde
use Rattle.serde_json.specs.Read.{of_json, of_items, of_members, read, max_depth}
use Rattle.serde_json.specs.Written.{outline, items_outline, members_outline}
use Rattle.serde_json.proofs.Numbers.{number_of-decimal, number_of-negative}
use Rattle.serde_json.proofs.Texts.{print-outline}
use Rattle.json_terms.specs.Json.{Json, number, is_false, is_null, is_true, object, array, string, Items, no_items, item, Members, no_members, member, depth, items_depth, members_depth}
use Rattle.json_terms.specs.Terms.{IsTerm, AreTerms, AreMembers, ComesBefore}
use Rattle.json_terms.specs.Text.{serde_of, items_serde_of, members_serde_of, text_of}
use Rattle.json_terms.specs.Reading.{depth_limit, reading, value_of, items_value_of, members_value_of}
use Rattle.json_terms.proofs.Readings.{reading-Ok}
use Rattle.json_terms.proofs.Utf8.{IsUtf8-text_of}

-- ---- serde_json's value of a term is that term's

mutual
  value_of-serde_of : (t : Json) → IsTerm t → value_of (serde_of t) ≡ Some t
  value_of-serde_of (number (pos n)) h = rw (lt-ltb n (2 ^ 63) h.sfits) refl
  value_of-serde_of (number (negsuc n)) h = refl
  value_of-serde_of is_false h = refl
  value_of-serde_of is_null h = refl
  value_of-serde_of is_true h = refl
  value_of-serde_of (object ms) h = ap (option_map object) (members_value_of-serde_of ms h)
  value_of-serde_of (array ts) h = ap (option_map array) (items_value_of-serde_of ts h)
  value_of-serde_of (string s) h = refl

  items_value_of-serde_of : (ts : Items) → AreTerms ts → items_value_of (items_serde_of ts) ≡ Some ts
  items_value_of-serde_of no_items h = refl
  items_value_of-serde_of (item t ts) h =
      ap (option_and_then (λ u. option_map (item u) (items_value_of (items_serde_of ts)))) (value_of-serde_of t h.0)
      ∙ ap (option_map (item t)) (items_value_of-serde_of ts h.1)

  members_value_of-serde_of : (ms : Members) → AreMembers ms → members_value_of (members_serde_of ms) ≡ Some ms
  members_value_of-serde_of no_members h = refl
  members_value_of-serde_of (member n t ms) h =
      ap (option_and_then (λ u. option_map (member n u) (members_value_of (members_serde_of ms)))) (value_of-serde_of t h.2)
      ∙ ap (option_map (member n t)) (members_value_of-serde_of ms h.3)

-- ---- its outline is as deep, and its numbers are numbers

mutual
  depth-outline : (t : Json) → tree.depth (outline (serde_of t)) ≡ depth t
  depth-outline (number n) = refl
  depth-outline is_false = refl
  depth-outline is_null = refl
  depth-outline is_true = refl
  depth-outline (object ms) = ap suc (members_depth-outline ms)
  depth-outline (array ts) = ap suc (items_depth-outline ts)
  depth-outline (string s) = refl

  items_depth-outline : (ts : Items) → tree.items_depth (items_outline (items_serde_of ts)) ≡ items_depth ts
  items_depth-outline no_items = refl
  items_depth-outline (item t ts) = ap₂ max (depth-outline t) (items_depth-outline ts)

  members_depth-outline : (ms : Members) → tree.members_depth (members_outline (members_serde_of ms)) ≡ members_depth ms
  members_depth-outline no_members = refl
  members_depth-outline (member n t ms) = ap₂ max (depth-outline t) (members_depth-outline ms)

mutual
  HasNumbers-outline : (t : Json) → IsTerm t → tree.HasNumbers (outline (serde_of t))
  HasNumbers-outline (number (pos n)) h = IsNumber-signed_decimal (pos n) h.sfits
  HasNumbers-outline (number (negsuc n)) h = IsNumber-signed_decimal (negsuc n) h.sfits
  HasNumbers-outline is_false h = tt
  HasNumbers-outline is_null h = tt
  HasNumbers-outline is_true h = tt
  HasNumbers-outline (object ms) h = MembersHaveNumbers-outline ms h
  HasNumbers-outline (array ts) h = ItemsHaveNumbers-outline ts h
  HasNumbers-outline (string s) h = tt

  ItemsHaveNumbers-outline : (ts : Items) → AreTerms ts → tree.ItemsHaveNumbers (items_outline (items_serde_of ts))
  ItemsHaveNumbers-outline no_items h = tt
  ItemsHaveNumbers-outline (item t ts) h = (HasNumbers-outline t h.0, ItemsHaveNumbers-outline ts h.1)

  MembersHaveNumbers-outline : (ms : Members) → AreMembers ms → tree.MembersHaveNumbers (members_outline (members_serde_of ms))
  MembersHaveNumbers-outline no_members h = tt
  MembersHaveNumbers-outline (member n t ms) h = (HasNumbers-outline t h.2, MembersHaveNumbers-outline ms h.3)

-- ---- members whose names rise go in one behind the other

abbrev join : serde.Members → serde.Members → serde.Members
join serde.no_members ms = ms
join (serde.member n d done) ms = serde.member n d (join done ms)

join-nil : (done : serde.Members) → join done serde.no_members ≡ done
join-nil serde.no_members = refl
join-nil (serde.member n d done) = ap (serde.member n d) (join-nil done)

join-push : (done : serde.Members) (n : List ℕ) (d : serde.Data) (ms : serde.Members) → join (join done (serde.member n d serde.no_members)) ms ≡ join done (serde.member n d ms)
join-push serde.no_members n d ms = refl
join-push (serde.member k e done) n d ms = ap (serde.member k e) (join-push done n d ms)

-- each of these names is less than this one
abbrev AreBelow : serde.Members → List ℕ → Type 0
AreBelow serde.no_members n = Unit {0}
AreBelow (serde.member k d done) n = (slice_cmp nat_cmp k n ≡ Less) × AreBelow done n

AreBelow-push : (done : serde.Members) (n : List ℕ) (d : serde.Data) (m : List ℕ) → AreBelow done n → slice_cmp nat_cmp n m ≡ Less → AreBelow (join done (serde.member n d serde.no_members)) m
AreBelow-push serde.no_members n d m below less = (less, tt)
AreBelow-push (serde.member k e done) n d m below less = (nat_list_cmp_total.trans k n m below.0 less, AreBelow-push done n d m below.1 less)

-- .. and than the first of those to come
abbrev AreBelowFirst : serde.Members → Members → Type 0
AreBelowFirst done no_members = Unit {0}
AreBelowFirst done (member n t ms) = AreBelow done n

AreBelowFirst-push : (done : serde.Members) (n : List ℕ) (d : serde.Data) (ms : Members) → AreBelow done n → ComesBefore n ms → AreBelowFirst (join done (serde.member n d serde.no_members)) ms
AreBelowFirst-push done n d no_members below before = tt
AreBelowFirst-push done n d (member m t ms) below before = AreBelow-push done n d m below before

put-last : (n : List ℕ) (d : serde.Data) (done : serde.Members) → AreBelow done n → serde.put n d done ≡ join done (serde.member n d serde.no_members)
put-last n d serde.no_members below = refl
put-last n d (serde.member k e done) below =
    let above : slice_cmp nat_cmp n k ≡ Greater = nat_list_cmp_total.antisymm n k ∙ ap ordering_reverse below.0 in
    rw above (ap (serde.member k e) (put-last n d done below.1))

-- ---- the outline reads as the value

mutual
  of_json-outline : (t : Json) → IsTerm t → of_json (outline (serde_of t)) ≡ Some (serde_of t)
  of_json-outline (number (pos n)) h = ap (option_map serde.number) (number_of-decimal n (omega (arith, h.sfits)))
  of_json-outline (number (negsuc n)) h = ap (option_map serde.number) (number_of-negative n h.sfits)
  of_json-outline is_false h = refl
  of_json-outline is_null h = refl
  of_json-outline is_true h = refl
  of_json-outline (object ms) h = ap (option_map serde.object) (of_members-outline ms serde.no_members h (no_names_below ms))
  of_json-outline (array ts) h = ap (option_map serde.array) (of_items-outline ts h)
  of_json-outline (string s) h = refl

  of_items-outline : (ts : Items) → AreTerms ts → of_items (items_outline (items_serde_of ts)) ≡ Some (items_serde_of ts)
  of_items-outline no_items h = refl
  of_items-outline (item t ts) h =
      ap (option_and_then (λ d. option_map (serde.item d) (of_items (items_outline (items_serde_of ts))))) (of_json-outline t h.0)
      ∙ ap (option_map (serde.item (serde_of t))) (of_items-outline ts h.1)

  of_members-outline : (ms : Members) (done : serde.Members) → AreMembers ms → AreBelowFirst done ms → of_members (members_outline (members_serde_of ms)) done ≡ Some (join done (members_serde_of ms))
  of_members-outline no_members done h below = ap Some (sym (join-nil done))
  of_members-outline (member n t ms) done h below =
      let rest = members_outline (members_serde_of ms) in
      let with_this = join done (serde.member n (serde_of t) serde.no_members) in
      ap (option_and_then (λ d. of_members rest (serde.put n d done))) (of_json-outline t h.2)
      ∙ ap (of_members rest) (put-last n (serde_of t) done below)
      ∙ of_members-outline ms with_this h.3 (AreBelowFirst-push done n (serde_of t) ms below h.1)
      ∙ ap Some (join-push done n (serde_of t) (members_serde_of ms))

  no_names_below : (ms : Members) → AreBelowFirst serde.no_members ms
  no_names_below no_members = tt
  no_names_below (member n t ms) = tt

read-text_of : (t : Json) → IsTerm t → depth t ≤ max_depth → read (text_of t) ≡ Some (serde_of t)
read-text_of t h shallow =
    let j = outline (serde_of t) in
    let spelled : tokens (text_of t) ≡ tree.json_tokens j ++ [] =
    ap tokens (sym (print-outline (serde_of t))) ∙ tokens-print (tree.json_tokens j) (ArePrintable-json_tokens j (HasNumbers-outline t h)) ∙ sym (append-nil (tree.json_tokens j)) in
    ap (λ ts. option_and_then of_json (option_and_then (λ p. json.if_last p.0 p.1) (json.value max_depth ts))) spelled
    ∙ ap (λ o. option_and_then of_json (option_and_then (λ p. json.if_last p.0 p.1) o)) (value-json_tokens j max_depth [] (omega (arith, depth-outline t)))
    ∙ of_json-outline t h

-- A term that is not too deep is what its text reads as.
pub reading-text_of : (t : Json) → IsTerm t → depth t ≤ depth_limit → reading (text_of t) ≡ Ok t
reading-text_of t h shallow =
    let within : depth t ≤ max_depth = omega arith in
    reading-Ok (text_of t) (serde_of t) t (IsUtf8-text_of t h) (read-text_of t h within) (value_of-serde_of t h) shallow
