-- A list of values that is turned into terms one after another: what is done and what is left give what the whole gives.
use Rattle.std.proofs.Common.{◌≡◌, ℕ, List, [], ◌∷◌, ◌++◌, Option, Some, None, option_map, option_and_then, String, Global, string_bytes, string_cmp, nat_cmp, Less, refl, sym, ap, ◌∙◌}
use Rattle.std.specs.Cmp.Lexicographic.{slice_cmp}
use Rattle.std.specs.List.Sorted.{IsStrictlySortedBy}
use Rattle.std.specs.Map.{keys_of}
use Rattle.serde_json.specs.View.{view, items_view, members_view}
use Rattle.serde_json.specs.declared.value.Value.{Value}
use Rattle.json_terms.specs.Json.{Json, Items, no_items, item, items_of, Members, no_members, member, members_of}
use Rattle.json_terms.specs.Terms.{ComesAfter}
use Rattle.json_terms.specs.Reading.{value_of, items_value_of, members_value_of}

-- ---- elements

-- these elements, and then the rest
abbrev pub items_then : List Json → Items → Items
items_then [] rest = rest
items_then (t ∷ ts) rest = item t (items_then ts rest)

items_then-push : (done : List Json) (t : Json) (rest : Items) → items_then done (item t rest) ≡ items_then (done ++ t ∷ []) rest
items_then-push [] t rest = refl
items_then-push (x ∷ done) t rest = ap (item x) (items_then-push done t rest)

items_then-end : (ts : List Json) → items_then ts no_items ≡ items_of ts
items_then-end [] = refl
items_then-end (t ∷ ts) = ap (item t) (items_then-end ts)

items_then-option : (done : List Json) (t : Json) (rest : Option Items) → option_map (items_then done) (option_map (item t) rest) ≡ option_map (items_then (done ++ t ∷ [])) rest
items_then-option done t None = refl
items_then-option done t (Some rest) = ap Some (items_then-push done t rest)

-- what the values give is what is done and then what the values that are left give
abbrev pub AreItemsWith : List Value → List Json → List Value → Type 0
AreItemsWith all done left = items_value_of (items_view all) ≡ option_map (items_then done) (items_value_of (items_view left))

items_then-nil : (x : Option Items) → x ≡ option_map (items_then []) x
items_then-nil None = refl
items_then-nil (Some ts) = refl

pub AreItemsWith-start : (all left : List Value) → left ≡ all → AreItemsWith all [] left
AreItemsWith-start all left is = items_then-nil (items_value_of (items_view all)) ∙ ap (λ vs. option_map (items_then []) (items_value_of (items_view vs))) (sym is)

pub AreItemsWith-push : (all : List Value) (done : List Json) (v : Value) (t : Json) (left : List Value) → AreItemsWith all done (v ∷ left) → value_of (view v) ≡ Some t → AreItemsWith all (done ++ t ∷ []) left
AreItemsWith-push all done v t left so_far is =
    so_far ∙ ap (λ o. option_map (items_then done) (option_and_then (λ u. option_map (item u) (items_value_of (items_view left))) o)) is
    ∙ items_then-option done t (items_value_of (items_view left))

pub AreItemsWith-none : (all : List Value) (done : List Json) (v : Value) (left : List Value) → AreItemsWith all done (v ∷ left) → value_of (view v) ≡ None → items_value_of (items_view all) ≡ None
AreItemsWith-none all done v left so_far is =
    so_far ∙ ap (λ o. option_map (items_then done) (option_and_then (λ u. option_map (item u) (items_value_of (items_view left))) o)) is

pub AreItemsWith-end : (all : List Value) (done : List Json) (left : List Value) → AreItemsWith all done left → left ≡ [] → items_value_of (items_view all) ≡ Some (items_of done)
AreItemsWith-end all done left so_far is =
    so_far ∙ ap (λ vs. option_map (items_then done) (items_value_of (items_view vs))) is ∙ ap Some (items_then-end done)

-- ---- members

abbrev pub Entry : Type 0
Entry = String Global × Value

-- these members, and then the rest
abbrev pub members_then : List (List ℕ × Json) → Members → Members
members_then [] rest = rest
members_then (m ∷ ms) rest = member m.0 m.1 (members_then ms rest)

members_then-push : (done : List (List ℕ × Json)) (n : List ℕ) (t : Json) (rest : Members) → members_then done (member n t rest) ≡ members_then (done ++ (n, t) ∷ []) rest
members_then-push [] n t rest = refl
members_then-push (m ∷ done) n t rest = ap (member m.0 m.1) (members_then-push done n t rest)

members_then-end : (ms : List (List ℕ × Json)) → members_then ms no_members ≡ members_of ms
members_then-end [] = refl
members_then-end (m ∷ ms) = ap (member m.0 m.1) (members_then-end ms)

members_then-option : (done : List (List ℕ × Json)) (n : List ℕ) (t : Json) (rest : Option Members)
    → option_map (members_then done) (option_map (member n t) rest) ≡ option_map (members_then (done ++ (n, t) ∷ [])) rest
members_then-option done n t None = refl
members_then-option done n t (Some rest) = ap Some (members_then-push done n t rest)

-- what the entries give is what is done and then what the entries that are left give
abbrev pub AreMembersWith : List Entry → List (List ℕ × Json) → List Entry → Type 0
AreMembersWith all done left = members_value_of (members_view all) ≡ option_map (members_then done) (members_value_of (members_view left))

members_then-nil : (x : Option Members) → x ≡ option_map (members_then []) x
members_then-nil None = refl
members_then-nil (Some ms) = refl

pub AreMembersWith-start : (all left : List Entry) → left ≡ all → AreMembersWith all [] left
AreMembersWith-start all left is = members_then-nil (members_value_of (members_view all)) ∙ ap (λ es. option_map (members_then []) (members_value_of (members_view es))) (sym is)

pub AreMembersWith-push : (all : List Entry) (done : List (List ℕ × Json)) (e : Entry) (t : Json) (left : List Entry) → AreMembersWith all done (e ∷ left) → value_of (view e.1) ≡ Some t
    → AreMembersWith all (done ++ (string_bytes e.0, t) ∷ []) left
AreMembersWith-push all done e t left so_far is =
    so_far ∙ ap (λ o. option_map (members_then done) (option_and_then (λ u. option_map (member (string_bytes e.0) u) (members_value_of (members_view left))) o)) is
    ∙ members_then-option done (string_bytes e.0) t (members_value_of (members_view left))

pub AreMembersWith-none : (all : List Entry) (done : List (List ℕ × Json)) (e : Entry) (left : List Entry) → AreMembersWith all done (e ∷ left) → value_of (view e.1) ≡ None
    → members_value_of (members_view all) ≡ None
AreMembersWith-none all done e left so_far is =
    so_far ∙ ap (λ o. option_map (members_then done) (option_and_then (λ u. option_map (member (string_bytes e.0) u) (members_value_of (members_view left))) o)) is

pub AreMembersWith-end : (all : List Entry) (done : List (List ℕ × Json)) (left : List Entry) → AreMembersWith all done left → left ≡ [] → members_value_of (members_view all) ≡ Some (members_of done)
AreMembersWith-end all done left so_far is =
    so_far ∙ ap (λ es. option_map (members_then done) (members_value_of (members_view es))) is ∙ ap Some (members_then-end done)

-- ---- the order of the names

-- the names that are left rise, and the first is greater than the names that are done
abbrev pub ComeAfter : List (List ℕ × Json) → List Entry → Type 0
ComeAfter done [] = Unit {0}
ComeAfter done (e ∷ left) = ComesAfter (string_bytes e.0) (members_of done) × IsStrictlySortedBy string_cmp (keys_of (e ∷ left))

ComesAfter-last : (name : List ℕ) (done : List (List ℕ × Json)) (last : List ℕ) (t : Json) → slice_cmp nat_cmp last name ≡ Less → ComesAfter name (members_of (done ++ (last, t) ∷ []))
ComesAfter-last name [] last t less = less
ComesAfter-last name (x ∷ []) last t less = less
ComesAfter-last name (x ∷ y ∷ done) last t less = ComesAfter-last name (y ∷ done) last t less

pub ComeAfter-start : (left : List Entry) → IsStrictlySortedBy string_cmp (keys_of left) → ComeAfter [] left
ComeAfter-start [] rise = tt
ComeAfter-start (e ∷ left) rise = (tt, rise)

pub ComeAfter-push : (done : List (List ℕ × Json)) (e : Entry) (t : Json) (left : List Entry) → ComeAfter done (e ∷ left) → ComeAfter (done ++ (string_bytes e.0, t) ∷ []) left
unfolding IsStrictlySortedBy
ComeAfter-push done e t [] come = tt
ComeAfter-push done e t (f ∷ left) come = (ComesAfter-last (string_bytes f.0) done (string_bytes e.0) t come.1.0.0, come.1.1)
