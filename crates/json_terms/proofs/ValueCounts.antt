-- A term that is read has no more values in its arrays than its text has bytes.
use Rattle.std.proofs.Common.{◌≡◌, ℕ, zero, suc, ◌+◌, ◌<◌, ◌≤◌, List, [], ◌∷◌, length, Bool, true, false, nat_le, if◌then◌else◌, Option, Some, None, option_map, option_and_then, Ok, Err, refl, sym, ap, ◌∙◌, arith}
use Rattle.std.specs.Str.{is_utf8}
use Rattle.json.specs.Json as json
use Rattle.json.specs.Json.{Parse, after_end_array, if_last, items, items_step, parse_map, value, value_with}
use Rattle.json.specs.Lex as lex
use Rattle.json.specs.Lex.{Class, Lexeme, Mode, Place, class, if_allowed, lex_byte, may_begin, may_close, place_token, punctuate, tokens}
use Rattle.json.specs.Token as token
use Rattle.json.specs.Token.{Token}
use Rattle.json.proofs.Grammar.{Takes, after_end_array-shorter, left, skip_value-shorter}
use Rattle.serde_json.specs.Data as serde
use Rattle.serde_json.specs.Find.{as_i64}
use Rattle.serde_json.specs.Read.{max_depth, number_of, of_items, of_json, of_members, read}
use Rattle.json_terms.specs.declared.fault.TermFault.TheVariants.{TooDeep}
use Rattle.json_terms.specs.Json.{Json, number, is_false, is_null, is_true, object, array, string, Items, no_items, item, depth}
use Rattle.json_terms.specs.Reading.{data_of, depth_limit, items_value_of, members_value_of, reading, unless_fractional, unless_unread, value_of}

-- ---- how many values stand in arrays, the whole one included

abbrev mutual
  parsed_values : json.Json → ℕ
  parsed_values json.null = 1
  parsed_values (json.boolean b) = 1
  parsed_values (json.number s) = 1
  parsed_values (json.string s) = 1
  parsed_values (json.array js) = suc (parsed_items js)
  parsed_values (json.object ms) = 1

  parsed_items : json.Items → ℕ
  parsed_items json.no_items = 0
  parsed_items (json.item j js) = parsed_values j + parsed_items js

abbrev mutual
  data_values : serde.Data → ℕ
  data_values serde.null = 1
  data_values (serde.boolean b) = 1
  data_values (serde.number n) = 1
  data_values (serde.string s) = 1
  data_values (serde.array ds) = suc (data_items ds)
  data_values (serde.object ms) = 1

  data_items : serde.Items → ℕ
  data_items serde.no_items = 0
  data_items (serde.item d ds) = data_values d + data_items ds

abbrev mutual
  pub values_in : Json → ℕ
  values_in (number n) = 1
  values_in is_false = 1
  values_in is_null = 1
  values_in is_true = 1
  values_in (object ms) = 1
  values_in (array ts) = suc (values_in_items ts)
  values_in (string s) = 1

  pub values_in_items : Items → ℕ
  values_in_items no_items = 0
  values_in_items (item t ts) = values_in t + values_in_items ts

-- ---- options

pub mapped_some : {A B : Type 0} (f : A → B) (o : Option A) (b : B) → option_map f o ≡ Some b → (a : A) × (o ≡ Some a) × (f a ≡ b)
mapped_some f None b e = absurd cc
mapped_some f (Some a) b e = (a, refl, cc)

pub then_some : {A B : Type 0} (f : A → Option B) (o : Option A) (b : B) → option_and_then f o ≡ Some b → (a : A) × (o ≡ Some a) × (f a ≡ Some b)
then_some f None b e = absurd cc
then_some f (Some a) b e = (a, refl, e)

same_parse : {A : Type 0} (a b : A) (r s : List Token) → ◌≡◌ {A = Option (A × List Token)} (Some (a, r)) (Some (b, s)) → (a ≡ b) × (r ≡ s)
same_parse {A} a b r s e =
    let p : A × List Token = (a, r) in
    let q : A × List Token = (b, s) in
    let both : p ≡ q = cc in
    (ap (λ (q : A × List Token). q.0) both, ap (λ (q : A × List Token). q.1) both)

parsed_some : {A B : Type 0} (f : A → B) (o : Option (A × List Token)) (b : B) (r : List Token) → parse_map f o ≡ Some (b, r) → (a : A) × (o ≡ Some (a, r)) × (f a ≡ b)
parsed_some f None b r e = absurd cc
parsed_some f (Some p) b r e = let both = same_parse (f p.0) b p.1 r e in (p.0, ap (λ s. Some (p.0, s)) both.1, both.0)

-- ---- the grammar

abbrev Within : {A : Type 0} → (A → ℕ) → Parse A → Type 0
Within {A} count p = (ts : List Token) (a : A) (r : List Token) → p ts ≡ Some (a, r) → count a + length r ≤ length ts

module _ (p : Parse json.Json) (within : Within parsed_values p) where
  item_turn : (more : Parse json.Items) → Within parsed_items more → (ts : List Token) (js : json.Items) (r : List Token) (o : Option (List Token)) → after_end_array ts ≡ o → items_step p more ts o ≡ Some (js, r)
      → parsed_items js + length r ≤ length ts
  item_turn more again ts js r (Some x) ends e =
      let both = same_parse json.no_items js x r e in
      let none : 0 ≡ parsed_items js = ap parsed_items both.0 in
      let rest : length x ≡ length r = ap (λ (l : List Token). length l) both.1 in
      omega (arith, none, rest, after_end_array-shorter ts x ends)
  item_turn more again ts js r None ends e =
      let first = then_some (λ q. parse_map (json.item q.0) (more q.1)) (p ts) (js, r) e in
      let j = first.0 in
      let others = parsed_some (json.item j.0) (more j.1) js r first.2 in
      let here = within ts j.0 j.1 first.1 in
      let there = again j.1 others.0 r others.1 in
      let whole : parsed_values j.0 + parsed_items others.0 ≡ parsed_items js = ap parsed_items others.2 in
      omega (arith, here, there, whole)

  within_items : (n : ℕ) → Within parsed_items (items p n)
  unfolding items
  within_items zero ts js r e = absurd cc
  within_items (suc n) ts js r e = item_turn (items p n) (within_items n) ts js r (after_end_array ts) refl e

one_value : (j : json.Json) (r ts : List Token) → parsed_values j ≡ 1 → length r < length ts → parsed_values j + length r ≤ length ts
one_value j r ts one less = omega (arith, one, less)

within_value_with : (a : Parse json.Items) (o : Parse json.Members) → Within parsed_items a → Takes (value_with a o) → Within parsed_values (value_with a o)
within_value_with a o within takes [] j r e = absurd cc
within_value_with a o within takes (token.begin_object ∷ ts) j r e =
    let made = parsed_some json.object (o ts) j r e in
    one_value j r (token.begin_object ∷ ts) (ap parsed_values (sym made.2)) (takes (token.begin_object ∷ ts) r (ap left e))
within_value_with a o within takes (token.end_object ∷ ts) j r e = absurd cc
within_value_with a o within takes (token.begin_array ∷ ts) j r e =
    let made = parsed_some json.array (a ts) j r e in
    let here = within ts made.0 r made.1 in
    let whole : suc (parsed_items made.0) ≡ parsed_values j = ap parsed_values made.2 in
    omega (arith, here, whole)
within_value_with a o within takes (token.end_array ∷ ts) j r e = absurd cc
within_value_with a o within takes (token.key s ∷ ts) j r e = absurd cc
within_value_with a o within takes (token.string s ∷ ts) j r e = one_value j r (token.string s ∷ ts) (ap parsed_values (sym (same_parse (json.string s) j ts r e).0)) (takes (token.string s ∷ ts) r (ap left e))
within_value_with a o within takes (token.number s ∷ ts) j r e = one_value j r (token.number s ∷ ts) (ap parsed_values (sym (same_parse (json.number s) j ts r e).0)) (takes (token.number s ∷ ts) r (ap left e))
within_value_with a o within takes (token.boolean b ∷ ts) j r e = one_value j r (token.boolean b ∷ ts) (ap parsed_values (sym (same_parse (json.boolean b) j ts r e).0)) (takes (token.boolean b ∷ ts) r (ap left e))
within_value_with a o within takes (token.null ∷ ts) j r e = one_value j r (token.null ∷ ts) (ap parsed_values (sym (same_parse json.null j ts r e).0)) (takes (token.null ∷ ts) r (ap left e))
within_value_with a o within takes (token.bad ∷ ts) j r e = absurd cc

within_value : (deep : ℕ) → Within parsed_values (value deep)
unfolding value
within_value zero = within_value_with (λ ts. None) (λ ts. None) (λ ts js r e. absurd cc) (skip_value-shorter zero)
within_value (suc deep) =
    within_value_with (λ ts. items (value deep) (length ts) ts) (λ ts. json.members (value deep) (length ts) ts)
    (λ ts. within_items (value deep) (within_value deep) (length ts) ts) (skip_value-shorter (suc deep))

-- ---- the same of what is made of it

mutual
  of_json_values : (j : json.Json) (d : serde.Data) → of_json j ≡ Some d → data_values d ≡ parsed_values j
  of_json_values json.null d e = let same : serde.null ≡ d = cc in ap data_values (sym same)
  of_json_values (json.boolean b) d e = let same : serde.boolean b ≡ d = cc in ap data_values (sym same)
  of_json_values (json.number s) d e = let made = mapped_some serde.number (number_of s) d e in ap data_values (sym made.2)
  of_json_values (json.string s) d e = let same : serde.string s ≡ d = cc in ap data_values (sym same)
  of_json_values (json.array js) d e =
      let made = mapped_some serde.array (of_items js) d e in
      ap data_values (sym made.2) ∙ ap suc (of_items_values js made.0 made.1)
  of_json_values (json.object ms) d e = let made = mapped_some serde.object (of_members ms serde.no_members) d e in ap data_values (sym made.2)

  of_items_values : (js : json.Items) (ds : serde.Items) → of_items js ≡ Some ds → data_items ds ≡ parsed_items js
  of_items_values json.no_items ds e = let same : serde.no_items ≡ ds = cc in ap data_items (sym same)
  of_items_values (json.item j js) ds e =
      let first = then_some (λ d. option_map (serde.item d) (of_items js)) (of_json j) ds e in
      let others = mapped_some (serde.item first.0) (of_items js) ds first.2 in
      let here = of_json_values j first.0 first.1 in
      let there = of_items_values js others.0 others.1 in
      ap data_items (sym others.2) ∙ (λ i. here i + there i)

mutual
  value_of_values : (d : serde.Data) (t : Json) → value_of d ≡ Some t → values_in t ≡ data_values d
  value_of_values serde.null t e = let same : is_null ≡ t = cc in ap values_in (sym same)
  value_of_values (serde.boolean true) t e = let same : is_true ≡ t = cc in ap values_in (sym same)
  value_of_values (serde.boolean false) t e = let same : is_false ≡ t = cc in ap values_in (sym same)
  value_of_values (serde.number n) t e = let made = mapped_some number (as_i64 n) t e in ap values_in (sym made.2)
  value_of_values (serde.string s) t e = let same : string s ≡ t = cc in ap values_in (sym same)
  value_of_values (serde.array ds) t e =
      let made = mapped_some array (items_value_of ds) t e in
      ap values_in (sym made.2) ∙ ap suc (items_value_of_values ds made.0 made.1)
  value_of_values (serde.object ms) t e = let made = mapped_some object (members_value_of ms) t e in ap values_in (sym made.2)

  items_value_of_values : (ds : serde.Items) (ts : Items) → items_value_of ds ≡ Some ts → values_in_items ts ≡ data_items ds
  items_value_of_values serde.no_items ts e = let same : no_items ≡ ts = cc in ap values_in_items (sym same)
  items_value_of_values (serde.item d ds) ts e =
      let first = then_some (λ t. option_map (item t) (items_value_of ds)) (value_of d) ts e in
      let others = mapped_some (item first.0) (items_value_of ds) ts first.2 in
      let here = value_of_values d first.0 first.1 in
      let there = items_value_of_values ds others.0 others.1 in
      ap values_in_items (sym others.2) ∙ (λ i. here i + there i)

-- ---- the tokens of a text

lexed : (m : Mode) (c : Class) (x : ℕ) (xs : List ℕ) (k : Mode → List Lexeme) → ((n : Mode) → length (k n) ≤ length xs) → length (lex_byte m c x xs k) ≤ suc (length xs)
lexed lex.between lex.quote x xs k h = let e = h lex.in_string in omega (arith, e)
lexed lex.between lex.backslash x xs k h = let e = h lex.in_word in omega (arith, e)
lexed lex.between lex.operator x xs k h = let e = h lex.between in omega (arith, e)
lexed lex.between lex.space x xs k h = let e = h lex.between in omega (arith, e)
lexed lex.between lex.other x xs k h = let e = h lex.in_word in omega (arith, e)
lexed lex.in_word lex.quote x xs k h = let e = h lex.in_word in omega (arith, e)
lexed lex.in_word lex.backslash x xs k h = let e = h lex.in_word in omega (arith, e)
lexed lex.in_word lex.operator x xs k h = let e = h lex.between in omega (arith, e)
lexed lex.in_word lex.space x xs k h = let e = h lex.between in omega (arith, e)
lexed lex.in_word lex.other x xs k h = let e = h lex.in_word in omega (arith, e)
lexed lex.in_string lex.quote x xs k h = let e = h lex.between in omega (arith, e)
lexed lex.in_string lex.backslash x xs k h = let e = h lex.in_escape in omega (arith, e)
lexed lex.in_string lex.operator x xs k h = let e = h lex.in_string in omega (arith, e)
lexed lex.in_string lex.space x xs k h = let e = h lex.in_string in omega (arith, e)
lexed lex.in_string lex.other x xs k h = let e = h lex.in_string in omega (arith, e)
lexed lex.in_escape c x xs k h = let e = h lex.in_string in omega (arith, e)

length-lex : (m : Mode) (xs : List ℕ) → length (lex.lex m xs) ≤ length xs
unfolding lex.lex
length-lex m [] = omega arith
length-lex m (x ∷ xs) = lexed m (class x) x xs (λ next. lex.lex next xs) (λ next. length-lex next xs)

allowed : (b : Bool) (t : Token) (k : Place → List Token) (next : Place) (n : ℕ) → length (k next) ≤ suc n → length (if_allowed b t k next) ≤ suc (suc n)
allowed true t k next n h = omega (arith, h)
allowed false t k next n h = omega arith

placed : (p : Place) (t : Token) (before_colon : Bool) (k : Place → List Token) (n : ℕ) → ((next : Place) → length (k next) ≤ suc n) → length (place_token p t before_colon k) ≤ suc (suc n)
placed p token.begin_object before_colon k n h = allowed (may_begin p) token.begin_object k lex.fresh n (h lex.fresh)
placed p token.end_object before_colon k n h = allowed (may_close p) token.end_object k lex.after_value n (h lex.after_value)
placed p token.begin_array before_colon k n h = allowed (may_begin p) token.begin_array k lex.fresh n (h lex.fresh)
placed p token.end_array before_colon k n h = allowed (may_close p) token.end_array k lex.after_value n (h lex.after_value)
placed p (token.key s) before_colon k n h = omega arith
placed p (token.string s) true k n h = allowed (may_begin p) (token.key s) k lex.after_key n (h lex.after_key)
placed p (token.string s) false k n h = allowed (may_begin p) (token.string s) k lex.after_value n (h lex.after_value)
placed p (token.number s) before_colon k n h = allowed (may_begin p) (token.number s) k lex.after_value n (h lex.after_value)
placed p (token.boolean b) before_colon k n h = allowed (may_begin p) (token.boolean b) k lex.after_value n (h lex.after_value)
placed p token.null before_colon k n h = allowed (may_begin p) token.null k lex.after_value n (h lex.after_value)
placed p token.bad before_colon k n h = omega arith

length-punctuate : (p : Place) (ls : List Lexeme) → length (punctuate p ls) ≤ suc (length ls)
unfolding punctuate
length-punctuate lex.fresh [] = omega arith
length-punctuate lex.after_value [] = omega arith
length-punctuate lex.after_comma [] = omega arith
length-punctuate lex.after_key [] = omega arith
length-punctuate lex.fresh (lex.token t ∷ ls) = placed lex.fresh t (lex.begins_colon ls) (λ next. punctuate next ls) (length ls) (λ next. length-punctuate next ls)
length-punctuate lex.after_value (lex.token t ∷ ls) = placed lex.after_value t (lex.begins_colon ls) (λ next. punctuate next ls) (length ls) (λ next. length-punctuate next ls)
length-punctuate lex.after_comma (lex.token t ∷ ls) = placed lex.after_comma t (lex.begins_colon ls) (λ next. punctuate next ls) (length ls) (λ next. length-punctuate next ls)
length-punctuate lex.after_key (lex.token t ∷ ls) = placed lex.after_key t (lex.begins_colon ls) (λ next. punctuate next ls) (length ls) (λ next. length-punctuate next ls)
length-punctuate lex.fresh (lex.comma ∷ ls) = omega arith
length-punctuate lex.after_value (lex.comma ∷ ls) = let e = length-punctuate lex.after_comma ls in omega (arith, e)
length-punctuate lex.after_comma (lex.comma ∷ ls) = omega arith
length-punctuate lex.after_key (lex.comma ∷ ls) = omega arith
length-punctuate lex.fresh (lex.colon ∷ ls) = omega arith
length-punctuate lex.after_value (lex.colon ∷ ls) = omega arith
length-punctuate lex.after_comma (lex.colon ∷ ls) = omega arith
length-punctuate lex.after_key (lex.colon ∷ ls) = let e = length-punctuate lex.fresh ls in omega (arith, e)

-- ---- the term that a text reads as

last_of : (j k : json.Json) (r : List Token) → if_last j r ≡ Some k → j ≡ k
last_of j k [] e = cc
last_of j k (t ∷ ts) e = absurd cc

read_values : (text : List ℕ) (d : serde.Data) → read text ≡ Some d → data_values d ≤ suc (length text)
read_values text d e =
    let made = then_some of_json (option_and_then (λ p. if_last p.0 p.1) (value max_depth (tokens text))) d e in
    let parsed = then_some (λ p. if_last p.0 p.1) (value max_depth (tokens text)) made.0 made.1 in
    let same : parsed_values (parsed.0).0 ≡ parsed_values made.0 = ap parsed_values (last_of (parsed.0).0 made.0 (parsed.0).1 parsed.2) in
    omega (arith, of_json_values made.0 d made.2, same, within_value max_depth (tokens text) (parsed.0).0 (parsed.0).1 parsed.1, length-punctuate lex.fresh (lex.lex lex.between text), length-lex lex.between text)

deep_value : (t u : Json) (b : Bool) → (if b then Ok t else Err TooDeep) ≡ Ok u → t ≡ u
deep_value t u true e = cc
deep_value t u false e = absurd cc

unread_value : (o : Option serde.Data) (t : Json) → unless_unread o ≡ Ok t → (d : serde.Data) × (o ≡ Some d) × (value_of d ≡ Some t)
unread_value None t e = absurd cc
unread_value (Some d) t e = (d, refl, whole (value_of d) refl e)
  where
    whole : (o : Option Json) → value_of d ≡ o → unless_fractional o ≡ Ok t → value_of d ≡ Some t
    whole None is f = absurd cc
    whole (Some u) is f = is ∙ ap Some (deep_value u t (nat_le (depth u) depth_limit) f)

utf8_data : (b : Bool) (text : List ℕ) (d : serde.Data) → (if b then read text else None) ≡ Some d → read text ≡ Some d
utf8_data true text d e = e
utf8_data false text d e = absurd cc

-- there is one value more than bytes at most
pub values_in-reading : (text : List ℕ) (t : Json) → reading text ≡ Ok t → values_in t ≤ suc (length text)
unfolding reading
values_in-reading text t e =
    let made = unread_value (data_of text) t e in
    let here = read_values text made.0 (utf8_data (is_utf8 text) text made.0 made.1) in
    omega (arith, here, value_of_values made.0 t made.2)
