-- Groups that are printed one after another.
use Rattle.std.specs.Prelude.{◌≡◌, ℕ, zero, suc, ◌+◌, ◌-◌, ◌<◌, List, [], ◌∷◌, ◌++◌, Bool, true, false, ◌||◌, refl, drop, length, map, filter, Option, Some, None, option_map}
use Rattle.std.proofs.Common.{ap, sym, ◌∙◌, arith, codes, get_or}
use Rattle.std.proofs.lemmas.List.{drop_more}
use Rattle.json_terms.specs.Json.{Json}
use Rattle.json_terms.specs.Seen.{json}
use Rattle.json_terms.specs.Text.{text_of}
use Rattle.json_terms.specs.declared.term.Row.{Row}
use Rattle.json_terms.specs.declared.term.Term.{Term}
use Rattle.view_ports.specs.Lines.{IsLine}
use Rattle.raw_collation.specs.declared.group.Level.{Level}
use Rattle.raw_collation.specs.Groups.{group_of}
use Rattle.query_args.specs.declared.query.Query.{Query}
use Rattle.view_model.specs.Answer.{group_text, key_of_group}
use Rattle.view_model.specs.Groups.{groups_of_keys, listed_or_runs, one_group, picked_groups, runs}
use Rattle.view_model.specs.Selection.{has_key, limited, is_in_range}
use Rattle.view_model.specs.declared.print.Progress.{Progress}
use Rattle.view_model.specs.Progress.{start_of, walked, due, is_some_list, past}
use Rattle.view_model.proofs.Lines.{line, lines5}
use Rattle.view_model.proofs.Printed.{due_none, due_parts}

-- ---- what a query picks

pub picked_listed : (query : Query) (rows : List Row) (keys others : List Json) → query.keys ≡ Some keys → others ≡ keys
    → due (start_of query) (groups_of_keys rows others) ≡ picked_groups query rows
picked_listed query rows keys others is same =
    ap (λ ks. due (start_of query) (groups_of_keys rows ks)) same ∙ ap (λ ks. limited query.limit (drop query.skip (listed_or_runs ks query rows))) (sym is)

pub picked_ranged : (query : Query) (rows part : List Row) → query.keys ≡ None → part ≡ filter (is_in_range query) rows
    → due (start_of query) (walked query.descending (runs query.level part)) ≡ picked_groups query rows
picked_ranged query rows part is same =
    ap (λ ps. due (start_of query) (walked query.descending (runs query.level ps))) same
    ∙ ap (λ ks. limited query.limit (drop query.skip (listed_or_runs ks query rows))) (sym is)

-- the group of the first key, and those of the rest
pub key_less : (rows group : List Row) (keys : List Term) (place : ℕ) (key : Term) → place < length keys → get_or keys place key ≡ key
    → group ≡ filter (has_key (json key)) rows
    → groups_of_keys rows (map json (drop place keys)) ≡ one_group group ++ groups_of_keys rows (map json (drop (place + 1) keys))
key_less rows group keys place key below here is =
    let rest = drop (place + 1) keys in
    ap (λ ks. groups_of_keys rows (map json ks)) (drop_more keys place key below ∙ ap (λ k. k ∷ rest) here)
    ∙ ap (λ g. one_group g ++ groups_of_keys rows (map json rest)) (sym is)

-- ---- one group more

abbrev made : ℕ → Option ℕ → Bool → Progress
made skip limit printed = record { skip = skip; limit = limit; printed = printed }

made_same : (s t : ℕ) (l m : Option ℕ) (p q : Bool) → s ≡ t → l ≡ m → p ≡ q → made s l p ≡ made t m q
made_same s t l m p q e f g = ap (λ n. made n l p) e ∙ ap (λ o. made t o p) f ∙ ap (λ b. made t m b) g

or_false : (b : Bool) → b ≡ (b || false)
or_false true = refl
or_false false = refl

less_none : (limit : Option ℕ) (n : ℕ) → n ≡ 0 → limit ≡ option_map (λ l. l - n) limit
less_none None n e = refl
less_none (Some l) n e = let f : l ≡ l - n = omega arith in ap (λ k. Some k) f

module _ (A : Type 0) where
  nothing_due : (p : Bool) (xs : List A) → xs ≡ [] → p ≡ (p || is_some_list xs)
  nothing_due p xs none = or_false p ∙ ap (λ ys. p || is_some_list ys) (sym none)

  -- nothing is there
  pub past_nil : (progress : Progress) → progress ≡ past {A = A} progress []
  past_nil progress =
      let e : progress.skip ≡ progress.skip - 0 = omega arith in
      let f : 0 - progress.skip ≡ 0 = omega arith in
      made_same progress.skip (progress.skip - 0) progress.limit (option_map (λ l. l - (0 - progress.skip)) progress.limit) progress.printed
      (progress.printed || is_some_list (due {A = A} progress [])) e (less_none progress.limit (0 - progress.skip) f)
      (nothing_due progress.printed (due progress []) (due_none progress.skip progress.limit))

  -- nothing is due
  over : (limit : Option ℕ) (xs : List A) → limit ≡ Some 0 → limited limit xs ≡ []
  over limit xs done = ap (λ l. limited l xs) done

  pub none_due : (progress : Progress) (xs : List A) → progress.limit ≡ Some 0 → due progress xs ≡ []
  none_due progress xs done = over progress.limit (drop progress.skip xs) done

  skipped : (skip : ℕ) (limit : Option ℕ) (x : A) → 0 < skip → limited limit (drop skip (x ∷ [])) ≡ []
  skipped zero limit x some = absurd (omega arith)
  skipped (suc zero) limit x some = due_none zero limit
  skipped (suc (suc n)) limit x some = due_none (suc n) limit

  pub skipped_due : (progress : Progress) (x : A) → 0 < progress.skip → due progress (x ∷ []) ≡ []
  skipped_due progress x some = skipped progress.skip progress.limit x some

  pub nil_due : (progress : Progress) (xs : List A) → xs ≡ [] → due progress xs ≡ []
  nil_due progress xs none = ap (due progress) none ∙ due_none progress.skip progress.limit

  none_both : (xs ys : List A) → xs ++ ys ≡ [] → (xs ≡ []) × (ys ≡ [])
  none_both [] ys none = (refl, none)
  none_both (x ∷ xs) ys none = absurd (let clash : ⊥ = cc in clash)

  -- where nothing is due of all, nothing is of a part, nor then of the rest
  pub none_parts : (progress : Progress) (part rest all : List A) → all ≡ part ++ rest → due progress all ≡ []
      → (due progress part ≡ []) × (due (past progress part) rest ≡ [])
  none_parts progress part rest all is none =
      none_both (due progress part) (due (past progress part) rest)
      (sym (due_parts progress.skip progress.limit progress.printed part rest) ∙ ap (due progress) (sym is) ∙ none)

  -- it is printed
  taken : (limit : Option ℕ) (x : A) → (limit ≡ Some 0 → ⊥) → limited limit (x ∷ []) ≡ x ∷ []
  taken None x room = refl
  taken (Some zero) x room = absurd (room refl)
  taken (Some (suc zero)) x room = refl
  taken (Some (suc (suc n))) x room = refl

  printed : (skip : ℕ) (limit : Option ℕ) (x : A) → skip ≡ 0 → (limit ≡ Some 0 → ⊥) → limited limit (drop skip (x ∷ [])) ≡ x ∷ []
  printed skip limit x none room = ap (λ n. limited limit (drop n (x ∷ []))) none ∙ taken limit x room

  pub printed_due : (progress : Progress) (x : A) → progress.skip ≡ 0 → (progress.limit ≡ Some 0 → ⊥) → due progress (x ∷ []) ≡ x ∷ []
  printed_due progress x none room = printed progress.skip progress.limit x none room

-- ---- its text

pub key_first : (level : Level) (group : List Row) (d : Row) → 0 < length group → group_of level (json (get_or group 0 d).key) ≡ key_of_group level group
key_first level [] d some = absurd (omega arith)
key_first level (row ∷ rows) d some = refl

pub group_line : (key : Json) (value : List ℕ) → IsLine (text_of key) → IsLine value → IsLine (group_text (key, value))
group_line key value kl vl =
    lines5 (codes "{\"key\":") (text_of key) (codes ",\"value\":") value (codes "}") (line (codes "{\"key\":") refl) kl (line (codes ",\"value\":") refl) vl (line (codes "}") refl)
