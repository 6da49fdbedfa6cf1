-- Terms that have none of the forms.
use Rattle.std.specs.Prelude.{◌≡◌, ◌<◌, ◌≢◌, ◌&&◌, ℕ, List, [], ◌∷◌, false, map, length, bytes_eq, codes, None}
use Rattle.std.proofs.Common.{arith, refl, inl, inr}
use Rattle.std.proofs.lemmas.Bool.{cases_Bool}
use Rattle.std.proofs.lemmas.Slice.Eq.{bytes_eq-Decides}
use Rattle.json_terms.specs.declared.term.Member.{Member}
use Rattle.json_terms.specs.declared.term.Term.{Term}
use Rattle.json_terms.specs.Json.{Json, object, array, members_of, items_of}
use Rattle.json_terms.specs.Seen.{json, pair_of}
use Rattle.view_engine.specs.Requests.{form_of, form_of_one, form_of_two, view_name_in}

pub form_of-many : (ms : List Member) → 3 < length ms → form_of (object (members_of (map pair_of ms))) ≡ None
form_of-many [] many = absurd (omega arith)
form_of-many (a ∷ []) many = absurd (omega arith)
form_of-many (a ∷ b ∷ []) many = absurd (omega arith)
form_of-many (a ∷ b ∷ c ∷ []) many = absurd (omega arith)
form_of-many (a ∷ b ∷ c ∷ d ∷ ms) many = refl

pub view_name_in-other : (ts : List Term) → length ts ≢ 2 → view_name_in (array (items_of (map json ts))) ≡ None
view_name_in-other [] other = refl
view_name_in-other (a ∷ []) other = refl
view_name_in-other (a ∷ b ∷ []) other = absurd (other refl)
view_name_in-other (a ∷ b ∷ c ∷ ts) other = refl

-- texts that differ
unlike : (s t : List ℕ) → s ≢ t → bytes_eq s t ≡ false
unlike s t differ = elim (cases_Bool (bytes_eq s t)) [ inl same ↦ absurd (differ ((bytes_eq-Decides s t).0 same)) | inr other ↦ other ]

pub form_of_one-other : (text name : List ℕ) (value : Json) → text ≡ name
    → text ≢ codes "all_docs" → text ≢ codes "cleanup" → text ≢ codes "close" → text ≢ codes "compact" → text ≢ codes "compact_docs"
    → text ≢ codes "delete" → text ≢ codes "get" → text ≢ codes "info" → text ≢ codes "put" → text ≢ codes "view"
    → None ≡ form_of_one name value
form_of_one-other text name value same a b c d e f g h i j =
    rw (← same, unlike text _ a, unlike text _ b, unlike text _ c, unlike text _ d, unlike text _ e, unlike text _ f, unlike text _ g, unlike text _ h, unlike text _ i, unlike text _ j) refl

pub form_of_two-other : (first : List ℕ) (x : Json) (second : List ℕ) (y : Json)
    → (bytes_eq first (codes "compact_step") && bytes_eq second (codes "rows")) ≡ false
    → (bytes_eq first (codes "count") && bytes_eq second (codes "next")) ≡ false
    → (bytes_eq first (codes "cursor") && bytes_eq second (codes "view")) ≡ false
    → (bytes_eq first (codes "delete") && bytes_eq second (codes "rev")) ≡ false
    → (bytes_eq first (codes "query") && bytes_eq second (codes "view")) ≡ false
    → None ≡ form_of_two first x second y
form_of_two-other first x second y a b c d e = rw (a, b, c, d, e) refl
