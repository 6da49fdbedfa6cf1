-- What has changed, page by page.
use Rattle.std.specs.Prelude.{◌≡◌, ◌≢◌, ◌<◌, ◌+◌, ◌-◌, ◌++◌, ◌∷◌, [], ℕ, zero, suc, List, Some, length, map, slice_get, take, All}
use Rattle.std.proofs.Common.{refl, sym, ap, arith}
use Rattle.std.proofs.lemmas.List.Elements.{All-head, All-tail}
use Rattle.doc_file.specs.declared.docs.changes.Change.{Change}
use Rattle.doc_file.specs.Changes.{last_number, numbered}
use Rattle.design_docs.specs.History.{Write, changes_after}
use Rattle.doc_file.specs.Laws.{ChangesGoInPages}
use Rattle.design_docs.proofs.Numbers.{rest_after}

-- behind the first n are those after the last of their numbers
behind_page : (seq : ℕ) (history : List Write) (n : ℕ) (changes : List (ℕ × Write)) → changes_after seq history ≡ changes → changes ≡ take n changes ++ changes_after (last_number seq (take n changes)) history
behind_page seq history zero changes is = sym is
behind_page seq history (suc n) [] is = sym is
behind_page seq history (suc n) (c ∷ rest) is = ap (λ l. c ∷ l) (behind_page c.0 history n rest (sym (rest_after seq history c rest is)))

pub go_in_pages : ChangesGoInPages
go_in_pages history seq n = behind_page seq history n (changes_after seq history) refl

-- the last number of some changes is that of one of them
pub last_after : (low seq : ℕ) (changes : List Change) → changes ≢ [] → All (λ change. low < change.seq) changes → low < last_number seq (map numbered changes)
last_after low seq [] some after = absurd (some refl)
last_after low seq (change ∷ []) some after = All-head (λ (c : Change). low < c.seq) change [] after
last_after low seq (change ∷ next ∷ changes) some after = last_after low change.seq (next ∷ changes) (λ none. cc) (All-tail (λ (c : Change). low < c.seq) change (next ∷ changes) after)

-- it is the last one's
last_at : (seq : ℕ) (changes : List Change) (place : ℕ) (last : Change) → place + 1 ≡ length changes → slice_get changes place ≡ Some last → last_number seq (map numbered changes) ≡ last.seq
last_at seq [] place last long is = absurd (omega (arith, long))
last_at seq (change ∷ []) zero last long is = let same : change ≡ last = cc in ap (λ (c : Change). c.seq) same
last_at seq (change ∷ []) (suc place) last long is = absurd (omega (arith, long))
last_at seq (change ∷ next ∷ changes) zero last long is = absurd (omega (arith, long))
last_at seq (change ∷ next ∷ changes) (suc place) last long is = last_at change.seq (next ∷ changes) place last (omega (arith, long)) is

pub last_is : (seq : ℕ) (changes : List Change) (last : Change) → slice_get changes (length changes - 1) ≡ Some last → last_number seq (map numbered changes) ≡ last.seq
last_is seq [] last is = absurd cc
last_is seq (change ∷ changes) last is = last_at seq (change ∷ changes) (length (change ∷ changes) - 1) last (omega arith) is
