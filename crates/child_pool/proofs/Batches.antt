-- Documents are mapped one after another: what one more adds.
use Rattle.std.proofs.Common.{◌≡◌, ◌<◌, ◌≤◌, ◌+◌, ℕ, zero, suc, List, [], ◌∷◌, ◌++◌, length, map, get_or, refl, sym, ap, ◌∙◌, subst, arith}
use Rattle.std.specs.List.{AllByRecursion, AllZip}
use Rattle.std.proofs.lemmas.List.{length-append, map-append}
use Rattle.json_terms.specs.Json.{Json}
use Rattle.view_ports.specs.Calls.{Call}
use Rattle.view_ports.specs.Functions.{Functions, IsMappable, source_limit}
use Rattle.view_ports.specs.Honest.{rows_of}
use Rattle.query_protocol.specs.Replies.{AreFew}
use Rattle.child_pool.specs.declared.pool_fault.PoolFault.{PoolFault}
use Rattle.child_pool.specs.declared.pool_fault.PoolFault.TheVariants.{NoMemory}
use Rattle.child_pool.specs.Histories.{Went}
use Rattle.child_pool.specs.Jobs.{Job}
use Rattle.child_pool.specs.Mapping.{AreBounded, AreBoundedRows, AreHonestRows, AreParts, HasMapped}
use Rattle.child_pool.specs.Pools.{AreRowsOf, HasMappedEach}
use Rattle.child_pool.specs.Refused.{Refused}
use Rattle.child_pool.specs.Sessions.{HasTold, IsThere}
use Rattle.child_pool.specs.Prompts.{document_prompt, document_prompts}
use Rattle.child_pool.specs.Tries.{AllAnswered, IsAnswered, Prompt}
use Rattle.child_pool.proofs.Attempts.{refused_before, refused_then}
use Rattle.child_pool.proofs.Going.{Went-then}
use Rattle.child_pool.proofs.Trying.{answered_one, answered_then, answered_wider, stops_between}

-- ---- lists

pub all_at : {X : Type 0} (P : X → Type 0) (terms : List X) (i : ℕ) (d : X) → i < length terms → AllByRecursion P terms → P (get_or terms i d)
all_at P [] i d within all = absurd (omega arith)
all_at P (t ∷ terms) zero d within all = all.0
all_at P (t ∷ terms) (suc i) d within all = all_at P terms i d (omega arith) all.1

all_more : {X : Type 0} (P : X → Type 0) (xs : List X) (x : X) → AllByRecursion P xs → P x → AllByRecursion P (xs ++ x ∷ [])
all_more P [] x all p = (p, tt)
all_more P (y ∷ xs) x all p = (all.0, all_more P xs x all.1 p)

zip_more : {X Y : Type 0} (R : X → Y → Type 0) (xs : List X) (x : X) (ys : List Y) (y : Y) → AllZip R xs ys → R x y → AllZip R (xs ++ x ∷ []) (ys ++ y ∷ [])
zip_more R [] x [] y all r = (r, tt)
zip_more R [] x (b ∷ ys) y all r = absurd all
zip_more R (a ∷ xs) x [] y all r = absurd all
zip_more R (a ∷ xs) x (b ∷ ys) y all r = (all.0, zip_more R xs x ys y all.1 r)

-- one document's prompt more
one_more : (sources : List (List ℕ)) (documents : List (List (List ℕ × Json))) (document : List (List ℕ × Json))
    → document_prompts sources documents ++ document_prompt 0 sources document ∷ [] ≡ document_prompts sources (documents ++ document ∷ [])
one_more sources documents document = sym (map-append (document_prompt 0 sources) documents (document ∷ []))

-- the rows of documents that can be stored are those of an honest path
pub honest_lists : (functions : List ℕ → Functions) (honest : List ℕ → Type 0) (path : List ℕ) (sources : List (List ℕ)) (documents : List (List (List ℕ × Json))) (lists : List (List (List (Json × Json))))
    → honest path → length sources ≤ source_limit → AllByRecursion IsMappable documents → AllZip (AreHonestRows functions honest path sources) documents lists → lists ≡ map (rows_of (functions path) sources) documents
honest_lists functions honest path sources [] [] is few stored all = refl
honest_lists functions honest path sources [] (rows ∷ lists) is few stored all = absurd all
honest_lists functions honest path sources (document ∷ documents) [] is few stored all = absurd all
honest_lists functions honest path sources (document ∷ documents) (rows ∷ lists) is few stored all =
    let first = all.0 is few stored.0 in
    let others = honest_lists functions honest path sources documents lists is few stored.1 all.1 in
    λ i. first i ∷ others i

-- one document's rows more
pub bounded_more : (sources count : ℕ) (lists : List (List (List (Json × Json)))) (rows : List (List (Json × Json))) → AreBounded sources count lists → AreBoundedRows sources rows → AreBounded sources (count + 1) (lists ++ rows ∷ [])
bounded_more sources count lists rows are more = record {
  each = length-append lists (rows ∷ []) ∙ ap (λ n. n + 1) are.each;
  all = all_more (λ (r : List (List (Json × Json))). length r ≡ sources) lists rows are.all more.each;
  parts = all_more AreParts lists rows are.parts more.parts;
  few = all_more AreFew lists rows are.few more.few;
}

module _ (functions : List ℕ → Functions) (honest : List ℕ → Type 0) (job : Job) where
  -- ---- rows

  pub no_rows : AreRowsOf functions honest job.path job.sources [] []
  no_rows = record { each = refl; all = tt; parts = tt; few = tt; right = tt }

  rows_more : (documents : List (List (List ℕ × Json))) (document : List (List ℕ × Json)) (lists : List (List (List (Json × Json)))) (rows : List (List (Json × Json))) (P : List Call → Type 0) (added now : List Call)
      → AreRowsOf functions honest job.path job.sources documents lists → HasMapped functions honest job 0 document P rows added now
      → AreRowsOf functions honest job.path job.sources (documents ++ document ∷ []) (lists ++ rows ∷ [])
  rows_more documents document lists rows P added now are h = record {
    each = length-append lists (rows ∷ []) ∙ ap (λ n. n + 1) are.each ∙ sym (length-append documents (document ∷ []));
    parts = all_more AreParts lists rows are.parts h.bounded.parts;
    few = all_more AreFew lists rows are.few h.bounded.few;
    all = all_more (λ (r : List (List (Json × Json))). length r ≡ length job.sources) lists rows are.all h.bounded.each;
    right = zip_more (AreHonestRows functions honest job.path job.sources) documents document lists rows are.right h.right;
  }

  module _ {first second : List Call → Type 0} {calls : List Call} where
    pub mapped_more : (slots kept : ℕ) → slots ≤ 1 → kept ≤ 1 → (documents : List (List (List ℕ × Json))) (document : List (List ℕ × Json)) (lists : List (List (List (Json × Json)))) (rows : List (List (Json × Json))) (rose_first rose_second rose : Type 0)
        → (rose_first → rose) → (rose_second → rose) → (w : Went first job 0 calls (HasMappedEach functions honest job slots kept documents rose_first lists))
        (v : Went second job 0 w.now (HasMapped functions honest job 0 document (IsAnswered rose_second (document_prompt 0 job.sources document)) rows))
        → Went second job 0 calls (HasMappedEach functions honest job slots kept (documents ++ document ∷ []) rose (lists ++ rows ∷ []))
    mapped_more slots kept one few documents document lists rows rose_first rose_second rose f g w v =
        let prompt = document_prompt 0 job.sources document in
        let so_far = document_prompts job.sources documents in
        Went-then w v (HasMappedEach functions honest job slots kept (documents ++ document ∷ []) rose (lists ++ rows ∷ [])) (record {
          stand = record {
            told = λ slot below. let first : 0 ≡ slot = omega arith in subst (λ (at : ℕ). HasTold functions honest job.path job.sources at v.now) first v.holds.told;
            there = λ slot below. let first : 0 ≡ slot = omega arith in subst (λ (at : ℕ). IsThere job.path at v.now) first (job.sources, v.holds.told.idle);
          };
          answered = subst (λ (prompts : List Prompt). AllAnswered rose prompts (v.added ++ w.added)) (one_more job.sources documents document)
              (answered_then rose so_far (prompt ∷ []) w.added v.added (answered_wider rose_first rose f so_far w.added w.holds.answered)
              (answered_wider rose_second rose g (prompt ∷ []) v.added (answered_one rose_second prompt v.added v.holds.tried)));
          rows = rows_more documents document lists rows (IsAnswered rose_second prompt) v.added v.now w.holds.rows v.holds;
        })

    -- a document was refused
    pub refused_more : (slots kept : ℕ) (documents : List (List (List ℕ × Json))) (document : List (List ℕ × Json)) (rest all : List (List (List ℕ × Json))) (lists : List (List (List (Json × Json)))) (rose_first rose_second rose : Type 0) (f : PoolFault)
        → all ≡ (documents ++ document ∷ []) ++ rest → (rose_first → rose) → (rose_second → rose) → (w : Went first job 0 calls (HasMappedEach functions honest job slots kept documents rose_first lists))
        (v : Went second job 0 w.now (λ added now. Refused functions honest job (document_prompt 0 job.sources document ∷ []) rose_second f w.now added))
        → Refused functions honest job (document_prompts job.sources all) rose f calls (v.added ++ w.added)
    refused_more slots kept documents document rest all lists rose_first rose_second rose f is one two w v =
        let prompt = document_prompt 0 job.sources document in
        let so_far = document_prompts job.sources documents in
        let here = refused_then functions honest job so_far (prompt ∷ []) rose_first rose_second rose one two f w v w.holds.answered v.holds in
        let wider : document_prompts job.sources all ≡ (so_far ++ prompt ∷ []) ++ document_prompts job.sources rest =
        ap (document_prompts job.sources) is ∙ map-append (document_prompt 0 job.sources) (documents ++ document ∷ []) rest
        ∙ ap (λ (p : List Prompt). p ++ document_prompts job.sources rest) (sym (one_more job.sources documents document)) in
        refused_before functions honest job (so_far ++ prompt ∷ []) (document_prompts job.sources rest) (document_prompts job.sources all) rose f calls (v.added ++ w.added) wider here

  -- memory ran out behind some documents
  pub forgotten_more : {follow : List Call → Type 0} {calls : List Call} (slots kept : ℕ) (documents rest all : List (List (List ℕ × Json))) (lists : List (List (List (Json × Json)))) (rose : Type 0) → all ≡ documents ++ rest
      → (w : Went follow job 0 calls (HasMappedEach functions honest job slots kept documents rose lists)) → Refused functions honest job (document_prompts job.sources all) rose NoMemory calls w.added
  forgotten_more {calls = calls} slots kept documents rest all lists rose is w =
      let so_far = document_prompts job.sources documents in
      let wider : document_prompts job.sources all ≡ so_far ++ document_prompts job.sources rest = ap (document_prompts job.sources) is ∙ map-append (document_prompt 0 job.sources) documents rest in
      refused_before functions honest job so_far (document_prompts job.sources rest) (document_prompts job.sources all) rose NoMemory calls w.added wider
      (record { caused = tt; stops = stops_between rose so_far w.added w.holds.answered })
