-- The first documents of an update were mapped, and the next ones are.
use Rattle.std.proofs.Common.{◌≡◌, ◌⊎◌, ◌<◌, ◌+◌, ◌++◌, ℕ, List, [], ◌∷◌, length, max, Ok, Err, sym, ap, ◌∙◌, subst, inl, inr, arith, append_assoc, append-nil}
use Rattle.std.specs.List.{AllByRecursion, AllZip}
use Rattle.std.proofs.lemmas.List.{length-append, map-append}
use Rattle.json_terms.specs.Json.{Json}
use Rattle.view_ports.specs.Calls.{Call}
use Rattle.view_ports.specs.Functions.{Functions}
use Rattle.query_protocol.specs.Replies.{AreFew}
use Rattle.child_pool.specs.declared.doc_rows.DocRowLists.{DocRowLists}
use Rattle.child_pool.specs.declared.pool.Pool.{Pool}
use Rattle.child_pool.specs.declared.pool_fault.PoolFault.{PoolFault}
use Rattle.child_pool.specs.Firsts.{first_prompts, slots_of, HasMappedFirst}
use Rattle.child_pool.specs.Histories.{WentIn, talk}
use Rattle.child_pool.specs.Jobs.{Job}
use Rattle.child_pool.specs.Mapping.{AreHonestRows, AreParts}
use Rattle.child_pool.specs.Pools.{AfterBatch, AfterPreparing, AreKept, AreRowsOf, HasGivenUp, IsKept, reducer_of}
use Rattle.child_pool.specs.Prompts.{document_prompt, document_prompts, slots_prompts, update_prompts}
use Rattle.child_pool.specs.Talk.{AreTurns, Due, talk_of}
use Rattle.child_pool.specs.Tries.{AllAnswered, Prompt}
use Rattle.child_pool.specs.Updates.{AfterTries, AfterUpdate}
use Rattle.child_pool.proofs.Attempts.{refused_after, refused_before}
use Rattle.child_pool.proofs.Batches.{no_rows}
use Rattle.child_pool.proofs.Refusals.{talk_given_up}
use Rattle.child_pool.proofs.Slots.{map_in, then_in}
use Rattle.child_pool.proofs.Talking.{talk_answered, update_lines}
use Rattle.child_pool.proofs.Trying.{answered_then, answered_wider}
use Rattle.child_pool.proofs.Updated.{Both}

abbrev Documents : Type 0
Documents = List (List (List ℕ × Json))

-- ---- lists

all-append : {X : Type 0} (P : X → Type 0) (xs ys : List X) → AllByRecursion P xs → AllByRecursion P ys → AllByRecursion P (xs ++ ys)
all-append P [] ys all more = more
all-append P (x ∷ xs) ys all more = (all.0, all-append P xs ys all.1 more)

zip-append : {X Y : Type 0} (R : X → Y → Type 0) (xs more : List X) (ys others : List Y) → AllZip R xs ys → AllZip R more others → AllZip R (xs ++ more) (ys ++ others)
zip-append R [] more [] others all rest = rest
zip-append R [] more (y ∷ ys) others all rest = absurd all
zip-append R (x ∷ xs) more [] others all rest = absurd all
zip-append R (x ∷ xs) more (y ∷ ys) others all rest = (all.0, zip-append R xs more ys others all.1 rest)

-- ---- the prompts of the next documents

documents-append : (sources : List (List ℕ)) (done more : Documents) → document_prompts sources done ++ document_prompts sources more ≡ document_prompts sources (done ++ more)
documents-append sources done more = sym (map-append (document_prompt 0 sources) done more)

next_prompts : (job : Job) (width kept : ℕ) (done more : Documents) → first_prompts job width kept done ++ document_prompts job.sources more ≡ first_prompts job width kept (done ++ more)
next_prompts job width kept done more =
    let ready = slots_prompts job.sources kept (slots_of job width) in
    append_assoc ready (document_prompts job.sources done) (document_prompts job.sources more) ∙ ap (λ (p : List Prompt). ready ++ p) (documents-append job.sources done more)

-- those that are left come behind them
left_prompts : (job : Job) (width kept : ℕ) (done rest : Documents) → job.documents ≡ done ++ rest → update_prompts job width kept ≡ first_prompts job width kept done ++ document_prompts job.sources rest
left_prompts job width kept done rest is =
    ap (λ (d : Documents). slots_prompts job.sources kept (slots_of job width) ++ document_prompts job.sources d) is ∙ sym (next_prompts job width kept done rest)

module _ (functions : List ℕ → Functions) (honest : List ℕ → Type 0) (job : Job) where
  rows_next : (done more : Documents) (lists others : DocRowLists) → AreRowsOf functions honest job.path job.sources done lists → AreRowsOf functions honest job.path job.sources more others
      → AreRowsOf functions honest job.path job.sources (done ++ more) (lists ++ others)
  rows_next done more lists others are next = record {
    each = length-append lists others ∙ (λ i. are.each i + next.each i) ∙ sym (length-append done more);
    all = all-append (λ (rows : List (List (Json × Json))). length rows ≡ length job.sources) lists others are.all next.all;
    parts = all-append AreParts lists others are.parts next.parts;
    few = all-append AreFew lists others are.few next.few;
    right = zip-append (AreHonestRows functions honest job.path job.sources) done more lists others are.right next.right;
  }

  module _ (old : Pool) {calls : List Call} where
    -- the children are ready, and no document was mapped
    pub ready_first : {follow : List Call → Type 0} (slots : ℕ) (rose : Type 0) (pool : Pool) → slots ≡ slots_of job old.width → 0 < slots
        → WentIn follow job old.width calls (AfterPreparing functions honest job old slots rose pool (Ok tt) calls)
        → WentIn follow job old.width calls (HasMappedFirst functions honest job old [] rose pool [])
    ready_first {follow = follow} slots rose pool is some was =
        let w : WentIn follow job old.width calls (AfterPreparing functions honest job old (slots_of job old.width) rose pool (Ok tt) calls) =
        subst (λ (n : ℕ). WentIn follow job old.width calls (AfterPreparing functions honest job old n rose pool (Ok tt) calls)) is was in
        let first : 0 < slots_of job old.width = subst (λ (n : ℕ). 0 < n) is some in
        let kept = w.holds.0.0 in
        let prepared = w.holds.0.2 in
        map_in w (HasMappedFirst functions honest job old [] rose pool []) (record {
          is_ready = record { remembered = (max (slots_of job old.width) kept, omega arith, prepared.2 first); there = prepared.3; told = prepared.0 };
          tried = (
            kept,
            w.holds.0.1,
            record {
              answered = subst (λ (prompts : List Prompt). AllAnswered rose prompts w.added) (sym (append-nil (slots_prompts job.sources kept (slots_of job old.width)))) prepared.1;
              remembers = prepared.2 first;
            },
          );
          reducer = w.holds.1;
          rows = no_rows functions honest job;
        })

    module _ {first second : List Call → Type 0} (done more : Documents) (lists : DocRowLists) (rose_first rose_second rose : Type 0) (wider : rose_first → rose) (later : rose_second → rose) (pool pool' : Pool)
        (w : WentIn first job old.width calls (HasMappedFirst functions honest job old done rose_first pool lists)) where
      -- the next documents were mapped
      pub mapped_next : (others : DocRowLists) → pool' ≡ pool → WentIn second job old.width w.now (AfterBatch functions honest job old.width (slots_of job old.width) more rose_second pool' (Ok others) w.now)
          → WentIn second job old.width calls (HasMappedFirst functions honest job old (done ++ more) rose pool' (lists ++ others))
      mapped_next others same v =
          let tried = w.holds.tried in
          let so_far = first_prompts job old.width tried.0 done in
          let next = document_prompts job.sources more in
          then_in w v (HasMappedFirst functions honest job old (done ++ more) rose pool' (lists ++ others)) (record {
            is_ready = record {
              remembered = subst (λ (p : Pool). AreKept p job.path (slots_of job old.width)) (sym same) w.holds.is_ready.remembered;
              there = v.holds.there;
              told = v.holds.told;
            };
            tried = (
              tried.0,
              tried.1,
              record {
                answered = subst (λ (prompts : List Prompt). AllAnswered rose prompts (v.added ++ w.added)) (next_prompts job old.width tried.0 done more)
                    (answered_then rose so_far next w.added v.added (answered_wider rose_first rose wider so_far w.added tried.2.answered) (answered_wider rose_second rose later next v.added v.holds.answered));
                remembers = subst (λ (p : Pool). IsKept p job.path (max (slots_of job old.width) tried.0)) (sym same) tried.2.remembers;
              },
            );
            reducer = ap (λ (p : Pool). reducer_of p) same ∙ w.holds.reducer;
            rows = rows_next done more lists others w.holds.rows v.holds.rows;
          })

      -- one of them was refused, and so is the update
      pub refused_next : (rest : Documents) → job.documents ≡ (done ++ more) ++ rest → (fault : PoolFault)
          → WentIn second job old.width w.now (AfterBatch functions honest job old.width (slots_of job old.width) more rose_second pool' (Err fault) w.now)
          → Both functions honest job old calls second rose pool' (Err fault)
      refused_next rest is fault v =
          let tried = w.holds.tried in
          let kept = tried.0 in
          let so_far = first_prompts job old.width kept done in
          let next = document_prompts job.sources more in
          let h = v.holds in
          let here = refused_after functions honest job so_far next rose_first rose_second rose wider later fault w.added h.tried calls w.now w.is_now tried.2.answered h.refused in
          let whole : update_prompts job old.width kept ≡ (so_far ++ next) ++ document_prompts job.sources rest =
          left_prompts job old.width kept (done ++ more) rest is ∙ ap (λ (p : List Prompt). p ++ document_prompts job.sources rest) (sym (next_prompts job old.width kept done more)) in
          let all : HasGivenUp functions honest job old.width (update_prompts job old.width kept) rose pool' fault calls (v.added ++ w.added) v.now = record {
            tried = h.tried ++ w.added;
            stops = h.stops;
            is = ap (λ (calls : List Call). calls ++ w.added) h.is ∙ append_assoc h.stops h.tried w.added;
            only = h.only;
            refused = refused_before functions honest job (so_far ++ next) (document_prompts job.sources rest) (update_prompts job old.width kept) rose fault calls (h.tried ++ w.added) whole here;
            stopped = h.stopped;
          } in
          then_in w v (λ added now. AfterTries functions honest job old rose pool' (Err fault) calls added now × AfterUpdate functions honest job old.width rose pool' (Err fault) calls added now)
          ((kept, tried.1, all), talk_given_up functions honest job old.width kept rose pool' fault calls (v.added ++ w.added) v.now old.one_child all)

    -- all documents were mapped
    pub mapped_whole : {follow : List Call → Type 0} (lists : DocRowLists) (rose : Type 0) (pool : Pool) → 0 < slots_of job old.width
        → WentIn follow job old.width calls (HasMappedFirst functions honest job old job.documents rose pool lists) → Both functions honest job old calls follow rose pool (Ok lists)
    mapped_whole lists rose pool some w =
        let h = w.holds in
        let kept = h.tried.0 in
        let answered = h.tried.2.answered in
        let talked : AreTurns (talk_of job.sources job.documents old.width) (talk w.added) ⊎ rose = elim (talk_answered rose (update_prompts job old.width kept) w.added answered) [
          | inl turns ↦ inl (subst (λ (dues : List Due). AreTurns dues (talk w.added)) (update_lines job old.width kept old.one_child) turns)
          | inr counted ↦ inr counted
        ] in
        map_in w (λ added now. AfterTries functions honest job old rose pool (Ok lists) calls added now × AfterUpdate functions honest job old.width rose pool (Ok lists) calls added now) (
          ((kept, h.tried.1, record { answered = answered; remembers = λ documents. h.tried.2.remembers }), h.reducer),
          (
            h.is_ready.there,
            record {
              rows = h.rows;
              compile = λ is_honest documents. (h.is_ready.told 0 some).compile is_honest;
              talked = talked;
            },
            λ documents. h.is_ready.remembered,
          ),
        )
