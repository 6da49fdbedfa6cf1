-- What the pool's calls come to.
use Rattle.std.proofs.Common.{◌≡◌, ◌<◌, ◌≤◌, ℕ, max, List, [], true, inl, inr, Option, Some, None, MatchOption, Ok, Err, refl, sym, ap, ◌∙◌, subst, arith}
use Rattle.std.specs.Str.{bytes_eq}
use Rattle.std.proofs.lemmas.Bool.{cases_Bool, cases_lt}
use Rattle.std.proofs.lemmas.Slice.Eq.{bytes_eq-Decides}
use Rattle.json_terms.specs.Json.{Json}
use Rattle.view_ports.specs.Calls.{Call, Session, child, session}
use Rattle.view_ports.specs.Functions.{Functions}
use Rattle.child_pool.specs.declared.doc_rows.DocRowLists.{DocRowLists}
use Rattle.child_pool.specs.declared.pool.Pool.{Pool}
use Rattle.child_pool.specs.declared.pool.Started.{Started}
use Rattle.child_pool.specs.declared.pool_fault.PoolFault.{PoolFault}
use Rattle.child_pool.specs.Histories.{AllStops, Went, WentIn}
use Rattle.child_pool.specs.Jobs.{Job}
use Rattle.child_pool.specs.PoolCalls.{AreLeft}
use Rattle.child_pool.specs.Pools.{AfterBatch, AfterMapping, AfterReadying, AfterTrying, AreRowsOf, AreStopped, AreThere, AreTold, HasItsChildren, HasItsReducer, IsKept, IsKeptOf, KeepsReducer, StandReady}
use Rattle.child_pool.specs.Prompts.{document_prompts, slots_prompts}
use Rattle.child_pool.specs.Sessions.{IsThere}
use Rattle.child_pool.specs.Tries.{AllAnswered}
use Rattle.child_pool.proofs.Batches.{no_rows}
use Rattle.child_pool.proofs.Refusals.{given_up}
use Rattle.child_pool.proofs.Slots.{map_in, none_in, on_then, stays_elsewhere, went_in}

-- what holds of a path and its sources holds of equal ones
pub for_job : (G : List ℕ → List (List ℕ) → Type 0) {path other : List ℕ} {sources others : List (List ℕ)} → path ≡ other → sources ≡ others → G path sources → G other others
for_job G {path = path} {other = other} {sources = sources} {others = others} is are g = subst (λ (s : List (List ℕ)). G other s) are (subst (λ (p : List ℕ). G p sources) is g)

-- a language has one path
pub one_path : (found : Option (List ℕ)) (path other : List ℕ) → found ≡ Some path → found ≡ Some other → path ≡ other
one_path found path other is same = let both : Some path ≡ Some other = sym is ∙ same in cc

abbrev pub Stands : Pool → List Call → Option Started → Type 0
Stands pool calls o = MatchOption o (Unit {0}) (λ started. (started.count ≤ pool.width) × AreThere started.path started.count calls)

-- the children that the pool remembers are there
pub children_there : (pool : Pool) (path : List ℕ) (count : ℕ) (calls : List Call) → IsKept pool path count → HasItsChildren pool calls → (count ≤ pool.width) × AreThere path count calls
children_there pool path count calls is stands = subst (Stands pool calls) is stands.mapping

-- those of this path, where there may be none
pub kept_there : (pool : Pool) (path : List ℕ) (count : ℕ) (calls : List Call) → IsKeptOf pool path count → HasItsChildren pool calls → (count ≤ pool.width) × AreThere path count calls
kept_there pool path count calls kept stands = elim kept [
  | inl is ↦ children_there pool path count calls is stands
  | inr none ↦ (omega (arith, none.0), λ slot never. absurd (omega (arith, none.0)))
]

pub stands_kept : (pool : Pool) (path : List ℕ) (count : ℕ) (calls : List Call) → IsKept pool path count → count ≤ pool.width → AreThere path count calls → HasItsReducer pool calls → HasItsChildren pool calls
stands_kept pool path count calls is within there reducer = record { mapping = subst (Stands pool calls) (sym is) (within, there); reducing = reducer }

-- the pool remembers some number of children of each path
pub some_kept : (pool : Pool) (path : List ℕ) (o : Option Started) → pool.started ≡ o → (kept : ℕ) × IsKeptOf pool path kept
some_kept pool path None is = (0, inr (refl, λ other kept. let never = sym is ∙ kept in cc))
some_kept pool path (Some started) is = elim (cases_Bool (bytes_eq started.path path)) [
  | inl same ↦
      let mine : started.path ≡ path = (bytes_eq-Decides started.path path).0 same in
      (started.count, inl (is ∙ ap (λ (p : List ℕ). Some (record { path = p; count = started.count })) mine))
  | inr apart ↦ (
    0,
    inr (
      refl,
      λ other kept.
          let both : Some started ≡ Some (record { path = path; count = other }) = sym is ∙ kept in
          let one : started ≡ record { path = path; count = other } = cc in
          let mine : started.path ≡ path = ap (λ (s : Started). s.path) one in
          let equal : bytes_eq started.path path ≡ true = (bytes_eq-Decides started.path path).1 mine in
          cc,
    ),
  )
]

-- children that have the sources stand ready
pub told_stand : (functions : List ℕ → Functions) (honest : List ℕ → Type 0) (job : Job) (slots : ℕ) (calls : List Call) → AreTold functions honest job slots calls → StandReady functions honest job slots slots calls
told_stand functions honest job slots calls told = record { told = told; there = λ slot below. (job.sources, (told slot below).idle) }

-- a child was started by one path
one_child_path : (path other : List ℕ) (calls : List Call) → IsThere path 0 calls → IsThere other 0 calls → path ≡ other
one_child_path path other calls first second =
    let both : Some (session path first.0 [] 0 true) ≡ Some (session other second.0 [] 0 true) = sym first.1.is ∙ second.1.is in
    let same : session path first.0 [] 0 true ≡ session other second.0 [] 0 true = cc in
    ap (λ (st : Session). st.path) same

-- where one child maps, and a child of one path is in its slot before and now, what the pool remembers of that slot is there now
one_stays : (pool : Pool) (path : List ℕ) (before now : List Call) → IsThere path 0 before → IsThere path 0 now → (o : Option Started) → pool.width ≡ 1 → Stands pool before o → Stands pool now o
one_stays pool path before now was is None one stands = tt
one_stays pool path before now was is (Some started) one stands = (stands.0, there)
  where
    there : AreThere started.path started.count now
    there slot below =
        let first : 0 ≡ slot = omega (arith, one, stands.0, below) in
        let same = one_child_path path started.path before was (stands.1 0 (omega (arith, below))) in
        subst (λ (at : ℕ). IsThere started.path at now) first (subst (λ (p : List ℕ). IsThere p 0 now) same is)

-- ---- the child that reduces

-- a child that is remembered at the width is there
abbrev pub StandsAt : ℕ → List Call → Option (List ℕ) → Type 0
StandsAt width calls o = MatchOption o (Unit {0}) (λ path. IsThere path width calls)

stays_at : (o : Option (List ℕ)) (width : ℕ) (before now : List Call) → child width now ≡ child width before → StandsAt width before o → StandsAt width now o
stays_at None width before now same there = tt
stays_at (Some path) width before now same there = (there.0, record { is = same ∙ there.1.is })

-- the child that reduces is there still where its slot is as it was
pub reducer_stays : (old pool : Pool) (before now : List Call) → KeepsReducer old pool → pool.width ≡ old.width → child old.width now ≡ child old.width before → HasItsReducer old before → HasItsReducer pool now
reducer_stays old pool before now keeps wide same there =
    subst (λ (n : ℕ). StandsAt n now pool.reducer) (sym wide) (subst (StandsAt old.width now) (sym keeps) (stays_at old.reducer old.width before now same there))

-- ---- the calls of the pool

module _ (functions : List ℕ → Functions) (honest : List ℕ → Type 0) (job : Job) {follow : List Call → Type 0} {calls : List Call} where
  pub prepared_pool : {width : ℕ} (old : Pool) (slots kept count : ℕ) (rose : Type 0) (pool : Pool) → IsKeptOf old job.path kept → count ≡ max slots kept → count ≤ pool.width → IsKept pool job.path count
      → KeepsReducer old pool → pool.width ≡ old.width → slots ≤ old.width → HasItsReducer old calls
      → WentIn follow job width calls (λ added now. AfterReadying functions honest job kept slots rose (Ok tt) calls added now × (AreThere job.path kept now × AreLeft slots calls now))
      → WentIn follow job width calls (AfterTrying functions honest job old slots rose pool (Ok tt) calls)
  prepared_pool {width = width} old slots kept count rose pool was most within is keeps wide few reducer w =
      map_in w (AfterTrying functions honest job old slots rose pool (Ok tt) calls) (
        (
          kept,
          was,
          (
            w.holds.0.0,
            w.holds.0.1,
            λ some. subst (IsKept pool job.path) most is,
            stands_kept pool job.path count w.now is within there (reducer_stays old pool calls w.now keeps wide (w.holds.1.1 old.width few) reducer),
          ),
        ),
        keeps,
      )
    where
      there : AreThere job.path count w.now
      there slot below = elim (cases_lt slot slots) [
        | inl made ↦ (job.sources, (w.holds.0.0 slot made).idle)
        | inr above ↦ w.holds.1.0 slot (omega (arith, most))
      ]

  -- none is to be made ready
  pub unasked_pool : (old : Pool) (slots : ℕ) (rose : Type 0) → slots ≡ 0 → follow calls → HasItsChildren old calls → WentIn follow job old.width calls (AfterTrying functions honest job old slots rose old (Ok tt) calls)
  unasked_pool old slots rose none follows stands =
      let kept = some_kept old job.path old.started refl in
      none_in follows (AfterTrying functions honest job old slots rose old (Ok tt) calls) (
        (
          kept.0,
          kept.1,
          (
            λ slot below. absurd (omega arith),
            subst (λ (n : ℕ). AllAnswered rose (slots_prompts job.sources kept.0 n) []) (sym none) refl,
            λ some. absurd (omega arith),
            stands,
          ),
        ),
        refl,
      )

  -- they could not be made ready
  pub unprepared_pool : {width : ℕ} (old : Pool) (slots kept : ℕ) (rose : Type 0) (pool : Pool) (f : PoolFault) → IsKeptOf old job.path kept
      → WentIn follow job width calls (λ added now. AfterReadying functions honest job kept slots rose (Err f) calls added now × Unit {0})
      → WentIn follow job width calls (AfterTrying functions honest job old slots rose pool (Err f) calls)
  unprepared_pool {width = width} old slots kept rose pool f was w = map_in w (AfterTrying functions honest job old slots rose pool (Err f) calls) (kept, was, w.holds.0)

  -- no document is to be mapped
  pub unasked_batch : (slots : ℕ) (pool : Pool) (documents : List (List (List ℕ × Json))) (rose : Type 0) (lists : DocRowLists) → documents ≡ [] → lists ≡ [] → follow calls → HasItsChildren pool calls → AreTold functions honest job slots calls
      → WentIn follow job pool.width calls (AfterBatch functions honest job pool.width slots documents rose pool (Ok lists) calls)
  unasked_batch slots pool documents rose lists none nothing follows there told =
      none_in follows (AfterBatch functions honest job pool.width slots documents rose pool (Ok lists) calls) (record {
        there = there;
        told = told;
        answered = subst (λ (d : List (List (List ℕ × Json))). AllAnswered rose (document_prompts job.sources d) []) (sym none) refl;
        rows = subst (λ (d : List (List (List ℕ × Json))). AreRowsOf functions honest job.path job.sources d lists) (sym none)
            (subst (λ (l : DocRowLists). AreRowsOf functions honest job.path job.sources [] l) (sym nothing) (no_rows functions honest job));
      })

  -- a batch that was mapped by the one child
  pub mapped_pool : (slots kept : ℕ) (pool : Pool) → pool.width ≡ 1 → 0 < slots → (documents : List (List (List ℕ × Json))) (rose : Type 0) (lists : DocRowLists) → HasItsChildren pool calls → AreTold functions honest job slots calls
      → Went follow job 0 calls (AfterMapping functions honest job slots kept documents rose (Ok lists) calls)
      → WentIn follow job pool.width calls (AfterBatch functions honest job pool.width slots documents rose pool (Ok lists) calls)
  mapped_pool slots kept pool one first documents rose lists there told w =
      let some : 0 < pool.width = omega arith in
      let reducer = reducer_stays pool pool calls w.now refl refl (stays_elsewhere w pool.width (omega arith)) there.reducing in
      went_in some w (AfterBatch functions honest job pool.width slots documents rose pool (Ok lists) calls) (record {
        there = record {
          mapping = one_stays pool job.path calls w.now (job.sources, (told 0 first).idle) (job.sources, (w.holds.stand.told 0 first).idle) pool.started one there.mapping;
          reducing = reducer;
        };
        told = w.holds.stand.told;
        answered = w.holds.answered;
        rows = w.holds.rows;
      })

  -- a batch that was refused, and then all children were stopped
  pub refused_pool : {second : List Call → Type 0} (width slots kept : ℕ) → width ≡ 1 → (documents : List (List (List ℕ × Json))) (rose_first rose : Type 0) (pool : Pool) (f : PoolFault) → (rose_first → rose)
      → (w : Went follow job 0 calls (AfterMapping functions honest job slots kept documents rose_first (Err f) calls)) → WentIn second job width w.now (λ added now. AreStopped width pool now × AllStops added)
      → WentIn second job width calls (AfterBatch functions honest job width slots documents rose pool (Err f) calls)
  refused_pool width slots kept one documents rose_first rose pool f g w v =
      let some : 0 < width = omega arith in
      on_then some w v (AfterBatch functions honest job width slots documents rose pool (Err f) calls)
      (given_up functions honest job width (document_prompts job.sources documents) rose_first rose pool f calls w.added v.added v.now g w.holds v.holds.1 v.holds.0)
