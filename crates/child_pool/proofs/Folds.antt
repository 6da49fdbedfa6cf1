-- Values of parts are made one.
use Rattle.std.proofs.Common.{◌≡◌, ◌<◌, ◌≤◌, ◌+◌, ℕ, suc, OnOk, length-append, List, [], ◌∷◌, ◌++◌, length, map, Ok, Err, Result, IfOk, IfErr, false, refl, sym, ap, ◌∙◌, subst, inl, arith, append_assoc, append-nil}
use Rattle.std.specs.List.{AllByRecursion, AllZip}
use Rattle.std.specs.Result.{is_err}
use Rattle.std.proofs.lemmas.List.{length-map, map-append}
use Rattle.json_terms.specs.Json.{Json}
use Rattle.json_terms.specs.Seen.{json}
use Rattle.json_terms.specs.declared.fault.NoMemory.{NoMemory as OutOfMemory}
use Rattle.json_terms.specs.declared.term.Row.{Row}
use Rattle.json_terms.specs.declared.term.Term.{Term}
use Rattle.view_ports.specs.declared.command.Command.{Command}
use Rattle.view_ports.specs.declared.command.Command.TheVariants.{Reduce, Rereduce}
use Rattle.view_ports.specs.declared.servers.Servers.{Ghosts as Servers}
use Rattle.view_ports.specs.Calls.{Call}
use Rattle.view_ports.specs.Commands.{command}
use Rattle.view_ports.specs.Functions.{Functions, IsReduceRowWithinBounds, IsSomeList, IsWithinBounds, joined}
use Rattle.view_ports.specs.ReduceRow.{ReduceRow, reduce_row}
use Rattle.query_protocol.specs.CommandLines.{IsProperCommand}
use Rattle.builtin_reduces.specs.Kept.{IsKept}
use Rattle.child_pool.specs.declared.pool_fault.PoolFault.{PoolFault}
use Rattle.child_pool.specs.declared.reduce_slot.ReduceSlot.{ReduceSlot}
use Rattle.child_pool.specs.Reducing.{IsLineOf, IsReduceLine, ReducesBy}
use Rattle.child_pool.specs.ReduceTalk.{AreRightFor, Blames, Compiles, FoldsIn, IsMadeOf, IsRightFor, IsWholeOf, Rejoins, Stands, Talks}
use Rattle.child_pool.specs.TalkLaws.{fails_behind, goes_both, goes_none, stands_on}

-- ---- lists

pub joined_more : {A : Type 0} (parts : List (List A)) (part : List A) → joined (parts ++ part ∷ []) ≡ joined parts ++ part
joined_more [] part = append-nil part
joined_more (first ∷ parts) part = ap (λ xs. first ++ xs) (joined_more parts part) ∙ sym (append_assoc first (joined parts) part)

some_map : {A B : Type 0} (f : A → B) (xs : List A) → IsSomeList xs → IsSomeList (map f xs)
some_map f [] some = some
some_map f (x ∷ xs) some = tt

some_append : {A : Type 0} (xs ys : List A) → IsSomeList ys → IsSomeList (xs ++ ys)
some_append [] ys some = some
some_append (x ∷ xs) ys some = tt

pub some_long : {A : Type 0} (xs : List A) → 0 < length xs → IsSomeList xs
some_long [] long = absurd (omega arith)
some_long (x ∷ xs) long = tt

all_some_more : {A : Type 0} (parts : List (List A)) (part : List A) → AllByRecursion IsSomeList parts → IsSomeList part → AllByRecursion IsSomeList (parts ++ part ∷ [])
all_some_more [] part all some = (some, tt)
all_some_more (first ∷ parts) part all some = (all.0, all_some_more parts part all.1 some)

some_parts : (f : List ReduceRow → Json) (parts : List (List ReduceRow)) (values : List Json) → values ≡ map f parts → 0 < length values → IsSomeList parts
some_parts f [] values is long = let none : length values ≡ 0 = ap length is in absurd (omega arith)
some_parts f (part ∷ parts) values is long = tt

module _ {C : Type 0} (s : Servers C) (language source : List ℕ) where
  -- the talk stands on behind what was asked
  stands_later : (first slot : ReduceSlot C) → Talks s language source first slot → (path : List ℕ) (calls : List Call) → Stands s language first path calls → (now : List Call) × Stands s language slot path now
  stands_later first slot talks path calls stands =
      let go = talks (source ∷ []) (inl refl) in
      let w = go.talks path calls stands in
      (w.now, stands_on s language (source ∷ []) (λ fault. ⊥) first slot path calls go.keeps stands w)

  -- what is right behind was right before
  pub right_before : (first slot : ReduceSlot C) (rows : List Row) (value : Json) → Talks s language source first slot → IsRightFor s language source slot rows value → IsRightFor s language source first rows value
  right_before first slot rows value talks right = λ path calls stands honest.
      let later = stands_later first slot talks path calls stands in
      right path later.0 later.1 honest

  pub talks_both : (a b c : ReduceSlot C) → Talks s language source a b → Talks s language source b c → Talks s language source a c
  talks_both a b c first second = λ reduces among. goes_both s language reduces a b c (first reduces among) (second reduces among)

  -- a value is had behind some calls
  pub talks_on : (a b c : ReduceSlot C) (result : Result Term PoolFault) → Talks s language source a b → OnOk result (Talks s language source b c) → OnOk result (Talks s language source a c)
  talks_on a b c (Ok value) first second = talks_both a b c first second
  talks_on a b c (Err fault) first second = tt

  -- no value is right for no rows
  pub right_none : (first : ReduceSlot C) → AreRightFor s language source first [] []
  right_none first = λ path calls stands honest. record { parts = []; some = tt; whole = refl; are = refl }

  -- a value is taken in
  pub folds_more : (slot : ReduceSlot C) (values : List Json) (value : Json) → FoldsIn s language source slot values value (values ++ value ∷ [])
  folds_more slot values value = λ first rows more talks right some one path calls stands honest.
      let functions = s.functions path in
      let p = right path calls stands honest in
      let part = map reduce_row more in
      record {
        parts = p.parts ++ part ∷ [];
        some = all_some_more p.parts part p.some (some_map reduce_row more some);
        whole = joined_more p.parts part ∙ ap (λ xs. xs ++ part) p.whole ∙ sym (map-append reduce_row rows more);
        are = ap (λ xs. xs ++ value ∷ []) p.are ∙ ap (λ v. map (functions.reduce_of source) p.parts ++ v ∷ []) (one path calls stands honest) ∙ sym (map-append (functions.reduce_of source) p.parts (part ∷ []));
      }

  -- some values are made one
  pub whole_many : (slot : ReduceSlot C) (values : List Json) (one : Json) → 0 < length values → IsMadeOf s language source (Rereduce source values) slot one → IsWholeOf s language source slot values one
  whole_many slot values one long made = λ first rows talks right path calls stands honest.
      let functions = s.functions path in
      let later = stands_later first slot talks path calls stands in
      let is = (made path later.0 later.1 honest).1 in
      let p = right path calls stands honest in
      is ∙ ap (functions.rereduce_of source) p.are ∙ functions.rejoins source p.parts (some_parts (functions.reduce_of source) p.parts values p.are long) p.some ∙ ap (functions.reduce_of source) p.whole

  pub whole_one : (slot : ReduceSlot C) (value : Json) → IsWholeOf s language source slot (value ∷ []) value
  whole_one slot value = λ first rows talks right path calls stands honest. let p = right path calls stands honest in one_part (s.functions path) p.parts rows value p.are p.whole
    where
      one_part : (functions : Functions) (parts : List (List ReduceRow)) (rows : List Row) (value : Json) → value ∷ [] ≡ map (functions.reduce_of source) parts → joined parts ≡ map reduce_row rows → value ≡ functions.reduce_of source (map reduce_row rows)
      one_part functions [] rows value are whole = absurd (let never : 1 ≡ 0 = ap length are in omega arith)
      one_part functions (part ∷ []) rows value are whole =
          let same : part ≡ map reduce_row rows = sym (append-nil part) ∙ whole in
          let first : value ≡ functions.reduce_of source part = cc in
          first ∙ ap (functions.reduce_of source) same
      one_part functions (part ∷ other ∷ parts) rows value are whole = absurd (let never : 1 ≡ suc (suc (length (map (functions.reduce_of source) parts))) = ap length are in omega arith)

  -- a value is taken in, and all are made one
  pub folds_one : (slot : ReduceSlot C) (values : List Json) (value one : Json) → IsMadeOf s language source (Rereduce source (values ++ value ∷ [])) slot one → FoldsIn s language source slot values value (one ∷ [])
  folds_one slot values value one made = λ first rows more talks right some right_one path calls stands honest.
      let all = folds_more slot values value first rows more talks right some right_one in
      let is = whole_many slot (values ++ value ∷ []) one (long values) made first (rows ++ more) talks all path calls stands honest in
      let part = map reduce_row (rows ++ more) in
      record {
        parts = part ∷ [];
        some = (some_map reduce_row (rows ++ more) (some_append rows more some), tt);
        whole = append-nil part;
        are = ap (λ v. v ∷ []) is;
      }
    where
      long : (xs : List Json) → 0 < length (xs ++ value ∷ [])
      long [] = omega arith
      long (x ∷ xs) = omega arith

-- ---- one part after another

module _ {C : Type 0} (s : Servers C) (language source : List ℕ) where
  pub fails_before : (a b c : ReduceSlot C) (fault : PoolFault) → Talks s language source a b → Blames s language source b c fault → Blames s language source a c fault
  fails_before a b c fault first blames = λ reduces among. fails_behind s language reduces a b c fault (first reduces among) (blames reduces among)

  -- some rows are done, and the values of their parts are there
  pub record Folding (first slot : ReduceSlot C) (items left : List Row) (values : List Json) : Type 0 where
    pub done : List Row
    pub whole : done ++ left ≡ items
    pub talks : Talks s language source first slot
    pub bounded : AllByRecursion IsWithinBounds values
    pub right : AreRightFor s language source first done values
    pub compiles : 0 < length values → Compiles s language source first

  pub folding_none : (first : ReduceSlot C) (items : List Row) → Folding first first items items []
  folding_none first items = record {
    done = [];
    whole = refl;
    talks = λ reduces among. goes_none s language reduces first;
    bounded = tt;
    right = right_none s language source first;
    compiles = λ long. absurd (omega arith);
  }

  compiles_before : (first slot : ReduceSlot C) → Talks s language source first slot → Compiles s language source slot → Compiles s language source first
  compiles_before first slot talks compiles = λ path calls stands honest.
      let later = stands_later s language source first slot talks path calls stands in
      compiles path later.0 later.1 honest

  -- a part is asked for, and its value taken in
  pub folding_more : (first a b c : ReduceSlot C) (items left part rest : List Row) (values folded : List Json) (value : Json) → left ≡ part ++ rest → 0 < length part → Folding first a items left values
      → Talks s language source a b → Compiles s language source a → IsRightFor s language source a part value → Talks s language source b c → AllByRecursion IsWithinBounds folded → FoldsIn s language source b values value folded
      → Folding first c items rest folded
  folding_more first a b c items left part rest values folded value cut some was asks compiles right takes bounded folds =
      let at_b = talks_both s language source first a b was.talks asks in
      record {
        done = was.done ++ part;
        whole = append_assoc was.done part rest ∙ ap (λ xs. was.done ++ xs) (sym cut) ∙ was.whole;
        talks = talks_both s language source first b c at_b takes;
        bounded = bounded;
        right = folds first was.done part at_b was.right (some_long part some) (right_before s language source first a part value was.talks right);
        compiles = λ long. compiles_before first a was.talks compiles;
      }

  all_done : (items left : List Row) (done : List Row) → done ++ left ≡ items → length left ≡ 0 → done ≡ items
  all_done items [] done whole none = sym (append-nil done) ∙ whole
  all_done items (row ∷ left) done whole none = absurd (omega (arith, none))

  -- all rows are done
  pub folded_right : (first slot : ReduceSlot C) (items left : List Row) (values : List Json) (result : Result Term PoolFault) → length left ≡ 0 → Folding first slot items left values
      → IfOk result (λ value. IsWholeOf s language source slot values (json value)) → IfOk result (λ value. IsRightFor s language source first items (json value))
  folded_right first slot items left values (Ok value) none was whole = subst (λ (rows : List Row). IsRightFor s language source first rows (json value)) (all_done items left was.done was.whole none) (whole first was.done was.talks was.right)
  folded_right first slot items left values (Err fault) none was whole = tt

  pub folded_compiles : (first slot : ReduceSlot C) (items left : List Row) (values : List Json) (result : Result Term PoolFault) → Folding first slot items left values → OnOk result (0 < length values) → OnOk result (Compiles s language source first)
  folded_compiles first slot items left values (Ok value) was some = was.compiles some
  folded_compiles first slot items left values (Err fault) was some = tt

  pub folded_blames : (first slot last : ReduceSlot C) (result : Result Term PoolFault) → Talks s language source first slot → IfErr result (Blames s language source slot last) → IfErr result (Blames s language source first last)
  folded_blames first slot last (Ok value) was blames = tt
  folded_blames first slot last (Err fault) was blames = fails_before first slot last fault was blames

-- ---- one value after another

zip_last : {A B : Type 0} (R : A → B → Type 0) (xs : List A) (bs : List B) (b : B) → AllZip R xs (bs ++ b ∷ []) → (front : List A) × (a : A) × (xs ≡ front ++ a ∷ []) × AllZip R front bs × R a b
zip_last R [] [] b all = absurd all
zip_last R [] (c ∷ bs) b all = absurd all
zip_last R (a ∷ []) [] b all = ([], a, refl, tt, all.0)
zip_last R (a ∷ other ∷ xs) [] b all = absurd all.1
zip_last R (a ∷ xs) (c ∷ bs) b all =
    let last = zip_last R xs bs b all.1 in
    (a ∷ last.0, last.1, ap (λ ys. a ∷ ys) last.2, (all.0, last.3), last.4)

all_front : {A : Type 0} (P : A → Type 0) (front : List A) (a : A) → AllByRecursion P (front ++ a ∷ []) → AllByRecursion P front × P a
all_front P [] a all = (tt, all.0)
all_front P (x ∷ front) a all = let last = all_front P front a all.1 in ((all.0, last.0), last.1)

module _ {C : Type 0} (s : Servers C) (language source : List ℕ) where
  -- some values are taken in: whatever parts they are right for, what was made of them is right for those together
  pub record Refolding (first slot : ReduceSlot C) (done values : List Json) : Type 0 where
    pub talks : Talks s language source first slot
    pub bounded : AllByRecursion IsWithinBounds values
    pub right : (parts : List (List Row)) → AllByRecursion IsSomeList parts → AllZip (IsRightFor s language source first) parts done → AreRightFor s language source first (joined parts) values

  pub refolding_none : (first : ReduceSlot C) → Refolding first first [] []
  refolding_none first = record {
    talks = λ reduces among. goes_none s language reduces first;
    bounded = tt;
    right = none;
  }
    where
      none : (parts : List (List Row)) → AllByRecursion IsSomeList parts → AllZip (IsRightFor s language source first) parts [] → AreRightFor s language source first (joined parts) []
      none [] some zip = right_none s language source first
      none (part ∷ parts) some zip = absurd zip

  pub refolding_more : (first a b : ReduceSlot C) (done values folded : List Json) (value : Json) → Refolding first a done values → Talks s language source a b → AllByRecursion IsWithinBounds folded → FoldsIn s language source a values value folded
      → Refolding first b (done ++ value ∷ []) folded
  refolding_more first a b done values folded value was takes bounded folds = record {
    talks = talks_both s language source first a b was.talks takes;
    bounded = bounded;
    right = λ parts some zip.
        let last = zip_last (IsRightFor s language source first) parts done value zip in
        let each = all_front IsSomeList last.0 last.1 (subst (AllByRecursion IsSomeList) last.2 some) in
        let whole : joined parts ≡ joined last.0 ++ last.1 = ap joined last.2 ∙ joined_more last.0 last.1 in
        subst (λ (rows : List Row). AreRightFor s language source first rows folded) (sym whole)
        (folds first (joined last.0) last.1 was.talks (was.right last.0 each.0 last.3) each.1 last.4);
  }

  -- all values are taken in
  pub refolded : (first slot : ReduceSlot C) (sums values : List Json) (result : Result Term PoolFault) → Refolding first slot sums values
      → IfOk result (λ value. IsWholeOf s language source slot values (json value)) → IfOk result (λ value. Rejoins s language source first sums (json value))
  refolded first slot sums values (Ok value) was whole = λ parts some each zip. whole first (joined parts) was.talks (was.right parts each zip)
  refolded first slot sums values (Err fault) was whole = tt

-- ---- what is asked

pub spells_line : (asked : Command) (line sent : List ℕ) → IsReduceLine asked line → IsProperCommand asked → sent ≡ line → IsLineOf asked sent
spells_line asked line sent made proper same = (same ∙ made.spelled, ap command same ∙ made.reads proper)

kept_rows : (rows : List Row) → AllByRecursion IsKept rows → AllByRecursion IsReduceRowWithinBounds (map reduce_row rows)
kept_rows [] kept = tt
kept_rows (row ∷ rows) kept = ((kept.0.key, kept.0.value), kept_rows rows kept.1)

pub reduces_rows : (source : List ℕ) (rows : List Row) → 0 < length rows → length rows ≤ 32 → AllByRecursion IsKept rows → ReducesBy source (Reduce source (map reduce_row rows))
reduces_rows source rows long few kept = (refl, (some_map reduce_row rows (some_long rows long), kept_rows rows kept, subst (λ (n : ℕ). n ≤ 32) (sym (length-map rows reduce_row)) few))

pub reduces_values : (source : List ℕ) (values : List Json) → 0 < length values → length values ≤ 32 → AllByRecursion IsWithinBounds values → ReducesBy source (Rereduce source values)
reduces_values source values long few bounded = (refl, (some_long values long, bounded, few))

module _ {C : Type 0} (s : Servers C) (language source : List ℕ) (slot : ReduceSlot C) where
  pub compiles_of : (asked : Command) (result : Result Term PoolFault) → IfOk result (λ value. IsMadeOf s language source asked slot (json value)) → OnOk result (Compiles s language source slot)
  compiles_of asked (Ok value) made = λ path calls stands honest. (made path calls stands honest).0
  compiles_of asked (Err fault) made = tt

  pub right_of : (rows : List Row) (result : Result Term PoolFault) → IfOk result (λ value. IsMadeOf s language source (Reduce source (map reduce_row rows)) slot (json value))
      → IfOk result (λ value. IsRightFor s language source slot rows (json value))
  right_of rows (Ok value) made = λ path calls stands honest. (made path calls stands honest).1
  right_of rows (Err fault) made = tt

  pub whole_of : (values : List Json) (result : Result Term PoolFault) → 0 < length values → IfOk result (λ value. IsMadeOf s language source (Rereduce source values) slot (json value))
      → IfOk result (λ value. IsWholeOf s language source slot values (json value))
  whole_of values (Ok value) long made = whole_many s language source slot values (json value) long made
  whole_of values (Err fault) long made = tt

-- the one value that was there
pub popped_one : (values rest : List Term) (value : Term) → values ≡ rest ++ value ∷ [] → length values ≤ 1 → values ≡ value ∷ []
popped_one values [] value is short = is
popped_one values (x ∷ rest) value is short =
    let long : length values ≡ suc (length (rest ++ value ∷ [])) = ap length is in
    let more : length (rest ++ value ∷ []) ≡ length rest + 1 = length-append rest (value ∷ []) in
    absurd (omega arith)

-- what is said of Ok holds where there is no error
pub kept_ok : {P : Type 0} (result : Result (Unit {0}) OutOfMemory) → is_err result ≡ false → OnOk result P → P
kept_ok (Ok done) none h = h
kept_ok (Err fault) none h = absurd (cc)
