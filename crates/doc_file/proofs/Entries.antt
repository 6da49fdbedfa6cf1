-- Entries and whole root records: what is spelled is read, and what is read was spelled.
use Rattle.std.proofs.Common.{◌≡◌, ◌^◌, ◌+◌, ◌<◌, ◌≤◌, ℕ, zero, suc, List, [], ◌∷◌, ◌++◌, length, Bool, true, false, cond, nat_le, nat_eq, Option, Some, None, option_map, option_and_then, nat_cmp, eq-eqb, refl, ap, sym, ◌∙◌, subst, arith, length-append, append_assoc}
use Rattle.std.specs.declared.cmp.Ordering.{Ordering}
use Rattle.std.specs.declared.cmp.Ordering.TheVariants.{Less, Equal, Greater}
use Rattle.std.specs.Ordering.{is_lt}
use Rattle.std.specs.Cmp.Lexicographic.{slice_cmp}
use Rattle.std.proofs.lemmas.Bool.{cond-true, le-leb, eqb-true}
use Rattle.std.proofs.lemmas.List.{append-nil}
use Rattle.std.proofs.lemmas.Option.{cond_some, option_and_then_some}
use Rattle.term_codec.specs.Spelling.{count_bytes, text_bytes}
use Rattle.term_codec.specs.Reading.{count_in, text_in}
use Rattle.term_codec.proofs.Words.{count_in-spelled, count_in-read, some-pair, length-count_bytes}
use Rattle.term_codec.proofs.Texts.{text_in-spelled, text_in-read}
use Rattle.doc_file.specs.declared.entry.LastWrite.{LastWrite}
use Rattle.doc_file.specs.declared.entry.Entry.{Entry}
use Rattle.doc_file.specs.Record.{whole_bytes, last_bytes, entry_bytes, entries_bytes, record_bytes, IsEntry, ComesBefore, AreEntries, IsRoot}
use Rattle.doc_file.specs.Reading.{whole_in, last_in, entry_if, entry_of_id, entry_of_size, entry_in, follows, entry_after, entries_from, whole_entries, root_of, root_in}
use Rattle.doc_file.proofs.Wholes.{whole_in-spelled, whole_in-read}
use Rattle.doc_file.proofs.Lasts.{last_in-spelled, last_in-read}

nat_eq-same : (n : ℕ) → nat_eq n n ≡ true
nat_eq-same n = eq-eqb n n refl

cond_option : {A : Type 0} (b : Bool) (x : Option A) (y : A) → cond b x None ≡ Some y → x ≡ Some y
cond_option true x y h = h
cond_option false x y h = absurd cc

-- ---- one entry

pub entry_in-spelled : (entry : Entry) (rest : List ℕ) → IsEntry entry → entry_in (entry_bytes entry ++ rest) ≡ Some (entry, rest)
entry_in-spelled entry rest is =
    let size : ℕ = length entry.id + 33 in
    let item : List ℕ = text_bytes entry.id ++ last_bytes entry.last in
    let id_short : length entry.id < 2 ^ 32 = omega (arith, is.short) in
    ap entry_in (append_assoc (count_bytes size) item rest ∙ ap (λ bs. count_bytes size ++ bs) (append_assoc (text_bytes entry.id) (last_bytes entry.last) rest))
    ∙ ap (option_and_then (λ (c : ℕ × List ℕ). entry_of_size c.0 c.1)) (count_in-spelled size (text_bytes entry.id ++ (last_bytes entry.last ++ rest)) is.short)
    ∙ ap (option_and_then (λ (t : List ℕ × List ℕ). entry_of_id size t.0 t.1)) (text_in-spelled entry.id (last_bytes entry.last ++ rest) is.utf8 id_short)
    ∙ ap (option_and_then (λ (l : LastWrite × List ℕ). entry_if size entry.id l.0 l.1)) (last_in-spelled entry.last rest is.last)
    ∙ cond-true (nat_eq size size) (Some (entry, rest)) None (nat_eq-same size)

pub record EntryIsRead (bytes : List ℕ) (entry : Entry) (rest : List ℕ) : Type 0 where
  pub entry_is : IsEntry entry
  pub is : bytes ≡ entry_bytes entry ++ rest

pub entry_in-read : (bytes : List ℕ) (entry : Entry) (rest : List ℕ) → entry_in bytes ≡ Some (entry, rest) → EntryIsRead bytes entry rest
entry_in-read bytes entry rest h =
    option_and_then_some (λ c. entry_of_size c.0 c.1) (count_in bytes) (entry, rest) h (λ c counted sized.
    option_and_then_some (λ t. entry_of_id c.0 t.0 t.1) (text_in c.1) (entry, rest) sized (λ t named lasting.
    option_and_then_some (λ l. entry_if c.0 t.0 l.0 l.1) (last_in t.1) (entry, rest) lasting (λ l told same.
    let count = count_in-read bytes c.0 c.1 counted in
    let text = text_in-read c.1 t.0 t.1 named in
    let last = last_in-read t.1 l.0 l.1 told in
    let new : Entry = record { id = t.0; last = l.0 } in
    let found = cond_some (nat_eq c.0 (length t.0 + 33)) (new, l.1) (entry, rest) same in
    let size : c.0 ≡ length t.0 + 33 = eqb-true c.0 (length t.0 + 33) found.0 in
    let read : EntryIsRead bytes new l.1 = record {
      entry_is = record { utf8 = text.utf8; short = subst (λ k. k < 2 ^ 32) size count.0; last = last.0 };
      is = count.1 ∙ (λ i. count_bytes (size i) ++ text.is i) ∙ ap (λ bs. count_bytes (length t.0 + 33) ++ (text_bytes t.0 ++ bs)) last.1
          ∙ ap (λ bs. count_bytes (length t.0 + 33) ++ bs) (sym (append_assoc (text_bytes t.0) (last_bytes l.0) l.1))
          ∙ sym (append_assoc (count_bytes (length t.0 + 33)) (text_bytes t.0 ++ last_bytes l.0) l.1);
    } in
    subst (λ p. EntryIsRead bytes p.0 p.1) found.1 read)))

-- ---- many entries

abbrev pub FirstFollows : List Entry → List Entry → Type 0
FirstFollows done [] = Unit {0}
FirstFollows done (e ∷ es) = follows e.id done ≡ true

follows-push : (id : List ℕ) (done : List Entry) (last : Entry) → slice_cmp nat_cmp last.id id ≡ Less → follows id (done ++ last ∷ []) ≡ true
follows-push id [] last less = ap is_lt less
follows-push id (x ∷ []) last less = ap is_lt less
follows-push id (x ∷ y ∷ done) last less = follows-push id (y ∷ done) last less

pub is_lt-Less : (o : Ordering) → is_lt o ≡ true → o ≡ Less
is_lt-Less Less h = refl
is_lt-Less Equal h = absurd cc
is_lt-Less Greater h = absurd cc

follows-less : (id : List ℕ) (done : List Entry) (last : Entry) → follows id (done ++ last ∷ []) ≡ true → slice_cmp nat_cmp last.id id ≡ Less
follows-less id [] last h = is_lt-Less (slice_cmp nat_cmp last.id id) h
follows-less id (x ∷ []) last h = is_lt-Less (slice_cmp nat_cmp last.id id) h
follows-less id (x ∷ y ∷ done) last h = follows-less id (y ∷ done) last h

FirstFollows-next : (done : List Entry) (e : Entry) (es : List Entry) → ComesBefore e.id es → FirstFollows (done ++ e ∷ []) es
FirstFollows-next done e [] before = tt
FirstFollows-next done e (f ∷ es) before = follows-push f.id done e before

FirstFollows-before : (done : List Entry) (e : Entry) (es : List Entry) → FirstFollows (done ++ e ∷ []) es → ComesBefore e.id es
FirstFollows-before done e [] h = tt
FirstFollows-before done e (f ∷ es) h = follows-less f.id done e h

entries-spelled : (done es : List Entry) (rest : List ℕ) → AreEntries es → FirstFollows done es → entries_from done (length es) (entries_bytes es ++ rest) ≡ Some (done ++ es, rest)
entries-spelled done [] rest are first = ap (λ all. Some (all, rest)) (sym (append-nil done))
entries-spelled done (e ∷ es) rest are first =
    ap (entries_from done (suc (length es))) (append_assoc (entry_bytes e) (entries_bytes es) rest)
    ∙ ap (λ (o : Option (Entry × List ℕ)). option_and_then (λ r. entries_from (done ++ r.0 ∷ []) (length es) r.1) (option_and_then (λ r. cond (follows (r.0).id done) (Some r) None) o)) (entry_in-spelled e (entries_bytes es ++ rest) are.0)
    ∙ ap (option_and_then (λ (r : Entry × List ℕ). entries_from (done ++ r.0 ∷ []) (length es) r.1)) (cond-true (follows e.id done) (Some (e, entries_bytes es ++ rest)) None first)
    ∙ entries-spelled (done ++ e ∷ []) es rest are.2 (FirstFollows-next done e es are.1)
    ∙ ap (λ all. Some (all, rest)) (append_assoc done (e ∷ []) es)

start : (es : List Entry) → FirstFollows [] es
start [] = tt
start (e ∷ es) = refl

record AreRead (count : ℕ) (bytes : List ℕ) (es : List Entry) (rest : List ℕ) : Type 0 where
  each : AreEntries es
  counted : length es ≡ count
  is : bytes ≡ entries_bytes es ++ rest

entries-read : (count : ℕ) (done : List Entry) (bytes : List ℕ) (all : List Entry) (rest : List ℕ) → entries_from done count bytes ≡ Some (all, rest)
    → (es : List Entry) × (all ≡ done ++ es) × FirstFollows done es × AreRead count bytes es rest
entries-read zero done bytes all rest h =
    let same = some-pair (done, bytes) (all, rest) h in
    ([], sym same.0 ∙ sym (append-nil done), tt, record { each = tt; counted = refl; is = same.1 })
entries-read (suc count) done bytes all rest h =
    option_and_then_some (λ r. entries_from (done ++ r.0 ∷ []) count r.1) (entry_after done bytes) (all, rest) h (λ r next others.
    option_and_then_some (λ q. cond (follows (q.0).id done) (Some q) None) (entry_in bytes) r next (λ q one ordered.
    let found = cond_some (follows (q.0).id done) q r ordered in
    let read = subst (λ p. EntryIsRead bytes p.0 p.1) found.1 (entry_in-read bytes q.0 q.1 one) in
    let rises = subst (λ p. follows (p.0).id done ≡ true) found.1 found.0 in
    let e = r.0 in
    let tail = entries-read count (done ++ e ∷ []) r.1 all rest others in
    let es = tail.0 in (
      e ∷ es,
      tail.1 ∙ append_assoc done (e ∷ []) es,
      rises,
      record {
        each = (read.entry_is, FirstFollows-before done e es tail.2, tail.3.each);
        counted = ap suc tail.3.counted;
        is = read.is ∙ ap (λ bs. entry_bytes e ++ bs) tail.3.is ∙ sym (append_assoc (entry_bytes e) (entries_bytes es) rest);
      },
    )))

-- ---- the whole record

length-entries_bytes : (es : List Entry) → length es ≤ length (entries_bytes es)
length-entries_bytes [] = omega arith
length-entries_bytes (e ∷ es) =
    let size = length-count_bytes (length e.id + 33) in
    let head = length-append (count_bytes (length e.id + 33)) (text_bytes e.id ++ last_bytes e.last) in
    let whole = length-append (entry_bytes e) (entries_bytes es) in
    let rest = length-entries_bytes es in
    omega arith

whole_entries-spelled : (es : List Entry) → AreEntries es → whole_entries (length es) (entries_bytes es) ≡ Some es
whole_entries-spelled es are =
    cond-true (nat_le (length es) (length (entries_bytes es))) (option_and_then (λ r. cond (nat_eq (length r.1) 0) (Some r.0) None) (entries_from [] (length es) (entries_bytes es))) None (le-leb _ _ (length-entries_bytes es))
    ∙ ap (λ bs. option_and_then (λ r. cond (nat_eq (length r.1) 0) (Some r.0) None) (entries_from [] (length es) bs)) (sym (append-nil (entries_bytes es)))
    ∙ ap (option_and_then (λ (r : List Entry × List ℕ). cond (nat_eq (length r.1) 0) (Some r.0) None)) (entries-spelled [] es [] are (start es))

pub root_in-spelled : (seq : ℕ) (es : List Entry) → IsRoot seq es → root_in (record_bytes seq es) ≡ Some (seq, es)
root_in-spelled seq es is =
    ap (option_and_then (λ (s : ℕ × List ℕ). root_of s.0 s.1)) (whole_in-spelled seq (whole_bytes (length es) ++ entries_bytes es) is.small)
    ∙ ap (option_and_then (λ (c : ℕ × List ℕ). option_map (λ all. (seq, all)) (whole_entries c.0 c.1))) (whole_in-spelled (length es) (entries_bytes es) is.few)
    ∙ ap (option_map (λ (all : List Entry). (seq, all))) (whole_entries-spelled es is.each)

empty_of : (bytes : List ℕ) → nat_eq (length bytes) 0 ≡ true → bytes ≡ []
empty_of [] h = refl
empty_of (x ∷ bytes) h = let e = eqb-true (length (x ∷ bytes)) 0 h in absurd (omega arith)

map_some : {A B P : Type 0} (f : A → B) (o : Option A) (y : B) → option_map f o ≡ Some y → ((x : A) → o ≡ Some x → f x ≡ y → P) → P
map_some f None y h k = absurd cc
map_some f (Some x) y h k = k x refl cc

pub record RootIsRead (bytes : List ℕ) (seq : ℕ) (es : List Entry) : Type 0 where
  pub root : IsRoot seq es
  pub is : bytes ≡ record_bytes seq es

pub root_in-read : (bytes : List ℕ) (seq : ℕ) (es : List Entry) → root_in bytes ≡ Some (seq, es) → RootIsRead bytes seq es
root_in-read bytes seq es h =
    option_and_then_some (λ s. root_of s.0 s.1) (whole_in bytes) (seq, es) h (λ s first more.
    option_and_then_some (λ c. option_map (λ all. (s.0, all)) (whole_entries c.0 c.1)) (whole_in s.1) (seq, es) more (λ c second mapped.
    map_some (λ all. (s.0, all)) (whole_entries c.0 c.1) (seq, es) mapped (λ all parts pair.
    let one = whole_in-read bytes s.0 s.1 first in
    let two = whole_in-read s.1 c.0 c.1 second in
    let within = cond_option (nat_le c.0 (length c.1)) (option_and_then (λ r. cond (nat_eq (length r.1) 0) (Some r.0) None) (entries_from [] c.0 c.1)) all parts in
    option_and_then_some (λ r. cond (nat_eq (length r.1) 0) (Some r.0) None) (entries_from [] c.0 c.1) all within (λ r read ended.
    let found = cond_some (nat_eq (length r.1) 0) r.0 all ended in
    let end = empty_of r.1 found.0 in
    let entries = entries-read c.0 [] c.1 r.0 r.1 read in
    let xs = entries.0 in
    let same : xs ≡ es = sym entries.1 ∙ found.1 ∙ ap (λ p. p.1) pair in
    let same_seq : s.0 ≡ seq = ap (λ p. p.0) pair in
    let counted : c.0 ≡ length xs = sym entries.3.counted in
    let whole : RootIsRead bytes s.0 xs = record {
      root = record { small = one.0; few = subst (λ k. k < 2 ^ 64) counted two.0; each = entries.3.each };
      is = one.1 ∙ ap (λ bs. whole_bytes s.0 ++ bs) (two.1 ∙ (λ i. whole_bytes (counted i) ++ (entries.3.is ∙ ap (λ bs. entries_bytes xs ++ bs) end ∙ append-nil (entries_bytes xs)) i));
    } in
    subst (λ n. RootIsRead bytes n es) same_seq (subst (λ ys. RootIsRead bytes s.0 ys) same whole)))))

abbrev seq_in : Option (ℕ × List Entry) → ℕ
seq_in None = 0
seq_in (Some r) = r.0

abbrev entries_in : Option (ℕ × List Entry) → List Entry
entries_in None = []
entries_in (Some r) = r.1

-- no two roots have the same record
pub record_bytes-one : (seq other : ℕ) (es fs : List Entry) → IsRoot seq es → IsRoot other fs → record_bytes seq es ≡ record_bytes other fs → (seq ≡ other) × (es ≡ fs)
record_bytes-one seq other es fs is is' same =
    let both = sym (root_in-spelled seq es is) ∙ ap root_in same ∙ root_in-spelled other fs is' in
    (ap seq_in both, ap entries_in both)
