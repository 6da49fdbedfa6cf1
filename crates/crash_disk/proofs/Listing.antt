-- The names of the files that have bytes are listed, each once.
use Rattle.std.proofs.Common.{◌≡◌, ◌≢◌, ◌⊎◌, inl, inr, ℕ, ◌<◌, ◌==◌, zero, suc, Bool, true, false, not, List, [], ◌∷◌, cond, map, length, get_or, refl, sym, ap, ◌∙◌, subst, arith, vec_len}
use Rattle.std.proofs.Math.Dec.{eqb-suc-zero}
use Rattle.std.specs.List.{All, AllPairs, Contains, filter}
use Rattle.std.proofs.lemmas.Bool.{cases_Bool, false≢true}
use Rattle.std.proofs.lemmas.List.{nil_from_length}
use Rattle.std.proofs.lemmas.List.Elements.{All-nil, All-cons}
use Rattle.std.proofs.lemmas.List.Kept.{AllPairs-cons}
use Rattle.view_ports.specs.declared.file_name.FileName.{FileName}
use Rattle.view_ports.specs.File.{File}
use Rattle.view_ports.specs.FolderCalls.{IsListing}
use Rattle.crash_disk.specs.declared.held_file.HeldFile.{HeldFile}
use Rattle.crash_disk.specs.SameNames.{names_split}
use Rattle.crash_disk.specs.Held.{bytes_of, names_of, IsAbsent, AreApart}
use Rattle.crash_disk.proofs.HeldLists.{bytes_absent}

abbrev has_bytes : HeldFile → Bool
has_bytes file = not (vec_len file.bytes == 0)

not_zero : (n : ℕ) → not (n == 0) ≡ true → 0 < n
not_zero zero is = absurd (false≢true is)
not_zero (suc n) is = omega arith

is_zero : (n : ℕ) → not (n == 0) ≡ false → n ≡ 0
is_zero zero is = refl
is_zero (suc n) is = absurd (false≢true (sym is ∙ ap not (eqb-suc-zero n)))

some_bytes : (file : HeldFile) → has_bytes file ≡ true → 0 < length file.bytes.items
some_bytes file is = omega (arith, not_zero (vec_len file.bytes) is, file.bytes.ok.0)

no_bytes : (file : HeldFile) → has_bytes file ≡ false → file.bytes.items ≡ []
no_bytes file is = nil_from_length file.bytes.items (omega (arith, is_zero (vec_len file.bytes) is, file.bytes.ok.0))

names_some : (file : HeldFile) (files : List HeldFile) → has_bytes file ≡ true → names_of (file ∷ files) ≡ file.name ∷ names_of files
names_some file files is = ap (λ b. map (λ (f : HeldFile). f.name) (cond b (file ∷ filter has_bytes files) (filter has_bytes files))) is

names_none : (file : HeldFile) (files : List HeldFile) → has_bytes file ≡ false → names_of (file ∷ files) ≡ names_of files
names_none file files is = ap (λ b. map (λ (f : HeldFile). f.name) (cond b (file ∷ filter has_bytes files) (filter has_bytes files))) is

-- what is contained in a list with one more in front
contains_head : (first : FileName) (names : List FileName) (name : FileName) → first ≡ name → Contains (first ∷ names) name
contains_head first names name is = (0, omega arith, is)

contains_tail : (first : FileName) (names : List FileName) (name : FileName) → Contains names name → Contains (first ∷ names) name
contains_tail first names name has = (suc has.0, omega (arith, has.1), has.2)

contains_split : (first : FileName) (names : List FileName) (name : FileName) (k : ℕ) → k < length (first ∷ names) → get_or (first ∷ names) k name ≡ name → (first ≡ name) ⊎ Contains names name
contains_split first names name zero below is = inl is
contains_split first names name (suc k) below is = inr (k, omega arith, is)

listed_long : (files : List HeldFile) (name : FileName) → AreApart files → Contains (names_of files) name → 0 < length (bytes_of files name)
listed_long [] name apart has = absurd (omega (arith, has.1))
listed_long (file ∷ files) name apart has =
    elim (cases_Bool (has_bytes file)) [
      | inl some ↦
          let has' : Contains (file.name ∷ names_of files) name = subst (λ names. Contains names name) (names_some file files some) has in
          elim (names_split file.name name) [
            | inl same ↦ rw same.1 (some_bytes file some)
            | inr other ↦
                rw other.1
                (elim (contains_split file.name (names_of files) name has'.0 has'.1 has'.2) [
                  | inl same ↦ absurd (other.0 same)
                  | inr there ↦ listed_long files name apart.1 there
                ])
          ]
      | inr none ↦
          let rest : 0 < length (bytes_of files name) = listed_long files name apart.1 (subst (λ names. Contains names name) (names_none file files none) has) in
          elim (names_split file.name name) [
            | inl same ↦
                let absent : bytes_of files name ≡ [] = bytes_absent name files (subst (λ n. IsAbsent n files) same.0 apart.0) in
                absurd (omega (arith, ap length absent, rest))
            | inr other ↦ rw other.1 rest
          ]
    ]

long_listed : (files : List HeldFile) (name : FileName) → 0 < length (bytes_of files name) → Contains (names_of files) name
long_listed [] name long = absurd (omega arith)
long_listed (file ∷ files) name long =
    elim (names_split file.name name) [
      | inl same ↦
          let long' : 0 < length file.bytes.items = rw same.1 at long in
          elim (cases_Bool (has_bytes file)) [
            | inl some ↦ subst (λ names. Contains names name) (sym (names_some file files some)) (contains_head file.name (names_of files) name same.0)
            | inr none ↦ absurd (omega (arith, ap length (no_bytes file none), long'))
          ]
      | inr other ↦
          let long' : 0 < length (bytes_of files name) = rw other.1 at long in
          let rest : Contains (names_of files) name = long_listed files name long' in
          elim (cases_Bool (has_bytes file)) [
            | inl some ↦ subst (λ names. Contains names name) (sym (names_some file files some)) (contains_tail file.name (names_of files) name rest)
            | inr none ↦ subst (λ names. Contains names name) (sym (names_none file files none)) rest
          ]
    ]

absent_names : (name : FileName) (files : List HeldFile) → IsAbsent name files → All (λ other. name ≢ other) (names_of files)
absent_names name [] absent = All-nil (λ other. name ≢ other)
absent_names name (file ∷ files) absent =
    let rest : All (λ other. name ≢ other) (names_of files) = absent_names name files absent.1 in
    elim (cases_Bool (has_bytes file)) [
      | inl some ↦ subst (All (λ other. name ≢ other)) (sym (names_some file files some)) (All-cons (λ other. name ≢ other) file.name (names_of files) (λ same. absent.0 (sym same)) rest)
      | inr none ↦ subst (All (λ other. name ≢ other)) (sym (names_none file files none)) rest
    ]

listed_once : (files : List HeldFile) → AreApart files → AllPairs (λ a b. a ≢ b) (names_of files)
listed_once [] apart = λ i j d less below. absurd (omega arith)
listed_once (file ∷ files) apart =
    let rest : AllPairs (λ a b. a ≢ b) (names_of files) = listed_once files apart.1 in
    elim (cases_Bool (has_bytes file)) [
      | inl some ↦ subst (AllPairs (λ a b. a ≢ b)) (sym (names_some file files some)) (AllPairs-cons (λ a b. a ≢ b) file.name (names_of files) (absent_names file.name files apart.0) rest)
      | inr none ↦ subst (AllPairs (λ a b. a ≢ b)) (sym (names_none file files none)) rest
    ]

pub listing : (files : List HeldFile) (now : FileName → File) (names : List FileName) → names ≡ names_of files → AreApart files → ((name : FileName) → bytes_of files name ≡ (now name).seen) → IsListing now names
listing files now names is apart seen = record {
  all = λ name. (
    (λ has. subst (λ bytes. 0 < length bytes) (seen name) (listed_long files name apart (subst (λ ns. Contains ns name) is has))),
    (λ long. subst (λ ns. Contains ns name) (sym is) (long_listed files name (subst (λ bytes. 0 < length bytes) (sym (seen name)) long))),
  );
  once = subst (AllPairs (λ a b. a ≢ b)) (sym is) (listed_once files apart);
}
