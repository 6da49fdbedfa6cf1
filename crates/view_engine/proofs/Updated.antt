-- What an update of a design's picture is to a world whose pictures stand.
use Rattle.std.specs.Prelude.{◌≡◌, ◌≢◌, ◌⊎◌, ◌<◌, ◌&&◌, ◌||◌, ℕ, zero, suc, List, [], ◌∷◌, Bool, true, false, if◌then◌else◌, Option, Some, None, option_and_then, bytes_eq, length, slice_index_or, nat_lt, Contains}
use Rattle.std.proofs.Common.{refl, sym, ap, ◌∙◌, subst, inl, inr, arith}
use Rattle.std.specs.List.{flat_map}
use Rattle.std.proofs.lemmas.List.Elements.{Contains-append_right}
use Rattle.std.proofs.lemmas.Slice.Eq.{bytes_eq-Decides}
use Rattle.std.proofs.lemmas.Bool.Decides.{nat_tests}
use Rattle.json_terms.specs.Json.{Json}
use Rattle.json_terms.specs.declared.term.Row.{Row}
use Rattle.view_ports.specs.Functions.{Functions}
use Rattle.design_docs.specs.declared.design.Reduce.{Reduce}
use Rattle.design_docs.specs.declared.design.Reduce.TheVariants.{Absent, Builtin, Source}
use Rattle.design_docs.specs.declared.design.View.{View}
use Rattle.design_docs.specs.Design.{language_of, map_sources, views_of}
use Rattle.design_docs.specs.Documents.{is_design_id}
use Rattle.child_pool.specs.Jobs.{IsAmong}
use Rattle.child_pool.specs.Honesty.{SomeReduceFails, SomeSourceFails}
use Rattle.child_pool.specs.Languages.{path_in}
use Rattle.child_pool.specs.ReduceTalk.{reduce_in, reduce_source}
use Rattle.query_args.specs.declared.query.Query.{Query}
use Rattle.view_engine.specs.ViewQuery.{asked_sources, source_for}
use Rattle.view_model.specs.Groups.{picked_groups}
use Rattle.view_model.proofs.NoGroups.{none_picked}
use Rattle.tree_updater.proofs.Spoiled.{fails_in_place}
use Rattle.raw_collation.specs.Sorting.{sorted_rows}
use Rattle.child_pool.specs.Sessions.{AllCompile}
use Rattle.design_docs.specs.History.{Write, last_write, live_document, mapped, mapped_after}
use Rattle.view_model.specs.Picture.{Picture, IsTrueOf, picture_or_none}
use Rattle.view_model.specs.Rows.{document_rows, has_some, maps_compile, reduce_fails, rows_of, some_reduce_fails, spoiled, view_rows}
use Rattle.view_model.specs.Since.{first}
use Rattle.view_model.specs.Standing.{IsDesignIn}
use Rattle.view_model.specs.Update.{IsUpdated}
use Rattle.view_model.proofs.Pictures.{is_spoiled_as_met, is_spoiled_by_mapped, no_picture_is_true}
use Rattle.view_model.proofs.Updates.{updates_are_afresh}
use Rattle.view_signature.specs.Signature.{signature_of}
use Rattle.view_engine.specs.Updating.{picture_in, AreFit, IsSound}
use Rattle.view_engine.specs.ViewPlan.{source_at}
use Rattle.view_engine.specs.World.{World}

-- all writes are the first so many
pub all_first : (history : List Write) → first (length history) history ≡ history
all_first [] = refl
all_first (write ∷ older) = ap (λ (b : Bool). if b then first (length (write ∷ older)) older else write ∷ older) (not_less (length (write ∷ older)))
  where
    not_less : (n : ℕ) → nat_lt n n ≡ false
    not_less n = grind (arith, nat_tests)

-- numbers are equal, or they are not
equal_or_not : (a b : ℕ) → (a ≡ b) ⊎ (a ≢ b)
equal_or_not zero zero = inl refl
equal_or_not zero (suc b) = inr (λ same. omega (arith, same))
equal_or_not (suc a) zero = inr (λ same. omega (arith, same))
equal_or_not (suc a) (suc b) = elim (equal_or_not a b) [
  | inl same ↦ inl (ap (λ n. suc n) same)
  | inr other ↦ inr (λ same. other (omega (arith, same)))
]

-- ---- a live design document was stored

last_is_stored : (history : List Write) (id : List ℕ) (write : Write) → last_write history id ≡ Some write → Contains history write × (write.id ≡ id)
last_is_stored [] id write is = let clash : ⊥ = cc in absurd clash
last_is_stored (first ∷ older) id write is =
    elim (bytes_eq id first.id) as (λ b. bytes_eq id first.id ≡ b → (if b then Some first else last_write older id) ≡ Some write → Contains (first ∷ older) write × (write.id ≡ id)) [
      | true ↦ λ same found.
          let this : first ≡ write = cc in
          ((0, omega arith, this), ap (λ (w : Write). w.id) (sym this) ∙ sym ((bytes_eq-Decides id first.id).0 same))
      | false ↦ λ differs found.
          let rest = last_is_stored older id write found in
          (Contains-append_right (first ∷ []) older write rest.0, rest.1)
    ] refl is

live_is_stored : (history : List Write) (id : List ℕ) (document : Json) (last : Option Write) → last_write history id ≡ last → option_and_then (λ w. w.document) last ≡ Some document
    → Contains history (record { id = id; document = Some document })
live_is_stored history id document None is live = let clash : ⊥ = cc in absurd clash
live_is_stored history id document (Some write) is live =
    let stored = last_is_stored history id write is in
    subst (Contains history) (λ i. record { id = stored.1 i; document = live i }) stored.0

-- a design document that is live is one of the history
pub live_is_design : (history : List Write) (id : List ℕ) (document : Json) → is_design_id id ≡ true → live_document history id ≡ Some document → IsDesignIn history document
live_is_design history id document is live = record { id = id; design = is; stored = live_is_stored history id document (last_write history id) refl live }

-- ---- sources that compile

all_compile : (functions : Functions) (views : List View) → AllCompile functions (map_sources views) → maps_compile functions views ≡ true
all_compile functions [] compile = refl
all_compile functions (view ∷ views) compile = ap (λ (b : Bool). b && maps_compile functions views) compile.0 ∙ all_compile functions views compile.1

and_false : (a b : Bool) → b ≡ false → (a && b) ≡ false
and_false true b is = is
and_false false b is = refl

some_fails : (functions : Functions) (views : List View) (source : List ℕ) → IsAmong (map_sources views) source → functions.compiles source ≡ false → maps_compile functions views ≡ false
some_fails functions [] source among fails = absurd among
some_fails functions (view ∷ views) source (inl this) fails = ap (λ (b : Bool). b && maps_compile functions views) (ap functions.compiles (sym this) ∙ fails)
some_fails functions (view ∷ views) source (inr later) fails = and_false (functions.compiles view.map) (maps_compile functions views) (some_fails functions views source later fails)

-- ---- reduces that are wanted

-- no rows want none
no_rows_want : (functions : Functions) (reduce : Reduce) → reduce_fails functions reduce [] ≡ false
no_rows_want functions Absent = refl
no_rows_want functions (Builtin kind) = refl
no_rows_want functions (Source source) = refl

unmapped_want_none : (functions : Functions) (views : List View) (history : List Write) → mapped history ≡ [] → some_reduce_fails functions views (rows_of functions views history) ≡ false
unmapped_want_none functions [] history none = refl
unmapped_want_none functions (view ∷ views) history none =
    let own : view_rows functions view.map history ≡ [] = ap (λ (documents : List (List ℕ × Json)). sorted_rows (flat_map (document_rows functions view.map) documents)) none ∙ sorted_none in
    ap (λ (rows : List Row). reduce_fails functions view.reduce rows || some_reduce_fails functions views (rows_of functions views history)) own
    ∙ ap (λ (b : Bool). b || some_reduce_fails functions views (rows_of functions views history)) (no_rows_want functions view.reduce)
    ∙ unmapped_want_none functions views history none
  where
    sorted_none : sorted_rows [] ≡ []
    sorted_none = refl

-- where one is wanted whose source doesn't compile, the views can't be answered
pub spoiled_by_reduce : (functions : Functions) (views : List View) (history : List Write) → some_reduce_fails functions views (rows_of functions views history) ≡ true → spoiled functions views history ≡ true
spoiled_by_reduce functions views history fails =
    elim (maps_compile functions views) as (λ b. (if b then some_reduce_fails functions views (rows_of functions views history) else has_some (mapped history)) ≡ true) [
      | true ↦ fails
      | false ↦ by_documents (mapped history) refl
    ]
  where
    by_documents : (documents : List (List ℕ × Json)) → mapped history ≡ documents → has_some documents ≡ true
    by_documents [] none = let clash : true ≡ false = sym fails ∙ unmapped_want_none functions views history none in absurd cc
    by_documents (first ∷ others) some = refl

-- a source fails by which the rows of a view are asked for
pub fails_of_own : (functions : Functions) (views : List View) (rows : List (List Row)) (place : ℕ) (query : Query)
    → SomeReduceFails functions (asked_sources query (reduce_in views place) (slice_index_or rows place [])) → some_reduce_fails functions views rows ≡ true
fails_of_own functions views rows place query own =
    by_asked query.reduced (picked_groups query (slice_index_or rows place [])) (λ some none. some (none_picked query (slice_index_or rows place []) none)) own.source own.among own.fails
  where
    by_reduce : slice_index_or rows place [] ≢ [] → (reduce : Reduce) → reduce_in views place ≡ reduce → (source : List ℕ) → IsAmong (reduce_source reduce) source → functions.reduce_compiles source ≡ false → some_reduce_fails functions views rows ≡ true
    by_reduce some Absent is source among fails = absurd among
    by_reduce some (Builtin kind) is source among fails = absurd among
    by_reduce some (Source given) is source (inl same) fails = fails_in_place functions views rows place given is some (ap functions.reduce_compiles (sym same) ∙ fails)
    by_reduce some (Source given) is source (inr later) fails = absurd later

    by_asked : (asked : Bool) (groups : List (List Row)) → (groups ≢ [] → slice_index_or rows place [] ≢ []) → (source : List ℕ) → IsAmong (if asked then source_for groups (reduce_in views place) else []) source
        → functions.reduce_compiles source ≡ false → some_reduce_fails functions views rows ≡ true
    by_asked true [] some source among fails = absurd among
    by_asked true (group ∷ groups) some source among fails = by_reduce (some (λ none. let clash : group ∷ groups ≡ [] = none in cc)) (reduce_in views place) refl source among fails
    by_asked false groups some source among fails = absurd among

-- ---- the rows of a view in its place

pub rows_at_place : (functions : Functions) (views : List View) (history : List Write) (place : ℕ) → place < length views
    → slice_index_or (rows_of functions views history) place [] ≡ view_rows functions (source_at views place) history
rows_at_place functions [] history place within = absurd (omega arith)
rows_at_place functions (view ∷ views) history zero within = refl
rows_at_place functions (view ∷ views) history (suc place) within = rows_at_place functions views history place (omega arith)

-- ---- an update of a live design, where the pictures stand

module _ (functions : List ℕ → Functions) (honest : List ℕ → Type 0) (languages : List (List ℕ × List ℕ)) (world : World) (id : List ℕ) (document : Json) (path : List ℕ)
    (is_design : is_design_id id ≡ true) (live : live_document world.history id ≡ Some document) (known : path_in languages (language_of document) ≡ Some path)
    (is_honest : honest path) (sound : IsSound functions honest languages world) (fit : AreFit world.history) where
  abbrev own : Functions
  own = functions path

  abbrev views : List View
  views = views_of document

  stored : IsDesignIn world.history document
  stored = live_is_design world.history id document is_design live

  -- its picture is true
  pub true_before : IsTrueOf own views world.history (picture_in world document)
  true_before = by_picture (world.pictures (signature_of document)) refl
    where
      by_picture : (picture : Option Picture) → world.pictures (signature_of document) ≡ picture → IsTrueOf own views world.history (picture_or_none views picture)
      by_picture None is = no_picture_is_true own views world.history
      by_picture (Some picture) is = (sound fit).are_true (signature_of document) picture document path is stored refl known is_honest

  -- so no reduce is wanted of it whose source doesn't compile
  pub not_spoiled_before : some_reduce_fails own views (picture_in world document).rows ≡ true → ⊥
  not_spoiled_before fails =
      let count = (picture_in world document).seq in
      let there : some_reduce_fails own views (rows_of own views (first count world.history)) ≡ true = ap (some_reduce_fails own views) (sym true_before.rows) ∙ fails in
      let clash : true ≡ false = sym (spoiled_by_reduce own views (first count world.history) there) ∙ true_before.sound in
      let no : ⊥ = cc in
      no

  -- nor of one that is spoiled only where it is
  pub not_spoiled : (rows : List (List Row)) → (some_reduce_fails own views rows ≡ true → some_reduce_fails own views (picture_in world document).rows ≡ true) → some_reduce_fails own views rows ≡ false
  not_spoiled rows only = by_test (some_reduce_fails own views rows) refl
    where
      by_test : (b : Bool) → some_reduce_fails own views rows ≡ b → some_reduce_fails own views rows ≡ false
      by_test true is = absurd (not_spoiled_before (only is))
      by_test false is = is

  abbrev mapped_now : List (List ℕ × Json)
  mapped_now = mapped_after (picture_in world document).seq world.history

  module _ (next : Picture) (updated : IsUpdated own (honest path) views world.history (picture_in world document) next) where
    -- the rows are those that mapping all documents afresh gives
    pub rows_are_afresh : next.rows ≡ rows_of own views world.history
    rows_are_afresh = updates_are_afresh own (honest path) views world.history (picture_in world document) next true_before is_honest updated

    compiles_all : (mapped_now ≢ [] → AllCompile own (map_sources views)) → some_reduce_fails own views next.rows ≡ false → spoiled own views world.history ≡ false
    compiles_all compile wanted = is_spoiled_as_met own (honest path) views world.history (picture_in world document) next true_before is_honest updated ∙ by_documents mapped_now refl
      where
        by_documents : (documents : List (List ℕ × Json)) → mapped_now ≡ documents → (if maps_compile own views then some_reduce_fails own views next.rows else has_some documents) ≡ false
        by_documents [] none =
            elim (maps_compile own views) as (λ b. (if b then some_reduce_fails own views next.rows else false) ≡ false) [
              | true ↦ wanted
              | false ↦ refl
            ]
        by_documents (first ∷ others) some =
            let all = all_compile own views (compile (λ none. let clash : first ∷ others ≡ [] = sym some ∙ none in let no : ⊥ = cc in no)) in
            ap (λ (b : Bool). if b then some_reduce_fails own views next.rows else true) all ∙ wanted

    -- and they can be answered, where all sources compile once a document is mapped, and all those of reduces that are wanted where
    -- something was written since
    pub can_be_answered : (mapped_now ≢ [] → AllCompile own (map_sources views)) → ((picture_in world document).seq ≢ length world.history → some_reduce_fails own views next.rows ≡ false) → spoiled own views world.history ≡ false
    can_be_answered compile wanted = elim (equal_or_not (picture_in world document).seq (length world.history)) [
      | inl same ↦ ap (spoiled own views) (sym (all_first world.history) ∙ ap (λ count. first count world.history) (sym same)) ∙ true_before.sound
      | inr later ↦ compiles_all compile (wanted later)
    ]

    -- where a reduce is wanted whose source doesn't compile, they can't be
    pub are_spoiled_by_reduce : some_reduce_fails own views next.rows ≡ true → spoiled own views world.history ≡ true
    are_spoiled_by_reduce fails = spoiled_by_reduce own views world.history (ap (some_reduce_fails own views) (sym rows_are_afresh) ∙ fails)

  -- where a source fails that is met, they can't be
  pub are_spoiled : SomeSourceFails own (map_sources views) → mapped_now ≢ [] → spoiled own views world.history ≡ true
  are_spoiled fails some =
      is_spoiled_by_mapped own views world.history (picture_in world document) true_before (some_fails own views fails.source fails.among fails.fails) ∙ by_documents mapped_now refl
    where
      by_documents : (documents : List (List ℕ × Json)) → mapped_now ≡ documents → has_some documents ≡ true
      by_documents [] none = absurd (some none)
      by_documents (first ∷ others) is = refl
