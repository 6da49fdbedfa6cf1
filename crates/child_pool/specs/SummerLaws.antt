-- The laws of reduces as the values of lists of rows.
use Rattle.std.proofs.Common.{◌≡◌, ◌≢◌, List, [], ℕ, Some, refl, sym, ap, ◌∙◌, subst}
use Rattle.json_terms.specs.Json.{Json}
use Rattle.json_terms.specs.declared.term.Row.{Row}
use Rattle.design_docs.specs.declared.design.Reduce.{Reduce}
use Rattle.design_docs.specs.declared.design.Reduce.TheVariants as reduce
use Rattle.view_ports.specs.declared.servers.Servers.{Ghosts as Servers}
use Rattle.view_ports.specs.Functions.{IsWithinBounds}
use Rattle.tree_laws.specs.Meaning.{AreSteps, KeepsMeaning, Meaning, StaysCaused}
use Rattle.child_pool.specs.declared.child_summer.ChildSummer.{ChildSummer}
use Rattle.child_pool.specs.declared.pool_fault.PoolFault.{PoolFault}
use Rattle.child_pool.specs.declared.reduce_slot.ReduceSlot.{ReduceSlot}
use Rattle.child_pool.specs.declared.summers.Summers.{Summers}
use Rattle.child_pool.specs.declared.view_sum.ViewSum.{ViewSum}
use Rattle.child_pool.specs.Languages.{path_in}
use Rattle.child_pool.specs.PoolCalls.{StaysAsMade}
use Rattle.child_pool.specs.ReduceTalk.{Compiles, Fails, Goes, reduce_in, reduce_source}
use Rattle.child_pool.specs.Summers.{ChildFails, ChildGoes, IsHonestTalk, IsLawfulFor, IsUsableFor, SummersFail, SummersGo, child_meaning, functions_for, or_no_path, reduce_of, view_meaning}
use Rattle.child_pool.specs.TalkLaws.{fails_behind, goes_both, goes_none, stands_on}
use Rattle.child_pool.specs.ViewSums.{FitsView}

module _ {C : Type 0} (s : Servers C) where
  -- ---- the slot

  functions_still : (language : List ℕ) (a b : ReduceSlot C) → StaysAsMade a.pool.now b.pool.now → functions_for s language b ≡ functions_for s language a
  functions_still language a b made = ap (λ (l : List (List ℕ × List ℕ)). s.functions (or_no_path (path_in l language))) made.languages

  honest_still : (language : List ℕ) (reduces : List (List ℕ)) (a b : ReduceSlot C) → Goes s language reduces a b → IsHonestTalk s language a → IsHonestTalk s language b
  honest_still language reduces a b goes talk =
      let w = goes.talks talk.path talk.calls talk.stands in
      record {
        path = talk.path;
        known = subst (λ (l : List (List ℕ × List ℕ)). path_in l language ≡ Some talk.path) (sym goes.keeps.languages) talk.known;
        honest = talk.honest;
        calls = w.now;
        stands = stands_on s language reduces (λ fault. ⊥) a b talk.path talk.calls goes.keeps talk.stands w;
      }

  compiles_before : (language source : List ℕ) (reduces : List (List ℕ)) (a b : ReduceSlot C) → Goes s language reduces a b → Compiles s language source b → Compiles s language source a
  compiles_before language source reduces a b goes compiles = λ path calls stands honest.
      let w = goes.talks path calls stands in
      compiles path w.now (stands_on s language reduces (λ fault. ⊥) a b path calls goes.keeps stands w) honest

  -- ---- one view

  -- what is said of one summer is said of another with the same source
  goes_as : (a b c d : ChildSummer C) → b.language ≡ a.language → b.source ≡ a.source → Goes s b.language.now (reduce_source (reduce.Source b.source.now)) c.slot d.slot → Goes s a.language.now (reduce_source (reduce.Source a.source.now)) c.slot d.slot
  goes_as a b c d language source goes =
      subst (λ (l : List ℕ). Goes s l (reduce_source (reduce.Source a.source.now)) c.slot d.slot) (ap (λ t. t.now) language)
      (subst (λ (t : List ℕ). Goes s b.language.now (reduce_source (reduce.Source t)) c.slot d.slot) (ap (λ t. t.now) source) goes)

  fails_as : (a b c d : ChildSummer C) (fault : PoolFault) → b.language ≡ a.language → b.source ≡ a.source → Fails s b.language.now (reduce_source (reduce.Source b.source.now)) c.slot d.slot fault
      → Fails s a.language.now (reduce_source (reduce.Source a.source.now)) c.slot d.slot fault
  fails_as a b c d fault language source fails =
      subst (λ (l : List ℕ). Fails s l (reduce_source (reduce.Source a.source.now)) c.slot d.slot fault) (ap (λ t. t.now) language)
      (subst (λ (t : List ℕ). Fails s b.language.now (reduce_source (reduce.Source t)) c.slot d.slot fault) (ap (λ t. t.now) source) fails)

  pub child_steps : AreSteps (ChildGoes s)
  child_steps = record {
    none = λ a. record { language = refl; source = refl; slot = goes_none s a.language.now (reduce_source (reduce.Source a.source.now)) a.slot };
    both = λ a b c first second. record {
      language = second.language ∙ first.language;
      source = second.source ∙ first.source;
      slot = goes_both s a.language.now (reduce_source (reduce.Source a.source.now)) a.slot b.slot c.slot first.slot (goes_as a b b c first.language first.source second.slot);
    };
  }

  -- what a summer of a source means
  abbrev pub meaning_of : ChildSummer C → Meaning Row Json
  meaning_of summer = child_meaning (functions_for s summer.language.now summer.slot) summer.source.now

  abbrev pub child_lawful : ChildSummer C → Type 0
  child_lawful summer = IsHonestTalk s summer.language.now summer.slot

  abbrev pub child_usable : ChildSummer C → Type 0
  child_usable summer = Compiles s summer.language.now summer.source.now summer.slot

  pub child_keeps : KeepsMeaning (ChildGoes s) meaning_of child_lawful child_usable (λ summer sum. IsWithinBounds sum)
  child_keeps = record {
    meaning = λ a b goes.
        let functions = functions_still a.language.now a.slot b.slot goes.slot.keeps in
        ap (λ (l : List ℕ). child_meaning (functions_for s l b.slot) b.source.now) (ap (λ t. t.now) goes.language)
        ∙ ap (λ (t : List ℕ). child_meaning (functions_for s a.language.now b.slot) t) (ap (λ t. t.now) goes.source)
        ∙ ap (λ f. child_meaning f a.source.now) functions;
    lawful = λ a b goes lawful. subst (λ (l : List ℕ). IsHonestTalk s l b.slot) (sym (ap (λ t. t.now) goes.language)) (honest_still a.language.now (reduce_source (reduce.Source a.source.now)) a.slot b.slot goes.slot lawful);
    usable = λ a b goes usable.
        compiles_before a.language.now a.source.now (reduce_source (reduce.Source a.source.now)) a.slot b.slot goes.slot
        (subst (λ (l : List ℕ). Compiles s l a.source.now b.slot) (ap (λ t. t.now) goes.language) (subst (λ (t : List ℕ). Compiles s b.language.now t b.slot) (ap (λ t. t.now) goes.source) usable));
    fits = λ a b sum goes. (λ h. h, λ h. h);
  }

  pub child_stays_caused : StaysCaused (ChildGoes s) (ChildFails s)
  child_stays_caused = λ a b c fault before cause.
      let sources = reduce_source (reduce.Source a.source.now) in
      record {
        language = cause.language ∙ before.language;
        source = cause.source ∙ before.source;
        slot = fails_behind s a.language.now sources a.slot b.slot c.slot fault before.slot (fails_as a b b c fault before.language before.source cause.slot);
        given_up = cause.given_up;
      }

  -- ---- the views of a design

  same_reduce : (a b : Summers C) → b.design ≡ a.design → b.view ≡ a.view → reduce_of s b ≡ reduce_of s a
  same_reduce a b design view = ap (λ t. reduce_in t.now.views b.view) design ∙ ap (reduce_in a.design.now.views) view

  -- what may be asked for
  abbrev own : Summers C → List (List ℕ)
  own summers = reduce_source (reduce_of s summers)

  -- what is said of summers is said of others of the same view
  all_go_as : (a b c d : Summers C) → b.design ≡ a.design → b.view ≡ a.view → Goes s b.design.now.language (own b) c.slot d.slot → Goes s a.design.now.language (own a) c.slot d.slot
  all_go_as a b c d design view goes =
      subst (λ (r : Reduce). Goes s a.design.now.language (reduce_source r) c.slot d.slot) (same_reduce a b design view)
      (subst (λ t. Goes s t.now.language (own b) c.slot d.slot) design goes)

  all_fail_as : (a b c d : Summers C) (fault : PoolFault) → b.design ≡ a.design → b.view ≡ a.view → Fails s b.design.now.language (own b) c.slot d.slot fault → Fails s a.design.now.language (own a) c.slot d.slot fault
  all_fail_as a b c d fault design view fails =
      subst (λ (r : Reduce). Fails s a.design.now.language (reduce_source r) c.slot d.slot fault) (same_reduce a b design view)
      (subst (λ t. Fails s t.now.language (own b) c.slot d.slot fault) design fails)

  pub summers_steps : AreSteps (SummersGo s)
  summers_steps = record {
    none = λ a. record { design = refl; view = refl; slot = goes_none s a.design.now.language (own a) a.slot; idle = λ none. refl };
    both = λ a b c first second. record {
      design = second.design ∙ first.design;
      view = second.view ∙ first.view;
      slot = goes_both s a.design.now.language (own a) a.slot b.slot c.slot first.slot (all_go_as a b b c first.design first.view second.slot);
      idle = λ none. second.idle (ap reduce_source (same_reduce a b first.design first.view) ∙ none) ∙ first.idle none;
    };
  }

  -- what the summers mean
  abbrev pub means : Summers C → Meaning Row ViewSum
  means summers = view_meaning (functions_for s summers.design.now.language summers.slot) (reduce_of s summers)

  abbrev pub lawful : Summers C → Type 0
  lawful summers = IsLawfulFor s (reduce_of s summers) summers.design.now.language summers.slot

  abbrev pub usable : Summers C → Type 0
  usable summers = IsUsableFor s (reduce_of s summers) summers.design.now.language summers.slot

  abbrev pub fits : Summers C → ViewSum → Type 0
  fits summers = FitsView (reduce_of s summers)

  lawful_still : (reduce : Reduce) (language : List ℕ) (reduces : List (List ℕ)) (a b : ReduceSlot C) → Goes s language reduces a b → IsLawfulFor s reduce language a → IsLawfulFor s reduce language b
  lawful_still reduce.Absent language reduces a b goes h = tt
  lawful_still (reduce.Builtin kind) language reduces a b goes h = tt
  lawful_still (reduce.Source source) language reduces a b goes h = honest_still language reduces a b goes h

  usable_before : (reduce : Reduce) (language : List ℕ) (reduces : List (List ℕ)) (a b : ReduceSlot C) → Goes s language reduces a b → IsUsableFor s reduce language b → IsUsableFor s reduce language a
  usable_before reduce.Absent language reduces a b goes h = tt
  usable_before (reduce.Builtin kind) language reduces a b goes h = tt
  usable_before (reduce.Source source) language reduces a b goes h = compiles_before language source reduces a b goes h

  pub summers_keep : KeepsMeaning (SummersGo s) means lawful usable fits
  summers_keep = record {
    meaning = λ a b goes.
        let reduce = same_reduce a b goes.design goes.view in
        let functions = functions_still a.design.now.language a.slot b.slot goes.slot.keeps in
        ap (view_meaning (functions_for s b.design.now.language b.slot)) reduce
        ∙ ap (λ t. view_meaning (functions_for s t.now.language b.slot) (reduce_of s a)) goes.design
        ∙ ap (λ f. view_meaning f (reduce_of s a)) functions;
    lawful = λ a b goes h.
        let still = lawful_still (reduce_of s a) a.design.now.language (own a) a.slot b.slot goes.slot h in
        subst (λ (r : Reduce). IsLawfulFor s r b.design.now.language b.slot) (sym (same_reduce a b goes.design goes.view)) (subst (λ t. IsLawfulFor s (reduce_of s a) t.now.language b.slot) (sym goes.design) still);
    usable = λ a b goes h.
        usable_before (reduce_of s a) a.design.now.language (own a) a.slot b.slot goes.slot
        (subst (λ t. IsUsableFor s (reduce_of s a) t.now.language b.slot) goes.design (subst (λ (r : Reduce). IsUsableFor s r b.design.now.language b.slot) (same_reduce a b goes.design goes.view) h));
    fits = λ a b sum goes.
        let same = same_reduce a b goes.design goes.view in
        (subst (λ (r : Reduce). FitsView r sum) (sym same), subst (λ (r : Reduce). FitsView r sum) same);
  }

  pub summers_stay_caused : StaysCaused (SummersGo s) (SummersFail s)
  summers_stay_caused = λ a b c fault before cause. record {
    design = cause.design ∙ before.design;
    view = cause.view ∙ before.view;
    slot = fails_behind s a.design.now.language (own a) a.slot b.slot c.slot fault before.slot (all_fail_as a b b c fault before.design before.view cause.slot);
    given_up = λ some. cause.given_up (subst (λ (r : Reduce). reduce_source r ≢ []) (sym (same_reduce a b before.design before.view)) some);
    idle = λ none. let still = cause.idle (ap reduce_source (same_reduce a b before.design before.view) ∙ none) in (still.0, still.1 ∙ before.idle none);
  }
