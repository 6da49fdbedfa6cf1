-- What the summers of a design mean is what the summaries of its views are spelled from, so far as it is known.
use Rattle.std.proofs.Common.{◌≡◌, ℕ, List, [], ◌∷◌, refl, sym, ap, ◌∙◌, subst, arith}
use Rattle.std.specs.Prelude.{Option, Some, None}
use Rattle.json_terms.specs.declared.term.Row.{Row}
use Rattle.design_docs.specs.declared.design.Reduce.{Reduce}
use Rattle.design_docs.specs.declared.design.Reduce.TheVariants as reduce
use Rattle.view_ports.specs.declared.servers.Servers.{Ghosts as Servers}
use Rattle.view_ports.specs.Functions.{Functions}
use Rattle.tree_laws.specs.Meaning.{Values}
use Rattle.tree_laws.specs.Values.{PassFor}
use Rattle.child_pool.specs.declared.reduce_slot.ReduceSlot.{ReduceSlot}
use Rattle.child_pool.specs.declared.reduce_slot.Stage.TheVariants.{Begun, GivenUp}
use Rattle.child_pool.specs.declared.summers.Summers.{Summers}
use Rattle.child_pool.specs.declared.view_sum.ViewSum.{ViewSum}
use Rattle.child_pool.specs.Languages.{path_in}
use Rattle.child_pool.specs.ReduceTalk.{Goes, reduce_source}
use Rattle.child_pool.specs.SummerLaws.{fits, lawful, means, summers_steps}
use Rattle.child_pool.specs.Summers.{IsHonestTalk, IsLawfulFor, SummersGo, functions_for, or_no_path, reduce_of, view_value}
use Rattle.child_pool.specs.TalkLaws.{stands_on}
use Rattle.index_trees.specs.ViewValues.{value_by, view_values, AreFunctionsOf, IsKnownBy, SumsBy}

module _ {C : Type 0} (s : Servers C) where
  abbrev pub summer_values : Summers C → Values Row ViewSum
  summer_values summers = record { meaning = means s summers; fits = fits s summers; lawful = lawful s summers }

  -- ---- one language

  lawful_by : (language : List ℕ) (slot : ReduceSlot C) (functions : Option Functions) (r : Reduce) → AreFunctionsOf s language slot functions → IsKnownBy functions r → IsLawfulFor s r language slot
  lawful_by language slot functions reduce.Absent by known = tt
  lawful_by language slot functions (reduce.Builtin kind) by known = tt
  lawful_by language slot (Some f) (reduce.Source source) by known = by.0
  lawful_by language slot None (reduce.Source source) by known = absurd known

  same_value : (language : List ℕ) (slot : ReduceSlot C) (functions : Option Functions) (r : Reduce) → AreFunctionsOf s language slot functions → IsKnownBy functions r
      → (rows : List Row) → value_by functions r rows ≡ view_value (functions_for s language slot) r rows
  same_value language slot None reduce.Absent by known rows = refl
  same_value language slot (Some f) reduce.Absent by known rows = refl
  same_value language slot None (reduce.Builtin kind) by known rows = refl
  same_value language slot (Some f) (reduce.Builtin kind) by known rows = refl
  same_value language slot None (reduce.Source source) by known rows = absurd known
  same_value language slot (Some f) (reduce.Source source) by known rows = ap (λ g. view_value g (reduce.Source source) rows) (sym by.1)

  -- ---- a state from which the summers went on, and which means as much as is known

  pub record IsFirst (summers : Summers C) (functions : Option Functions) : Type 0 where
    pub first : Summers C
    pub goes : SummersGo s first summers
    pub there : PassFor (view_values functions (reduce_of s summers)) (summer_values first)
    pub back : PassFor (summer_values first) (view_values functions (reduce_of s summers))

  module _ (summers : Summers C) where
    abbrev own : List ℕ
    own = summers.design.now.language

    -- where the value is known they mean it themselves
    itself : (functions : Option Functions) → SumsBy s summers functions → ((h : lawful s summers) → IsKnownBy functions (reduce_of s summers)) → IsFirst summers functions
    itself functions by known = record {
      first = summers;
      goes = (summers_steps s).none summers;
      there = record {
        spelled = λ sum. refl;
        fits = λ sum h. h;
        lawful = known;
        value = λ h rows. sym (same_value own summers.slot functions (reduce_of s summers) by (known h) rows);
      };
      back = record {
        spelled = λ sum. refl;
        fits = λ sum h. h;
        lawful = lawful_by own summers.slot functions (reduce_of s summers) by;
        value = same_value own summers.slot functions (reduce_of s summers) by;
      };
    }

    -- else take a talk that was begun with no child: nothing could be asked by it, so nothing is meant by its values
    abbrev mute : Summers C
    mute = record summers { slot = record summers.slot { stage = Begun; pool = record summers.slot.pool { now = record summers.slot.pool.now { reducer = None } } } }

    is_mute : (source : List ℕ) → reduce_of s summers ≡ reduce.Source source → lawful s mute → ⊥
    is_mute source is h =
        let talk : IsHonestTalk s own mute.slot = subst (λ (r : Reduce). IsLawfulFor s r own mute.slot) is h in
        let kept = (talk.stands.ready refl).1 in
        let never : None ≡ Some talk.path = kept in cc

    unknown : (source : List ℕ) → reduce_of s summers ≡ reduce.Source source → IsFirst summers None
    unknown source is = record {
      first = mute;
      goes = record {
        design = refl;
        view = refl;
        slot = record {
          pool = refl;
          servers = refl;
          keeps = record { languages = refl; width = refl };
          later = omega arith;
          stays = λ stage. let never : Begun ≡ GivenUp = stage in absurd cc;
          talks = λ path calls stands. let never : None ≡ Some path = (stands.ready refl).1 in absurd cc;
        };
        idle = λ none. let never : source ∷ [] ≡ [] = sym (ap reduce_source is) ∙ none in absurd cc;
      };
      there = record { spelled = λ sum. refl; fits = λ sum h. h; lawful = λ h. absurd (is_mute source is h); value = λ h rows. absurd (is_mute source is h) };
      back = record {
        spelled = λ sum. refl;
        fits = λ sum h. h;
        lawful = λ known. absurd (subst (IsKnownBy None) is known);
        value = λ known rows. absurd (subst (IsKnownBy None) is known);
      };
    }

    by_reduce : (r : Reduce) → reduce_of s summers ≡ r → IsFirst summers None
    by_reduce reduce.Absent is = itself None tt (λ h. subst (IsKnownBy None) (sym is) tt)
    by_reduce (reduce.Builtin kind) is = itself None tt (λ h. subst (IsKnownBy None) (sym is) tt)
    by_reduce (reduce.Source source) is = unknown source is

    always_known : (f : Functions) (r : Reduce) → IsKnownBy (Some f) r
    always_known f reduce.Absent = tt
    always_known f (reduce.Builtin kind) = tt
    always_known f (reduce.Source source) = tt

    pub first_of : (functions : Option Functions) → SumsBy s summers functions → IsFirst summers functions
    first_of None by = by_reduce (reduce_of s summers) refl
    first_of (Some f) by = itself (Some f) by (λ h. always_known f (reduce_of s summers))

  -- ---- what is known stays known over a talk

  module _ (language : List ℕ) (reduces : List (List ℕ)) (a b : ReduceSlot C) (goes : Goes s language reduces a b) where
    honest_then : IsHonestTalk s language a → IsHonestTalk s language b
    honest_then talk =
        let w = goes.talks talk.path talk.calls talk.stands in
        record {
          path = talk.path;
          known = subst (λ (l : List (List ℕ × List ℕ)). path_in l language ≡ Some talk.path) (sym goes.keeps.languages) talk.known;
          honest = talk.honest;
          calls = w.now;
          stands = stands_on s language reduces (λ fault. ⊥) a b talk.path talk.calls goes.keeps talk.stands w;
        }

    functions_then : functions_for s language b ≡ functions_for s language a
    functions_then = ap (λ (l : List (List ℕ × List ℕ)). s.functions (or_no_path (path_in l language))) goes.keeps.languages

    pub functions_stay : (functions : Option Functions) → AreFunctionsOf s language a functions → AreFunctionsOf s language b functions
    functions_stay None by = tt
    functions_stay (Some f) by = (honest_then by.0, functions_then ∙ by.1)
