-- The laws of a store, for one in memory.
use Rattle.std.proofs.Common.{◌≡◌, ◌≤◌, ◌+◌, ℕ, zero, suc, List, [], ◌∷◌, ◌++◌, length, Option, Some, None, IsTrue, refl, ◌∙◌, subst, arith}
use Rattle.std.specs.Prelude.{slice_get}
use Rattle.std.proofs.lemmas.List.Sums.{sum_by_push, sum_by-cons}
use Rattle.tree_laws.specs.declared.memory.MemoryFault.{MemoryFault}
use Rattle.tree_laws.specs.declared.memory.MemoryFault.TheVariants as memory_fault
use Rattle.tree_laws.specs.Meaning.{AreSteps, StaysCaused}
use Rattle.tree_laws.specs.Stores.{Extends, Growing, KeepsPlaces, pieces_size}
use Rattle.tree_laws.specs.Memory.{MemoryState, places, is_listed, nodes_size, Goes, Fails, FailsBy}

pub memory_steps : AreSteps Goes
memory_steps = record {
  none = λ a. record { fail = refl; calls = omega arith; kept = λ at bytes h. h; grows = omega arith };
  both = λ a b c first second. record { fail = second.fail ∙ first.fail; calls = omega (arith, first.calls, second.calls); kept = λ at bytes h. second.kept at bytes (first.kept at bytes h); grows = omega (arith, first.grows, second.grows) };
}

none_before : (old new : Option (List ℕ)) → ((bytes : List ℕ) → old ≡ Some bytes → new ≡ Some bytes) → new ≡ None → old ≡ None
none_before None new kept none = refl
none_before (Some bytes) new kept none = let there = kept bytes refl in absurd cc

causes_before : (a b c : MemoryState) (fault : MemoryFault) → Goes a b → FailsBy b c fault → FailsBy a c fault
causes_before a b c memory_fault.Failed goes cause =
    record { call = cause.call; listed = subst (λ fail. IsTrue (is_listed fail cause.call)) goes.fail cause.listed; later = omega (arith, goes.calls, cause.later); counted = cause.counted }
causes_before a b c (memory_fault.NoNode at) goes cause = none_before (places a at) (places b at) (goes.kept at) cause
causes_before a b c memory_fault.NoMemory goes cause = tt

pub memory_causes : StaysCaused Goes Fails
memory_causes a b c fault goes fails = record { goes = memory_steps.both a b c goes fails.goes; cause = causes_before a b c fault goes fails.cause }

pub memory_keeps : (a b : MemoryState) → Goes a b → KeepsPlaces (Some (places a)) (Some (places b))
memory_keeps a b goes = goes.kept

pub memory_grows : (a b : MemoryState) → Goes a b → Growing a.puts b.puts (nodes_size a.nodes) (nodes_size b.nodes)
memory_grows a b goes = goes.grows

pub memory_grew : (a b : MemoryState) (fault : MemoryFault) → Fails a b fault → Growing a.puts b.puts (nodes_size a.nodes) (nodes_size b.nodes)
memory_grew a b fault fails = fails.goes.grows

kept_by_push : (nodes : List (List ℕ)) (piece : List ℕ) → Extends (slice_get nodes) (slice_get (nodes ++ piece ∷ []))
kept_by_push [] piece at bytes there = absurd cc
kept_by_push (node ∷ nodes) piece zero bytes there = there
kept_by_push (node ∷ nodes) piece (suc at) bytes there = kept_by_push nodes piece at bytes there

-- a store after a piece was put into it
pub memory_puts : (s : MemoryState) (piece : List ℕ) (calls : ℕ) → s.calls ≤ calls → Goes s (record s { nodes = s.nodes ++ piece ∷ []; calls = calls; puts = piece ∷ s.puts })
memory_puts s piece calls later =
    let stands : nodes_size (s.nodes ++ piece ∷ []) ≡ nodes_size s.nodes + (length piece + 8) = sum_by_push (λ node. length node + 8) s.nodes piece in
    let put : pieces_size (piece ∷ s.puts) ≡ (length piece + 8) + pieces_size s.puts = sum_by-cons (λ node. length node + 8) piece s.puts in
    record {
      fail = refl;
      calls = later;
      kept = kept_by_push s.nodes piece;
      grows = omega (arith, stands, put);
    }
