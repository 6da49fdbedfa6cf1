-- A talk by some sources is one by more sources, as one for a view is one for its design.
use Rattle.std.proofs.Common.{◌≢◌, ℕ, List, [], ◌∷◌, ◌++◌, refl, subst, inl, inr}
use Rattle.std.specs.List.{AllByRecursion}
use Rattle.view_ports.specs.declared.command.Command.{Command}
use Rattle.view_ports.specs.declared.servers.Servers.{Ghosts as Servers}
use Rattle.view_ports.specs.Calls.{Call}
use Rattle.child_pool.specs.declared.pool_fault.PoolFault.{PoolFault}
use Rattle.child_pool.specs.declared.reduce_slot.ReduceSlot.{ReduceSlot}
use Rattle.child_pool.specs.Histories.{WentReducing}
use Rattle.child_pool.specs.Jobs.{AllReducing, IsAmong, IsReducingAt}
use Rattle.child_pool.specs.ReduceTalk.{Fails, Goes, IsReduction, Stretch}
use Rattle.child_pool.proofs.Widened.{caused_wider, lawful_wider}

pub among_front : (xs ys : List (List ℕ)) (x : List ℕ) → IsAmong xs x → IsAmong (xs ++ ys) x
among_front [] ys x among = absurd among
among_front (first ∷ xs) ys x (inl same) = inl same
among_front (first ∷ xs) ys x (inr later) = inr (among_front xs ys x later)

pub among_back : (xs ys : List (List ℕ)) (x : List ℕ) → IsAmong ys x → IsAmong (xs ++ ys) x
among_back [] ys x among = among
among_back (first ∷ xs) ys x among = inr (among_back xs ys x among)

module _ (few many : List (List ℕ)) (among : (source : List ℕ) → IsAmong few source → IsAmong many source) where
  some_wider : (xs ys : List (List ℕ)) → ((source : List ℕ) → IsAmong xs source → IsAmong ys source) → xs ≢ [] → ys ≢ []
  some_wider [] ys sub some = absurd (some refl)
  some_wider (x ∷ xs) ys sub some = λ none. absurd (subst (λ (zs : List (List ℕ)). IsAmong zs x) none (sub x (inl refl)))

  reducing_wider : (path : List ℕ) (width : ℕ) (call : Call) (before : List Call) → IsReducingAt path few width call before → IsReducingAt path many width call before
  reducing_wider path width call before (inl own) = inl (own.0, lawful_wider path few many among call before own.1, some_wider few many among own.2)
  reducing_wider path width call before (inr stops) = inr stops

  all_reducing_wider : (path : List ℕ) (width : ℕ) (added before : List Call) → AllReducing path few width added before → AllReducing path many width added before
  all_reducing_wider path width [] before h = tt
  all_reducing_wider path width (call ∷ added) before h = (reducing_wider path width call (added ++ before) h.0, all_reducing_wider path width added before h.1)

  each_wider : (commands : List Command) → AllByRecursion (IsReduction few) commands → AllByRecursion (IsReduction many) commands
  each_wider [] h = tt
  each_wider (command ∷ commands) h = ((h.0.0, among h.0.0 h.0.1, h.0.2), each_wider commands h.1)

  went_wider : {follow : List Call → Type 0} {path : List ℕ} {width : ℕ} {before : List Call} {P Q : List Call → List Call → Type 0}
      → ((added now : List Call) → P added now → Q added now) → WentReducing follow path few width before P → WentReducing follow path many width before Q
  went_wider {path = path} {width = width} {before = before} f w = record {
    added = w.added;
    now = w.now;
    is_now = w.is_now;
    follows = w.follows;
    lawful = all_reducing_wider path width w.added before w.lawful;
    holds = f w.added w.now w.holds;
  }

  module _ {C : Type 0} (s : Servers C) (language : List ℕ) where
    stretch_wider : (IsFault : PoolFault → Type 0) (path : List ℕ) (a b : ReduceSlot C) (added now : List Call) → Stretch s language few IsFault path a b added now → Stretch s language many IsFault path a b added now
    stretch_wider IsFault path a b added now h = record { commands = h.commands; each = each_wider h.commands h.each; some = h.some; talked = h.talked; there = h.there; ready = h.ready }

    pub goes_wider : (a b : ReduceSlot C) → Goes s language few a b → Goes s language many a b
    goes_wider a b goes = record {
      pool = goes.pool;
      servers = goes.servers;
      keeps = goes.keeps;
      later = goes.later;
      stays = goes.stays;
      talks = λ path calls stands. went_wider (λ added now h. stretch_wider (λ fault. ⊥) path a b added now h) (goes.talks path calls stands);
    }

    pub fails_wider : (a b : ReduceSlot C) (fault : PoolFault) → Fails s language few a b fault → Fails s language many a b fault
    fails_wider a b fault fails = record {
      pool = fails.pool;
      servers = fails.servers;
      keeps = fails.keeps;
      later = fails.later;
      talks = λ path calls stands. went_wider (λ added now h.
          (stretch_wider _ path a b added now h.0, elim h.1 [ inl unknown ↦ inl unknown | inr caused ↦ inr (caused_wider path few many among s.functions s.honest fault added calls caused) ]))
          (fails.talks path calls stands);
      given_up = fails.given_up;
      silent = fails.silent;
      twice = fails.twice;
      unknown = fails.unknown;
    }
