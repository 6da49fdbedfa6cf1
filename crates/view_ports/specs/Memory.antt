-- What callers see of the ports in memory.
use Rattle.std.specs.Prelude.{ℕ, List, Bool, nat_eq}
use Rattle.std.specs.List.{list_any}

-- a source: the bytes that are left, how many a read gives at most, the numbers of the calls that fail,
-- how many calls were made, and how many faults there were
pub record SourceState : Type 0 where
  pub left : List ℕ
  pub piece : ℕ
  pub fail : List ℕ
  pub calls : ℕ
  pub faults : ℕ

-- a sink: the bytes that it was given, how many a write takes at most, and the rest as for a source
pub record SinkState : Type 0 where
  pub held : List ℕ
  pub piece : ℕ
  pub fail : List ℕ
  pub calls : ℕ
  pub faults : ℕ

-- whether the call with this number is one of those that fail
abbrev pub is_listed : List ℕ → ℕ → Bool
is_listed fail call = list_any (λ number. nat_eq number call) fail
