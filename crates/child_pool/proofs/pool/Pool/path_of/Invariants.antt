use Rattle.std.specs.Prelude.{bytes_eq}
use Rattle.std.specs.Map.{lookup}
use Rattle.std.proofs.Common.{◌≡◌, map, drop}
use Rattle.child_pool.specs.Pools.{entry_of}
use Rattle.child_pool.proofs.pool.Pool.path_of.Given as goal

-- none of the languages so far is this one
abbrev pub invariant-loop-known : goal.invariant-loop-known
invariant-loop-known l = lookup (λ name. bytes_eq name l.language) (map entry_of (drop l.known-index l.self.languages.items)) ≡ lookup (λ name. bytes_eq name l.language) (map entry_of l.self.languages.items)
