use Rattle.std.proofs.Common.{◌≡◌, ◌++◌, map, drop, string_bytes}
use Rattle.child_pool.specs.Languages.{languages_in}
use Rattle.child_pool.specs.Pools.{entry_of}
use Rattle.child_pool.proofs.pool.Pool.new.Given as goal

-- the languages so far and those of the words that are left are all
abbrev pub invariant-loop-word : goal.invariant-loop-word
invariant-loop-word l = map entry_of l.languages.items ++ languages_in (map string_bytes (drop l.word-index l.words)) ≡ languages_in (map string_bytes l.words)
