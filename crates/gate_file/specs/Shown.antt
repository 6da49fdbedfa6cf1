-- What a crash may leave of a gate file.
use Rattle.std.specs.Prelude.{◌≡◌, ℕ, ◌<◌, ◌≤◌, List, [], ◌∷◌, length, slice_index, Option}
use Rattle.view_ports.specs.File.{File, IsIn, IsOneOf}
use Rattle.gate_file.specs.declared.root.Root.{Root}
use Rattle.gate_file.specs.Header.{data_start, IsFit, newest}

-- behind the slots an image has all of these bytes, and maybe more behind them
pub record HasAll (bytes image : List ℕ) : Type 0 where
  pub long : length bytes ≤ length image
  pub rest : (place : ℕ) → data_start ≤ place → place < length bytes → slice_index image place ≡ slice_index bytes place

-- An image names this root, no slot of it is damaged, and behind the slots it has all of these bytes.
pub record Shows (root : Option Root) (bytes image : List ℕ) : Type 0 where
  pub names : newest image ≡ root
  pub low : IsFit 0 image
  pub high : IsFit 4096 image
  pub has : HasAll bytes image

-- all that was done to the file since its last sync was done behind its first `count` bytes, which are there
pub record IsBehind (count : ℕ) (file : File) : Type 0 where
  pub lengths : (size : ℕ) → IsOneOf file.lengths size → count ≤ size
  pub written : (place : ℕ) → IsIn file.written place → count ≤ place
  pub added : (place : ℕ) → IsIn file.added place → count ≤ place

-- the file begins with its durable bytes, and nothing of them may be lost
pub record KeepsDurable (file : File) : Type 0 where
  pub behind : IsBehind (length file.durable) file
  pub long : length file.durable ≤ length file.seen
  pub same : (place : ℕ) → place < length file.durable → slice_index file.seen place ≡ slice_index file.durable place

-- a file that was just made: room for the slots, all zero
pub record IsBlank (bytes : List ℕ) : Type 0 where
  pub long : length bytes ≡ data_start
  pub zero_there : (place : ℕ) → slice_index bytes place ≡ 0

-- what stands before the bytes that are appended: what was there, or a new file's slots
abbrev pub IsFront : List ℕ → List ℕ → Type 0
IsFront [] front = IsBlank front
IsFront (byte ∷ bytes) front = front ≡ byte ∷ bytes
