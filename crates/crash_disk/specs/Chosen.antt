-- Which image of a file a choice gives.
use Rattle.std.specs.Prelude.{◌≡◌, ℕ, ◌<◌, List, length, slice_index}
use Rattle.view_ports.specs.File.{File, IsIn, IsOneOf, IsImage}

-- what is read, and what was synced, are images by their lengths and bytes
pub record IsSound (file : File) : Type 0 where
  pub seen_stays : IsImage file file.seen
  pub durable_long : IsOneOf file.lengths (length file.durable)

-- the bytes with 255 in every place of the ranges
pub record IsOverwritten (ranges : List (ℕ × ℕ)) (bytes image : List ℕ) : Type 0 where
  pub long : length image ≡ length bytes
  pub inside : (place : ℕ) → place < length bytes → IsIn ranges place → slice_index image place ≡ 255
  pub outside : (place : ℕ) → (IsIn ranges place → ⊥) → slice_index image place ≡ slice_index bytes place

-- the image that a choice gives is one that a crash may leave; choice 0 keeps nothing that wasn't synced,
-- 1 keeps all, and 2 puts 255 into every place that was written since
pub record IsChosen (choice : ℕ) (file : File) (image : List ℕ) : Type 0 where
  pub stays : IsImage file image
  pub synced_alone : choice ≡ 0 → image ≡ file.durable
  pub all : choice ≡ 1 → image ≡ file.seen
  pub overwritten : choice ≡ 2 → IsOverwritten file.written file.seen image
