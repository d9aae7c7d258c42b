-- Lists that are filled from the front, and blocks that are sealed with their checks.
use Rattle.std.specs.Prelude.{ℕ, ◌+◌, ◌*◌, ◌/◌, ◌%◌, ◌<◌, ◌≤◌, ◌≡◌, List, length, set}
use Rattle.ground.specs.Bytes.{at}
use Rattle.blocks.specs.Wrong.{check_of}

-- the first n values of a list are those of f
pub record Front (f : ℕ → ℕ) (n : ℕ) (l : List ℕ) : Type 0 where
  pub fits : n ≤ length l
  pub front : (i : ℕ) → i < n → at l i ≡ f i

-- a block with its check put to its end
unfoldable pub sealed : List ℕ → ℕ → List ℕ
sealed image b = set (set image (512 * b + 510) (check_of image b / 256)) (512 * b + 511) (check_of image b % 256)
