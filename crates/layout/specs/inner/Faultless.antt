-- What an accepted image has: no fault of the layout, told block by block and byte by byte.
use Rattle.std.specs.Prelude.{ℕ, ◌+◌, ◌*◌, ◌<◌, ◌≤◌, ◌≡◌, false, List, length}
use Rattle.ground.specs.Bytes.{at}
use Rattle.blocks.specs.Checksum.{two_bytes}
use Rattle.places.specs.Layout.{limit}
use Rattle.blocks.specs.Wrong.{wrong, check_of}
use Rattle.barred.specs.Barred.{barred}
use Rattle.layout.specs.Verdict.{block_count}

pub record Faultless (image : List ℕ) : Type 0 where
  pub fits : length image ≤ limit
  pub blocks : (b : ℕ) → b < block_count image → wrong image b ≡ false
  pub bytes : (i : ℕ) → i < length image → barred image i ≡ false

-- a block that is not wrong
pub record Block (image : List ℕ) (b : ℕ) : Type 0 where
  pub whole : 512 * b + 512 ≤ length image
  pub number : two_bytes (at image (512 * b)) (at image (512 * b + 1)) ≡ b
  pub check : two_bytes (at image (512 * b + 510)) (at image (512 * b + 510 + 1)) ≡ check_of image b
