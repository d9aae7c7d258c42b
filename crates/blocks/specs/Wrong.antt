-- Document 01: "Blocks of 512 bytes: bytes 0 and 1 the block's number, 2 to 505 contents, 506 to 509 zero, 510 and 511 the Internet checksum
-- (RFC 1071) of the first 510 bytes." "The stored check must equal the computed one exactly."
use Rattle.std.specs.Prelude.{ℕ, ◌+◌, ◌*◌, ◌/◌, Bool, true, not, cond, List, ltb, eqb, length}
use Rattle.ground.specs.Bytes.{at}
use Rattle.blocks.specs.Checksum.{two_bytes, checksum}

-- the check that block b must have; and 0 for one that is not all there
unfoldable pub check_of : List ℕ → ℕ → ℕ
check_of image b = checksum 255 (λ (p : ℕ). at image (512 * b + p))

unfoldable pub check_in : List ℕ → ℕ → ℕ
check_in image b = cond (ltb b (length image / 512)) (check_of image b) 0

-- block b is broken off, or has a wrong number or a wrong check
unfoldable pub wrong : List ℕ → ℕ → Bool
wrong image b =
    cond (ltb (length image) (512 * b + 512)) true
    (cond (eqb (two_bytes (at image (512 * b)) (at image (512 * b + 1))) b)
    (not (eqb (two_bytes (at image (512 * b + 510)) (at image (512 * b + 510 + 1))) (check_of image b)))
    true)
