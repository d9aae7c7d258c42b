-- Where a zero is barred no more.
use Rattle.std.specs.Prelude.{ℕ, ◌<◌, ◌≤◌, ◌≡◌, false, List, length}
use Rattle.ground.specs.Bytes.{at}
use Rattle.barred.specs.Barred.{barred}

-- a byte from `from` on that is zero is not barred
abbrev pub ZerosKept : List ℕ → ℕ → Type 0
ZerosKept image from = (i : ℕ) → from ≤ i → i < length image → at image i ≡ 0 → barred image i ≡ false
