-- Document 01: "510 and 511 the Internet checksum (RFC 1071) of the first 510 bytes. Two-byte numbers have the high byte first."
-- RFC 1071: the checksum of words of sixteen bits is the one's complement of their one's complement sum; in such a sum what is carried out
-- at the top comes back in at the bottom.
use Rattle.std.specs.Prelude.{ℕ, zero, suc, ◌+◌, ◌-◌, ◌*◌, cond, ltb}

abbrev pub two_bytes : ℕ → ℕ → ℕ
two_bytes high low = 256 * high + low

-- the one's complement sum of two words
abbrev pub plus : ℕ → ℕ → ℕ
plus a b = cond (ltb (a + b) 65536) (a + b) (a + b - 65535)

-- of the first n words
unfoldable pub sum_of : ℕ → (ℕ → ℕ) → ℕ
sum_of zero word = 0
sum_of (suc n) word = plus (sum_of n word) (word n)

-- word k of bytes
abbrev pub word_of : (ℕ → ℕ) → ℕ → ℕ
word_of byte k = two_bytes (byte (2 * k)) (byte (2 * k + 1))

-- the checksum of the first n words of bytes
abbrev pub checksum : ℕ → (ℕ → ℕ) → ℕ
checksum n byte = 65535 - sum_of n (word_of byte)
