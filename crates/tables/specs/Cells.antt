-- A number read as cells of two bits each, the first lowest: how a table is packed. Only this crate looks at the bits.
use Rattle.std.specs.Prelude.{ℕ, zero, suc, ◌+◌, ◌*◌, ◌/◌, ◌%◌, ◌^◌}

-- the cell at a place
abbrev pub digit : ℕ → ℕ → ℕ
digit t i = t / 2 ^ (2 * i) % 4

-- the number whose first n cells are those of f, with nothing above them
abbrev pub packed : (ℕ → ℕ) → ℕ → ℕ
packed f zero = 0
packed f (suc n) = packed f n + f n % 4 * 2 ^ (2 * n)
