-- Document 01, "The machine image": "Blocks of 512 bytes: bytes 0 and 1 the block's number, 2 to 505 contents, 506 to 509 zero, 510 and 511 the
-- Internet checksum (RFC 1071) of the first 510 bytes. Two-byte numbers have the high byte first. Block 0 holds at byte 2 the form (1), 3 the
-- way (0 sparing, 1 full), 4 the states (1 to 255), 5 the upstream fences, 6 the target fences, 7 to 22 and 23 to 38 the two names,
-- zero-filled; the rest is zero. Each later block holds 21 states of 24 bytes: for l, L, s, S a fence byte (a number, FF none, FE refused)
-- with the next state (0 where refused), then sixteen next states for upstream fences, zero where there is no such fence. Unused states are
-- zero."
-- What stands at each byte of an image is one definition, `stands_at`; what may stand there (Barred), what is written there and what is read
-- from there (Image) go by its cases.
use Rattle.std.specs.Prelude.{ℕ, ◌+◌, ◌-◌, ◌*◌, ◌/◌, ◌%◌, cond, ltb, eqb}
use Rattle.places.specs.declared.Place.{Place}

-- how many accesses have a fence byte in an entry; the size of a state's entry; how many states a block holds; how many blocks an image has
abbrev pub accesses : ℕ → ℕ
accesses form = 4

abbrev pub entry_size : ℕ → ℕ
entry_size form = 2 * accesses form + 16

abbrev pub states_to_a_block : ℕ → ℕ
states_to_a_block form = 504 / entry_size form

abbrev pub blocks_for : ℕ → ℕ → ℕ
blocks_for form states = 1 + (states + (states_to_a_block form - 1)) / states_to_a_block form

-- the limit of an image's length
abbrev pub limit : ℕ
limit = 512 * blocks_for 1 255

-- byte p of block 0
abbrev pub header_place : ℕ → Place
header_place p =
    cond (ltb p 3) Place.Form
    (cond (ltb p 4) Place.Way
    (cond (ltb p 5) Place.States
    (cond (ltb p 6) Place.UpstreamFences
    (cond (ltb p 7) Place.TargetFences
    (cond (ltb p 23) (Place.UpstreamName (p - 7))
    (cond (ltb p 39) (Place.TargetName (p - 23))
    Place.Nothing))))))

-- byte o of a state's entry
abbrev pub entry_place : ℕ → ℕ → ℕ → Place
entry_place form state o =
    cond (ltb o (2 * accesses form))
    (cond (eqb (o % 2) 0) (Place.Fence state (o / 2)) (Place.Next state (o / 2)))
    (Place.FenceNext state (o - 2 * accesses form))

-- byte p of block b, among its contents and in the whole block
abbrev pub content_place : ℕ → ℕ → ℕ → Place
content_place form b p =
    cond (eqb b 0) (header_place p)
    (entry_place form ((b - 1) * states_to_a_block form + (p - 2) / entry_size form) ((p - 2) % entry_size form))

abbrev pub block_place : ℕ → ℕ → ℕ → Place
block_place form b p =
    cond (ltb p 2) Place.Number
    (cond (ltb p 506) (content_place form b p)
    (cond (ltb p 510) Place.Nothing
    Place.Check))

unfoldable pub stands_at : ℕ → ℕ → Place
stands_at form i = block_place form (i / 512) (i % 512)

-- where a state's entry begins, and where its byte o stands
abbrev pub entry_start : ℕ → ℕ → ℕ
entry_start form state = 512 * (1 + state / states_to_a_block form) + 2 + entry_size form * (state % states_to_a_block form)

abbrev pub position : ℕ → ℕ → ℕ → ℕ
position form state o = entry_start form state + o
