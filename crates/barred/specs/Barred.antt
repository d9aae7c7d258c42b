-- Document 01: refusal 11, "an image holds a value the layout bars; a wrong block count is charged to byte 4", at the "lowest such byte".
-- "In a name field the barred bytes are a first byte of zero, a nonzero byte that no name may hold, and any byte other than zero after a zero."
-- Each byte has its own rule; it may trust bytes 2 to 6, since where one of those is barred it is the lower.
use Rattle.std.specs.Prelude.{ℕ, zero, suc, ◌+◌, ◌-◌, ◌*◌, Bool, true, false, not, cond, List, leb, ltb, eqb, length}
use Rattle.ground.specs.Bytes.{at, name_byte}
use Rattle.places.specs.declared.Place.{Place}
use Rattle.places.specs.Layout.{blocks_for, stands_at}

-- a zero stands among the first k bytes of the name at a place
unfoldable pub ended : List ℕ → ℕ → ℕ → Bool
ended image from zero = false
ended image from (suc k) = cond (eqb (at image (from + k)) 0) true (ended image from k)

unfoldable pub barred_name : List ℕ → ℕ → ℕ → Bool
barred_name image from k =
    cond (eqb (at image (from + k)) 0) (eqb k 0) (cond (name_byte (at image (from + k))) (ended image from k) true)

-- the numbers that the header gives
abbrev pub states_of : List ℕ → ℕ
states_of image = at image 4

abbrev pub upstream_fences_of : List ℕ → ℕ
upstream_fences_of image = at image 5

abbrev pub target_fences_of : List ℕ → ℕ
target_fences_of image = at image 6

-- the number that the next state must stay below: the states, and 1 where nothing but zero may stand
unfoldable pub next_below : List ℕ → ℕ → Bool → ℕ
next_below image state leads = cond (ltb state (states_of image)) (cond leads (states_of image) 1) 1

-- "the states (1 to 255)", and so many blocks as they want
unfoldable pub wrong_count : List ℕ → ℕ → Bool
wrong_count image states = cond (eqb states 0) true (not (eqb (length image) (512 * blocks_for 1 states)))

-- "a fence byte (a number, FF none, FE refused)": a number names a target fence
unfoldable pub barred_fence : List ℕ → ℕ → ℕ → Bool
barred_fence image state value =
    cond (ltb state (states_of image)) (cond (leb (target_fences_of image) value) (ltb value 254) false) (leb 1 value)

-- value v of byte i is barred, by what stands there
abbrev pub barred_as : List ℕ → ℕ → ℕ → Place → Bool
barred_as image i v Place.Number = false
barred_as image i v Place.Check = false
barred_as image i v Place.Nothing = leb 1 v
barred_as image i v Place.Form = not (eqb v 1)
barred_as image i v Place.Way = ltb 1 v
barred_as image i v Place.States = wrong_count image v
barred_as image i v Place.UpstreamFences = ltb 16 v
barred_as image i v Place.TargetFences = ltb 16 v
barred_as image i v (Place.UpstreamName k) = barred_name image 7 k
barred_as image i v (Place.TargetName k) = barred_name image 23 k
barred_as image i v (Place.Fence state a) = barred_fence image state v
barred_as image i v (Place.Next state a) = leb (next_below image state (not (eqb (at image (i - 1)) 254))) v
barred_as image i v (Place.FenceNext state f) = leb (next_below image state (ltb f (upstream_fences_of image))) v

unfoldable pub barred : List ℕ → ℕ → Bool
barred image i = barred_as image i (at image i) (stands_at 1 i)
