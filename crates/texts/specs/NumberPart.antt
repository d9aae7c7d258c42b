-- The steps by which a text is followed over a number in decimal and the byte after it: no zero in front of another digit, and the number stays
-- below a bound. That they read it is proved in proofs/NumberPart.
use Rattle.std.specs.Prelude.{ℕ, suc, ◌+◌, ◌-◌, ◌*◌, Bool, not, ◌&&◌, cond, List, [], ◌∷◌, eqb, ltb, drop, Ok, Err}
use Rattle.ground.specs.Bytes.{in_range}
use Rattle.texts.specs.Step.{Part}

-- a digit, and the number that v becomes by it
abbrev pub is_digit : ℕ → Bool
is_digit b = in_range 48 57 b

abbrev pub with_digit : ℕ → ℕ → ℕ
with_digit v b = 10 * v + (b - 48)

-- a digit goes on with v: v is no zero in front, and stays below the bound
abbrev pub digit_goes_on : ℕ → ℕ → ℕ → Bool
digit_goes_on bound v b = is_digit b && not (eqb v 0) && ltb (with_digit v b) bound

-- one place further on
abbrev pub part_further : Part → Part
part_further (Ok (k, v)) = Ok ((suc k), v)
part_further (Err k) = Err (suc k)

-- v has been read
unfoldable pub number_rest : ℕ → ℕ → ℕ → List ℕ → Part
number_rest bound e v [] = Err 0
number_rest bound e v (b ∷ s) =
    cond (eqb b e) (Ok (1, v))
    (cond (digit_goes_on bound v b) (part_further (number_rest bound e (with_digit v b) s)) (Err 0))

unfoldable pub number_step : ℕ → ℕ → List ℕ → Part
number_step bound e [] = Err 0
number_step bound e (b ∷ s) = cond (is_digit b && ltb (b - 48) bound) (part_further (number_rest bound e (b - 48) s)) (Err 0)

-- the same at a place of the whole text
abbrev pub part_shift : ℕ → Part → Part
part_shift n (Ok (k, v)) = Ok ((n + k), v)
part_shift n (Err k) = Err (n + k)

abbrev pub number_at : ℕ → ℕ → List ℕ → ℕ → Part
number_at bound e t at = part_shift at (number_step bound e (drop at t))
