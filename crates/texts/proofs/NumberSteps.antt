-- One byte more of a number, at a place of the whole text: what the loop of `number_rest` goes by. Assumes nothing.
use Rattle.std.proofs.Common.{Ok, Err}
use Prim.Native.Nat.{ℕ, suc, ◌+◌, ◌-◌, ◌≤◌, ◌<◌}
use mathlib.Core.Path.{◌≡◌, sym, ap, ◌∙◌}
use mathlib.Core.Bool.{true, false, ◌&&◌, cond}
use mathlib.Core.List.{List}
use native.Mathlib.Omega.{arith}
use native.Mathlib.Nat.{add-zero}
use native.Mathlib.Numerals.{add-one}
use borrow.Author.Tests.{eq-eqb, ne_eqb}
use lib.Dec.{eqb, ltb}
use lib.ListN.{length, drop, get_or, drop_of_length-le}
use lib.Seq.{drop-cons}
use Rattle.texts.specs.Step.{Part}
use Rattle.texts.specs.NumberPart.{is_digit, with_digit, digit_goes_on, part_further, part_shift, number_rest, number_step, number_at}

shift_further : (here : ℕ) (r : Part) → part_shift here (part_further r) ≡ part_shift (here + 1) r
shift_further here (Ok (k, v)) = ap (λ (p : ℕ). Ok (p, v)) (omega arith)
shift_further here (Err k) = ap Err (omega arith)

module _ (bound e v : ℕ) (t : List ℕ) (here : ℕ) where
  -- v has been read, and the rest is read from here
  abbrev Left : Part
  Left = part_shift here (number_rest bound e v (drop here t))

  pub rest_over : length t ≤ here → Left ≡ Err here
  unfolding number_rest
  rest_over l = rw (drop_of_length-le t l) (ap Err (add-zero here))

  module _ (l : here < length t) where
    abbrev b : ℕ
    b = get_or t here 0

    abbrev after : List ℕ
    after = drop (suc here) t

    tested : Left ≡ part_shift here (cond (eqb b e) (Ok (1, v))
        (cond (digit_goes_on bound v b) (part_further (number_rest bound e (with_digit v b) after)) (Err 0)))
    unfolding number_rest
    tested = ap (λ (s : List ℕ). part_shift here (number_rest bound e v s)) (drop-cons t here 0 l)

    pub rest_ends : get_or t here 0 ≡ e → Left ≡ Ok ((here + 1), v)
    rest_ends same = tested ∙ rw (eq-eqb _ _ same)

    pub rest_not : (get_or t here 0 ≡ e → ⊥) → digit_goes_on bound v (get_or t here 0) ≡ false → Left ≡ Err here
    rest_not other g = tested ∙ rw (ne_eqb _ _ other, g) (ap Err (add-zero here))

    pub rest_more : (get_or t here 0 ≡ e → ⊥) → digit_goes_on bound v (get_or t here 0) ≡ true
        → Left ≡ part_shift (here + 1) (number_rest bound e (with_digit v (get_or t here 0)) (drop (here + 1) t))
    rest_more other g =
        tested
        ∙ rw (ne_eqb _ _ other, g) (shift_further here (number_rest bound e (with_digit v b) after))
        ∙ ap (λ (i : ℕ). part_shift (here + 1) (number_rest bound e (with_digit v b) (drop i t))) (sym (add-one here))

-- the first digit
module _ (bound e : ℕ) (t : List ℕ) (at : ℕ) where
  pub number_over : length t ≤ at → number_at bound e t at ≡ Err at
  unfolding number_step
  number_over l = rw (drop_of_length-le t l) (ap Err (add-zero at))

  module _ (l : at < length t) where
    first : number_at bound e t at ≡ part_shift at (cond (is_digit (get_or t at 0) && ltb (get_or t at 0 - 48) bound)
        (part_further (number_rest bound e (get_or t at 0 - 48) (drop (suc at) t))) (Err 0))
    unfolding number_step
    first = ap (λ (s : List ℕ). part_shift at (number_step bound e s)) (drop-cons t at 0 l)

    pub number_not : is_digit (get_or t at 0) && ltb (get_or t at 0 - 48) bound ≡ false → number_at bound e t at ≡ Err at
    number_not g = first ∙ rw g (ap Err (add-zero at))

    pub number_first : is_digit (get_or t at 0) && ltb (get_or t at 0 - 48) bound ≡ true
        → number_at bound e t at ≡ part_shift (at + 1) (number_rest bound e (get_or t at 0 - 48) (drop (at + 1) t))
    number_first g =
        first
        ∙ rw g (shift_further at (number_rest bound e (get_or t at 0 - 48) (drop (suc at) t)))
        ∙ ap (λ (i : ℕ). part_shift (at + 1) (number_rest bound e (get_or t at 0 - 48) (drop i t))) (sym (add-one at))
