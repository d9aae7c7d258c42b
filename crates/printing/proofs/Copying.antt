-- Laws of `put`: where a text fits and where it does not, and what is told of it there. Assumes nothing.
use Prim.Native.Nat.{ℕ, suc, ◌+◌, ◌≤◌, ◌<◌}
use mathlib.Core.Path.{◌≡◌, sym, ap, subst, ◌∙◌}
use mathlib.Core.List.{List, ◌++◌}
use native.Mathlib.Numerals.{add-one}
use borrow.Author.Tests.{le-leb, lt-leb}
use lib.ListN.{length, take, drop}
use lib.Seq.{take-length, paste}
use Rattle.printing.specs.Printing.{placed, printed, Prints}

module _ (room at n : ℕ) where
  pub placed_fits : at + n ≤ room → placed room at n ≡ at + n
  unfolding placed
  placed_fits l = rw (le-leb (at + n) room l)

  pub placed_not : room < at + n → placed room at n ≡ suc room
  unfolding placed
  placed_not l = rw (lt-leb (at + n) room l)

module _ (before text : List ℕ) (at : ℕ) where
  pub printed_fits : at + length text ≤ length before → printed at text before ≡ take at before ++ text ++ drop (at + length text) before
  unfolding printed
  printed_fits l = rw (le-leb (at + length text) (length before) l)

  pub printed_not : length before < at + length text → printed at text before ≡ before
  unfolding printed
  printed_not l = rw (lt-leb (at + length text) (length before) l)

  -- where there is no room
  pub prints_not : {r : ℕ} → length before < at + length text → r ≡ length before + 1 → Prints before before at r text
  prints_not l e = record {
    place = e ∙ add-one (length before) ∙ sym (placed_not (length before) at (length text) l);
    buffer = sym (printed_not l);
  }

  -- where there is
  pub prints_fits : {b : List ℕ} → at + length text ≤ length before → b ≡ paste before at text (length text)
      → Prints before b at (at + length text) text
  prints_fits l is = record {
    place = sym (placed_fits (length before) at (length text) l);
    buffer = is ∙ ap (λ (t : List ℕ). take at before ++ t ++ drop (at + length text) before) (take-length text) ∙ sym (printed_fits l);
  }

-- the same text under another description
pub prints_is : {before after x y : List ℕ} {at r : ℕ} → x ≡ y → Prints before after at r x → Prints before after at r y
prints_is {before} {after} {x} {y} {at} {r} e p = subst (Prints before after at r) e p
