-- Puts one behind another: the second begins where the first ends, and where one does not fit nothing fits behind it. Assumes nothing.
use Prim.Native.Nat.{ℕ, ◌+◌, ◌≤◌, ◌<◌}
use mathlib.Core.Path.{◌≡◌, refl, sym, ap, ap₂, subst, ◌∙◌}
use mathlib.Core.List.{List, [], ◌++◌, append_assoc, append-nil}
use native.Mathlib.Decide.{dec_le}
use native.Mathlib.Omega.{arith}
use lib.ListN.{length, take, drop, length-append}
use lib.Seq.{take-length, length-take-le, paste, length-paste, take-paste}
use Rattle.printing.specs.Printing.{Prints}
use Rattle.printing.specs.Putting.{Put, Fronts}
use Rattle.printing.proofs.Copying.{placed_fits, placed_not, printed_fits, printed_not}

-- a put is the least of such chains
pub prints_put : {before after text : List ℕ} {at r : ℕ} → Prints before after at r text → Put before after at r text
prints_put {before} {after} {text} {at} {r} p = by (dec_le (at + length text) (length before))
  where
    room : ℕ
    room = length before

    by : Dec (at + length text ≤ room) → Put before after at r text
    by (yes l) =
        let is : r ≡ at + length text = p.place ∙ placed_fits room at (length text) l in
        let all : after ≡ paste before at text (length text) =
        p.buffer ∙ printed_fits before text at l
        ∙ ap (λ (x : List ℕ). take at before ++ x ++ drop (at + length text) before) (sym (take-length text)) in
        record {
          size = ap length all ∙ length-paste before at text (length text) l (omega arith);
          place = λ _. is;
          bytes = λ _.
              ap₂ (λ (n : ℕ) (x : List ℕ). take n x) is all
              ∙ take-paste before at text (length text) (omega arith) (omega arith)
              ∙ ap (λ (x : List ℕ). take at before ++ x) (take-length text);
          past = λ h. absurd (omega arith);
        }
    by (no g) =
        let h : room < at + length text = omega arith in
        record {
          size = ap length (p.buffer ∙ printed_not before text at h);
          place = λ l. absurd (g l);
          bytes = λ l. absurd (g l);
          past = λ _. omega (arith, p.place ∙ placed_not room at (length text) h);
        }

pub put_none : {b : List ℕ} {at : ℕ} → Put b b at at []
put_none {b} {at} = record {
  size = refl;
  place = λ l. omega arith;
  bytes = λ l. sym (append-nil (take at b));
  past = λ l. omega arith;
}

pub put_is : {b a : List ℕ} {at r : ℕ} {x y : List ℕ} → x ≡ y → Put b a at r x → Put b a at r y
put_is {b} {a} {at} {r} e p = subst (Put b a at r) e p

pub put_then : {a b c x y : List ℕ} {at r s : ℕ} → Put a b at r x → Put b c r s y → Put a c at s (x ++ y)
put_then {a} {b} {c} {x} {y} {at} {r} {s} p q = record {
  size = q.size ∙ p.size;
  place = λ l. omega (arith, long, first l, q.place (second l));
  bytes = λ l.
      q.bytes (second l)
      ∙ ap (λ (t : List ℕ). t ++ y) (p.bytes (omega (arith, long, l)))
      ∙ append_assoc (take at a) x y;
  past = λ h. by (dec_le (at + length x) (length a)) h;
}
  where
    long : length (x ++ y) ≡ length x + length y
    long = length-append x y

    first : at + length (x ++ y) ≤ length a → r ≡ at + length x
    first l = p.place (omega (arith, long, l))

    second : at + length (x ++ y) ≤ length a → r + length y ≤ length b
    second l = omega (arith, long, first l, p.size)

    by : Dec (at + length x ≤ length a) → length a < at + length (x ++ y) → length a < s
    by (yes l) h = omega (arith, p.size, q.past (omega (arith, long, h, p.place l, p.size)))
    by (no g) h = omega (arith, p.size, q.past (omega (arith, p.past (omega arith), p.size)))

-- a chain on a page with nothing on it, where there is room for its text: the text is all that is on the page
pub put_fronts : {bytes before after text : List ℕ} {at r : ℕ} → before ≡ bytes → at ≡ 0 → Put before after at r text → length text ≤ length bytes
    → Fronts after r text
put_fronts {before = before} {after = after} {text = text} {at = at} {r = r} same none p l =
    let h : at + length text ≤ length before = omega (arith, none, ap length same) in
    let inside : r ≤ length after = omega (arith, p.place h, p.size) in
    record {
      inside = inside;
      count = sym (length-take-le r after inside);
      bytes = p.bytes h ∙ ap (λ (n : ℕ). take n before ++ text) none;
    }
