-- Numbering in order of first occurrence, one thing at a time. Assumes nothing.
use Prim.Native.Nat.{ℕ, ◌+◌, ◌<◌}
use mathlib.Core.Path.{◌≡◌, ◌∙◌, ap}
use mathlib.Core.Logic.{⊎_elim}
use native.Mathlib.Omega.{arith}
use native.Mathlib.Decide.{dec_lt}
use Rattle.mealy.specs.inner.Classes.{Numbering}
use Rattle.mealy.proofs.Numbers.{split_last}

pub numbering_none : (class : ℕ → ℕ) → Numbering 0 class 0
numbering_none class = record { below = λ i h. absurd (omega arith); firsts = λ q. q; first = λ q h. absurd (omega arith) }

-- all of one class
pub numbering_one : {k : ℕ} {class : ℕ → ℕ} → 0 < k → ((i : ℕ) → i < k → class i ≡ 0) → Numbering k class 1
numbering_one some zero =
    record {
      below = λ i h. omega (arith, zero i h);
      firsts = λ q. 0;
      first = λ q h. (some, omega (arith, zero 0 some), λ j l. absurd (omega arith));
    }

module _ {k : ℕ} {class next : ℕ → ℕ} {n : ℕ} (x : Numbering k class n) (kept : (i : ℕ) → i < k → next i ≡ class i) where
  first_kept : (q : ℕ) → q < n → (x.firsts q < k + 1) × (next (x.firsts q) ≡ q) × ((j : ℕ) → j < x.firsts q → next j < q)
  first_kept q h =
      let f = x.first q h in
      (omega (arith, f.0), kept (x.firsts q) f.0 ∙ f.1, λ j l. omega (arith, kept j (omega (arith, f.0)), f.2 j l))

  -- one thing more, of a class that has occurred
  pub numbering_known : next k < n → Numbering (k + 1) next n
  numbering_known here =
      record {
        below = λ i h. ⊎_elim (λ (l : i < k). omega (arith, kept i l, x.below i l)) (λ (e : i ≡ k). rw e here) (split_last i k h);
        firsts = x.firsts;
        first = first_kept;
      }

  -- and of the next class
  pub numbering_new : next k ≡ n → Numbering (k + 1) next (n + 1)
  numbering_new here =
      record {
        below = λ i h.
            ⊎_elim (λ (l : i < k). omega (arith, kept i l, x.below i l)) (λ (e : i ≡ k). omega (arith, ap next e, here)) (split_last i k h);
        firsts = λ q. at q (dec_lt q n);
        first = λ q h. look q h (dec_lt q n);
      }
    where
      at : (q : ℕ) → Dec (q < n) → ℕ
      at q (yes l) = x.firsts q
      at q (no l) = k

      look : (q : ℕ) → q < n + 1 → (d : Dec (q < n)) → (at q d < k + 1) × (next (at q d) ≡ q) × ((j : ℕ) → j < at q d → next j < q)
      look q h (yes l) = first_kept q l
      look q h (no l) = (omega arith, omega (arith, here), λ j r. omega (arith, kept j r, x.below j r))
