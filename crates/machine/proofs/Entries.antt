-- The rows of the states. Assumes nothing.
use Prim.Native.Nat.{ℕ, ◌+◌, ◌*◌, ◌≤◌, ◌<◌}
use mathlib.Core.Path.{◌≡◌, refl, ◌∙◌}
use mathlib.Core.Logic.{◌⊎◌, inl, inr, ⊎_elim}
use mathlib.Core.List.{List}
use native.Mathlib.Omega.{arith}
use lib.ListN.{length, set, length-set}
use lib.Seq.{get_or-set_same, get_or-set_other}
use Rattle.ground.specs.Bytes.{at}
use Rattle.operations.specs.Alphabet.{stride}
use Rattle.mealy.proofs.Numbers.{split_last}
use Rattle.machine.specs.inner.Writing.{RowWritten, Narrow}

pub narrow_at : {table : List ℕ} → Narrow table → (p : ℕ) {w : ℕ} → w ≡ at table p → w < 1052672
narrow_at x p e = rw e (x.narrow p)

pub row_start : (rows : List ℕ) (q : ℕ) (f : ℕ → ℕ) → RowWritten rows q f 0 rows
row_start rows q f = record { size = refl; words = λ a h. absurd (omega arith); kept = λ p h. refl }

-- one word more of a row
pub row_next : {rows rows' : List ℕ} {q : ℕ} {f : ℕ → ℕ} {a : ℕ} → RowWritten rows q f a rows' → q * stride + a < length rows → {v : ℕ} → v ≡ f a
    → RowWritten rows q f (a + 1) (set rows' (q * stride + a) v)
row_next {rows} {rows'} {q} {f} {a} x h {v} e =
    record {
      size = simp length-set x.size;
      words = λ b l.
          ⊎_elim (λ (r : b < a). get_or-set_other rows' (q * stride + a) (q * stride + b) v 0 (omega arith) ∙ x.words b r)
          (λ (r : b ≡ a).
          rw r (get_or-set_same rows' (q * stride + a) v 0 (rw x.size h) ∙ e))
          (split_last b a l);
      kept = λ p l. get_or-set_other rows' (q * stride + a) p v 0 (off p l) ∙ x.kept p (wider p l);
    }
  where
    off : (p : ℕ) → (p < q * stride) ⊎ (q * stride + (a + 1) ≤ p) → p ≡ q * stride + a → ⊥
    off p (inl l) d = omega arith
    off p (inr l) d = omega arith

    wider : (p : ℕ) → (p < q * stride) ⊎ (q * stride + (a + 1) ≤ p) → (p < q * stride) ⊎ (q * stride + a ≤ p)
    wider p (inl l) = inl l
    wider p (inr l) = inr (omega arith)

pub row_end : {rows rows' : List ℕ} {q : ℕ} {f : ℕ → ℕ} {a : ℕ} → RowWritten rows q f a rows' → a ≤ stride → stride ≤ a
    → RowWritten rows q f stride rows'
row_end {a = a} x h l = let e : a ≡ stride = omega arith in rw e at x
