-- The rows are read off each class's first member, in one walk over the situations. Assumes nothing.
use Prim.Native.Nat.{ℕ, ◌+◌, ◌*◌, ◌≤◌, ◌<◌}
use mathlib.Core.Path.{◌≡◌, refl, sym, ◌∙◌, ap}
use mathlib.Core.Logic.{inl, inr, ⊎_elim}
use mathlib.Core.List.{List}
use native.Mathlib.Omega.{arith}
use lib.ListN.{length}
use Rattle.operations.specs.Alphabet.{stride}
use Rattle.mealy.specs.inner.Classes.{Numbering}
use Rattle.mealy.proofs.Numbers.{order, split_last}
use Rattle.mealy.proofs.Refining.{firsts_rise}
use Rattle.machine.specs.inner.Writing.{RowWritten, RowsWritten, FirstWritten, later, first}

-- of the first i situations, those that are the first of their classes, which are the classes below q, have their rows written
pub record Writing {k : ℕ} {class : ℕ → ℕ} {n : ℕ} (x : Numbering k class n) (f : ℕ → ℕ → ℕ) (rows rows' : List ℕ) (q i : ℕ) : Type 0 where
  pub low : q ≤ n
  pub past : (p : ℕ) → p < q → x.firsts p < i
  pub ahead : q < n → i ≤ x.firsts q
  pub done : RowsWritten rows q (λ p. f (x.firsts p)) rows'

-- one row more
rows_more : {k : ℕ} {class : ℕ → ℕ} {n : ℕ} (x : Numbering k class n) (f : ℕ → ℕ → ℕ) {rows rows' rows'' : List ℕ} {q i : ℕ}
    → RowsWritten rows q (λ p. f (x.firsts p)) rows' → RowWritten rows' q (f i) stride rows'' → x.firsts q ≡ i
    → RowsWritten rows (q + 1) (λ p. f (x.firsts p)) rows''
rows_more x f {q = q} w y e =
    record {
      size = y.size ∙ w.size;
      words = λ p a l h.
          ⊎_elim (λ (r : p < q). y.kept (p * stride + a) (inl (omega arith)) ∙ w.words p a r h)
          (λ (r : p ≡ q). rw (r, e) (y.words a h))
          (split_last p q l);
      kept = λ p l. y.kept p (inr (omega arith)) ∙ w.kept p (omega arith);
    }

module _ {k : ℕ} {class : ℕ → ℕ} {n : ℕ} (x : Numbering k class n) {f : ℕ → ℕ → ℕ} {rows : List ℕ} where
  pub writing_start : Writing x f rows rows 0 0
  writing_start =
      record {
        low = omega arith;
        past = λ p h. absurd (omega arith);
        ahead = λ h. omega arith;
        done = record { size = refl; words = λ q a h. absurd (omega arith); kept = λ p h. refl };
      }

  -- a situation of the next class to come is the first of it
  is_first : {rows' : List ℕ} {q i : ℕ} → Writing x f rows rows' q i → i < k → class i ≡ q → (q < n) × (x.firsts q ≡ i)
  is_first {q = q} {i = i} w h e =
      let l : q < n = omega (arith, x.below i h) in
      let g = x.first q l in (
        l,
        ⊎_elim (λ (r : x.firsts q < i). absurd (omega (arith, w.ahead l)))
            (⊎_elim (λ r. r) (λ (r : i < x.firsts q). absurd (omega (arith, g.2 i r))))
            (order (x.firsts q) i),
      )

  writing_later : {rows' : List ℕ} {q i : ℕ} → Writing x f rows rows' q i → i < k → (class i ≡ q → ⊥) → Writing x f rows rows' q (i + 1)
  writing_later {q = q} {i = i} w h unlike =
      record {
        low = w.low;
        past = λ p l. omega (arith, w.past p l);
        ahead = λ l. omega (arith, w.ahead l, other l);
        done = w.done;
      }
    where
      other : q < n → x.firsts q ≡ i → ⊥
      other l e = unlike (ap class (sym e) ∙ (x.first q l).1)

  writing_first : {rows' rows'' : List ℕ} {q i : ℕ} → Writing x f rows rows' q i → i < k → class i ≡ q → RowWritten rows' q (f i) stride rows''
      → Writing x f rows rows'' (q + 1) (i + 1)
  writing_first {q = q} {i = i} w h e y =
      let g = is_first w h e in
      record {
        low = omega (arith, g.0);
        past = λ p l. ⊎_elim (λ (r : p < q). omega (arith, w.past p r)) (λ (r : p ≡ q). rw r (omega (arith, g.1))) (split_last p q l);
        ahead = λ l. omega (arith, firsts_rise x q (q + 1) (omega arith) l, g.1);
        done = rows_more x f w.done y g.1;
      }

  -- the next situation, first of its class or not
  pub writing_next : {rows' rows'' : List ℕ} {q i r : ℕ} → Writing x f rows rows' q i → i < k → FirstWritten (class i) q rows' (f i) rows'' r
      → Writing x f rows rows'' r (i + 1)
  writing_next w h (later unlike same e) = rw (same, e) (writing_later w h unlike)
  writing_next w h (first here y e) = rw e (writing_first w h here y)

  -- there is room for its row
  pub writing_room : {rows' : List ℕ} {q i : ℕ} → Writing x f rows rows' q i → i < k → n * stride ≤ length rows → class i ≡ q
      → q * stride + stride ≤ length rows'
  writing_room w h room e = omega (arith, (is_first w h e).0, w.done.size)

  pub writing_end : {rows' : List ℕ} {q i : ℕ} → Writing x f rows rows' q i → k ≤ i → RowsWritten rows n (λ p. f (x.firsts p)) rows'
  writing_end {q = q} {i = i} w h =
      ⊎_elim (λ (l : q < n). absurd (omega (arith, w.ahead l, (x.first q l).0)))
      (⊎_elim (λ (e : q ≡ n). rw e at w.done) (λ (l : n < q). absurd (omega (arith, w.low))))
      (order q n)
