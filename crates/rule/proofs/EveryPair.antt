-- Every pair of a run is kept, and how. Assumes nothing.
use Prim.Native.Nat.{ℕ, ◌<◌}
use mathlib.Core.Path.{◌≡◌, refl, sym, ap, ◌∙◌}
use mathlib.Core.List.{[], ◌++◌}
use native.Mathlib.Decide.{dec_lt}
use native.Mathlib.Omega.{arith}
use lib.ListN.{length}
use Rattle.operations.specs.declared.Kind.{Kind}
use Rattle.rule.specs.declared.way.Way.{Way}
use Rattle.rule.specs.Stream.{Stream, access, fence, accesses, count, kind_at, after, between}
use Rattle.rule.specs.Pairs.{Model, is_row, is_column, highest, Kept, Keeps, Settled}
use Rattle.rule.proofs.Streams.{count_fence, count_access, kind_append, kind_next, before-append, before_next, same_fence}
use Rattle.rule.proofs.Kept.{settled_means}
use Rattle.rule.proofs.Choices.{rule_nothing, fence_will_do}
use Rattle.rule.proofs.Reach.{Reach, fresh, passed, plain, fenced, reach_same}

module _ (up target : Model) where
  -- a pair is kept by what its kinds are and by what stands between
  pub kept_by : (input output input' output' : Stream) (i j : ℕ)
      → kind_at input' i ≡ kind_at input i → kind_at input' j ≡ kind_at input j
      → between i j input' ≡ between i j input → between i j output' ≡ between i j output
      → Kept up target input output i j → Kept up target input' output' i j
  kept_by input output input' output' i j ei ej x y h r c hr hc =
      let l = h r c (sym (ap (λ (k : Kind). is_row k r) ei) ∙ hr) (sym (ap (λ (k : Kind). is_column k c) ej) ∙ hc) in
      omega (arith, l, ap (highest up r c) x, ap (highest target r c) y)

  -- pairs that were kept stay kept where more is put behind
  kept_more : (input output x y : Stream) → accesses output ≡ accesses input → Keeps up target input output
      → (i j : ℕ) → i < j → j < count input → Kept up target (input ++ x) (output ++ y) i j
  kept_more input output x y same h i j l m =
      kept_by input output (input ++ x) (output ++ y) i j
      (kind_append input x i (omega arith)) (kind_append input x j m)
      (ap (after i) (before-append j input x m)) (ap (after i) (before-append j output y (omega (arith, ap length same))))
      (h i j l m)

  keeps_passed : (input output : Stream) (n : ℕ) → accesses output ≡ accesses input → Keeps up target input output
      → Keeps up target (input ++ fence n) output
  keeps_passed input output n same h i j l m =
      kept_by input output (input ++ fence n) output i j
      (kind_append input (fence n) i (omega (arith, count_fence input n))) (kind_append input (fence n) j (omega (arith, count_fence input n)))
      (ap (after i) (before-append j input (fence n) (omega (arith, count_fence input n)))) refl
      (h i j l (omega (arith, count_fence input n)))

  keeps_put : (input output : Stream) (g : ℕ) → accesses output ≡ accesses input → Keeps up target input output
      → Keeps up target input (output ++ fence g)
  keeps_put input output g same h i j l m =
      kept_by input output input (output ++ fence g) i j refl refl refl
      (ap (after i) (before-append j output (fence g) (omega (arith, ap length same)))) (h i j l m)

  -- one access more, with all pairs that end there kept
  keeps_access : (input output : Stream) (k : Kind) → accesses output ≡ accesses input
      → Keeps up target input output → Settled up target input output k → Keeps up target (input ++ access k) (output ++ access k)
  keeps_access input output k same h ends i j l m = at (dec_lt j (count input))
    where
      at : Dec (j < count input) → Kept up target (input ++ access k) (output ++ access k) i j
      at (yes below) = kept_more input output (access k) (access k) same h i j l below
      at (no above) = λ r c hr hc.
          let e : j ≡ count input = omega (arith, count_access input k) in
          let f : j ≡ count output = omega (arith, ap length same) in
          let x : between i j (input ++ access k) ≡ after i input =
          ap (λ (n : ℕ). between i n (input ++ access k)) e ∙ ap (after i) (before_next input k []) in
          let y : between i j (output ++ access k) ≡ after i output =
          ap (λ (n : ℕ). between i n (output ++ access k)) f ∙ ap (after i) (before_next output k []) in
          let t = ends i (omega arith) r c
          (sym (ap (λ (a : Kind). is_row a r) (kind_append input (access k) i (omega arith))) ∙ hr)
          (sym (ap (λ (n : ℕ). is_column (kind_at (input ++ access k) n) c) e ∙ ap (λ (b : Kind). is_column b c) (kind_next input k [])) ∙ hc) in
          omega (arith, t, ap (highest up r c) x, ap (highest target r c) y)

  module _ (way : Way) where
    pub reach_keeps : {input output : Stream} → Reach way up target input output → Keeps up target input output
    reach_keeps fresh = λ i j l m. absurd (omega arith)
    reach_keeps (passed {input = x} {output = y} h n) = keeps_passed x y n (reach_same way up target h) (reach_keeps h)
    reach_keeps (plain {input = x} {output = y} h k e) =
        keeps_access x y k (reach_same way up target h) (reach_keeps h) (settled_means up target x y k (rule_nothing way up target x y k e))
    reach_keeps (fenced {input = x} {output = y} h k g e) =
        keeps_access x (y ++ fence g) k (same_fence x y g (reach_same way up target h)) (keeps_put x y g (reach_same way up target h) (reach_keeps h))
        (settled_means up target x (y ++ fence g) k (fence_will_do way up target x y k g e))
