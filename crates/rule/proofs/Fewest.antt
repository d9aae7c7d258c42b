-- In the full way no placing does with fewer fences. Assumes nothing.
-- Each fence of the full way was put before an access n that ended a short pair (i, n). The target's last fence settles that pair, and all
-- fences put are the last one, so none of them stands between i and n: the stretches of the pairs for which fences were put are disjoint.
-- The pair exceeds the target's default, so any placing that keeps it has a fence in its stretch.
use Prim.Native.Nat.{ℕ, suc, ◌≤◌, ◌<◌, max}
use mathlib.Core.Path.{◌≡◌, sym, ap, ◌∙◌}
use mathlib.Core.Bool.{true}
use mathlib.Core.List.{[], ◌++◌}
use native.Mathlib.Decide.{dec_lt}
use native.Mathlib.Omega.{arith}
use lib.ListN.{length, take}
use lib.Seq.{take-append_seam}
use Rattle.tables.specs.declared.table.Row.{Row}
use Rattle.tables.specs.declared.table.Column.{Column}
use Rattle.tables.specs.Table.{cell}
use Rattle.operations.specs.declared.Kind.{Kind}
use Rattle.rule.specs.declared.way.Way.{Way}
use Rattle.rule.specs.declared.way.Choice.{Choice}
use Rattle.rule.specs.Stream.{Stream, access, fence, accesses, count, kind_at, fences, before, after, between}
use Rattle.rule.specs.Pairs.{Model, fence_table, is_row, is_column, highest, Keeps}
use Rattle.rule.specs.Rule.{rule}
use Rattle.rule.proofs.Streams.{accesses-append, accesses_before, count-append, count_fence, count_access, kind_append, kind_next}
use Rattle.rule.proofs.Streams.{before-append, before_next, before_before, after-append, fences-append, fences_split, fences_before}
use Rattle.rule.proofs.Streams.{highest_fence, highest_access, default_offered, fence_stands}
use Rattle.rule.proofs.Kept.{settled_means, some_short}
use Rattle.rule.proofs.Choices.{rule_fence, fence_will_do}
use Rattle.rule.proofs.EveryPair.{kept_by}
use Rattle.rule.proofs.Reach.{Reach, fresh, passed, plain, fenced, reach_same}

module _ (up target : Model) where
  -- the last access before which a fence was put: every placing has as many fences before that access as were put, and to every access
  -- before it the last fence is offered
  record Spent (input output : Stream) (from : ℕ) : Type 0 where
    within : from ≤ count input
    enough : (other : Stream) → accesses other ≡ accesses input → Keeps up target input other → fences output ≤ fences (before from other)
    offers_last : (i : ℕ) → i < from → (g : ℕ) → suc g ≡ length target.fences → (r : Row) (c : Column)
        → cell (fence_table target g) r c ≤ highest target r c (after i output)

  -- a placing for a longer stream is, as far as the shorter one goes, a placing for that
  restricted : (input x other : Stream) → accesses other ≡ accesses (input ++ x) → accesses (before (count input) other) ≡ accesses input
  restricted input x other e =
      accesses_before (count input) other ∙ ap (take (count input)) (e ∙ accesses-append input x) ∙ take-append_seam (accesses input) (accesses x)

  keeps_part : (input x other : Stream) → Keeps up target (input ++ x) other → Keeps up target input (before (count input) other)
  keeps_part input x other h i j l m =
      kept_by up target (input ++ x) other input (before (count input) other) i j
      (sym (kind_append input x i (omega arith))) (sym (kind_append input x j m))
      (ap (after i) (sym (before-append j input x m))) (ap (after i) (before_before j (count input) other (omega arith)))
      (h i j l (omega (arith, count-append input x)))

  -- so what every placing for the shorter one has, every placing for the longer one has there
  still_enough : {input output : Stream} {from : ℕ} → Spent input output from → (x other : Stream) → accesses other ≡ accesses (input ++ x)
      → Keeps up target (input ++ x) other → fences output ≤ fences (before from other)
  still_enough {input} {output} {from} sp x other e h =
      omega (
        arith,
        sp.enough (before (count input) other) (restricted input x other e) (keeps_part input x other h),
        ap fences (before_before from (count input) other sp.within),
      )

  -- the last fence is still offered after one access more
  still_offered : (output : Stream) (k : Kind) (i : ℕ) → i < count output → (r : Row) (c : Column)
      → highest target r c (after i (output ++ access k)) ≡ highest target r c (after i output)
  still_offered output k i l r c = ap (highest target r c) (after-append i output (access k) l) ∙ highest_access target r c (after i output) k

  spent_passed : {input output : Stream} {from : ℕ} → Spent input output from → (n : ℕ) → Spent (input ++ fence n) output from
  spent_passed {input} sp n =
      record {
        within = omega (arith, sp.within, count_fence input n);
        enough = λ other e h. still_enough sp (fence n) other e h;
        offers_last = sp.offers_last;
      }

  spent_plain : {input output : Stream} {from : ℕ} → Spent input output from → (k : Kind) → accesses output ≡ accesses input
      → Spent (input ++ access k) (output ++ access k) from
  spent_plain {input} {output} sp k same =
      record {
        within = omega (arith, sp.within, count_access input k);
        enough = λ other e h. omega (arith, still_enough sp (access k) other e h, fences-append output (access k));
        offers_last = λ i l g m r c.
            omega (arith, sp.offers_last i l g m r c, still_offered output k i (omega (arith, sp.within, ap length same)) r c);
      }

  -- a fence of the full way: the pair for which it was put lies behind all fences put so far, and every placing has one more fence there
  spent_fenced : {input output : Stream} {from : ℕ} → Spent input output from → (k : Kind) (g : ℕ) → accesses output ≡ accesses input
      → rule Way.Full up target input output k ≡ Choice.Fence g → Spent (input ++ access k) (output ++ fence g ++ access k) (count input)
  spent_fenced {input} {output} {from} sp k g same e =
      record {
        within = omega (arith, count_access input k);
        enough = more;
        offers_last = offered_now;
      }
    where
      n : ℕ
      n = count input

      short : (i : ℕ) × (i < count input) × (r : Row) × (c : Column) × (is_row (kind_at input i) r ≡ true) × (is_column k c ≡ true)
          × (highest target r c (after i output) < highest up r c (after i input))
      short = some_short up target input output k (rule_fence Way.Full up target input output k g e).0

      i : ℕ
      i = short.0

      r : Row
      r = short.2

      c : Column
      c = short.3

      put : (i : ℕ) → i < count input → (r : Row) (c : Column)
          → highest target r c (after i (output ++ fence g)) ≡ max (highest target r c (after i output)) (cell (fence_table target g) r c)
      put i l r c =
          ap (highest target r c) (after-append i output (fence g) (omega (arith, ap length same)))
          ∙ highest_fence target r c (after i output) g

      settles : highest up r c (after i input) ≤ cell (fence_table target g) r c
      settles =
          omega (
            arith,
            short.6,
            put i short.1 r c,
            settled_means up target input (output ++ fence g) k (fence_will_do Way.Full up target input output k g e)
                i short.1 r c short.4 short.5,
          )

      apart : from ≤ i
      apart = at (dec_lt i from)
        where
          at : Dec (i < from) → from ≤ i
          at (yes l) = absurd (omega (arith, sp.offers_last i l g (rule_fence Way.Full up target input output k g e).1.0 r c, settles, short.6))
          at (no l) = omega arith

      more : (other : Stream) → accesses other ≡ accesses (input ++ access k) → Keeps up target (input ++ access k) other
          → fences (output ++ fence g ++ access k) ≤ fences (before n other)
      more other s h =
          let at_i : kind_at (input ++ access k) i ≡ kind_at input i = kind_append input (access k) i short.1 in
          let at_n : kind_at (input ++ access k) n ≡ k = kind_next input k [] in
          let x : between i n (input ++ access k) ≡ after i input = ap (after i) (before_next input k []) in
          let l : highest up r c (between i n (input ++ access k)) ≤ highest target r c (between i n other) =
          h i n short.1 (omega (arith, count_access input k)) r c
          (ap (λ (a : Kind). is_row a r) at_i ∙ short.4) (ap (λ (b : Kind). is_column b c) at_n ∙ short.5) in
          let one : 0 < fences (between i n other) =
          fence_stands target r c (between i n other)
          (omega (arith, l, ap (highest up r c) x, short.6, default_offered target r c (after i output))) in
          omega (
            arith,
            one,
            still_enough sp (access k) other s h,
            fences_before from i other apart,
            fences_split i (before n other),
            ap fences (before_before i n other (omega (arith, short.1))),
            fences-append (output ++ fence g) (access k),
            fences-append output (fence g),
          )

      offered_now : (i : ℕ) → i < n → (last : ℕ) → suc last ≡ length target.fences → (r : Row) (c : Column)
          → cell (fence_table target last) r c ≤ highest target r c (after i (output ++ fence g ++ access k))
      offered_now i l last m r c =
          let same-last : last ≡ g = omega (arith, m, (rule_fence Way.Full up target input output k g e).1.0) in
          omega (
            arith,
            ap (λ (h : ℕ). cell (fence_table target h) r c) same-last,
            put i l r c,
            still_offered (output ++ fence g) k i (omega (arith, count-append output (fence g), ap length same)) r c,
          )

  reach_spent : {input output : Stream} → Reach Way.Full up target input output → (from : ℕ) × Spent input output from
  reach_spent fresh =
      (0, record { within = omega arith; enough = λ other e h. omega arith; offers_last = λ i l g m r c. absurd (omega arith) })
  reach_spent (passed h n) = let w = reach_spent h in (w.0, spent_passed w.1 n)
  reach_spent (plain h k e) = let w = reach_spent h in (w.0, spent_plain w.1 k (reach_same Way.Full up target h))
  reach_spent (fenced {input = x} h k g e) = let w = reach_spent h in (count x, spent_fenced w.1 k g (reach_same Way.Full up target h) e)

  pub reach_fewest : {input output : Stream} → Reach Way.Full up target input output → (other : Stream) → accesses other ≡ accesses input
      → Keeps up target input other → fences output ≤ fences other
  reach_fewest h other e keeps =
      let w = reach_spent h in
      omega (arith, w.1.enough other e keeps, fences_split w.0 other)
