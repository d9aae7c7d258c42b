-- The stepped situation is the situation by pairs, and the run by situations is the run by the rule. Assumes nothing.
use Prim.Native.Nat.{ℕ, ◌≤◌, ◌<◌, max, min}
use mathlib.Core.Path.{◌≡◌, refl, sym, ap, ap₂, fun_ext, ◌∙◌}
use mathlib.Core.Bool.{Bool, true, false, cond}
use mathlib.Core.List.{[], ◌∷◌, ◌++◌, append_assoc}
use native.Mathlib.Omega.{arith}
use lib.ListN.{length}
use Rattle.tables.specs.declared.table.Row.{Row}
use Rattle.tables.specs.declared.table.Column.{Column}
use Rattle.tables.specs.declared.table.Table.{Table}
use Rattle.tables.specs.Table.{Merge, cell, excess, higher, lower, exceeding, at_least}
use Rattle.tables.proofs.Laws.{cell_below, cell_made, cell_merged, table_cong, table_merged, at_least_cells, cells_at_least, cell_none}
use Rattle.tables.proofs.Excess.{excess_below, excess_least, excess_lifts, excess_of_higher, excess_over_higher}
use Rattle.operations.specs.declared.Kind.{Kind}
use Rattle.operations.specs.declared.Operation.{Operation}
use Rattle.rule.specs.declared.situation.Situation.{Situation}
use Rattle.rule.specs.declared.way.Way.{Way}
use Rattle.rule.specs.declared.way.Choice.{Choice}
use Rattle.rule.specs.Stream.{Stream, access, fence, accesses, count, kind_at, after}
use Rattle.rule.specs.Pairs.{Model, fence_table, is_row, is_column, highest, settled}
use Rattle.rule.specs.Situation.{highest_below, least_below, need_at, low_at, need, low, situation, in_rows, outside_rows, in_columns, asks}
use Rattle.rule.specs.Situation.{offers, joins, pending, none, choice_of, step_of, resumed, steps}
use Rattle.rule.specs.Rule.{pick, rule, onward, behind, Ran}
use Rattle.rule.proofs.Streams.{same_access, same_fence, count_fence, count_access, kind_append, kind_next, after-append, after_next}
use Rattle.rule.proofs.Streams.{highest_access, highest_fence, highest_below_lem}
use Rattle.rule.proofs.Folds.{highest_cong, least_cong, highest_at_most, least_below_lem, highest_both, cond_higher, excess_over_least}
use Rattle.rule.proofs.Folds.{excess_of_highest, least_raised, same_test, highest_from}
use Rattle.rule.proofs.Choices.{goes_on}
use Rattle.rule.proofs.Kept.{settled_means, means_settled}

ap₃ : {A B C D : Type 0} (f : A → B → C → D) {a a' : A} {b b' : B} {c c' : C} → a ≡ a' → b ≡ b' → c ≡ c' → f a b c ≡ f a' b' c'
ap₃ f p q s = λ i. f (p i) (q i) (s i)

-- one operation more, cell by cell

module _ (up target : Model) (r : Row) (c : Column) (input output : Stream) (same : accesses output ≡ accesses input) where
  -- the numbers that the situation is made of: what access i asks and is offered
  a : ℕ → ℕ
  a i = highest up r c (after i input)

  o : ℕ → ℕ
  o i = highest target r c (after i output)

  counts : ℕ → Bool
  counts i = is_row (kind_at input i) r

  there : (i : ℕ) → i < count input → i < count output
  there i l = omega (arith, ap length same)

  need_asks : (n : ℕ) → need up target (input ++ fence n) output r c
      ≡ max (need up target input output r c) (excess (cell (fence_table up n) r c) (low target input output r c))
  unfolding a o counts
  need_asks n =
      ap (λ (m : ℕ). highest_below m (need_at up target (input ++ fence n) output r c)) (count_fence input n)
      ∙ highest_cong (count input) _ (λ (i : ℕ). max (cond (counts i) (excess (a i) (o i)) 0) (cond (counts i) (excess f (o i)) 0))
      (λ i l.
      ap₂ (λ (k : Kind) (x : ℕ). cond (is_row k r) (excess x (o i)) 0) (kind_append input (fence n) i l)
      (ap (highest up r c) (after-append i input (fence n) l) ∙ highest_fence up r c (after i input) n)
      ∙ ap (λ (x : ℕ). cond (counts i) x 0) (excess_of_higher (a i) f (o i))
      ∙ cond_higher (counts i) _ _)
      ∙ highest_both (count input) _ _
      ∙ ap (max (need up target input output r c)) (excess_over_least counts (count input) f o (omega (arith, cell_below (fence_table up n) r c)))
    where
      f : ℕ
      f = cell (fence_table up n) r c

  low_asks : (n : ℕ) → low target (input ++ fence n) output r c ≡ low target input output r c
  low_asks n =
      ap (λ (m : ℕ). least_below m (low_at target (input ++ fence n) output r c)) (count_fence input n)
      ∙ least_cong (count input) _ _
      (λ i l. ap (λ (k : Kind). cond (is_row k r) (highest target r c (after i output)) 3) (kind_append input (fence n) i l))

  need_offers : (g : ℕ) → need up target input (output ++ fence g) r c
      ≡ excess (need up target input output r c) (cell (fence_table target g) r c)
  unfolding a o counts
  need_offers g =
      highest_cong (count input) _ (λ (i : ℕ). cond (counts i) (excess (excess (a i) (o i)) f) 0)
      (λ i l.
      ap (λ (x : ℕ). cond (counts i) (excess (a i) x) 0)
      (ap (highest target r c) (after-append i output (fence g) (there i l)) ∙ highest_fence target r c (after i output) g)
      ∙ ap (λ (x : ℕ). cond (counts i) x 0) (excess_over_higher (a i) (o i) f))
      ∙ excess_of_highest counts (count input) f (λ (i : ℕ). excess (a i) (o i))
    where
      f : ℕ
      f = cell (fence_table target g) r c

  low_offers : (g : ℕ) → low target input (output ++ fence g) r c
      ≡ max (low target input output r c) (cell (fence_table target g) r c)
  unfolding a o counts
  low_offers g =
      least_cong (count input) _ (λ (i : ℕ). cond (counts i) (max (o i) f) 3)
      (λ i l.
      ap (λ (x : ℕ). cond (counts i) x 3)
      (ap (highest target r c) (after-append i output (fence g) (there i l)) ∙ highest_fence target r c (after i output) g))
      ∙ least_raised counts (count input) f o (omega (arith, cell_below (fence_table target g) r c))
    where
      f : ℕ
      f = cell (fence_table target g) r c

  -- an earlier access asks and is offered the same after one access more
  still : (m : Model) (s : Stream) (i : ℕ) (k : Kind) → i < count s → highest m r c (after i (s ++ access k)) ≡ highest m r c (after i s)
  still m s i k l = ap (highest m r c) (after-append i s (access k) l) ∙ highest_access m r c (after i s) k

  -- the access itself has the defaults
  default : (m : Model) (s : Stream) (k : Kind) (i : ℕ) → i ≡ count s → highest m r c (after i (s ++ access k)) ≡ cell m.ppo r c
  default m s k i e = ap (λ (j : ℕ). highest m r c (after j (s ++ access k))) e ∙ ap (highest m r c) (after_next s k [])

  need_joins : (k : Kind) → need up target (input ++ access k) (output ++ access k) r c
      ≡ max (need up target input output r c) (cond (is_row k r) (excess (cell up.ppo r c) (cell target.ppo r c)) 0)
  need_joins k =
      ap (λ (m : ℕ). highest_below m (need_at up target (input ++ access k) (output ++ access k) r c)) (count_access input k)
      ∙ ap₂ max
      (highest_cong (count input) _ _
      (λ i l. ap₃ (λ (j : Kind) (x y : ℕ). cond (is_row j r) (excess x y) 0)
      (kind_append input (access k) i l) (still up input i k l) (still target output i k (there i l))))
      (ap₃ (λ (j : Kind) (x y : ℕ). cond (is_row j r) (excess x y) 0) (kind_next input k []) (default up input k (count input) refl)
      (default target output k (count input) (sym (ap length same))))

  low_joins : (k : Kind) → low target (input ++ access k) (output ++ access k) r c
      ≡ min (low target input output r c) (cond (is_row k r) (cell target.ppo r c) 3)
  low_joins k =
      ap (λ (m : ℕ). least_below m (low_at target (input ++ access k) (output ++ access k) r c)) (count_access input k)
      ∙ ap₂ min
      (least_cong (count input) _ _
      (λ i l. ap₂ (λ (j : Kind) (y : ℕ). cond (is_row j r) y 3) (kind_append input (access k) i l) (still target output i k (there i l))))
      (ap₂ (λ (j : Kind) (y : ℕ). cond (is_row j r) y 3) (kind_next input k []) (default target output k (count input) (sym (ap length same))))

-- the cells of a situation

module _ (up target : Model) (input output : Stream) where
  need_below : (r : Row) (c : Column) → need up target input output r c < 4
  need_below r c = omega (arith, highest_at_most (count input) _ 3 each)
    where
      at_most : (b : Bool) (x : ℕ) → x < 4 → cond b x 0 ≤ 3
      at_most true x l = omega arith
      at_most false x l = omega arith

      each : (i : ℕ) → i < count input → need_at up target input output r c i ≤ 3
      each i l = at_most (is_row (kind_at input i) r) _ (excess_below _ _ 4 (highest_below_lem up r c (after i input)))

  cell_need : (r : Row) (c : Column) → cell (situation up target input output).need r c ≡ need up target input output r c
  unfolding situation
  cell_need r c = cell_made _ r c (need_below r c)

  cell_low : (r : Row) (c : Column) → cell (situation up target input output).low r c ≡ low target input output r c
  unfolding situation
  cell_low r c = cell_made _ r c (least_below_lem (count input) _)

mask_below : (b : Bool) → cond b 3 0 < 4
mask_below true = omega arith
mask_below false = omega arith

-- one operation more

module _ (up target : Model) (input output : Stream) (same : accesses output ≡ accesses input) where
  pub asks_step : (n : ℕ) → situation up target (input ++ fence n) output ≡ asks (fence_table up n) (situation up target input output)
  unfolding situation
  asks_step n =
      ap₂ (λ (x y : Table). record { need = x; low = y })
      (table_merged Merge.Higher _ _ _ (λ r c.
      need_asks up target r c input output same n
      ∙ ap₂ max (sym (cell_need up target input output r c))
      (ap (excess (cell (fence_table up n) r c)) (sym (cell_low up target input output r c))
      ∙ sym (cell_merged Merge.Exceeding (fence_table up n) _ r c))))
      (table_cong _ _ (λ r c. low_asks up target r c input output same n))

  pub offers_step : (g : ℕ) → situation up target input (output ++ fence g) ≡ offers (fence_table target g) (situation up target input output)
  unfolding situation
  offers_step g =
      ap₂ (λ (x y : Table). record { need = x; low = y })
      (table_merged Merge.Exceeding _ _ _ (λ r c.
      need_offers up target r c input output same g
      ∙ ap (λ (x : ℕ). excess x (cell (fence_table target g) r c)) (sym (cell_need up target input output r c))))
      (table_merged Merge.Higher _ _ _ (λ r c.
      low_offers up target r c input output same g
      ∙ ap (λ (x : ℕ). max x (cell (fence_table target g) r c)) (sym (cell_low up target input output r c))))

  pub joins_step : (k : Kind)
      → situation up target (input ++ access k) (output ++ access k) ≡ joins up.ppo target.ppo k (situation up target input output)
  unfolding situation in_rows outside_rows
  joins_step k =
      ap₂ (λ (x y : Table). record { need = x; low = y })
      (table_merged Merge.Higher _ _ _ (λ r c.
      need_joins up target r c input output same k
      ∙ ap₂ max (sym (cell_need up target input output r c)) (sym (in_rows_lem r c))))
      (table_merged Merge.Lower _ _ _ (λ r c.
      low_joins up target r c input output same k
      ∙ ap₂ min (sym (cell_low up target input output r c)) (sym (outside r c))))
    where
      masked : (b : Bool) (x : ℕ) → x < 4 → min (cond b 3 0) x ≡ cond b x 0
      masked true x l = omega arith
      masked false x l = omega arith

      filled : (b : Bool) (x : ℕ) → x < 4 → max x (cond b 0 3) ≡ cond b x 3
      filled true x l = omega arith
      filled false x l = omega arith

      unbit : (b : Bool) → cond b 0 3 < 4
      unbit true = omega arith
      unbit false = omega arith

      in_rows_lem : (r : Row) (c : Column) → cell (lower (in_rows k) (exceeding up.ppo target.ppo)) r c
          ≡ cond (is_row k r) (excess (cell up.ppo r c) (cell target.ppo r c)) 0
      in_rows_lem r c =
          cell_merged Merge.Lower _ _ r c
          ∙ ap₂ min (cell_made _ r c (mask_below (is_row k r))) (cell_merged Merge.Exceeding _ _ r c)
          ∙ masked (is_row k r) _ (excess_below _ _ 4 (cell_below up.ppo r c))

      outside : (r : Row) (c : Column) → cell (higher target.ppo (outside_rows k)) r c ≡ cond (is_row k r) (cell target.ppo r c) 3
      outside r c =
          cell_merged Merge.Higher _ _ r c
          ∙ ap (max (cell target.ppo r c)) (cell_made _ r c (unbit (is_row k r)))
          ∙ filled (is_row k r) _ (cell_below target.ppo r c)

  -- what will do before an access of kind k, told by the situation: where the output offers each earlier access what it did and the
  -- table x besides, every pair is kept exactly when x is at least what is pending
  settled_by : (k : Kind) (x : Table) (put : Stream)
      → ((i : ℕ) → i < count input → (r : Row) (c : Column)
      → highest target r c (after i put) ≡ max (highest target r c (after i output)) (cell x r c))
      → settled up target input put k ≡ at_least x (pending k (situation up target input output))
  unfolding in_columns
  settled_by k x put offer = same_test _ _ forth back
    where
      waiting : (r : Row) (c : Column) → cell (pending k (situation up target input output)) r c
          ≡ min (need up target input output r c) (cond (is_column k c) 3 0)
      waiting r c =
          cell_merged Merge.Lower _ _ r c ∙ ap₂ min (cell_need up target input output r c) (cell_made _ r c (mask_below (is_column k c)))

      in_row : settled up target input put k ≡ true → (r : Row) (c : Column) → is_column k c ≡ true → (i : ℕ) → i < count input
          → (b : Bool) → is_row (kind_at input i) r ≡ b
          → cond b (excess (highest up r c (after i input)) (highest target r c (after i output))) 0 ≤ cell x r c
      in_row e r c hc i l true hr =
          excess_least (highest up r c (after i input)) (highest target r c (after i output)) (cell x r c)
          (omega (arith, settled_means up target input put k e i l r c hr hc, offer i l r c))
      in_row e r c hc i l false hr = omega arith

      in_column : settled up target input put k ≡ true → (r : Row) (c : Column) → (b : Bool) → is_column k c ≡ b
          → min (need up target input output r c) (cond b 3 0) ≤ cell x r c
      in_column e r c true hc =
          omega (
            arith,
            highest_at_most (count input) (need_at up target input output r c) (cell x r c)
                (λ i l. in_row e r c hc i l (is_row (kind_at input i) r) refl),
          )
      in_column e r c false hc = omega arith

      forth : settled up target input put k ≡ true → at_least x (pending k (situation up target input output)) ≡ true
      forth e = cells_at_least _ _ (λ r c. rw (waiting r c) (in_column e r c (is_column k c) refl))

      back : at_least x (pending k (situation up target input output)) ≡ true → settled up target input put k ≡ true
      back e = means_settled up target input put k (λ i l r c hr hc.
          omega (
            arith,
            offer i l r c,
            excess_lifts (highest up r c (after i input)) (highest target r c (after i output)) (cell x r c)
                (omega (
                  arith,
                  highest_from (count input) (need_at up target input output r c) i l,
                  ap (λ (b : Bool). cond b (excess (highest up r c (after i input)) (highest target r c (after i output))) 0) hr,
                  need_below up target input output r c,
                  at_least_cells x (pending k (situation up target input output)) e r c,
                  waiting r c,
                  ap (λ (b : Bool). min (need up target input output r c) (cond b 3 0)) hc,
                )),
          ))

  -- with nothing put, and with a fence put
  settled_none : (k : Kind) → settled up target input output k ≡ at_least none (pending k (situation up target input output))
  settled_none k = settled_by k none output (λ i l r c. omega (arith, cell_none r c))

  settled_fence : (k : Kind) (g : ℕ)
      → settled up target input (output ++ fence g) k ≡ at_least (fence_table target g) (pending k (situation up target input output))
  settled_fence k g =
      settled_by k (fence_table target g) (output ++ fence g)
      (λ i l r c. ap (highest target r c) (after-append i output (fence g) (omega (arith, ap length same)))
      ∙ highest_fence target r c (after i output) g)

  -- so the choice by the situation is the rule's
  pub chosen_rule : (way : Way) (k : Kind)
      → rule way up target input output k ≡ choice_of way target.fences (pending k (situation up target input output))
  unfolding rule choice_of
  chosen_rule way k =
      ap₂ (λ (b : Bool) (f : ℕ → Bool). cond b Choice.Nothing (pick way f (length target.fences)))
      (settled_none k) (fun_ext (settled_fence k))

-- the run by situations is the run by the rule
pub by_situations : (way : Way) (up target : Model) (input output : Stream) → accesses output ≡ accesses input → (s : Stream)
    → onward way up target input output s ≡ steps way up target (situation up target input output) s
unfolding onward steps
by_situations way up target input output same [] = refl
by_situations way up target input output same (Operation.Fence n ∷ s) =
    ap (behind [])
    (by_situations way up target (input ++ fence n) output (same ∙ sym (same_fence input input n refl)) s
    ∙ ap (λ (x : Situation). steps way up target x s) (asks_step up target input output same n))
by_situations way up target input output same (Operation.Access k ∷ s) =
    ap (goes_on _ _) (chosen_rule up target input output same way k)
    ∙ at
    (ap (behind (access k))
    (by_situations way up target (input ++ access k) (output ++ access k) (same_access input output k same) s
    ∙ ap (λ (x : Situation). steps way up target x s) (joins_step up target input output same k)))
    (λ g. ap (behind (fence g ++ access k))
    (ap (λ (x : Stream). onward way up target (input ++ access k) x s) (sym (append_assoc output (fence g) (access k)))
    ∙ by_situations way up target (input ++ access k) (output ++ fence g ++ access k)
    (same_access input (output ++ fence g) k (same_fence input output g same)) s
    ∙ ap (λ (x : Situation). steps way up target x s)
    (joins_step up target input (output ++ fence g) (same_fence input output g same) k
    ∙ ap (joins up.ppo target.ppo k) (offers_step up target input output same g))))
    (choice_of way target.fences (pending k (situation up target input output)))
  where
    S : Situation
    S = situation up target input output

    at : {p : Ran} {f : ℕ → Ran} → p ≡ behind (access k) (steps way up target (joins up.ppo target.ppo k S) s)
        → ((g : ℕ) → f g ≡ behind (fence g ++ access k) (steps way up target (joins up.ppo target.ppo k (offers (fence_table target g) S)) s))
        → (c : Choice) → goes_on p f c ≡ resumed k (λ (next : Situation). steps way up target next s) (step_of up.ppo target S k c)
    at e h Choice.Nothing = e
    at e h (Choice.Fence g) = h g
    at e h Choice.Refused = refl
