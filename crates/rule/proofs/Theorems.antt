-- The theorems about runs, for any two models, any way and any stream, as a reader wants to find them. Assumes nothing.
use Prim.Native.Nat.{ℕ, ◌≤◌, ◌<◌}
use mathlib.Core.Path.{◌≡◌, refl, sym, ap, subst, ◌∙◌}
use mathlib.Core.Bool.{Bool}
use mathlib.Core.Logic.{◌⊎◌, inl, inr}
use mathlib.Core.List.{[], ◌∷◌, ◌++◌, append-nil}
use native.Mathlib.Decide.{dec_le}
use native.Mathlib.Omega.{arith}
use lib.ListN.{length}
use Rattle.ground.proofs.Truths.{not_both}
use Rattle.tables.specs.declared.table.Row.{Row}
use Rattle.tables.specs.declared.table.Column.{Column}
use Rattle.tables.specs.Table.{cell, table}
use Rattle.operations.specs.declared.Kind.{Kind}
use Rattle.operations.specs.declared.Operation.{Operation}
use Rattle.rule.specs.declared.situation.Situation.{Situation}
use Rattle.rule.specs.declared.way.Way.{Way}
use Rattle.rule.specs.declared.way.Choice.{Choice}
use Rattle.rule.specs.Stream.{Stream, fence, accesses, count, kind_at, fences, HasFence, before, between, through}
use Rattle.rule.specs.Pairs.{Model, fence_table, highest, offered, Keeps, Settled, settled}
use Rattle.rule.specs.Rule.{Takes, rule, done, refused, onward, run, NoFenceWillDo, Placing}
use Rattle.rule.specs.Situation.{situation, fresh, steps}
use Rattle.rule.proofs.Kept.{settled_means, means_settled}
use Rattle.rule.proofs.Choices.{rule_nothing, rule_fence, rule_refused, short_rule, none_pick}
use Rattle.rule.proofs.Reach.{Reach, reach_same, run_reach}
use Rattle.rule.proofs.EveryPair.{reach_keeps}
use Rattle.rule.proofs.Stands.{Puts, reach_own, reach_stands, reach_ends}
use Rattle.rule.proofs.Fewest.{reach_fewest}
use Rattle.rule.proofs.Continued.{refused_stuck, stuck_refused}
use Rattle.rule.proofs.Situations.{by_situations}

module _ (way : Way) (up target : Model) (input output : Stream) (accepted : run way up target input ≡ done output) where
  reached : Reach way up target input output
  reached = run_reach way up target input output accepted

  -- The output's accesses are the input's, in order.
  pub same_accesses : accesses output ≡ accesses input
  same_accesses = reach_same way up target reached

  -- So the output is a placing: the input's accesses, with fences of the target among them.
  pub is_a_placing : Placing target input output
  is_a_placing = record { same = same_accesses; its = reach_own way up target reached }

  -- Every pair is kept: what is asked of it is at most what is offered to it.
  pub every_pair_kept : Keeps up target input output
  every_pair_kept = reach_keeps up target way reached

  -- What stands before access j of the output, beyond what was put out through the access before it: nothing where every pair that ends at
  -- j is kept by that, and otherwise the one fence that the way takes among those after which every such pair is kept.
  pub fence_exactly_when : (j : ℕ) → j < count input
      → (Settled up target (before j input) (through j output) (kind_at input j) → before j output ≡ through j output)
      × ((Settled up target (before j input) (through j output) (kind_at input j) → ⊥)
      → (g : ℕ) × (before j output ≡ through j output ++ fence g)
      × Takes way (λ (h : ℕ). settled up target (before j input) (through j output ++ fence h) (kind_at input j)) (length target.fences) g)
  fence_exactly_when j l = at (rule way up target i o k) refl (reach_stands way up target reached j l)
    where
      i : Stream
      i = before j input

      o : Stream
      o = through j output

      k : Kind
      k = kind_at input j

      test : ℕ → Bool
      test h = settled up target i (o ++ fence h) k

      at : (c : Choice) → rule way up target i o k ≡ c
          → ((put : Stream) × (before j output ≡ o ++ put) × Puts (rule way up target i o k) put)
          → (Settled up target i o k → before j output ≡ o)
          × ((Settled up target i o k → ⊥) → (g : ℕ) × (before j output ≡ o ++ fence g) × Takes way test (length target.fences) g)
      at Choice.Nothing r (put, e, p) = (
        λ h. e ∙ ap (λ (x : Stream). o ++ x) (subst (λ (c : Choice). Puts c put) r p) ∙ append-nil o,
        λ n. absurd (n (settled_means up target i o k (rule_nothing way up target i o k r))),
      )
      at (Choice.Fence g) r (put, e, p) =
          let w = rule_fence way up target i o k g r in (
            λ h. absurd (not_both (means_settled up target i o k h) w.0),
            λ n. (g, e ∙ ap (λ (x : Stream). o ++ x) (subst (λ (c : Choice). Puts c put) r p), w.1),
          )
      at Choice.Refused r (put, e, p) = absurd (subst (λ (c : Choice). Puts c put) r p)

  -- Nothing is put behind the last access.
  pub nothing_at_the_end : through (count output) output ≡ output
  nothing_at_the_end = reach_ends way up target reached

-- Demand 3. In the full way no one can do with fewer: every placing of the target's fences among the same accesses that keeps every pair
-- has at least as many fences.
module _ (up target : Model) (input output : Stream) (accepted : run Way.Full up target input ≡ done output) where
  pub fewest_fences : (other : Stream) → Placing target input other → Keeps up target input other → fences output ≤ fences other
  fewest_fences other p h = reach_fewest up target (run_reach Way.Full up target input output accepted) other p.same h

-- the same of any stretch: by its fences in turn, the higher of a fence and the rest is one of the two
highest_one : (m : Model) (r : Row) (c : Column) (s : Stream)
    → (highest m r c s ≡ cell m.ppo r c) ⊎ ((g : ℕ) × HasFence g s × (highest m r c s ≡ cell (fence_table m g) r c))
highest_one m r c [] = inl refl
highest_one m r c (Operation.Access k ∷ s) = highest_one m r c s
highest_one m r c (Operation.Fence n ∷ s) = at (dec_le (highest m r c s) (cell (fence_table m n) r c)) (highest_one m r c s)
  where
    at : Dec (highest m r c s ≤ cell (fence_table m n) r c)
        → (highest m r c s ≡ cell m.ppo r c) ⊎ ((g : ℕ) × HasFence g s × (highest m r c s ≡ cell (fence_table m g) r c))
        → (highest m r c (Operation.Fence n ∷ s) ≡ cell m.ppo r c)
        ⊎ ((g : ℕ) × HasFence g (Operation.Fence n ∷ s) × (highest m r c (Operation.Fence n ∷ s) ≡ cell (fence_table m g) r c))
    at (yes l) w = inr (n, inl refl, omega arith)
    at (no l) (inl e) = inl (omega arith)
    at (no l) (inr (g, h, e)) = inr (g, inr h, omega arith)

-- What is offered to a pair is the target's default or the strength of one fence between the two: strengths are not added.
pub by_default_or_one_fence : (target : Model) (output : Stream) (i j : ℕ) (r : Row) (c : Column)
    → (offered target output i j r c ≡ cell target.ppo r c)
    ⊎ ((g : ℕ) × HasFence g (between i j output) × (offered target output i j r c ≡ cell (fence_table target g) r c))
by_default_or_one_fence target output i j r c = highest_one target r c (between i j output)

-- A stream is refused exactly when it has an access up to which it is accepted, at which a pair would be short, and for which no fence will
-- do for the way; the place of the refusal is that access's index.
module _ (way : Way) (up target : Model) (input : Stream) (place : ℕ) where
  pub refused_exactly_when : (run way up target input ≡ refused place → NoFenceWillDo way up target input place)
      × (NoFenceWillDo way up target input place → run way up target input ≡ refused place)
  refused_exactly_when = (
    (λ e.
        let f = refused_stuck way up target input [] [] place e in
        let w = rule_refused way up target f.first f.out f.kind f.stuck in
        record {
          first = f.first;
          kind = f.kind;
          rest = f.rest;
          out = f.out;
          split = f.split;
          index = f.index;
          accepted = f.accepted;
          short = w.0;
          none_will_do = w.1;
        }),
    (λ f.
        stuck_refused way up target [] [] input place
        (record {
          first = f.first;
          kind = f.kind;
          rest = f.rest;
          out = f.out;
          split = f.split;
          index = f.index;
          accepted = f.accepted;
          stuck =
              short_rule way up target f.first f.out f.kind f.short
              ∙ none_pick (λ (g : ℕ). settled up target f.first (f.out ++ fence g) f.kind) way (length target.fences) f.none_will_do;
        })),
  )

-- The run by situations, from the fresh situation, is the run by the rule.
pub steps_are_the_rule : (way : Way) (up target : Model) (s : Stream) → run way up target s ≡ steps way up target fresh s
unfolding situation table
steps_are_the_rule way up target s = by_situations way up target [] [] refl s

-- Two streams with the same situation get the same further output and refusals on every continuation.
pub same_situation : (way : Way) (up target : Model) (s t out out' : Stream) → run way up target s ≡ done out → run way up target t ≡ done out'
    → situation up target s out ≡ situation up target t out' → (x : Stream) → onward way up target s out x ≡ onward way up target t out' x
same_situation way up target s t out out' p q e x =
    by_situations way up target s out (same_accesses way up target s out p) x
    ∙ ap (λ (z : Situation). steps way up target z x) e
    ∙ sym (by_situations way up target t out' (same_accesses way up target t out' q) x)
