-- Which fence a way takes, and when it takes none. Assumes nothing.
use Prim.Native.Nat.{ℕ, zero, suc, ◌-◌, ◌<◌}
use mathlib.Core.Path.{◌≡◌, refl, sym, ap, ◌∙◌}
use mathlib.Core.Bool.{Bool, true, false, cond}
use mathlib.Core.List.{List, ◌++◌}
use native.Mathlib.Omega.{arith}
use lib.ListN.{length}
use Rattle.std.proofs.Common.{Option, Some, None}
use Rattle.ground.specs.Lowest.{lowest}
use Rattle.ground.proofs.Lowest.{lowest_takes, lowest_nowhere}
use Rattle.ground.proofs.Truths.{differ, not_both}
use Rattle.tables.specs.declared.table.Table.{Table}
use Rattle.tables.specs.Table.{at_least}
use Rattle.operations.specs.declared.Kind.{Kind}
use Rattle.rule.specs.declared.way.Way.{Way}
use Rattle.rule.specs.declared.way.Choice.{Choice}
use Rattle.rule.specs.Stream.{Stream, fence}
use Rattle.rule.specs.Pairs.{Model, settled}
use Rattle.rule.specs.Rule.{taken, last, pick, Takes, NoneWillDo, rule, Ran, refused}
use Rattle.rule.specs.Situation.{none, serves, choice_of}

-- how a run goes on after a choice
abbrev pub goes_on : Ran → (ℕ → Ran) → Choice → Ran
goes_on plain fenced c = elim c as (λ x. Ran) [ Choice.Nothing ↦ plain | Choice.Fence g ↦ fenced g | Choice.Refused ↦ refused 0 ]

-- what a test of a fence says of it
pub told : (pending : Table) {t u : Table} {b d : Bool} → t ≡ u → b ≡ at_least t pending → b ≡ d → at_least u pending ≡ d
told pending e f g = sym (f ∙ ap (λ (x : Table). at_least x pending) e) ∙ g

module _ (way : Way) (fences : List ℕ) (pending : Table) where
  pub choice_nothing : at_least none pending ≡ true → choice_of way fences pending ≡ Choice.Nothing
  unfolding choice_of
  choice_nothing e = ap (λ (b : Bool). cond b Choice.Nothing (pick way (serves fences pending) (length fences))) e

  pub choice_pick : at_least none pending ≡ false → choice_of way fences pending ≡ pick way (serves fences pending) (length fences)
  unfolding choice_of
  choice_pick e = ap (λ (b : Bool). cond b Choice.Nothing (pick way (serves fences pending) (length fences))) e

-- what was found, told by what is taken
taken_fence : (x : Option ℕ) (g : ℕ) → taken x ≡ Choice.Fence g → x ≡ Some g
taken_fence (Some i) g e = cc
taken_fence None g e = differ (cc)

taken_refused : (x : Option ℕ) → taken x ≡ Choice.Refused → x ≡ None
taken_refused (Some i) e = differ (cc)
taken_refused None e = refl

taken_some : (x : Option ℕ) → taken x ≡ Choice.Nothing → ⊥
taken_some (Some i) e = differ (cc)
taken_some None e = differ (cc)

module _ (f : ℕ → Bool) where
  -- the last of some fences
  pub last_of : (n : ℕ) → 0 < n → (b : Bool) → f (n - 1) ≡ b → last f n ≡ cond b (Choice.Fence (n - 1)) Choice.Refused
  last_of n l b p =
      let e : n ≡ suc (n - 1) = omega arith in
      ap (last f) e ∙ ap (λ (b : Bool). cond b (Choice.Fence (n - 1)) Choice.Refused) p

  -- what the last is, if it passes
  last_is : (n : ℕ) (b : Bool) → f n ≡ b → (c : Choice) → cond (f n) (Choice.Fence n) Choice.Refused ≡ c
      → cond b (Choice.Fence n) Choice.Refused ≡ c
  last_is n b p c e = sym (ap (λ (b : Bool). cond b (Choice.Fence n) Choice.Refused) p) ∙ e

  -- a pick takes what it says, or says that none will do

  pub pick_takes : (way : Way) (n g : ℕ) → pick way f n ≡ Choice.Fence g → Takes way f n g
  pick_takes Way.Sparing n g e =
      let w = lowest_takes f 0 n g (taken_fence (lowest f 0 n) g e) in
      (omega (arith, w.1), w.2, λ h l. w.3 h (omega arith) l)
  pick_takes Way.Full zero g e = differ (cc)
  pick_takes Way.Full (suc n) g e = at (f n) refl
    where
      at : (b : Bool) → f n ≡ b → (suc g ≡ suc n) × (f g ≡ true)
      at true p =
          let q : Choice.Fence n ≡ Choice.Fence g = last_is n true p (Choice.Fence g) e in
          let m : n ≡ g = cc in
          (omega arith, sym (ap f m) ∙ p)
      at false p =
          let q : Choice.Refused ≡ Choice.Fence g = last_is n false p (Choice.Fence g) e in
          differ (cc)

  pick_refused : (way : Way) (n : ℕ) → pick way f n ≡ Choice.Refused → NoneWillDo way f n
  pick_refused Way.Sparing n e = λ g l. lowest_nowhere f 0 n (taken_refused (lowest f 0 n) e) g (omega arith) (omega arith)
  pick_refused Way.Full zero e = λ g m. absurd (omega arith)
  pick_refused Way.Full (suc n) e = at (f n) refl
    where
      at : (b : Bool) → f n ≡ b → (g : ℕ) → suc g ≡ suc n → f g ≡ false
      at true p g m =
          let q : Choice.Fence n ≡ Choice.Refused = last_is n true p Choice.Refused e in
          differ (cc)
      at false p g m =
          let h : g ≡ n = omega arith in
          ap f h ∙ p

  pick_some : (way : Way) (n : ℕ) → pick way f n ≡ Choice.Nothing → ⊥
  pick_some Way.Sparing n e = taken_some (lowest f 0 n) e
  pick_some Way.Full zero e = differ (cc)
  pick_some Way.Full (suc n) e = at (f n) refl
    where
      at : (b : Bool) → f n ≡ b → ⊥
      at true p =
          let q : Choice.Fence n ≡ Choice.Nothing = last_is n true p Choice.Nothing e in
          differ (cc)
      at false p =
          let q : Choice.Refused ≡ Choice.Nothing = last_is n false p Choice.Nothing e in
          differ (cc)

  -- a way takes none where none will do
  takes_not_none : (way : Way) (n g : ℕ) → Takes way f n g → NoneWillDo way f n → ⊥
  takes_not_none Way.Sparing n g p none = not_both p.1 (none g p.0)
  takes_not_none Way.Full n g p none = not_both p.1 (none g p.0)

  pub none_pick : (way : Way) (n : ℕ) → NoneWillDo way f n → pick way f n ≡ Choice.Refused
  none_pick way n h = at (pick way f n) refl
    where
      at : (c : Choice) → pick way f n ≡ c → pick way f n ≡ Choice.Refused
      at Choice.Nothing e = absurd (pick_some way n e)
      at (Choice.Fence i) e = absurd (takes_not_none way n i (pick_takes way n i e) h)
      at Choice.Refused e = e

-- what the rule puts, by its three answers
module _ (way : Way) (up target : Model) (input output : Stream) (k : Kind) where
  -- which fences will do
  abbrev will_do : ℕ → Bool
  will_do g = settled up target input (output ++ fence g) k

  asked_rule : (b : Bool) → settled up target input output k ≡ b
      → rule way up target input output k ≡ cond b Choice.Nothing (pick way will_do (length target.fences))
  unfolding rule
  asked_rule b e = ap (λ (b : Bool). cond b Choice.Nothing (pick way will_do (length target.fences))) e

  settled_rule : settled up target input output k ≡ true → rule way up target input output k ≡ Choice.Nothing
  settled_rule e = asked_rule true e

  pub short_rule : settled up target input output k ≡ false → rule way up target input output k ≡ pick way will_do (length target.fences)
  short_rule e = asked_rule false e

  pub rule_nothing : rule way up target input output k ≡ Choice.Nothing → settled up target input output k ≡ true
  rule_nothing e = at (settled up target input output k) refl
    where
      at : (b : Bool) → settled up target input output k ≡ b → settled up target input output k ≡ true
      at true p = p
      at false p = absurd (pick_some will_do way (length target.fences) (sym (short_rule p) ∙ e))

  -- any other answer is given only where a pair would be short, and is the way's pick
  rule_short : (c : Choice) → rule way up target input output k ≡ c → (Choice.Nothing ≡ c → ⊥)
      → (settled up target input output k ≡ false) × (pick way will_do (length target.fences) ≡ c)
  rule_short c e some = at (settled up target input output k) refl
    where
      at : (b : Bool) → settled up target input output k ≡ b
          → (settled up target input output k ≡ false) × (pick way will_do (length target.fences) ≡ c)
      at true p = absurd (some (sym (settled_rule p) ∙ e))
      at false p = (p, sym (short_rule p) ∙ e)

  -- a fence that the rule puts is the way's, and will do
  pub rule_fence : (g : ℕ) → rule way up target input output k ≡ Choice.Fence g
      → (settled up target input output k ≡ false) × Takes way will_do (length target.fences) g
  rule_fence g e =
      let w = rule_short (Choice.Fence g) e (λ z. differ (cc)) in
      (w.0, pick_takes will_do way (length target.fences) g w.1)

  pub fence_will_do : (g : ℕ) → rule way up target input output k ≡ Choice.Fence g → will_do g ≡ true
  fence_will_do g e = at way (rule_fence g e).1
    where
      at : (w : Way) → Takes w will_do (length target.fences) g → will_do g ≡ true
      at Way.Sparing h = h.1
      at Way.Full h = h.1

  -- the rule refuses where a pair would be short and no fence will do for the way
  pub rule_refused : rule way up target input output k ≡ Choice.Refused
      → (settled up target input output k ≡ false) × NoneWillDo way will_do (length target.fences)
  rule_refused e =
      let w = rule_short Choice.Refused e (λ z. differ (cc)) in
      (w.0, pick_refused will_do way (length target.fences) w.1)
