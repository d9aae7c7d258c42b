-- What stands before each access of an output, and that its fences are the target's: the rule takes no other. Assumes nothing.
use Prim.Native.Nat.{ℕ, ◌<◌}
use mathlib.Core.Path.{◌≡◌, refl, sym, ap, subst, ◌∙◌}
use mathlib.Core.Bool.{Bool}
use mathlib.Core.List.{[], ◌∷◌, ◌++◌, append-nil, append_assoc}
use native.Mathlib.Decide.{dec_lt}
use native.Mathlib.Omega.{arith}
use lib.ListN.{length}
use Rattle.operations.specs.declared.Kind.{Kind}
use Rattle.operations.specs.declared.Operation.{Operation}
use Rattle.rule.specs.declared.way.Way.{Way}
use Rattle.rule.specs.declared.way.Choice.{Choice}
use Rattle.rule.specs.Stream.{Stream, access, fence, accesses, count, kind_at, before, through}
use Rattle.rule.specs.Pairs.{Model, settled}
use Rattle.rule.specs.Rule.{Takes, rule, every_fence}
use Rattle.rule.proofs.Choices.{rule_fence}
use Rattle.rule.proofs.Streams.{count_fence, count_access, kind_append, kind_next, before-append, before_next, through-append}
use Rattle.rule.proofs.Streams.{through_next, same_fence}
use Rattle.rule.proofs.Reach.{Reach, fresh, passed, plain, fenced, reach_same}

-- what a choice puts; `Puts c put` is that the access was not refused and `put` is what was put
abbrev pub Puts : Choice → Stream → Type 0
Puts Choice.Nothing put = put ≡ []
Puts (Choice.Fence g) put = put ≡ fence g
Puts Choice.Refused put = ⊥

every_append : (p : ℕ → Type 0) (s t : Stream) → every_fence p s → every_fence p t → every_fence p (s ++ t)
every_append p [] t h k = k
every_append p (Operation.Access x ∷ s) t h k = every_append p s t h k
every_append p (Operation.Fence n ∷ s) t h k = (h.0, every_append p s t h.1 k)

module _ (way : Way) (up target : Model) where
  -- before access j of the output there stands what was put out through the access before it, and then what the rule puts
  abbrev pub Stands : Stream → Stream → ℕ → Type 0
  Stands input output j =
      (put : Stream) × (before j output ≡ through j output ++ put)
      × Puts (rule way up target (before j input) (through j output) (kind_at input j)) put

  -- a fence that the way takes is one of the target's, so all are
  taken_own : (f : ℕ → Bool) (n g : ℕ) → Takes way f n g → g < n
  taken_own f n g = at way
    where
      at : (w : Way) → Takes w f n g → g < n
      at Way.Sparing h = h.0
      at Way.Full h = omega (arith, h.0)

  pub reach_own : {input output : Stream} → Reach way up target input output → every_fence (λ (n : ℕ). n < length target.fences) output
  reach_own fresh = tt
  reach_own (passed h n) = reach_own h
  reach_own (plain {output = o} h k e) = every_append _ o (access k) (reach_own h) tt
  reach_own (fenced {input = i} {output = o} h k g e) =
      let own = taken_own (λ (h : ℕ). settled up target i (o ++ fence h) k) (length target.fences) g (rule_fence way up target i o k g e).1 in
      every_append _ (o ++ fence g) (access k) (every_append _ o (fence g) (reach_own h) (own, tt)) tt

  -- nothing stands behind the last access of an output
  pub reach_ends : {input output : Stream} → Reach way up target input output → through (count output) output ≡ output
  reach_ends fresh = refl
  reach_ends (passed h n) = reach_ends h
  reach_ends (plain {output = o} h k e) = ap (λ (n : ℕ). through n (o ++ access k)) (count_access o k) ∙ through_next o k
  reach_ends (fenced {output = o} h k g e) =
      ap (λ (n : ℕ). through n (o ++ fence g ++ access k)) (count_access (o ++ fence g) k) ∙ through_next (o ++ fence g) k

  same_rule : {i i' o o' : Stream} {k k' : Kind} → i ≡ i' → o ≡ o' → k ≡ k' → rule way up target i o k ≡ rule way up target i' o' k'
  same_rule p q r = λ d. rule way up target (p d) (q d) (r d)

  -- what stands before an access is not changed by what comes behind it
  stands_by : (input output input' output' : Stream) (j : ℕ) → before j output' ≡ before j output → through j output' ≡ through j output
      → before j input' ≡ before j input → kind_at input' j ≡ kind_at input j → Stands input output j → Stands input' output' j
  stands_by input output input' output' j b t i k (put, e, p) =
      (put, b ∙ e ∙ ap (λ (x : Stream). x ++ put) (sym t), subst (λ (c : Choice). Puts c put) (same_rule (sym i) (sym t) (sym k)) p)

  stands_more : (input output x y : Stream) (j : ℕ) → accesses output ≡ accesses input → j < count input → Stands input output j
      → Stands (input ++ x) (output ++ y) j
  stands_more input output x y j same m h =
      stands_by input output (input ++ x) (output ++ y) j (before-append j output y (omega (arith, ap length same)))
      (through-append j output y (omega (arith, ap length same))) (before-append j input x m) (kind_append input x j m) h

  -- what the rule put before the access that came last
  stands_last : (input output put : Stream) (k : Kind) (j : ℕ) → accesses output ≡ accesses input → accesses (output ++ put) ≡ accesses input
      → through (count output) output ≡ output → j ≡ count input → Puts (rule way up target input output k) put
      → Stands (input ++ access k) (output ++ put ++ access k) j
  stands_last input output put k j same put_same whole e p =
      let f : j ≡ count (output ++ put) = omega (arith, ap length put_same) in
      let g : j ≡ count output = omega (arith, ap length same) in
      let b : before j (output ++ put ++ access k) ≡ output ++ put =
      ap (λ (n : ℕ). before n (output ++ put ++ access k)) f ∙ before_next (output ++ put) k [] in
      let t : through j (output ++ put ++ access k) ≡ output =
      ap (through j) (append_assoc output put (access k)) ∙ through-append j output (put ++ access k) (omega arith)
      ∙ ap (λ (n : ℕ). through n output) g ∙ whole in
      let i : before j (input ++ access k) ≡ input = ap (λ (n : ℕ). before n (input ++ access k)) e ∙ before_next input k [] in
      let n : kind_at (input ++ access k) j ≡ k = ap (kind_at (input ++ access k)) e ∙ kind_next input k [] in
      (put, b ∙ ap (λ (x : Stream). x ++ put) (sym t), subst (λ (c : Choice). Puts c put) (same_rule (sym i) (sym t) (sym n)) p)

  pub reach_stands : {input output : Stream} → Reach way up target input output → (j : ℕ) → j < count input → Stands input output j
  reach_stands fresh j l = absurd (omega arith)
  reach_stands (passed {input = x} {output = y} h n) j l =
      let m : j < count x = omega (arith, count_fence x n) in
      stands_by x y (x ++ fence n) y j refl refl (before-append j x (fence n) m) (kind_append x (fence n) j m) (reach_stands h j m)
  reach_stands (plain {input = x} {output = y} h k e) j l = at (λ m. reach_stands h j m) (dec_lt j (count x))
    where
      same : accesses y ≡ accesses x
      same = reach_same way up target h

      at : (j < count x → Stands x y j) → Dec (j < count x) → Stands (x ++ access k) (y ++ access k) j
      at lower (yes m) = stands_more x y (access k) (access k) j same m (lower m)
      at lower (no m) =
          subst (λ (o : Stream). Stands (x ++ access k) (o ++ access k) j) (append-nil y)
          (stands_last x y [] k j same (ap accesses (append-nil y) ∙ same) (reach_ends h) (omega (arith, count_access x k))
          (subst (λ (c : Choice). Puts c []) (sym e) refl))
  reach_stands (fenced {input = x} {output = y} h k g e) j l = at (λ m. reach_stands h j m) (dec_lt j (count x))
    where
      same : accesses y ≡ accesses x
      same = reach_same way up target h

      at : (j < count x → Stands x y j) → Dec (j < count x) → Stands (x ++ access k) (y ++ fence g ++ access k) j
      at lower (yes m) =
          subst (λ (o : Stream). Stands (x ++ access k) o j) (sym (append_assoc y (fence g) (access k)))
          (stands_more x y (access k) (fence g ++ access k) j same m (lower m))
      at lower (no m) =
          stands_last x y (fence g) k j same (same_fence x y g same) (reach_ends h) (omega (arith, count_access x k))
          (subst (λ (c : Choice). Puts c (fence g)) (sym e) refl)
