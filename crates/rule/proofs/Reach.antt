-- How a run comes about, one operation at a time: the one induction on which the theorems about runs rest. Assumes nothing.
use Prim.Native.Nat.{ℕ}
use mathlib.Core.Path.{◌≡◌, refl, sym, ap, subst₂, ◌∙◌}
use mathlib.Core.List.{[], ◌∷◌, ◌++◌, append-nil, append_assoc}
use Rattle.ground.proofs.Truths.{differ}
use Rattle.operations.specs.declared.Kind.{Kind}
use Rattle.operations.specs.declared.Operation.{Operation}
use Rattle.rule.specs.declared.way.Way.{Way}
use Rattle.rule.specs.declared.way.Choice.{Choice}
use Rattle.rule.specs.Stream.{Stream, access, fence, accesses}
use Rattle.rule.specs.Pairs.{Model}
use Rattle.rule.specs.Rule.{rule, Ran, done, refused, behind, onward, run}
use Rattle.rule.proofs.Choices.{goes_on}
use Rattle.rule.proofs.Streams.{same_access, same_fence}

module _ (way : Way) (up target : Model) where
  -- the run of this input, all of it accepted, has this output
  pub data Reach : Stream → Stream → Type 0 where
    fresh : Reach [] []
    passed : {input output : Stream} → Reach input output → (n : ℕ) → Reach (input ++ fence n) output
    plain : {input output : Stream} → Reach input output → (k : Kind) → rule way up target input output k ≡ Choice.Nothing
        → Reach (input ++ access k) (output ++ access k)
    fenced : {input output : Stream} → Reach input output → (k : Kind) (g : ℕ) → rule way up target input output k ≡ Choice.Fence g
        → Reach (input ++ access k) (output ++ fence g ++ access k)

  pub reach_same : {input output : Stream} → Reach input output → accesses output ≡ accesses input
  reach_same fresh = refl
  reach_same (passed {input = i} {output = o} h n) = reach_same h ∙ sym (same_fence i i n refl)
  reach_same (plain {input = i} {output = o} h k e) = same_access i o k (reach_same h)
  reach_same (fenced {input = i} {output = o} h k g e) = same_access i (o ++ fence g) k (same_fence i o g (reach_same h))

  -- taken apart: what a run that is done began with
  behind_done : (put out : Stream) (x : Ran) → behind put x ≡ done out → (rest : Stream) × (x ≡ done rest) × (out ≡ put ++ rest)
  behind_done put out (done rest) e = (rest, refl, (cc))
  behind_done put out (refused n) e = differ (cc)

  -- a run that goes on from there, and is done, comes about so
  goes_on_to : (s : Stream) {input output : Stream} → Reach input output → (out : Stream) → onward way up target input output s ≡ done out
      → Reach (input ++ s) (output ++ out)
  unfolding onward
  goes_on_to [] {input} {output} h out e =
      let m : [] ≡ out = cc in
      subst₂ Reach (sym (append-nil input)) (sym (append-nil output) ∙ ap (λ (x : Stream). output ++ x) m) h
  goes_on_to (Operation.Fence n ∷ s) {input} {output} h out e =
      let w = behind_done [] out (onward way up target (input ++ fence n) output s) e in
      subst₂ Reach (append_assoc input (fence n) s) (ap (λ (x : Stream). output ++ x) (sym w.2)) (goes_on_to s (passed h n) w.0 w.1)
  goes_on_to (Operation.Access k ∷ s) {input} {output} h out e =
      at (λ p. goes_on_to s (plain h k p)) (λ g p. goes_on_to s (fenced h k g p)) (rule way up target input output k) refl
    where
      nothing : Ran
      nothing = behind (access k) (onward way up target (input ++ access k) (output ++ access k) s)

      fence_put : ℕ → Ran
      fence_put g = behind (fence g ++ access k) (onward way up target (input ++ access k) (output ++ (fence g ++ access k)) s)

      at : (rule way up target input output k ≡ Choice.Nothing → (out : Stream)
          → onward way up target (input ++ access k) (output ++ access k) s ≡ done out → Reach (input ++ access k ++ s) (output ++ access k ++ out))
          → ((g : ℕ) → rule way up target input output k ≡ Choice.Fence g → (out : Stream)
          → onward way up target (input ++ access k) (output ++ fence g ++ access k) s ≡ done out
          → Reach (input ++ access k ++ s) (output ++ fence g ++ access k ++ out))
          → (c : Choice) → rule way up target input output k ≡ c → Reach (input ++ Operation.Access k ∷ s) (output ++ out)
      at p f Choice.Nothing r =
          let w = behind_done (access k) out _ (sym (ap (goes_on nothing fence_put) r) ∙ e) in
          subst₂ Reach (append_assoc input (access k) s) (append_assoc output (access k) w.0 ∙ ap (λ (x : Stream). output ++ x) (sym w.2))
          (p r w.0 w.1)
      at p f (Choice.Fence g) r =
          let w = behind_done (fence g ++ access k) out _ (sym (ap (goes_on nothing fence_put) r) ∙ e) in
          subst₂ Reach (append_assoc input (access k) s)
          (append_assoc (output ++ fence g) (access k) w.0 ∙ append_assoc output (fence g) (access k ++ w.0)
          ∙ ap (λ (x : Stream). output ++ x) (sym w.2))
          (f g r w.0 (ap (λ (x : Stream). onward way up target (input ++ access k) x s) (append_assoc output (fence g) (access k)) ∙ w.1))
      at p f Choice.Refused r =
          let z : refused 0 ≡ done out = sym (ap (goes_on nothing fence_put) r) ∙ e in
          differ (cc)

  pub run_reach : (s out : Stream) → run way up target s ≡ done out → Reach s out
  run_reach s out e = goes_on_to s fresh out e
