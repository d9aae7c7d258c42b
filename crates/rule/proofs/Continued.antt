-- A run goes on where it left off, and refuses at the first access for which no fence will do. Assumes nothing.
use Prim.Native.Nat.{ℕ, suc, ◌+◌}
use mathlib.Core.Path.{◌≡◌, refl, sym, ap, ap₂, ◌∙◌}
use mathlib.Core.List.{[], ◌∷◌, ◌++◌, append-nil, append_assoc}
use native.Mathlib.Nat.{add-zero, zero-add, suc-add}
use lib.ListN.{length}
use Rattle.ground.proofs.Truths.{differ}
use Rattle.operations.specs.declared.Kind.{Kind}
use Rattle.operations.specs.declared.Operation.{Operation}
use Rattle.rule.specs.declared.way.Way.{Way}
use Rattle.rule.specs.declared.way.Choice.{Choice}
use Rattle.rule.specs.Stream.{Stream, access, fence}
use Rattle.rule.specs.Pairs.{Model}
use Rattle.rule.specs.Rule.{rule, Ran, done, refused, behind, onward}
use Rattle.rule.proofs.Choices.{goes_on}

-- what follows the run of a stream of n operations that put this out
abbrev pub follows : ℕ → Stream → Ran → Ran
follows n out (done more) = done (out ++ more)
follows n out (refused at) = refused (n + at)

-- a run, and where it is done, what follows it
abbrev pub then : ℕ → Ran → (Stream → Ran) → Ran
then n (done out) rest = follows n out (rest out)
then n (refused at) rest = refused at

behind_then : (put : Stream) (n : ℕ) (x : Ran) (rest rest' : Stream → Ran) → ((out : Stream) → rest out ≡ rest' (put ++ out))
    → behind put (then n x rest) ≡ then (suc n) (behind put x) rest'
behind_then put n (refused at) rest rest' h = refl
behind_then put n (done out) rest rest' h = at (rest out) ∙ ap (follows (suc n) (put ++ out)) (h out)
  where
    at : (x : Ran) → behind put (follows n out x) ≡ follows (suc n) (put ++ out) x
    at (done more) = ap done (sym (append_assoc put out more))
    at (refused p) = ap refused (sym (suc-add n p))

follows_nothing : (x : Ran) → follows 0 [] x ≡ x
follows_nothing (done more) = refl
follows_nothing (refused at) = ap refused (zero-add at)

module _ (way : Way) (up target : Model) where
  go : Stream → Stream → Stream → Ran
  go = onward way up target

  -- one operation, and what it put out, before a run that is continued
  next : (op : Operation) (put s x input output output' : Stream) → ((out : Stream) → output' ++ out ≡ output ++ (put ++ out))
      → go (input ++ op ∷ []) output' (s ++ x)
      ≡ then (length s) (go (input ++ op ∷ []) output' s) (λ (out : Stream). go (input ++ op ∷ [] ++ s) (output' ++ out) x)
      → behind put (go (input ++ op ∷ []) output' (s ++ x))
      ≡ then (suc (length s)) (behind put (go (input ++ op ∷ []) output' s)) (λ (out : Stream). go (input ++ op ∷ s) (output ++ out) x)
  next op put s x input output output' grows h =
      ap (behind put) h
      ∙ behind_then put (length s) (go (input ++ op ∷ []) output' s) _ _
      (λ out. ap₂ (λ (i o : Stream). go i o x) (append_assoc input (op ∷ []) s) (grows out))

  -- the run of a stream and of what comes behind it is the run of the first part, and then that of the second from there
  pub continued : (s x input output : Stream)
      → onward way up target input output (s ++ x)
      ≡ then (length s) (onward way up target input output s) (λ (out : Stream). onward way up target (input ++ s) (output ++ out) x)
  unfolding onward go
  continued [] x input output =
      ap₂ (λ (i o : Stream). go i o x) (sym (append-nil input)) (sym (append-nil output)) ∙ sym (follows_nothing _)
  continued (Operation.Fence n ∷ s) x input output =
      next (Operation.Fence n) [] s x input output output (λ out. refl) (continued s x (input ++ fence n) output)
  continued (Operation.Access k ∷ s) x input output =
      at _ (behind (access k) (go (input ++ access k) (output ++ access k) s)) _
      (λ (g : ℕ). behind (fence g ++ access k) (go (input ++ access k) (output ++ (fence g ++ access k)) s))
      (next (Operation.Access k) (access k) s x input output (output ++ access k) (append_assoc output (access k))
      (continued s x (input ++ access k) (output ++ access k)))
      (λ g. next (Operation.Access k) (fence g ++ access k) s x input output (output ++ (fence g ++ access k))
      (append_assoc output (fence g ++ access k))
      (continued s x (input ++ access k) (output ++ (fence g ++ access k))))
      (rule way up target input output k)
    where
      rest : Stream → Ran
      rest out = go (input ++ Operation.Access k ∷ s) (output ++ out) x

      at : (p q : Ran) (f g : ℕ → Ran) → p ≡ then (suc (length s)) q rest → ((n : ℕ) → f n ≡ then (suc (length s)) (g n) rest)
          → (c : Choice) → goes_on p f c ≡ then (suc (length s)) (goes_on q g c) rest
      at p q f g e h Choice.Nothing = e
      at p q f g e h (Choice.Fence n) = h n
      at p q f g e h Choice.Refused = refl

  -- stuck at a place: the stream up to the access there is accepted, and there the rule refuses
  pub record StuckAt (input output s : Stream) (place : ℕ) : Type 0 where
    pub first : Stream
    pub kind : Kind
    pub rest : Stream
    pub out : Stream
    pub split : s ≡ first ++ Operation.Access kind ∷ rest
    pub index : length first ≡ place
    pub accepted : onward way up target input output first ≡ done out
    pub stuck : rule way up target (input ++ first) (output ++ out) kind ≡ Choice.Refused

  -- an access that the rule refuses ends the run there
  stops : (input output : Stream) (k : Kind) (s : Stream) → rule way up target input output k ≡ Choice.Refused
      → onward way up target input output (Operation.Access k ∷ s) ≡ refused 0
  unfolding onward go
  stops input output k s e =
      ap
      (goes_on (behind (access k) (go (input ++ access k) (output ++ access k) s))
      (λ (g : ℕ). behind (fence g ++ access k) (go (input ++ access k) (output ++ (fence g ++ access k)) s)))
      e

  pub stuck_refused : (input output s : Stream) (place : ℕ) → StuckAt input output s place → onward way up target input output s ≡ refused place
  stuck_refused input output s place f =
      let left : Stream = Operation.Access f.kind ∷ f.rest in
      ap (onward way up target input output) f.split
      ∙ continued f.first left input output
      ∙ ap (λ (x : Ran). then (length f.first) x (λ (out : Stream). onward way up target (input ++ f.first) (output ++ out) left))
      f.accepted
      ∙ ap (follows (length f.first) f.out) (stops (input ++ f.first) (output ++ f.out) f.kind f.rest f.stuck)
      ∙ ap refused (add-zero (length f.first) ∙ f.index)

  behind_refused : (put : Stream) (p : ℕ) (x : Ran) → behind put x ≡ refused p → (q : ℕ) × (x ≡ refused q) × (suc q ≡ p)
  behind_refused put p (done out) e = differ (cc)
  behind_refused put p (refused q) e = (q, refl, (cc))

  -- a refusal further on, with one operation before it
  later : (op : Operation) (put s input output output' : Stream) (p q : ℕ)
      → ((out : Stream) → output' ++ out ≡ output ++ (put ++ out)) → suc q ≡ p
      → ((out x : Stream) → onward way up target (input ++ op ∷ []) output' x ≡ done out
      → onward way up target input output (op ∷ x) ≡ done (put ++ out))
      → StuckAt (input ++ op ∷ []) output' s q → StuckAt input output (op ∷ s) p
  later op put s input output output' p q grows e goes f =
      record {
        first = op ∷ f.first;
        kind = f.kind;
        rest = f.rest;
        out = put ++ f.out;
        split = ap (λ (x : Stream). op ∷ x) f.split;
        index = ap suc f.index ∙ e;
        accepted = goes f.out f.first f.accepted;
        stuck =
            ap₂ (λ (i o : Stream). rule way up target i o f.kind)
            (sym (append_assoc input (op ∷ []) f.first)) (sym (grows f.out)) ∙ f.stuck;
      }

  pub refused_stuck : (s input output : Stream) (place : ℕ) → onward way up target input output s ≡ refused place → StuckAt input output s place
  unfolding onward go
  refused_stuck [] input output p e = differ (cc)
  refused_stuck (Operation.Fence n ∷ s) input output p e =
      let w = behind_refused [] p (go (input ++ fence n) output s) e in
      later (Operation.Fence n) [] s input output output p w.0 (λ out. refl) w.2 (λ out x h. ap (behind []) h)
      (refused_stuck s (input ++ fence n) output w.0 w.1)
  refused_stuck (Operation.Access k ∷ s) input output p e =
      at (λ q h. refused_stuck s (input ++ access k) (output ++ access k) q h)
      (λ g q h. refused_stuck s (input ++ access k) (output ++ (fence g ++ access k)) q h) (rule way up target input output k) refl
    where
      plainly : Stream → Ran
      plainly x = behind (access k) (go (input ++ access k) (output ++ access k) x)

      fence_put : Stream → ℕ → Ran
      fence_put x g = behind (fence g ++ access k) (go (input ++ access k) (output ++ (fence g ++ access k)) x)

      at : ((q : ℕ) → go (input ++ access k) (output ++ access k) s ≡ refused q → StuckAt (input ++ access k) (output ++ access k) s q)
          → ((g q : ℕ) → go (input ++ access k) (output ++ (fence g ++ access k)) s ≡ refused q
          → StuckAt (input ++ access k) (output ++ (fence g ++ access k)) s q)
          → (c : Choice) → rule way up target input output k ≡ c → StuckAt input output (Operation.Access k ∷ s) p
      at a b Choice.Nothing r =
          let w = behind_refused (access k) p (go (input ++ access k) (output ++ access k) s) (sym (ap (goes_on (plainly s) (fence_put s)) r) ∙ e) in
          later (Operation.Access k) (access k) s input output (output ++ access k) p w.0 (append_assoc output (access k)) w.2
          (λ out x h. ap (goes_on (plainly x) (fence_put x)) r ∙ ap (behind (access k)) h) (a w.0 w.1)
      at a b (Choice.Fence g) r =
          let w = behind_refused (fence g ++ access k) p (go (input ++ access k) (output ++ (fence g ++ access k)) s)
          (sym (ap (goes_on (plainly s) (fence_put s)) r) ∙ e) in
          later (Operation.Access k) (fence g ++ access k) s input output (output ++ (fence g ++ access k)) p w.0
          (append_assoc output (fence g ++ access k)) w.2
          (λ out x h. ap (goes_on (plainly x) (fence_put x)) r ∙ ap (behind (fence g ++ access k)) h) (b g w.0 w.1)
      at a b Choice.Refused r =
          let z : refused 0 ≡ refused p = sym (ap (goes_on (plainly s) (fence_put s)) r) ∙ e in
          record {
            first = [];
            kind = k;
            rest = s;
            out = [];
            split = refl;
            index = (cc);
            accepted = refl;
            stuck = ap₂ (λ (i o : Stream). rule way up target i o k) (append-nil input) (append-nil output) ∙ r;
          }
