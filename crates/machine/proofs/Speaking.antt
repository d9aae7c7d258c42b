-- Runs as streams of operations: the rule's machine gives the rule's run, and what answers like the rule goes on like it. Assumes nothing.
use Prim.Native.Nat.{ℕ, suc, ◌+◌, ◌≤◌, ◌<◌}
use mathlib.Core.Path.{◌≡◌, refl, sym, ◌∙◌, ap, ap₂}
use mathlib.Core.List.{List, [], ◌∷◌, ◌++◌, append_assoc, append_cancel_left}
use native.Mathlib.Nat.{suc-add}
use native.Mathlib.Omega.{arith}
use native.Mathlib.Decide.{dec_lt}
use borrow.Author.Tests.{lt-ltb, le-ltb, ne_eqb}
use lib.ListN.{length}
use Rattle.operations.specs.Alphabet.{kind_of, operation_of}
use Rattle.rule.specs.declared.situation.Situation.{Situation}
use Rattle.rule.specs.declared.way.Way.{Way}
use Rattle.rule.specs.declared.way.Choice.{Choice}
use Rattle.rule.specs.Stream.{Stream, access, fence}
use Rattle.rule.specs.Pairs.{Model}
use Rattle.rule.specs.Rule.{Ran, done, refused as stopped, behind, onward, run}
use Rattle.rule.specs.Situation.{pending, choice_of, step_of, resumed, steps, fresh}
use Rattle.rule.proofs.Continued.{follows, then, continued}
use Rattle.rule.proofs.Theorems.{steps_are_the_rule}
use Rattle.mealy.specs.Runs.{Answer, refused, taken, Machine, go, ends, reached}
use Rattle.machine.specs.Shim.{letters_of, step_answer, letter_answer, shim}
use Rattle.machine.specs.Spoken.{Letters, operations, puts, spelt, spelling, say, spoken, AnswersLikeTheRule}
use Rattle.machine.proofs.Spelling.{undone}
use Rattle.machine.proofs.Letters.{shim_step, choice_low}

letters-append : (n : ℕ) (v x : List ℕ) → Letters n v → Letters n x → Letters n (v ++ x)
letters-append n [] x h l = l
letters-append n (a ∷ v) x h l = (h.0, letters-append n v x h.1 l)

operations-append : (v x : List ℕ) → operations (v ++ x) ≡ operations v ++ operations x
operations-append [] x = refl
operations-append (a ∷ v) x = ap (λ (s : Stream). operation_of a ∷ s) (operations-append v x)

operations-length : (v : List ℕ) → length (operations v) ≡ length v
operations-length [] = refl
operations-length (a ∷ v) = ap suc (operations-length v)

follows_cancel : (n : ℕ) (out : Stream) (x y : Ran) → follows n out x ≡ follows n out y → x ≡ y
follows_cancel n out (done a) (done b) e = ap done (append_cancel_left out a b (cc))
follows_cancel n out (done a) (stopped q) e = absurd (undone (sym e))
follows_cancel n out (stopped p) (done b) e = absurd (undone e)
follows_cancel n out (stopped p) (stopped q) e = let f : n + p ≡ n + q = cc in ap stopped (omega arith)

behind_then : (put : Stream) (n : ℕ) (x rest : Ran)
    → behind put (then n x (λ (out : Stream). rest)) ≡ then (suc n) (behind put x) (λ (out : Stream). rest)
behind_then put n (stopped p) rest = refl
behind_then put n (done out) (done more) = ap done (sym (append_assoc put out more))
behind_then put n (done out) (stopped p) = ap stopped (sym (suc-add n p))

-- the run of a longer stream
spoken-append : {S : Type 0} (m : Machine S Stream) (s : S) (v x : List ℕ)
    → spoken m s (v ++ x) ≡ then (length v) (spoken m s v) (λ (out : Stream). spoken m (ends m s v) x)
spoken-append m s [] x = nothing (spoken m s x)
  where
    nothing : (r : Ran) → r ≡ follows 0 [] r
    nothing (done more) = refl
    nothing (stopped p) = ap stopped (omega arith)
spoken-append {S} m s (a ∷ v) x = look (λ t. spoken-append m t v x) (m.step s a)
  where
    look : ((t : S) → spoken m t (v ++ x) ≡ then (length v) (spoken m t v) (λ (out : Stream). spoken m (ends m t v) x)) → (y : Answer Stream S)
        → say y (λ t. spoken m t (v ++ x))
        ≡ then (suc (length v)) (say y (λ t. spoken m t v)) (λ (out : Stream). spoken m (go y s (λ t. ends m t v)) x)
    look ih refused = refl
    look ih (taken put t) = ap (behind put) (ih t) ∙ behind_then put (length v) (spoken m t v) (spoken m (ends m t v) x)

module _ (way : Way) (up target : Model) where
  -- what answers like the rule goes on like it, after every stream that it accepts
  pub goes_on : {S : Type 0} (n : Machine S Stream) → AnswersLikeTheRule way up target n → (v : List ℕ) → Letters (letters_of up) v
      → (out : Stream) → run way up target (operations v) ≡ done out → (x : List ℕ) → Letters (letters_of up) x
      → spoken n (reached n v) x ≡ onward way up target (operations v) out (operations x)
  goes_on n like v h out e x l =
      follows_cancel (length v) out _ _
      (sym (ap (λ (r : Ran). then (length v) r (λ (o : Stream). spoken n (reached n v) x)) (like v h ∙ e))
      ∙ sym (spoken-append n n.fresh v x)
      ∙ like (v ++ x) (letters-append (letters_of up) v x h l)
      ∙ ap (run way up target) (operations-append v x)
      ∙ continued way up target (operations v) (operations x) [] []
      ∙ ap₂ (λ (k : ℕ) (r : Ran). then k r (λ (o : Stream). onward way up target (operations v) o (operations x))) (operations-length v) e)

  module _ (few : length target.fences ≤ 16) where
    fenced : (a g : ℕ) → a < 4 → g < length target.fences → puts a g ≡ fence g ++ access (kind_of a)
    fenced a g h l = rw (lt-ltb a 4 h, ne_eqb g 255 (λ e. omega arith)) refl

    -- the rule's machine gives the rule's run by situations
    shim_steps : (s : Situation) (w : List ℕ) → Letters (letters_of up) w
        → spoken (spelling (shim way up target)) s w ≡ steps way up target s (operations w)
    unfolding steps
    shim_steps s [] h = refl
    shim_steps s (a ∷ w) h =
        ap (λ (y : Answer ℕ Situation). say (spelt a y) (λ t. spoken (spelling (shim way up target)) t w)) (shim_step way up target s a h.0)
        ∙ look (λ t. shim_steps t w h.1) (dec_lt a 4)
      where
        at : ((t : Situation) → spoken (spelling (shim way up target)) t w ≡ steps way up target t (operations w)) → a < 4 → (c : Choice)
            → choice_of way target.fences (pending (kind_of a) s) ≡ c
            → say (spelt a (step_answer (step_of up.ppo target s (kind_of a) c))) (λ t. spoken (spelling (shim way up target)) t w)
            ≡ resumed (kind_of a) (λ (t : Situation). steps way up target t (operations w)) (step_of up.ppo target s (kind_of a) c)
        at ih l Choice.Nothing e = rw (lt-ltb a 4 l) (ap (behind (access (kind_of a))) (ih _))
        at ih l (Choice.Fence g) e =
            rw (fenced a g l (choice_low way target.fences (pending (kind_of a) s) g e)) (ap (behind (fence g ++ access (kind_of a))) (ih _))
        at ih l Choice.Refused e = refl

        look : ((t : Situation) → spoken (spelling (shim way up target)) t w ≡ steps way up target t (operations w)) → Dec (a < 4)
            → say (spelt a (letter_answer way up target s a)) (λ t. spoken (spelling (shim way up target)) t w)
            ≡ steps way up target s (operations (a ∷ w))
        look ih (yes l) = rw (lt-ltb a 4 l) (at ih l (choice_of way target.fences (pending (kind_of a) s)) refl)
        look ih (no l) = rw (le-ltb a 4 (omega arith), le-ltb a 4 (omega arith)) (ap (behind []) (ih _))

    pub shim_like : AnswersLikeTheRule way up target (spelling (shim way up target))
    shim_like w h = shim_steps fresh w h ∙ sym (steps_are_the_rule way up target (operations w))
