-- Where the rule's machine arrives is the situation of 01, and what it puts out tells its fence bytes. Assumes nothing.
use Prim.Native.Nat.{ℕ, ◌-◌, ◌≤◌, ◌<◌}
use mathlib.Core.Path.{◌≡◌, refl, sym, ◌∙◌, ap, ap₂}
use mathlib.Core.Logic.{inl, inr}
use mathlib.Core.List.{List, [], ◌∷◌, ◌++◌, append_assoc, append-nil}
use native.Mathlib.Omega.{arith}
use native.Mathlib.Decide.{dec_lt}
use borrow.Author.Tests.{lt-ltb, le-ltb, ne_eqb}
use lib.ListN.{length}
use Rattle.tables.specs.Table.{table}
use Rattle.operations.specs.declared.Operation.{Operation}
use Rattle.operations.specs.Alphabet.{kind_of}
use Rattle.rule.specs.declared.situation.Situation.{Situation}
use Rattle.rule.specs.declared.way.Way.{Way}
use Rattle.rule.specs.declared.way.Choice.{Choice}
use Rattle.rule.specs.Stream.{Stream, access, fence, accesses}
use Rattle.rule.specs.Pairs.{Model}
use Rattle.rule.specs.Rule.{Ran, done, refused as stopped, behind, onward, run}
use Rattle.rule.specs.Situation.{joins, pending, choice_of, step_of, situation}
use Rattle.rule.proofs.Choices.{goes_on}
use Rattle.rule.proofs.Streams.{same_access, same_fence}
use Rattle.rule.proofs.Situations.{asks_step, offers_step, joins_step, chosen_rule}
use Rattle.mealy.specs.Runs.{Answer, taken, go, ends, reached}
use Rattle.mealy.proofs.Runs.{untaken}
use Rattle.machine.specs.Shim.{letters_of, step_answer, letter_answer, shim}
use Rattle.machine.specs.inner.Explore.{Output}
use Rattle.machine.specs.Spoken.{Letters, operations, puts}
use Rattle.machine.proofs.Letters.{shim_step, letter_output}
use Rattle.machine.proofs.Spelling.{undone}

behind_done : (put out : Stream) (x : Ran) → behind put x ≡ done out → (more : Stream) × (x ≡ done more) × (out ≡ put ++ more)
behind_done put out (done more) e = (more, refl, (cc))
behind_done put out (stopped p) e = absurd (undone e)

module _ (way : Way) (up target : Model) where
  -- one operation, and what it put out, before the rest
  step_on : (op : Operation) (put input output output' : Stream) (w : List ℕ) (s t : Situation) (out : Stream)
      → ((more : Stream) → output' ++ more ≡ output ++ (put ++ more))
      → situation up target (input ++ op ∷ []) output' ≡ t
      → ((more : Stream) → onward way up target (input ++ op ∷ []) output' (operations w) ≡ done more
      → ends (shim way up target) (situation up target (input ++ op ∷ []) output') w
      ≡ situation up target (input ++ op ∷ [] ++ operations w) (output' ++ more))
      → behind put (onward way up target (input ++ op ∷ []) output' (operations w)) ≡ done out
      → ends (shim way up target) t w ≡ situation up target (input ++ op ∷ operations w) (output ++ out)
  step_on op put input output output' w s t out grows e ih h =
      let b = behind_done put out _ h in
      ap (λ (z : Situation). ends (shim way up target) z w) (sym e)
      ∙ ih b.0 b.1
      ∙ ap₂ (situation up target) (append_assoc input (op ∷ []) (operations w)) (grows b.0 ∙ ap (λ (o : Stream). output ++ o) (sym b.2))

  pub arrives : (w : List ℕ) → Letters (letters_of up) w → (input output : Stream) → accesses output ≡ accesses input → (out : Stream)
      → onward way up target input output (operations w) ≡ done out
      → ends (shim way up target) (situation up target input output) w ≡ situation up target (input ++ operations w) (output ++ out)
  unfolding onward
  arrives [] h input output same out e =
      let f : [] ≡ out = cc in
      ap₂ (situation up target) (sym (append-nil input)) (sym (append-nil output) ∙ ap (λ (o : Stream). output ++ o) f)
  arrives (a ∷ w) h input output same out e =
      ap (λ (y : Answer ℕ Situation). go y S (λ t. ends (shim way up target) t w)) (shim_step way up target S a h.0)
      ∙ look (arrives w h.1) (dec_lt a 4)
    where
      S : Situation
      S = situation up target input output

      op : Stream
      op = access (kind_of a)

      Rest : Type 0
      Rest =
          (i o : Stream) → accesses o ≡ accesses i → (more : Stream) → onward way up target i o (operations w) ≡ done more
          → ends (shim way up target) (situation up target i o) w ≡ situation up target (i ++ operations w) (o ++ more)

      at : Rest → (c : Choice) → choice_of way target.fences (pending (kind_of a) S) ≡ c
          → goes_on (behind op (onward way up target (input ++ op) (output ++ op) (operations w)))
          (λ (g : ℕ). behind (fence g ++ op) (onward way up target (input ++ op) (output ++ (fence g ++ op)) (operations w))) c
          ≡ done out
          → go (step_answer (step_of up.ppo target S (kind_of a) c)) S (λ t. ends (shim way up target) t w)
          ≡ situation up target (input ++ Operation.Access (kind_of a) ∷ operations w) (output ++ out)
      at ih Choice.Nothing r f =
          step_on (Operation.Access (kind_of a)) (access (kind_of a)) input output (output ++ access (kind_of a)) w S _ out
          (append_assoc output (access (kind_of a)))
          (joins_step up target input output same (kind_of a))
          (ih (input ++ access (kind_of a)) (output ++ access (kind_of a)) (same_access input output (kind_of a) same))
          f
      at ih (Choice.Fence g) r f =
          step_on (Operation.Access (kind_of a)) (fence g ++ access (kind_of a)) input output (output ++ (fence g ++ access (kind_of a))) w S _ out
          (append_assoc output (fence g ++ access (kind_of a)))
          (ap (situation up target (input ++ access (kind_of a))) (sym (append_assoc output (fence g) (access (kind_of a))))
          ∙ joins_step up target input (output ++ fence g) (same_fence input output g same) (kind_of a)
          ∙ ap (joins up.ppo target.ppo (kind_of a)) (offers_step up target input output same g))
          (ih (input ++ access (kind_of a)) (output ++ (fence g ++ access (kind_of a)))
          (ap accesses (sym (append_assoc output (fence g) (access (kind_of a))))
          ∙ same_access input (output ++ fence g) (kind_of a) (same_fence input output g same)))
          f
      at ih Choice.Refused r f = absurd (undone f)

      look : Rest → Dec (a < 4)
          → go (letter_answer way up target S a) S (λ t. ends (shim way up target) t w)
          ≡ situation up target (input ++ operations (a ∷ w)) (output ++ out)
      look ih (yes l) =
          rw (lt-ltb a 4 l)
          (at ih (choice_of way target.fences (pending (kind_of a) S)) refl
          (sym (ap (goes_on _ _) (chosen_rule up target input output same way (kind_of a))) ∙ rw (lt-ltb a 4 l) at e))
      look ih (no l) =
          rw (le-ltb a 4 (omega arith))
          (step_on (Operation.Fence (a - 4)) [] input output output w S _ out (λ more. refl) (asks_step up target input output same (a - 4))
          (ih (input ++ fence (a - 4)) output (same ∙ sym (same_fence input input (a - 4) refl)))
          (rw (le-ltb a 4 (omega arith)) at e))

  -- where an accepted stream leads is the stream's situation
  pub reached_situation : (w : List ℕ) → Letters (letters_of up) w → (out : Stream) → run way up target (operations w) ≡ done out
      → reached (shim way up target) w ≡ situation up target (operations w) out
  unfolding situation table
  reached_situation w h out e = arrives w h [] [] refl out e

  -- what is put out for a letter tells the fence byte
  pub puts_apart : length target.fences ≤ 16 → (a o p : ℕ) (s t u v : Situation) → (shim way up target).step s a ≡ taken o u
      → (shim way up target).step t a ≡ taken p v → puts a o ≡ puts a p → o ≡ p
  puts_apart few a o p s t u v e f same = look (dec_lt a (letters_of up)) (dec_lt a 4)
    where
      two : a < 4 → Output o → Output p → o ≡ p
      two l (inl h) (inl k) =
          let both : fence o ++ access (kind_of a) ≡ fence p ++ access (kind_of a)
          = rw (lt-ltb a 4 l, ne_eqb o 255 (λ z. omega arith), ne_eqb p 255 (λ z. omega arith)) at same in
          cc
      two l (inl h) (inr k) =
          let both : fence o ++ access (kind_of a) ≡ access (kind_of a) = rw (lt-ltb a 4 l, ne_eqb o 255 (λ z. omega arith), k) at same in
          cc
      two l (inr h) (inl k) =
          let both : access (kind_of a) ≡ fence p ++ access (kind_of a) = rw (lt-ltb a 4 l, ne_eqb p 255 (λ z. omega arith), h) at same in
          cc
      two l (inr h) (inr k) = h ∙ sym k

      none : (q : ℕ) (x y : Situation) → 4 ≤ a → letter_answer way up target x a ≡ taken q y → q ≡ 255
      none q x y l g = let z : taken 255 _ ≡ taken q y = rw (le-ltb a 4 l) at g in cc

      look : Dec (a < letters_of up) → Dec (a < 4) → o ≡ p
      look (no h) d = absurd (untaken (sym ((shim way up target).outside s a (omega arith)) ∙ e))
      look (yes h) (yes l) =
          two l (letter_output way up target s a o u few (sym (shim_step way up target s a h) ∙ e))
          (letter_output way up target t a p v few (sym (shim_step way up target t a h) ∙ f))
      look (yes h) (no l) =
          none o s u (omega arith) (sym (shim_step way up target s a h) ∙ e)
          ∙ sym (none p t v (omega arith) (sym (shim_step way up target t a h) ∙ f))
