-- Situations and states counted on the rule's machine, and on the rule alone. Assumes nothing.
use Prim.Native.Nat.{ℕ, ◌≤◌, ◌<◌}
use mathlib.Core.Path.{◌≡◌, sym, ◌∙◌, ap}
use mathlib.Core.Logic.{◌↔◌}
use mathlib.Core.List.{List, []}
use native.Mathlib.Omega.{arith}
use lib.ListN.{length, get_or}
use Rattle.rule.specs.declared.situation.Situation.{Situation}
use Rattle.rule.specs.declared.way.Way.{Way}
use Rattle.rule.specs.Stream.{Stream}
use Rattle.rule.specs.Pairs.{Model}
use Rattle.rule.specs.Rule.{done, onward, run}
use Rattle.mealy.specs.Runs.{Accepted, reached, Same}
use Rattle.mealy.specs.Arrivals.{More}
use Rattle.machine.specs.Shim.{letters_of, shim}
use Rattle.machine.specs.Spoken.{Letters, operations, spelling, spoken}
use Rattle.machine.specs.Counted.{SameSituation, SameState, MoreThan, ManyStates}
use Rattle.machine.proofs.Spelling.{spoken_gets, ran_as, ends_spelt, done_accepted, accepted_done, accepted_letters, alike_same}
use Rattle.machine.proofs.Speaking.{goes_on, shim_like}
use Rattle.machine.proofs.Situated.{reached_situation, puts_apart}

module _ (way : Way) (up target : Model) (few : length target.fences ≤ 16) where
  -- the streams that the rule accepts are those that its machine accepts
  pub run_accepted : (w : List ℕ) → Letters (letters_of up) w → (out : Stream) → run way up target (operations w) ≡ done out
      → Accepted (shim way up target) w
  run_accepted w h out e = done_accepted (shim way up target) _ w out (shim_like way up target few w h ∙ e)

  pub accepted_run : (w : List ℕ) → Accepted (shim way up target) w
      → Letters (letters_of up) w × ((out : Stream) × (run way up target (operations w) ≡ done out))
  accepted_run w g =
      let h = accepted_letters (shim way up target) _ w g in
      let o = accepted_done (shim way up target) _ w g in
      (h, (o.0, sym (shim_like way up target few w h) ∙ o.1))

  -- the run from where an accepted stream leads is the stream's continuation
  shim_onward : (v : List ℕ) → Letters (letters_of up) v → (out : Stream) → run way up target (operations v) ≡ done out
      → (x : List ℕ) → Letters (letters_of up) x
      → spoken (spelling (shim way up target)) (reached (shim way up target) v) x ≡ onward way up target (operations v) out (operations x)
  shim_onward v h out e x l =
      ap (λ (s : Situation). spoken (spelling (shim way up target)) s x) (sym (ends_spelt (shim way up target) _ v))
      ∙ goes_on way up target (spelling (shim way up target)) (shim_like way up target few) v h out e x l

  module _ (v w : List ℕ) (h : Letters (letters_of up) v) (l : Letters (letters_of up) w) (out out' : Stream)
      (e : run way up target (operations v) ≡ done out) (f : run way up target (operations w) ≡ done out') where
    pub same_state : Same (shim way up target) (reached (shim way up target) v) (reached (shim way up target) w)
        ↔ SameState way up target (operations v) out (operations w) out'
    same_state = (
      λ s x k.
          sym (shim_onward v h out e x k)
          ∙ spoken_gets (shim way up target) _ x
          ∙ ap (ran_as x) (s.same x)
          ∙ sym (spoken_gets (shim way up target) _ x)
          ∙ shim_onward w l out' f x k,
      λ s.
          alike_same (shim way up target) (puts_apart way up target few) _ _
          (λ x k. shim_onward v h out e x k ∙ s x k ∙ sym (shim_onward w l out' f x k)),
    )

    same_situated : (reached (shim way up target) v ≡ reached (shim way up target) w)
        ↔ SameSituation up target (operations v) out (operations w) out'
    same_situated =
        let p = reached_situation way up target v h out e in
        let q = reached_situation way up target w l out' f in
        (λ s. sym p ∙ s ∙ q, λ s. p ∙ s ∙ sym q)

  -- more of the machine's is more of the rule's
  module _ (R : Situation → Situation → Type 0) (Q : Stream → Stream → Stream → Stream → Type 0)
      (tie : (v w : List ℕ) → Letters (letters_of up) v → Letters (letters_of up) w → (out out' : Stream) → run way up target (operations v) ≡ done out
      → run way up target (operations w) ≡ done out'
      → R (reached (shim way up target) v) (reached (shim way up target) w) ↔ Q (operations v) out (operations w) out')
      (n : ℕ) where
    counted : More (shim way up target) R n ↔ MoreThan n way up target Q
    counted = (
      λ a.
          record {
            streams = a.streams;
            many = a.many;
            letters = λ i h. (accepted_run (get_or a.streams i []) (a.accepted i h)).0;
            accepted = λ i h. (accepted_run (get_or a.streams i []) (a.accepted i h)).1;
            apart = λ i j h l out out' e f r.
                let v = get_or a.streams i [] in
                let w = get_or a.streams j [] in
                let k = (accepted_run v (a.accepted i (omega arith))).0 in
                a.apart i j h l ((tie v w k (accepted_run w (a.accepted j l)).0 out out' e f).1 r);
          },
      λ b.
          record {
            streams = b.streams;
            many = b.many;
            accepted = λ i h. run_accepted (get_or b.streams i []) (b.letters i h) _ (b.accepted i h).1;
            apart = λ i j h l r.
                let k : i < length b.streams = omega arith in
                let e = b.accepted i k in
                let f = b.accepted j l in
                b.apart i j h l _ _ e.1 f.1
                ((tie (get_or b.streams i []) (get_or b.streams j []) (b.letters i k) (b.letters j l) _ _ e.1 f.1).0 r);
          },
    )

  pub many_situations : (n : ℕ) → More (shim way up target) ◌≡◌ n ↔ MoreThan n way up target (SameSituation up target)
  many_situations n = counted ◌≡◌ (SameSituation up target) same_situated n

  pub many_states : More (shim way up target) (Same (shim way up target)) 255 ↔ ManyStates way up target
  many_states = counted (Same (shim way up target)) (SameState way up target) same_state 255
