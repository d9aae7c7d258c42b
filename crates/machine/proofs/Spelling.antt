-- A machine whose outputs are streams: what its runs are by what the fence bytes get, and that they tell states apart. Assumes nothing.
use Prim.Native.Nat.{ℕ, ◌<◌}
use mathlib.Core.Path.{◌≡◌, refl, sym, ◌∙◌, ap}
use mathlib.Core.List.{List, [], ◌∷◌, ◌++◌, append-nil, append_cancel_left}
use native.Mathlib.Omega.{arith}
use native.Mathlib.Decide.{dec_lt}
use lib.Dec.{T}
use Rattle.rule.specs.Stream.{Stream}
use Rattle.rule.specs.Rule.{Ran, done, refused as stopped, behind}
use Rattle.mealy.specs.Runs.{Answer, refused, taken, Machine, Got, refusal, output, preceded, get, gets, go, ends, is_output, AcceptedFrom, Same}
use Rattle.mealy.proofs.Runs.{untaken, first_taken}
use Rattle.machine.specs.Spoken.{Letters, puts, spelt, spelling, say, spoken}

pub undone : {out : Stream} {p : ℕ} → stopped p ≡ done out → ⊥
undone {out} {p} e = let z : ◌≡◌ {A = ℕ} 0 1 = cc in omega arith

-- of what is behind the same
behind_cancel : (put : Stream) (x y : Ran) → behind put x ≡ behind put y → x ≡ y
behind_cancel put (done a) (done b) e = ap done (append_cancel_left put a b (cc))
behind_cancel put (done a) (stopped q) e = absurd (undone (sym e))
behind_cancel put (stopped p) (done b) e = absurd (undone e)
behind_cancel put (stopped p) (stopped q) e = ap stopped (cc)

-- what a stream gets in fence bytes, as a run
abbrev said : List ℕ → List ℕ → Stream
said [] os = []
said (a ∷ w) [] = []
said (a ∷ w) (o ∷ os) = puts a o ++ said w os

abbrev pub ran_as : List ℕ → Got ℕ → Ran
ran_as w (refusal k) = stopped k
ran_as w (output os) = done (said w os)

module _ {S : Type 0} (m : Machine S ℕ) where
  pub spoken_gets : (s : S) (w : List ℕ) → spoken (spelling m) s w ≡ ran_as w (gets m s w)
  spoken_gets s [] = refl
  spoken_gets s (a ∷ w) = look (λ t. spoken_gets t w) (m.step s a)
    where
      put : (o : ℕ) (x : Got ℕ) → behind (puts a o) (ran_as w x) ≡ ran_as (a ∷ w) (preceded o x)
      put o (refusal k) = refl
      put o (output os) = refl

      look : ((t : S) → spoken (spelling m) t w ≡ ran_as w (gets m t w)) → (y : Answer ℕ S)
          → say (spelt a y) (λ t. spoken (spelling m) t w) ≡ ran_as (a ∷ w) (get y (λ t. gets m t w))
      look ih refused = refl
      look ih (taken o t) = ap (behind (puts a o)) (ih t) ∙ put o (gets m t w)

  pub ends_spelt : (s : S) (w : List ℕ) → ends (spelling m) s w ≡ ends m s w
  ends_spelt s [] = refl
  ends_spelt s (a ∷ w) = look (λ t. ends_spelt t w) (m.step s a)
    where
      look : ((t : S) → ends (spelling m) t w ≡ ends m t w) → (y : Answer ℕ S)
          → go (spelt a y) s (λ t. ends (spelling m) t w) ≡ go y s (λ t. ends m t w)
      look ih refused = refl
      look ih (taken o t) = ih t

  -- a stream is accepted where its run is done, and then it has only letters of the machine
  pub done_accepted : (s : S) (w : List ℕ) (out : Stream) → spoken (spelling m) s w ≡ done out → AcceptedFrom m s w
  done_accepted s w out e = look (gets m s w) (sym (spoken_gets s w) ∙ e)
    where
      look : (x : Got ℕ) → ran_as w x ≡ done out → T (is_output x)
      look (refusal k) h = absurd (undone h)
      look (output os) h = tt

  pub accepted_done : (s : S) (w : List ℕ) → AcceptedFrom m s w → (out : Stream) × (spoken (spelling m) s w ≡ done out)
  accepted_done s w g = let o = look (gets m s w) g in (o.0, spoken_gets s w ∙ o.1)
    where
      look : (x : Got ℕ) → T (is_output x) → (out : Stream) × (ran_as w x ≡ done out)
      look (refusal k) h = absurd h
      look (output os) h = (said w os, refl)

  pub accepted_letters : (s : S) (w : List ℕ) → AcceptedFrom m s w → Letters m.letters w
  accepted_letters s [] g = tt
  accepted_letters s (a ∷ w) g =
      let to = first_taken m s a w g in (
        elim (dec_lt a m.letters) [ yes h ↦ h | no h ↦ absurd (untaken (sym (m.outside s a (omega arith)) ∙ to.2)) ],
        accepted_letters to.1 w to.3,
      )

  -- two situations that every stream of letters gets the same run from are the same state, where the fence byte is told by what is put out
  module _ (apart : (a o p : ℕ) (s t u v : S) → m.step s a ≡ taken o u → m.step t a ≡ taken p v → puts a o ≡ puts a p → o ≡ p) where
    alike_gets : (w : List ℕ) (s t : S)
        → ((x : List ℕ) → Letters m.letters x → spoken (spelling m) s x ≡ spoken (spelling m) t x) → gets m s w ≡ gets m t w
    alike_gets [] s t h = refl
    alike_gets (a ∷ w) s t h =
        elim (dec_lt a m.letters) [
          | yes l ↦ look l (alike_gets w) (m.step s a) refl (m.step t a) refl
          | no l ↦ rw (m.outside s a (omega arith), m.outside t a (omega arith))
        ]
      where
        look : a < m.letters
            → ((u v : S) → ((x : List ℕ) → Letters m.letters x → spoken (spelling m) u x ≡ spoken (spelling m) v x) → gets m u w ≡ gets m v w)
            → (y : Answer ℕ S) → m.step s a ≡ y → (z : Answer ℕ S) → m.step t a ≡ z → gets m s (a ∷ w) ≡ gets m t (a ∷ w)
        look l ih refused e refused f = rw (e, f)
        look l ih refused e (taken p v) f = absurd (undone (rw (e, f) at (h (a ∷ []) (l, tt))))
        look l ih (taken o u) e refused f = absurd (undone (sym (rw (e, f) at (h (a ∷ []) (l, tt)))))
        look l ih (taken o u) e (taken p v) f =
            let first : done (puts a o ++ []) ≡ done (puts a p ++ []) = rw (e, f) at (h (a ∷ []) (l, tt)) in
            let put : puts a o ≡ puts a p = sym (append-nil (puts a o)) ∙ (cc) ∙ append-nil (puts a p) in
            let one : o ≡ p = apart a o p s t u v e f put in
            rw (e, f, one)
            (ap (preceded p)
            (ih u v
            (λ x k.
            let both : behind (puts a o) (spoken (spelling m) u x) ≡ behind (puts a p) (spoken (spelling m) v x) = rw (e, f) at (h (a ∷ x) (l, k)) in
            behind_cancel (puts a p) _ _ (rw one at both))))

    pub alike_same : (s t : S) → ((x : List ℕ) → Letters m.letters x → spoken (spelling m) s x ≡ spoken (spelling m) t x) → Same m s t
    alike_same s t h = record { same = λ w. alike_gets w s t h }
