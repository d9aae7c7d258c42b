-- Runs of joined streams, and what being the same state tells of one step. Assumes nothing.
use Prim.Native.Nat.{ℕ}
use mathlib.Core.Path.{◌≡◌, refl, sym, ◌∙◌, ap}
use mathlib.Core.List.{List, [], ◌∷◌, ◌++◌}
use native.Mathlib.Omega.{arith}
use lib.Dec.{T}
use Rattle.mealy.specs.Runs.{Answer, refused, taken, Machine, Got, refusal, output, preceded, get, gets, go, ends, is_output, AcceptedFrom, Same}
use Rattle.mealy.specs.Order.{◌▹◌}

is_output_preceded : {O : Type 0} (o : O) (x : Got O) → is_output (preceded o x) ≡ is_output x
is_output_preceded o (refusal k) = refl
is_output_preceded o (output os) = refl

preceded_rest : {O : Type 0} (o p : O) (x y : Got O) → preceded o x ≡ preceded p y → x ≡ y
preceded_rest o p (refusal k) (refusal l) e = ap refusal (cc)
preceded_rest o p (refusal k) (output l) e = cc
preceded_rest o p (output k) (refusal l) e = cc
preceded_rest o p (output k) (output l) e = cc

pub untaken : {O S : Type 0} {o : O} {t : S} → ◌≡◌ {A = Answer O S} refused (taken o t) → ⊥
untaken e = let z : ◌≡◌ {A = ℕ} 0 1 = cc in omega arith

never : {O : Type 0} {os : List O} {k : ℕ} → output os ≡ refusal k → ⊥
never {k = k} e = let z : ◌≡◌ {A = ℕ} 0 1 = cc in omega arith

module _ {S O : Type 0} (m : Machine S O) where
  pub same_refl : (s : S) → Same m s s
  same_refl s = record { same = λ w. refl }

  pub same_sym : {s t : S} → Same m s t → Same m t s
  same_sym h = record { same = λ w. sym (h.same w) }

  pub same_trans : {s t u : S} → Same m s t → Same m t u → Same m s u
  same_trans h k = record { same = λ w. h.same w ∙ k.same w }

  pub same_eq : {s t : S} → s ≡ t → Same m s t
  same_eq {s} {t} e = rw e (same_refl t)

  -- what follows an accepted beginning is the run from where the beginning leads
  accepted-append : (s : S) (v w : List ℕ) → AcceptedFrom m s v → is_output (gets m s (v ++ w)) ≡ is_output (gets m (ends m s v) w)
  accepted-append s [] w h = refl
  accepted-append s (a ∷ v) w h = step (λ t. accepted-append t v w) (m.step s a) h
    where
      step : ((t : S) → AcceptedFrom m t v → is_output (gets m t (v ++ w)) ≡ is_output (gets m (ends m t v) w)) → (x : Answer O S)
          → T (is_output (get x (λ t. gets m t v)))
          → is_output (get x (λ t. gets m t (v ++ w))) ≡ is_output (gets m (go x s (λ t. ends m t v)) w)
      step ih refused h = absurd h
      step ih (taken o t) h = is_output_preceded o (gets m t (v ++ w)) ∙ ih t (rw is_output_preceded at h)

  ends-append : (s : S) (v w : List ℕ) → AcceptedFrom m s v → ends m s (v ++ w) ≡ ends m (ends m s v) w
  ends-append s [] w h = refl
  ends-append s (a ∷ v) w h = step (λ t. ends-append t v w) (m.step s a) h
    where
      step : ((t : S) → AcceptedFrom m t v → ends m t (v ++ w) ≡ ends m (ends m t v) w) → (x : Answer O S)
          → T (is_output (get x (λ t. gets m t v))) → go x s (λ t. ends m t (v ++ w)) ≡ ends m (go x s (λ t. ends m t v)) w
      step ih refused h = absurd h
      step ih (taken o t) h = ih t (rw is_output_preceded at h)

  -- one letter more
  pub accepted_on : (s : S) (v : List ℕ) {a : ℕ} {o : O} {t : S} → AcceptedFrom m s v → m.step (ends m s v) a ≡ taken o t → AcceptedFrom m s (v ▹ a)
  accepted_on s v {a} h e = rw (accepted-append s v (a ∷ []) h, e) tt

  pub ends_on : (s : S) (v : List ℕ) {a : ℕ} {o : O} {t : S} → AcceptedFrom m s v → m.step (ends m s v) a ≡ taken o t → ends m s (v ▹ a) ≡ t
  ends_on s v {a} h e = ends-append s v (a ∷ []) h ∙ rw e

  -- the first letter of an accepted stream is taken
  pub first_taken : (s : S) (a : ℕ) (w : List ℕ) → AcceptedFrom m s (a ∷ w)
      → (o : O) × (t : S) × (m.step s a ≡ taken o t) × AcceptedFrom m t w
  first_taken s a w h = look (m.step s a) refl h
    where
      look : (x : Answer O S) → m.step s a ≡ x → T (is_output (get x (λ t. gets m t w)))
          → (o : O) × (t : S) × (m.step s a ≡ taken o t) × AcceptedFrom m t w
      look refused e h = absurd h
      look (taken o t) e h = (o, t, e, rw is_output_preceded at h)

  -- the same state gives the same answer, and leads to the same state
  pub same_refused : {s t : S} (a : ℕ) → Same m s t → m.step s a ≡ refused → m.step t a ≡ refused
  same_refused {s} {t} a h e = look (m.step t a) refl
    where
      look : (x : Answer O S) → m.step t a ≡ x → m.step t a ≡ refused
      look refused d = d
      look (taken o u) d = cc (rw (e, d) at (h.same (a ∷ [])))

  pub same_taken : {s t : S} (a : ℕ) {o : O} {u : S} → Same m s t → m.step s a ≡ taken o u
      → (v : S) × (m.step t a ≡ taken o v) × Same m u v
  same_taken {s} {t} a {o} {u} h e = look (m.step t a) refl
    where
      look : (x : Answer O S) → m.step t a ≡ x → (v : S) × (m.step t a ≡ taken o v) × Same m u v
      look refused d = absurd (never (rw (e, d) at (h.same (a ∷ []))))
      look (taken p v) d =
          let one : output (o ∷ []) ≡ output (p ∷ []) = rw (e, d) at (h.same (a ∷ [])) in
          (v, cc, record { same = λ w. preceded_rest o p (gets m u w) (gets m v w) (rw (e, d) at (h.same (a ∷ w))) })
