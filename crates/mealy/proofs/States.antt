-- From the situations to the states: the states' first arrivals are those of the situations where each class occurs first, and their rows are
-- those situations' rows with classes for targets. Assumes nothing.
use Prim.Native.Nat.{ℕ, zero, suc, ◌≤◌, ◌<◌}
use mathlib.Core.Path.{◌≡◌, refl, sym, ◌∙◌, ap}
use mathlib.Core.Logic.{inl, inr, ⊎_elim}
use mathlib.Core.List.{List, [], ◌∷◌, ◌++◌}
use native.Mathlib.Omega.{arith}
use lib.ListN.{length, get_or, length-append, get_or-append}
use lib.Seq.{get_or_at}
use Rattle.mealy.specs.Runs.{Answer, refused, taken, Machine, gets, Same}
use Rattle.mealy.specs.Order.{◌≼◌}
use Rattle.mealy.specs.Arrivals.{arrival, Apart, AllAccepted, More, Entry, Described, numbered}
use Rattle.mealy.specs.inner.Classes.{Numbering, Closed, classed, Coarse, States}
use Rattle.mealy.proofs.Order.{at_most_trans}
use Rattle.mealy.proofs.Runs.{untaken, same_eq, same_trans}
use Rattle.mealy.proofs.Numbers.{order}
use Rattle.mealy.proofs.Describing.{Stepped, neither, both, stepped, run_from}
use Rattle.mealy.proofs.Refining.{firsts_rise}

-- f 0, f 1, .., f (n - 1)
picked : {A : Type 0} → (ℕ → A) → ℕ → List A
picked f zero = []
picked f (suc n) = picked f n ++ (f n ∷ [])

length_picked : {A : Type 0} (f : ℕ → A) (n : ℕ) → length (picked f n) ≡ n
unfolding picked
length_picked f zero = refl
length_picked f (suc n) = simp length-append (omega (arith, length_picked f n))

picked_at_lem : {A : Type 0} (f : ℕ → A) (n i : ℕ) (d : A) → i < n → get_or (picked f n) i d ≡ f i
unfolding picked
picked_at_lem f zero i d h = absurd (omega arith)
picked_at_lem f (suc n) i d h =
    ⊎_elim (λ (l : i < n). get_or-append (picked f n) (f n ∷ []) d i (rw length_picked l) ∙ picked_at_lem f n i d l)
    (⊎_elim (λ (e : i ≡ n). get_or_at (picked f n) (f n) [] d i (length_picked f n ∙ sym e) ∙ ap f (sym e)) (λ (l : n < i). absurd (omega arith)))
    (order i n)

module _ {S O : Type 0} (m : Machine S O) {k : ℕ} {row : ℕ → ℕ → Answer O ℕ} (d : Described m ◌≡◌ k row) where
  -- no row leads out of the situations
  pub rows_closed : Closed (numbered m.letters row) k
  rows_closed = record { stays = λ i a o j h e. look i a o j e (stepped m ◌≡◌ d i a h) }
    where
      look : (i a : ℕ) (o : O) (j : ℕ) → (numbered m.letters row).step i a ≡ taken o j
          → Stepped m ◌≡◌ d.streams k ((numbered m.letters row).step i a) (m.step (arrival m d.streams i) a) → j < k
      look i a o j e (neither f g) = absurd (untaken (sym f ∙ e))
      look i a o j e (both p l t f g h r) =
          let one : taken o j ≡ taken p l = sym e ∙ f in
          let to : j ≡ l = cc in
          omega arith

  run : (i : ℕ) → i < k → (w : List ℕ) → gets (numbered m.letters row) i w ≡ gets m (arrival m d.streams i) w
  run = run_from m ◌≡◌ d (λ s t e. same_eq m e)

  same_up : (i j : ℕ) → i < k → j < k → Same (numbered m.letters row) i j → Same m (arrival m d.streams i) (arrival m d.streams j)
  same_up i j h l s = record { same = λ w. sym (run i h w) ∙ s.same w ∙ run j l w }

  same_down : (i j : ℕ) → i < k → j < k → Same m (arrival m d.streams i) (arrival m d.streams j) → Same (numbered m.letters row) i j
  same_down i j h l s = record { same = λ w. run i h w ∙ s.same w ∙ sym (run j l w) }

  module _ {p : ℕ} (le : p ≤ k) {class : ℕ → ℕ} {n : ℕ} (x : Numbering p class n) where
    -- the streams by which the classes are first arrived at
    firsts : List (List ℕ)
    firsts = picked (λ q. get_or d.streams (x.firsts q) []) n

    length-firsts : length firsts ≡ n
    unfolding firsts
    length-firsts = length_picked _ n

    firsts_at : (q : ℕ) → q < n → get_or firsts q [] ≡ get_or d.streams (x.firsts q) []
    unfolding firsts
    firsts_at q h = picked_at_lem _ n q [] h

    firsts_accepted : AllAccepted m firsts
    firsts_accepted q h =
        let r : q < n = omega (arith, length-firsts) in
        rw (firsts_at q r) (d.first.accepted (x.firsts q) (omega (arith, (x.first q r).0, d.count)))

    firsts_apart : Coarse (numbered m.letters row) p class → Apart m (Same m) firsts
    firsts_apart coarse q r l h s =
        let u : r < n = omega (arith, length-firsts) in
        let t : q < n = omega arith in
        let e = x.first q t in
        let f = x.first r u in
        let one : class (x.firsts q) ≡ class (x.firsts r)
        = coarse _ _ e.0 f.0
        (same_down _ _ (omega (arith, e.0)) (omega (arith, f.0)) (rw (firsts_at q t, firsts_at r u) at s)) in
        omega (arith, e.1, f.1, one)

    -- classes of part of the situations already show so many states
    pub classes_many : Coarse (numbered m.letters row) p class → (l : ℕ) → l < n → More m (Same m) l
    classes_many coarse l h =
        record { streams = firsts; many = omega (arith, length-firsts); accepted = firsts_accepted; apart = firsts_apart coarse }

  module _ {class : ℕ → ℕ} {n : ℕ} (x : States (numbered m.letters row) k class n) where
    abbrev ws : List (List ℕ)
    ws = firsts (omega arith) x.numbering

    abbrev at : ℕ → ℕ
    at q = x.numbering.firsts q

    ws_at : (q : ℕ) → q < n → get_or ws q [] ≡ get_or d.streams (at q) []
    ws_at q h = firsts_at (omega arith) x.numbering q h

    length-ws : length ws ≡ n
    length-ws = length-firsts (omega arith) x.numbering

    -- a situation is the same state as the first of its class
    class_same : (i : ℕ) → i < k → Same m (arrival m ws (class i)) (arrival m d.streams i)
    class_same i h =
        let q : class i < n = x.numbering.below i h in
        let f = x.numbering.first (class i) q in
        rw (ws_at (class i) q) (same_up (at (class i)) i f.0 h ((x.states (at (class i)) i f.0 h).0 f.1))

    -- and does not come before it
    class_first : (i : ℕ) → i < k → get_or ws (class i) [] ≼ get_or d.streams i []
    class_first i h =
        let q : class i < n = x.numbering.below i h in
        let f = x.numbering.first (class i) q in
        rw (ws_at (class i) q)
        (⊎_elim (λ (l : at (class i) < i). inr (d.first.rising (at (class i)) i l (omega (arith, d.count))))
        (⊎_elim (λ (e : at (class i) ≡ i). inl (ap (λ (j : ℕ). get_or d.streams j []) e))
        (λ (l : i < at (class i)). absurd (omega (arith, f.2 i l))))
        (order (at (class i)) i))

    entry_state : (q a : ℕ) (y : Answer O ℕ) → q < n → Entry m ◌≡◌ d.streams (at q) a y → Entry m (Same m) ws q a (classed class y)
    entry_state q a refused h e = rw (ws_at q h) e
    entry_state q a (taken o j) h e =
        let l : j < k = omega (arith, d.count, e.2) in
        (e.0, rw (ws_at q h) e.1, omega (arith, length-ws, x.numbering.below j l), same_trans m (class_same j l) (same_eq m e.3))

    -- the classes' first members, with their rows, describe the states
    pub classes_states : {table : ℕ → ℕ → Answer O ℕ}
        → ((q a : ℕ) → q < n → a < m.letters → table q a ≡ classed class (row (x.numbering.firsts q) a)) → Described m (Same m) n table
    classes_states {table} rows =
        record {
          streams = ws;
          first =
              record {
                rising = λ p q l h.
                    let r : q < n = omega (arith, length-ws) in
                    rw (ws_at q r, ws_at p (omega arith))
                    (d.first.rising (at p) (at q) (firsts_rise x.numbering p q l r) (omega (arith, d.count, (x.numbering.first q r).0)));
                accepted = firsts_accepted (omega arith) x.numbering;
                apart = firsts_apart (omega arith) x.numbering (λ i j h l s. (x.states i j h l).1 s);
                covers = λ w g.
                    let to = d.first.covers w g in
                    let h : to.0 < k = omega (arith, d.count, to.1) in (
                      class to.0,
                      omega (arith, length-ws, x.numbering.below to.0 h),
                      same_trans m (class_same to.0 h) (same_eq m to.2),
                      at_most_trans (class_first to.0 h) to.3,
                    );
              };
          count = length-ws;
          rows = λ q a h l.
              rw (rows q a h l) (entry_state q a (row (at q) a) h (d.rows (at q) a (x.numbering.first q h).0 l));
        }
