-- A described machine runs like the machine that it describes: from each of its states, and from state 0 on every stream; and it is described by
-- what its rows are at its states and letters alone. Assumes nothing.
use Prim.Native.Nat.{ℕ, ◌<◌}
use mathlib.Core.Path.{◌≡◌, refl, sym, ◌∙◌, ap, subst}
use mathlib.Core.Logic.{⊎_elim}
use mathlib.Core.List.{List, [], ◌∷◌}
use native.Mathlib.Omega.{arith}
use native.Mathlib.Decide.{dec_lt}
use borrow.Author.Tests.{lt-ltb}
use lib.ListN.{get_or}
use Rattle.mealy.specs.Runs.{Answer, refused, taken, Machine, preceded, gets, ends, AcceptedFrom, reached, Same}
use Rattle.mealy.specs.Arrivals.{arrival, Entry, Described, numbered}
use Rattle.mealy.proofs.Order.{below_nil, at_most_nil}
use Rattle.mealy.proofs.Runs.{untaken, same_trans, same_refused, same_taken, first_taken}
use Rattle.mealy.proofs.Numbers.{order}

pub numbered_step : {O : Type 0} (n : ℕ) (row : ℕ → ℕ → Answer O ℕ) (i a : ℕ) → a < n → (numbered n row).step i a ≡ row i a
numbered_step n row i a h = rw (lt-ltb a n h)

-- one step of rows and of the machine that they describe: both refuse, or both take the letter and lead to one state
pub data Stepped {S O : Type 0} (m : Machine S O) (R : S → S → Type 0) (ws : List (List ℕ)) (k : ℕ) (x : Answer O ℕ) (y : Answer O S) : Type 0 where
  neither : x ≡ refused → y ≡ refused → Stepped m R ws k x y
  both : (o : O) (j : ℕ) (t : S) → x ≡ taken o j → y ≡ taken o t → j < k → R (arrival m ws j) t → Stepped m R ws k x y

module _ {S O : Type 0} (m : Machine S O) (R : S → S → Type 0) {k : ℕ} {row : ℕ → ℕ → Answer O ℕ} (d : Described m R k row) where
  -- the machine that the rows describe
  abbrev pub machine : Machine ℕ O
  machine = numbered m.letters row

  pub stepped : (i a : ℕ) → i < k → Stepped m R d.streams k (machine.step i a) (m.step (arrival m d.streams i) a)
  stepped i a p =
      elim (dec_lt a m.letters) [
        | yes q ↦ look (row i a) (numbered_step m.letters row i a q) (d.rows i a p q)
        | no q ↦ neither (machine.outside i a (omega arith)) (m.outside _ a (omega arith))
      ]
    where
      look : (x : Answer O ℕ) → machine.step i a ≡ x → Entry m R d.streams i a x
          → Stepped m R d.streams k (machine.step i a) (m.step (arrival m d.streams i) a)
      look refused e h = neither e h
      look (taken o j) e h = both o j h.0 e h.1 (rw (← d.count) h.2) h.3

  module _ (finer : (s t : S) → R s t → Same m s t) where
    -- a run from a state is the run from where the state was first arrived at
    pub run_from : (i : ℕ) → i < k → (w : List ℕ) → gets machine i w ≡ gets m (arrival m d.streams i) w
    run_from i p [] = refl
    run_from i p (a ∷ w) = look (λ j q. run_from j q w) (stepped i a p)
      where
        look : ((j : ℕ) → j < k → gets machine j w ≡ gets m (arrival m d.streams j) w)
            → Stepped m R d.streams k (machine.step i a) (m.step (arrival m d.streams i) a)
            → gets machine i (a ∷ w) ≡ gets m (arrival m d.streams i) (a ∷ w)
        look ih (neither e f) = rw (e, f)
        look ih (both o j t e f q r) = rw (e, f) (ap (preceded o) (ih j q ∙ (finer _ _ r).same w))

    -- a stream that is accepted from the same state ends in the same state
    pub lands : (i : ℕ) → i < k → (s : S) → Same m (arrival m d.streams i) s → (w : List ℕ) → AcceptedFrom m s w
        → (ends machine i w < k) × Same m (arrival m d.streams (ends machine i w)) (ends m s w)
    lands i p s h [] g = (p, h)
    lands i p s h (a ∷ w) g =
        let to = first_taken m s a w g in
        look (λ j q t r. lands j q t r w) to.0 to.1 to.2 to.3 (stepped i a p)
      where
        look : ((j : ℕ) → j < k → (t : S) → Same m (arrival m d.streams j) t → AcceptedFrom m t w
            → (ends machine j w < k) × Same m (arrival m d.streams (ends machine j w)) (ends m t w))
            → (o : O) (t : S) → m.step s a ≡ taken o t → AcceptedFrom m t w
            → Stepped m R d.streams k (machine.step i a) (m.step (arrival m d.streams i) a)
            → (ends machine i (a ∷ w) < k) × Same m (arrival m d.streams (ends machine i (a ∷ w))) (ends m s (a ∷ w))
        look ih o t e g (neither x y) =
            let f : m.step s a ≡ refused = same_refused m a h y in
            absurd (untaken (sym f ∙ e))
        look ih o t e g (both p j u x y q r) =
            let there = same_taken m a h y in
            let same : taken o t ≡ taken p there.0 = sym e ∙ there.1 in
            let to : there.0 ≡ t = cc in
            rw (x, e) (ih j q t (same_trans m (finer _ _ r) (rw to at there.2)) g)

    -- the fresh situation is state 0
    pub starts : (0 < k) × (get_or d.streams 0 [] ≡ [])
    starts =
        let here = d.first.covers [] tt in
        let nil : get_or d.streams here.0 [] ≡ [] = at_most_nil _ here.3 in
        ⊎_elim (λ (l : 0 < here.0). absurd (below_nil _ (rw nil at (d.first.rising 0 here.0 l here.1))))
        (⊎_elim (λ (e : 0 ≡ here.0). (omega (arith, d.count, here.1), rw (← e) at nil)) (λ (l : here.0 < 0). absurd (omega arith)))
        (order 0 here.0)

    -- the run from state 0 is the run from the fresh situation, on every stream, refusals too
    pub run_fresh : (w : List ℕ) → gets machine 0 w ≡ gets m m.fresh w
    run_fresh w = run_from 0 starts.0 w ∙ ap (λ (v : List ℕ). gets m (reached m v) w) starts.1

-- rows that agree at every state and letter describe the same machine
pub described_as : {S O : Type 0} {m : Machine S O} {R : S → S → Type 0} {k : ℕ} {row other : ℕ → ℕ → Answer O ℕ} → Described m R k row
    → ((i a : ℕ) → i < k → a < m.letters → row i a ≡ other i a) → Described m R k other
described_as {m = m} {R} d agree =
    record {
      streams = d.streams;
      first = d.first;
      count = d.count;
      rows = λ i a p q. subst (Entry m R d.streams i a) (agree i a p q) (d.rows i a p q);
    }
