-- The first arrivals are determined, and so are their rows and their number; more than n and at most n exclude each other. Assumes nothing.
use Prim.Native.Nat.{ℕ, zero, suc, ◌≤◌, ◌<◌, zero-le}
use mathlib.Core.Path.{◌≡◌, refl, sym, ◌∙◌, ap}
use mathlib.Core.Logic.{⊎_elim}
use mathlib.Core.List.{List, []}
use native.Mathlib.Omega.{arith}
use lib.ListN.{length, get_or}
use lib.Seq.{ext_get_or}
use Rattle.mealy.specs.Runs.{Answer, refused, taken, Machine, Same}
use Rattle.mealy.specs.Order.{◌≺◌}
use Rattle.mealy.specs.Arrivals.{arrival, Apart, Known, Arrivals, More, AtMost, Exactly, Entry, Described}
use Rattle.mealy.proofs.Order.{below_irrefl, below_trans, at_most_antisym}
use Rattle.mealy.proofs.Numbers.{order, first_without}
use Rattle.mealy.proofs.Runs.{same_sym, same_trans}
use Rattle.mealy.proofs.Pigeonhole.{pigeonhole}

-- what is asked of the relation
pub record Alike {S : Type 0} (R : S → S → Type 0) : Type 0 where
  pub back : (s t : S) → R s t → R t s
  pub on : (s t u : S) → R s t → R t u → R s u

-- equality, and being the same state
pub equal : {S : Type 0} → Alike (◌≡◌ {A = S})
equal = record { back = λ s t e. sym e; on = λ s t u e f. e ∙ f }

pub same_states : {S O : Type 0} (m : Machine S O) → Alike (Same m)
same_states m = record { back = λ s t h. same_sym m h; on = λ s t u h k. same_trans m h k }

module _ {S O : Type 0} (m : Machine S O) (R : S → S → Type 0) (eq : Alike R) where
  -- of streams that lead apart, two that lead to related situations have one number
  pub apart_one : (ws : List (List ℕ)) → Apart m R ws → (i j : ℕ) → i < length ws → j < length ws → R (arrival m ws i) (arrival m ws j) → i ≡ j
  apart_one ws apart i j p q r =
      ⊎_elim (λ l. absurd (apart i j l q r)) (⊎_elim (λ e. e) (λ l. absurd (apart j i l p (eq.back _ _ r)))) (order i j)

  pub not_more : (n : ℕ) → AtMost m R n → More m R n → ⊥
  not_more n few more =
      let to : (i : ℕ) → i < length more.streams → Known m R few.streams (arrival m more.streams i)
      = λ i p. few.covers (get_or more.streams i []) (more.accepted i p) in
      let fits : length more.streams ≤ length few.streams
      = pigeonhole _ _ (λ i p. (to i p).0) (λ i p. (to i p).1)
      (λ i j p q l e. more.apart i j l q (eq.on _ _ _ (eq.back _ _ (to i p).2) (rw (← e) at (to j q).2))) in
      omega (arith, fits, few.few, more.many)

  -- so many first arrivals, at most so many classes
  pub arrivals_at_most : {ws : List (List ℕ)} → Arrivals m R ws → (n : ℕ) → length ws ≤ n → AtMost m R n
  arrivals_at_most {ws} a n h =
      record { streams = ws; few = h; covers = λ w g. let to = a.covers w g in (to.0, to.1, to.2) }

  -- so many described, at most so many classes
  pub described_at_most : {k : ℕ} {row : ℕ → ℕ → Answer O ℕ} → Described m R k row → (n : ℕ) → k ≤ n → AtMost m R n
  described_at_most d n h = arrivals_at_most d.first n (omega (arith, d.count))

  -- and exactly as many as they are
  pub arrivals_exactly : {ws : List (List ℕ)} → Arrivals m R ws → (n : ℕ) → length ws ≡ n → Exactly m R n
  arrivals_exactly {ws} a n e =
      record {
        at_most = arrivals_at_most a n (omega arith);
        more = λ k h. record { streams = ws; many = omega arith; accepted = a.accepted; apart = a.apart };
      }

  pub exactly_unique : {k n : ℕ} → Exactly m R k → Exactly m R n → k ≡ n
  exactly_unique {k} {n} a b = first_without (More m R) a.more (not_more k a.at_most) b.more (not_more n b.at_most)

  -- the numbers of arrivals go by the order of their streams
  pub rising_back : {ws : List (List ℕ)} → Arrivals m R ws → (i j : ℕ) → i < length ws → j < length ws → get_or ws i [] ≺ get_or ws j [] → i < j
  rising_back {ws} a i j p q h =
      ⊎_elim (λ l. l)
      (⊎_elim (λ e. absurd (below_irrefl (get_or ws j []) (rw e at h))) (λ l. absurd (below_irrefl _ (below_trans h (a.rising j i l p)))))
      (order i j)

  module _ {vs ws : List (List ℕ)} (a : Arrivals m R vs) (b : Arrivals m R ws) where
    member : (i : ℕ) → i < length vs → (j : ℕ) × (j < length ws) × (get_or vs i [] ≡ get_or ws j [])
    member i p =
        let there = b.covers (get_or vs i []) (a.accepted i p) in
        let back = a.covers (get_or ws there.0 []) (b.accepted there.0 there.1) in
        let one : back.0 ≡ i = apart_one vs a.apart back.0 i back.1 p (eq.on _ _ _ back.2 there.2) in
        (there.0, there.1, at_most_antisym _ _ (rw one at back.3) there.3)

    no_later : (i j : ℕ) → i < length vs → j < length ws → get_or vs i [] ≡ get_or ws j [] → i ≤ j
    no_later zero j p q e = zero-le
    no_later (suc i) j p q e =
        let prior = member i (omega arith) in
        let le : i ≤ prior.0 = no_later i prior.0 (omega arith) prior.1 prior.2 in
        let lt : prior.0 < j
        = rising_back b prior.0 j prior.1 q (rw (e, prior.2) at (a.rising i (suc i) (omega arith) p)) in
        omega arith

    longer : length vs ≤ length ws
    longer = look (length vs) refl
      where
        look : (n : ℕ) → length vs ≡ n → n ≤ length ws
        look zero e = zero-le
        look (suc n) e =
            let there = member n (omega arith) in
            let le : n ≤ there.0 = no_later n there.0 (omega arith) there.1 there.2 in
            omega (arith, there.1)

  -- two lists of first arrivals are one
  pub arrivals_unique : {vs ws : List (List ℕ)} → Arrivals m R vs → Arrivals m R ws → vs ≡ ws
  arrivals_unique {vs} {ws} a b =
      ext_get_or [] vs ws (omega (arith, longer a b, longer b a))
      (λ i p.
      let there = member a b i p in
      let le : i ≤ there.0 = no_later a b i there.0 p there.1 there.2 in
      let ge : there.0 ≤ i = no_later b a there.0 i there.1 p (sym there.2) in
      let one : there.0 ≡ i = omega arith in
      rw one at there.2)

  entry_unique : (ws : List (List ℕ)) → Apart m R ws → (i a : ℕ) (x y : Answer O ℕ) → Entry m R ws i a x → Entry m R ws i a y → x ≡ y
  entry_unique ws apart i a refused refused h k = refl
  entry_unique ws apart i a refused (taken p j) h k = cc
  entry_unique ws apart i a (taken o j) refused h k = cc
  entry_unique ws apart i a (taken o j) (taken p l) h k =
      let same : taken o h.0 ≡ taken p k.0 = sym h.1 ∙ k.1 in
      let to : k.0 ≡ h.0 = cc in
      let one : j ≡ l = apart_one ws apart j l h.2 k.2 (eq.on _ _ _ h.3 (eq.back _ _ (rw to at k.3))) in
      cc

  -- two descriptions have one number of states, and one entry for each state and letter
  pub described_unique : {k l : ℕ} {row wor : ℕ → ℕ → Answer O ℕ} → Described m R k row → Described m R l wor
      → (k ≡ l) × ((i a : ℕ) → i < k → a < m.letters → row i a ≡ wor i a)
  described_unique {k} {l} {row} {wor} d e =
      let one : d.streams ≡ e.streams = arrivals_unique d.first e.first in
      let size : k ≡ l = sym d.count ∙ ap length one ∙ e.count in (
        size,
        λ i a p q.
            entry_unique e.streams e.first.apart i a (row i a) (wor i a) (rw one at (d.rows i a p q)) (e.rows i a (omega arith) q),
      )
