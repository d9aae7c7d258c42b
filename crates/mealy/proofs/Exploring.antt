-- Exploring breadth first: how it starts, goes on and ends. Assumes nothing.
use Prim.Native.Nat.{ℕ, zero, suc, ◌+◌, ◌<◌}
use mathlib.Core.Path.{◌≡◌, refl, sym, ◌∙◌, ap}
use mathlib.Core.Logic.{◌⊎◌, inl, inr, ⊎_elim}
use mathlib.Core.List.{List, [], ◌∷◌, ◌++◌, append-nil}
use native.Mathlib.Omega.{arith}
use native.Mathlib.Decide.{dec_lt, ℕ_discrete}
use lib.ListN.{length, get_or, length-append, get_or-append}
use lib.Seq.{get_or-append_seam, append_snoc}
use Rattle.mealy.specs.Runs.{Answer, refused, taken, Machine, go, ends, Accepted, AcceptedFrom, reached}
use Rattle.mealy.specs.Order.{◌≺◌, ◌≼◌, ◌▹◌}
use Rattle.mealy.specs.Arrivals.{arrival, More, Entry, Described}
use Rattle.mealy.specs.inner.Exploring.{Met, Before, Exploring}
use Rattle.mealy.proofs.Order.{below_on, below_last, nil_below, at_most_on, at_most_trans}
use Rattle.mealy.proofs.Runs.{untaken, accepted_on, ends_on, first_taken}
use Rattle.mealy.proofs.Numbers.{split_last}

-- the candidates before the next letter's
before_next : {j b i a : ℕ} → Before j b i (a + 1) → Before j b i a ⊎ ((j ≡ i) × (b ≡ a))
before_next (inl h) = inl (inl h)
before_next {b = b} {a = a} (inr h) = ⊎_elim (λ l. inl (inr (h.0, l))) (λ e. inr (h.0, e)) (split_last b a (omega arith))

before_on : {j b i a : ℕ} → Before j b i a → Before j b i (a + 1)
before_on (inl h) = inl h
before_on (inr h) = inr (h.0, omega arith)

-- one stream more
abbrev grown : List (List ℕ) → List ℕ → List (List ℕ)
grown ws v = ws ++ (v ∷ [])

length_more : (ws : List (List ℕ)) (v : List ℕ) → length (grown ws v) ≡ suc (length ws)
length_more ws v = simp length-append (omega arith)

old : (ws : List (List ℕ)) (v : List ℕ) {p : ℕ} → p < length ws → get_or (grown ws v) p [] ≡ get_or ws p []
old ws v {p} h = get_or-append ws (v ∷ []) [] p h

new : (ws : List (List ℕ)) (v : List ℕ) → get_or (grown ws v) (length ws) [] ≡ v
new ws v = get_or-append_seam ws v [] []

module _ {S O : Type 0} (m : Machine S O) where
  pub explore_start : (row : ℕ → ℕ → Answer O ℕ) → Exploring m ([] ∷ []) row 0 0
  explore_start row =
      record {
        starts = refl;
        some = omega arith;
        here = omega arith;
        rising = λ p q l h. absurd (omega arith);
        accepted = λ i h. only i;
        apart = λ p q l h e. absurd (omega arith);
        found = λ p l h. absurd (omega arith);
        met = λ j b l h. absurd (none l);
      }
    where
      only : (i : ℕ) → Accepted m (get_or ([] ∷ []) i [])
      only zero = tt
      only (suc i) = tt

      none : {j b : ℕ} → Before j b 0 0 → ⊥
      none (inl h) = omega arith
      none (inr h) = omega arith

  -- a candidate before another gives a stream that arrives before the other's
  before_below : {ws : List (List ℕ)} {row : ℕ → ℕ → Answer O ℕ} {i a : ℕ} → Exploring m ws row i a → (j b l c : ℕ) → l < length ws
      → Before j b l c → get_or ws j [] ▹ b ≺ get_or ws l [] ▹ c
  before_below x j b l c h (inl q) = below_on b c (x.rising j l q h)
  before_below {ws} x j b l c h (inr q) = rw q.0 (below_last (get_or ws l []) q.1)

  -- every stream found arrives before the candidate's
  pub ahead : {ws : List (List ℕ)} {row : ℕ → ℕ → Answer O ℕ} {i a : ℕ} → Exploring m ws row i a → i < length ws → (p : ℕ) → p < length ws
      → get_or ws p [] ≺ get_or ws i [] ▹ a
  ahead {ws} {row} {i} {a} x h zero q = rw x.starts (nil_below (get_or ws i []) a)
  ahead {ws} {row} {i} {a} x h (suc p) q =
      let from = x.found (suc p) (omega arith) q in
      rw from.3 (before_below x from.0 from.1 i a h from.2)

  -- after the last letter, the next number
  pub explore_row : {ws : List (List ℕ)} {row : ℕ → ℕ → Answer O ℕ} {i : ℕ} → Exploring m ws row i m.letters → i < length ws
      → Exploring m ws row (i + 1) 0
  explore_row {ws} {row} {i} x h =
      record {
        starts = x.starts;
        some = x.some;
        here = omega arith;
        rising = x.rising;
        accepted = x.accepted;
        apart = x.apart;
        found = λ p l q. let from = x.found p l q in (from.0, from.1, inl (row_or_below from.2), from.3);
        met = λ j b l q. x.met j b (back l q) q;
      }
    where
      row_or_below : {j b : ℕ} → Before j b i m.letters → j < i + 1
      row_or_below (inl l) = omega arith
      row_or_below (inr l) = omega arith

      back : {j b : ℕ} → Before j b (i + 1) 0 → b < m.letters → Before j b i m.letters
      back {j} {b} (inl l) q = ⊎_elim inl (λ e. inr (e, q)) (split_last j i (omega arith))
      back {j} {b} (inr l) q = absurd (omega arith)

  -- a letter that is refused, or leads to what has been found
  pub explore_known : {ws : List (List ℕ)} {row : ℕ → ℕ → Answer O ℕ} {i a : ℕ} → Exploring m ws row i a
      → (next : ℕ → ℕ → Answer O ℕ) → ((j b : ℕ) → Before j b i a → b < m.letters → next j b ≡ row j b) → Met m ws i a (next i a)
      → Exploring m ws next i (a + 1)
  explore_known {ws} {row} {i} {a} x next kept here =
      record {
        starts = x.starts;
        some = x.some;
        here = x.here;
        rising = x.rising;
        accepted = x.accepted;
        apart = x.apart;
        found = λ p l q. let from = x.found p l q in (from.0, from.1, before_on from.2, from.3);
        met = λ j b l q.
            ⊎_elim (λ (k : Before j b i a). rw (kept j b k q) (x.met j b k q))
            (λ (k : (j ≡ i) × (b ≡ a)). rw (k.0, k.1) here)
            (before_next l);
      }

  met_more : (ws : List (List ℕ)) (v : List ℕ) (j b : ℕ) (y : Answer O ℕ) → j < length ws → Met m ws j b y → Met m (grown ws v) j b y
  met_more ws v j b refused h k = rw (old ws v h) k
  met_more ws v j b (taken o l) h k =
      (rw (old ws v h, old ws v k.1) k.0, omega (arith, length_more ws v, k.1), rw (old ws v h, old ws v k.1) k.2)

  before_here : {n j b i a : ℕ} → i < n → Before j b i a → j < n
  before_here h (inl l) = omega arith
  before_here h (inr l) = omega arith

  -- a letter that leads to what has not been found
  pub explore_new : {ws : List (List ℕ)} {row : ℕ → ℕ → Answer O ℕ} {i a : ℕ} → Exploring m ws row i a → i < length ws
      → (next : ℕ → ℕ → Answer O ℕ) → ((j b : ℕ) → Before j b i a → b < m.letters → next j b ≡ row j b)
      → (o : O) (t : S) → m.step (arrival m ws i) a ≡ taken o t → ((p : ℕ) → p < length ws → arrival m ws p ≡ t → ⊥)
      → next i a ≡ taken o (length ws)
      → Exploring m (ws ++ ((get_or ws i [] ▹ a) ∷ [])) next i (a + 1)
  explore_new {ws} {row} {i} {a} x h next kept o t e unseen there =
      record {
        starts = old ws v x.some ∙ x.starts;
        some = omega (arith, length_more ws v);
        here = omega (arith, length_more ws v);
        rising = λ p q l r. up p q l (split q r);
        accepted = λ p r. good p (split p r);
        apart = λ p q l r. off p q l (split q r);
        found = λ p l r. from p l (split p r);
        met = λ j b l r. ⊎_elim (λ k. past j b k r) (λ k. now j b k) (before_next l);
      }
    where
      v : List ℕ
      v = get_or ws i [] ▹ a

      split : (p : ℕ) → p < length (grown ws v) → (p < length ws) ⊎ (p ≡ length ws)
      split p r = split_last p (length ws) (omega (arith, length_more ws v))

      leads : arrival m (grown ws v) (length ws) ≡ t
      leads = ap (reached m) (new ws v) ∙ ends_on m m.fresh (get_or ws i []) (x.accepted i h) e

      up : (p q : ℕ) → p < q → (q < length ws) ⊎ (q ≡ length ws) → get_or (grown ws v) p [] ≺ get_or (grown ws v) q []
      up p q l (inl r) = rw (old ws v r, old ws v {p = p} (omega arith)) (x.rising p q l r)
      up p q l (inr r) = rw (r, new ws v, old ws v {p = p} (omega arith)) (ahead x h p (omega arith))

      good : (p : ℕ) → (p < length ws) ⊎ (p ≡ length ws) → Accepted m (get_or (grown ws v) p [])
      good p (inl r) = rw (old ws v r) (x.accepted p r)
      good p (inr r) = rw (r, new ws v) (accepted_on m m.fresh (get_or ws i []) (x.accepted i h) e)

      off : (p q : ℕ) → p < q → (q < length ws) ⊎ (q ≡ length ws) → arrival m (grown ws v) p ≡ arrival m (grown ws v) q → ⊥
      off p q l (inl r) k = x.apart p q l r (rw (old ws v r, old ws v {p = p} (omega arith)) at k)
      off p q l (inr r) k =
          let z : p < length ws = omega arith in
          unseen p z (sym (ap (reached m) (old ws v z)) ∙ k ∙ ap (arrival m (grown ws v)) r ∙ leads)

      from : (p : ℕ) → 0 < p → (p < length ws) ⊎ (p ≡ length ws)
          → (j : ℕ) × (b : ℕ) × Before j b i (a + 1) × (get_or (grown ws v) p [] ≡ get_or (grown ws v) j [] ▹ b)
      from p l (inl r) =
          let f = x.found p l r in
          (f.0, f.1, before_on f.2, rw (old ws v r, old ws v {p = f.0} (before_here h f.2)) f.3)
      from p l (inr r) = (i, a, inr (refl, omega arith), rw (r, new ws v, old ws v h))

      past : (j b : ℕ) → Before j b i a → b < m.letters → Met m (grown ws v) j b (next j b)
      past j b k r = rw (kept j b k r) (met_more ws v j b (row j b) (before_here h k) (x.met j b k r))

      now : (j b : ℕ) → (j ≡ i) × (b ≡ a) → Met m (grown ws v) j b (next j b)
      now j b k =
          rw (k.0, k.1, there) (
            ap (λ (u : List ℕ). m.step (reached m u) a) (old ws v h) ∙ e ∙ ap (taken o) (sym leads),
            omega (arith, length_more ws v),
            inl (new ws v ∙ ap (λ (u : List ℕ). u ▹ a) (sym (old ws v h))),
          )

  met_entry : (ws : List (List ℕ)) (i a : ℕ) (y : Answer O ℕ) → Met m ws i a y → Entry m ◌≡◌ ws i a y
  met_entry ws i a refused h = h
  met_entry ws i a (taken o j) h = (arrival m ws j, h.0, h.1, refl)

  -- a taken letter has been met
  met_taken : {ws : List (List ℕ)} {row : ℕ → ℕ → Answer O ℕ} → Exploring m ws row (length ws) 0 → (i a : ℕ) {o : O} {t : S} → i < length ws
      → m.step (arrival m ws i) a ≡ taken o t → (j : ℕ) × (j < length ws) × (arrival m ws j ≡ t) × (get_or ws j [] ≼ get_or ws i [] ▹ a)
  met_taken {ws} {row} x i a {o} {t} h e =
      elim (dec_lt a m.letters)
      [ yes q ↦ look (row i a) (x.met i a (inl h) q) | no q ↦ absurd (untaken (sym (m.outside (arrival m ws i) a (omega arith)) ∙ e)) ]
    where
      look : (y : Answer O ℕ) → Met m ws i a y → (j : ℕ) × (j < length ws) × (arrival m ws j ≡ t) × (get_or ws j [] ≼ get_or ws i [] ▹ a)
      look refused k = absurd (untaken (sym k ∙ e))
      look (taken p j) k =
          let same : taken p (arrival m ws j) ≡ taken o t = sym k.0 ∙ e in
          (j, k.1, cc, k.2)

  -- from a number that a stream leads to, every continuation leads to a number
  reaches : {ws : List (List ℕ)} {row : ℕ → ℕ → Answer O ℕ} → Exploring m ws row (length ws) 0 → (w u : List ℕ) (i : ℕ) (s : S)
      → i < length ws → arrival m ws i ≡ s → get_or ws i [] ≼ u → AcceptedFrom m s w
      → (p : ℕ) × (p < length ws) × (arrival m ws p ≡ ends m s w) × (get_or ws p [] ≼ u ++ w)
  reaches x [] u i s h e l g = (i, h, e, rw append-nil l)
  reaches {ws} x (a ∷ w) u i s h e l g =
      let to = first_taken m s a w g in
      let there = met_taken x i a h (ap (λ (r : S). m.step r a) e ∙ to.2) in
      let rest = reaches x w (u ▹ a) there.0 to.1 there.1 there.2 (at_most_trans there.3 (at_most_on a l)) to.3 in
      (rest.0, rest.1, rest.2 ∙ ap (λ (y : Answer O S). go y s (λ t. ends m t w)) (sym to.2), rw (append_snoc u a w) at rest.3)

  -- every number's letters are answered: the streams are the situations' first arrivals, and the rows are theirs
  pub explore_end : {ws : List (List ℕ)} {row : ℕ → ℕ → Answer O ℕ} → Exploring m ws row (length ws) 0 → Described m ◌≡◌ (length ws) row
  explore_end {ws} {row} x =
      record {
        streams = ws;
        first =
            record {
              rising = x.rising;
              accepted = x.accepted;
              apart = x.apart;
              covers = λ w g.
                  let to = reaches x w [] 0 m.fresh x.some (ap (reached m) x.starts) (inl x.starts) g in
                  (to.0, to.1, to.2, to.3);
            };
        count = refl;
        rows = λ i a h q. met_entry ws i a (row i a) (x.met i a (inl h) q);
      }

  -- the streams found, and one more where a letter leads to what has not been found
  pub explore_beyond : {ws : List (List ℕ)} {row : ℕ → ℕ → Answer O ℕ} {i a : ℕ} → Exploring m ws row i a → i < length ws
      → (o : O) (t : S) → m.step (arrival m ws i) a ≡ taken o t → ((p : ℕ) → p < length ws → arrival m ws p ≡ t → ⊥)
      → (n : ℕ) → n ≡ length ws → More m ◌≡◌ n
  explore_beyond {ws} {row} {i} {a} x h o t e unseen n size =
      let y = explore_new x h next kept o t e unseen last in
      record {
        streams = grown ws (get_or ws i [] ▹ a);
        many = omega (arith, length_more ws (get_or ws i [] ▹ a));
        accepted = y.accepted;
        apart = y.apart;
      }
    where
      choose : {j b : ℕ} → Dec (j ≡ i) → Dec (b ≡ a) → Answer O ℕ
      choose {j} {b} (no d) f = row j b
      choose {j} {b} (yes d) (no f) = row j b
      choose {j} {b} (yes d) (yes f) = taken o (length ws)

      next : ℕ → ℕ → Answer O ℕ
      next j b = choose (ℕ_discrete j i) (ℕ_discrete b a)

      kept : (j b : ℕ) → Before j b i a → b < m.letters → next j b ≡ row j b
      kept j b before l = look before (ℕ_discrete j i) (ℕ_discrete b a)
        where
          look : Before j b i a → (d : Dec (j ≡ i)) (f : Dec (b ≡ a)) → choose d f ≡ row j b
          look q (no d) f = refl
          look q (yes d) (no f) = refl
          look (inl q) (yes d) (yes f) = absurd (omega arith)
          look (inr q) (yes d) (yes f) = absurd (omega arith)

      last : next i a ≡ taken o (length ws)
      last = look (ℕ_discrete i i) (ℕ_discrete a a)
        where
          look : (d : Dec (i ≡ i)) (f : Dec (a ≡ a)) → choose d f ≡ taken o (length ws)
          look (yes d) (yes f) = refl
          look (yes d) (no f) = absurd (f refl)
          look (no d) f = absurd (d refl)
