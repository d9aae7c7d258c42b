-- How a search of the index goes down its chain, and what it has found at its end. Assumes nothing.
use Prim.Native.Nat.{ℕ, ◌+◌, ◌-◌, ◌≤◌, ◌<◌}
use mathlib.Core.Path.{◌≡◌, sym, ◌∙◌, ap}
use mathlib.Core.Logic.{⊎_elim}
use native.Mathlib.Omega.{arith}
use lib.ListN.{length, replicate, length-replicate, get_or-replicate}
use Rattle.ground.specs.Bytes.{at}
use Rattle.mealy.proofs.Numbers.{split_last}
use Rattle.machine.specs.declared.index.Index.{Index}
use Rattle.machine.specs.inner.Index.{capacity, bucket_of, bucket_at, Linked, Pair, Absent}
use Rattle.machine.proofs.Links.{same_bucket}

-- a search at a link: the pair stands at no place above it
pub record Seeking (x : Index) (need low link : ℕ) : Type 0 where
  pub linked : Linked x
  pub within : link ≤ x.count
  pub own : (p : ℕ) → link ≡ p + 1 → bucket_at x.pairs p ≡ bucket_of need low
  pub below : (p : ℕ) → p < x.count → Pair x.pairs need low p → p < link

pub seek_start : {x : Index} {need low b link : ℕ} → Linked x → (b ≡ bucket_of need low) × (b < capacity)
    → link ≡ at x.heads b → Seeking x need low link
seek_start {x} {need} {low} {b} {link} y h e =
    let l = y.head b h.1 in
    record {
      linked = y;
      within = rw e l.within;
      own = λ p d. l.own p (sym e ∙ d) ∙ h.0;
      below = λ p q r. rw e (l.last p q (same_bucket x.pairs need low p r ∙ sym h.0));
    }

pub seek_next : {x : Index} {need low link : ℕ} → Seeking x need low link
    → (p next : ℕ) → (link ≡ 0 → ⊥) → p ≡ link - 1 → (Pair x.pairs need low p → ⊥) → next ≡ at x.nexts p
    → Seeking x need low next
seek_next {x} {need} {low} {link} y p next more at unlike e =
    let l = y.linked.next p (omega (arith, y.within, more)) in
    let d : link ≡ p + 1 = omega (arith, more) in
    let here : bucket_at x.pairs p ≡ bucket_of need low = y.own p d in
    record {
      linked = y.linked;
      within = omega (arith, l.within, y.within);
      own = λ q f. l.own q (sym e ∙ f) ∙ here;
      below = λ q h r.
          let here-or-below : q < p + 1 = rw d at (y.below q h r) in
          rw e (l.last q (other q r here-or-below) (same_bucket x.pairs need low q r ∙ sym here));
    }
  where
    other : (q : ℕ) → Pair x.pairs need low q → q < p + 1 → q < p
    other q r h = ⊎_elim (λ l. l) (λ (f : q ≡ p). absurd (unlike (rw f at r))) (split_last q p h)

pub seek_end : {x : Index} {need low : ℕ} → Seeking x need low 0 → Absent x need low
seek_end y p h r = omega (arith, y.below p h r)

-- the next link is lower
pub seek_less : {x : Index} {need low link : ℕ} → Seeking x need low link
    → (p next : ℕ) → (link ≡ 0 → ⊥) → p ≡ link - 1 → next ≡ at x.nexts p → next < link
seek_less y p next more at e = omega (arith, (y.linked.next p (omega (arith, more, y.within))).within, more)

-- no links
pub nothing_linked : {x : Index} → length x.pairs ≡ capacity → length x.nexts ≡ capacity → x.heads ≡ replicate capacity 0 → x.count ≡ 0 → Linked x
nothing_linked {x} s t e n =
    record {
      fits = omega arith;
      all_pairs = s;
      all_heads = ap length e ∙ length-replicate {A = ℕ} capacity 0;
      all_nexts = t;
      head = λ b h.
          rw (e, get_or-replicate {A = ℕ} capacity b 0 0 h)
          (record { within = omega arith; own = λ p q. absurd (omega arith); last = λ p q. absurd (omega arith) });
      next = λ p h. absurd (omega arith);
    }
