-- How one pair more is linked into the index. Assumes nothing.
use Prim.Native.Nat.{ℕ, ◌+◌, ◌≤◌, ◌<◌}
use mathlib.Core.Path.{◌≡◌, refl, sym, ◌∙◌, ap, ap₂}
use mathlib.Core.Logic.{⊎_elim}
use mathlib.Core.List.{List}
use native.Mathlib.Omega.{arith}
use native.Mathlib.Decide.{ℕ_discrete}
use lib.ListN.{set, length-set}
use lib.Seq.{get_or-set_same, get_or-set_other}
use Rattle.ground.specs.Bytes.{at}
use Rattle.mealy.proofs.Numbers.{split_last}
use Rattle.machine.specs.declared.index.Index.{Index}
use Rattle.machine.specs.inner.Index.{capacity, bucket_of, pair_at, need_at, low_at, bucket_at, Link, Linked, Pair, Pushed}

pub same_bucket : (pairs : List (ℕ × ℕ)) (need low p : ℕ) → Pair pairs need low p → bucket_at pairs p ≡ bucket_of need low
same_bucket pairs need low p h = ap₂ bucket_of h.0 h.1

-- one pair more: it is the last of its bucket, and linked to the one that was
module _ {x : Index} (l : Linked x) (more : x.count < capacity) (need low : ℕ) where
  abbrev count : ℕ
  count = x.count

  abbrev pairs : List (ℕ × ℕ)
  pairs = x.pairs

  abbrev heads : List ℕ
  heads = x.heads

  abbrev nexts : List ℕ
  nexts = x.nexts

  abbrev b : ℕ
  b = bucket_of need low

  abbrev pairs' : List (ℕ × ℕ)
  pairs' = set pairs count (need, low)

  abbrev heads' : List ℕ
  heads' = set heads b (count + 1)

  abbrev nexts' : List ℕ
  nexts' = set nexts count (at heads b)

  old_place : (p : ℕ) → p < count → pair_at pairs' p ≡ pair_at pairs p
  old_place p h = get_or-set_other pairs count p (need, low) (0, 0) (omega arith)

  new_place : pair_at pairs' count ≡ (need, low)
  new_place = get_or-set_same pairs count (need, low) (0, 0) (omega (arith, l.all_pairs))

  old_pair : (p : ℕ) → p < count → Pair pairs' (need_at pairs p) (low_at pairs p) p
  old_pair p h = (ap (λ (q : ℕ × ℕ). q.0) (old_place p h), ap (λ (q : ℕ × ℕ). q.1) (old_place p h))

  new_pair : Pair pairs' need low count
  new_pair = (ap (λ (q : ℕ × ℕ). q.0) new_place, ap (λ (q : ℕ × ℕ). q.1) new_place)

  old_bucket : (p : ℕ) → p < count → bucket_at pairs' p ≡ bucket_at pairs p
  old_bucket p h = same_bucket pairs' (need_at pairs p) (low_at pairs p) p (old_pair p h)

  new_bucket : bucket_at pairs' count ≡ b
  new_bucket = same_bucket pairs' need low count new_pair

  old_link : {n c link : ℕ} → n ≤ count → Link pairs n c link → Link pairs' n c link
  old_link h k =
      record {
        within = k.within;
        own = λ p e. old_bucket p (omega (arith, k.within)) ∙ k.own p e;
        last = λ p q e. k.last p q (sym (old_bucket p (omega arith)) ∙ e);
      }

  in_range_lem : b < capacity
  in_range_lem = omega arith

  new_head : Link pairs' (count + 1) b (count + 1)
  new_head =
      record {
        within = omega arith;
        own = λ p e. let r : p ≡ count = omega arith in ap (bucket_at pairs') r ∙ new_bucket;
        last = λ p h e. h;
      }

  other_head : (c : ℕ) → c < capacity → (c ≡ b → ⊥) → Link pairs' (count + 1) c (at heads c)
  other_head c h unlike =
      let k = old_link (omega arith) (l.head c h) in
      record {
        within = omega (arith, k.within);
        own = k.own;
        last = λ p q e.
            ⊎_elim (λ (r : p < count). k.last p r e)
            (λ (r : p ≡ count). absurd (unlike (sym e ∙ ap (bucket_at pairs') r ∙ new_bucket)))
            (split_last p count q);
      }

  next_kept : (p : ℕ) → p < count → at nexts' p ≡ at nexts p
  next_kept p h = get_or-set_other nexts count p (at heads b) 0 (omega arith)

  next_new : at nexts' count ≡ at heads b
  next_new = get_or-set_same nexts count (at heads b) 0 (omega (arith, l.all_nexts))

  head_kept : (c : ℕ) → (c ≡ b → ⊥) → at heads' c ≡ at heads c
  head_kept c unlike = get_or-set_other heads b c (count + 1) 0 unlike

  head_new : at heads' b ≡ count + 1
  head_new = get_or-set_same heads b (count + 1) 0 (omega (arith, in_range_lem, l.all_heads))

  pushed_linked : Linked (record { pairs = pairs'; heads = heads'; nexts = nexts'; count = count + 1 })
  pushed_linked =
      record {
        fits = omega arith;
        all_pairs = simp length-set l.all_pairs;
        all_heads = simp length-set l.all_heads;
        all_nexts = simp length-set l.all_nexts;
        head = λ c h.
            elim (ℕ_discrete c b) [
              | yes e ↦ rw (e, head_new) new_head
              | no e ↦ rw (head_kept c e) (other_head c h e)
            ];
        next = λ p h.
            ⊎_elim (λ (r : p < count). rw (next_kept p r, old_bucket p r) (old_link (omega arith) (l.next p r)))
            (λ (r : p ≡ count). rw (r, next_new, new_bucket) (old_link (omega arith) (l.head b in_range_lem)))
            (split_last p count h);
      }

  pub pushed : {c : ℕ} → (c ≡ b) × (c < capacity) → Pushed x need low
      (record { pairs = pairs'; heads = set heads c (count + 1); nexts = set nexts count (at heads c); count = count + 1 })
  pushed e = rw e.0 (record { new = new_pair; old = old_pair; more = refl; linked = pushed_linked })
