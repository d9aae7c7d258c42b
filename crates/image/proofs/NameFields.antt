-- A name field has no barred byte exactly where it is a name filled up with zeros. Assumes nothing.
use Prim.Native.Nat.{ℕ, zero, suc, ◌+◌, ◌-◌, ◌<◌, ◌≤◌}
use mathlib.Core.Path.{◌≡◌, refl, sym, ap, ◌∙◌}
use mathlib.Core.Bool.{true, false}
use mathlib.Core.List.{List, ◌++◌}
use native.Mathlib.Decide.{ℕ_discrete, dec_lt}
use native.Mathlib.Omega.{arith}
use borrow.Author.Tests.{eq-eqb, ne_eqb}
use lib.ListN.{length, replicate, length-append, length-replicate, get_or-replicate, get_or-append}
use lib.Seq.{get_or-append-add}
use Rattle.ground.proofs.Truths.{true_false}
use Rattle.ground.specs.Bytes.{at, name_byte}
use Rattle.barred.specs.Barred.{ended, barred_name}
use Rattle.image.specs.Image.{listed, NameField}
use Rattle.layout.proofs.Failing.{chosen}
use Rattle.image.proofs.Fronts.{length-listed, at_listed}

pub name_nonzero : (b : ℕ) → name_byte b ≡ true → b ≡ 0 → ⊥
name_nonzero b h e = true_false (sym (sym (ap name_byte e) ∙ h))

module _ (image : List ℕ) (from : ℕ) where
  ended_yes : (k j : ℕ) → j < k → at image (from + j) ≡ 0 → ended image from k ≡ true
  unfolding ended
  ended_yes zero j l e = absurd (omega arith)
  ended_yes (suc k) j l e = go (ℕ_discrete (at image (from + k)) 0) (λ m. ended_yes k j m e)
    where
      go : Dec (at image (from + k) ≡ 0) → (j < k → ended image from k ≡ true) → ended image from (suc k) ≡ true
      go (yes z) rest = rw (eq-eqb _ _ z)
      go (no z) rest = rw (ne_eqb _ _ z) (rest (below (ℕ_discrete j k)))
        where
          below : Dec (j ≡ k) → j < k
          below (yes w) = absurd (z (ap (λ (x : ℕ). at image (from + x)) (sym w) ∙ e))
          below (no w) = omega arith

  ended_not : (k : ℕ) → ((j : ℕ) → j < k → at image (from + j) ≡ 0 → ⊥) → ended image from k ≡ false
  unfolding ended
  ended_not zero h = refl
  ended_not (suc k) h = rw (ne_eqb _ _ (h k (omega arith))) (ended_not k (λ j l. h j (omega arith)))

  -- how many bytes stand before the first zero, of n
  Ends : ℕ → Type 0
  Ends n = (m : ℕ) × (m ≤ n) × ((k : ℕ) → k < m → at image (from + k) ≡ 0 → ⊥) × (m < n → at image (from + m) ≡ 0)

  ends : (n : ℕ) → Ends n
  unfolding Ends
  ends zero = (0, omega arith, (λ k l. absurd (omega arith)), (λ l. absurd (omega arith)))
  ends (suc n) = go (ends n)
    where
      go : Ends n → Ends (suc n)
      go (m, l, h, e) = by (dec_lt m n) (ℕ_discrete (at image (from + m)) 0)
        where
          by : Dec (m < n) → Dec (at image (from + m) ≡ 0) → Ends (suc n)
          by (yes k) d = (m, omega arith, h, λ w. e k)
          by (no k) (yes d) = (m, omega arith, h, λ w. d)
          by (no k) (no d) = (
            suc m,
            omega arith,
            (λ j w. last j w (ℕ_discrete j m)),
            (λ w. absurd (omega arith)),
          )
            where
              last : (j : ℕ) → j < suc m → Dec (j ≡ m) → at image (from + j) ≡ 0 → ⊥
              last j w (yes z) = λ x. d (ap (λ (y : ℕ). at image (from + y)) (sym z) ∙ x)
              last j w (no z) = h j (omega arith)

  module _ (good : (k : ℕ) → k < 16 → barred_name image from k ≡ false) where
    named : (k : ℕ) → k < 16 → (at image (from + k) ≡ 0 → ⊥) → (name_byte (at image (from + k)) ≡ true) × (ended image from k ≡ false)
    unfolding barred_name
    named k l z = chosen (name_byte (at image (from + k))) (rw (ne_eqb _ _ z) at (good k l))

    first : at image (from + 0) ≡ 0 → ⊥
    unfolding barred_name
    first z = true_false (rw (eq-eqb _ _ z) at (good 0 (omega arith)))

    pub good_field : NameField (listed 16 (λ (k : ℕ). at image (from + k)))
    unfolding Ends
    good_field = go (ends 16)
      where
        go : Ends 16 → NameField (listed 16 (λ (k : ℕ). at image (from + k)))
        go (m, l, h, e) = record {
          size = length-listed 16 _;
          name = m;
          some = positive m (λ z. first (ap (λ (x : ℕ). at image (from + x)) (sym z) ∙ e (omega arith)));
          few = l;
          bytes = λ k w. ap name_byte (at_listed 16 _ k (omega arith)) ∙ (named k (omega arith) (h k w)).0;
          zeros = λ k w v. at_listed 16 _ k v ∙ zeroed k w v (ℕ_discrete (at image (from + k)) 0) (ℕ_discrete k m);
        }
          where
            positive : (n : ℕ) → (n ≡ 0 → ⊥) → 0 < n
            positive n z = omega arith

            zeroed : (k : ℕ) → m ≤ k → k < 16 → Dec (at image (from + k) ≡ 0) → Dec (k ≡ m) → at image (from + k) ≡ 0
            zeroed k w v (yes z) d = z
            zeroed k w v (no z) (yes d) = ap (λ (x : ℕ). at image (from + x)) d ∙ e (omega arith)
            zeroed k w v (no z) (no d) =
                true_false (sym (ended_yes k m (omega arith) (e (omega arith))) ∙ (named k v z).1)

  module _ (field : List ℕ) (is : NameField field) (there : (k : ℕ) → k < 16 → at image (from + k) ≡ at field k) where
    pub field_good : (k : ℕ) → k < 16 → barred_name image from k ≡ false
    unfolding barred_name
    field_good k l = go (dec_lt k is.name)
      where
        nonzero : (j : ℕ) → j < is.name → at image (from + j) ≡ 0 → ⊥
        nonzero j w z = name_nonzero (at field j) (is.bytes j w) (sym (there j (omega (arith, is.few))) ∙ z)

        go : Dec (k < is.name) → barred_name image from k ≡ false
        go (yes w) =
            rw (ne_eqb _ _ (nonzero k w), ap name_byte (there k l) ∙ is.bytes k w)
            (ended_not k (λ j v. nonzero j (omega arith)))
        go (no w) =
            let n : is.name ≤ k = omega arith in
            rw (eq-eqb _ _ (there k l ∙ is.zeros k n l), ne_eqb k 0 (λ z. omega (arith, is.some)))

-- a name filled up with zeros is a name field
module _ (n : List ℕ) (positive : 0 < length n) (short : length n ≤ 16) (named : (k : ℕ) → k < length n → name_byte (at n k) ≡ true) where
  filling : List ℕ
  filling = replicate (16 - length n) 0

  pub filled_field : NameField (n ++ replicate (16 - length n) 0)
  unfolding filling
  filled_field = record {
    size = omega (arith, length-append n filling, length-replicate {A = ℕ} (16 - length n) 0);
    name = length n;
    some = positive;
    few = short;
    bytes = λ k l. ap name_byte (get_or-append n filling 0 k l) ∙ named k l;
    zeros = λ k l m.
        let e : length n + (k - length n) ≡ k = omega arith in
        ap (at (n ++ filling)) (sym e)
        ∙ get_or-append-add n filling (k - length n) 0
        ∙ get_or-replicate {A = ℕ} (16 - length n) (k - length n) 0 0 (omega arith);
  }
