-- Names as they are held: two are the same where their bytes are, and the zeros behind them add nothing. Assumes nothing.
use Prim.Native.Nat.{ℕ, zero, suc, ◌-◌, ◌<◌}
use mathlib.Core.Path.{◌≡◌, refl, sym, ap₂, subst}
use mathlib.Core.Bool.{Bool, true, false, ◌||◌}
use mathlib.Core.List.{List, [], ◌∷◌, ◌++◌, map}
use native.Mathlib.Omega.{arith}
use native.Mathlib.Nat.{le_of_suc-le-suc}
use lib.Dec.{T}
use lib.ListN.{length, get_or, replicate}
use Rattle.ground.proofs.Sameness.{same_is, same_own}
use Rattle.ground.proofs.Truths.{differ, is_true, holds}
use Rattle.ground.specs.Bytes.{name_byte, same_bytes}
use Rattle.models.specs.declared.model.Name.{Name}
use Rattle.models.specs.Model.{Fence, FenceFormed}
use Rattle.texts.specs.NamePart.{Each, NameBytes}
use Rattle.models.specs.Told.{filled, held_name}
use Rattle.models.specs.inner.Progress.{among}

-- a name without the zeros behind it
strip : (a b : List ℕ) (p q : ℕ) → NameBytes a → NameBytes b → a ++ replicate p 0 ≡ b ++ replicate q 0 → a ≡ b
strip [] [] p q ha hb e = refl
strip [] (y ∷ b) zero q ha hb e = differ (cc)
strip [] (y ∷ b) (suc p) q ha hb e = let z : 0 ≡ y = cc in absurd (subst (λ (c : ℕ). T (name_byte c)) (sym z) hb.0)
strip (x ∷ a) [] p zero ha hb e = differ (cc)
strip (x ∷ a) [] p (suc q) ha hb e = let z : 0 ≡ x = cc in absurd (subst (λ (c : ℕ). T (name_byte c)) (sym z) ha.0)
strip (x ∷ a) (y ∷ b) p q ha hb e =
    let h : x ≡ y = cc in
    let t : a ++ replicate p 0 ≡ b ++ replicate q 0 = cc in
    ap₂ (λ (z : ℕ) (l : List ℕ). z ∷ l) h (strip a b p q ha.1 hb.1 t)

-- a name that stands among others, and one that does not
abbrev pub held_names : List Fence → List Name
held_names = map held_name

module _ (n : List ℕ) (hn : NameBytes n) (d : Fence) where
  -- the fence's name is the one that is looked for
  same_name : Fence → Bool
  same_name f = same_bytes (filled f.name).bytes (filled n).bytes

  -- it stands among the fences' names
  abbrev pub Stands : List Fence → Type 0
  Stands fs = (i : ℕ) × (i < length fs) × ((get_or fs i d).name ≡ n)

  name_is : (f : Fence) → FenceFormed f → T (same_name f) → f.name ≡ n
  unfolding same_name
  name_is f h t =
      strip f.name n (16 - length f.name) (16 - length n) h.name.bytes hn
      (same_is (filled f.name).bytes (filled n).bytes (is_true (same_name f) t))

  is_name : (f : Fence) → f.name ≡ n → T (same_name f)
  unfolding same_name
  is_name f is =
      subst (λ (m : List ℕ). T (same_bytes (filled m).bytes (filled n).bytes)) (sym is)
      (holds (same_bytes (filled n).bytes (filled n).bytes) (same_own (filled n).bytes))

  pub among_found : (fs : List Fence) → Each FenceFormed fs → among (filled n) (held_names fs) ≡ true → Stands fs
  unfolding same_name
  among_found [] h e = differ (cc)
  among_found (f ∷ fs) h e = by (same_name f) (λ t. t) e (λ rest. among_found fs h.1 rest)
    where
      by : (q : Bool) → (T q → T (same_name f)) → q || among (filled n) (held_names fs) ≡ true
          → (among (filled n) (held_names fs) ≡ true → Stands fs) → Stands (f ∷ fs)
      by true to e rest = (0, omega arith, name_is f h.0 (to tt))
      by false to e rest =
          let r = rest e in
          (suc r.0, omega (arith, r.1), r.2)

  pub among_none : (fs : List Fence) → among (filled n) (held_names fs) ≡ false → Stands fs → ⊥
  unfolding same_name
  among_none [] e (i, l, is) = omega arith
  among_none (f ∷ fs) e x = by x (same_name f) (λ t. t) e (among_none fs)
    where
      by : Stands (f ∷ fs) → (q : Bool) → (T (same_name f) → T q) → q || among (filled n) (held_names fs) ≡ false
          → (among (filled n) (held_names fs) ≡ false → Stands fs → ⊥) → ⊥
      by x true to e rest = differ (cc)
      by (zero, l, is) false to e rest = to (is_name f is)
      by (suc i, l, is) false to e rest = rest e (i, le_of_suc-le-suc l, is)
