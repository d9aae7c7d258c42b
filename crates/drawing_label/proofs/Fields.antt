-- A name in its field: name bytes are no zeros, so the name is what stands there before the first zero. Assumes nothing.
use Prim.Native.Nat.{ℕ, zero, suc, ◌+◌, ◌-◌, ◌≤◌, ◌<◌, suc-le-suc}
use mathlib.Core.Path.{◌≡◌, refl, sym, ap, ap₂, subst, ◌∙◌}
use mathlib.Core.Bool.{Bool, true, false, cond}
use mathlib.Core.List.{List, [], ◌∷◌, ◌++◌}
use native.Mathlib.Omega.{arith}
use borrow.Author.Tests.{ne_eqb}
use lib.Dec.{T}
use lib.ListN.{length, take, drop, get_or, replicate, length-drop, length-replicate, get_or-replicate, take-append-drop}
use lib.Seq.{length-take-le, get_or-drop, get_or-take, ext_get_or}
use Rattle.std.specs.Prelude.{take_while}
use Rattle.std.proofs.lemmas.List.{drop-replicate}
use Rattle.std.proofs.lemmas.List.Sums.{take_while-cons}
use Rattle.ground.specs.Bytes.{name_byte}
use Rattle.ground.proofs.Truths.{is_true, holds}
use Rattle.texts.specs.NamePart.{NameBytes, NameFormed, name_run}
use Rattle.texts.proofs.NamePart.{each_at, run_bytes, run_within}
use Rattle.printing.specs.Name.{unfilled}
use Rattle.image.specs.Image.{NameField}
use Rattle.image.proofs.NameFields.{filled_field}
use Rattle.drawing_label.specs.Label.{name_in, name_from, field}

-- all the bytes of a name that were counted
field_done : (s : List ℕ) (i : ℕ) → i ≤ length s → i ≡ name_run 16 s → take i s ++ replicate (16 - i) 0 ≡ field (name_in s)
field_done s i ls e =
    ap₂ (λ (l : List ℕ) (n : ℕ). l ++ replicate (16 - n) 0) (ap (λ (k : ℕ). take k s) e)
    (sym (length-take-le i s ls) ∙ ap (λ (k : ℕ). length (take k s)) e)

-- which a chain counts
run_taken : (k : ℕ) (s : List ℕ) → length (take_while name_byte (take k s)) ≡ name_run k s
unfolding name_run
run_taken zero s = refl
run_taken (suc k) [] = refl
run_taken (suc k) (b ∷ s) = ap length (take_while-cons name_byte b (take k s)) ∙ by (name_byte b) (run_taken k s)
  where
    by : (q : Bool) → length (take_while name_byte (take k s)) ≡ name_run k s
        → length (cond q (b ∷ take_while name_byte (take k s)) []) ≡ cond q (suc (name_run k s)) 0
    by true e = ap suc e
    by false e = refl

pub field_counted : (s : List ℕ) (n : ℕ) → n ≡ length (take_while name_byte (take 16 s)) → take n s ++ drop n (replicate 16 0) ≡ field (name_in s)
field_counted s n e =
    let all : n ≡ name_run 16 s = e ∙ run_taken 16 s in
    ap (λ (x : List ℕ). take n s ++ x) (drop-replicate n 16 0) ∙ field_done s n (omega (arith, all, run_within s)) all

-- a name is what stands before the zeros
unfilled_front : (n : List ℕ) (p : ℕ) → NameBytes n → unfilled (n ++ replicate p 0) ≡ n
unfolding unfilled
unfilled_front [] zero h = refl
unfilled_front [] (suc p) h = refl
unfilled_front (b ∷ n) p h = rw (ne_eqb b 0 not_zero) (ap (λ (l : List ℕ). b ∷ l) (unfilled_front n p h.1))
  where
    not_zero : b ≡ 0 → ⊥
    not_zero z = subst (λ (c : ℕ). T (name_byte c)) z h.0

pub unfilled_from : (t : List ℕ) (i : ℕ) → unfilled (field (name_from t i)) ≡ name_from t i
unfilled_from t i = unfilled_front (name_from t i) (16 - length (name_from t i)) (run_bytes (drop i t))

-- the field of a name, and its name
module _ (n : List ℕ) (f : NameFormed n) where
  pub field_formed : NameField (field n)
  field_formed =
      filled_field n f.some f.few λ k l. is_true (name_byte (get_or n k 0)) (each_at (λ (b : ℕ). T (name_byte b)) n 0 f.bytes k l)

  pub field_name : unfilled (field n) ≡ n
  field_name = unfilled_front n (16 - length n) f.bytes

each_from : (l : List ℕ) → ((k : ℕ) → k < length l → T (name_byte (get_or l k 0))) → NameBytes l
each_from [] h = tt
each_from (b ∷ l) h = (h 0 (omega arith), each_from l (λ k m. h (suc k) (suc-le-suc m)))

-- and the name of a field, and its field
module _ (x : List ℕ) (f : NameField x) where
  name : List ℕ
  name = take f.name x

  long : length name ≡ f.name
  unfolding name
  long = length-take-le f.name x (omega (arith, f.size, f.few))

  formed : NameFormed name
  unfolding name
  formed = record {
    some = omega (arith, long, f.some);
    few = omega (arith, long, f.few);
    bytes = each_from (take f.name x) λ k l.
        let m : k < f.name = omega (arith, long, l) in
        holds (name_byte (get_or (take f.name x) k 0)) (ap name_byte (get_or-take f.name x k 0 m) ∙ f.bytes k m);
  }

  back : field name ≡ x
  unfolding name
  back =
      ap (λ (k : ℕ). take f.name x ++ replicate (16 - k) 0) long
      ∙ ap (λ (l : List ℕ). take f.name x ++ l) (sym behind)
      ∙ take-append-drop f.name x
    where
      many : length (drop f.name x) ≡ 16 - f.name
      many = omega (arith, length-drop f.name x, f.size)

      behind : drop f.name x ≡ replicate (16 - f.name) 0
      behind =
          ext_get_or 0 (drop f.name x) (replicate (16 - f.name) 0) (many ∙ sym (length-replicate {A = ℕ} (16 - f.name) 0)) λ i l.
          get_or-drop f.name x i 0
          ∙ f.zeros (f.name + i) (omega arith) (omega (arith, many, l, f.few))
          ∙ sym (get_or-replicate {A = ℕ} (16 - f.name) i 0 0 (omega (arith, many, l)))

  is_name : unfilled x ≡ name
  is_name = sym (ap unfilled back) ∙ field_name name formed

  pub name_formed : NameFormed (unfilled x)
  name_formed = subst NameFormed (sym is_name) formed

  pub name_field : field (unfilled x) ≡ x
  name_field = ap field is_name ∙ back
