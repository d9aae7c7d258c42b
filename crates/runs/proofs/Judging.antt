-- What a byte of a stream is by its judgement: an operation of the upstream model, or at fault, by the cases of what the byte is. Assumes nothing.
use Rattle.std.proofs.Common.{Option, Some, None}
use Prim.Native.Nat.{ℕ, ◌<◌, ◌≤◌}
use mathlib.Core.Path.{◌≡◌, refl, sym, ap, subst, ◌∙◌}
use mathlib.Core.Bool.{Bool, true, false, cond}
use borrow.Author.Tests.{ltb-true, ltb-false, lt-ltb, le-ltb}
use lib.Dec.{ltb}
use Rattle.ground.proofs.Truths.{differ}
use Rattle.answers.specs.declared.Refusal.{Refusal}
use Rattle.operations.specs.declared.Operation.{Operation}
use Rattle.operations.specs.Operation.{byte_is, byte_of}
use Rattle.operations.proofs.Bytes.{written_read}
use Rattle.runs.specs.Bytes.{good, bad, judged_as, judged}

-- an operation of an upstream model of n fences
abbrev pub OfN : ℕ → Operation → Type 0
OfN n (Operation.Access k) = Unit {0}
OfN n (Operation.Fence f) = f < n

pub good_is : (n at b : ℕ) (op : Operation) → judged n at b ≡ good op → (byte_is b ≡ Some op) × OfN n op
good_is n at b op e = look (byte_is b) refl
  where
    tested : (t : Bool) (f : ℕ) → ltb f n ≡ t → byte_is b ≡ Some (Operation.Fence f)
        → cond t (good (Operation.Fence f)) (bad (Refusal.NoSuchFence at)) ≡ good op → (byte_is b ≡ Some op) × OfN n op
    tested true f l h z =
        let m : Operation.Fence f ≡ op = cc in
        (h ∙ ap (λ (x : Operation). Some x) m, subst (OfN n) m (ltb-true f n l))
    tested false f l h z = differ (cc)

    look : (x : Option Operation) → byte_is b ≡ x → (byte_is b ≡ Some op) × OfN n op
    look None h =
        let z : bad (Refusal.NoOperation at) ≡ good op = sym (ap (judged_as n at) h) ∙ e in
        differ (cc)
    look (Some (Operation.Access k)) h =
        let z : good (Operation.Access k) ≡ good op = sym (ap (judged_as n at) h) ∙ e in
        let m : Operation.Access k ≡ op = cc in
        (h ∙ ap (λ (x : Operation). Some x) m, subst (OfN n) m tt)
    look (Some (Operation.Fence f)) h = tested (ltb f n) f refl h (sym (ap (judged_as n at) h) ∙ e)

pub is_good : (n at b : ℕ) (op : Operation) → byte_is b ≡ Some op → OfN n op → judged n at b ≡ good op
is_good n at b (Operation.Access k) e h = ap (judged_as n at) e
is_good n at b (Operation.Fence f) e h =
    ap (judged_as n at) e ∙ ap (λ (t : Bool). cond t (good (Operation.Fence f)) (bad (Refusal.NoSuchFence at))) (lt-ltb f n h)

-- a byte at fault: it is no operation, or a fence that the upstream model has not
pub data AtFault (n at b : ℕ) : Refusal → Type 0 where
  no_operation : byte_is b ≡ None → AtFault n at b (Refusal.NoOperation at)
  no_such_fence : (f : ℕ) → byte_is b ≡ Some (Operation.Fence f) → n ≤ f → AtFault n at b (Refusal.NoSuchFence at)

pub bad_is : (n at b : ℕ) (why : Refusal) → judged n at b ≡ bad why → AtFault n at b why
bad_is n at b why e = look (byte_is b) refl
  where
    tested : (t : Bool) (f : ℕ) → ltb f n ≡ t → byte_is b ≡ Some (Operation.Fence f)
        → cond t (good (Operation.Fence f)) (bad (Refusal.NoSuchFence at)) ≡ bad why → AtFault n at b why
    tested true f l h z = differ (cc)
    tested false f l h z =
        let m : Refusal.NoSuchFence at ≡ why = cc in
        subst (AtFault n at b) m (no_such_fence f h (ltb-false f n l))

    look : (x : Option Operation) → byte_is b ≡ x → AtFault n at b why
    look None h =
        let z : bad (Refusal.NoOperation at) ≡ bad why = sym (ap (judged_as n at) h) ∙ e in
        let m : Refusal.NoOperation at ≡ why = cc in
        subst (AtFault n at b) m (no_operation h)
    look (Some (Operation.Access k)) h =
        let z : good (Operation.Access k) ≡ bad why = sym (ap (judged_as n at) h) ∙ e in
        differ (cc)
    look (Some (Operation.Fence f)) h = tested (ltb f n) f refl h (sym (ap (judged_as n at) h) ∙ e)

pub is_bad : (n at b : ℕ) {why : Refusal} → AtFault n at b why → judged n at b ≡ bad why
is_bad n at b (no_operation e) = ap (judged_as n at) e
is_bad n at b (no_such_fence f e l) =
    ap (judged_as n at) e ∙ ap (λ (t : Bool). cond t (good (Operation.Fence f)) (bad (Refusal.NoSuchFence at))) (le-ltb f n l)

-- so it is the byte of that operation
pub good_byte : (n at b : ℕ) (op : Operation) → judged n at b ≡ good op → byte_of op ≡ b
good_byte n at b op e = written_read b op (good_is n at b op e).0
