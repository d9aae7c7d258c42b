-- Laws of what a call has to give: a refusal is delivered by leaving the buffer alone, and what is delivered is determined. Assumes nothing.
use Rattle.std.proofs.Common.{Err}
use Prim.Native.Nat.{ℕ}
use mathlib.Core.Path.{◌≡◌, refl, sym, ap, subst, ◌∙◌}
use mathlib.Core.List.{List}
use lib.ListN.{length}
use Rattle.answers.specs.declared.Refusal.{Refusal}
use Rattle.answers.specs.Answer.{Answer}
use Rattle.answers.specs.Given.{Given, refuses, answer_of, buffer_of, Delivers, Answers}

pub delivers_refusal : (out : List ℕ) {why : Refusal} → Delivers (refuses why) out (Err why) out
delivers_refusal out = record { answer = refl; buffer = refl }

-- the same of a refusal that is given, told by an answer
pub refusal_delivered : (out : List ℕ) {g : Given} {why : Refusal} {a : Answer} → g ≡ refuses why → a ≡ Err why → Delivers g out a out
refusal_delivered out e told = record {
  answer = told ∙ sym (ap (λ (x : Given). answer_of x (length out)) e);
  buffer = sym (ap (λ (x : Given). buffer_of x out) e);
}

-- the same under another description
pub delivers_as : {g h : Given} {out after : List ℕ} {r : Answer} → g ≡ h → Delivers g out r after → Delivers h out r after
delivers_as {out = out} {after = after} {r = r} e d = subst (λ (x : Given). Delivers x out r after) e d

-- one answer and one final buffer
pub delivers_one : {g h : Given} {out after after' : List ℕ} {r r' : Answer} → g ≡ h → Delivers g out r after → Delivers h out r' after'
    → (r ≡ r') × (after ≡ after')
delivers_one {out = out} e a b = (
  a.answer ∙ ap (λ (x : Given). answer_of x (length out)) e ∙ sym b.answer,
  a.buffer ∙ ap (λ (x : Given). buffer_of x out) e ∙ sym b.buffer,
)

pub answers_refusal : (Right : Given → Type 0) (out : List ℕ) {why : Refusal} → Right (refuses why) → Answers Right out (Err why) out
answers_refusal Right out {why} h = record { given = refuses why; right = h; delivered = delivers_refusal out }

-- what is right by one property is right by another that follows from it
pub answers_by : {P Q : Given → Type 0} {out after : List ℕ} {r : Answer} → ((g : Given) → P g → Q g) → Answers P out r after → Answers Q out r after
answers_by f a = record { given = a.given; right = f a.given a.right; delivered = a.delivered }

-- where one thing alone is right, a call has one answer and one final buffer
pub answers_one : {Right : Given → Type 0} → ((g h : Given) → Right g → Right h → g ≡ h) → {out after after' : List ℕ} {r r' : Answer}
    → Answers Right out r after → Answers Right out r' after' → (r ≡ r') × (after ≡ after')
answers_one one a b = delivers_one (one a.given b.given a.right b.right) a.delivered b.delivered
