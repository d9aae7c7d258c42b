-- How a call goes that opens with a number and two texts: the opening's refusal is the call's, and otherwise it goes on with the models. These laws
-- are for the calls' own proofs and for the proofs that they have one answer. Assumes nothing.
use Rattle.std.proofs.Common.{Ok, Err}
use Prim.Native.Nat.{ℕ}
use mathlib.Core.Path.{◌≡◌, refl, sym, ap, subst, ◌∙◌}
use mathlib.Core.List.{List}
use Rattle.ground.proofs.Truths.{differ}
use Rattle.answers.specs.declared.Refusal.{Refusal}
use Rattle.answers.specs.Answer.{Answer}
use Rattle.answers.specs.Given.{Given, gives, refuses, Delivers, Answers}
use Rattle.answers.proofs.Given.{refusal_delivered, answers_by}
use Rattle.shims.specs.declared.Models.{Models}
use Rattle.shims.specs.Opening.{Opening, opening, refusing, on_opened, GivenOnOpened}

-- where what is given is a function of the models
module _ {o : Opening} (more : Models → Given) where
  pub opening_refused : {why : Refusal} {out : List ℕ} {a : Answer} → o ≡ refusing why → a ≡ Err why → Delivers (on_opened o more) out a out
  opening_refused {out = out} e told = refusal_delivered out (ap (λ (x : Opening). on_opened x more) e) told

  pub opening_accepted : {models : Models} {out after : List ℕ} {r : Answer} → o ≡ opening models → Delivers (more models) out r after
      → Delivers (on_opened o more) out r after
  opening_accepted {out = out} {after = after} {r = r} e d = subst (λ (x : Opening). Delivers (on_opened x more) out r after) (sym e) d

-- where it is told by a property
module _ {o : Opening} (More : Models → Given → Type 0) where
  pub given_refused : {why : Refusal} {out : List ℕ} {a : Answer} → o ≡ refusing why → a ≡ Err why → Answers (GivenOnOpened o More) out a out
  given_refused {why} {out} e told = record {
    given = refuses why;
    right = subst (λ (x : Opening). GivenOnOpened x More (refuses why)) (sym e) refl;
    delivered = refusal_delivered out refl told;
  }

  pub given_accepted : {models : Models} {out after : List ℕ} {r : Answer} → o ≡ opening models → Answers (More models) out r after
      → Answers (GivenOnOpened o More) out r after
  given_accepted e a = answers_by (λ g h. subst (λ (x : Opening). GivenOnOpened x More g) (sym e) h) a

-- a call that gives bytes has opened, and gives them for the models
pub given_opened : (o : Opening) (More : Models → Given → Type 0) (bytes : List ℕ) (fences state : ℕ)
    → GivenOnOpened o More (gives bytes fences state) → (models : Models) × (o ≡ opening models) × More models (gives bytes fences state)
given_opened (Ok models) More bytes fences state h = (models, refl, h)
given_opened (Err why) More bytes fences state h = differ (cc)

-- One thing alone is given, where one thing alone is given for the models.
pub given_one : (o : Opening) (More : Models → Given → Type 0) → ((m : Models) (g h : Given) → More m g → More m h → g ≡ h)
    → (g h : Given) → GivenOnOpened o More g → GivenOnOpened o More h → g ≡ h
given_one (Ok models) More one g h a b = one models g h a b
given_one (Err why) More one g h a b = a ∙ sym b
