-- Document 01: "Each model has exactly one text." Reading what was written gives the model again, and writing what was read gives the text
-- again. Assumes nothing.
use Prim.Native.Nat.{ℕ, zero, suc, ◌-◌}
use mathlib.Core.Path.{◌≡◌, refl, sym, ap, ap₂, ◌∙◌, subst}
use mathlib.Core.Bool.{Bool, cond}
use mathlib.Core.List.{List, [], ◌∷◌, ◌++◌, map}
use native.Mathlib.Omega.{arith}
use borrow.Author.Tests.{ne_eqb}
use lib.Dec.{T}
use lib.ListN.{length, replicate}
use Rattle.ground.specs.Bytes.{name_byte}
use Rattle.ground.proofs.Truths.{differ}
use Rattle.answers.specs.declared.Refusal.{Refusal}
use Rattle.printing.specs.Name.{unfilled}
use Rattle.models.specs.declared.model.Name.{Name}
use Rattle.models.specs.declared.model.Model.{Model}
use Rattle.models.specs.Told.{Reading, held, accepting, refusing, Distinct, Told, over, departs, repeated, accepted, packed_of, held_name}
use Rattle.models.specs.Model.{Fence, Description, FenceFormed, Formed}
use Rattle.models.specs.Text.{text_of}
use Rattle.models.specs.Reading.{reading}
use Rattle.writing.specs.Writing.{fences_of, described}
use Rattle.models.proofs.Words.{told, told_is}
use Rattle.texts.specs.NamePart.{Each, NameBytes}
use Rattle.writing.proofs.Short.{text_short}

-- no name byte is zero
unfilled_name : (n : List ℕ) (k : ℕ) → NameBytes n → unfilled (n ++ replicate k 0) ≡ n
unfolding unfilled
unfilled_name [] zero h = refl
unfilled_name [] (suc k) h = refl
unfilled_name (b ∷ n) k h =
    ap (λ (q : Bool). cond q [] (b ∷ unfilled (n ++ replicate k 0))) (ne_eqb b 0 (λ z. subst (λ (x : ℕ). T (name_byte x)) z h.0))
    ∙ ap (λ (l : List ℕ). b ∷ l) (unfilled_name n k h.1)

fences_again : (fs : List Fence) (names : List Name) (tables : List ℕ) → Each FenceFormed fs
    → fences_of (length fs) (map held_name fs ++ names) (map packed_of fs ++ tables) ≡ fs
unfolding fences_of
fences_again [] names tables h = refl
fences_again (f ∷ fs) names tables h =
    ap₂ (λ (n : List ℕ) (l : List Fence). record { name = n; table = f.table } ∷ l)
    (unfilled_name f.name (16 - length f.name) h.0.name.bytes)
    (fences_again fs names tables h.1)

-- what is held is the model
pub described_held : (d : Description) → Formed d → described (held d) ≡ d
described_held d h =
    ap₂ (λ (n : List ℕ) (fs : List Fence). record { name = n; ppo = d.ppo; fences = fs })
    (unfilled_name d.name (16 - length d.name) h.name.bytes) (fences_again d.fences _ _ h.each)

-- reading what was written
pub read_written : (d : Description) → Formed d → Distinct d → reading (text_of d) ≡ accepting (held d)
read_written d h alone = sym (told_is (accepted d (omega (arith, text_short d h)) h refl alone))

-- writing what was read: an accepted text is that of a model whose fences' names differ
pub written_read : (t : List ℕ) (m : Model) → reading t ≡ accepting m → text_of (described m) ≡ t
written_read t m e = by (told t) e
  where
    wrong : (why : Refusal) → refusing why ≡ accepting m → text_of (described m) ≡ t
    wrong why z = differ (cc)

    by : {r : Reading} → Told t r → r ≡ accepting m → text_of (described m) ≡ t
    by (over l) z = wrong Refusal.OverLimit z
    by (departs {k = k} l none h) z = wrong (Refusal.NotOfTheForm k) z
    by (repeated d k l h is r) z = wrong _ z
    by (accepted d l h is alone) z =
        let same : held d ≡ m = cc in
        ap (λ (x : Model). text_of (described x)) (sym same) ∙ ap text_of (described_held d h) ∙ sym is

-- two models with one text are one model
pub text_one : (c d : Description) → Formed c → Formed d → Distinct c → Distinct d → text_of c ≡ text_of d → c ≡ d
text_one c d hc hd ac ad e =
    let told : accepting (held c) ≡ accepting (held d) = sym (read_written c hc ac) ∙ ap reading e ∙ read_written d hd ad in
    let same : held c ≡ held d = cc in
    sym (described_held c hc) ∙ ap described same ∙ described_held d hd
