-- Document 01: "Names are 1 to 16 ASCII letters, digits or underscores; letter case counts." The steps by which a text is followed over a
-- name and the byte after it. That they read it is proved in proofs/NamePart.
use Rattle.std.specs.Prelude.{ℕ, zero, suc, ◌+◌, ◌≤◌, ◌≡◌, cond, List, [], ◌∷◌, ◌++◌, T, eqb, ltb, length, get_or, drop, Ok, Err}
use Rattle.ground.specs.Bytes.{name_byte}
use Rattle.texts.specs.Step.{Step}
use Rattle.texts.specs.Language.{Language, shift}

-- each of a list is so
abbrev pub Each : {A : Type 0} → (A → Type 0) → List A → Type 0
Each P [] = Unit
Each P (x ∷ xs) = P x × Each P xs

abbrev pub NameBytes : List ℕ → Type 0
NameBytes n = Each (λ (b : ℕ). T (name_byte b)) n

pub record NameFormed (n : List ℕ) : Type 0 where
  pub some : 1 ≤ length n
  pub few : length n ≤ 16
  pub bytes : NameBytes n

-- the form of a name and the byte e after it
abbrev pub Ended : ℕ → Language
Ended e a = (n : List ℕ) × NameFormed n × (a ≡ n ++ (e ∷ []))

-- how many name bytes stand in front, counted up to a limit
unfoldable pub name_run : ℕ → List ℕ → ℕ
name_run zero s = 0
name_run (suc n) [] = 0
name_run (suc n) (b ∷ s) = cond (name_byte b) (suc (name_run n s)) 0

-- n name bytes have been counted: a name must have one, and the byte after it must be e
abbrev pub end_name : ℕ → List ℕ → ℕ → Step
end_name e s n =
    cond (eqb n 0) (Err 0)
    (cond (ltb n (length s)) (cond (eqb (get_or s n 0) e) (Ok (n + 1)) (Err n)) (Err n))

unfoldable pub name_step : ℕ → List ℕ → Step
name_step e s = end_name e s (name_run 16 s)

-- the same at a place of the whole text
abbrev pub name_at : ℕ → List ℕ → ℕ → Step
name_at e t at = shift at (name_step e (drop at t))
