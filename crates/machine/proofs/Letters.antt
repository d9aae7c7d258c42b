-- What the letters of the rule's machine get. Assumes nothing.
use Prim.Native.Nat.{ℕ, ◌≤◌, ◌<◌}
use mathlib.Core.Path.{◌≡◌, refl, sym, ◌∙◌, ap}
use mathlib.Core.Logic.{◌⊎◌, inl, inr}
use mathlib.Core.Bool.{Bool, true, false}
use mathlib.Core.List.{List}
use native.Mathlib.Omega.{arith}
use native.Mathlib.Decide.{dec_lt}
use borrow.Author.Tests.{lt-ltb, le-ltb}
use lib.ListN.{length}
use Rattle.tables.specs.declared.table.Table.{Table}
use Rattle.tables.specs.Table.{at_least}
use Rattle.operations.specs.Alphabet.{kind_of}
use Rattle.rule.specs.declared.situation.Situation.{Situation}
use Rattle.rule.specs.declared.way.Way.{Way}
use Rattle.rule.specs.declared.way.Choice.{Choice}
use Rattle.rule.specs.Pairs.{Model}
use Rattle.rule.specs.Situation.{none, pending, choice_of, step_of, serves}
use Rattle.rule.proofs.Choices.{choice_nothing, choice_pick, pick_takes}
use Rattle.rule.specs.Rule.{Takes}
use Rattle.mealy.specs.Runs.{Answer, taken}
use Rattle.mealy.proofs.Runs.{untaken}
use Rattle.machine.specs.Shim.{letters_of, step_answer, letter_answer, shim}
use Rattle.machine.specs.inner.Explore.{Output}

pub shim_step : (way : Way) (up target : Model) (s : Situation) (a : ℕ) → a < letters_of up
    → (shim way up target).step s a ≡ letter_answer way up target s a
shim_step way up target s a h = rw (lt-ltb a (letters_of up) h)

-- a fence that is chosen is one of the fences
takes_low : (way : Way) (f : ℕ → Bool) (n g : ℕ) → Takes way f n g → g < n
takes_low Way.Sparing f n g h = h.0
takes_low Way.Full f n g h = omega (arith, h.0)

pub choice_low : (way : Way) (fences : List ℕ) (p : Table) (g : ℕ) → choice_of way fences p ≡ Choice.Fence g → g < length fences
choice_low way fences p g e = look (at_least none p) refl
  where
    look : (b : Bool) → at_least none p ≡ b → g < length fences
    look true h =
        let n : Choice.Nothing ≡ Choice.Fence g = sym (choice_nothing way fences p h) ∙ e in
        let z : ◌≡◌ {A = ℕ} 0 1 = cc in
        omega arith
    look false h =
        let takes = pick_takes (serves fences p) way (length fences) g (sym (choice_pick way fences p h) ∙ e) in takes_low way _ _ g takes

-- an output is the number of one of the fences, or none
pub letter_fence : (way : Way) (up target : Model) (s : Situation) (a o : ℕ) (t : Situation) → letter_answer way up target s a ≡ taken o t
    → (o < length target.fences) ⊎ (o ≡ 255)
letter_fence way up target s a o t e = look (dec_lt a 4)
  where
    at : (c : Choice) → choice_of way target.fences (pending (kind_of a) s) ≡ c
        → step_answer (step_of up.ppo target s (kind_of a) c) ≡ taken o t → (o < length target.fences) ⊎ (o ≡ 255)
    at Choice.Nothing h f = inr (cc)
    at (Choice.Fence g) h f =
        let one : g ≡ o = cc in
        inl (rw one at (choice_low way target.fences (pending (kind_of a) s) g h))
    at Choice.Refused h f = absurd (untaken f)

    look : Dec (a < 4) → (o < length target.fences) ⊎ (o ≡ 255)
    look (yes h) = at (choice_of way target.fences (pending (kind_of a) s)) refl (rw (lt-ltb a 4 h) at e)
    look (no h) = let f : taken 255 _ ≡ taken o t = rw (le-ltb a 4 (omega arith)) at e in inr (cc)

-- of sixteen fences at most
pub letter_output : (way : Way) (up target : Model) (s : Situation) (a o : ℕ) (t : Situation) → length target.fences ≤ 16
    → letter_answer way up target s a ≡ taken o t → Output o
letter_output way up target s a o t few e = look (letter_fence way up target s a o t e)
  where
    look : (o < length target.fences) ⊎ (o ≡ 255) → Output o
    look (inl h) = inl (omega arith)
    look (inr h) = inr h

-- an answer to a letter is the machine's step
pub answered_step : (way : Way) (up target : Model) {s z : Situation} {a : ℕ} {y : Answer ℕ Situation} → a < letters_of up → s ≡ z
    → letter_answer way up target s a ≡ y → (shim way up target).step z a ≡ y
answered_step way up target {s} {z} {a} h e f =
    shim_step way up target z a h ∙ ap (λ (t : Situation). letter_answer way up target t a) (sym e) ∙ f
