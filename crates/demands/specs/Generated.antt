-- Generating as its caller sees it: what an accepted call has done, and when a call is refused. Document 01: "Order: way ..; upstream text (1, 2,
-- 3); target text; ..; 8; 9; 7 last."
use Rattle.std.specs.Prelude.{ℕ, ◌<◌, ◌≤◌, ◌≡◌, List, length, take, drop}
use Rattle.answers.specs.declared.Refusal.{Refusal}
use Rattle.shims.specs.declared.Models.{Models}
use Rattle.machine.specs.Counted.{ManySituations, ManyStates}
use Rattle.demands.specs.Opened.{Opened, up, on, OpeningRefused}
use Rattle.demands.specs.Images.{MinimalImage}

pub record GenerateDone (number : ℕ) (upstream target out : List ℕ) (written fences state : ℕ) (after : List ℕ) : Type 0 where
  pub models : Models
  pub opened : Opened number upstream target models
  pub image : MinimalImage models (take written after)
  pub no_fences : fences ≡ 0
  pub no_state : state ≡ 0
  pub size : length (take written after) ≡ written
  pub fits : written ≤ length out
  pub rest_kept : drop written after ≡ drop written out

-- the two models' machine is not too large, and its image exceeds the room
pub record ImageExceeds (m : Models) (room : ℕ) : Type 0 where
  pub few_situations : ManySituations m.way (up m) (on m) → ⊥
  pub few_states : ManyStates m.way (up m) (on m) → ⊥
  pub bytes : List ℕ
  pub image : MinimalImage m bytes
  pub exceeds : room < length bytes

pub data GenerateRefused (number : ℕ) (upstream target : List ℕ) (room : ℕ) : Refusal → Type 0 where
  opening : {why : Refusal} → OpeningRefused number upstream target why → GenerateRefused number upstream target room why
  situations : {m : Models} → Opened number upstream target m → ManySituations m.way (up m) (on m)
      → GenerateRefused number upstream target room Refusal.TooManySituations
  states : {m : Models} → Opened number upstream target m → (ManySituations m.way (up m) (on m) → ⊥) → ManyStates m.way (up m) (on m)
      → GenerateRefused number upstream target room Refusal.TooManyStates
  too_small : {m : Models} → Opened number upstream target m → ImageExceeds m room
      → GenerateRefused number upstream target room Refusal.BufferTooSmall
