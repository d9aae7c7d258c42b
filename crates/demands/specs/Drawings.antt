-- Drawings as the callers of the two calls see them. Document 02, W1: "They correct names in these files, so read back exactly our form, under demand
-- 2's round trip. Refusals: 2 for other text, 1 above 262,144 bytes." An image that is drawn is refused as every image is (1, 10, 11), and 7 is
-- last.
use Rattle.std.specs.Prelude.{ℕ, ◌+◌, ◌<◌, ◌≤◌, ◌≡◌, ◌⊎◌, List, ◌++◌, length, take, drop, Ok}
use Rattle.ground.specs.Bytes as ground
use Rattle.ground.specs.Bytes.{at}
use Rattle.answers.specs.declared.Refusal.{Refusal}
use Rattle.answers.specs.Answer.{Verdict}
use Rattle.texts.specs.Language.{Language, Longest}
use Rattle.layout.specs.Verdict.{verdict_of}
use Rattle.image.specs.Image.{header_of, rows_of}
use Rattle.drawing.specs.Drawing.{drawing_of}
use Rattle.demands.specs.ImageCalls.{ImageRefused}

-- the text is the drawing of an image that reads
pub record DrawnAs (image text : List ℕ) : Type 0 where
  pub bytes : (k : ℕ) → at image k < 256
  pub accepted : verdict_of image ≡ Ok tt
  pub text_is : text ≡ drawing_of (header_of image) (rows_of image)

-- the form of a text that is read back: the drawing of some image that reads
abbrev pub Drawing : Language
Drawing text = (image : List ℕ) × DrawnAs image text

-- an image was drawn: its drawing stands at the front of the buffer
pub record DrawDone (image out : List ℕ) (written fences state : ℕ) (after : List ℕ) : Type 0 where
  pub drawn : DrawnAs image (take written after)
  pub no_fences : fences ≡ 0
  pub no_state : state ≡ 0
  pub size : length (take written after) ≡ written
  pub fits : written ≤ length out
  pub rest_kept : drop written after ≡ drop written out

-- a drawing was read: the image that it is the drawing of stands at the front of the buffer
pub record UndrawDone (text out : List ℕ) (written fences state : ℕ) (after : List ℕ) : Type 0 where
  pub drawn : DrawnAs (take written after) text
  pub no_fences : fences ≡ 0
  pub no_state : state ≡ 0
  pub size : length (take written after) ≡ written
  pub fits : written ≤ length out
  pub rest_kept : drop written after ≡ drop written out

-- an image that is drawn, where the buffer has this room
pub data DrawRefused (image : List ℕ) (room : ℕ) : Refusal → Type 0 where
  image_refused : {why : Refusal} → ImageRefused image why → DrawRefused image room why
  too_small : verdict_of image ≡ Ok tt → room < length (drawing_of (header_of image) (rows_of image))
      → DrawRefused image room Refusal.BufferTooSmall

-- a text that is read back, where the buffer has this room
pub data UndrawRefused (text : List ℕ) (room : ℕ) : Refusal → Type 0 where
  over_limit : 262144 < length text → UndrawRefused text room Refusal.OverLimit
  not_of_the_form : (k : ℕ) → length text ≤ 262144 → (Drawing text → ⊥) → Longest Drawing text k
      → UndrawRefused text room (Refusal.NotOfTheForm k)
  too_small : {image : List ℕ} → length text ≤ 262144 → DrawnAs image text → room < length image
      → UndrawRefused text room Refusal.BufferTooSmall

-- a text with two names where a drawing has them, and what stands behind them
abbrev pub with_names : List ℕ → List ℕ → List ℕ → List ℕ
with_names upstream target rest =
    ground.bytes "digraph shim {\nlabel=\"" ++ (upstream ++ (ground.bytes " " ++ (target ++ (ground.bytes " " ++ rest))))

-- the bytes of an image that other names leave as they are: all but the names, at 7 to 38, and block 0's check, at 510 and 511
abbrev pub Kept : ℕ → Type 0
Kept k = (k < 7) ⊎ (((39 ≤ k) × (k < 510)) ⊎ (512 ≤ k))

-- An image that has these names, and else is the other: the names stand at 7 to 22 and 23 to 38, zero-filled, block 0's check at 510 and 511, which
-- is right, since the image reads.
pub record Renamed (upstream target image other : List ℕ) : Type 0 where
  pub accepted : verdict_of image ≡ Ok tt
  pub size : length image ≡ length other
  pub upstream_is : (k : ℕ) → k < 16 → at image (7 + k) ≡ at upstream k
  pub target_is : (k : ℕ) → k < 16 → at image (23 + k) ≡ at target k
  pub kept : (k : ℕ) → Kept k → at image k ≡ at other k
  -- for readers, it follows from `kept`: what the two machines answer
  pub rows_kept : rows_of image ≡ rows_of other
