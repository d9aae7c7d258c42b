-- Document 02, W1: "They correct names in these files, so read back exactly our form, under demand 2's round trip. Refusals: 2 for other text, 1
-- above 262,144 bytes." 2 has the place that 01 gives it for every text: the "length of its longest beginning that begins some text of the
-- form". Then comes 7.
use Rattle.std.specs.Prelude.{ℕ, ◌<◌, ◌≤◌, ◌≡◌, List, length}
use Rattle.answers.specs.declared.Refusal.{Refusal}
use Rattle.answers.specs.Given.{Given, gives, refuses}
use Rattle.texts.specs.Language.{Language, Longest}
use Rattle.image.specs.declared.machine.Header.{Header}
use Rattle.image.specs.Image.{image_of, Canonical}
use Rattle.drawing.specs.Drawing.{drawing_of}

-- the limit of a drawing's length
abbrev pub limit : ℕ
limit = 262144

-- the form: the drawing of a machine of the layout
abbrev pub Drawing : Language
Drawing t = (h : Header) × (rows : List ℕ) × Canonical h rows × (t ≡ drawing_of h rows)

-- what reading a text comes to
pub data Undrawn (t : List ℕ) : Given → Type 0 where
  over : limit < length t → Undrawn t (refuses Refusal.OverLimit)
  departs : {k : ℕ} → length t ≤ limit → (Drawing t → ⊥) → Longest Drawing t k → Undrawn t (refuses (Refusal.NotOfTheForm k))
  undrawn : {h : Header} {rows : List ℕ} → length t ≤ limit → Canonical h rows → t ≡ drawing_of h rows → Undrawn t (gives (image_of h rows) 0 0)
