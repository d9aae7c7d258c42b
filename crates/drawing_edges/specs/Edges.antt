-- An edge of a drawing as a part of its text: it tells its word, 256 times the fence byte and the next state.
use Rattle.std.specs.Prelude.{ℕ, ◌+◌, ◌*◌, ◌≤◌, ◌<◌, max, min, ◌≡◌, Bool, true, false, ◌⊎◌, List, [], ◌∷◌, ◌++◌, ltb, Option, Some, None}
use Rattle.ground.specs.Bytes.{bytes}
use Rattle.operations.specs.declared.Operation.{Operation}
use Rattle.operations.specs.Operation.{byte_is, byte_of}
use Rattle.operations.specs.Alphabet.{access_letters, stride, operation_of, fence_mark}
use Rattle.printing.specs.Decimal.{decimal}
use Rattle.texts.specs.Language.{Telling}
use Rattle.texts.specs.Telling.{Then, Through, Either, Word, Numbered}
use Rattle.image.specs.Image.{AccessWordIn, FenceWordIn}
use Rattle.drawing_edges.specs.declared.Shape.{Shape}

-- the fence that a byte names
abbrev pub fence_in : Option Operation → Option ℕ
fence_in (Some (Operation.Fence n)) = Some n
fence_in (Some (Operation.Access k)) = None
fence_in None = None

unfoldable pub fence_named : ℕ → Option ℕ
fence_named b = fence_in (byte_is b)

-- from the label's beginning to the mark
abbrev pub middle : ℕ → List ℕ
middle letter = bytes "[label=\"" ++ (byte_of (operation_of letter) ∷ 32 ∷ [])

-- the mark of no fence, or of one of the first so many
abbrev pub MarkPart : ℕ → Telling ℕ
MarkPart marks fence t = ((fence < marks) ⊎ (fence ≡ 255)) × (t ≡ fence_mark fence ∷ [])

-- behind the arrow: a refused operation has the word FE00
abbrev pub refused_word : ℕ
refused_word = 65024

abbrev pub RefusedMark : Telling ℕ
RefusedMark = Through (λ _. refused_word) (Word (bytes "!\"];\n"))

abbrev pub RefusedLabel : ℕ → Telling ℕ
RefusedLabel letter = Then (Word (middle letter)) (λ _. RefusedMark)

abbrev pub Refused : ℕ → Telling ℕ
Refused letter = Then (Word (bytes "refused ")) (λ _. RefusedLabel letter)

-- one that leads to a state has the mark of one of so many fences, or of none
abbrev pub MarkEnd : ℕ → ℕ → Telling ℕ
MarkEnd next fence = Through (λ _. 256 * fence + next) (Word (bytes "\"];\n"))

abbrev pub Marked : ℕ → ℕ → Telling ℕ
Marked marks next = Then (MarkPart marks) (MarkEnd next)

abbrev pub LedLabel : ℕ → ℕ → ℕ → Telling ℕ
LedLabel marks letter next = Then (Word (middle letter)) (λ _. Marked marks next)

abbrev pub Led : ℕ → ℕ → ℕ → Telling ℕ
Led states marks letter = Then (Numbered states 32) (LedLabel marks letter)

-- an access may be refused; an upstream fence is passed over, with no fence in its place
abbrev pub EndOf : Bool → Shape → ℕ → Telling ℕ
EndOf true sh letter = Either (Refused letter) (Led sh.states sh.targets letter)
EndOf false sh letter = Led sh.states 0 letter

abbrev pub EdgeEnd : Shape → ℕ → Telling ℕ
EdgeEnd sh letter = EndOf (ltb letter access_letters) sh letter

abbrev pub EdgePart : Shape → ℕ → ℕ → Telling ℕ
EdgePart sh state letter = Then (Word (decimal state ++ bytes " -> ")) (λ _. EdgeEnd sh letter)

-- the words that an edge may tell, as an image has them
abbrev pub WordOf : Bool → Shape → ℕ → Type 0
WordOf true sh = AccessWordIn sh.states sh.targets
WordOf false sh = FenceWordIn sh.states

abbrev pub EdgeWord : Shape → ℕ → ℕ → Type 0
EdgeWord sh letter w = WordOf (ltb letter access_letters) sh w

-- a machine's shape: at least one state, and no more of anything than an image can hold
pub record Shaped (sh : Shape) : Type 0 where
  pub some : 1 ≤ sh.states
  pub states : sh.states ≤ 255
  pub letters : sh.letters ≤ stride
  pub targets : sh.targets ≤ 16

-- the shape nearest to another that a machine can have
abbrev pub nearest : Shape → Shape
nearest sh = record { states = min (max 1 sh.states) 255; letters = min sh.letters stride; targets = min sh.targets 16 }
