-- Forms of text. Document 01, refusal 2: "a text is not of the form", at the "length of its longest beginning that begins some text of the
-- form".
use Rattle.std.specs.Prelude.{ℕ, ◌+◌, ◌≤◌, ◌≡◌, List, ◌++◌, ◌⊎◌, length, take, drop, Ok, Err}
use Rattle.texts.specs.Step.{Step}

-- a form: which texts are of it
abbrev pub Language : Type 1
Language = List ℕ → Type 0

-- p begins some text of the form: there is a completion, of any length
abbrev pub Begins : Language → List ℕ → Type 0
Begins L p = (rest : List ℕ) × L (p ++ rest)

-- k is the length of the longest beginning of t that begins some text of the form
pub record Longest (L : Language) (t : List ℕ) (k : ℕ) : Type 0 where
  pub within : k ≤ length t
  pub begins : Begins L (take k t)
  pub longest : (j : ℕ) → j ≤ length t → Begins L (take j t) → j ≤ k

-- one part and then another; one part or another
abbrev pub Seq : Language → Language → Language
Seq L M t = (n : ℕ) × (n ≤ length t) × L (take n t) × M (drop n t)

-- what a part tells: for each value, the texts that tell it
abbrev pub Telling : Type 0 → Type 1
Telling A = A → Language

-- the form of a part that tells anything
abbrev pub Any : {A : Type 0} → Telling A → Language
Any {A} L t = (a : A) × L a t

-- one part, and then one whose form may depend on what the first told
abbrev pub SeqOn : {A : Type 0} → Telling A → (A → Language) → Language
SeqOn {A} L M t = (a : A) × Seq (L a) (M a) t

abbrev pub Or : Language → Language → Language
Or L M t = L t ⊎ M t

-- there is a text of the form
abbrev pub Some : Language → Type 0
Some L = (w : List ℕ) × L w

-- of a text at most one beginning is of the form
abbrev pub PrefixFree : Language → Type 0
PrefixFree L = (s : List ℕ) (m n : ℕ) → m ≤ length s → n ≤ length s → L (take m s) → L (take n s) → m ≡ n

-- of a text at most one beginning tells anything, and it tells one value
abbrev pub Unique : {A : Type 0} → Telling A → Type 0
Unique {A} L =
    (s : List ℕ) (m n : ℕ) (a b : A) → m ≤ length s → n ≤ length s → L a (take m s) → L b (take n s) → (m ≡ n) × (a ≡ b)

-- what following one part from the front of s finds: the part, which ends at n; or that no beginning of s is of its form, and how far the
-- longest goes that begins one
pub data Reads (L : Language) (s : List ℕ) : Step → Type 0 where
  found : {n : ℕ} → n ≤ length s → L (take n s) → Reads L s (Ok n)
  stuck : {k : ℕ} → Longest L s k → ((n : ℕ) → n ≤ length s → L (take n s) → ⊥) → Reads L s (Err k)

-- n places further on
abbrev pub shift : ℕ → Step → Step
shift n (Ok k) = Ok (n + k)
shift n (Err k) = Err (n + k)

-- go on at the next place, or refuse where the text departs from the form
abbrev pub on_step : {A : Type 0} → (ℕ → A) → Step → (ℕ → A) → A
on_step refuse (Ok at) more = more at
on_step refuse (Err at) more = refuse at

-- what is answered of s, which stands at a place of a text, as a whole: it is of the form, or the answer is the refusal at its longest
-- beginning
abbrev pub Judged : {A : Type 0} → (ℕ → A) → Language → List ℕ → ℕ → A → Type 0
Judged refuse L s at r = L s ⊎ ((k : ℕ) × Longest L s k × (L s → ⊥) × (r ≡ refuse (at + k)))

-- g answers so of what is left of t at any place
abbrev pub Judges : {A : Type 0} → (ℕ → A) → Language → List ℕ → (ℕ → A) → Type 0
Judges refuse L t g = (at : ℕ) → at ≤ length t → Judged refuse L (drop at t) at (g at)
