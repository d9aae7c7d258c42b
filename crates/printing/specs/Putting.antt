-- What several puts, one behind another, do to a page: what one does where the text fits; of the rest of its bytes nothing is said.
use Rattle.std.specs.Prelude.{ℕ, ◌+◌, ◌≤◌, ◌<◌, ◌≡◌, List, ◌++◌, length, take}
use Rattle.printing.specs.declared.Page.{Page}

-- behind the first `at` bytes stands the text, up to r; where it does not fit, r is past the end
pub record Put (before after : List ℕ) (at r : ℕ) (text : List ℕ) : Type 0 where
  pub size : length after ≡ length before
  pub place : at + length text ≤ length before → r ≡ at + length text
  pub bytes : at + length text ≤ length before → take r after ≡ take at before ++ text
  pub past : length before < at + length text → length before < r

-- the first r bytes of a buffer are a text
pub record Fronts (buffer : List ℕ) (r : ℕ) (text : List ℕ) : Type 0 where
  pub inside : r ≤ length buffer
  pub count : r ≡ length (take r buffer)
  pub bytes : take r buffer ≡ text

-- the same as `Put` of a page
abbrev pub PutOn : Page → Page → List ℕ → Type 0
PutOn before after text = Put before.bytes.now after.bytes.now before.at after.at text
