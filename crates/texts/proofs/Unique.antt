-- The contract of each public function allows one result: it is an equation, and two results that meet it equal the same. Assumes nothing.
use Prim.Native.Nat.{ℕ}
use mathlib.Core.Path.{◌≡◌, sym, ◌∙◌}
use mathlib.Core.List.{List}
use Rattle.texts.specs.Step.{Step, Part}
use Rattle.texts.specs.Pattern.{follow_at}
use Rattle.texts.specs.NamePart.{name_at}
use Rattle.texts.specs.NumberPart.{number_at}

pub follow_one : (text : List ℕ) (at : ℕ) (pattern : List ℕ) {r r' : Step} → r ≡ follow_at pattern text at → r' ≡ follow_at pattern text at → r ≡ r'
follow_one text at pattern p q = p ∙ sym q

pub name_one : (text : List ℕ) (at end : ℕ) {r r' : Step} → r ≡ name_at end text at → r' ≡ name_at end text at → r ≡ r'
name_one text at end p q = p ∙ sym q

pub number_one : (text : List ℕ) (at bound end : ℕ) {r r' : Part} → r ≡ number_at bound end text at → r' ≡ number_at bound end text at → r ≡ r'
number_one text at bound end p q = p ∙ sym q
