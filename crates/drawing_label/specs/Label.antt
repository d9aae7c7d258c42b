-- The first two lines of a drawing, up to its label, as a part of its text.
use Rattle.std.specs.Prelude.{ℕ, ◌-◌, ◌≤◌, ◌≡◌, List, ◌++◌, length, take, drop, replicate, Ok, Err, Result}
use Rattle.ground.specs.Bytes.{bytes}
use Rattle.texts.specs.Language.{Telling}
use Rattle.texts.specs.NamePart.{NameFormed, name_run}
use Rattle.texts.specs.Telling.{Then, Through, Either, Word, Named, Numbered, Taken, took, stopped}
use Rattle.printing.specs.Decimal.{decimal}
use Rattle.printing.specs.Name.{unfilled}
use Rattle.image.specs.declared.machine.Header.{Header}
use Rattle.drawing.specs.Drawing.{way_word}
use Rattle.drawing_label.specs.declared.Places.{Places}
use Rattle.drawing_label.specs.declared.LabelRead.{LabelRead}

-- what a label tells
pub record Label : Type 0 where
  pub upstream : List ℕ
  pub target : List ℕ
  pub way : ℕ
  pub ups : ℕ
  pub targets : ℕ

-- a way's word and the blank after it
abbrev pub WayPart : Telling ℕ
WayPart = Either (Through (λ _. 0) (Word (bytes "sparing "))) (Through (λ _. 1) (Word (bytes "full ")))

-- the parts of a label from its end to its start, each with what was told before it
abbrev pub LabelEnd : List ℕ → List ℕ → ℕ → ℕ → ℕ → Telling Label
LabelEnd upstream target way ups targets =
    Through (λ _. record { upstream = upstream; target = target; way = way; ups = ups; targets = targets }) (Word (bytes ";\n"))

abbrev pub FromTargets : List ℕ → List ℕ → ℕ → ℕ → Telling Label
FromTargets upstream target way ups = Then (Numbered 17 34) (LabelEnd upstream target way ups)

abbrev pub FromUps : List ℕ → List ℕ → ℕ → Telling Label
FromUps upstream target way = Then (Numbered 17 32) (FromTargets upstream target way)

abbrev pub FromWay : List ℕ → List ℕ → Telling Label
FromWay upstream target = Then WayPart (FromUps upstream target)

abbrev pub FromTarget : List ℕ → Telling Label
FromTarget upstream = Then (Named 32) (FromWay upstream)

abbrev pub FromUpstream : Telling Label
FromUpstream = Then (Named 32) FromTarget

abbrev pub LabelPart : Telling Label
LabelPart = Then (Word (bytes "digraph shim {\nlabel=\"")) (λ _. FromUpstream)

-- the name that stands in front of a text, and the one at a place of it
abbrev pub name_in : List ℕ → List ℕ
name_in s = take (name_run 16 s) s

abbrev pub name_from : List ℕ → ℕ → List ℕ
name_from t at = name_in (drop at t)

-- a name in a field of 16 bytes, filled up with zeros
abbrev pub field : List ℕ → List ℕ
field n = n ++ replicate (16 - length n) 0

-- what reading a label has taken, by the places of its names, and by its names in their fields
abbrev pub places_told : List ℕ → Places → Label
places_told t l = record {
  upstream = name_from t l.upstream;
  target = name_from t l.target;
  way = l.way;
  ups = l.ups;
  targets = l.targets;
}

abbrev pub places_taken : List ℕ → Result Places ℕ → Taken Label
places_taken t (Ok l) = took l.next (places_told t l)
places_taken t (Err p) = stopped p

abbrev pub label_of : LabelRead → Label
label_of r = record {
  upstream = unfilled r.upstream;
  target = unfilled r.target;
  way = r.way;
  ups = r.ups;
  targets = r.targets;
}

abbrev pub label_taken : Result LabelRead ℕ → Taken Label
label_taken (Ok l) = took l.next (label_of l)
label_taken (Err p) = stopped p

-- a field holds a name and zeros behind it
abbrev pub Fielded : List ℕ → Type 0
Fielded x = field (unfilled x) ≡ x

-- what is held of a label fits a machine's header
pub record Fits (r : LabelRead) : Type 0 where
  pub way : r.way ≤ 1
  pub ups : r.ups ≤ 16
  pub targets : r.targets ≤ 16
  pub upstream : Fielded r.upstream
  pub target : Fielded r.target

-- the labels that a drawing has, and the two lines that tell one
pub record LabelFormed (l : Label) : Type 0 where
  pub upstream : NameFormed l.upstream
  pub target : NameFormed l.target
  pub way : l.way ≤ 1
  pub ups : l.ups ≤ 16
  pub targets : l.targets ≤ 16

abbrev pub targets_text : ℕ → List ℕ
targets_text targets = decimal targets ++ bytes "\";\n"

abbrev pub ups_text : ℕ → ℕ → List ℕ
ups_text ups targets = decimal ups ++ (bytes " " ++ targets_text targets)

abbrev pub way_text : ℕ → ℕ → ℕ → List ℕ
way_text way ups targets = way_word way ++ (bytes " " ++ ups_text ups targets)

abbrev pub names_text : List ℕ → List ℕ → ℕ → ℕ → ℕ → List ℕ
names_text upstream target way ups targets = upstream ++ (bytes " " ++ (target ++ (bytes " " ++ way_text way ups targets)))

abbrev pub label_text : Label → List ℕ
label_text l = bytes "digraph shim {\n" ++ (bytes "label=\"" ++ names_text l.upstream l.target l.way l.ups l.targets)

-- the label of a machine's header
abbrev pub label_for : Header → Label
label_for h = record { upstream = unfilled h.upstream; target = unfilled h.target; way = h.way; ups = h.ups; targets = h.targets }
