-- One thing alone is given of a number and two texts, since one machine alone is made of two models. Assumes nothing.
use Prim.Native.Nat.{ℕ}
use mathlib.Core.Path.{◌≡◌, sym, ap₂, ◌∙◌}
use mathlib.Core.List.{List}
use Rattle.machine.specs.Outcome.{Outcome}
use Rattle.answers.specs.Given.{Given}
use Rattle.shims.specs.declared.Models.{Models}
use Rattle.shims.specs.Opening.{opened}
use Rattle.shims.proofs.Calls.{given_one}
use Rattle.making.proofs.Unique.{make_one}
use Rattle.generation.specs.Generating.{given_by, blank, MachineGiven, ImageGiven}

machine_one : (m : Models) (g h : Given) → MachineGiven m g → MachineGiven m h → g ≡ h
machine_one m g h a b =
    let e = make_one m blank a.made b.made in
    a.gives_it
    ∙ ap₂ (λ (o : Outcome) (rows : List ℕ). given_by o m rows) e.0 e.1
    ∙ sym b.gives_it

pub one_given : (number : ℕ) (upstream target : List ℕ) (g h : Given)
    → ImageGiven number upstream target g → ImageGiven number upstream target h → g ≡ h
one_given number upstream target = given_one (opened number upstream target) MachineGiven machine_one
