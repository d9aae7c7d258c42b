-- The numbers of a machine that is made fit a byte each.
use Rattle.std.specs.Prelude.{◌<◌, Ok, Err}
use Rattle.machine.specs.Outcome.{Outcome}
use Rattle.machine.specs.declared.machine.Machine.{Machine}

pub record Small (x : Machine) : Type 0 where
  pub way : x.way < 256
  pub states : x.states < 256
  pub ups : x.ups < 256
  pub targets : x.targets < 256

abbrev pub SmallMade : Outcome → Type 0
SmallMade (Ok x) = Small x
SmallMade (Err why) = Unit {0}
