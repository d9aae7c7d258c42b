-- `start` meets its contract: as many fields are left to pass over. Assumes nothing.
use Rattle.std.proofs.Common.{◌≡◌, ◌≤◌, ◌-◌, length, drop}
use Rattle.cases.specs.Fields.{from}
use Rattle.cases.proofs.fields.start.Given as goal

abbrev pub invariant-loop : goal.invariant-loop
invariant-loop l = (l.at ≤ length l.input) × (from (l.k - l.counter) (drop l.at l.input) ≡ from l.k l.input)
