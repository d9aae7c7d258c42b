-- Generating to an image: two model texts, a way and a buffer. Document 01: "Order: way ..; upstream text (1, 2, 3); target text; ..; 8; 9; 7 last";
-- "A machine's image" has the way, the states, the fences and the two names in its block 0.
use Rattle.std.specs.Prelude.{ℕ, ◌*◌, ◌≡◌, List, replicate, Ok, Err}
use Rattle.machine.specs.Outcome.{Outcome}
use Rattle.answers.specs.Given.{Given, gives, refuses}
use Rattle.operations.specs.Alphabet.{stride}
use Rattle.shims.specs.declared.Models.{Models}
use Rattle.shims.specs.Opening.{opened, GivenOnOpened}
use Rattle.machine.specs.declared.machine.Machine.{Machine}
use Rattle.making.specs.Made.{MachineMade}
use Rattle.image.specs.declared.machine.Header.{Header}
use Rattle.image.specs.Image.{image_of}

-- what block 0 says of a machine and of its models' names
abbrev pub header_for : Machine → Models → Header
header_for x m =
    record {
      way = x.way;
      states = x.states;
      ups = x.ups;
      targets = x.targets;
      upstream = m.upstream.name.bytes;
      target = m.target.name.bytes;
    }

-- what is given once the machine is made, or cannot be
abbrev pub given_by : Outcome → Models → List ℕ → Given
given_by (Ok x) m rows = gives (image_of (header_for x m) rows) 0 0
given_by (Err why) m rows = refuses why

-- the rows that the machine is made in hold 255 states, so that 7 does not come about
abbrev pub blank : List ℕ
blank = replicate (255 * stride) 0

-- the machine between two models is made, and its image is what is given
pub record MachineGiven (models : Models) (given : Given) : Type 0 where
  pub outcome : Outcome
  pub rows : List ℕ
  pub made : MachineMade models blank outcome rows
  pub gives_it : given ≡ given_by outcome models rows

-- what the whole call gives
abbrev pub ImageGiven : ℕ → List ℕ → List ℕ → Given → Type 0
ImageGiven number upstream target = GivenOnOpened (opened number upstream target) MachineGiven
