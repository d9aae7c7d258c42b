-- What is listed of an input's parts. Document 01: "Order: ..; upstream text (1, 2, 3); target text; ..; stream length; the earliest of 4, 5, 6 in
-- the stream; 8; 9; 7 last." The stream is judged before the machine is made.
use Rattle.std.specs.Prelude.{ℕ, ◌≤◌, ◌≡◌, List, Some}
use Rattle.answers.specs.declared.Refusal.{Refusal}
use Rattle.answers.specs.Given.{Given, gives, refuses}
use Rattle.rule.specs.declared.situation.Situation.{Situation}
use Rattle.rule.specs.declared.way.Way.{Way}
use Rattle.printing.specs.Name.{unfilled}
use Rattle.shims.specs.declared.Models.{Models}
use Rattle.shims.specs.Models.{model_of}
use Rattle.shims.specs.Opening.{opened_by, GivenOnOpened}
use Rattle.operations.specs.Operation.{fence_bytes}
use Rattle.runs.specs.Bytes.{puts}
use Rattle.runs.specs.Call.{run_given}
use Rattle.mealy.specs.Runs.{Answer, Machine, Same}
use Rattle.mealy.specs.Arrivals.{More, AtMost, Described}
use Rattle.machine.specs.Shim.{shim}
use Rattle.listed.specs.Printed.{Listing, listing}

-- the parts of an input: two model texts, a way and a stream
pub record Parts : Type 0 where
  pub upstream : List ℕ
  pub target : List ℕ
  pub way : Way
  pub stream : List ℕ

-- the rule of two models and a way, as a machine
abbrev pub rule_of : Models → Machine Situation ℕ
rule_of m = shim m.way (model_of m.upstream) (model_of m.target)

-- the listing of two models: so many states of so many letters with these rows, and a run's output and fences
abbrev pub listing_of : Models → ℕ → ℕ → (ℕ → ℕ → Answer ℕ ℕ) → List ℕ → ℕ → Listing
listing_of m states letters row output fences = record {
  upstream = unfilled m.upstream.name.bytes;
  target = unfilled m.target.name.bytes;
  way = m.way;
  states = states;
  letters = letters;
  row = row;
  output = output;
  fences = fences;
}

-- its text, with the letters of the rule's machine and the fences of the output
abbrev pub listed_text : Models → List ℕ → ℕ → (ℕ → ℕ → Answer ℕ ℕ) → List ℕ
listed_text m output states row = listing (listing_of m states (rule_of m).letters row output (fence_bytes output))

-- after the run: 8, 9, or the listing of the machine's states
pub data MachineListed (m : Models) (output : List ℕ) : Given → Type 0 where
  crowded : More (rule_of m) ◌≡◌ 4096 → MachineListed m output (refuses Refusal.TooManySituations)
  overfull : AtMost (rule_of m) ◌≡◌ 4096 → More (rule_of m) (Same (rule_of m)) 255 → MachineListed m output (refuses Refusal.TooManyStates)
  made : {k : ℕ} {row : ℕ → ℕ → Answer ℕ ℕ} → AtMost (rule_of m) ◌≡◌ 4096 → k ≤ 255 → Described (rule_of m) (Same (rule_of m)) k row
      → MachineListed m output (gives (listed_text m output k row) (fence_bytes output) 0)

-- the direct run of the stream comes first: its refusal, or its output
pub data ModelsListed (m : Models) (stream : List ℕ) : Given → Type 0 where
  halts : {why : Refusal} → run_given m stream ≡ refuses why → ModelsListed m stream (refuses why)
  runs : {output : List ℕ} {g : Given} → run_given m stream ≡ puts output → MachineListed m output g → ModelsListed m stream g

-- and before it the two texts are read
abbrev pub PartsListed : Parts → Given → Type 0
PartsListed p = GivenOnOpened (opened_by (Some p.way) p.upstream p.target) λ (m : Models). ModelsListed m p.stream
