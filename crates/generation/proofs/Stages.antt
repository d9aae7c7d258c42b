-- The stages of the call: what is delivered for an outcome is delivered for one that is equal to it, and the numbers of a machine that is made fit a
-- byte, since its way is 0 or 1, its states are at most 255, and an operation names sixteen fences at most. Assumes nothing.
use Rattle.std.proofs.Common.{Ok, Err}
use Prim.Native.Nat.{ℕ, ◌<◌}
use mathlib.Core.Path.{◌≡◌, refl, sym, ap, ◌∙◌}
use mathlib.Core.List.{List}
use native.Mathlib.Omega.{arith}
use Rattle.machine.specs.Outcome.{Outcome}
use Rattle.answers.specs.declared.Refusal.{Refusal}
use Rattle.answers.specs.Answer.{Answer}
use Rattle.answers.specs.Given.{gives, Delivers, Answers}
use Rattle.answers.proofs.Given.{delivers_refusal, delivers_as}
use Rattle.rule.specs.declared.way.Way.{Way}
use Rattle.rule.specs.Rule.{way_number}
use Rattle.shims.specs.declared.Models.{Models}
use Rattle.shims.specs.Models.{model_of}
use Rattle.machine.specs.declared.machine.Machine.{Machine}
use Rattle.machine.proofs.Zeros.{at_most_sixteen}
use Rattle.image.specs.declared.machine.Header.{Header}
use Rattle.image.specs.Image.{image_of}
use Rattle.making.specs.Made.{MachineMade}
use Rattle.generation.specs.Generating.{header_for, given_by, blank, MachineGiven}
use Rattle.generation.specs.inner.Small.{SmallMade}

module _ (m : Models) (rows : List ℕ) {o : Outcome} where
  -- no machine is made
  pub none_made : {why : Refusal} (out : List ℕ) → o ≡ Err why → Delivers (given_by o m rows) out (Err why) out
  none_made out e = delivers_as (sym (ap (λ (p : Outcome). given_by p m rows) e)) (delivers_refusal out)

  -- one is made, and its image is written
  pub one_made : {x : Machine} {h : Header} {out after : List ℕ} {r : Answer} → o ≡ Ok x → h ≡ header_for x m
      → Delivers (gives (image_of h rows) 0 0) out r after → Delivers (given_by o m rows) out r after
  one_made e f d =
      delivers_as
      (ap (λ (h : Header). gives (image_of h rows) 0 0) f ∙ sym (ap (λ (p : Outcome). given_by p m rows) e))
      d

way_small : (way : Way) → way_number way < 256
way_small Way.Sparing = omega arith
way_small Way.Full = omega arith

pub small_made : (m : Models) (rows : List ℕ) (o : Outcome) (rows' : List ℕ) → MachineMade m rows o rows' → SmallMade o
small_made m rows (Ok x) rows' made =
    let g = made.generated in
    record {
      way = omega (arith, g.way_number_is, way_small m.way);
      states = omega (arith, g.few_states);
      ups = omega (arith, g.its_ups, at_most_sixteen (model_of m.upstream).fences refl);
      targets = omega (arith, g.its_targets, at_most_sixteen (model_of m.target).fences refl);
    }
small_made m rows (Err why) rows' made = tt

-- what is delivered once the machine is made, or cannot be, is what is given
pub given_made : {m : Models} {o : Outcome} {rows out after : List ℕ} {r : Answer} → MachineMade m blank o rows
    → Delivers (given_by o m rows) out r after → Answers (MachineGiven m) out r after
given_made {m} {o} {rows} made d =
    record { given = given_by o m rows; right = record { outcome = o; rows = rows; made = made; gives_it = refl }; delivered = d }
