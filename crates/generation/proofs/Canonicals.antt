-- What is made of two models that were read is a machine of the layout: their names fill their fields, and every word of the rows is an access's or
-- an upstream fence's. Assumes nothing.
use Rattle.std.proofs.Common.{Ok}
use Prim.Native.Nat.{ℕ, ◌+◌, ◌-◌, ◌/◌, ◌%◌, ◌≤◌, ◌<◌}
use mathlib.Core.Path.{◌≡◌, refl, sym, subst, ◌∙◌}
use mathlib.Core.Bool.{Bool, true, false, cond}
use mathlib.Core.Logic.{inl, inr}
use mathlib.Core.List.{List, ◌++◌}
use native.Mathlib.Omega.{arith}
use borrow.Author.Tests.{lt-ltb, le-ltb}
use lib.Dec.{T, eqb}
use lib.ListN.{length, get_or, replicate}
use Rattle.ground.proofs.Truths.{differ, is_true}
use Rattle.ground.specs.Bytes.{name_byte}
use Rattle.rule.specs.declared.way.Way.{Way}
use Rattle.rule.specs.declared.situation.Situation.{Situation}
use Rattle.rule.specs.Rule.{way_number}
use Rattle.rule.specs.Pairs as rule
use Rattle.rule.specs.Situation.{asks}
use Rattle.models.specs.declared.model.Model.{Model}
use Rattle.models.specs.Reading.{reading}
use Rattle.models.specs.Told.{accepting}
use Rattle.models.proofs.Words.{told, accepted_told}
use Rattle.texts.proofs.NamePart.{each_at}
use Rattle.texts.specs.NamePart.{NameFormed}
use Rattle.shims.specs.declared.Models.{Models}
use Rattle.mealy.specs.Runs.{refused, taken, Same}
use Rattle.mealy.specs.Arrivals.{arrival, Entry}
use Rattle.mealy.proofs.Runs.{untaken}
use Rattle.mealy.proofs.Describing.{starts}
use Rattle.machine.specs.declared.machine.Machine.{Machine}
use Rattle.machine.specs.Shim.{letters_of, shim}
use Rattle.machine.specs.Generated.{ProperWord, refusing, passing, Making}
use Rattle.image.specs.Image.{word, NameField, AccessWord, FenceWord, Canonical}
use Rattle.image.specs.declared.machine.Header.{Header}
use Rattle.image.proofs.NameFields.{filled_field}
use Rattle.generation.specs.Generating.{header_for}

name_field : (n : List ℕ) → NameFormed n → NameField (n ++ replicate (16 - length n) 0)
name_field n f =
    filled_field n f.some f.few λ k l. is_true (name_byte (get_or n k 0)) (each_at (λ (b : ℕ). T (name_byte b)) n 0 f.bytes k l)

-- the name of a model that was read fills a field
pub name_read : (text : List ℕ) {m : Model} → reading text ≡ accepting m → NameField m.name.bytes
name_read text e =
    let d = accepted_told (told text) e in
    subst (λ (x : Model). NameField x.name.bytes) d.3 (name_field d.0.name d.1.name)

way_bit : (way : Way) → way_number way ≤ 1
way_bit Way.Sparing = omega arith
way_bit Way.Full = omega arith

module _ (way : Way) (up target : rule.Model) (ups_few : length up.fences ≤ 16) (few : length target.fences ≤ 16)
    {x : Machine} {blank rows : List ℕ}
    (made : Making (shim way up target) way (length up.fences) (length target.fences) blank x rows)
    (models : Models) (first_field : NameField models.upstream.name.bytes) (second-field : NameField models.target.name.bytes) where
  abbrev header : Header
  header = header_for x models

  -- the situation that a state was first reached in
  abbrev reached_in : ℕ → Situation
  reached_in = arrival (shim way up target) made.states.streams

  access_word : (w : ℕ) → ProperWord (length target.fences) x.states w → AccessWord header w
  access_word w (refusing e) = inl (omega arith, omega arith)
  access_word w (passing (inl l) n) = inr (inl (omega (arith, made.its_targets)), n)
  access_word w (passing (inr e) n) = inr (inr e, n)

  -- an upstream fence puts nothing out
  fence_step : (s : Situation) (f : ℕ) → f < length up.fences → (shim way up target).step s (4 + f) ≡ taken 255 (asks (rule.fence_table up f) s)
  fence_step s f l =
      let e : 4 + f - 4 ≡ f = omega arith in
      rw (lt-ltb (4 + f) (letters_of up) (omega arith), le-ltb (4 + f) 4 (omega arith), e)

  fence_word : (s f : ℕ) → s < x.states → f < length up.fences → FenceWord header (word rows s (4 + f))
  fence_word s f l k = look (eqb (word rows s (4 + f) / 256) 254) (made.states.rows s (4 + f) l (omega arith))
    where
      w : ℕ
      w = word rows s (4 + f)

      look : (b : Bool)
          → Entry (shim way up target) (Same (shim way up target)) made.states.streams s (4 + f) (cond b refused (taken (w / 256) (w % 256)))
          → FenceWord header w
      look true e = absurd (untaken (sym e ∙ fence_step (reached_in s) f k))
      look false (t, e, below, same) =
          let z : taken (w / 256) t ≡ taken 255 (asks (rule.fence_table up f) (reached_in s)) = sym e ∙ fence_step (reached_in s) f k in
          let fence : w / 256 ≡ 255 = cc in
          (fence, omega (arith, below, made.states.count))

  pub canonical : Canonical header rows
  canonical =
      record {
        way = omega (arith, made.way_number_is, way_bit way);
        some = (starts (shim way up target) (Same (shim way up target)) made.states (λ s t r. r)).0;
        states = made.few_states;
        ups = omega (arith, made.its_ups);
        targets = omega (arith, made.its_targets);
        upstream = first_field;
        target = second-field;
        accesses = λ s a l k. access_word (word rows s a) (made.words s a l (omega arith));
        fences = λ s f l k. fence_word s f l (omega (arith, made.its_ups));
        absent = λ s f l k m. made.absent s (4 + f) l (omega (arith, made.its_ups)) (omega arith);
      }
