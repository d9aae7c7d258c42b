-- What is listed once the machine is made: each outcome is what the rule's machine comes to, and a machine that is made is within the limits.
-- Assumes nothing.
use Rattle.std.proofs.Common.{Some, Ok, Err}
use Prim.Native.Nat.{ℕ, ◌+◌, ◌*◌, ◌%◌, ◌/◌, ◌^◌, ◌≤◌, ◌<◌}
use mathlib.Core.Path.{◌≡◌, sym, ap₂, subst, ◌∙◌}
use mathlib.Core.Bool.{Bool, true, false, cond}
use mathlib.Core.List.{List}
use native.Mathlib.Omega.{arith}
use lib.Dec.{eqb}
use lib.ListN.{length, take}
use Rattle.machine.specs.Outcome.{Outcome}
use Rattle.ground.specs.Bytes.{at}
use Rattle.answers.specs.declared.Refusal.{Refusal}
use Rattle.answers.specs.Answer.{Answer, number_of, place_of}
use Rattle.answers.specs.Given.{gives, refuses, Delivers, Answers}
use Rattle.operations.specs.Alphabet.{letters_with, stride}
use Rattle.rule.specs.declared.way.Way.{Way}
use Rattle.printing.specs.Putting.{Put, Fronts}
use Rattle.printing.proofs.Names.{unfilled_short}
use Rattle.printing.proofs.Putting.{put_fronts}
use Rattle.shims.specs.declared.Models.{Models}
use Rattle.shims.specs.Models.{model_of}
use Rattle.shims.specs.Opening.{opening, opened_by}
use Rattle.shims.proofs.Theorems.{opens}
use Rattle.shims.proofs.Fences.{few_read, few_fences}
use Rattle.operations.specs.Operation.{fence_bytes}
use Rattle.mealy.specs.Runs.{refused, taken}
use Rattle.machine.specs.declared.machine.Machine.{Machine}
use Rattle.machine.specs.Rows.{decoded, answer_at}
use Rattle.machine.specs.Generated as machine
use Rattle.machine.specs.Generated.{Unmade, Built}
use Rattle.making.specs.Made.{MachineMade}
use Rattle.making.proofs.Read.{made_read}
use Rattle.listed.specs.Printed.{next_state, listing, refused_at, refusal_line}
use Rattle.listed.specs.Parts.{rule_of, listing_of, listed_text, MachineListed, crowded, overfull, made}
use Rattle.listed.specs.inner.Limits.{Listable, Sixteen, RunOutput, Limited}
use Rattle.listed.specs.inner.Making.{made_listing, made_given, MadeListable}
use Rattle.listed.proofs.Longest.{listing-length, refused-length}

module _ (m : Models) (sixteen : Sixteen m) (output : List ℕ) (fences : ℕ) (ran : RunOutput output fences)
    (rows rows' : List ℕ) (size : length rows ≡ 5100) where
  abbrev Makes : Outcome → Type 0
  Makes r =
      Built (rule_of m) m.way (length (model_of m.upstream).fences) (length (model_of m.target).fences) rows r rows'

  listable : (r : Outcome) → Makes r → MadeListable r rows' output fences
  listable (Ok x) b =
      record {
        few_states = b.few_states;
        rows_there = record {
          few_letters = omega (arith, b.its_ups, few_fences m.upstream sixteen.upstream);
          whole = omega (arith, b.room, b.size);
        };
        short_output = ran.fits;
        few_fences = omega (arith, ran.count, ran.few);
      }
  listable (Err why) b = tt

  listed_as : (x : Machine) → x.ups ≡ length (model_of m.upstream).fences
      → gives (listed_text m output x.states (answer_at rows')) (fence_bytes output) 0 ≡ made_given (Ok x) m rows' output fences
  listed_as x e =
      ap₂ (λ (n f : ℕ). gives (listing (listing_of m x.states (letters_with n) (answer_at rows') output f)) f 0) (sym e) (sym ran.count)

  unlisted : {why : Refusal} → Unmade (rule_of m) rows why → MachineListed m output (refuses why)
  unlisted (machine.crowded h) = crowded h
  unlisted (machine.overfull f h) = overfull f h
  unlisted (machine.roomless f l d h) = absurd (omega (arith, h, l, size))

  listed : (r : Outcome) → Makes r → MachineListed m output (made_given r m rows' output fences)
  listed (Ok x) b =
      subst (MachineListed m output) (listed_as x b.its_ups) (made b.few_situations b.few_states b.states)
  listed (Err why) b = unlisted b.0

  pub made_listable : (r : Outcome) → MachineMade m rows r rows' → MadeListable r rows' output fences
  made_listable r g = listable r (made_read m sixteen.upstream sixteen.target g)

  pub made_listed : {r : Outcome} {out after : List ℕ} {a : Answer} → MachineMade m rows r rows'
      → Delivers (made_given r m rows' output fences) out a after → Answers (MachineListed m output) out a after
  made_listed {r} g d = record {
    given = made_given r m rows' output fences;
    right = listed r (made_read m sixteen.upstream sixteen.target g);
    delivered = d;
  }

-- models that were read
pub sixteen_opened : {models : Models} (way : Way) (upstream target : List ℕ) → opened_by (Some way) upstream target ≡ opening models → Sixteen models
sixteen_opened way upstream target e =
    let o = opens (Some way) upstream target e in
    record { upstream = few_read upstream o.upstream_read; target = few_read target o.target_read }

-- the next state of a word is below 256
next_small : (w : ℕ) → next_state (decoded w) < 1000
next_small w = by (eqb (w / 256) 254)
  where
    by : (q : Bool) → next_state (cond q refused (taken (w / 256) (w % 256))) < 1000
    by true = omega arith
    by false = omega arith

-- a machine within the limits has a listing within them
pub listable_limited : (m : Models) (x : Machine) (rows output : List ℕ) (fences : ℕ) → length m.upstream.name.bytes ≡ 16
    → length m.target.name.bytes ≡ 16 → Listable x rows output fences → Limited (made_listing m x rows output fences)
listable_limited m x rows output fences u t l = record {
  short_upstream = omega (arith, unfilled_short m.upstream.name.bytes, u);
  short_target = omega (arith, unfilled_short m.target.name.bytes, t);
  few_states = l.few_states;
  few_letters = l.rows_there.few_letters;
  next_states = λ i a h k. next_small (at rows (i * stride + a));
  short_output = l.short_output;
  few_fences = l.few_fences;
}

-- so it is all that is on a page with room for 67,261 bytes
pub listing_fronts : (m : Models) (x : Machine) (rows output : List ℕ) (fences : ℕ) {bytes before after : List ℕ} {at n : ℕ}
    → length m.upstream.name.bytes ≡ 16 → length m.target.name.bytes ≡ 16 → Listable x rows output fences → before ≡ bytes → at ≡ 0
    → Put before after at n (listing (made_listing m x rows output fences)) → 67261 ≤ length bytes
    → Fronts after n (listing (made_listing m x rows output fences))
listing_fronts m x rows output fences u t l same none p h =
    put_fronts same none p (omega (arith, listing-length _ (listable_limited m x rows output fences u t l)))

-- and the line of a refusal on one with room for 53
pub refused_fronts : (why : Refusal) {number place : ℕ} {bytes before after : List ℕ} {at n : ℕ} → number < 2 ^ 64 → place < 2 ^ 64
    → number ≡ number_of why → place ≡ place_of why → before ≡ bytes → at ≡ 0 → Put before after at n (refused_at number place) → 53 ≤ length bytes
    → Fronts after n (refusal_line why)
refused_fronts why {number} {place} small near is at same none p h =
    let line = put_fronts same none p (omega (arith, refused-length number place (omega arith) (omega arith))) in
    record { inside = line.inside; count = line.count; bytes = line.bytes ∙ ap₂ refused_at is at }
