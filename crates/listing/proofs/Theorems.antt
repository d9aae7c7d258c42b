-- The theorems about a listing, for any input, as a reader wants to find them: what a call that gives one has done, and how long it is at most.
-- They hold since the stages of the call have all gone on, and each part of a listing is within its limit. Assumes nothing.
use Prim.Native.Nat.{ℕ, ◌≤◌}
use mathlib.Core.Path.{refl, ap}
use mathlib.Core.List.{List}
use native.Mathlib.Omega.{arith}
use lib.ListN.{length}
use Rattle.answers.specs.Given.{gives}
use Rattle.listing.specs.Listed.{Listed}
use Rattle.listing.specs.inner.Accepted.{AcceptedInput}
use Rattle.listing.proofs.Accepting.{by_length, within_limits, limited}
use Rattle.listed.proofs.Longest.{listing-length}

-- A call that gives a listing has found its parts, read its two models, run its stream and made its machine; the text tells these.
pub accepted_input : (input text : List ℕ) (fences state : ℕ) → Listed input (gives text fences state) → AcceptedInput input text fences state
accepted_input input text fences state h = by_length input text fences state h refl

module _ {input text : List ℕ} {fences state : ℕ} (listed : Listed input (gives text fences state)) where
  abbrev call : AcceptedInput input text fences state
  call = accepted_input input text fences state listed

  -- The run's output in a listing has at most 8,191 bytes,
  pub listed_output : length call.output ≤ 8191
  listed_output = (within_limits call).0

  -- and at most 4,095 fences.
  pub listed_fences : fences ≤ 4095
  listed_fences = omega (arith, call.fences_are, (within_limits call).1)

  -- A listing has at most 67,261 bytes.
  pub longest_listing : length text ≤ 67261
  longest_listing = omega (arith, ap length call.text_is, listing-length _ (limited call))
