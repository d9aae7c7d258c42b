-- From stage to stage of generating: what one finds is what the next is entered with, or is the refusal. Assumes nothing.
use Prim.Native.Nat.{ℕ, ◌*◌, ◌<◌}
use mathlib.Core.Path.{◌≡◌}
use mathlib.Core.List.{List}
use native.Mathlib.Omega.{arith}
use lib.ListN.{length, replicate, length-replicate}
use Rattle.answers.specs.declared.Refusal.{Refusal}
use Rattle.operations.specs.Alphabet.{stride, letters_with}
use Rattle.machine.specs.declared.step.Sides.{Sides}
use Rattle.machine.specs.inner.Sides.{ruled}
use Rattle.machine.specs.Generated.{named, Unmade, overfull, roomless}
use Rattle.machine.specs.inner.Index.{capacity}
use Rattle.machine.specs.inner.Words.{tabled}
use Rattle.machine.specs.inner.Refine.{Begun, Crowd, Refined}
use Rattle.machine.specs.inner.Stages.{Few, Unused, Searched, Sorted}
use Rattle.machine.proofs.Finish.{few_situations, begun, crowd_states, described}
use Rattle.machine.proofs.Zeros.{zeros_blank, at_most_sixteen}

pub few_named : {s : Sides} (ups fences : List ℕ) → s.ups.now ≡ named ups → s.fences.now ≡ named fences → Few s
few_named ups fences e f = record { few_ups = at_most_sixteen ups e; few_fences = at_most_sixteen fences f }

pub new_table : Unused (replicate 81920 0)
new_table = record { whole = length-replicate {A = ℕ} 81920 0; blank = zeros_blank 81920 }

module _ {s : Sides} {table : List ℕ} {count : ℕ} (x : Searched s table count) where
  -- all of one class
  pub searched_begun : Begun (tabled (letters_with (length s.ups.now)) table) count (replicate 4096 0) 1
  searched_begun =
      begun x.surveyed (length-replicate {A = ℕ} 4096 0) (zeros_blank 4096) (omega (arith, x.few.few_ups))

  -- more states than a byte can number
  pub searched_overfull : Crowd (tabled (letters_with (length s.ups.now)) table) count
      → (rows : List ℕ) → Unmade (ruled s) rows Refusal.TooManyStates
  searched_overfull y rows = overfull (few_situations x.surveyed) (crowd_states x.surveyed y)

  pub searched_sorted : {classes : List ℕ} {r : ℕ} → Refined (tabled (letters_with (length s.ups.now)) table) count classes r
      → length classes ≡ capacity → Sorted s table classes count r
  searched_sorted y size = record { searched = x; all_classes = size; few_states = y.few; states_found = y.states }

-- no room for the rows
pub sorted_roomless : {s : Sides} {table classes : List ℕ} {count states : ℕ} → Sorted s table classes count states
    → {rows : List ℕ} → length rows < states * stride → Unmade (ruled s) rows Refusal.BufferTooSmall
sorted_roomless x short = roomless (few_situations x.searched.surveyed) x.few_states (described x) short
