-- Arrays of zeros. Assumes nothing.
use Prim.Native.Nat.{ℕ, ◌≤◌}
use mathlib.Core.Path.{◌≡◌, refl}
use mathlib.Core.List.{List}
use native.Mathlib.Omega.{arith}
use native.Mathlib.Decide.{dec_lt}
use lib.ListN.{length, take, replicate, length-take, length-replicate, get_or-replicate, get_or-eq_default}
use Rattle.machine.specs.inner.Index.{Linked}
use Rattle.machine.specs.inner.Explore.{Blank}
use Rattle.machine.proofs.Finding.{nothing_linked}

-- an index as it is made
pub new_index : Linked (record { pairs = replicate 4096 (0, 0); heads = replicate 4096 0; nexts = replicate 4096 0; count = 0 })
new_index = nothing_linked (length-replicate {A = ℕ × ℕ} 4096 (0, 0)) (length-replicate {A = ℕ} 4096 0) refl refl

pub zeros_blank : (n : ℕ) → Blank (replicate n 0)
zeros_blank n =
    record {
      blank = λ p.
          elim (dec_lt p n) [
            | yes h ↦ get_or-replicate {A = ℕ} n p 0 0 h
            | no h ↦ get_or-eq_default (replicate n 0) 0 (omega (arith, length-replicate {A = ℕ} n 0))
          ];
    }

pub at_most_sixteen : {l : List ℕ} (k : List ℕ) → l ≡ take 16 k → length l ≤ 16
at_most_sixteen {l} k e = rw (e, length-take 16 k) (omega arith)
