-- What a machine puts out, as a stream of operations, so that any machine can be held against the rule. 01: "Fences are inserted directly before an
-- access", "Upstream fences are not passed on."
use Rattle.std.specs.Prelude.{ℕ, ◌<◌, ◌≡◌, cond, List, [], ◌∷◌, ◌++◌, map, ltb, eqb}
use Rattle.std.proofs.Common.{ap}
use Rattle.operations.specs.Alphabet.{access_letters, kind_of, operation_of}
use Rattle.rule.specs.declared.way.Way.{Way}
use Rattle.rule.specs.Stream.{Stream, access, fence}
use Rattle.rule.specs.Pairs.{Model}
use Rattle.rule.specs.Rule.{Ran, done, refused as stopped, behind, run}
use Rattle.mealy.specs.Runs.{Answer, refused, taken, Machine as Mealy}
use Rattle.mealy.specs.Arrivals.{numbered}
use Rattle.machine.specs.Shim.{letters_of}

-- a stream of letters of an alphabet of n, and its operations
abbrev pub Letters : ℕ → List ℕ → Type 0
Letters n [] = Unit {0}
Letters n (a ∷ w) = (a < n) × Letters n w

abbrev pub operations : List ℕ → Stream
operations w = map operation_of w

-- what is put out for letter a with fence byte o: nothing for an upstream fence, and the access for an access, behind fence o unless o is 255
abbrev pub puts : ℕ → ℕ → Stream
puts a o = cond (ltb a access_letters) (cond (eqb o 255) (access (kind_of a)) (fence o ++ access (kind_of a))) []

-- an answer, and a machine, with what is put out in the fence byte's place
abbrev pub spelt : {S : Type 0} → ℕ → Answer ℕ S → Answer Stream S
spelt a refused = refused
spelt a (taken o t) = taken (puts a o) t

abbrev pub spelling : {S : Type 0} → Mealy S ℕ → Mealy S Stream
spelling m =
    record {
      letters = m.letters;
      step = λ s a. spelt a (m.step s a);
      outside = λ s a h. ap (spelt a) (m.outside s a h);
      fresh = m.fresh;
    }

-- the machine that rows over the letters of an upstream model are, started at state 0; its outputs are streams
abbrev pub machine_of : Model → (ℕ → ℕ → Answer ℕ ℕ) → Mealy ℕ Stream
machine_of up row = spelling (numbered (letters_of up) row)

-- the run of a stream of letters by a machine that puts out streams, from one of its states
abbrev pub say : {S : Type 0} → Answer Stream S → (S → Ran) → Ran
say refused rest = stopped 0
say (taken put t) rest = behind put (rest t)

abbrev pub spoken : {S : Type 0} → Mealy S Stream → S → List ℕ → Ran
spoken m s [] = done []
spoken m s (a ∷ w) = say (m.step s a) (λ t. spoken m t w)

-- a machine answers like the rule: on every stream of the upstream model's letters it gives the rule's output, or the rule's refusal at its index
abbrev pub AnswersLikeTheRule : {S : Type 0} → Way → Model → Model → Mealy S Stream → Type 0
AnswersLikeTheRule way up target m =
    (w : List ℕ) → Letters (letters_of up) w → spoken m m.fresh w ≡ run way up target (operations w)
