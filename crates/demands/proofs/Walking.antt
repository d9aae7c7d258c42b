-- A run over an image and the run of the machine that its bytes tell are the same, operation by operation: an entry's bytes are what both answer by.
-- This holds of all bytes, whether or not they are an image. Assumes nothing.
use Rattle.std.proofs.Common.{Some, Ok, Err}
use Prim.Native.Nat.{ℕ, suc, ◌+◌, ◌-◌, ◌*◌}
use mathlib.Core.Path.{◌≡◌, refl, sym, ap, ap₂, ◌∙◌}
use mathlib.Core.Bool.{Bool, true, false, cond}
use mathlib.Core.List.{List, [], ◌∷◌, ◌++◌, map}
use native.Mathlib.Omega.{arith}
use borrow.Author.Tests.{lt-ltb, le-ltb, eqb-true}
use lib.Dec.{ltb, eqb}
use Rattle.ground.specs.Bytes.{at}
use Rattle.ground.proofs.Truths.{differ}
use Rattle.operations.specs.declared.Kind.{Kind}
use Rattle.operations.specs.declared.Operation.{Operation}
use Rattle.operations.specs.Operation.{byte_is, fence_byte, byte_of}
use Rattle.operations.specs.Alphabet.{access_letters, letters_with, letter_of, letter_in}
use Rattle.operations.proofs.Bytes.{written_read}
use Rattle.operations.proofs.Letters.{kind_of_letter, letter_few}
use Rattle.rule.specs.Stream.{Stream, access, fence, fences}
use Rattle.rule.proofs.Streams.{fences-append}
use Rattle.rule.specs.Rule.{Ran, done, refused, behind}
use Rattle.mealy.specs.Runs as mealy
use Rattle.mealy.specs.Runs.{Machine, ends, go}
use Rattle.mealy.specs.Arrivals.{numbered}
use Rattle.machine.specs.Spoken.{puts, spelt, spelling, say, spoken}
use Rattle.places.specs.Layout.{position}
use Rattle.barred.specs.Barred.{upstream_fences_of}
use Rattle.image_runs.specs.declared.Stop.{Stop}
use Rattle.image_runs.specs.declared.Move.{Move}
use Rattle.image_runs.specs.Run.{Step, access_step, step_at, Walked, ended, stopped, walked_on, resumed, walked}
use Rattle.image_runs.specs.Run as walks
use Rattle.demands.specs.Streams.{StreamIn}
use Rattle.demands.specs.Images.{access_answer, entry_answer}
use Rattle.runs.proofs.Judging.{OfN}
use Rattle.demands.proofs.Reading.{Below, below_first, reads_first}

-- the run of a machine, as a walk that ends in this state
abbrev pub walk_of : Ran → ℕ → Walked
walk_of (done out) t = ended (map byte_of out) (fences out) t
walk_of (refused i) t = stopped Stop.NoFenceWillDo i

bytes-append : (x y : Stream) → map byte_of x ++ map byte_of y ≡ map byte_of (x ++ y)
bytes-append [] y = refl
bytes-append (op ∷ x) y = ap (λ (l : List ℕ). byte_of op ∷ l) (bytes-append x y)

walk_behind : (put : Stream) (r : Ran) (t : ℕ) → walked_on 1 (map byte_of put) (fences put) (walk_of r t) ≡ walk_of (behind put r) t
walk_behind put (done out) t = ap₂ (λ (b : List ℕ) (n : ℕ). ended b n t) (bytes-append put out) (sym (fences-append put out))
walk_behind put (refused i) t =
    let e : 1 + i ≡ suc i = omega arith in
    ap (stopped Stop.NoFenceWillDo) e

-- a step of a walk and an answer of the machine: both stop, or both put out the same and lead to the same state
pub data SameStep (b : ℕ) : Step → mealy.Answer Stream ℕ → Type 0 where
  stop : SameStep b (Err Stop.NoFenceWillDo) mealy.refused
  move : (m : Move) (put : Stream) → walks.puts b m ≡ map byte_of put → walks.inserts m ≡ fences put
      → SameStep b (Ok m) (mealy.taken put (walks.leads m))

alike_on : (b s : ℕ) {x : Step} {y : mealy.Answer Stream ℕ} → SameStep b x y → (rest : ℕ → Walked) (ran : ℕ → Ran) (to : ℕ → ℕ)
    → ((t : ℕ) → rest t ≡ walk_of (ran t) (to t)) → resumed b rest x ≡ walk_of (say y ran) (go y s to)
alike_on b s stop rest ran to h = refl
alike_on b s (move m put e f) rest ran to h =
    ap₂ (λ (l : List ℕ) (n : ℕ). walked_on 1 l n (rest (walks.leads m))) e f
    ∙ ap (walked_on 1 (map byte_of put) (fences put)) (h (walks.leads m))
    ∙ walk_behind put (ran (walks.leads m)) (to (walks.leads m))

-- an access, by its entry's two bytes
access_alike : (b : ℕ) (k : Kind) → b ≡ byte_of (Operation.Access k) → (fence next : ℕ)
    → SameStep b (access_step fence next) (spelt (letter_of k) (access_answer fence next))
access_alike b k is fence next = by (eqb fence 254) (eqb fence 255) refl
  where
    one : puts (letter_of k) 255 ≡ access k
    one = rw (lt-ltb (letter_of k) access_letters (letter_few k), kind_of_letter k)

    two : eqb fence 255 ≡ false → puts (letter_of k) fence ≡ Operation.Fence fence ∷ access k
    two e = rw (lt-ltb (letter_of k) access_letters (letter_few k), kind_of_letter k, e)

    by : (x y : Bool) → eqb fence 255 ≡ y
        → SameStep b (cond x (Err Stop.NoFenceWillDo) (Ok (cond y (Move.Plain next) (Move.Fenced (fence_byte fence) next))))
        (spelt (letter_of k) (cond x mealy.refused (mealy.taken fence next)))
    by true y e = stop
    by false true e =
        let full : fence ≡ 255 = eqb-true fence 255 e in
        let put : puts (letter_of k) fence ≡ access k = ap (puts (letter_of k)) full ∙ one in
        move (Move.Plain next) (puts (letter_of k) fence)
        (ap (λ (c : ℕ). c ∷ []) is ∙ ap (λ (s : Stream). map byte_of s) (sym put))
        (ap fences (sym put))
    by false false e =
        move (Move.Fenced (fence_byte fence) next) (puts (letter_of k) fence)
        (ap (λ (c : ℕ). fence_byte fence ∷ c ∷ []) is ∙ ap (λ (s : Stream). map byte_of s) (sym (two e)))
        (ap fences (sym (two e)))

module _ (image : List ℕ) where
  -- the machine that the bytes tell
  abbrev pub told_machine : Machine ℕ Stream
  told_machine = spelling (numbered (letters_with (upstream_fences_of image)) (entry_answer image))

  step_alike : (s b : ℕ) (op : Operation) → byte_is b ≡ Some op → OfN (upstream_fences_of image) op
      → SameStep b (step_at image s b) (told_machine.step s (letter_in op))
  unfolding step_at
  step_alike s b (Operation.Access k) e h =
      let l = letter_few k in
      let is : b ≡ byte_of (Operation.Access k) = sym (written_read b (Operation.Access k) e) in
      rw (e, lt-ltb (letter_of k) (letters_with (upstream_fences_of image)) (omega (arith, l)), lt-ltb (letter_of k) access_letters l)
      (access_alike b k is (at image (position 1 s (2 * letter_of k))) (at image (position 1 s (2 * letter_of k + 1))))
  step_alike s b (Operation.Fence f) e h =
      let n : access_letters + f - access_letters ≡ f = omega arith in
      let no : ltb (access_letters + f) access_letters ≡ false = le-ltb (access_letters + f) access_letters (omega arith) in
      let next = at image (position 1 s (2 * access_letters + f)) in
      let put : [] ≡ puts (access_letters + f) 255 = rw no in
      rw (e, lt-ltb f (upstream_fences_of image) h, lt-ltb (access_letters + f) (letters_with (upstream_fences_of image)) (omega arith), no, n)
      (move (Move.Passed next) (puts (access_letters + f) 255) (ap (λ (l : Stream). map byte_of l) put) (ap fences put))

  -- The walk of bytes that read as operations is the run of the machine.
  pub walks_as_told : (bytes : List ℕ) (s : ℕ) (ops : Stream) → StreamIn bytes ops → Below (upstream_fences_of image) ops
      → walked image s bytes ≡ walk_of (spoken told_machine s (map letter_in ops)) (ends told_machine s (map letter_in ops))
  unfolding walked
  walks_as_told [] s [] e h = refl
  walks_as_told [] s (op ∷ ops) e h = differ (cc)
  walks_as_told (b ∷ bytes) s [] e h = differ (cc)
  walks_as_told (b ∷ bytes) s (op ∷ ops) e h =
      let first = reads_first b bytes op ops e in
      let own = below_first (upstream_fences_of image) op ops h in
      alike_on b s (step_alike s b op first.0 own.0) (λ (t : ℕ). walked image t bytes) (λ (t : ℕ). spoken told_machine t (map letter_in ops))
      (λ (t : ℕ). ends told_machine t (map letter_in ops)) (λ t. walks_as_told bytes t ops first.1 own.1)
