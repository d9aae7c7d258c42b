-- The theorems about the machine of any two models and any way, as a reader wants to find them: stated on the rule's own runs, `run` and `onward`,
-- for any rows that describe it, whether they were generated, listed or read from an image. Such rows run like the rule's own machine.
-- A stream of letters is a stream of operations by the alphabet: 0 l, 1 L, 2 s, 3 S, 4 upwards the upstream fences. Assumes nothing.
use Rattle.std.proofs.Common.{Ok, Err}
use Prim.Native.Nat.{ℕ, ◌≤◌, ◌<◌}
use mathlib.Core.Path.{◌≡◌, refl, sym, ◌∙◌, ap, subst}
use mathlib.Core.Logic.{◌↔◌}
use mathlib.Core.List.{List, []}
use native.Mathlib.Omega.{arith}
use lib.ListN.{length, get_or}
use Rattle.machine.specs.Outcome.{Outcome}
use Rattle.answers.specs.declared.Refusal.{Refusal}
use Rattle.rule.specs.declared.situation.Situation.{Situation}
use Rattle.rule.specs.declared.way.Way.{Way}
use Rattle.rule.specs.declared.way.Shim.{Shim}
use Rattle.rule.specs.Stream.{Stream}
use Rattle.rule.specs.Pairs.{Model}
use Rattle.rule.specs.Sides.{upstream_of, target_of}
use Rattle.rule.specs.Rule.{done, onward, run}
use Rattle.mealy.specs.Runs.{Answer, Machine as Mealy, ends, reached, Same}
use Rattle.mealy.specs.Order.{◌≺◌}
use Rattle.mealy.specs.Arrivals.{arrival, More, Described, numbered}
use Rattle.mealy.proofs.Pigeonhole.{pigeonhole}
use Rattle.mealy.proofs.Numbers.{first_without}
use Rattle.mealy.proofs.Unique.{apart_one, not_more, equal, same_states}
use Rattle.mealy.proofs.Runs.{same_eq, same_trans, same_sym}
use Rattle.mealy.proofs.Describing.{starts, lands, run_fresh}
use Rattle.machine.specs.Shim.{letters_of, shim}
use Rattle.machine.specs.Generated.{Unmade, crowded, overfull, roomless, named, Generated}
use Rattle.machine.specs.Spoken.{Letters, operations, machine_of, spoken, AnswersLikeTheRule}
use Rattle.machine.specs.Counted.{SameSituation, SameState, NumberOf, OnStates, ManySituations, ManyStates, FirstArrival}
use Rattle.machine.specs.declared.machine.Machine.{Machine}
use Rattle.machine.proofs.Zeros.{at_most_sixteen}
use Rattle.machine.proofs.Determined.{too_few}
use Rattle.machine.proofs.Spelling.{ran_as, spoken_gets, ends_spelt}
use Rattle.machine.proofs.Speaking.{goes_on, shim_like}
use Rattle.machine.proofs.Counting.{run_accepted, accepted_run, same_state, many_situations, many_states}

-- k states and their rows, which describe the rule's own machine.
module _ (way : Way) (up target : Model) (few : length target.fences ≤ 16) {k : ℕ} {row : ℕ → ℕ → Answer ℕ ℕ}
    (d : Described (shim way up target) (Same (shim way up target)) k row) where
  abbrev m : Mealy Situation ℕ
  m = shim way up target

  abbrev own : Mealy ℕ ℕ
  own = numbered (letters_of up) row

  -- an accepted stream leads to a state, and that is the state of its situation
  lands_at : (v : List ℕ) → Letters (letters_of up) v → (out : Stream) → run way up target (operations v) ≡ done out
      → (ends own 0 v < k) × Same m (arrival m d.streams (ends own 0 v)) (reached m v)
  lands_at v h out e =
      let s = starts m (Same m) d (λ s t r. r) in
      lands m (Same m) d (λ s t r. r) 0 s.0 m.fresh (same_eq m (ap (reached m) s.1)) v
      (run_accepted way up target few v h out e)

  one_state : (i j : ℕ) → i < k → j < k → Same m (arrival m d.streams i) (arrival m d.streams j) → i ≡ j
  one_state i j h l s =
      apart_one m (Same m) (same_states m) d.streams d.first.apart i j (omega (arith, d.count)) (omega (arith, d.count)) s

  -- The machine's run from state 0 is the rule's run, on every stream of letters: the same output, or the same refusal at the same index.
  pub runs_like_the_rule : AnswersLikeTheRule way up target (machine_of up row)
  runs_like_the_rule w h =
      spoken_gets own 0 w
      ∙ ap (ran_as w) (run_fresh m (Same m) d (λ s t r. r) w)
      ∙ sym (spoken_gets m m.fresh w)
      ∙ shim_like way up target few w h

  -- A run from any state is the continuation of any accepted stream that leads there.
  pub run_from_a_state : (i : ℕ) (v : List ℕ) → Letters (letters_of up) v → (out : Stream)
      → run way up target (operations v) ≡ done out → reached (machine_of up row) v ≡ i
      → (w : List ℕ) → Letters (letters_of up) w
      → spoken (machine_of up row) i w ≡ onward way up target (operations v) out (operations w)
  run_from_a_state i v h out e leads w l =
      ap (λ (j : ℕ). spoken (machine_of up row) j w) (sym leads)
      ∙ goes_on way up target (machine_of up row) runs_like_the_rule v h out e w l

  led : (v : List ℕ) → reached (machine_of up row) v ≡ ends own 0 v
  led v = ends_spelt own 0 v

  -- Every accepted stream leads to a state of the machine.
  pub leads_to_a_state : (v : List ℕ) → Letters (letters_of up) v → (out : Stream)
      → run way up target (operations v) ≡ done out → reached (machine_of up row) v < k
  leads_to_a_state v h out e = rw (led v) (lands_at v h out e).0

  -- Two accepted streams lead to the same state exactly when every continuation gets the same further output and refusals.
  pub same_state_exactly_when : (v w : List ℕ) → Letters (letters_of up) v → Letters (letters_of up) w → (out out' : Stream)
      → run way up target (operations v) ≡ done out
      → run way up target (operations w) ≡ done out'
      → (reached (machine_of up row) v ≡ reached (machine_of up row) w)
      ↔ SameState way up target (operations v) out (operations w) out'
  same_state_exactly_when v w h l out out' e f = (
    λ s y k. sym (run_from_a_state _ v h out e refl y k) ∙ run_from_a_state _ w l out' f (sym s) y k,
    λ s.
        let p = lands_at v h out e in
        let q = lands_at w l out' f in
        let r = (same_state way up target few v w h l out out' e f).1 s in
        led v ∙ one_state _ _ p.0 q.0 (same_trans m p.1 (same_trans m r (same_sym m q.1))) ∙ sym (led w),
  )

  -- Every state has its first arrival, and the states are numbered in the order of these: shorter streams first, then by operation.
  pub numbered_by_first_arrival : (firsts : ℕ → List ℕ) × ((i : ℕ) → i < k → FirstArrival way up target (machine_of up row) i (firsts i))
      × ((i j : ℕ) → i < j → j < k → firsts i ≺ firsts j)
  numbered_by_first_arrival = (
    λ i. get_or d.streams i [],
    λ i h.
        let l : i < length d.streams = omega (arith, d.count) in
        let r = accepted_run way up target few (get_or d.streams i []) (d.first.accepted i l) in
        let p = lands_at (get_or d.streams i []) r.0 r.1.0 r.1.1 in
        record {
          letters = r.0;
          out = r.1.0;
          accepted = r.1.1;
          leads = led (get_or d.streams i []) ∙ one_state _ i p.0 h p.1;
          first = λ w k out' e s.
              let q = lands_at w k out' e in
              let c = d.first.covers w (run_accepted way up target few w k out' e) in
              let one : c.0 ≡ i
              = one_state c.0 (ends own 0 w) (omega (arith, c.1, d.count)) q.0 (same_trans m c.2 (same_sym m q.1))
              ∙ sym (led w)
              ∙ s in
              rw one at c.3;
        },
    λ i j h l. d.first.rising i j h (omega (arith, d.count)),
  )

  -- Any machine on j states, of whatever kind they are, that answers like the rule has at least as many states.
  pub fewest_states : {S : Type 0} (n : Mealy S Stream) (j : ℕ) → OnStates up n j → AnswersLikeTheRule way up target n → k ≤ j
  fewest_states n j on like =
      let ws = d.streams in
      let here : (i : ℕ) → i < length ws → Letters (letters_of up) (get_or ws i [])
      × ((out : Stream) × (run way up target (operations (get_or ws i [])) ≡ done out))
      = λ i h. accepted_run way up target few (get_or ws i []) (d.first.accepted i h) in
      let fits : length ws ≤ j
      = pigeonhole (length ws) j (λ i h. on.number (reached n (get_or ws i []))) (λ i h. on.below (get_or ws i []) (here i h).0)
      (λ i l h p lt e.
      d.first.apart i l lt p
      ((same_state way up target few (get_or ws i []) (get_or ws l []) (here i h).0 (here l p).0 (here i h).1.0 (here l p).1.0
      (here i h).1.1
      (here l p).1.1).1
      (λ y r.
      sym (goes_on way up target n like (get_or ws i []) (here i h).0 (here i h).1.0 (here i h).1.1 y r)
      ∙ ap (λ s. spoken n s y) (on.apart (get_or ws i []) (get_or ws l []) (here i h).0 (here l p).0 e)
      ∙ goes_on way up target n like (get_or ws l []) (here l p).0 (here l p).1.0 (here l p).1.1 y r))) in
      omega (arith, fits, d.count)

-- A shim with the packed tables of each side's fences, of which an operation can name the first sixteen.
module _ (s : Shim) (ups fences : List ℕ) where
  abbrev way : Way
  way = s.way

  abbrev up : Model
  up = upstream_of s (named ups)

  abbrev target : Model
  target = target_of s (named fences)

  -- the rule's own machine
  abbrev ruled : Mealy Situation ℕ
  ruled = shim way up target

  few : length (named fences) ≤ 16
  few = at_most_sixteen fences refl

  module _ (rows : List ℕ) (x : Machine) (rows' : List ℕ) (made : Generated s ups fences rows (Ok x) rows') where
    situations_are : NumberOf x.situations way up target (SameSituation up target)
    situations_are =
        record {
          more = λ k h. (many_situations way up target few k).0 (made.situations.more k h);
          no_more = λ h.
              not_more ruled ◌≡◌ equal x.situations made.situations.at_most
              ((many_situations way up target few x.situations).1 h);
        }

    -- The number that the machine tells is the number of situations that accepted streams lead to.
    pub situations_told : (n : ℕ) → (x.situations ≡ n)
        ↔ NumberOf n way up target (SameSituation up target)
    situations_told n = (
      λ e.
          subst (λ (k : ℕ). NumberOf k way up target (SameSituation up target)) e
          situations_are,
      λ c. first_without _ situations_are.more situations_are.no_more c.more c.no_more,
    )

  module _ (rows : List ℕ) (r : Outcome) (rows' : List ℕ) (generated : Generated s ups fences rows r rows') where
    -- The refusal 8 is given exactly when more than 4,096 situations can be reached.
    pub refused_8_exactly_when : (r ≡ Err Refusal.TooManySituations) ↔ ManySituations way up target
    refused_8_exactly_when = (λ e. both.0 (many r e generated), λ h. look r generated (both.1 h))
      where
        both : More ruled ◌≡◌ 4096 ↔ ManySituations way up target
        both = many_situations way up target few 4096

        so_many : Unmade ruled rows Refusal.TooManySituations → More ruled ◌≡◌ 4096
        so_many (crowded h) = h

        many : (o : Outcome) → o ≡ Err Refusal.TooManySituations → Generated s ups fences rows o rows' → More ruled ◌≡◌ 4096
        many o e g = let c : Generated s ups fences rows (Err Refusal.TooManySituations) rows' = rw e at g in so_many c.0

        refusal : {why : Refusal} → Unmade ruled rows why → More ruled ◌≡◌ 4096 → why ≡ Refusal.TooManySituations
        refusal (crowded k) h = refl
        refusal (overfull f k) h = absurd (not_more _ ◌≡◌ equal 4096 f h)
        refusal (roomless f l d k) h = absurd (not_more _ ◌≡◌ equal 4096 f h)

        look : (o : Outcome) → Generated s ups fences rows o rows' → More ruled ◌≡◌ 4096 → o ≡ Err Refusal.TooManySituations
        look (Ok x) g h = absurd (not_more _ ◌≡◌ equal 4096 g.few_situations h)
        look (Err why) g h = ap Err (refusal g.0 h)

    -- The refusal 9 is given exactly when the situations are not too many and the states are more than 255.
    pub refused_9_exactly_when : (r ≡ Err Refusal.TooManyStates)
        ↔ ((ManySituations way up target → ⊥) × ManyStates way up target)
    refused_9_exactly_when = (λ e. states r e generated, λ h. look r generated h.0 (many.1 h.1))
      where
        both : More ruled ◌≡◌ 4096 ↔ ManySituations way up target
        both = many_situations way up target few 4096

        many : More ruled (Same ruled) 255 ↔ ManyStates way up target
        many = many_states way up target few

        so_many : Unmade ruled rows Refusal.TooManyStates → (ManySituations way up target → ⊥) × ManyStates way up target
        so_many (overfull f h) = (λ k. not_more _ ◌≡◌ equal 4096 f (both.1 k), many.0 h)

        states : (o : Outcome) → o ≡ Err Refusal.TooManyStates → Generated s ups fences rows o rows'
            → (ManySituations way up target → ⊥) × ManyStates way up target
        states o e g = let c : Generated s ups fences rows (Err Refusal.TooManyStates) rows' = rw e at g in so_many c.0

        refusal : {why : Refusal} → Unmade ruled rows why → (ManySituations way up target → ⊥) → More ruled (Same ruled) 255
            → why ≡ Refusal.TooManyStates
        refusal (crowded k) n h = absurd (n (both.0 k))
        refusal (overfull f k) n h = refl
        refusal (roomless f l d k) n h = absurd (too_few _ d l h)

        look : (o : Outcome) → Generated s ups fences rows o rows' → (ManySituations way up target → ⊥) → More ruled (Same ruled) 255
            → o ≡ Err Refusal.TooManyStates
        look (Ok x) g n h = absurd (too_few _ g.states g.few_states h)
        look (Err why) g n h = ap Err (refusal g.0 n h)
