-- What is given by the calls that take an image, in 01's words: the verdict on an image goes by the lowest wrong block and the lowest barred byte,
-- a run over one by the first byte at fault, and the other stages by what they test. Assumes nothing.
use Rattle.std.proofs.Common.{Option, Some, None, Ok, Err}
use Prim.Native.Nat.{ℕ, ◌+◌, ◌*◌, ◌<◌, ◌≤◌}
use mathlib.Core.Path.{◌≡◌, refl, ap, ap₂, subst, ◌∙◌}
use mathlib.Core.Bool.{Bool, true, false, cond}
use mathlib.Core.List.{List, [], ◌∷◌, ◌++◌}
use native.Mathlib.Decide.{dec_lt, dec_le}
use native.Mathlib.Omega.{arith}
use borrow.Author.Tests.{eq-eqb, lt-ltb, le-ltb, eqb-true, ltb-true, ltb-false}
use lib.Dec.{ltb, eqb}
use lib.ListN.{length}
use Rattle.ground.specs.Bytes.{at}
use Rattle.ground.proofs.Lowest.{lowest_takes, lowest_nowhere, takes_lowest, none_nowhere}
use Rattle.ground.proofs.Truths.{differ}
use Rattle.answers.specs.declared.Refusal.{Refusal}
use Rattle.answers.specs.Answer.{Verdict}
use Rattle.answers.specs.Given.{Given, gives, refuses, unless_refused}
use Rattle.operations.specs.declared.Kind.{Kind}
use Rattle.operations.specs.declared.Operation.{Operation}
use Rattle.operations.specs.Operation.{byte_is}
use Rattle.operations.specs.Alphabet.{letter_of}
use Rattle.places.specs.Layout.{limit, position}
use Rattle.blocks.specs.Wrong.{wrong}
use Rattle.barred.specs.Barred.{barred, states_of, upstream_fences_of}
use Rattle.layout.specs.Verdict.{block_count, lowest_wrong, lowest_barred, stages, verdict_of}
use Rattle.image.specs.Calls.{written_back}
use Rattle.image_runs.specs.declared.Stop.{Stop}
use Rattle.image_runs.specs.declared.Move.{Move}
use Rattle.image_runs.specs.Run.{Step}
use Rattle.image_runs.specs.Run.{step_as, step_at, puts, inserts, leads, Walked, ended, stopped, walked_on, resumed, walked, then}
use Rattle.image_runs.specs.Run.{refusal_of, outcome_of, run_as, run_over}
use Rattle.image_runs.proofs.Theorems.{goes_on}
use Rattle.demands.specs.ImageCalls as calls
use Rattle.demands.specs.ImageCalls.{ImageRefused, broken, barred_value, WalkStopsAt, WalkFault4, WalkFault5, WalkFault6}
use Rattle.demands.specs.ImageCalls.{ImageRunRefused, no_such_state, no_operation, no_such_fence, no_fence_will_do}
use Rattle.demands.proofs.Delivered.{Withheld, refused, exceeds, refused_as}
use Rattle.demands.proofs.Threads.{over_walk, over_long}

module _ (image : List ℕ) where
  -- An image is refused exactly when 01 says.
  pub verdict_told : {why : Refusal} → verdict_of image ≡ Err why → ImageRefused image why
  unfolding verdict_of
  verdict_told {why} = by (ltb limit (length image)) refl
    where
      as_is : {v : Refusal} → ImageRefused image v → Path Verdict (Err v) (Err why) → ImageRefused image why
      as_is {v} h e =
          let same : v ≡ why = cc in
          subst (ImageRefused image) same h

      found : length image ≤ 7168 → (a b : Option ℕ) → lowest_wrong image ≡ a → lowest_barred image ≡ b → stages a b ≡ Err why
          → ImageRefused image why
      found l (Some b) c p q e =
          let t = lowest_takes (wrong image) 0 (block_count image) b p in
          as_is (broken b l (omega (arith, t.1)) t.2 (λ c k. t.3 c (omega arith) k)) e
      found l None (Some k) p q e =
          let none = lowest_nowhere (wrong image) 0 (block_count image) p in
          let t = lowest_takes (barred image) 0 (length image) k q in
          as_is (barred_value k l (λ b m. none b (omega arith) (omega arith)) (omega (arith, t.1)) t.2 (λ j m. t.3 j (omega arith) m)) e
      found l None None p q e = differ (cc)

      by : (b : Bool) → ltb limit (length image) ≡ b
          → cond b (Err Refusal.OverLimit) (stages (lowest_wrong image) (lowest_barred image)) ≡ Err why
          → ImageRefused image why
      by true p e = as_is (calls.over_limit (omega (arith, ltb-true limit (length image) p))) e
      by false p e = found (omega (arith, ltb-false limit (length image) p)) (lowest_wrong image) (lowest_barred image) refl refl e

  within : length image ≤ 7168 → verdict_of image ≡ stages (lowest_wrong image) (lowest_barred image)
  unfolding verdict_of
  within l = rw (le-ltb limit (length image) (omega arith))

  pub told_verdict : {why : Refusal} → ImageRefused image why → verdict_of image ≡ Err why
  unfolding verdict_of
  told_verdict (calls.over_limit l) = rw (lt-ltb limit (length image) (omega arith))
  told_verdict (broken b l k t none) =
      within l ∙ ap (λ (a : Option ℕ). stages a (lowest_barred image))
      (takes_lowest (wrong image) 0 (block_count image) b (omega arith) (omega arith) t (λ c p q. none c q))
  told_verdict (barred_value k l none m t lower) =
      within l
      ∙ ap₂ (λ (a b : Option ℕ). stages a b) (none_nowhere (wrong image) 0 (block_count image) (λ b p q. none b (omega arith)))
      (takes_lowest (barred image) 0 (length image) k (omega arith) (omega arith) t (λ j p q. lower j q))

-- What is withheld by a call that reads an image and writes it back.
module _ (image : List ℕ) (room : ℕ) where
  pub back_told : {why : Refusal} → Withheld (written_back image) room why → calls.ReadRefused image room why
  unfolding written_back
  back_told h = by (verdict_of image) refl h
    where
      by : (v : Verdict) → verdict_of image ≡ v → {why : Refusal} → Withheld (unless_refused v (λ _. gives image 0 0)) room why
          → calls.ReadRefused image room why
      by (Err is) e {why} (refused h) =
          let same : is ≡ why = cc in
          calls.image_refused (verdict_told image (e ∙ ap Err same))
      by (Err is) e (exceeds h l) = differ (cc)
      by (Ok tt) e (refused h) = differ (cc)
      by (Ok tt) e (exceeds {bytes = bytes} h l) =
          let same : image ≡ bytes = cc in
          calls.too_small e (omega (arith, l, ap length same))

  pub told_back : {why : Refusal} → calls.ReadRefused image room why → Withheld (written_back image) room why
  unfolding written_back
  told_back (calls.image_refused h) = refused (ap (λ (v : Verdict). unless_refused v (λ _. gives image 0 0)) (told_verdict image h))
  told_back (calls.too_small a l) = exceeds (ap (λ (v : Verdict). unless_refused v (λ _. gives image 0 0)) a) l

-- A run stops at a byte exactly when there is a fault with it in the state that the bytes before it lead to: so by induction on them.
module _ (image : List ℕ) where
  -- the fault that a reason names
  abbrev FaultOf : Stop → ℕ → ℕ → Type 0
  FaultOf Stop.NoOperation = WalkFault4 image
  FaultOf Stop.NoSuchFence = WalkFault5 image
  FaultOf Stop.NoFenceWillDo = WalkFault6 image

  stop_fault : (why : Stop) (b s : ℕ) → step_at image s b ≡ Err why → FaultOf why b s
  unfolding step_at
  stop_fault why b s = by (byte_is b) refl
    where
      as_is : (is : Stop) → FaultOf is b s → Path Step (Err is) (Err why) → FaultOf why b s
      as_is is h e =
          let same : is ≡ why = cc in
          subst (λ (x : Stop). FaultOf x b s) same h

      access : (k : Kind) → byte_is b ≡ Some (Operation.Access k) → (t : Bool) → eqb (at image (position 1 s (2 * letter_of k))) 254 ≡ t
          → (m : Move) → cond t (Err Stop.NoFenceWillDo) (Ok m) ≡ Err why → FaultOf why b s
      access k is true t m e = as_is Stop.NoFenceWillDo (k, is, eqb-true (at image (position 1 s (2 * letter_of k))) 254 t) e
      access k is false t m e = differ (cc)

      fence : (f : ℕ) → byte_is b ≡ Some (Operation.Fence f) → (t : Bool) → ltb f (upstream_fences_of image) ≡ t
          → (m : Move) → cond t (Ok m) (Err Stop.NoSuchFence) ≡ Err why → FaultOf why b s
      fence f is true t m e = differ (cc)
      fence f is false t m e = as_is Stop.NoSuchFence (f, is, ltb-false f (upstream_fences_of image) t) e

      by : (x : Option Operation) → byte_is b ≡ x → step_as image s x ≡ Err why → FaultOf why b s
      by None is e = as_is Stop.NoOperation is e
      by (Some (Operation.Access k)) is e = access k is (eqb (at image (position 1 s (2 * letter_of k))) 254) refl _ e
      by (Some (Operation.Fence f)) is e = fence f is (ltb f (upstream_fences_of image)) refl _ e

  fault_stop : (why : Stop) (b s : ℕ) → FaultOf why b s → step_at image s b ≡ Err why
  unfolding step_at
  fault_stop Stop.NoOperation b s h = ap (step_as image s) h
  fault_stop Stop.NoSuchFence b s (f, e, l) = rw (e, le-ltb f (upstream_fences_of image) l)
  fault_stop Stop.NoFenceWillDo b s (k, e, l) = rw (e, eq-eqb (at image (position 1 s (2 * letter_of k))) 254 l)

  -- a byte that is taken comes before a stop further on
  further : {s b i : ℕ} {m : Move} {rest : List ℕ} {Fault : ℕ → ℕ → Type 0} → step_at image s b ≡ Ok m
      → WalkStopsAt image (leads m) rest i Fault → WalkStopsAt image s (b ∷ rest) (1 + i) Fault
  unfolding walked
  further {b = b} {m = m} e h =
      record {
        first = b ∷ h.first;
        byte = h.byte;
        rest = h.rest;
        split = ap (λ (l : List ℕ). b ∷ l) h.split;
        index = omega (arith, h.index);
        put = puts b m ++ h.put;
        inserted = inserts m + h.inserted;
        state = h.state;
        leads_to_state = ap (resumed b (λ (t : ℕ). walked image t h.first)) e ∙ ap (walked_on 1 (puts b m) (inserts m)) h.leads_to_state;
        fault = h.fault;
      }

  walk_told : (why : Stop) (s : ℕ) (stream : List ℕ) (place : ℕ) → walked image s stream ≡ stopped why place
      → WalkStopsAt image s stream place (FaultOf why)
  unfolding walked
  walk_told why s [] place e = differ (cc)
  walk_told why s (b ∷ rest) place e = by (step_at image s b) refl (λ t i. walk_told why t rest i) e
    where
      StopsHere : ℕ → Type 0
      StopsHere i = WalkStopsAt image s (b ∷ rest) i (FaultOf why)

      later : (m : Move) → step_at image s b ≡ Ok m → (w : Walked) → walked image (leads m) rest ≡ w
          → ((i : ℕ) → walked image (leads m) rest ≡ stopped why i → WalkStopsAt image (leads m) rest i (FaultOf why))
          → walked_on 1 (puts b m) (inserts m) w ≡ stopped why place → StopsHere place
      later m is (ended out n t) w next e = differ (cc)
      later m is (stopped stop i) w next e =
          let same : stopped stop i ≡ stopped why i = cc in
          let index : 1 + i ≡ place = cc in
          subst StopsHere index (further is (next i (w ∙ same)))

      by : (step : Step) → step_at image s b ≡ step
          → ((t i : ℕ) → walked image t rest ≡ stopped why i → WalkStopsAt image t rest i (FaultOf why))
          → resumed b (λ (t : ℕ). walked image t rest) step ≡ stopped why place → StopsHere place
      by (Ok m) is next e = later m is (walked image (leads m) rest) refl (next (leads m)) e
      by (Err stop) is next e =
          let same : Err stop ≡ Err why = cc in
          record {
            first = [];
            byte = b;
            rest = rest;
            split = refl;
            index = cc;
            put = [];
            inserted = 0;
            state = s;
            leads_to_state = refl;
            fault = stop_fault why b s (is ∙ same);
          }

  told_walk : (why : Stop) {s : ℕ} {stream : List ℕ} {place : ℕ} → WalkStopsAt image s stream place (FaultOf why)
      → walked image s stream ≡ stopped why place
  unfolding walked
  told_walk why {s} {place = place} h =
      let rest : ℕ → Walked = λ (t : ℕ). walked image t (h.byte ∷ h.rest) in
      let here : rest h.state ≡ stopped why 0
      = ap (resumed h.byte (λ (t : ℕ). walked image t h.rest)) (fault_stop why h.byte h.state h.fault) in
      let index : length h.first + 0 ≡ place = omega (arith, h.index) in
      ap (walked image s) h.split
      ∙ goes_on image s h.first (h.byte ∷ h.rest)
      ∙ ap (λ (r : Walked). then (length h.first) r rest) h.leads_to_state
      ∙ ap (walked_on (length h.first) h.put h.inserted) here
      ∙ ap (stopped why) index

-- And by a run over an image.
module _ (image : List ℕ) (start : ℕ) (stream : List ℕ) (room : ℕ) where
  abbrev Told : Refusal → Type 0
  Told = ImageRunRefused image start stream room

  abbrev given : Given
  given = run_over image start stream

  by_walk : verdict_of image ≡ Ok tt → start < states_of image → length stream ≤ 4096 → (w : Walked) → walked image start stream ≡ w
      → {why : Refusal} → Withheld (outcome_of w) room why → Told why
  by_walk a l k (ended bytes f t) e (refused h) = differ (cc)
  by_walk a l k (ended bytes f t) e (exceeds {bytes = out} h m) =
      let same : bytes ≡ out = cc in
      calls.too_small a l k bytes f t e (omega (arith, m, ap length same))
  by_walk a l k (stopped is place) e h = subst Told (refused_as refl h) (stops is e)
    where
      stops : (is : Stop) → walked image start stream ≡ stopped is place → Told (refusal_of is place)
      stops Stop.NoOperation e = no_operation place a l k (walk_told image Stop.NoOperation start stream place e)
      stops Stop.NoSuchFence e = no_such_fence place a l k (walk_told image Stop.NoSuchFence start stream place e)
      stops Stop.NoFenceWillDo e = no_fence_will_do place a l k (walk_told image Stop.NoFenceWillDo start stream place e)

  out_of_range : verdict_of image ≡ Ok tt → states_of image ≤ start → given ≡ refuses Refusal.OutOfRange
  unfolding run_over
  out_of_range a l = rw (a, le-ltb start (states_of image) l)

  pub run_told : {why : Refusal} → Withheld given room why → Told why
  unfolding run_over
  run_told {why} h = by_verdict (verdict_of image) refl
    where
      by_length : verdict_of image ≡ Ok tt → start < states_of image → Dec (length stream ≤ 4096) → Told why
      by_length a l (yes k) =
          by_walk a l k (walked image start stream) refl (subst (λ (g : Given). Withheld g room why) (over_walk image start stream a l k) h)
      by_length a l (no k) =
          let long : 4096 < length stream = omega arith in
          subst Told (refused_as (over_long image start stream a l long) h) (calls.over_limit a l long)

      by_start : verdict_of image ≡ Ok tt → Dec (start < states_of image) → Told why
      by_start a (yes l) = by_length a l (dec_le (length stream) 4096)
      by_start a (no l) = subst Told (refused_as (out_of_range a (omega arith)) h) (no_such_state a (omega arith))

      by_verdict : (v : Verdict) → verdict_of image ≡ v → Told why
      by_verdict (Err is) a =
          calls.image_refused (verdict_told image (a ∙ ap Err (refused_as (ap (run_as image start stream) a) h)))
      by_verdict (Ok tt) a = by_start a (dec_lt start (states_of image))

  stopping : (why : Stop) {place : ℕ} → verdict_of image ≡ Ok tt → start < states_of image → length stream ≤ 4096
      → WalkStopsAt image start stream place (FaultOf image why) → Withheld given room (refusal_of why place)
  stopping why a l k h = refused (over_walk image start stream a l k ∙ ap outcome_of (told_walk image why h))

  pub told_run : {why : Refusal} → Told why → Withheld given room why
  unfolding run_over
  told_run (calls.image_refused h) = refused (ap (run_as image start stream) (told_verdict image h))
  told_run (no_such_state a l) = refused (out_of_range a l)
  told_run (calls.over_limit a l k) = refused (over_long image start stream a l k)
  told_run (no_operation place a l k h) = stopping Stop.NoOperation a l k h
  told_run (no_such_fence place a l k h) = stopping Stop.NoSuchFence a l k h
  told_run (no_fence_will_do place a l k h) = stopping Stop.NoFenceWillDo a l k h
  told_run (calls.too_small a l k bytes f t e m) = exceeds (over_walk image start stream a l k ∙ ap outcome_of e) m
