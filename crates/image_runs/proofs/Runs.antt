-- A run over an image, step by step: what was put out so far, and then the run of the rest, is the whole run. Assumes nothing.
use Rattle.std.proofs.Common.{Ok, Err}
use Prim.Native.Nat.{ℕ, suc, ◌+◌, ◌<◌, ◌≤◌}
use mathlib.Core.Path.{◌≡◌, refl, sym, ap, ap₂, ◌∙◌}
use mathlib.Core.List.{List, [], ◌∷◌, ◌++◌, append-nil, append_assoc}
use native.Mathlib.Numerals.{add-one}
use native.Mathlib.Omega.{arith}
use lib.ListN.{length, set, take, drop, get_or, length-set, drop_of_length-le}
use lib.Seq.{take-suc-set, drop-cons}
use Rattle.image_runs.specs.declared.Stop.{Stop}
use Rattle.image_runs.specs.declared.Move.{Move}
use Rattle.image_runs.specs.Run.{Step, step_at, puts, inserts, leads, Walked, ended, stopped, walked_on, resumed, walked}
use Rattle.image_runs.specs.declared.Progress.{Progress}
use Rattle.image_runs.specs.inner.Walking.{Moved, Going}

module _ (p : Progress) (b : ℕ) (room : List ℕ) (m : Move) where
  pub put_passed : (t : ℕ) → m ≡ Move.Passed t → Moved p b m room (record { written = p.written; fences = p.fences; state = t }) room
  put_passed t e = rw e (record {
    size = refl;
    out = sym (append-nil _);
    written = omega arith;
    fences = omega arith;
    state = refl;
  })

  pub put_plain : (t : ℕ) → m ≡ Move.Plain t → p.written < length room
      → Moved p b m room (record { written = p.written + 1; fences = p.fences; state = t }) (set room p.written b)
  put_plain t e l = rw e (record {
    size = length-set room p.written b;
    out = rw add-one (take-suc-set room p.written b l);
    written = refl;
    fences = omega arith;
    state = refl;
  })

  pub put_fenced : (x t : ℕ) → m ≡ Move.Fenced x t → p.written + 1 < length room
      → Moved p b m room (record { written = p.written + 2; fences = p.fences + 1; state = t })
      (set (set room p.written x) (p.written + 1) b)
  put_fenced x t e l = rw e (record {
    size = simp length-set;
    out = two;
    written = refl;
    fences = refl;
    state = refl;
  })
    where
      w : ℕ
      w = p.written

      one : take (w + 1) (set room w x) ≡ take w room ++ (x ∷ [])
      one = rw add-one (take-suc-set room w x (omega arith))

      two : take (w + 2) (set (set room w x) (w + 1) b) ≡ take w room ++ (x ∷ b ∷ [])
      two =
          let s : w + 2 ≡ suc (w + 1) = omega arith in
          rw s
          (take-suc-set (set room w x) (w + 1) b (simp length-set (omega arith)) ∙ ap (λ (l : List ℕ). l ++ (b ∷ [])) one
          ∙ append_assoc (take w room) (x ∷ []) (b ∷ []))

-- one more part in front
pub walked_further : (k l n m : ℕ) (x y : List ℕ) (r : Walked) → walked_on k x n (walked_on l y m r) ≡ walked_on (k + l) (x ++ y) (n + m) r
walked_further k l n m x y (ended out f s) =
    let e : n + (m + f) ≡ n + m + f = omega arith in
    ap₂ (λ (o : List ℕ) (c : ℕ). ended o c s) (sym (append_assoc x y out)) e
walked_further k l n m x y (stopped why i) = let e : k + (l + i) ≡ k + l + i = omega arith in ap (stopped why) e

-- none in front
pub walked_none : (r : Walked) → walked_on 0 [] 0 r ≡ r
walked_none (ended out f s) = let e : 0 + f ≡ f = omega arith in ap (λ (c : ℕ). ended out c s) e
walked_none (stopped why i) = let e : 0 + i ≡ i = omega arith in ap (stopped why) e

-- how much a move can add
pub puts_few : (b : ℕ) (m : Move) → length (puts b m) ≤ 2
puts_few b (Move.Passed t) = omega arith
puts_few b (Move.Plain t) = omega arith
puts_few b (Move.Fenced x t) = omega arith

inserts_few : (m : Move) → inserts m ≤ 1
inserts_few (Move.Passed t) = omega arith
inserts_few (Move.Plain t) = omega arith
inserts_few (Move.Fenced x t) = omega arith

module _ (image : List ℕ) (start : ℕ) (stream : List ℕ) where
  pub going_start : (room : List ℕ) → start < 256 → Going image start stream (record { written = 0; fences = 0; state = start }) room 0
  going_start room l =
      record {
        few = omega arith;
        fewer = omega arith;
        small = l;
        so_far = sym (walked_none (walked image start stream));
      }

  -- the run of the rest, with its first byte's step
  next : (s k : ℕ) → k < length stream → (step : Step) → step ≡ step_at image s (get_or stream k 0)
      → walked image s (drop k stream) ≡ resumed (get_or stream k 0) (λ (t : ℕ). walked image t (drop (k + 1) stream)) step
  unfolding walked
  next s k l step e =
      rw (drop-cons stream k 0 l, add-one) (ap (resumed (get_or stream k 0) (λ (t : ℕ). walked image t (drop (suc k) stream))) (sym e))

  module _ (p : Progress) (room : List ℕ) (k : ℕ) (g : Going image start stream p room k) where
    -- one byte more, which a step takes
    module _ (inside : k < length stream) where
      so_far_by : (step : Step) → step ≡ step_at image p.state (get_or stream k 0)
          → walked image start stream
          ≡ walked_on k (take p.written room) p.fences
          (resumed (get_or stream k 0) (λ (t : ℕ). walked image t (drop (k + 1) stream)) step)
      so_far_by step is = g.so_far ∙ ap (walked_on k (take p.written room) p.fences) (next p.state k inside step is)

      pub going_on : (m : Move) (r : Progress) (room' : List ℕ) → Ok m ≡ step_at image p.state (get_or stream k 0) → leads m < 256
          → Moved p (get_or stream k 0) m room r room' → Going image start stream r room' (k + 1)
      going_on m r room' is small u =
          record {
            few = omega (arith, g.few, u.written, puts_few (get_or stream k 0) m);
            fewer = omega (arith, g.fewer, u.fences, inserts_few m);
            small = omega (arith, u.state, small);
            so_far =
                so_far_by (Ok m) is
                ∙ walked_further k 1 p.fences (inserts m) (take p.written room) (puts (get_or stream k 0) m) (rest (leads m))
                ∙ ap₂ (λ (o : List ℕ) (c : ℕ). walked_on (k + 1) o c (rest (leads m))) (sym u.out) (sym u.fences)
                ∙ ap (λ (t : ℕ). walked_on (k + 1) (take r.written room') r.fences (rest t)) (sym u.state);
          }
        where
          rest : ℕ → Walked
          rest t = walked image t (drop (k + 1) stream)

      pub going_stops : (why : Stop) → Err why ≡ step_at image p.state (get_or stream k 0) → walked image start stream ≡ stopped why k
      going_stops why is =
          let z : k + 0 ≡ k = omega arith in
          so_far_by (Err why) is ∙ ap (stopped why) z

    pub going_ends : length stream ≤ k → walked image start stream ≡ ended (take p.written room) p.fences p.state
    unfolding walked
    going_ends l =
        let z : p.fences + 0 ≡ p.fences = omega arith in
        g.so_far
        ∙ ap (λ (s : List ℕ). walked_on k (take p.written room) p.fences (walked image p.state s)) (drop_of_length-le stream l)
        ∙ ap₂ (λ (o : List ℕ) (c : ℕ). ended o c p.state) (append-nil _) z
