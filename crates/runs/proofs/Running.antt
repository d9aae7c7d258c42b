-- The run of a stream, turn by turn: what is laid so far and what is left to run are the whole run. Assumes nothing.
use Rattle.std.proofs.Common.{Result, Ok, Err}
use Prim.Native.Nat.{ℕ, ◌+◌, ◌*◌, ◌≤◌, ◌<◌}
use mathlib.Core.Path.{◌≡◌, refl, sym, ap, subst, ◌∙◌}
use mathlib.Core.List.{List, [], ◌∷◌, ◌++◌, append-nil, append_assoc}
use native.Mathlib.Numerals.{add-one}
use native.Mathlib.Omega.{arith}
use lib.ListN.{length, get_or, take, drop, set, length-set, drop_of_length-le}
use lib.Seq.{drop-cons, take-suc-set}
use Rattle.answers.specs.declared.Refusal.{Refusal}
use Rattle.answers.specs.Given.{Given}
use Rattle.operations.specs.Operation.{fence_byte}
use Rattle.rule.specs.declared.situation.Situation.{Situation}
use Rattle.rule.specs.Situation.{fresh}
use Rattle.shims.specs.declared.Sides.{Sides}
use Rattle.runs.proofs.Ahead.{ahead_none, ahead_puts, ahead_ahead}
use Rattle.runs.specs.Bytes.{puts}
use Rattle.runs.specs.declared.Move.{Move}
use Rattle.runs.specs.declared.Progress.{Progress}
use Rattle.runs.specs.inner.Laying.{turned, laid, Ends}
use Rattle.runs.specs.inner.Moves.{moved, ahead, moves_on, moves, for_sides}

-- one byte laid behind n, and two
laid_one : (l : List ℕ) (n b : ℕ) → n < length l → take (n + 1) (set l n b) ≡ take n l ++ (b ∷ [])
laid_one l n b h = ap (λ (m : ℕ). take m (set l n b)) (add-one n) ∙ take-suc-set l n b h

laid_two : (l : List ℕ) (n f b : ℕ) → n + 1 < length l → take (n + 2) (set (set l n f) (n + 1) b) ≡ take n l ++ (f ∷ b ∷ [])
laid_two l n f b h =
    let e : n + 2 ≡ n + 1 + 1 = omega arith in
    ap (λ (m : ℕ). take m (set (set l n f) (n + 1) b)) e
    ∙ laid_one (set l n f) (n + 1) b (simp length-set h)
    ∙ ap (λ (q : List ℕ). q ++ (b ∷ [])) (laid_one l n f (omega arith))
    ∙ append_assoc (take n l) (f ∷ []) (b ∷ [])

module _ (sides : Sides) (stream : List ℕ) where
  -- the whole run, the run from an index on, the byte that stands there, and what it does
  abbrev pub whole : Given
  whole = for_sides moves sides fresh 0 stream

  abbrev from : ℕ → Situation → Given
  from at s = for_sides moves sides s at (drop at stream)

  abbrev byte : ℕ → ℕ
  byte at = get_or stream at 0

  abbrev pub move : Situation → ℕ → Result Move Refusal
  move s at = for_sides moved sides s at (byte at)

  -- where the run has come to: before index `at`, in this situation, with so many bytes laid
  pub record Running (situation : Situation) (written at : ℕ) (buffer : List ℕ) : Type 0 where
    pub here : at ≤ length stream
    pub room : written ≤ 2 * at
    pub size : length buffer ≡ 8192
    pub all : whole ≡ ahead (take written buffer) (from at situation)

  pub starts : (buffer : List ℕ) → length buffer ≡ 8192 → Running fresh 0 0 buffer
  starts buffer size = record { here = omega arith; room = omega arith; size = size; all = sym (ahead_none whole) }

  module _ {situation : Situation} {written at : ℕ} {buffer : List ℕ} (run : Running situation written at buffer) where
    -- with the next byte, the whole is what that byte does and what follows
    turns : at < length stream → whole ≡ ahead (take written buffer) (moves_on (byte at) (from (at + 1)) (move situation at))
    unfolding moves
    turns l =
        run.all
        ∙ ap (λ (s : List ℕ). ahead (take written buffer) (for_sides moves sides situation at s)) (drop-cons stream at 0 l)
        ∙ ap (λ (n : ℕ). ahead (take written buffer) (moves_on (byte at) (from n) (move situation at))) (sym (add-one at))

    -- what a byte does once its move is known
    turns_by : (m : Result Move Refusal) → at < length stream → m ≡ move situation at
        → whole ≡ ahead (take written buffer) (moves_on (byte at) (from (at + 1)) m)
    turns_by m l e = turns l ∙ ap (λ (x : Result Move Refusal). ahead (take written buffer) (moves_on (byte at) (from (at + 1)) x)) (sym e)

    pub ends : length stream ≤ 4096 → length stream ≤ at → Ends whole (Ok written) buffer
    unfolding moves
    ends few l =
        record {
          fits = omega (arith, run.here, run.room, run.size);
          is =
              run.all
              ∙ ap (λ (s : List ℕ). ahead (take written buffer) (for_sides moves sides situation at s)) (drop_of_length-le stream l)
              ∙ ahead_puts (take written buffer) []
              ∙ ap puts (append-nil (take written buffer));
        }

    pub stops : {r : Result Move Refusal} (why : Refusal) (x : Result ℕ Refusal) (after : List ℕ) → at < length stream → r ≡ move situation at
        → r ≡ Err why → x ≡ Err why → Ends whole x after
    stops why x after l e h told =
        subst (λ (x : Result ℕ Refusal). Ends whole x after) (sym told)
        (record { fits = tt; is = turns_by (Err why) l (sym h ∙ e) })

    -- more bytes laid, and the rest of the run
    more : (next : Situation) (n : ℕ) (after bytes : List ℕ) → at < length stream → n ≤ 2 * (at + 1) → length after ≡ length buffer
        → take n after ≡ take written buffer ++ bytes → whole ≡ ahead (take written buffer) (ahead bytes (from (at + 1) next))
        → Running next n (at + 1) after
    more next n after bytes l room size laid_so e =
        record {
          here = omega arith;
          room = room;
          size = size ∙ run.size;
          all =
              e ∙ ahead_ahead (take written buffer) bytes (from (at + 1) next)
              ∙ ap (λ (q : List ℕ). ahead q (from (at + 1) next)) (sym laid_so);
        }

    -- a turn that leaves the buffer so
    abbrev Goes : List ℕ → Progress → Type 0
    Goes after p = Running p.situation p.written (at + 1) after

    goes : (m : Move) (p : Progress) → at < length stream → length stream ≤ 4096 → Ok m ≡ move situation at → turned m written ≡ p
        → Goes (laid m (byte at) written buffer) p
    goes (Move.Silent next) p l few e q =
        subst (Goes buffer) q
        (more next written buffer [] l (omega (arith, run.room)) refl (sym (append-nil (take written buffer)))
        (turns_by (Ok (Move.Silent next)) l e ∙ ap (ahead (take written buffer)) (sym (ahead_none (from (at + 1) next)))))
    goes (Move.Plain next) p l few e q =
        let after = set buffer written (byte at) in
        subst (Goes after) q
        (more next (written + 1) after (byte at ∷ []) l (omega (arith, run.room)) (length-set buffer written (byte at))
        (laid_one buffer written (byte at) (omega (arith, run.room, run.size)))
        (turns_by (Ok (Move.Plain next)) l e))
    goes (Move.Fenced g next) p l few e q =
        let after = set (set buffer written (fence_byte g)) (written + 1) (byte at) in
        subst (Goes after) q
        (more next (written + 2) after (fence_byte g ∷ byte at ∷ []) l (omega (arith, run.room)) (simp length-set)
        (laid_two buffer written (fence_byte g) (byte at) (omega (arith, run.room, run.size)))
        (turns_by (Ok (Move.Fenced g next)) l e))

    pub goes_on : (m : Move) (p : Progress) (after : List ℕ) → at < length stream → length stream ≤ 4096 → Ok m ≡ move situation at
        → turned m written ≡ p → after ≡ laid m (byte at) written buffer → Goes after p
    goes_on m p after l few e t b = subst (λ (x : List ℕ). Goes x p) (sym b) (goes m p l few e t)
