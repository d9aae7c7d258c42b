-- The parts of a label, one behind another: each is found as its first part and then the rest are. Assumes nothing.
use Rattle.std.proofs.Common.{Ok, Err}
use Prim.Native.Nat.{ℕ}
use mathlib.Core.Path.{◌≡◌, subst}
use mathlib.Core.List.{List}
use native.Mathlib.Omega.{arith}
use Rattle.ground.specs.Bytes.{bytes}
use Rattle.texts.specs.Step.{Step, Part}
use Rattle.texts.specs.Pattern.{follow_at}
use Rattle.texts.specs.NamePart.{name_at}
use Rattle.texts.specs.NumberPart.{number_at}
use Rattle.texts.specs.Telling.{Word, Named, Numbered, part_taken, Taken, took, stopped, Finds}
use Rattle.texts.proofs.Telling.{then_goes, then_stops, through_took, through_stopped, unique_word}
use Rattle.drawing_label.specs.Label.{Label, name_from, WayPart, LabelEnd, FromTargets, FromUps, FromWay, FromTarget, FromUpstream, LabelPart}
use Rattle.drawing_label.proofs.Words.{word_found, word_stuck, name_found, name_stuck, number_found, number_stuck}
use Rattle.drawing_label.proofs.Labels.{some_upstream, some_target, some_way, some_ups, some_targets, some_end}
use Rattle.drawing_label.proofs.Labels.{unique_blank, unique_way, unique_ups, unique_targets}

abbrev opening : List ℕ
opening = bytes "digraph shim {\nlabel=\""

module _ {t : List ℕ} {p : ℕ} {r : Step} (is : r ≡ follow_at opening t 0) where
  pub opening_stops : r ≡ Err p → Finds LabelPart t 0 (stopped p)
  opening_stops e = then_stops (Word opening) (λ _. FromUpstream) t 0 (λ _. some_upstream) (word_stuck opening t 0 tt is e)

  pub opening_goes : r ≡ Ok p → {x : Taken Label} → Finds FromUpstream t p x → Finds LabelPart t 0 x
  opening_goes e h = then_goes (Word opening) (λ _. FromUpstream) t 0 (unique_word opening) (word_found opening t 0 tt is e) h

-- the names
module _ {t : List ℕ} {at p : ℕ} {r : Step} (is : r ≡ name_at 32 t at) where
  pub upstream_stops : r ≡ Err p → Finds FromUpstream t at (stopped p)
  upstream_stops e = then_stops (Named 32) FromTarget t at some_target (name_stuck 32 (λ no. no) t at is e)

  pub upstream_goes : r ≡ Ok p → {x : Taken Label} → Finds (FromTarget (name_from t at)) t p x → Finds FromUpstream t at x
  upstream_goes e h = then_goes (Named 32) FromTarget t at unique_blank (name_found 32 (λ no. no) t at is e) h

  pub target_stops : (upstream : List ℕ) → r ≡ Err p → Finds (FromTarget upstream) t at (stopped p)
  target_stops upstream e = then_stops (Named 32) (FromWay upstream) t at (some_way upstream) (name_stuck 32 (λ no. no) t at is e)

  pub target_goes : (upstream : List ℕ) → r ≡ Ok p → {x : Taken Label} → Finds (FromWay upstream (name_from t at)) t p x
      → Finds (FromTarget upstream) t at x
  target_goes upstream e h = then_goes (Named 32) (FromWay upstream) t at unique_blank (name_found 32 (λ no. no) t at is e) h

-- what is told behind the names, behind all that is in front of it
pub named_goes : {t : List ℕ} {a b p : ℕ} {r s z : Step} → r ≡ follow_at opening t 0 → r ≡ Ok a → s ≡ name_at 32 t a → s ≡ Ok b
    → z ≡ name_at 32 t b → z ≡ Ok p → {x : Taken Label} → Finds (FromWay (name_from t a) (name_from t b)) t p x → Finds LabelPart t 0 x
named_goes opens e first f second g h = opening_goes opens e (upstream_goes first f (target_goes second _ g h))

-- the way and the two numbers
module _ (upstream target : List ℕ) {t : List ℕ} {at : ℕ} {r : Part} where
  module _ (way : Finds WayPart t at (part_taken r)) where
    way_is : {s : Part} → r ≡ s → Finds WayPart t at (part_taken s)
    way_is e = subst (λ (s : Part). Finds WayPart t at (part_taken s)) e way

    pub way_stops : {p : ℕ} → r ≡ Err p → Finds (FromWay upstream target) t at (stopped p)
    way_stops e = then_stops WayPart (FromUps upstream target) t at (some_ups upstream target) (way_is e)

    pub way_goes : {p way : ℕ} → r ≡ Ok (p, way) → {x : Taken Label} → Finds (FromUps upstream target way) t p x
        → Finds (FromWay upstream target) t at x
    way_goes e h = then_goes WayPart (FromUps upstream target) t at unique_way (way_is e) h

  module _ (way : ℕ) (is : r ≡ number_at 17 32 t at) where
    pub ups_stops : {p : ℕ} → r ≡ Err p → Finds (FromUps upstream target way) t at (stopped p)
    ups_stops e =
        then_stops (Numbered 17 32) (FromTargets upstream target way) t at (some_targets upstream target way)
        (number_stuck 17 32 (omega arith) t at is e)

    pub ups_goes : {p ups : ℕ} → r ≡ Ok (p, ups) → {x : Taken Label} → Finds (FromTargets upstream target way ups) t p x
        → Finds (FromUps upstream target way) t at x
    ups_goes e h =
        then_goes (Numbered 17 32) (FromTargets upstream target way) t at unique_ups (number_found 17 32 (omega arith) t at is e) h

  module _ (way ups : ℕ) (is : r ≡ number_at 17 34 t at) where
    pub targets_stops : {p : ℕ} → r ≡ Err p → Finds (FromTargets upstream target way ups) t at (stopped p)
    targets_stops e =
        then_stops (Numbered 17 34) (LabelEnd upstream target way ups) t at (some_end upstream target way ups)
        (number_stuck 17 34 (omega arith) t at is e)

    pub targets_goes : {p targets : ℕ} → r ≡ Ok (p, targets) → {x : Taken Label} → Finds (LabelEnd upstream target way ups targets) t p x
        → Finds (FromTargets upstream target way ups) t at x
    targets_goes e h =
        then_goes (Numbered 17 34) (LabelEnd upstream target way ups) t at unique_targets (number_found 17 34 (omega arith) t at is e) h

-- the end of its line
module _ (upstream target : List ℕ) (way ups targets : ℕ) {t : List ℕ} {at p : ℕ} {r : Step} (is : r ≡ follow_at (bytes ";\n") t at) where
  pub end_stops : r ≡ Err p → Finds (LabelEnd upstream target way ups targets) t at (stopped p)
  end_stops e = through_stopped _ (Word (bytes ";\n")) t at (word_stuck (bytes ";\n") t at tt is e)

  pub end_goes : r ≡ Ok p
      → Finds (LabelEnd upstream target way ups targets) t at
      (took p record { upstream = upstream; target = target; way = way; ups = ups; targets = targets })
  end_goes e = through_took _ (Word (bytes ";\n")) t at (word_found (bytes ";\n") t at tt is e)
