-- The parts of an edge, one behind another: each is told by one text at most, has a text, and is found as its first part and then the rest are.
-- Assumes nothing.
use Rattle.std.proofs.Common.{Ok, Err}
use Prim.Native.Nat.{ℕ, zero, suc, ◌+◌, ◌*◌, ◌≤◌, ◌<◌}
use mathlib.Core.Path.{◌≡◌, sym, ap, subst, ◌∙◌}
use mathlib.Core.Bool.{Bool, true, false, not, ◌&&◌}
use mathlib.Core.List.{List, [], ◌∷◌, ◌++◌}
use native.Mathlib.Omega.{arith}
use native.Mathlib.Nat.{add-zero}
use native.Mathlib.Decide.{dec_lt}
use borrow.Author.Tests.{ne_eqb, lt-ltb, le-ltb}
use lib.Dec.{T, ltb}
use lib.ListN.{length, take, drop, get_or}
use lib.Seq.{get_or-drop}
use Rattle.ground.specs.Bytes.{bytes}
use Rattle.operations.specs.declared.Kind.{Kind}
use Rattle.operations.specs.declared.Operation.{Operation}
use Rattle.operations.specs.Operation.{byte_of}
use Rattle.operations.specs.Alphabet.{access_letters, operation_of}
use Rattle.operations.proofs.Bytes.{low_fence, high_fence, no_fence_lem}
use Rattle.printing.specs.Decimal.{decimal}
use Rattle.texts.specs.Step.{Step, Part}
use Rattle.texts.specs.Pattern.{is_word, follow_at}
use Rattle.texts.specs.NumberPart.{is_digit, number_at}
use Rattle.texts.specs.Language.{Telling, Any, Some, Unique}
use Rattle.texts.specs.Telling.{Then, Through, Word, Numbered, part_taken, Taken, took, stopped, Finds, finds}
use Rattle.texts.proofs.Telling.{unique_then, some_then, then_stops, then_goes, unique_through, some_through, through_took}
use Rattle.texts.proofs.Telling.{through_stopped, unique_word, some_word, unique_either, some_either, either_first, either_second}
use Rattle.texts.proofs.NumberPart.{unique_numbered, some_numbered, word-append, decimal_word, first_digit}
use Rattle.drawing_edges.specs.declared.Shape.{Shape}
use Rattle.drawing_edges.specs.Edges.{middle, MarkPart, refused_word, RefusedMark, RefusedLabel, Refused, MarkEnd, Marked}
use Rattle.drawing_edges.specs.Edges.{LedLabel, Led, EndOf, EdgeEnd, EdgePart, Shaped}
use Rattle.drawing_label.proofs.Words.{word_found, word_stuck, number_found, number_stuck}
use Rattle.drawing_edges.proofs.Marks.{mark_small, unique_mark, some_mark}

-- no operation's byte is `?`, so the label's middle is a word
byte_plain : (op : Operation) → byte_of op ≡ 63 → ⊥
byte_plain (Operation.Access Kind.Ld) e = omega arith
byte_plain (Operation.Access Kind.Cld) e = omega arith
byte_plain (Operation.Access Kind.St) e = omega arith
byte_plain (Operation.Access Kind.Cst) e = omega arith
byte_plain (Operation.Fence n) e = by (dec_lt n 10) (dec_lt n 16)
  where
    by : Dec (n < 10) → Dec (n < 16) → ⊥
    by (yes l) q = omega (arith, sym (low_fence n l) ∙ e)
    by (no l) (yes u) = omega (arith, sym (high_fence n (omega arith) u) ∙ e)
    by (no l) (no u) = omega (arith, sym (no_fence_lem n (omega arith)) ∙ e)

middle_word : (letter : ℕ) → T (is_word (middle letter))
middle_word letter =
    subst (λ (q : Bool). T (not q && true)) (sym (ne_eqb (byte_of (operation_of letter)) 63 (byte_plain (operation_of letter)))) tt

-- a word that was followed
module _ (w : List ℕ) (word : T (is_word w)) {t : List ℕ} {at : ℕ} {r : Step} (is : r ≡ follow_at w t at) where
  pub word_stops : {B : Type 0} {p : ℕ} (M : Telling B) → Some (Any M) → r ≡ Err p → Finds (Then (Word w) (λ _. M)) t at (stopped p)
  word_stops M some e = then_stops (Word w) (λ _. M) t at (λ _. some) (word_stuck w t at word is e)

  pub word_goes : {B : Type 0} {p : ℕ} (M : Telling B) → r ≡ Ok p → {x : Taken B} → Finds M t p x → Finds (Then (Word w) (λ _. M)) t at x
  word_goes M e h = then_goes (Word w) (λ _. M) t at (unique_word w) (word_found w t at word is e) h

  pub last_stops : {p : ℕ} (v : ℕ) → r ≡ Err p → Finds (Through (λ _. v) (Word w)) t at (stopped p)
  last_stops v e = through_stopped (λ _. v) (Word w) t at (word_stuck w t at word is e)

  pub last_goes : {p : ℕ} (v : ℕ) → r ≡ Ok p → Finds (Through (λ _. v) (Word w)) t at (took p v)
  last_goes v e = through_took (λ _. v) (Word w) t at (word_found w t at word is e)

unique_last : (w : List ℕ) (v : ℕ) → Unique (Through (λ _. v) (Word w))
unique_last w v = unique_through (λ _. v) (Word w) (unique_word w)

some_last : (w : List ℕ) (v : ℕ) → Some (Any (Through (λ _. v) (Word w)))
some_last w v = some_through (λ _. v) (Word w) (some_word w)

unique_behind : {B : Type 0} (w : List ℕ) (M : Telling B) → Unique M → Unique (Then (Word w) (λ _. M))
unique_behind w M u = unique_then (Word w) (λ _. M) (unique_word w) (λ _. u)

some_behind : {B : Type 0} (w : List ℕ) (M : Telling B) → Some (Any M) → Some (Any (Then (Word w) (λ _. M)))
some_behind w M s = some_then (Word w) (λ _. M) (some_word w) (λ _. s)

-- a refused operation
some_refused_mark : Some (Any RefusedMark)
some_refused_mark = some_last (bytes "!\"];\n") refused_word

unique_refused_label : (letter : ℕ) → Unique (RefusedLabel letter)
unique_refused_label letter = unique_behind (middle letter) RefusedMark (unique_last (bytes "!\"];\n") refused_word)

some_refused_label : (letter : ℕ) → Some (Any (RefusedLabel letter))
some_refused_label letter = some_behind (middle letter) RefusedMark some_refused_mark

unique_refused : (letter : ℕ) → Unique (Refused letter)
unique_refused letter = unique_behind (bytes "refused ") (RefusedLabel letter) (unique_refused_label letter)

some_refused : (letter : ℕ) → Some (Any (Refused letter))
some_refused letter = some_behind (bytes "refused ") (RefusedLabel letter) (some_refused_label letter)

module _ (letter : ℕ) {t : List ℕ} {at p : ℕ} {r : Step} where
  pub refused_label_stops : r ≡ follow_at (middle letter) t at → r ≡ Err p → Finds (RefusedLabel letter) t at (stopped p)
  refused_label_stops is =
      word_stops (middle letter) (middle_word letter) is RefusedMark some_refused_mark

  pub refused_label_goes : r ≡ follow_at (middle letter) t at → r ≡ Ok p → {x : Taken ℕ}
      → Finds RefusedMark t p x → Finds (RefusedLabel letter) t at x
  refused_label_goes is = word_goes (middle letter) (middle_word letter) is RefusedMark

  pub refused_stops : r ≡ follow_at (bytes "refused ") t at → r ≡ Err p → Finds (Refused letter) t at (stopped p)
  refused_stops is = word_stops (bytes "refused ") tt is (RefusedLabel letter) (some_refused_label letter)

  pub refused_goes : r ≡ follow_at (bytes "refused ") t at → r ≡ Ok p → {x : Taken ℕ} → Finds (RefusedLabel letter) t p x
      → Finds (Refused letter) t at x
  refused_goes is = word_goes (bytes "refused ") tt is (RefusedLabel letter)

-- one that leads to a state
some_mark_end : (next fence : ℕ) → Some (Any (MarkEnd next fence))
some_mark_end next fence = some_last (bytes "\"];\n") (256 * fence + next)

unique_marked : (marks next : ℕ) → marks ≤ 16 → Unique (Marked marks next)
unique_marked marks next few =
    unique_then (MarkPart marks) (MarkEnd next) (unique_mark marks few) (λ fence. unique_last (bytes "\"];\n") (256 * fence + next))

some_marked : (marks next : ℕ) → Some (Any (Marked marks next))
some_marked marks next = some_then (MarkPart marks) (MarkEnd next) (some_mark marks) (some_mark_end next)

unique_led_label : (marks letter next : ℕ) → marks ≤ 16 → Unique (LedLabel marks letter next)
unique_led_label marks letter next few = unique_behind (middle letter) (Marked marks next) (unique_marked marks next few)

some_led_label : (marks letter next : ℕ) → Some (Any (LedLabel marks letter next))
some_led_label marks letter next = some_behind (middle letter) (Marked marks next) (some_marked marks next)

module _ (marks next : ℕ) {t : List ℕ} {at : ℕ} {r : Part} (found : Finds (MarkPart marks) t at (part_taken r)) where
  mark_is : {s : Part} → r ≡ s → Finds (MarkPart marks) t at (part_taken s)
  mark_is e = subst (λ (s : Part). Finds (MarkPart marks) t at (part_taken s)) e found

  -- so the word's sum fits
  pub fence_small : marks ≤ 16 → {p fence : ℕ} → r ≡ Ok (p, fence) → fence ≤ 255
  fence_small few e = small (mark_is e)
    where
      small : {p fence : ℕ} → Finds (MarkPart marks) t at (took p fence) → fence ≤ 255
      small (finds f ln m) = mark_small few m

  pub marked_stops : {p : ℕ} → r ≡ Err p → Finds (Marked marks next) t at (stopped p)
  marked_stops e = then_stops (MarkPart marks) (MarkEnd next) t at (some_mark_end next) (mark_is e)

  pub marked_goes : marks ≤ 16 → {p : ℕ} (fence : ℕ) → r ≡ Ok (p, fence) → {x : Taken ℕ}
      → Finds (MarkEnd next fence) t p x → Finds (Marked marks next) t at x
  marked_goes few fence e h = then_goes (MarkPart marks) (MarkEnd next) t at (unique_mark marks few) (mark_is e) h

module _ (marks letter next : ℕ) {t : List ℕ} {at p : ℕ} {r : Step} (is : r ≡ follow_at (middle letter) t at) where
  pub led_label_stops : r ≡ Err p → Finds (LedLabel marks letter next) t at (stopped p)
  led_label_stops = word_stops (middle letter) (middle_word letter) is (Marked marks next) (some_marked marks next)

  pub led_label_goes : r ≡ Ok p → {x : Taken ℕ} → Finds (Marked marks next) t p x → Finds (LedLabel marks letter next) t at x
  led_label_goes = word_goes (middle letter) (middle_word letter) is (Marked marks next)

-- where an edge leads to a state: a blank is no digit, so the number ends there
blank : T (is_digit 32) → ⊥
blank d = d

module _ (states marks letter : ℕ) (some : 1 ≤ states) where
  unique_led : marks ≤ 16 → Unique (Led states marks letter)
  unique_led few =
      unique_then (Numbered states 32) (LedLabel marks letter) (unique_numbered states 32 blank) (λ next. unique_led_label marks letter next few)

  some_led : Some (Any (Led states marks letter))
  some_led = some_then (Numbered states 32) (LedLabel marks letter) (some_numbered states 32 some) (some_led_label marks letter)

  module _ (t : List ℕ) (at : ℕ) {r : Part} (is : r ≡ number_at states 32 t at) where
    pub next_small : {p next : ℕ} → r ≡ Ok (p, next) → next < states
    next_small e = small (number_found states 32 some t at is e)
      where
        small : {p next : ℕ} → Finds (Numbered states 32) t at (took p next) → next < states
        small (finds f ln m) = m.0

    pub led_stops : {p : ℕ} → r ≡ Err p → Finds (Led states marks letter) t at (stopped p)
    led_stops e = then_stops (Numbered states 32) (LedLabel marks letter) t at (some_led_label marks letter) (number_stuck states 32 some t at is e)

    pub led_goes : {p : ℕ} (next : ℕ) → r ≡ Ok (p, next) → {x : Taken ℕ} → Finds (LedLabel marks letter next) t p x
        → Finds (Led states marks letter) t at x
    led_goes next e h = then_goes (Numbered states 32) (LedLabel marks letter) t at (unique_numbered states 32 blank)
        (number_found states 32 some t at is e) h

-- the first byte tells where the edge of an access leads
front_byte : (n : ℕ) (x w : List ℕ) (b : ℕ) → take n x ≡ b ∷ w → get_or x 0 0 ≡ b
front_byte zero x w b e = let bad : 0 ≡ suc (length w) = ap length e in absurd (omega arith)
front_byte (suc n) [] w b e = let bad : 0 ≡ suc (length w) = ap length e in absurd (omega arith)
front_byte (suc n) (c ∷ x) w b e = ap (λ (y : List ℕ). get_or y 0 0) e

first_at : (t : List ℕ) (at b : ℕ) → b ≡ get_or t at 0 → get_or (drop at t) 0 0 ≡ b
first_at t at b is = get_or-drop at t 0 0 ∙ ap (λ (i : ℕ). get_or t i 0) (add-zero at) ∙ sym is

IsR : ℕ → Type 0
IsR b = b ≡ 114

Digits : ℕ → Type 0
Digits b = (48 ≤ b) × (b ≤ 57)

refused_begins : (letter w : ℕ) (x : List ℕ) → Refused letter w x → IsR (get_or x 0 0)
unfolding IsR
refused_begins letter w x (u, (n, ln, e, rest)) = front_byte n x (bytes "efused ") 114 e

led_begins : (states marks letter w : ℕ) (x : List ℕ) → Led states marks letter w x → Digits (get_or x 0 0)
unfolding Digits
led_begins states marks letter w x (v, (n, ln, (l, e), rest)) = by (first_digit v)
  where
    by : (b : ℕ) × (ds : List ℕ) × (decimal v ≡ b ∷ ds) × (48 ≤ b) × (b ≤ 57) × (1 ≤ v → 49 ≤ b) → Digits (get_or x 0 0)
    by (b, ds, f, low, high, some) =
        let first : get_or x 0 0 ≡ b = front_byte n x (ds ++ (32 ∷ [])) b (e ∙ ap (λ (y : List ℕ). y ++ (32 ∷ [])) f) in
        (omega arith, omega arith)

no_r : IsR 0 → ⊥
unfolding IsR
no_r e = omega arith

no_digit : Digits 0 → ⊥
unfolding Digits
no_digit d = omega arith

not_both : (b : ℕ) → IsR b → Digits b → ⊥
unfolding IsR Digits
not_both b r d = omega arith

module _ (sh : Shape) (shaped : Shaped sh) where
  unique_end : (q : Bool) (letter : ℕ) → Unique (EndOf q sh letter)
  unique_end true letter =
      unique_either (Refused letter) (Led sh.states sh.targets letter) IsR Digits no_r no_digit not_both (refused_begins letter)
      (led_begins sh.states sh.targets letter) (unique_refused letter)
      (unique_led sh.states sh.targets letter shaped.some shaped.targets)
  unique_end false letter = unique_led sh.states 0 letter shaped.some (omega arith)

  some_end : (q : Bool) (letter : ℕ) → Some (Any (EndOf q sh letter))
  some_end true letter = some_either (Refused letter) (Led sh.states sh.targets letter) (some_refused letter)
  some_end false letter = some_led sh.states 0 letter shaped.some

  arrow_word : (state : ℕ) → T (is_word (decimal state ++ bytes " -> "))
  arrow_word state = word-append (decimal state) (bytes " -> ") (decimal_word state) tt

  pub unique_edge : (state letter : ℕ) → Unique (EdgePart sh state letter)
  unique_edge state letter = unique_behind (decimal state ++ bytes " -> ") (EdgeEnd sh letter) (unique_end (ltb letter access_letters) letter)

  pub some_edge : (state letter : ℕ) → Some (Any (EdgePart sh state letter))
  some_edge state letter = some_behind (decimal state ++ bytes " -> ") (EdgeEnd sh letter) (some_end (ltb letter access_letters) letter)

  module _ (letter : ℕ) {t : List ℕ} {at : ℕ} {x : Taken ℕ} where
    end_is : (q : Bool) → ltb letter access_letters ≡ q → Finds (EndOf q sh letter) t at x → Finds (EdgeEnd sh letter) t at x
    end_is q e = subst (λ (z : Bool). Finds (EndOf z sh letter) t at x) (sym e)

    pub end_fence : access_letters ≤ letter → Finds (Led sh.states 0 letter) t at x → Finds (EdgeEnd sh letter) t at x
    end_fence l = end_is false (le-ltb letter access_letters l)

    module _ (l : letter < access_letters) {b : ℕ} (is : b ≡ get_or t at 0) where
      pub end_refused : b ≡ 114 → Finds (Refused letter) t at x → Finds (EdgeEnd sh letter) t at x
      unfolding IsR
      end_refused e h =
          end_is true (lt-ltb letter access_letters l)
          (either_first (Refused letter) (Led sh.states sh.targets letter) t at Digits no_digit (led_begins sh.states sh.targets letter)
          (not_both (get_or (drop at t) 0 0) (first_at t at b is ∙ e)) h)

      pub end_led : (b ≡ 114 → ⊥) → Finds (Led sh.states sh.targets letter) t at x → Finds (EdgeEnd sh letter) t at x
      unfolding IsR
      end_led ne h =
          end_is true (lt-ltb letter access_letters l)
          (either_second (Refused letter) (Led sh.states sh.targets letter) t at IsR no_r (refused_begins letter)
          (λ e. ne (sym (first_at t at b is) ∙ e)) h)

  module _ (state letter : ℕ) {t : List ℕ} {at : ℕ} {r : Step} (is : r ≡ follow_at (decimal state ++ bytes " -> ") t at) {p : ℕ} where
    pub edge_stops : r ≡ Err p → Finds (EdgePart sh state letter) t at (stopped p)
    edge_stops =
        word_stops (decimal state ++ bytes " -> ") (arrow_word state) is (EdgeEnd sh letter) (some_end (ltb letter access_letters) letter)

    pub edge_goes : r ≡ Ok p → {x : Taken ℕ} → Finds (EdgeEnd sh letter) t p x → Finds (EdgePart sh state letter) t at x
    edge_goes = word_goes (decimal state ++ bytes " -> ") (arrow_word state) is (EdgeEnd sh letter)
