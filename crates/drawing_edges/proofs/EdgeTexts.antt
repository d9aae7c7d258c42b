-- The texts of edges are the lines of a drawing: an edge tells a word of an image, and its text is that word's line; rows of them are lines in
-- turn. Assumes nothing.
use Prim.Native.Nat.{ℕ, ◌+◌, ◌*◌, ◌/◌, ◌%◌, ◌≤◌, ◌<◌}
use mathlib.Core.Path.{◌≡◌, refl, sym, ap, ap₂, subst, ◌∙◌}
use mathlib.Core.Bool.{Bool, true, false, cond}
use mathlib.Core.Logic.{◌⊎◌, inl, inr}
use mathlib.Core.List.{List, [], ◌∷◌, ◌++◌, append_assoc}
use native.Mathlib.Omega.{arith}
use borrow.Author.Tests.{ne_eqb}
use lib.Dec.{eqb, ltb}
use lib.ListN.{drop, take-append-drop}
use Rattle.ground.specs.Bytes.{bytes}
use Rattle.operations.specs.Operation.{byte_of}
use Rattle.operations.specs.Alphabet.{access_letters, operation_of, fence_mark}
use Rattle.printing.specs.Decimal.{decimal}
use Rattle.texts.specs.Language.{Telling}
use Rattle.texts.specs.Telling.{Then, Word, Numbered, took, Finds, finds}
use Rattle.texts.proofs.Language.{seq_join}
use Rattle.drawing.specs.Drawing.{edge_line}
use Rattle.drawing_edges.specs.declared.Shape.{Shape}
use Rattle.drawing_edges.specs.Edges.{middle, MarkPart, refused_word, RefusedMark, RefusedLabel, Refused, MarkEnd, Marked, LedLabel}
use Rattle.drawing_edges.specs.Edges.{Led, EndOf, EdgeEnd, EdgePart, WordOf, EdgeWord, Shaped}

-- a word and what stands behind it
word_apart : {B : Type 0} (w : List ℕ) (M : Telling B) (b : B) (t : List ℕ) → Then (Word w) (λ _. M) b t
    → (rest : List ℕ) × (t ≡ w ++ rest) × M b rest
word_apart w M b t (u, (n, ln, e, m)) = (drop n t, sym (take-append-drop n t) ∙ ap (λ (x : List ℕ). x ++ drop n t) e, m)

word_join : {B : Type 0} (w : List ℕ) (M : Telling B) (b : B) (rest : List ℕ) → M b rest → Then (Word w) (λ _. M) b (w ++ rest)
word_join w M b rest m = (tt, seq_join (Word w tt) (M b) w rest refl m)

-- what stands behind the arrow, by the fence byte and the next state
behind : ℕ → ℕ → ℕ → List ℕ
behind letter fence next =
    cond (eqb fence 254) (bytes "refused") (decimal next)
    ++ (bytes " [label=\"" ++ ((byte_of (operation_of letter) ∷ 32 ∷ fence_mark fence ∷ []) ++ bytes "\"];\n"))

line_is : (state letter w : ℕ) → (decimal state ++ bytes " -> ") ++ behind letter (w / 256) (w % 256) ≡ edge_line state letter w
unfolding behind
line_is state letter w = append_assoc (decimal state) (bytes " -> ") (behind letter (w / 256) (w % 256))

-- of a refused operation
refused_told : (letter w : ℕ) (x : List ℕ) → Refused letter w x → (w ≡ refused_word) × (x ≡ behind letter 254 0)
unfolding behind
refused_told letter w x h = by (word_apart (bytes "refused ") (RefusedLabel letter) w x h)
  where
    by : (rest : List ℕ) × (x ≡ bytes "refused " ++ rest) × RefusedLabel letter w rest → (w ≡ refused_word) × (x ≡ behind letter 254 0)
    by (rest, e, (u, (n, ln, f, (v, is, g)))) =
        let whole : rest ≡ middle letter ++ bytes "!\"];\n" = sym (take-append-drop n rest) ∙ ap₂ (λ (a b : List ℕ). a ++ b) f g in
        (sym is, e ∙ ap (λ (y : List ℕ). bytes "refused " ++ y) whole)

refused_written : (letter : ℕ) → Refused letter refused_word (behind letter 254 0)
unfolding behind
refused_written letter =
    word_join (bytes "refused ") (RefusedLabel letter) refused_word (middle letter ++ bytes "!\"];\n")
    (tt, seq_join (Word (middle letter) tt) (RefusedMark refused_word) (middle letter) (bytes "!\"];\n") refl (tt, refl, refl))

-- of one that leads to a state
module _ (marks letter : ℕ) where
  plain : {fence : ℕ} → marks ≤ 16 → (fence < marks) ⊎ (fence ≡ 255) → fence ≡ 254 → ⊥
  plain few (inl l) e = omega arith
  plain few (inr f) e = omega arith

  led_line : (fence next : ℕ) → marks ≤ 16 → (fence < marks) ⊎ (fence ≡ 255)
      → (decimal next ++ (32 ∷ [])) ++ (middle letter ++ ((fence_mark fence ∷ []) ++ bytes "\"];\n")) ≡ behind letter fence next
  unfolding behind
  led_line fence next few v =
      append_assoc (decimal next) (32 ∷ []) (middle letter ++ ((fence_mark fence ∷ []) ++ bytes "\"];\n"))
      ∙ ap
      (λ (q : Bool).
      cond q (bytes "refused") (decimal next)
      ++ (bytes " [label=\"" ++ ((byte_of (operation_of letter) ∷ 32 ∷ fence_mark fence ∷ []) ++ bytes "\"];\n")))
      (sym (ne_eqb fence 254 (plain few v)))

  -- the fence byte and the next state of a word that is told
  record LedWord (states w : ℕ) (x : List ℕ) : Type 0 where
    fence : (w / 256 < marks) ⊎ (w / 256 ≡ 255)
    next : w % 256 < states
    text : x ≡ behind letter (w / 256) (w % 256)

  module _ (states : ℕ) (few : marks ≤ 16) (below : states ≤ 255) where
    led_told : (w : ℕ) (x : List ℕ) → Led states marks letter w x → LedWord states w x
    led_told w x (next, (n, ln, (l, e), (u, (m, lm, f, (fence, (k, lk, (v, g), (u', is, last))))))) =
        subst (λ (z : ℕ). LedWord states z x) is made
      where
        r : List ℕ
        r = drop n x

        high : (256 * fence + next) / 256 ≡ fence
        high = omega arith

        low : (256 * fence + next) % 256 ≡ next
        low = omega arith

        whole : x ≡ (decimal next ++ (32 ∷ [])) ++ (middle letter ++ ((fence_mark fence ∷ []) ++ bytes "\"];\n"))
        whole =
            sym (take-append-drop n x)
            ∙ ap₂ (λ (a b : List ℕ). a ++ b) e
            (sym (take-append-drop m r)
            ∙ ap₂ (λ (a b : List ℕ). a ++ b) f (sym (take-append-drop k (drop m r)) ∙ ap₂ (λ (a b : List ℕ). a ++ b) g last))

        made : LedWord states (256 * fence + next) x
        made = record {
          fence = subst (λ (i : ℕ). (i < marks) ⊎ (i ≡ 255)) (sym high) v;
          next = omega (arith, low, l);
          text = whole ∙ led_line fence next few v ∙ ap₂ (behind letter) (sym high) (sym low);
        }

    led_written : (w : ℕ) → (w / 256 < marks) ⊎ (w / 256 ≡ 255) → w % 256 < states → Led states marks letter w (behind letter (w / 256) (w % 256))
    led_written w v l =
        subst (Led states marks letter w) (led_line fence next few v)
        (next, seq_join (Numbered states 32 next) (LedLabel marks letter next w) (decimal next ++ (32 ∷ [])) label (l, refl) labelled)
      where
        fence : ℕ
        fence = w / 256

        next : ℕ
        next = w % 256

        label : List ℕ
        label = middle letter ++ ((fence_mark fence ∷ []) ++ bytes "\"];\n")

        is : 256 * fence + next ≡ w
        is = omega arith

        labelled : LedLabel marks letter next w label
        labelled =
            word_join (middle letter) (Marked marks next) w ((fence_mark fence ∷ []) ++ bytes "\"];\n") (
              fence,
              seq_join (MarkPart marks fence) (MarkEnd next fence w) (fence_mark fence ∷ []) (bytes "\"];\n") (v, refl)
                  (tt, is, refl),
            )

-- an edge
module _ (sh : Shape) (shaped : Shaped sh) where
  end_told : (q : Bool) (letter w : ℕ) (x : List ℕ) → EndOf q sh letter w x → WordOf q sh w × (x ≡ behind letter (w / 256) (w % 256))
  end_told true letter w x (inl h) =
      let told = refused_told letter w x h in
      let high : w / 256 ≡ 254 = omega (arith, told.0) in
      let low : w % 256 ≡ 0 = omega (arith, told.0) in
      (inl (high, low), told.1 ∙ ap₂ (behind letter) (sym high) (sym low))
  end_told true letter w x (inr h) =
      let told = led_told sh.targets letter sh.states shaped.targets shaped.states w x h in
      (inr (told.fence, told.next), told.text)
  end_told false letter w x h = by (led_told 0 letter sh.states (omega arith) shaped.states w x h)
    where
      none : (w / 256 < 0) ⊎ (w / 256 ≡ 255) → w / 256 ≡ 255
      none (inl l) = absurd (omega arith)
      none (inr e) = e

      by : LedWord 0 letter sh.states w x → WordOf false sh w × (x ≡ behind letter (w / 256) (w % 256))
      by told = ((none told.fence, told.next), told.text)

  end_written : (q : Bool) (letter w : ℕ) → WordOf q sh w → EndOf q sh letter w (behind letter (w / 256) (w % 256))
  end_written true letter w (inl (high, low)) =
      let is : refused_word ≡ w = omega arith in
      inl (subst (λ (v : ℕ). Refused letter v (behind letter (w / 256) (w % 256))) is
      (subst (Refused letter refused_word) (ap₂ (behind letter) (sym high) (sym low)) (refused_written letter)))
  end_written true letter w (inr (v, l)) = inr (led_written sh.targets letter sh.states shaped.targets shaped.states w v l)
  end_written false letter w (e, l) = led_written 0 letter sh.states (omega arith) shaped.states w (inr e) l

  -- For readers: the texts of an edge are the lines of the words that an image may have there.
  pub edge_told : (state letter w : ℕ) (x : List ℕ) → EdgePart sh state letter w x → EdgeWord sh letter w × (x ≡ edge_line state letter w)
  edge_told state letter w x h = by (word_apart (decimal state ++ bytes " -> ") (EdgeEnd sh letter) w x h)
    where
      by : (rest : List ℕ) × (x ≡ (decimal state ++ bytes " -> ") ++ rest) × EdgeEnd sh letter w rest
          → EdgeWord sh letter w × (x ≡ edge_line state letter w)
      by (rest, e, end) =
          let told = end_told (ltb letter access_letters) letter w rest end in
          (told.0, e ∙ ap (λ (y : List ℕ). (decimal state ++ bytes " -> ") ++ y) told.1 ∙ line_is state letter w)

  pub edge_written : (state letter w : ℕ) → EdgeWord sh letter w → EdgePart sh state letter w (edge_line state letter w)
  edge_written state letter w good =
      subst (EdgePart sh state letter w) (line_is state letter w)
      (word_join (decimal state ++ bytes " -> ") (EdgeEnd sh letter) w (behind letter (w / 256) (w % 256))
      (end_written (ltb letter access_letters) letter w good))

  word_small : (q : Bool) (w : ℕ) → WordOf q sh w → w < 65536
  word_small true w (inl (high, low)) = omega arith
  word_small true w (inr (inl l, next)) = omega (arith, shaped.targets)
  word_small true w (inr (inr e, next)) = omega arith
  word_small false w (e, next) = omega arith

  -- so a word that is told fits two bytes
  pub edge_small : (state letter : ℕ) {t : List ℕ} {at p w : ℕ} → Finds (EdgePart sh state letter) t at (took p w) → w < 65536
  edge_small state letter {w = w} (finds e ln h) = word_small (ltb letter access_letters) w (edge_told state letter w _ h).0
