-- The longest drawing: 15 bytes of the first line, 57 of the label, 1,165 of nodes, 134,480 of edges and 2 of the last line. The numbers of 255
-- states have 655 digits; a node has 2 bytes and its digits, an edge 20, its state's digits and where it leads, which are at most 7 for an access and
-- 3 for a fence. Assumes nothing.
use Prim.Native.Nat.{ℕ, zero, suc, ◌+◌, ◌*◌, ◌/◌, ◌%◌, ◌≤◌, ◌<◌}
use mathlib.Core.Path.{◌≡◌, refl, ap}
use mathlib.Core.Bool.{Bool, true, false, cond}
use mathlib.Core.List.{List, ◌++◌}
use native.Mathlib.Nat.{suc-mul, mul-le-mul_right}
use native.Mathlib.Decide.{dec_lt}
use native.Mathlib.Omega.{arith}
use borrow.Author.Tests.{ne_eqb}
use lib.Dec.{eqb}
use lib.ListN.{length, length-append}
use Rattle.ground.specs.Bytes.{bytes}
use Rattle.operations.specs.Alphabet.{access_letters, letters_with}
use Rattle.printing.specs.Decimal.{decimal}
use Rattle.printing.specs.Name.{unfilled}
use Rattle.printing.specs.Turns.{in_turn}
use Rattle.printing.proofs.Decimals.{length_digits}
use Rattle.printing.proofs.Names.{unfilled_short}
use Rattle.printing.proofs.Turns.{length_turn, turns_short}
use Rattle.image.specs.declared.machine.Header.{Header}
use Rattle.image.specs.Image.{word, Canonical}
use Rattle.drawing.specs.Drawing.{longest, way_word, label_line, node_line, leads_to, edge_label, edge_line, state_edges, drawing_of}

-- the digits of the first k numbers are n at most: one for each of ten, two for each of ninety, three for the rest
data Digits (k n : ℕ) : Type 0 where
  one : k ≤ 10 → n ≤ k → Digits k n
  two : 10 ≤ k → k ≤ 100 → n + 10 ≤ 2 * k → Digits k n
  three : 100 ≤ k → n + 110 ≤ 3 * k → Digits k n

digits_sum : (k : ℕ) → k ≤ 255 → Digits k (length (in_turn decimal k))
unfolding in_turn
digits_sum zero h = one (omega arith) (omega arith)
digits_sum (suc k) h = by (digits_sum k (omega arith))
  where
    both : length (in_turn decimal (suc k)) ≡ length (in_turn decimal k) + length (decimal k)
    both = length_turn decimal k

    by : Digits k (length (in_turn decimal k)) → Digits (suc k) (length (in_turn decimal (suc k)))
    by (one l p) =
        elim (dec_lt k 10) [
          | yes m ↦ one (omega arith) (omega (arith, both, p, length_digits 0 k m))
          | no m ↦ two (omega arith) (omega arith) (omega (arith, both, p, length_digits 1 k (omega arith)))
        ]
    by (two g l p) =
        elim (dec_lt k 100) [
          | yes m ↦ two (omega arith) (omega arith) (omega (arith, both, p, length_digits 1 k m))
          | no m ↦ three (omega arith) (omega (arith, both, p, length_digits 2 k (omega arith)))
        ]
    by (three g p) = three (omega arith) (omega (arith, both, p, length_digits 2 k (omega arith)))

digits_most : {k n : ℕ} → Digits k n → k ≤ 255 → n ≤ 655
digits_most (one l p) h = omega arith
digits_most (two g l p) h = omega arith
digits_most (three g p) h = omega arith

-- lengths of lines

way-length : (way : ℕ) → length (way_word way) ≤ 7
way-length way = by (eqb way 0)
  where
    by : (q : Bool) → length (cond q (bytes "sparing") (bytes "full")) ≤ 7
    by true = omega arith
    by false = omega arith

label_length : (h : Header) (rows : List ℕ) → Canonical h rows → length (label_line h) ≤ 57
label_length h rows m =
    let counts : List ℕ = bytes " " ++ (decimal h.ups ++ (bytes " " ++ (decimal h.targets ++ bytes "\";\n"))) in
    let way : List ℕ = way_word h.way ++ counts in
    omega (
      arith,
      length-append (unfilled h.upstream) (bytes " " ++ (unfilled h.target ++ (bytes " " ++ way))),
      length-append (unfilled h.target) (bytes " " ++ way),
      length-append (way_word h.way) counts,
      length-append (decimal h.ups) (bytes " " ++ (decimal h.targets ++ bytes "\";\n")),
      length-append (decimal h.targets) (bytes "\";\n"),
      unfilled_short h.upstream,
      m.upstream.size,
      unfilled_short h.target,
      m.target.size,
      way-length h.way,
      length_digits 1 h.ups (omega (arith, m.ups)),
      length_digits 1 h.targets (omega (arith, m.targets)),
    )

pub nodes_length : (k : ℕ) → length (in_turn node_line k) ≡ length (in_turn decimal k) + 2 * k
unfolding in_turn
nodes_length zero = refl
nodes_length (suc k) =
    omega (arith, length_turn node_line k, length_turn decimal k, length-append (decimal k) (bytes ";\n"), nodes_length k)

pub edge_length : (s a w : ℕ) → length (edge_line s a w) ≡ length (decimal s) + 20 + length (leads_to w)
edge_length s a w =
    let rest : List ℕ = bytes " [label=\"" ++ (edge_label a w ++ bytes "\"];\n") in
    omega (arith, length-append (decimal s) (bytes " -> " ++ (leads_to w ++ rest)), length-append (leads_to w) rest)

-- where an edge leads, of any letter and of a fence's
leads-length : (w : ℕ) → length (leads_to w) ≤ 7
leads-length w = by (eqb (w / 256) 254)
  where
    by : (q : Bool) → length (cond q (bytes "refused") (decimal (w % 256))) ≤ 7
    by true = omega arith
    by false = omega (arith, length_digits 2 (w % 256) (omega arith))

fence_leads_length : (w : ℕ) → w / 256 ≡ 255 → length (leads_to w) ≤ 3
fence_leads_length w e = rw (ne_eqb (w / 256) 254 (λ d. omega arith)) (length_digits 2 (w % 256) (omega arith))

-- texts of at most p bytes each, and k more of at most q
turns_more : (text : ℕ → List ℕ) (n k p q : ℕ) → ((i : ℕ) → i < n → length (text i) ≤ p) → ((i : ℕ) → i < k → length (text (n + i)) ≤ q)
    → length (in_turn text (n + k)) ≤ n * p + k * q
turns_more text n zero p q h g =
    let e : n + 0 ≡ n = omega arith in
    omega (arith, ap (λ (m : ℕ). length (in_turn text m)) e, turns_short text n p h)
turns_more text n (suc k) p q h g =
    let e : n + suc k ≡ suc (n + k) = omega arith in
    let more : suc k * q ≡ k * q + q = suc-mul k q in
    omega (
      arith,
      ap (λ (m : ℕ). length (in_turn text m)) e,
      more,
      length_turn text (n + k),
      turns_more text n k p q h (λ i l. g i (omega arith)),
      g k (omega arith),
    )

module _ (h : Header) (rows : List ℕ) (m : Canonical h rows) where
  state_length : (s : ℕ) → s < h.states → length (state_edges (letters_with h.ups) rows s) ≤ 20 * length (decimal s) + 476
  state_length s l =
      let d : ℕ = length (decimal s) in
      let fences : h.ups * (d + 23) ≤ 16 * (d + 23) = mul-le-mul_right (d + 23) m.ups in
      omega (
        arith,
        fences,
        turns_more (λ (a : ℕ). edge_line s a (word rows s a)) access_letters h.ups (d + 27) (d + 23)
            (λ a _. omega (arith, edge_length s a (word rows s a), leads-length (word rows s a)))
            (λ f k.
            let w : ℕ = word rows s (access_letters + f) in
            omega (arith, edge_length s (access_letters + f) w, fence_leads_length w (m.fences s f l k).0)),
      )

  edges-length : (k : ℕ) → k ≤ h.states
      → length (in_turn (state_edges (letters_with h.ups) rows) k) ≤ 20 * length (in_turn decimal k) + 476 * k
  unfolding in_turn
  edges-length zero l = omega arith
  edges-length (suc k) l =
      omega (
        arith,
        length_turn (state_edges (letters_with h.ups) rows) k,
        length_turn decimal k,
        edges-length k (omega arith),
        state_length k (omega arith),
      )

  -- For readers: no drawing of a machine that has an image is longer.
  pub drawing_length : length (drawing_of h rows) ≤ longest
  drawing_length =
      let edges : List ℕ = in_turn (state_edges (letters_with h.ups) rows) h.states in
      let nodes : List ℕ = in_turn node_line h.states in
      omega (
        arith,
        length-append (label_line h) (nodes ++ (edges ++ bytes "}\n")),
        length-append nodes (edges ++ bytes "}\n"),
        length-append edges (bytes "}\n"),
        label_length h rows m,
        nodes_length h.states,
        edges-length h.states (omega arith),
        digits_most (digits_sum h.states m.states) m.states,
        m.states,
      )
