-- The longest drawing is reached: a machine of the layout, with names of 16 bytes in the sparing way, 255 states and 16 fences on both sides, where
-- every access is refused and every fence leads to state 254, has a drawing of 135,719 bytes. Assumes nothing.
use Prim.Native.Nat.{ℕ, zero, suc, ◌+◌, ◌*◌, ◌%◌, ◌≤◌, ◌<◌}
use mathlib.Core.Path.{◌≡◌, refl, ap, ◌∙◌}
use mathlib.Core.Bool.{cond}
use mathlib.Core.Logic.{inl}
use mathlib.Core.List.{List, ◌++◌}
use native.Mathlib.Nat.{suc-mul}
use native.Mathlib.Omega.{arith}
use borrow.Author.Tests.{lt-ltb, le-ltb}
use lib.Dec.{ltb}
use lib.ListN.{length, replicate, length-append, get_or-replicate}
use Rattle.ground.specs.Bytes.{bytes, name_byte}
use Rattle.operations.specs.Alphabet.{access_letters, letters_with, stride}
use Rattle.printing.specs.Decimal.{digits, decimal}
use Rattle.printing.specs.Name.{unfilled}
use Rattle.printing.specs.Turns.{in_turn}
use Rattle.printing.proofs.Turns.{length_turn}
use Rattle.image.specs.declared.machine.Header.{Header}
use Rattle.image.specs.Image.{listed, word, NameField, Canonical}
use Rattle.image.proofs.Fronts.{at_listed}
use Rattle.drawing.specs.Drawing.{longest, label_line, node_line, leads_to, edge_line, state_edges, drawing_of}
use Rattle.drawing.proofs.Longest.{nodes_length, edge_length, drawing_length}

-- the machine
abbrev name : List ℕ
name = replicate 16 97

abbrev pub longest_header : Header
longest_header = record { way = 0; states = 255; ups = 16; targets = 16; upstream = name; target = name }

abbrev word_at : ℕ → ℕ
word_at a = cond (ltb a access_letters) (254 * 256) (255 * 256 + 254)

pub longest_rows : List ℕ
longest_rows = listed (255 * stride) (λ (j : ℕ). word_at (j % stride))

word_is : (s a : ℕ) → s < 255 → a < stride → word longest_rows s a ≡ word_at a
unfolding longest_rows
word_is s a ls la =
    let e : (s * stride + a) % stride ≡ a = omega arith in
    at_listed (255 * stride) (λ (j : ℕ). word_at (j % stride)) (s * stride + a) (omega arith) ∙ ap word_at e

access_is : (s a : ℕ) → s < 255 → a < access_letters → word longest_rows s a ≡ 254 * 256
access_is s a ls la = word_is s a ls (omega arith) ∙ rw (lt-ltb a access_letters la)

fence_is : (s f : ℕ) → s < 255 → f < 16 → word longest_rows s (access_letters + f) ≡ 255 * 256 + 254
fence_is s f ls lf = word_is s (access_letters + f) ls (omega arith) ∙ rw (le-ltb (access_letters + f) access_letters (omega arith))

name_field : NameField name
name_field = record {
  size = refl;
  name = 16;
  some = omega arith;
  few = omega arith;
  bytes = λ k l. ap name_byte (get_or-replicate 16 k 97 0 l);
  zeros = λ k g l. absurd (omega arith);
}

pub longest_machine : Canonical longest_header longest_rows
longest_machine = record {
  way = omega arith;
  some = omega arith;
  states = omega arith;
  ups = omega arith;
  targets = omega arith;
  upstream = name_field;
  target = name_field;
  accesses = λ s a ls la. inl (omega (arith, access_is s a ls la), omega (arith, access_is s a ls la));
  fences = λ s f ls lf. (omega (arith, fence_is s f ls lf), omega (arith, fence_is s f ls lf));
  absent = λ s f ls g l. absurd (omega arith);
}

-- texts of at least p bytes each, and k more of at least q
each_least : (text : ℕ → List ℕ) (n p : ℕ) → ((i : ℕ) → i < n → p ≤ length (text i)) → n * p ≤ length (in_turn text n)
each_least text zero p h = omega arith
each_least text (suc n) p h =
    let more : suc n * p ≡ n * p + p = suc-mul n p in
    omega (arith, more, length_turn text n, each_least text n p (λ i l. h i (omega arith)), h n (omega arith))

turns_least : (text : ℕ → List ℕ) (n k p q : ℕ) → ((i : ℕ) → i < n → p ≤ length (text i)) → ((i : ℕ) → i < k → q ≤ length (text (n + i)))
    → n * p + k * q ≤ length (in_turn text (n + k))
turns_least text n zero p q h g =
    let e : n + 0 ≡ n = omega arith in
    omega (arith, ap (λ (m : ℕ). length (in_turn text m)) e, each_least text n p h)
turns_least text n (suc k) p q h g =
    let e : n + suc k ≡ suc (n + k) = omega arith in
    let more : suc k * q ≡ k * q + q = suc-mul k q in
    omega (
      arith,
      ap (λ (m : ℕ). length (in_turn text m)) e,
      more,
      length_turn text (n + k),
      turns_least text n k p q h (λ i l. g i (omega arith)),
      g k (omega arith),
    )

-- where its edges lead
leads_refused : length (leads_to (254 * 256)) ≡ 7
leads_refused = refl

leads_far : length (leads_to (255 * 256 + 254)) ≡ 3
unfolding decimal digits
leads_far = refl

abbrev edges : ℕ → List ℕ
edges = state_edges (letters_with 16) longest_rows

state_least : (s : ℕ) → s < 255 → 20 * length (decimal s) + 476 ≤ length (edges s)
state_least s l =
    let d : ℕ = length (decimal s) in
    omega (
      arith,
      turns_least (λ (a : ℕ). edge_line s a (word longest_rows s a)) access_letters 16 (d + 27) (d + 23)
          (λ a k.
          let w : ℕ = word longest_rows s a in
          omega (arith, edge_length s a w, ap (λ (x : ℕ). length (leads_to x)) (access_is s a l k), leads_refused))
          (λ f k.
          let w : ℕ = word longest_rows s (access_letters + f) in
          omega (arith, edge_length s (access_letters + f) w, ap (λ (x : ℕ). length (leads_to x)) (fence_is s f l k), leads_far)),
    )

edges_least : (k : ℕ) → k ≤ 255 → 20 * length (in_turn decimal k) + 476 * k ≤ length (in_turn edges k)
unfolding in_turn
edges_least zero l = omega arith
edges_least (suc k) l =
    omega (arith, length_turn edges k, length_turn decimal k, edges_least k (omega arith), state_least k (omega arith))

all_digits : length (in_turn decimal 255) ≡ 655
unfolding in_turn decimal digits
all_digits = refl

label_is : length (label_line longest_header) ≡ 57
unfolding unfilled decimal digits
label_is = refl

pub longest-length : length (drawing_of longest_header longest_rows) ≡ longest
longest-length =
    let last : List ℕ = in_turn edges 255 ++ bytes "}\n" in
    omega (
      arith,
      drawing_length longest_header longest_rows longest_machine,
      length-append (label_line longest_header) (in_turn node_line 255 ++ last),
      length-append (in_turn node_line 255) last,
      length-append (in_turn edges 255) (bytes "}\n"),
      label_is,
      nodes_length 255,
      edges_least 255 (omega arith),
      all_digits,
    )
