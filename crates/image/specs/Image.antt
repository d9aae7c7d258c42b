-- A machine and its image, each made from the other. Document 01: "The machine image", as in Layout; by the case of each byte's place.
-- A machine is its header and its rows: a word for each state and letter, at a constant stride, 256 times the fence byte and the next state.
-- The letters are l, L, s, S and then the upstream fences, whose words have FF for a fence byte; the word of a letter that the machine has not
-- is 0.
use Rattle.std.specs.Prelude.{ℕ, zero, suc, ◌+◌, ◌-◌, ◌*◌, ◌/◌, ◌%◌, ◌<◌, ◌≤◌, ◌≡◌, true, cond, ◌⊎◌, List, [], ◌∷◌, ◌++◌, leb, ltb, eqb, length, Result, Ok, Err}
use Rattle.ground.specs.Bytes.{at, name_byte}
use Rattle.answers.specs.Buffer.{buffer_with}
use Rattle.answers.specs.declared.Refusal.{Refusal}
use Rattle.answers.specs.Answer.{Verdict}
use Rattle.operations.specs.Alphabet.{access_letters, stride}
use Rattle.places.specs.declared.Place.{Place}
use Rattle.image.specs.declared.machine.Header.{Header}
use Rattle.blocks.specs.Checksum.{two_bytes, checksum}
use Rattle.places.specs.Layout.{accesses, blocks_for, stands_at, position}
use Rattle.barred.specs.Barred.{states_of, upstream_fences_of, target_fences_of}
use Rattle.layout.specs.Verdict.{verdict_of}

-- the first n values of f
unfoldable pub listed : ℕ → (ℕ → ℕ) → List ℕ
listed zero f = []
listed (suc n) f = listed n f ++ (f n ∷ [])

-- the word of a state and a letter, in rows
abbrev pub word : List ℕ → ℕ → ℕ → ℕ
word rows s a = at rows (s * stride + a)

-- from a machine to its image

-- the byte of a two-byte number that stands at an even or an odd index
unfoldable pub half : ℕ → ℕ → ℕ
half i n = cond (eqb (i % 2) 0) (n / 256) (n % 256)

-- "Unused states are zero"
unfoldable pub used : Header → ℕ → ℕ → ℕ
used h s v = cond (ltb s h.states) v 0

abbrev pub value_as : Header → List ℕ → ℕ → Place → ℕ
value_as h rows i Place.Number = half i (i / 512)
value_as h rows i Place.Form = 1
value_as h rows i Place.Way = h.way
value_as h rows i Place.States = h.states
value_as h rows i Place.UpstreamFences = h.ups
value_as h rows i Place.TargetFences = h.targets
value_as h rows i (Place.UpstreamName k) = at h.upstream k
value_as h rows i (Place.TargetName k) = at h.target k
value_as h rows i (Place.Fence s a) = used h s (word rows s a / 256)
value_as h rows i (Place.Next s a) = used h s (word rows s a % 256)
value_as h rows i (Place.FenceNext s f) = used h s (word rows s (accesses 1 + f) % 256)
value_as h rows i Place.Nothing = 0
value_as h rows i Place.Check = 0

-- what is written at byte i, the checks aside
unfoldable pub value_at : Header → List ℕ → ℕ → ℕ
value_at h rows i = value_as h rows i (stands_at 1 i)

-- the check of block b, and every byte with the checks
unfoldable pub check_for : Header → List ℕ → ℕ → ℕ
check_for h rows b = checksum 255 (λ (p : ℕ). value_at h rows (512 * b + p))

unfoldable pub byte_at : Header → List ℕ → ℕ → ℕ
byte_at h rows i = cond (ltb (i % 512) 510) (value_at h rows i) (half i (check_for h rows (i / 512)))

abbrev pub size_of : Header → ℕ
size_of h = 512 * blocks_for 1 h.states

unfoldable pub image_of : Header → List ℕ → List ℕ
image_of h rows = listed (size_of h) (byte_at h rows)

-- from an image to its machine

unfoldable pub header_of : List ℕ → Header
header_of image = record {
  way = at image 3;
  states = states_of image;
  ups = upstream_fences_of image;
  targets = target_fences_of image;
  upstream = listed 16 (λ (k : ℕ). at image (7 + k));
  target = listed 16 (λ (k : ℕ). at image (23 + k));
}

unfoldable pub entry_word : List ℕ → ℕ → ℕ → ℕ
entry_word image s a =
    cond (ltb a (accesses 1)) (two_bytes (at image (position 1 s (2 * a))) (at image (position 1 s (2 * a + 1))))
    (cond (ltb (a - accesses 1) (upstream_fences_of image)) (two_bytes 255 (at image (position 1 s (accesses 1 + a)))) 0)

-- word j of the rows, and all of them
abbrev pub row_word : List ℕ → ℕ → ℕ
row_word image j = entry_word image (j / stride) (j % stride)

unfoldable pub rows_of : List ℕ → List ℕ
rows_of image = listed (states_of image * stride) (row_word image)

-- what `read` answers by the verdict on an image, where rows have room for so many words, and the rows after it

abbrev pub Reading : Type 0
Reading = Result Header Refusal

abbrev pub read_as : List ℕ → ℕ → Verdict → Reading
read_as image room (Err why) = Err why
read_as image room (Ok tt) = cond (leb (states_of image * stride) room) (Ok (header_of image)) (Err Refusal.BufferTooSmall)

abbrev pub rows_as : List ℕ → List ℕ → Verdict → List ℕ
rows_as image rows (Err why) = rows
rows_as image rows (Ok tt) = buffer_with (rows_of image) rows

pub record ReadsAs (v : Verdict) (image rows : List ℕ) (r : Reading) (rows' : List ℕ) : Type 0 where
  pub reading : r ≡ read_as image (length rows) v
  pub filled : rows' ≡ rows_as image rows v

-- what `read` promises: rows are the words before the call and rows' those after it; r is the answer
abbrev pub ReadsTo : List ℕ → List ℕ → Reading → List ℕ → Type 0
ReadsTo image = ReadsAs (verdict_of image) image

-- the machines that have an image

-- a name, "zero-filled": so many bytes that a name may hold, then zeros
pub record NameField (field : List ℕ) : Type 0 where
  pub size : length field ≡ 16
  pub name : ℕ
  pub some : 0 < name
  pub few : name ≤ 16
  pub bytes : (k : ℕ) → k < name → name_byte (at field k) ≡ true
  pub zeros : (k : ℕ) → name ≤ k → k < 16 → at field k ≡ 0

-- "for l, L, s, S a fence byte (a number, FF none, FE refused) with the next state (0 where refused)", of so many states and target fences
abbrev pub AccessWordIn : ℕ → ℕ → ℕ → Type 0
AccessWordIn states targets w = ((w / 256 ≡ 254) × (w % 256 ≡ 0)) ⊎ (((w / 256 < targets) ⊎ (w / 256 ≡ 255)) × (w % 256 < states))

abbrev pub AccessWord : Header → ℕ → Type 0
AccessWord h = AccessWordIn h.states h.targets

-- an upstream fence's word has FF for a fence byte
abbrev pub FenceWordIn : ℕ → ℕ → Type 0
FenceWordIn states w = (w / 256 ≡ 255) × (w % 256 < states)

abbrev pub FenceWord : Header → ℕ → Type 0
FenceWord h = FenceWordIn h.states

-- a machine of the layout
pub record Canonical (h : Header) (rows : List ℕ) : Type 0 where
  pub way : h.way ≤ 1
  pub some : 0 < h.states
  pub states : h.states ≤ 255
  pub ups : h.ups ≤ 16
  pub targets : h.targets ≤ 16
  pub upstream : NameField h.upstream
  pub target : NameField h.target
  pub accesses : (s a : ℕ) → s < h.states → a < access_letters → AccessWord h (word rows s a)
  pub fences : (s f : ℕ) → s < h.states → f < h.ups → FenceWord h (word rows s (access_letters + f))
  pub absent : (s f : ℕ) → s < h.states → h.ups ≤ f → f < 16 → word rows s (access_letters + f) ≡ 0

-- an image of the layout: that of a machine of the layout
pub record LaidOut (image : List ℕ) : Type 0 where
  pub header : Header
  pub rows : List ℕ
  pub machine : Canonical header rows
  pub image_of_lem : image_of header rows ≡ image
