-- Pairs of numbers, found again by their bucket. A link is one more than a place, or 0 where the chain ends.
use Rattle.std.specs.Prelude.{ℕ, ◌+◌, ◌*◌, ◌%◌, ◌≤◌, ◌<◌, ◌≡◌, List, length, get_or, Option, Some, None}
use Rattle.ground.specs.Bytes.{at}
use Rattle.machine.specs.declared.index.Index.{Index}

abbrev pub capacity : ℕ
capacity = 4096

abbrev pub bucket_of : ℕ → ℕ → ℕ
bucket_of need low = (need % 65521 + low % 65537 * 3) % capacity

-- the pair at place p
abbrev pub pair_at : List (ℕ × ℕ) → ℕ → ℕ × ℕ
pair_at pairs p = get_or pairs p (0, 0)

abbrev pub need_at : List (ℕ × ℕ) → ℕ → ℕ
need_at pairs p = (pair_at pairs p).0

abbrev pub low_at : List (ℕ × ℕ) → ℕ → ℕ
low_at pairs p = (pair_at pairs p).1

abbrev pub bucket_at : List (ℕ × ℕ) → ℕ → ℕ
bucket_at pairs p = bucket_of (need_at pairs p) (low_at pairs p)

-- a link to the last place of bucket b below n, in that none of the bucket stands above it
pub record Link (pairs : List (ℕ × ℕ)) (n b link : ℕ) : Type 0 where
  pub within : link ≤ n
  pub own : (p : ℕ) → link ≡ p + 1 → bucket_at pairs p ≡ b
  pub last : (p : ℕ) → p < n → bucket_at pairs p ≡ b → p < link

-- as many pairs as are counted, with the links to them
pub record Linked (x : Index) : Type 0 where
  pub fits : x.count ≤ capacity
  pub all_pairs : length x.pairs ≡ capacity
  pub all_heads : length x.heads ≡ capacity
  pub all_nexts : length x.nexts ≡ capacity
  pub head : (b : ℕ) → b < capacity → Link x.pairs x.count b (at x.heads b)
  pub next : (p : ℕ) → p < x.count → Link x.pairs p (bucket_at x.pairs p) (at x.nexts p)

-- the pair stands at a place
abbrev pub Pair : List (ℕ × ℕ) → ℕ → ℕ → ℕ → Type 0
Pair pairs need low p = (need_at pairs p ≡ need) × (low_at pairs p ≡ low)

-- the pair stands at no place
abbrev pub Absent : Index → ℕ → ℕ → Type 0
Absent x need low = (p : ℕ) → p < x.count → Pair x.pairs need low p → ⊥

-- what a search finds: the pair's place, or that there is none
abbrev pub FoundAt : Index → ℕ → ℕ → Option ℕ → Type 0
FoundAt x need low (Some p) = (p < x.count) × Pair x.pairs need low p
FoundAt x need low None = Absent x need low

-- the pair stands at the next place, and every other as it was
pub record Pushed (x : Index) (need low : ℕ) (x' : Index) : Type 0 where
  pub new : Pair x'.pairs need low x.count
  pub old : (p : ℕ) → p < x.count → Pair x'.pairs (need_at x.pairs p) (low_at x.pairs p) p
  pub more : x'.count ≡ x.count + 1
  pub linked : Linked x'

-- the place of a pair: where it stands already; or the next one, where it stood nowhere and stands now
pub data Placed (x : Index) (need low : ℕ) (x' : Index) (p : ℕ) : Type 0 where
  known : p < x.count → Pair x.pairs need low p → x' ≡ x → Placed x need low x' p
  added : p ≡ x.count → Absent x need low → Pushed x need low x' → Placed x need low x' p

-- the pair stands nowhere, and there is no room for it
pub record Full (x : Index) (need low : ℕ) : Type 0 where
  pub absent : Absent x need low
  pub full : x.count ≡ capacity

-- its place, or that there is no room for it
abbrev pub PlaceOf : Index → ℕ → ℕ → Index → Option ℕ → Type 0
PlaceOf x need low x' (Some p) = Placed x need low x' p
PlaceOf x need low x' None = Full x need low
