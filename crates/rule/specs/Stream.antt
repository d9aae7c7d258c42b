-- Streams of operations, and what stands where in one. Accesses are numbered from 0, in the order of the stream.
use Rattle.std.specs.Prelude.{ℕ, zero, suc, ◌≡◌, ◌⊎◌, List, [], ◌∷◌, length, get_or}
use Rattle.operations.specs.declared.Kind.{Kind}
use Rattle.operations.specs.declared.Operation.{Operation}

abbrev pub Stream : Type 0
Stream = List Operation

abbrev pub access : Kind → Stream
access k = Operation.Access k ∷ []

abbrev pub fence : ℕ → Stream
fence n = Operation.Fence n ∷ []

-- the kinds of its accesses, in order
abbrev pub accesses : Stream → List Kind
accesses [] = []
accesses (Operation.Access k ∷ s) = k ∷ accesses s
accesses (Operation.Fence n ∷ s) = accesses s

-- how many accesses it has, and the kind of one of them
abbrev pub count : Stream → ℕ
count s = length (accesses s)

abbrev pub kind_at : Stream → ℕ → Kind
kind_at s i = get_or (accesses s) i Kind.Ld

-- how many fences it has
abbrev pub fences : Stream → ℕ
fences [] = 0
fences (Operation.Access k ∷ s) = fences s
fences (Operation.Fence n ∷ s) = suc (fences s)

-- fence g stands in it
abbrev pub HasFence : ℕ → Stream → Type 0
HasFence g [] = ⊥
HasFence g (Operation.Access k ∷ s) = HasFence g s
HasFence g (Operation.Fence n ∷ s) = (n ≡ g) ⊎ HasFence g s

-- what stands before access j; all of it where there is no such access
abbrev pub before : ℕ → Stream → Stream
before j [] = []
before j (Operation.Fence n ∷ s) = Operation.Fence n ∷ before j s
before zero (Operation.Access k ∷ s) = []
before (suc j) (Operation.Access k ∷ s) = Operation.Access k ∷ before j s

-- what stands after access i; nothing where there is no such access
abbrev pub after : ℕ → Stream → Stream
after i [] = []
after i (Operation.Fence n ∷ s) = after i s
after zero (Operation.Access k ∷ s) = s
after (suc i) (Operation.Access k ∷ s) = after i s

-- what stands between accesses i and j
abbrev pub between : ℕ → ℕ → Stream → Stream
between i j s = after i (before j s)

-- the first j accesses with all that stands before the last of them, and nothing behind it
abbrev pub through : ℕ → Stream → Stream
through zero s = []
through (suc j) [] = []
through (suc j) (Operation.Fence n ∷ s) = Operation.Fence n ∷ through (suc j) s
through (suc j) (Operation.Access k ∷ s) = Operation.Access k ∷ through j s
