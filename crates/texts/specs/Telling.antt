-- Parts of a text that tell something: a number, a name, the words of a row. How they are put together, and what reading one finds.
use Rattle.std.specs.Prelude.{ℕ, zero, suc, ◌+◌, ◌≤◌, ◌<◌, ◌≡◌, List, [], ◌∷◌, ◌++◌, ◌⊎◌, length, take, drop, Ok, Err}
use Rattle.printing.specs.Decimal.{decimal}
use Rattle.texts.specs.Step.{Step, Part}
use Rattle.texts.specs.Language.{Longest, Seq, Telling, Any}
use Rattle.texts.specs.NamePart.{NameFormed, name_run}

-- one part, and then one whose form may depend on what the first told; the second tells for both
abbrev pub Then : {A B : Type 0} → Telling A → (A → Telling B) → Telling B
Then {A} L M b t = (a : A) × Seq (L a) (M a b) t

-- a part whose value is told in another way
abbrev pub Through : {A B : Type 0} → (A → B) → Telling A → Telling B
Through {A} f L b t = (a : A) × (f a ≡ b) × L a t

-- the first n of a row of parts, one behind another; they tell what each one tells, in order
abbrev pub Items : {A : Type 0} → (ℕ → Telling A) → ℕ → Telling (List A)
Items item zero values t = (values ≡ []) × (t ≡ [])
Items item (suc n) values t = Then (Items item n) (λ before. Through (λ a. before ++ (a ∷ [])) (item n)) values t

-- one part or another
abbrev pub Either : {A : Type 0} → Telling A → Telling A → Telling A
Either L M a t = L a t ⊎ M a t

-- what is left of a part behind its first byte b
abbrev pub After : {A : Type 0} → ℕ → Telling A → Telling A
After b L a t = L a (b ∷ t)

-- a word, which tells nothing; a name and the byte e after it, which tell the name; a number below a bound in decimal and the byte e after it
abbrev pub Word : List ℕ → Telling Unit
Word word _ t = t ≡ word

abbrev pub Named : ℕ → Telling (List ℕ)
Named e n t = NameFormed n × (t ≡ n ++ (e ∷ []))

abbrev pub Numbered : ℕ → ℕ → Telling ℕ
Numbered bound e n t = (n < bound) × (t ≡ decimal n ++ (e ∷ []))

-- what is taken from a text: a value, and the place behind the part that told it; or the place at which the text departs
pub data Taken (A : Type 0) : Type 0 where
  took : ℕ → A → Taken A
  stopped : ℕ → Taken A

-- what reading a part at a place of a text finds: the part; or that it does not stand there, and how far the longest goes that begins one
pub data Finds {A : Type 0} (L : Telling A) (t : List ℕ) (at : ℕ) : Taken A → Type 0 where
  finds : {n p : ℕ} {a : A} → p ≡ at + n → n ≤ length (drop at t) → L a (take n (drop at t)) → Finds L t at (took p a)
  departs : {k p : ℕ} → p ≡ at + k → Longest (Any L) (drop at t) k
      → ((n : ℕ) (a : A) → n ≤ length (drop at t) → L a (take n (drop at t)) → ⊥) → Finds L t at (stopped p)

-- what following a word has taken, what following a name has, and what following a part of one number has
abbrev pub word_taken : Step → Taken Unit
word_taken (Ok p) = took p tt
word_taken (Err p) = stopped p

abbrev pub name_taken : List ℕ → ℕ → Step → Taken (List ℕ)
name_taken t at (Ok p) = took p (take (name_run 16 (drop at t)) (drop at t))
name_taken t at (Err p) = stopped p

abbrev pub part_taken : Part → Taken ℕ
part_taken (Ok (p, n)) = took p n
part_taken (Err p) = stopped p
