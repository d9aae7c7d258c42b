-- The first place of a byte is what the library's `position` finds, and the length where it finds none. Assumes nothing.
use Rattle.std.proofs.Common.{ℕ, ◌+◌, ◌≡◌, ◌≤◌, List, length, Bool, true, false, not, cond, eqb, ltb, Some, None, refl, sym, ◌∙◌, arith}
use Rattle.std.specs.List.{position, position_or_len}
use Rattle.std.proofs.lemmas.List.Sums.{prefix_len-le-length}
use Rattle.std.proofs.lemmas.List.Recursion.{is_position_or_len}
use borrow.Author.Tests.{ltb-false}
use Rattle.ground.specs.Search.{index_of, index_after}
use Rattle.ground.proofs.Truths.{differ}

module _ (b : ℕ) where
  abbrev here : ℕ → Bool
  here x = eqb x b

  first : (l : List ℕ) → index_of b l ≡ position_or_len here l
  unfolding index_of index_after
  first l = is_position_or_len (index_of b) here refl (λ x xs. by (here x) xs) l
    where
      by : (q : Bool) (xs : List ℕ) → index_after q (index_of b xs) ≡ cond q 0 (1 + index_of b xs)
      by true xs = refl
      by false xs = omega arith

  pub found : (l : List ℕ) (i : ℕ) → position here l ≡ Some i → i ≡ index_of b l
  found l i e = by (ltb (position_or_len here l) (length l)) e ∙ sym (first l)
    where
      by : (q : Bool) → cond q (Some (position_or_len here l)) None ≡ Some i → i ≡ position_or_len here l
      by true h = cc
      by false h = differ (cc)

  pub not_found : (l : List ℕ) → position here l ≡ None → index_of b l ≡ length l
  not_found l e = omega (arith, first l, prefix_len-le-length (λ (x : ℕ). not (here x)) l, by (ltb (position_or_len here l) (length l)) refl e)
    where
      by : (q : Bool) → ltb (position_or_len here l) (length l) ≡ q → cond q (Some (position_or_len here l)) None ≡ None
          → length l ≤ position_or_len here l
      by true h e = differ (cc)
      by false h e = ltb-false _ _ h
