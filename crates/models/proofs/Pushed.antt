-- What the reader holds after some of a model's fences: the model with those fences, and the place of the earliest repeated name among
-- them. Assumes nothing.
use Prim.Native.Nat.{ℕ, zero, suc, ◌+◌, ◌-◌, ◌≤◌, ◌<◌}
use mathlib.Core.Path.{◌≡◌, refl, sym, ap, ap₂, ◌∙◌, subst}
use mathlib.Core.Bool.{Bool, true, false, cond}
use mathlib.Core.List.{List, [], ◌∷◌, ◌++◌, map}
use mathlib.Core.Logic.{◌⊎◌, inl, inr}
use native.Mathlib.Omega.{arith}
use native.Mathlib.Decide.{ℕ_discrete}
use lib.ListN.{length, take, get_or, set, replicate, length-append, length-map}
use lib.Seq.{take-suc, take_at, length-take-le, set-append_seam, append_snoc, get_or-take, take-length}
use Rattle.std.specs.Prelude.{Option, Some, None}
use Rattle.answers.specs.declared.Refusal.{Refusal}
use Rattle.models.specs.declared.model.Model.{Model}
use Rattle.models.specs.Told.{Reading}
use Rattle.models.specs.declared.reader.Progress.{Progress}
use Rattle.models.specs.Model.{Fence, Description, FenceFormed, Formed}
use Rattle.texts.specs.NamePart.{Each, NameFormed}
use Rattle.models.specs.Told.{filled, padded, held_name, packed_of, held, accepting, refusing}
use Rattle.models.specs.Told.{no_fence, fence_of, name_of, name_stands, Repeats, EarliestRepeat, Distinct}
use Rattle.models.specs.inner.Progress.{among, repeat_place, end_of, finished}
use Rattle.texts.proofs.NamePart.{each_at}
use Rattle.models.proofs.Names.{held_names, among_found, among_none}
use Rattle.models.proofs.Reread.{pushed}

-- one more in place of what fills up
padded_more : {A : Type 0} (d x : A) (l : List A) → length l < 16 → set (padded d l) (length l) x ≡ padded d (l ++ (x ∷ []))
padded_more d x l h =
    let k : ℕ = 16 - (length l + 1) in
    let e : 16 - length l ≡ suc k = omega arith in
    let f : 16 - length (l ++ (x ∷ [])) ≡ k = ap (λ (n : ℕ). 16 - n) (length-append l (x ∷ [])) in
    ap (λ (n : ℕ). set (l ++ replicate n d) (length l) x) e
    ∙ set-append_seam l d (replicate k d) x
    ∙ sym (append_snoc l x (replicate k d))
    ∙ ap (λ (n : ℕ). (l ++ (x ∷ [])) ++ replicate n d) (sym f)

map_snoc : {A B : Type 0} (f : A → B) (l : List A) (x : A) → map f (l ++ (x ∷ [])) ≡ map f l ++ (f x ∷ [])
map_snoc f [] x = refl
map_snoc f (y ∷ l) x = ap (λ (m : List _). f y ∷ m) (map_snoc f l x)

module _ (d : Description) where
  -- the model with its first k fences
  abbrev firsts : ℕ → Description
  firsts k = record { name = d.name; ppo = d.ppo; fences = take k d.fences }

  -- a list of fences that is one longer, seen through a function
  module _ {B : Type 0} (f : Fence → B) (x : B) (k : ℕ) (l : k < length d.fences) (few : length d.fences ≤ 16) where
    more_held : set (padded x (map f (take k d.fences))) k (f (fence_of d k)) ≡ padded x (map f (take (suc k) d.fences))
    more_held =
        let long : length (map f (take k d.fences)) ≡ k = length-map (take k d.fences) f ∙ length-take-le k d.fences (omega arith) in
        ap (λ (n : ℕ). set (padded x (map f (take k d.fences))) n (f (fence_of d k))) (sym long)
        ∙ padded_more x (f (fence_of d k)) (map f (take k d.fences)) (omega arith)
        ∙ ap (padded x) (sym (map_snoc f (take k d.fences) (fence_of d k)) ∙ ap (map f) (sym (take-suc d.fences k _ l)))

  module _ (h : Formed d) where
    model_pushed : (k : ℕ) → k ≤ length d.fences → (pushed d k).model ≡ held (firsts k)
    unfolding pushed
    model_pushed zero l = refl
    model_pushed (suc k) l =
        let p : Model = (pushed d k).model in
        let q : p ≡ held (firsts k) = model_pushed k (omega arith) in
        let count : p.fences ≡ k = ap (λ (m : Model). m.fences) q ∙ length-take-le k d.fences (omega arith) in
        let fences : p.fences + 1 ≡ length (take (suc k) d.fences) = omega (arith, length-take-le (suc k) d.fences l) in
        let tables : set p.tables p.fences (packed_of (fence_of d k)) ≡ padded 0 (map packed_of (take (suc k) d.fences)) =
        ap₂ (λ (m : Model) (n : ℕ). set m.tables n (packed_of (fence_of d k))) q count ∙ more_held packed_of 0 k l h.few in
        let names : set p.names p.fences (held_name (fence_of d k)) ≡ padded (filled []) (map held_name (take (suc k) d.fences)) =
        ap₂ (λ (m : Model) (n : ℕ). set m.names n (held_name (fence_of d k))) q count ∙ more_held held_name (filled []) k l h.few in
        λ i. record { ppo = (q i).ppo; fences = fences i; tables = tables i; name = (q i).name; names = names i }

    -- the names above the fence k, as they are held
    names_above : (k : ℕ) → k ≤ length d.fences → take (pushed d k).model.fences (pushed d k).model.names ≡ held_names (take k d.fences)
    names_above k l =
        let q : (pushed d k).model ≡ held (firsts k) = model_pushed k l in
        let long : length (held_names (take k d.fences)) ≡ length (take k d.fences) = length-map (take k d.fences) held_name in
        ap (λ (m : Model). take m.fences m.names) q ∙ take_at (held_names (take k d.fences)) _ (length (take k d.fences)) long

    name_well : (k : ℕ) → k < length d.fences → NameFormed (name_of d k)
    name_well k l = (each_at FenceFormed d.fences _ h.each k l).name

    first_each : (k : ℕ) (fs : List Fence) → Each FenceFormed fs → Each FenceFormed (take k fs)
    first_each zero fs e = tt
    first_each (suc k) [] e = tt
    first_each (suc k) (f ∷ fs) e = (e.0, first_each k fs e.1)

    -- the place that is kept after k fences
    abbrev Kept : ℕ → Option ℕ → Type 0
    Kept k r =
        ((r ≡ None) × ((j : ℕ) → j < k → Repeats d j → ⊥))
        ⊎ ((j : ℕ) × (j < k) × EarliestRepeat d j × (r ≡ Some (name_stands d j)))

    kept : (k : ℕ) → k ≤ length d.fences → Kept k (pushed d k).repeat
    unfolding pushed
    kept zero l = inl (refl, (λ j lj. absurd (omega arith)))
    kept (suc k) l = by (kept k (omega arith))
      where
        r : Option ℕ
        r = (pushed d k).repeat

        found : Bool
        found = among (filled (name_of d k)) (take (pushed d k).model.fences (pushed d k).model.names)

        found_is : found ≡ among (filled (name_of d k)) (held_names (take k d.fences))
        found_is = ap (among (filled (name_of d k))) (names_above k (omega arith))

        long : length (take k d.fences) ≡ k
        long = length-take-le k d.fences (omega arith)

        there : (i : ℕ) → i < k → (get_or (take k d.fences) i no_fence).name ≡ name_of d i
        there i li = ap (λ (f : Fence). f.name) (get_or-take k d.fences i _ li)

        fresh : (q : Bool) → found ≡ q → ((j : ℕ) → j < k → Repeats d j → ⊥) → Kept (suc k) (cond q (Some (name_stands d k)) None)
        fresh true e none =
            let formed = first_each k d.fences h.each in
            let f = among_found (name_of d k) (name_well k l).bytes no_fence (take k d.fences) formed (sym found_is ∙ e) in
            let li : f.0 < k = omega (arith, f.1, long) in
            inr (k, omega arith, record { within = l; repeats = (f.0, li, sym (there f.0 li) ∙ f.2); earliest = none }, refl)
        fresh false e none = inl (refl, no_repeat)
          where
            no_repeat : (j : ℕ) → j < suc k → Repeats d j → ⊥
            no_repeat j lj (i, li, same) = here (ℕ_discrete j k)
              where
                here : Dec (j ≡ k) → ⊥
                here (no ne) = none j (omega arith) (i, li, same)
                here (yes e') =
                    let l' : i < k = omega arith in
                    among_none (name_of d k) (name_well k l).bytes no_fence (take k d.fences) (sym found_is ∙ e)
                    (i, omega (arith, long), there i l' ∙ same ∙ ap (name_of d) e')

        next : Option ℕ → Option ℕ
        next r = repeat_place r (filled (name_of d k)) (take (pushed d k).model.fences (pushed d k).model.names) (name_stands d k)

        by : Kept k r → Kept (suc k) (next r)
        by (inl (z, none)) = subst (λ (q : Option ℕ). Kept (suc k) (next q)) (sym z) (fresh found refl none)
        by (inr (j, lj, e, is)) = inr (j, omega arith, e, ap next is)

    -- after all of them
    all_kept : Kept (length d.fences) (pushed d (length d.fences)).repeat
    all_kept = kept (length d.fences) (omega arith)

    all_held : (pushed d (length d.fences)).model ≡ held d
    all_held =
        model_pushed (length d.fences) (omega arith)
        ∙ ap (λ (fs : List Fence). held (record { name = d.name; ppo = d.ppo; fences = fs })) (take-length d.fences)

  -- the reader ends with the model, or with the place of the earliest repeated name
  abbrev pub Ends : Type 0
  Ends =
      ((finished (pushed d (length d.fences)) ≡ accepting (held d)) × Distinct d)
      ⊎ ((k : ℕ) × EarliestRepeat d k × (finished (pushed d (length d.fences)) ≡ refusing (Refusal.FenceNameRepeats (name_stands d k))))

  pub ends : Formed d → Ends
  ends h = by (all_kept h)
    where
      p : Progress
      p = pushed d (length d.fences)

      by : Kept h (length d.fences) p.repeat → Ends
      by (inl (z, none)) = inl (ap (end_of p.model) z ∙ ap accepting (all_held h), none)
      by (inr (k, lk, e, is)) = inr (k, e, ap (end_of p.model) is)
