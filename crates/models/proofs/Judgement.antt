-- The reader refuses a text that is not of the form at its longest beginning that begins some text of the form: the parts of a text are put
-- together by the laws of texts, and each kind of part has been proved once. Assumes nothing.
use Rattle.std.proofs.Common.{Ok, Err, Result}
use Prim.Native.Nat.{ℕ, zero, suc, ◌+◌, ◌≤◌}
use mathlib.Core.Path.{◌≡◌, refl, sym, ap, ◌∙◌, subst}
use mathlib.Core.Bool.{Bool, cond}
use mathlib.Core.List.{List, [], ◌∷◌, ◌++◌, append-nil}
use mathlib.Core.Logic.{inl, inr}
use native.Mathlib.Omega.{arith}
use native.Mathlib.Decide.{ℕ_discrete}
use borrow.Author.Tests.{eq-eqb, ne_eqb}
use lib.Dec.{T, eqb, eqb→eq}
use lib.ListN.{length, take, drop, get_or, length-drop}
use lib.Seq.{length-take-le, take-length, get_or-drop}
use Rattle.ground.specs.Bytes.{name_byte, bytes}
use Rattle.texts.specs.Step.{Step}
use Rattle.texts.specs.Language.{Language, Longest, Some, Reads, found, stuck, shift, on_step, Judged, Judges}
use Rattle.texts.specs.Pattern.{follow_at}
use Rattle.texts.specs.NamePart.{Ended, name_at}
use Rattle.texts.proofs.Language.{length_begun, some_seq, judged_first, judged_second}
use Rattle.texts.proofs.Pattern.{length-follows, sample, sample_follows, reads_follow, some_follows, judges_follow}
use Rattle.texts.proofs.NamePart.{some_name, judges_name}
use Rattle.models.specs.declared.scan.Line.{Line}
use Rattle.models.specs.Told.{Reading}
use Rattle.models.specs.declared.reader.Progress.{Progress}
use Rattle.models.specs.inner.Lines.{table_pattern, then_line, line_end, ppo_at, head_from, fence_line_from}
use Rattle.models.specs.inner.Progress.{formless, on_line, finished}
use Rattle.models.specs.inner.Parts.{TablePart, TableThen, FenceName, FenceThen, EndLine, Lines, PpoForm, NameForm, TextForm}
use Rattle.models.specs.Reading.{head_at, fence_at, fence_from, ended, lines_from, after_head}

-- a line that the reader goes on with is followed step by step
on_line_lem : (r : Step) (f : ℕ → Result Line ℕ) (g : Line → Reading) → on_line (then_line r f) g ≡ on_step formless r (λ n. on_line (f n) g)
on_line_lem (Ok n) f g = refl
on_line_lem (Err k) f g = refl

-- so what is shown of the steps holds of the line
by_steps : (L : Language) (s : List ℕ) (at : ℕ) (r : Step) (f : ℕ → Result Line ℕ) (g : Line → Reading)
    → Judged formless L s at (on_step formless r (λ n. on_line (f n) g)) → Judged formless L s at (on_line (then_line r f) g)
by_steps L s at r f g = subst (λ (x : Reading). Judged formless L s at x) (sym (on_line_lem r f g))

-- the last line, after which nothing stands
judges_end : (t : List ℕ) (p : Progress) → Judges formless EndLine t (ended t p)
unfolding ended
judges_end t p at la = by (reads_follow (bytes "end\n") s)
  where
    s : List ℕ
    s = drop at t

    more : ℕ → Reading
    more past = cond (eqb past (length t)) (finished p) (formless past)

    four : (a : List ℕ) → EndLine a → length a ≡ 4
    four a f = length-follows (bytes "end\n") a f

    stops : (n : ℕ) → n ≤ length s → EndLine (take n s) → Longest EndLine s n
    stops n ln f = record {
      within = ln;
      begins = ([], subst EndLine (sym (append-nil (take n s))) f);
      longest = (λ j lj b. omega (arith, four (take n s) f, length-take-le n s ln, four (take j s ++ b.0) b.1, length_begun s b.0 j lj));
    }

    whole : (n : ℕ) → n ≤ length s → EndLine (take n s) → Dec (n ≡ length s) → Judged formless EndLine s at (more (at + n))
    whole n ln f (yes e) = inl (subst EndLine (ap (λ (k : ℕ). take k s) e ∙ take-length s) f)
    whole n ln f (no ne) =
        let is : n ≡ 4 = sym (length-take-le n s ln) ∙ four (take n s) f in
        let not-all = ne_eqb _ _ (λ (e : at + n ≡ length t). ne (omega (arith, length-drop at t))) in
        inr (n, stops n ln f, (λ l. ne (is ∙ sym (four s l))), ap (λ (q : Bool). cond q (finished p) (formless (at + n))) not-all)

    by : {r : Step} → Reads EndLine s r → Judged formless EndLine s at (on_step formless (shift at r) more)
    by (stuck {k = k} h none) = inr (k, h, (λ l. none (length s) (omega arith) (subst EndLine (sym (take-length s)) l)), refl)
    by (found {n = n} ln f) = whole n ln f (ℕ_discrete n (length s))

-- a name ends at a byte that no name holds
pub feed : T (name_byte 10) → ⊥
feed t = t

pub space : T (name_byte 32) → ⊥
space t = t

-- the first byte tells a fence's line from the last line
ends_e : (a : List ℕ) → EndLine a → get_or a 0 0 ≡ 101
ends_e [] f = absurd f
ends_e (b ∷ a) f = eqb→eq b 101 f.0

fence_f : (M : Language) (a : List ℕ) → FenceThen M a → get_or a 0 0 ≡ 102
fence_f M a (zero, l, f, m) = absurd f
fence_f M [] (suc n, l, f, m) = absurd f
fence_f M (b ∷ a) (suc n, l, f, m) = eqb→eq b 102 f.0

some_lines : (n : ℕ) → Some (Lines n)
some_lines zero = some_follows (bytes "end\n")
some_lines (suc n) = (sample (bytes "end\n"), inr (sample_follows (bytes "end\n")))

-- a line's table and what follows; a fence's line
module _ (t : List ℕ) (M : Language) (some : Some M) (g : Line → Reading)
    (rest : (name table next : ℕ) → next ≤ length t → Judged formless M (drop next t) next (g (record { name = name; table = table; next = next })))
  where
    some_table : Some (TableThen M)
    some_table = some_seq TablePart M (some_follows table_pattern) some

    judges_table : (name : ℕ) → Judges formless (TableThen M) t (λ table. on_line (line_end t name table) g)
    judges_table name table la =
        by_steps (TableThen M) (drop table t) table (follow_at table_pattern t table) (λ next. Ok (line table next)) g
        (judges_follow formless t M some table_pattern (λ table next. g (line table next)) (λ a. rest name a) table la)
      where
        line : ℕ → ℕ → Line
        line table next = record { name = name; table = table; next = next }

    judges_fence_name : Judges formless (FenceName M) t (λ name. on_line (fence_line_from t name) g)
    judges_fence_name name ln =
        by_steps (FenceName M) (drop name t) name (name_at 32 t name) (λ table. line_end t name table) g
        (judges_name formless t (TableThen M) some_table 32 space (λ name table. on_line (line_end t name table) g) judges_table name ln)

    judges_fence : Judges formless (FenceThen M) t (λ at. on_line (fence_at t at) g)
    unfolding fence_at
    judges_fence at la =
        let named : Some (FenceName M) = some_seq (Ended 32) (TableThen M) (some_name 32) some_table in
        by_steps (FenceThen M) (drop at t) at (follow_at (bytes "fence ") t at) (fence_line_from t) g
        (judges_follow formless t (FenceName M) named (bytes "fence ") (λ _ name. on_line (fence_line_from t name) g) (λ _. judges_fence_name) at la)

judges_lines : (n : ℕ) (t : List ℕ) (p : Progress) → Judges formless (Lines n) t (lines_from n t p)
unfolding lines_from
judges_lines zero t p at la = judges_end t p at la
judges_lines (suc n) t p at la = by (ℕ_discrete (get_or t at 0) 102) (λ q. judges_lines n t q)
  where
    s : List ℕ
    s = drop at t

    head_is : get_or s 0 0 ≡ get_or t at 0
    head_is = get_or-drop at t 0 0 ∙ ap (λ (i : ℕ). get_or t i 0) (omega arith)

    next : Line → Reading
    next line = lines_from n t (fence_from t p line) line.next

    -- the first byte has been tested
    tested : (q : Bool) → eqb (get_or t at 0) 102 ≡ q → Judged formless (Lines (suc n)) s at (cond q (on_line (fence_at t at) next) (ended t p at))
        → Judged formless (Lines (suc n)) s at (lines_from (suc n) t p at)
    tested q e =
        subst (λ (r : Reading). Judged formless (Lines (suc n)) s at r)
        (ap (λ (b : Bool). cond b (on_line (fence_at t at) next) (ended t p at)) (sym e))

    not_end : get_or t at 0 ≡ 102 → get_or s 0 0 ≡ 101 → ⊥
    not_end e z = let both : ◌≡◌ {A = ℕ} 101 102 = sym z ∙ head_is ∙ e in omega arith

    by : Dec (get_or t at 0 ≡ 102) → ((q : Progress) → Judges formless (Lines n) t (lines_from n t q))
        → Judged formless (Lines (suc n)) s at (lines_from (suc n) t p at)
    by (yes e) rest =
        let line = judges_fence t (Lines n) (some_lines n) next
        (λ name table place l. rest (fence_from t p (record { name = name; table = table; next = place })) place l) at la in
        tested _ (eq-eqb _ _ e) (judged_first formless (FenceThen (Lines n)) EndLine s at (on_line (fence_at t at) next) (λ b. b ≡ 101) ends_e
        (not_end e) line)
    by (no ne) rest =
        let last = judges_end t p at la in
        tested _ (ne_eqb _ _ ne)
        (judged_second formless EndLine (FenceThen (Lines n)) s at (ended t p at) (λ b. b ≡ 102) (fence_f (Lines n)) (λ z. ne (sym head_is ∙ z)) last)

-- the whole text
module _ (t : List ℕ) where
  after_table : (name table next : ℕ) → next ≤ length t
      → Judged formless (Lines 16) (drop next t) next (after_head t (record { name = name; table = table; next = next }))
  after_table name table next l = judges_lines 16 t _ next l

  some_ppo_table : Some (TableThen (Lines 16))
  some_ppo_table = some_seq TablePart (Lines 16) (some_follows table_pattern) (some_lines 16)

  some_ppo : Some PpoForm
  some_ppo = some_seq _ (TableThen (Lines 16)) (some_follows (bytes "ppo ")) some_ppo_table

  judges_ppo : (name : ℕ) → Judges formless PpoForm t (λ past. on_line (ppo_at t name past) (after_head t))
  judges_ppo name past lp =
      by_steps PpoForm (drop past t) past (follow_at (bytes "ppo ") t past) (λ table. line_end t name table) (after_head t)
      (judges_follow formless t (TableThen (Lines 16)) some_ppo_table (bytes "ppo ") (λ _ table. on_line (line_end t name table) (after_head t))
      (λ _. judges_table t (Lines 16) (some_lines 16) (after_head t) after_table name) past lp)

  judges_head_name : Judges formless NameForm t (λ name. on_line (head_from t name) (after_head t))
  judges_head_name name ln =
      by_steps NameForm (drop name t) name (name_at 10 t name) (λ past. ppo_at t name past) (after_head t)
      (judges_name formless t PpoForm some_ppo 10 feed (λ name past. on_line (ppo_at t name past) (after_head t)) judges_ppo name ln)

  pub judges_text : Judged formless TextForm t 0 (on_line (head_at t) (after_head t))
  unfolding head_at
  judges_text =
      let named : Some NameForm = some_seq (Ended 10) PpoForm (some_name 10) some_ppo in
      by_steps TextForm t 0 (follow_at (bytes "model ") t 0) (head_from t) (after_head t)
      (judges_follow formless t NameForm named (bytes "model ") (λ _ name. on_line (head_from t name) (after_head t)) (λ _. judges_head_name)
      0 (omega arith))
