-- What is known of a run that has ended: its bytes fit the buffer and are what was given, or its refusal was given. Assumes nothing.
use Rattle.std.proofs.Common.{Result, Ok, Err}
use Prim.Native.Nat.{ℕ, ◌≤◌}
use mathlib.Core.Path.{◌≡◌, ap, subst, ◌∙◌}
use mathlib.Core.List.{List}
use lib.ListN.{length, take}
use Rattle.answers.specs.declared.Refusal.{Refusal}
use Rattle.answers.specs.Given.{Given, refuses}
use Rattle.runs.specs.Bytes.{puts}
use Rattle.runs.specs.inner.Laying.{given, Fits, Ends}

module _ {x : Given} {e : Result ℕ Refusal} {buffer : List ℕ} (ends : Ends x e buffer) where
  pub written_fits : {n : ℕ} → e ≡ Ok n → n ≤ length buffer
  written_fits h = subst (λ (y : Result ℕ Refusal). Fits y buffer) h ends.fits

  pub written_given : {n : ℕ} → e ≡ Ok n → x ≡ puts (take n buffer)
  written_given h = ends.is ∙ ap (λ (y : Result ℕ Refusal). given y buffer) h

  pub refusal_given : {why : Refusal} → e ≡ Err why → x ≡ refuses why
  refusal_given h = ends.is ∙ ap (λ (y : Result ℕ Refusal). given y buffer) h
