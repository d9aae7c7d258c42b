-- For each export: two returned numbers, two sets of five numbers and two final buffers that its contract allows are equal, since the call below
-- has one answer and one final buffer; of `shim_compare` the relation too, of `shim_image_read` the header. Assumes nothing.
use Prim.Native.Nat.{ℕ}
use mathlib.Core.Path.{◌≡◌, sym, ap, ◌∙◌}
use mathlib.Core.List.{List}
use Rattle.answers.specs.Answer.{numbers_of}
use Rattle.answers.specs.Given.{Delivers, Answers}
use Rattle.writing.specs.Calls.{back_given}
use Rattle.built_ins.specs.BuiltIns.{built_in_given}
use Rattle.comparison.specs.Comparison.{comparing}
use Rattle.runs.specs.Call.{outcome}
use Rattle.image.specs.Calls.{Rewrites}
use Rattle.image.proofs.Unique.{rewrite_one}
use Rattle.image_runs.specs.Run.{run_over}
use Rattle.generation.specs.Generating.{ImageGiven}
use Rattle.generation.proofs.Unique as generated
use Rattle.drawing.specs.Calls.{drawn}
use Rattle.drawing_reader.specs.Undrawing.{Undrawn}
use Rattle.drawing_reader.proofs.Unique as undrawn
use Rattle.listing.specs.Listed.{Listed}
use Rattle.listing.proofs.Unique as listed
use Rattle.host.specs.Border.{number_in, Tells, TellsRelation}
use Rattle.host.proofs.Telling.{same_told, same_delivered}

pub builtin_one : (number : ℕ) {out : List ℕ} {r r' : ℕ} {answer answer' after after' : List ℕ}
    → Tells (Delivers (built_in_given number) out) r answer after → Tells (Delivers (built_in_given number) out) r' answer' after'
    → (r ≡ r') × (answer ≡ answer') × (after ≡ after')
builtin_one number = same_delivered (built_in_given number)

pub model_one : (text : List ℕ) {out : List ℕ} {r r' : ℕ} {answer answer' after after' : List ℕ}
    → Tells (Delivers (back_given text) out) r answer after → Tells (Delivers (back_given text) out) r' answer' after'
    → (r ≡ r') × (answer ≡ answer') × (after ≡ after')
model_one text = same_delivered (back_given text)

pub run_one : (way : ℕ) (upstream target stream : List ℕ) {out : List ℕ} {r r' : ℕ} {answer answer' after after' : List ℕ}
    → Tells (Delivers (outcome way upstream target stream) out) r answer after
    → Tells (Delivers (outcome way upstream target stream) out) r' answer' after'
    → (r ≡ r') × (answer ≡ answer') × (after ≡ after')
run_one way upstream target stream = same_delivered (outcome way upstream target stream)

pub image_run_one : (image : List ℕ) (start : ℕ) (stream : List ℕ) {out : List ℕ} {r r' : ℕ} {answer answer' after after' : List ℕ}
    → Tells (Delivers (run_over image start stream) out) r answer after → Tells (Delivers (run_over image start stream) out) r' answer' after'
    → (r ≡ r') × (answer ≡ answer') × (after ≡ after')
image_run_one image start stream = same_delivered (run_over image start stream)

pub draw_one : (image : List ℕ) {out : List ℕ} {r r' : ℕ} {answer answer' after after' : List ℕ}
    → Tells (Delivers (drawn image) out) r answer after → Tells (Delivers (drawn image) out) r' answer' after'
    → (r ≡ r') × (answer ≡ answer') × (after ≡ after')
draw_one image = same_delivered (drawn image)

pub generate_one : (way : ℕ) (upstream target : List ℕ) {out : List ℕ} {r r' : ℕ} {answer answer' after after' : List ℕ}
    → Tells (Answers (ImageGiven way upstream target) out) r answer after
    → Tells (Answers (ImageGiven way upstream target) out) r' answer' after'
    → (r ≡ r') × (answer ≡ answer') × (after ≡ after')
generate_one way upstream target a b = same_told (λ x y s t p q. generated.generate_one way upstream target p q) a b

pub undraw_one : (text : List ℕ) {out : List ℕ} {r r' : ℕ} {answer answer' after after' : List ℕ}
    → Tells (Answers (Undrawn text) out) r answer after → Tells (Answers (Undrawn text) out) r' answer' after'
    → (r ≡ r') × (answer ≡ answer') × (after ≡ after')
undraw_one text a b = same_told (λ x y s t p q. undrawn.undraw_one text _ p q) a b

pub list_one : (input : List ℕ) {out : List ℕ} {r r' : ℕ} {answer answer' after after' : List ℕ}
    → Tells (Answers (Listed input) out) r answer after → Tells (Answers (Listed input) out) r' answer' after'
    → (r ≡ r') × (answer ≡ answer') × (after ≡ after')
list_one input a b = same_told (λ x y s t p q. listed.list_one _ p q) a b

pub image_read_one : (image : List ℕ) {out header header' : List ℕ} {r r' : ℕ} {answer answer' after after' : List ℕ}
    → Tells (Rewrites image out header) r answer after → Tells (Rewrites image out header') r' answer' after'
    → (r ≡ r') × (answer ≡ answer') × (header ≡ header') × (after ≡ after')
image_read_one image a b =
    let e = rewrite_one image a.promised b.promised in (
      a.returned ∙ ap number_in e.0 ∙ sym b.returned,
      a.told ∙ ap numbers_of e.0 ∙ sym b.told,
      e.1,
      e.2,
    )

pub compare_one : (first second : List ℕ) {r r' relation relation' : ℕ} {answer answer' : List ℕ}
    → TellsRelation (comparing first second) r relation answer → TellsRelation (comparing first second) r' relation' answer'
    → (r ≡ r') × (relation ≡ relation') × (answer ≡ answer')
compare_one first second a b = (a.returned ∙ sym b.returned, a.set ∙ sym b.set, a.told ∙ sym b.told)
