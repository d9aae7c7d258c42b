-- The theorems about an image that was generated, for any two texts and any way, as a reader wants to find them. Assumes nothing.
use Rattle.std.proofs.Common.{Ok, Err}
use Prim.Native.Nat.{ℕ, ◌*◌, ◌≤◌}
use mathlib.Core.Path.{◌≡◌, sym, ap, subst, ◌∙◌}
use mathlib.Core.Logic.{◌↔◌}
use mathlib.Core.List.{List}
use native.Mathlib.Omega.{arith}
use lib.ListN.{length, take, length-replicate}
use Rattle.machine.specs.Outcome.{Outcome}
use Rattle.ground.proofs.Truths.{differ}
use Rattle.answers.specs.declared.Refusal.{Refusal}
use Rattle.answers.specs.Given.{Given, gives, refuses}
use Rattle.answers.specs.Answer.{Verdict}
use Rattle.operations.specs.Alphabet.{stride}
use Rattle.rule.specs.declared.way.Way.{Way}
use Rattle.rule.specs.declared.way.Shim.{Shim}
use Rattle.rule.specs.Pairs.{Model}
use Rattle.rule.specs.Sides.{upstream_of, target_of}
use Rattle.shims.specs.declared.Models.{Models}
use Rattle.shims.specs.Opening.{Opening, way_of, opened, Opens}
use Rattle.shims.specs.Models.{model_of, shim_between}
use Rattle.shims.proofs.Calls.{given_opened}
use Rattle.shims.proofs.Fences.{few_read, few_fences}
use Rattle.shims.proofs.Theorems.{opens}
use Rattle.machine.specs.Shim.{shim, shim_of}
use Rattle.machine.specs.Generated.{Making, Unmade, roomless, named}
use Rattle.machine.specs.Counted.{ManySituations, ManyStates}
use Rattle.machine.proofs.Theorems.{refused_8_exactly_when, refused_9_exactly_when}
use Rattle.making.specs.Made.{MachineMade}
use Rattle.making.proofs.Read.{made_read}
use Rattle.image.specs.declared.machine.Header.{Header}
use Rattle.places.specs.Layout.{blocks_for}
use Rattle.layout.specs.Verdict.{verdict_of}
use Rattle.image.specs.Image.{header_of, rows_of, Canonical}
use Rattle.image.proofs.Theorems.{read_written_accepted, read_written_header, read_written_rows, written_length}
use Rattle.generation.specs.Generating.{header_for, given_by, blank, MachineGiven, ImageGiven}
use Rattle.generation.specs.inner.Imaged.{Imaged}
use Rattle.generation.proofs.Canonicals.{name_read, canonical}

-- A call that gives bytes has read its way and its two texts, and has made their machine; the bytes are its image.
pub imaged : (number : ℕ) (upstream target image : List ℕ) (fences state : ℕ) → ImageGiven number upstream target (gives image fences state)
    → Imaged number upstream target image
imaged number upstream target image fences state h =
    let o = given_opened call MachineGiven image fences state h in
    by_outcome o.0 (opens (way_of number) upstream target o.1) o.2.outcome o.2.rows o.2.made o.2.gives_it
  where
    call : Opening
    call = opened number upstream target

    by_outcome : (m : Models) → Opens (way_of number) upstream target m → (o : Outcome) (rows : List ℕ) → MachineMade m blank o rows
        → gives image fences state ≡ given_by o m rows → Imaged number upstream target image
    by_outcome m p (Ok x) rows g e =
        record { models = m; opens = p; machine = x; rows = rows; made = g; image_is = cc }
    by_outcome m p (Err why) rows g e = differ (cc)

module _ {number : ℕ} {upstream target image : List ℕ} (call : Imaged number upstream target image) where
  abbrev way : Way
  way = call.models.way

  abbrev up : Model
  up = model_of call.models.upstream

  abbrev on : Model
  on = model_of call.models.target

  abbrev states : ℕ
  states = call.machine.states

  pub ups_few : length up.fences ≤ 16
  ups_few = few_fences call.models.upstream (few_read upstream call.opens.upstream_read)

  pub on_few : length on.fences ≤ 16
  on_few = few_fences call.models.target (few_read target call.opens.target_read)

  pub making : Making (shim way up on) way (length up.fences) (length on.fences) blank call.machine call.rows
  making = made_read call.models (few_read upstream call.opens.upstream_read) (few_read target call.opens.target_read) call.made

  abbrev header : Header
  header = header_for call.machine call.models

  pub laid_out : Canonical header call.rows
  laid_out =
      canonical way up on ups_few on_few making call.models
      (name_read upstream call.opens.upstream_read)
      (name_read target call.opens.target_read)

  -- A generated machine's image is accepted.
  pub image_accepted : verdict_of image ≡ Ok tt
  image_accepted = ap verdict_of call.image_is ∙ read_written_accepted header call.rows laid_out

  -- It reads as the machine that was made.
  pub image_header : header_of image ≡ header
  image_header = ap header_of call.image_is ∙ read_written_header header call.rows laid_out

  pub image_rows : rows_of image ≡ take (states * stride) call.rows
  image_rows = ap rows_of call.image_is ∙ read_written_rows header call.rows laid_out (omega (arith, making.room, making.size))

  -- It has the length that its states want.
  pub image_length : length image ≡ 512 * blocks_for 1 states
  image_length = ap (λ (l : List ℕ). length l) call.image_is ∙ written_length header call.rows laid_out

-- When there is no image: of two models and a way.
module _ (models : Models) (given : Given) (is : MachineGiven models given) where
  abbrev the_shim : Shim
  the_shim = shim_between models

  abbrev ups : List ℕ
  ups = (model_of models.upstream).fences

  abbrev targets : List ℕ
  targets = (model_of models.target).fences

  -- the two models, of whose fences an operation can name the first sixteen
  abbrev the_upstream : Model
  the_upstream = upstream_of the_shim (named ups)

  abbrev the_target : Model
  the_target = target_of the_shim (named targets)

  abbrev made_of : Outcome → Given
  made_of o = given_by o models is.rows

  -- a refusal that is given is the machine's
  refused_as : (o : Outcome) {why : Refusal} → made_of o ≡ refuses why → o ≡ Err why
  refused_as (Ok x) e = differ (cc)
  refused_as (Err w) {why} e = let same : w ≡ why = cc in ap Err same

  -- Refusal 8 is given exactly when more than 4,096 situations can be reached.
  pub gives_8_exactly_when : (given ≡ refuses Refusal.TooManySituations) ↔ ManySituations models.way the_upstream the_target
  gives_8_exactly_when =
      (λ e. exactly.0 (refused_as is.outcome (sym is.gives_it ∙ e)), λ m. is.gives_it ∙ ap made_of (exactly.1 m))
    where
      exactly : (is.outcome ≡ Err Refusal.TooManySituations) ↔ ManySituations models.way the_upstream the_target
      exactly = refused_8_exactly_when the_shim ups targets blank is.outcome is.rows is.made.generated

  -- Refusal 9 is given exactly when the situations are not too many and the states are more than 255.
  pub gives_9_exactly_when : (given ≡ refuses Refusal.TooManyStates)
      ↔ ((ManySituations models.way the_upstream the_target → ⊥) × ManyStates models.way the_upstream the_target)
  gives_9_exactly_when =
      (λ e. exactly.0 (refused_as is.outcome (sym is.gives_it ∙ e)), λ m. is.gives_it ∙ ap made_of (exactly.1 m))
    where
      exactly : (is.outcome ≡ Err Refusal.TooManyStates)
          ↔ ((ManySituations models.way the_upstream the_target → ⊥) × ManyStates models.way the_upstream the_target)
      exactly = refused_9_exactly_when the_shim ups targets blank is.outcome is.rows is.made.generated

  -- The rows always have room, so 7 is never given for want of it, but only where the image exceeds the caller's buffer.
  pub never_7 : given ≡ refuses Refusal.BufferTooSmall → ⊥
  never_7 e = look (subst (λ (o : Outcome). MachineMade models blank o is.rows) (refused_as is.outcome (sym is.gives_it ∙ e)) is.made)
    where
      short : Unmade (shim_of the_shim (named ups) (named targets)) blank Refusal.BufferTooSmall → ⊥
      short (roomless f l d h) = omega (arith, h, l, length-replicate {A = ℕ} 5100 0)

      look : MachineMade models blank (Err Refusal.BufferTooSmall) is.rows → ⊥
      look g = short g.generated.0
