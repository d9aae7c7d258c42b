-- What a call gives that generates an image, in 01's words: its opening's refusal, 8 or 9, or the image of the minimal machine. By the stages of
-- the call and what the machine's contract says. Assumes nothing.
use Rattle.std.proofs.Common.{Ok, Err}
use Prim.Native.Nat.{ℕ, ◌+◌, ◌-◌, ◌*◌, ◌/◌, ◌%◌, ◌<◌}
use mathlib.Core.Path.{◌≡◌, refl, sym, ap, subst, subst₂, ◌∙◌}
use mathlib.Core.Bool.{false}
use mathlib.Core.Logic.{◌↔◌}
use mathlib.Core.List.{List}
use native.Mathlib.Decide.{dec_lt}
use native.Mathlib.Omega.{arith}
use borrow.Author.Tests.{lt-ltb, le-ltb, ne_eqb}
use lib.Dec.{eqb}
use lib.ListN.{length, take}
use Rattle.machine.specs.Outcome.{Outcome}
use Rattle.ground.specs.Bytes.{at}
use Rattle.ground.proofs.Truths.{differ}
use Rattle.answers.specs.declared.Refusal.{Refusal}
use Rattle.answers.specs.Answer.{wrote}
use Rattle.answers.specs.Given.{Given, gives, refuses, GivenUnless, Answers}
use Rattle.operations.specs.Alphabet.{access_letters}
use Rattle.rule.specs.Sides.{upstream_of, target_of}
use Rattle.shims.specs.declared.Models.{Models}
use Rattle.shims.specs.Opening.{Opening, way_of, opened, GivenOnOpened}
use Rattle.shims.specs.Models.{shim_between}
use Rattle.shims.proofs.Theorems as shims
use Rattle.shims.proofs.Theorems.{opens_so}
use Rattle.shims.proofs.Fences.{few_read}
use Rattle.rule.specs.declared.situation.Situation.{Situation}
use Rattle.mealy.specs.Runs.{taken, Machine, Same}
use Rattle.mealy.proofs.Unique as mealy
use Rattle.mealy.proofs.Unique.{described_unique}
use Rattle.mealy.specs.Arrivals.{Described}
use Rattle.mealy.proofs.Describing.{described_as}
use Rattle.machine.specs.Rows.{answer_at}
use Rattle.machine.specs.Shim.{letters_of, shim, shim_of}
use Rattle.machine.specs.Counted.{ManySituations, ManyStates}
use Rattle.machine.specs.Generated as unmade
use Rattle.machine.specs.Generated.{Unmade, named}
use Rattle.making.specs.Made.{MachineMade}
use Rattle.making.proofs.Read.{all_named}
use Rattle.places.specs.Layout.{blocks_for, position}
use Rattle.barred.specs.Barred.{states_of}
use Rattle.image.specs.declared.machine.Header.{Header}
use Rattle.image.specs.Image.{word, header_of, image_of}
use Rattle.image.proofs.Canonicals.{fence_image, next_image, onward_image}
use Rattle.generation.specs.Generating.{header_for, given_by, blank, MachineGiven, ImageGiven}
use Rattle.generation.specs.inner.Imaged.{Imaged}
use Rattle.generation.proofs.Theorems.{imaged, ups_few, making, laid_out, image_accepted, image_header, image_length}
use Rattle.generation.proofs.Theorems.{gives_8_exactly_when, gives_9_exactly_when, never_7}
use Rattle.demands.specs.Opened.{Opened, up, on, OpeningRefused}
use Rattle.demands.proofs.Opening.{opens_told, told_opens, opened_one, opening_told, told_opening}
use Rattle.demands.specs.Images.{entry_answer, MinimalImage}
use Rattle.demands.specs.Generated.{GenerateDone}
use Rattle.demands.proofs.Delivered.{Gave, done_gave}

module _ {number : ℕ} {upstream target image : List ℕ} (call : Imaged number upstream target image) where
  abbrev m : Models
  m = call.models

  abbrev header : Header
  header = header_of image

  -- the bytes of an entry answer as the rows do
  entry_as_row : (s a : ℕ) → s < call.machine.states → a < letters_of (up m) → answer_at call.rows s a ≡ entry_answer image s a
  entry_as_row s a l k = look (dec_lt a access_letters)
    where
      w : ℕ
      w = word call.rows s a

      look : Dec (a < access_letters) → answer_at call.rows s a ≡ entry_answer image s a
      look (yes p) =
          let f = fence_image _ _ (laid_out call) s a l p in
          let n = next_image _ _ (laid_out call) s a l p in
          rw (lt-ltb a access_letters p, call.image_is, f, n)
      look (no p) =
          let e : access_letters + (a - access_letters) ≡ a = omega arith in
          let own : w / 256 ≡ 255 =
          subst (λ (b : ℕ). word call.rows s b / 256 ≡ 255) e
          ((laid_out call).fences s (a - access_letters) l (omega (arith, (making call).its_ups))).0 in
          let next : at image (position 1 s (2 * access_letters + (a - access_letters))) ≡ w % 256 =
          ap (λ (i : List ℕ). at i (position 1 s (2 * access_letters + (a - access_letters)))) call.image_is
          ∙ onward_image _ _ (laid_out call) s (a - access_letters) l (omega (arith, ups_few call))
          ∙ ap (λ (b : ℕ). word call.rows s b % 256) e in
          let no : eqb (w / 256) 254 ≡ false = ne_eqb (w / 256) 254 (λ z. omega (arith, own)) in
          let here : answer_at call.rows s a ≡ taken 255 (w % 256) = rw no (ap (λ (o : ℕ). taken o (w % 256)) own) in
          here ∙ rw (le-ltb a access_letters (omega arith)) (ap (λ (t : ℕ). taken 255 t) (sym next))

  states_are : states_of image ≡ call.machine.states
  unfolding header_of
  states_are = ap (λ (h : Header). h.states) (image_header call)

  -- The bytes are the image of the machine of the two models.
  pub image_of_lem : MinimalImage m image
  unfolding header_of
  image_of_lem =
      record {
        accepted = image_accepted call;
        way = ap (λ (h : Header). h.way) (image_header call) ∙ (making call).way_number_is;
        upstream_fences = ap (λ (h : Header). h.ups) (image_header call) ∙ (making call).its_ups;
        target_fences = ap (λ (h : Header). h.targets) (image_header call) ∙ (making call).its_targets;
        upstream_name = ap (λ (h : Header). h.upstream) (image_header call);
        target_name = ap (λ (h : Header). h.target) (image_header call);
        size = image_length call ∙ ap (λ (n : ℕ). 512 * blocks_for 1 n) (sym states_are);
        described = subst (λ (n : ℕ). Described (shim m.way (up m) (on m)) (Same (shim m.way (up m) (on m))) n (entry_answer image))
            (sym states_are)
            (described_as (making call).states entry_as_row);
      }

-- What is given of two models that were read.
pub data MachineIs (m : Models) : Given → Type 0 where
  crowded : ManySituations m.way (up m) (on m) → MachineIs m (refuses Refusal.TooManySituations)
  overfull : (ManySituations m.way (up m) (on m) → ⊥) → ManyStates m.way (up m) (on m) → MachineIs m (refuses Refusal.TooManyStates)
  made : {image : List ℕ} → (ManySituations m.way (up m) (on m) → ⊥) → (ManyStates m.way (up m) (on m) → ⊥) → MinimalImage m image
      → MachineIs m (gives image 0 0)

module _ {number : ℕ} {upstream target : List ℕ} {m : Models} (o : Opened number upstream target m) where
  -- the call goes on with the models
  pub given_models : {g : Given} → ImageGiven number upstream target g ↔ MachineGiven m g
  given_models {g} =
      let e = opens_so (told_opens o) in
      (subst (λ (x : Opening). GivenOnOpened x MachineGiven g) e, subst (λ (x : Opening). GivenOnOpened x MachineGiven g) (sym e))

  all_up : named (up m).fences ≡ (up m).fences
  all_up = all_named m.upstream (few_read upstream (told_opens o).upstream_read)

  all_on : named (on m).fences ≡ (on m).fences
  all_on = all_named m.target (few_read target (told_opens o).target_read)

  module _ {g : Given} (given : MachineGiven m g) where
    pub as_8 : (g ≡ refuses Refusal.TooManySituations) ↔ ManySituations m.way (up m) (on m)
    as_8 =
        subst₂ (λ (a b : List ℕ). (g ≡ refuses Refusal.TooManySituations)
        ↔ ManySituations m.way (upstream_of (shim_between m) a) (target_of (shim_between m) b)) all_up all_on (gives_8_exactly_when m g given)

    pub as_9 : (g ≡ refuses Refusal.TooManyStates) ↔ ((ManySituations m.way (up m) (on m) → ⊥) × ManyStates m.way (up m) (on m))
    as_9 =
        subst₂ (λ (a b : List ℕ). (g ≡ refuses Refusal.TooManyStates)
        ↔ ((ManySituations m.way (upstream_of (shim_between m) a) (target_of (shim_between m) b) → ⊥)
        × ManyStates m.way (upstream_of (shim_between m) a) (target_of (shim_between m) b))) all_up all_on (gives_9_exactly_when m g given)

    image_given : (bytes : List ℕ) (f s : ℕ) → g ≡ gives bytes f s → MinimalImage m bytes
    image_given bytes f s e =
        let call = imaged number upstream target bytes f s (subst (ImageGiven number upstream target) e (given_models.1 given)) in
        subst (λ (x : Models). MinimalImage x bytes) (opened_one (opens_told call.opens) o) (image_of_lem call)

    pub machine_is : MachineIs m g
    machine_is = by given.outcome given.made given.gives_it
      where
        refusal : (why : Refusal) → Unmade (shim_of (shim_between m) (named (up m).fences) (named (on m).fences)) blank why
            → g ≡ refuses why → MachineIs m g
        refusal why (unmade.crowded h) e = subst (MachineIs m) (sym e) (crowded (as_8.0 e))
        refusal why (unmade.overfull f h) e = subst (MachineIs m) (sym e) (overfull (as_9.0 e).0 (as_9.0 e).1)
        refusal why (unmade.roomless f k d s) e = absurd (never_7 m g given e)

        by : (x : Outcome) → MachineMade m blank x given.rows → g ≡ given_by x m given.rows → MachineIs m g
        by (Err why) h e = refusal why h.generated.0 e
        by (Ok x) h e =
            let bytes = image_of (header_for x m) given.rows in
            let few : ManySituations m.way (up m) (on m) → ⊥ = λ z.
            let w : gives bytes 0 0 ≡ refuses Refusal.TooManySituations = sym e ∙ as_8.1 z in
            differ (cc) in
            let small : ManyStates m.way (up m) (on m) → ⊥ = λ z.
            let w : gives bytes 0 0 ≡ refuses Refusal.TooManyStates = sym e ∙ as_9.1 (few, z) in
            differ (cc) in
            subst (MachineIs m) (sym e) (made few small (image_given bytes 0 0 e))

-- What is given of a number and two texts.
pub data GenerateIs (number : ℕ) (upstream target : List ℕ) : Given → Type 0 where
  unopened : {why : Refusal} → OpeningRefused number upstream target why → GenerateIs number upstream target (refuses why)
  opens : {m : Models} {g : Given} → Opened number upstream target m → MachineIs m g → GenerateIs number upstream target g

pub generate_is : (number : ℕ) (upstream target : List ℕ) (g : Given) → ImageGiven number upstream target g → GenerateIs number upstream target g
generate_is number upstream target g given = by (opened number upstream target) refl given
  where
    by : (o : Opening) → opened number upstream target ≡ o → GivenOnOpened o MachineGiven g → GenerateIs number upstream target g
    by (Err why) e h = subst (GenerateIs number upstream target) (sym h) (unopened (opening_told number upstream target e))
    by (Ok m) e h =
        let o = opens_told (shims.opens (way_of number) upstream target e) in
        opens o (machine_is o h)

pub unopened_is : {number : ℕ} {upstream target : List ℕ} {why : Refusal} {g : Given} → OpeningRefused number upstream target why
    → ImageGiven number upstream target g → g ≡ refuses why
unopened_is {g = g} o h = subst (λ (x : Opening). GivenOnOpened x MachineGiven g) (told_opening o) h

-- Two images of the same models have the same states, with the same answers, and the same length.
module _ {m : Models} {first second : List ℕ} (a : MinimalImage m first) (b : MinimalImage m second) where
  abbrev rules : Machine Situation ℕ
  rules = shim m.way (up m) (on m)

  pub same_states : states_of first ≡ states_of second
  same_states = (described_unique rules (Same rules) (mealy.same_states rules) a.described b.described).0

  pub same_length : length first ≡ length second
  same_length = a.size ∙ ap (λ (n : ℕ). 512 * blocks_for 1 n) same_states ∙ sym b.size

-- An accepted call has written the image.
pub image_done : (number : ℕ) (upstream target : List ℕ) {out : List ℕ} {written fences state : ℕ} {after : List ℕ}
    → Answers (ImageGiven number upstream target) out (Ok (wrote written fences state)) after
    → GenerateDone number upstream target out written fences state after
image_done number upstream target {out} {written} {fences} {state} {after} call =
    by (generate_is number upstream target call.given call.right) gave.is
  where
    gave : Gave call.given out written fences state after
    gave = done_gave call.delivered

    by : {g : Given} → GenerateIs number upstream target g → g ≡ gives (take written after) fences state
        → GenerateDone number upstream target out written fences state after
    by (unopened o) e = differ (cc)
    by (opens o (crowded h)) e = differ (cc)
    by (opens o (overfull f h)) e = differ (cc)
    by (opens {m = m} o (made {image = image} f h i)) e =
        let bytes : image ≡ take written after = cc in
        record {
          models = m;
          opened = o;
          image = subst (MinimalImage m) bytes i;
          no_fences = cc;
          no_state = cc;
          size = gave.size;
          fits = gave.fits;
          rest_kept = gave.rest;
        }
