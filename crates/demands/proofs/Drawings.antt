-- Drawings and images, each made from the other: a drawing has one image, and that image has this drawing, since both hang on the same words of a
-- machine. Assumes nothing.
use Rattle.std.proofs.Common.{Ok, Err}
use Prim.Native.Nat.{ℕ, ◌+◌, ◌*◌, ◌<◌, ◌≤◌}
use mathlib.Core.Path.{◌≡◌, refl, sym, ap, ap₂, subst, ◌∙◌}
use mathlib.Core.List.{List}
use native.Mathlib.Omega.{arith}
use lib.ListN.{length}
use Rattle.ground.specs.Bytes.{at}
use Rattle.ground.proofs.Truths.{differ}
use Rattle.answers.specs.declared.Refusal.{Refusal}
use Rattle.answers.specs.Answer.{Answer, wrote, Verdict}
use Rattle.answers.specs.Given.{Given, gives, refuses, unless_refused, Delivers, Answers}
use Rattle.operations.specs.Alphabet.{stride}
use Rattle.layout.specs.Verdict.{verdict_of}
use Rattle.layout.proofs.Faultless.{accepted_faultless}
use Rattle.image.specs.declared.machine.Header.{Header}
use Rattle.image.specs.Image.{listed, image_of, header_of, rows_of, Canonical}
use Rattle.image.proofs.Accepted.{canonical_read}
use Rattle.image.proofs.Canonicals.{canonical_accepted, same_header, same_rows}
use Rattle.image.proofs.Fronts.{at_listed}
use Rattle.image.proofs.Theorems.{written_read}
use Rattle.image.proofs.ImageBytes.{image_bytes}
use Rattle.drawing.specs.Drawing.{longest, drawing_of}
use Rattle.drawing.specs.Calls.{drawn}
use Rattle.drawing.proofs.Longest.{drawing_length}
use Rattle.drawing.proofs.SameWords.{drawing_of_words}
use Rattle.texts.proofs.Language.{longest_iff}
use Rattle.drawing_reader.specs.Undrawing as undrawing
use Rattle.drawing_reader.specs.Undrawing.{Undrawn, over, departs, undrawn}
use Rattle.drawing_reader.proofs.Unique.{undrawn_one}
use Rattle.demands.specs.Drawings as calls
use Rattle.demands.specs.Drawings.{DrawnAs, DrawDone, UndrawDone, DrawRefused, UndrawRefused}
use Rattle.demands.proofs.Delivered.{Withheld, refused, exceeds, refused_as, refused_withheld, withheld_refused, done_gave}
use Rattle.demands.proofs.Images.{verdict_told, told_verdict}

-- the image of a machine of the layout has the machine's drawing
pub machine_drawn : (h : Header) (rows : List ℕ) → Canonical h rows → {text : List ℕ} → text ≡ drawing_of h rows → DrawnAs (image_of h rows) text
machine_drawn h rows m e =
    let same : drawing_of (header_of (image_of h rows)) (rows_of (image_of h rows)) ≡ drawing_of h (listed (h.states * stride) (at rows))
    = ap₂ drawing_of (same_header h rows m) (same_rows h rows m) in
    let words = drawing_of_words h (listed (h.states * stride) (at rows)) rows m.ups
    (λ s a l k. at_listed (h.states * stride) (at rows) (s * stride + a) (omega arith)) in
    record { bytes = image_bytes h rows m; accepted = canonical_accepted h rows m; text_is = e ∙ sym (same ∙ words) }

module _ {image text : List ℕ} (d : DrawnAs image text) where
  -- and an image that reads is a machine's
  pub drawn_machine : Canonical (header_of image) (rows_of image)
  drawn_machine = canonical_read image d.bytes (accepted_faultless image d.accepted)

  -- no drawing has more bytes
  pub drawn_short : length text ≤ longest
  drawn_short = omega (arith, ap length d.text_is, drawing_length (header_of image) (rows_of image) drawn_machine)

  -- what drawing it gives
  pub drawing_given : drawn image ≡ gives text 0 0
  unfolding drawn
  drawing_given =
      ap (λ (v : Verdict). unless_refused v (λ _. gives (drawing_of (header_of image) (rows_of image)) 0 0)) d.accepted
      ∙ ap (λ (t : List ℕ). gives t 0 0) (sym d.text_is)

-- the texts of the form are the drawings of images that read
pub drawing_image : (text : List ℕ) → undrawing.Drawing text → calls.Drawing text
drawing_image text (h, rows, m, e) = (image_of h rows, machine_drawn h rows m e)

pub image_drawing : (text : List ℕ) → calls.Drawing text → undrawing.Drawing text
image_drawing text (image, d) = (header_of image, rows_of image, drawn_machine d, d.text_is)

-- what drawing an image has given is its drawing
pub given_drawing : {image text : List ℕ} {f s : ℕ} → ((k : ℕ) → at image k < 256) → drawn image ≡ gives text f s
    → DrawnAs image text × (f ≡ 0) × (s ≡ 0)
unfolding drawn
given_drawing {image} {text} {f} {s} small = by (verdict_of image) refl
  where
    by : (v : Verdict) → verdict_of image ≡ v → unless_refused v (λ _. gives (drawing_of (header_of image) (rows_of image)) 0 0) ≡ gives text f s
        → DrawnAs image text × (f ≡ 0) × (s ≡ 0)
    by (Err why) a e = differ (cc)
    by (Ok tt) a e =
        let same : text ≡ drawing_of (header_of image) (rows_of image) = cc in
        let no_fences : f ≡ 0 = cc in
        let no_state : s ≡ 0 = cc in
        (record { bytes = small; accepted = a; text_is = same }, no_fences, no_state)

-- what reading a drawing back has given is the image that it is the drawing of
pub given_image : {text image : List ℕ} {f s : ℕ} {g : Given} → Undrawn text g → g ≡ gives image f s → DrawnAs image text × (f ≡ 0) × (s ≡ 0)
given_image (over l) e = differ (cc)
given_image (departs l n k) e = differ (cc)
given_image {text = text} {image = image} {f = f} {s = s} (undrawn {h = h} {rows = rows} l m t) e =
    let same : image_of h rows ≡ image = cc in
    let no_fences : f ≡ 0 = cc in
    let no_state : s ≡ 0 = cc in
    (subst (λ (i : List ℕ). DrawnAs i text) same (machine_drawn h rows m t), no_fences, no_state)

-- and nothing else is given of a drawing
pub image_given : {image text : List ℕ} {g : Given} → DrawnAs image text → Undrawn text g → g ≡ gives image 0 0
image_given {image} {text} d u =
    undrawn_one text u (undrawn (omega (arith, drawn_short d)) (drawn_machine d) d.text_is)
    ∙ ap (λ (i : List ℕ). gives i 0 0) (written_read image d.bytes d.accepted)

-- what is withheld by a call that draws an image
module _ (image : List ℕ) (room : ℕ) where
  abbrev given : Verdict → Given
  given v = unless_refused v (λ _. gives (drawing_of (header_of image) (rows_of image)) 0 0)

  pub draw_told : {why : Refusal} → Withheld (drawn image) room why → DrawRefused image room why
  unfolding drawn
  draw_told h = by (verdict_of image) refl h
    where
      by : (v : Verdict) → verdict_of image ≡ v → {why : Refusal} → Withheld (given v) room why → DrawRefused image room why
      by (Err is) e w = calls.image_refused (verdict_told image (e ∙ ap Err (refused_as refl w)))
      by (Ok tt) e (refused w) = differ (cc)
      by (Ok tt) e (exceeds {bytes = out} w l) =
          let same : drawing_of (header_of image) (rows_of image) ≡ out = cc in
          calls.too_small e (omega (arith, l, ap length same))

  pub told_draw : {why : Refusal} → DrawRefused image room why → Withheld (drawn image) room why
  unfolding drawn
  told_draw (calls.image_refused h) = refused (ap given (told_verdict image h))
  told_draw (calls.too_small a l) = exceeds (ap given a) l

-- what is withheld by a call that reads a drawing back
pub undraw_told : {text : List ℕ} {room : ℕ} {g : Given} → Undrawn text g → {why : Refusal} → Withheld g room why → UndrawRefused text room why
undraw_told {text} {room} (over l) {why} (refused e) =
    let same : Refusal.OverLimit ≡ why = cc in
    subst (UndrawRefused text room) same (calls.over_limit l)
undraw_told (over l) (exceeds e k) = differ (cc)
undraw_told {text} {room} (departs {k = j} l n h) {why} (refused e) =
    let same : Refusal.NotOfTheForm j ≡ why = cc in
    subst (UndrawRefused text room) same (calls.not_of_the_form j l (λ x. n (image_drawing text x))
    (longest_iff undrawing.Drawing calls.Drawing drawing_image image_drawing text j h))
undraw_told (departs l n h) (exceeds e k) = differ (cc)
undraw_told (undrawn l m t) (refused e) = differ (cc)
undraw_told (undrawn {h = h} {rows = rows} l m t) (exceeds {bytes = bytes} e k) =
    let same : image_of h rows ≡ bytes = cc in
    calls.too_small l (machine_drawn h rows m t) (omega (arith, k, ap length same))

pub told_undraw : {text : List ℕ} {room : ℕ} {g : Given} → Undrawn text g → {why : Refusal} → UndrawRefused text room why → Withheld g room why
told_undraw {text} u (calls.over_limit l) = refused (undrawn_one text u (over l))
told_undraw {text} u (calls.not_of_the_form j l n h) =
    refused (undrawn_one text u (departs l (λ x. n (drawing_image text x))
    (longest_iff calls.Drawing undrawing.Drawing image_drawing drawing_image text j h)))
told_undraw u (calls.too_small l d k) = exceeds (image_given d u) k

-- a text is read back exactly where it is a drawing
module _ {text out : List ℕ} {r : Answer} {after : List ℕ} (call : Answers (Undrawn text) out r after) where
  pub undrawn_accepted : ((why : Refusal) → r ≡ Err why → why ≡ Refusal.BufferTooSmall) → (image : List ℕ) × DrawnAs image text
  undrawn_accepted only = by call.right call.delivered
    where
      by : {g : Given} → Undrawn text g → Delivers g out r after → (image : List ℕ) × DrawnAs image text
      by (over l) d =
          let e = only Refusal.OverLimit (withheld_refused d (refused refl)) in
          differ (cc)
      by (departs {k = k} l n h) d =
          let e = only (Refusal.NotOfTheForm k) (withheld_refused d (refused refl)) in
          differ (cc)
      by (undrawn {h = h} {rows = rows} l m t) d = (image_of h rows, machine_drawn h rows m t)

  pub accepted_undrawn : {image : List ℕ} → DrawnAs image text → (why : Refusal) → r ≡ Err why → why ≡ Refusal.BufferTooSmall
  accepted_undrawn {image} d why e = by (refused_withheld (subst (λ (x : Answer). Delivers call.given out x after) e call.delivered)).1
    where
      by : {w : Refusal} → Withheld call.given (length out) w → w ≡ Refusal.BufferTooSmall
      by {w} (refused h) =
          let z : gives image 0 0 ≡ refuses w = sym (image_given d call.right) ∙ h in
          differ (cc)
      by (exceeds h l) = refl

-- calls that were done
pub drawing_done : (image : List ℕ) → ((k : ℕ) → at image k < 256) → {out : List ℕ} {written fences state : ℕ} {after : List ℕ}
    → Delivers (drawn image) out (Ok (wrote written fences state)) after → DrawDone image out written fences state after
drawing_done image small call =
    let gave = done_gave call in
    let is = given_drawing small gave.is in
    record { drawn = is.0; no_fences = is.1; no_state = is.2; size = gave.size; fits = gave.fits; rest_kept = gave.rest }

pub undrawing_done : (text : List ℕ) {out : List ℕ} {written fences state : ℕ} {after : List ℕ}
    → Answers (Undrawn text) out (Ok (wrote written fences state)) after → UndrawDone text out written fences state after
undrawing_done text call =
    let gave = done_gave call.delivered in
    let is = given_image call.right gave.is in
    record { drawn = is.0; no_fences = is.1; no_state = is.2; size = gave.size; fits = gave.fits; rest_kept = gave.rest }
