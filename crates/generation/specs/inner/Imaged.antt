-- What a call has done that gives an image. The theorems of the call are stated with it.
use Rattle.std.specs.Prelude.{ℕ, ◌≡◌, List, Ok}
use Rattle.shims.specs.declared.Models.{Models}
use Rattle.shims.specs.Opening.{way_of, Opens}
use Rattle.machine.specs.declared.machine.Machine.{Machine}
use Rattle.making.specs.Made.{MachineMade}
use Rattle.image.specs.Image.{image_of}
use Rattle.generation.specs.Generating.{header_for, blank}

-- its way and its two models, the machine that was made of them, and the image
pub record Imaged (number : ℕ) (upstream target image : List ℕ) : Type 0 where
  pub models : Models
  pub opens : Opens (way_of number) upstream target models
  pub machine : Machine
  pub rows : List ℕ
  pub made : MachineMade models blank (Ok machine) rows
  pub image_is : image ≡ image_of (header_for machine models) rows
