-- The sizes that include/shim.h calls never too small, each by its name there.
use Rattle.std.specs.Prelude.{ℕ}
use Rattle.places.specs.Layout.{limit}

-- SHIM_TEXT_OUT: a model's text
abbrev pub text_out : ℕ
text_out = 739

-- SHIM_RUN_OUT: two bytes for each of 4,096 operations, but nothing before the first access
abbrev pub run_out : ℕ
run_out = 8191

-- SHIM_IMAGE_RUN_OUT: the state that a run starts in may put a fence there
abbrev pub image_run_out : ℕ
image_run_out = 8192

-- SHIM_IMAGE_LIMIT: an image
abbrev pub image_out : ℕ
image_out = limit

-- SHIM_DRAWING_OUT: a drawing
abbrev pub drawing_out : ℕ
drawing_out = 135719

-- SHIM_LIST_OUT: a listing
abbrev pub list_out : ℕ
list_out = 67261
