-- The names and the rows of the built-in models, as src/numbers.rt has them, and the model that a row holds. That each row holds the
-- model of document 01 is one computed test (proofs/BuiltIns).
use Rattle.std.specs.Prelude.{ℕ, ◌*◌, ◌%◌, List, [], ◌∷◌, get_or, take, drop, replicate}
use Rattle.models.specs.declared.model.Name.{Name}
use Rattle.models.specs.declared.model.Model.{Model}
use Rattle.models.specs.Told.{filled}

unfoldable pub name_bytes : List ℕ
name_bytes =
    83 ∷ 67 ∷ 0 ∷ 0 ∷ 0 ∷ 0 ∷ 0 ∷ 0 ∷ 0 ∷ 0 ∷ 0 ∷ 0 ∷ 0 ∷ 0 ∷ 0 ∷ 0 ∷
    84 ∷ 83 ∷ 79 ∷ 0 ∷ 0 ∷ 0 ∷ 0 ∷ 0 ∷ 0 ∷ 0 ∷ 0 ∷ 0 ∷ 0 ∷ 0 ∷ 0 ∷ 0 ∷
    80 ∷ 76 ∷ 79 ∷ 0 ∷ 0 ∷ 0 ∷ 0 ∷ 0 ∷ 0 ∷ 0 ∷ 0 ∷ 0 ∷ 0 ∷ 0 ∷ 0 ∷ 0 ∷
    80 ∷ 83 ∷ 79 ∷ 0 ∷ 0 ∷ 0 ∷ 0 ∷ 0 ∷ 0 ∷ 0 ∷ 0 ∷ 0 ∷ 0 ∷ 0 ∷ 0 ∷ 0 ∷
    76 ∷ 83 ∷ 79 ∷ 0 ∷ 0 ∷ 0 ∷ 0 ∷ 0 ∷ 0 ∷ 0 ∷ 0 ∷ 0 ∷ 0 ∷ 0 ∷ 0 ∷ 0 ∷
    82 ∷ 77 ∷ 79 ∷ 0 ∷ 0 ∷ 0 ∷ 0 ∷ 0 ∷ 0 ∷ 0 ∷ 0 ∷ 0 ∷ 0 ∷ 0 ∷ 0 ∷ 0 ∷
    80 ∷ 79 ∷ 87 ∷ 69 ∷ 82 ∷ 65 ∷ 0 ∷ 0 ∷ 0 ∷ 0 ∷ 0 ∷ 0 ∷ 0 ∷ 0 ∷ 0 ∷ 0 ∷
    80 ∷ 79 ∷ 87 ∷ 69 ∷ 82 ∷ 0 ∷ 0 ∷ 0 ∷ 0 ∷ 0 ∷ 0 ∷ 0 ∷ 0 ∷ 0 ∷ 0 ∷ 0 ∷
    65 ∷ 82 ∷ 77 ∷ 0 ∷ 0 ∷ 0 ∷ 0 ∷ 0 ∷ 0 ∷ 0 ∷ 0 ∷ 0 ∷ 0 ∷ 0 ∷ 0 ∷ 0 ∷
    109 ∷ 102 ∷ 101 ∷ 110 ∷ 99 ∷ 101 ∷ 0 ∷ 0 ∷ 0 ∷ 0 ∷ 0 ∷ 0 ∷ 0 ∷ 0 ∷ 0 ∷ 0 ∷
    108 ∷ 119 ∷ 115 ∷ 121 ∷ 110 ∷ 99 ∷ 0 ∷ 0 ∷ 0 ∷ 0 ∷ 0 ∷ 0 ∷ 0 ∷ 0 ∷ 0 ∷ 0 ∷
    115 ∷ 121 ∷ 110 ∷ 99 ∷ 0 ∷ 0 ∷ 0 ∷ 0 ∷ 0 ∷ 0 ∷ 0 ∷ 0 ∷ 0 ∷ 0 ∷ 0 ∷ 0 ∷
    100 ∷ 109 ∷ 98 ∷ 0 ∷ 0 ∷ 0 ∷ 0 ∷ 0 ∷ 0 ∷ 0 ∷ 0 ∷ 0 ∷ 0 ∷ 0 ∷ 0 ∷ 0 ∷
    109 ∷ 115 ∷ 102 ∷ 101 ∷ 110 ∷ 99 ∷ 101 ∷ 0 ∷ 0 ∷ 0 ∷ 0 ∷ 0 ∷ 0 ∷ 0 ∷ 0 ∷ 0 ∷
    109 ∷ 108 ∷ 102 ∷ 101 ∷ 110 ∷ 99 ∷ 101 ∷ 0 ∷ 0 ∷ 0 ∷ 0 ∷ 0 ∷ 0 ∷ 0 ∷ 0 ∷ 0 ∷
    0 ∷ 0 ∷ 0 ∷ 0 ∷ 0 ∷ 0 ∷ 0 ∷ 0 ∷ 0 ∷ 0 ∷ 0 ∷ 0 ∷ 0 ∷ 0 ∷ 0 ∷ 0 ∷
    []

unfoldable pub model_numbers : List (List ℕ)
model_numbers =
    (0 ∷ 0xffff_ffff ∷ 0 ∷ 15 ∷ 0 ∷ 15 ∷ 0 ∷ 15 ∷ 0 ∷ []) ∷
    (1 ∷ 0xecff_ffff ∷ 1 ∷ 9 ∷ 0xffff_ffff ∷ 15 ∷ 0 ∷ 15 ∷ 0 ∷ []) ∷
    (2 ∷ 0xecfc_ffff ∷ 1 ∷ 9 ∷ 0xffff_ffff ∷ 15 ∷ 0 ∷ 15 ∷ 0 ∷ []) ∷
    (3 ∷ 0xccff_ffff ∷ 1 ∷ 9 ∷ 0xffff_ffff ∷ 15 ∷ 0 ∷ 15 ∷ 0 ∷ []) ∷
    (4 ∷ 0xccfc_ffff ∷ 1 ∷ 9 ∷ 0xffff_ffff ∷ 15 ∷ 0 ∷ 15 ∷ 0 ∷ []) ∷
    (5 ∷ 0xcccc_ffff ∷ 0 ∷ 15 ∷ 0 ∷ 15 ∷ 0 ∷ 15 ∷ 0 ∷ []) ∷
    (6 ∷ 0xcccc_ffff ∷ 2 ∷ 10 ∷ 0xdcff_ffff ∷ 11 ∷ 0xffff_ffff ∷ 15 ∷ 0 ∷ []) ∷
    (7 ∷ 0 ∷ 2 ∷ 10 ∷ 0x50ff_50ff ∷ 11 ∷ 0xffff_ffff ∷ 15 ∷ 0 ∷ []) ∷
    (8 ∷ 0 ∷ 1 ∷ 12 ∷ 0xffff_ffff ∷ 15 ∷ 0 ∷ 15 ∷ 0 ∷ []) ∷
    (1 ∷ 0xecff_ffff ∷ 3 ∷ 13 ∷ 0xfcff_ffff ∷ 14 ∷ 0xefff_ffff ∷ 9 ∷ 0xffff_ffff ∷ []) ∷
    (2 ∷ 0xecfc_ffff ∷ 3 ∷ 13 ∷ 0xfcfc_ffff ∷ 14 ∷ 0xefff_ffff ∷ 9 ∷ 0xffff_ffff ∷ []) ∷
    (3 ∷ 0xccff_ffff ∷ 3 ∷ 13 ∷ 0xfcff_ffff ∷ 14 ∷ 0xcfff_ffff ∷ 9 ∷ 0xffff_ffff ∷ []) ∷
    (4 ∷ 0xccfc_ffff ∷ 3 ∷ 13 ∷ 0xfcfc_ffff ∷ 14 ∷ 0xcfff_ffff ∷ 9 ∷ 0xffff_ffff ∷ []) ∷
    (5 ∷ 0xcccc_ffff ∷ 3 ∷ 13 ∷ 0xfcfc_ffff ∷ 14 ∷ 0xcfff_ffff ∷ 9 ∷ 0xffff_ffff ∷ []) ∷
    (7 ∷ 0 ∷ 2 ∷ 10 ∷ 0x50ff_50ff ∷ 11 ∷ 0xffff_ffff ∷ 15 ∷ 0 ∷ []) ∷
    (8 ∷ 0 ∷ 1 ∷ 12 ∷ 0xffff_ffff ∷ 15 ∷ 0 ∷ 15 ∷ 0 ∷ []) ∷
    []

-- the name at a place of the names, and the model of a row
unfoldable pub name_from : ℕ → Name
name_from k = record { bytes = take 16 (drop (16 * k) name_bytes) }

abbrev pub number : ℕ → ℕ → ℕ
number n j = get_or (get_or model_numbers n []) j 0

unfoldable pub model_from : ℕ → Model
model_from n = record {
  ppo = record { packed = number n 1 };
  fences = number n 2;
  tables = number n 4 ∷ number n 6 ∷ number n 8 ∷ replicate 13 0;
  name = name_from (number n 0 % 16);
  names = name_from (number n 3 % 16) ∷ name_from (number n 5 % 16) ∷ name_from (number n 7 % 16) ∷ replicate 13 (filled []);
}
