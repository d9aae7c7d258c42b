-- Document 01: "The sixteen built-in models, numbered 0 to 15, are from document 002, A.2 and A.3. Rows cld and cst are SSSS unless given.
-- "Full" is S throughout." "Targets 9 to 13 have the ppo of TSO, PLO, PSO, LSO, RMO and the fences msfence, mlfence, mfence (full)". "14 is
-- POWER as 7, 15 is ARM as 8." Refusal 12: "a .. built-in number is out of range".
use Rattle.std.specs.Prelude.{ℕ, cond, List, [], ◌∷◌, ◌++◌, ltb, get_or}
use Prim.Native.String.{String}
use Rattle.ground.specs.Bytes.{bytes}
use Rattle.answers.specs.declared.Refusal.{Refusal}
use Rattle.answers.specs.Given.{Given}
use Rattle.tables.specs.declared.table.Table.{Table}
use Rattle.models.specs.Told.{Reading, held, accepting, refusing}
use Rattle.models.specs.Model.{Fence, Description}
use Rattle.models.specs.Reading.{table_in}
use Rattle.models.specs.Text.{text_of}
use Rattle.writing.specs.Calls.{text_given}

-- a table by its four rows, and by its ld and st rows
unfoldable pub four_rows : String → Table
four_rows text = table_in (bytes text)

unfoldable pub under : String → String → Table
under ld st = table_in (bytes "SSSS SSSS " ++ (bytes ld ++ (bytes " " ++ bytes st)))

abbrev pub full : Table
full = four_rows "SSSS SSSS SSSS SSSS"

abbrev pub none : Table
none = four_rows "---- ---- ---- ----"

abbrev pub model : String → Table → List Fence → Description
model name ppo fences = record { name = bytes name; ppo = ppo; fences = fences }

abbrev pub fence : String → Table → Fence
fence name table = record { name = bytes name; table = table }

abbrev pub power : Description
power = model "POWER" none (fence "lwsync" (four_rows "SSSS --NN SSSS --NN") ∷ fence "sync" full ∷ [])

abbrev pub arm : Description
arm = model "ARM" none (fence "dmb" full ∷ [])

-- a target of 9 to 13
abbrev pub target : String → Table → Table → Table → Description
target name ppo msfence mlfence = model name ppo (fence "msfence" msfence ∷ fence "mlfence" mlfence ∷ fence "mfence" full ∷ [])

unfoldable pub built_ins : List Description
built_ins =
    model "SC" (under "SSSS" "SSSS") []
    ∷ model "TSO" (under "SSSS" "-SMS") (fence "mfence" full ∷ [])
    ∷ model "PLO" (under "-SSS" "-SMS") (fence "mfence" full ∷ [])
    ∷ model "PSO" (under "SSSS" "-S-S") (fence "mfence" full ∷ [])
    ∷ model "LSO" (under "-SSS" "-S-S") (fence "mfence" full ∷ [])
    ∷ model "RMO" (under "-S-S" "-S-S") []
    ∷ model "POWERA" (under "-S-S" "-S-S") (fence "lwsync" (under "SSSS" "-SNS") ∷ fence "sync" full ∷ [])
    ∷ power
    ∷ arm
    ∷ target "TSO" (under "SSSS" "-SMS") (under "SSSS" "-SSS") (under "SSSS" "SSMS")
    ∷ target "PLO" (under "-SSS" "-SMS") (under "-SSS" "-SSS") (under "SSSS" "SSMS")
    ∷ target "PSO" (under "SSSS" "-S-S") (under "SSSS" "-SSS") (under "SSSS" "SS-S")
    ∷ target "LSO" (under "-SSS" "-S-S") (under "-SSS" "-SSS") (under "SSSS" "SS-S")
    ∷ target "RMO" (under "-S-S" "-S-S") (under "-SSS" "-SSS") (under "SSSS" "SS-S")
    ∷ power
    ∷ arm
    ∷ []

unfoldable pub built_in : ℕ → Description
built_in n = get_or built_ins n (model "" none [])

unfoldable pub built_in_reading : ℕ → Reading
built_in_reading n = cond (ltb 15 n) (refusing Refusal.OutOfRange) (accepting (held (built_in n)))

-- what the call gives that writes a built-in model's text
abbrev pub built_in_given : ℕ → Given
built_in_given n = text_given (built_in_reading n) (text_of (built_in n))
