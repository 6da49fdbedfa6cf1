-- The last line of a run that a fault of the folder ends, and its status.
use Rattle.std.specs.Prelude.{◌≡◌, ◌⊎◌, ℕ, List, [], ◌++◌, Option, Some, None, codes, decimal}
use Rattle.std.specs.Io.KnownBytes.{Appends}
use Rattle.view_ports.specs.Exchanges.{IsPrefixOf}
use Rattle.view_ports.specs.declared.file_name.FileName.{FileName}
use Rattle.real_ports.specs.FileNames.{file_text}
use Rattle.view_engine.specs.declared.halt.StepFault.{StepFault}
use Rattle.view_engine.specs.declared.halt.StepFault.TheVariants.{DiskFault, Damaged, Full, NoMemory}

-- the exit status
abbrev pub fault_status : StepFault → ℕ
fault_status DiskFault = 3
fault_status (Damaged name offset) = 7
fault_status (Full name length) = 9
fault_status NoMemory = 6

-- which limit a file reached: its length, or the number of its commits
abbrev pub limit_text : Option ℕ → List ℕ
limit_text (Some length) = decimal length
limit_text None = codes "commits"

-- the name of an error, and a file with what there is to say of it
abbrev pub about_file : List ℕ → FileName → List ℕ → List ℕ
about_file error name what = codes "{\"error\":\"" ++ (error ++ (codes "\",\"reason\":\"" ++ (file_text name ++ (codes " " ++ (what ++ codes "\"}\n")))))

-- the last line, with its newline; for want of memory there is none
abbrev pub closing_of : StepFault → List ℕ
closing_of DiskFault = codes "{\"error\":\"disk_fault\",\"reason\":\"the run ends\"}\n"
closing_of (Damaged name offset) = about_file (codes "damaged") name (decimal offset)
closing_of (Full name length) = about_file (codes "full") name (limit_text length)
closing_of NoMemory = []

-- a file is full
abbrev pub IsOfFull : StepFault → Type 0
IsOfFull fault = (name : FileName) × (length : Option ℕ) × (fault ≡ Full name length)

-- the sink gained the text and the last line, or it failed in the last line
abbrev pub Closes : Option (List ℕ) → Option (List ℕ) → List ℕ → StepFault → ℕ → Type 0
Closes before after text fault status = ((status ≡ fault_status fault) × Appends before after (text ++ closing_of fault))
    ⊎ ((status ≡ 4) × ((part : List ℕ) × IsPrefixOf part (closing_of fault) × Appends before after (text ++ part)))
