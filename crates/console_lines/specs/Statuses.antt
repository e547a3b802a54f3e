-- A run ends with a status. Each status has its number, and the line that tells it.
-- A run that isn't done has a fault, and each fault has its status. "Statuses" in docs/formats.md.
use Rattle.std.specs.Prelude.{◌≡◌, ◌⊎◌, ℕ, List, [], ◌∷◌, ◌++◌, codes}
use Rattle.console_lines.specs.declared.status.Status.{Status}
use Rattle.console_lines.specs.declared.status.Status.TheVariants.{Done, Words, BadFile, ReadFault, WriteFault, Memory, Limit}
use Rattle.console_lines.specs.declared.status.RunFault.{RunFault}
use Rattle.console_lines.specs.declared.status.RunFault.TheVariants.{BadFile as IsBad, Limit as Beyond, Reading, Writing, Memory as Lacking}

-- the number of a status
abbrev pub status_number : Status → ℕ
status_number Done = 0
status_number Words = 2
status_number BadFile = 3
status_number ReadFault = 4
status_number WriteFault = 5
status_number Memory = 8
status_number Limit = 9

-- the line of a status
abbrev pub status_line : Status → List ℕ
status_line Done = codes "status 0" ++ (10 ∷ [])
status_line Words = codes "status 2" ++ (10 ∷ [])
status_line BadFile = codes "status 3" ++ (10 ∷ [])
status_line ReadFault = codes "status 4" ++ (10 ∷ [])
status_line WriteFault = codes "status 5" ++ (10 ∷ [])
status_line Memory = codes "status 8" ++ (10 ∷ [])
status_line Limit = codes "status 9" ++ (10 ∷ [])

-- the status of a run that isn't done for this
abbrev pub status_of : RunFault → Status
status_of (IsBad _ _ _) = BadFile
status_of Beyond = Limit
status_of Reading = ReadFault
status_of Writing = WriteFault
status_of Lacking = Memory

-- one of the numbers of a status
abbrev pub IsStatusNumber : ℕ → Type 0
IsStatusNumber number = (number ≡ 0) ⊎ (number ≡ 2) ⊎ (number ≡ 3) ⊎ (number ≡ 4) ⊎ (number ≡ 5)
    ⊎ (number ≡ 8) ⊎ (number ≡ 9)
