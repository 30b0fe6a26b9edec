-- How a run of the program ends.
use Rattle.std.specs.Prelude.{◌≡◌, ◌<◌, ◌≤◌, ◌⊎◌, ◌+◌, ⊤, ℕ, List, Option, Ok, Err, codes, length, IfSome}
use Rattle.std.specs.Io.KnownBytes.{Appends}
use Rattle.sgt_names.specs.Device.{WritesFront}
use Rattle.sgt_names.specs.declared.outcome.EngineFail.{EngineFail}
use Rattle.sgt_names.specs.declared.outcome.EngineFail.TheVariants.{Memory, ReadFault, WriteFault}
use Rattle.sgt_names.specs.declared.outcome.Outcome.TheVariants.{Yes, No, Unreadable}
use Rattle.sgt_names.specs.Limits.{most_reads}
use Rattle.sgt_command_line.specs.Words.{AsksFor}
use Rattle.sgt_command_line.specs.declared.choice.Choice.{Choice}
use Rattle.sgt_command_line.specs.declared.choice.Choice.TheVariants.{AuditWith}
use Rattle.sgt_program.specs.declared.ending.Ending.{Ending}
use Rattle.sgt_program.specs.declared.ending.Ending.TheVariants.{Ran, NoCommand}

-- the exit status
abbrev pub status_of : Ending → ℕ
status_of (Ran (Ok Yes)) = 0
status_of (Ran (Ok No)) = 1
status_of (Ran (Ok Unreadable)) = 2
status_of NoCommand = 2
status_of (Ran (Err Memory)) = 3
status_of (Ran (Err ReadFault)) = 4
status_of (Ran (Err WriteFault)) = 4

-- the reader failed between these counts of its failures; or it told as many bytes as the bound on
-- reads, and all reads were made, or the bytes were kept to be explained or drawn
abbrev pub ReadFailed : (is_kept : Type 0) → (told : Option (List ℕ))
    → (failures failures' asked asked' : ℕ) → Type 0
ReadFailed is_kept told failures failures' asked asked' = (failures < failures')
    ⊎ (IfSome told (λ bytes. most_reads ≤ length bytes)
    × ((asked' ≡ asked + most_reads) ⊎ is_kept))

-- behind a fault more may be read
abbrev pub ReadsOn : Choice → Type 0
ReadsOn (AuditWith workers) = ⊤
ReadsOn _ = ⊥

abbrev pub AsksWorkers : (words : List (List ℕ)) → Type 0
AsksWorkers words = (workers : ℕ) × AsksFor words (AuditWith workers)

-- no read has failed; or, where more may be read than up to a fault, the answer is a no, and one has at most
abbrev pub ReaderIsQuiet : (reads_on : Type 0) → Ending → (failures failures' : ℕ) → Type 0
ReaderIsQuiet reads_on ending failures failures' = (failures' ≡ failures)
    ⊎ (reads_on × (ending ≡ Ran (Ok No)) × (failures' ≤ failures + 1))

-- how the devices come out of a run that ends so: where no device is blamed none has failed, and
-- where one is blamed it has;
-- nothing is written for words that are no command, for want of memory and after a read that failed
abbrev pub LeavesDevices : Ending → (quiet read_failed write_failed unwritten : Type 0) → Type 0
LeavesDevices (Ran (Ok outcome)) quiet read_failed write_failed unwritten = quiet
LeavesDevices NoCommand quiet read_failed write_failed unwritten = quiet × unwritten
LeavesDevices (Ran (Err Memory)) quiet read_failed write_failed unwritten = quiet × unwritten
LeavesDevices (Ran (Err ReadFault)) quiet read_failed write_failed unwritten = read_failed
    × unwritten
LeavesDevices (Ran (Err WriteFault)) quiet read_failed write_failed unwritten = write_failed

-- the text was written; or the writer failed, and a front of the text was, less than the whole
abbrev pub WroteOrFailed : (written written' : Option (List ℕ))
    (failures failures' : ℕ) (text : List ℕ) → Type 0
WroteOrFailed written written' failures failures' text = Appends written written' text
    ⊎ ((failures < failures') × WritesFront written written' text)

-- what the error stream is told where there is no answer
abbrev pub text_of_fail : EngineFail → List ℕ
text_of_fail Memory = codes "sgt: memory\n"
text_of_fail ReadFault = codes "sgt: read fault\n"
text_of_fail WriteFault = codes "sgt: write fault\n"

-- what the error stream is told of a run that ends so: nothing of an answer, something of words
-- that are no command,
-- and else why there is no answer
abbrev pub TellsErrors : Ending → (silent : Type 0) → (tells : List ℕ → Type 0) → Type 0
TellsErrors (Ran (Ok outcome)) silent tells = silent
TellsErrors NoCommand silent tells = (text : List ℕ) × (0 < length text) × tells text
TellsErrors (Ran (Err fail)) silent tells = tells (text_of_fail fail)
