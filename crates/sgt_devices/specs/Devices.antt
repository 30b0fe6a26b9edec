-- What a call leaves of the reader and of the writer that it is given, by how it ended.
use Rattle.std.specs.Prelude.{◌≡◌, ◌≢◌, ◌<◌, ◌≤◌, ◌⊎◌, ℕ, List, Option, Result, Err, IfSome, IsErrOf, length}
use Rattle.sgt_names.specs.Limits.{most_reads}
use Rattle.sgt_names.specs.declared.outcome.EngineFail.{EngineFail}
use Rattle.sgt_names.specs.declared.outcome.EngineFail.TheVariants.{Memory, ReadFault, WriteFault}
use Rattle.sgt_notation.specs.Lines.{ReadFaultIsDue}

-- a reader: a read fault is told where one is due, and else it has not failed
pub record LeavesReader {A R : Type 0} (tells : R → Option (List ℕ)) (failures asked : R → ℕ)
    (result : Result A EngineFail) (old new : R) : Type 0 where
  pub due : IsErrOf result ReadFault
      → ReadFaultIsDue (tells old) (failures old) (failures new) (asked old) (asked new)
  pub quiet : result ≢ Err ReadFault → failures new ≡ failures old

-- a reader whose bytes are kept and read again: a read fault is due too where they are as many as the bound on reads
pub record LeavesKeptReader {A R : Type 0} (tells : R → Option (List ℕ)) (failures : R → ℕ)
    (result : Result A EngineFail) (old new : R) : Type 0 where
  pub due : IsErrOf result ReadFault
      → (failures old < failures new) ⊎ IfSome (tells old) (λ bytes. most_reads ≤ length bytes)
  pub quiet : result ≢ Err ReadFault → failures new ≡ failures old

-- a writer: a write fault is told where it has failed, and else it has not; nothing is written for want of memory
-- and after a read that failed
pub record LeavesWriter {A W : Type 0} (failures : W → ℕ) (result : Result A EngineFail) (old new : W)
    : Type 0 where
  pub failed : IsErrOf result WriteFault → failures old < failures new
  pub quiet : result ≢ Err WriteFault → failures new ≡ failures old
  pub unwritten : IsErrOf result ReadFault → new ≡ old
  pub untouched : IsErrOf result Memory → new ≡ old
