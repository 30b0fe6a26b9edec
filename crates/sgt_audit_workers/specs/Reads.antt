-- What is asked of a reader of a text.
use Rattle.std.specs.Prelude.{◌≡◌, ◌≢◌, ◌≤◌, ◌+◌, ◌*◌, ℕ, List, Option}
use Rattle.sgt_names.specs.declared.outcome.EngineFail.{EngineFail}
use Rattle.sgt_names.specs.declared.outcome.EngineFail.TheVariants.{Memory, ReadFault, WriteFault}
use Rattle.sgt_notation.specs.Lines.{ReadFaultIsDue}
use Rattle.sgt_audit.specs.Faults.{FirstFault, reach}
use Rattle.sgt_audit.specs.declared.faults.Fault.{Fault}
use Rattle.sgt_audit.specs.declared.verdict.Verdict.{Verdict}
use Rattle.sgt_audit.specs.declared.verdict.Verdict.TheVariants.{Yes, No}

-- a reader: what it tells, how often it has failed, and how often it was asked
pub record Reader : Type 0 where
  pub told : Option (List ℕ)
  pub failures : ℕ
  pub asked : ℕ

abbrev pub reader : Option (List ℕ) → (failures asked : ℕ) → Reader
reader told failures asked = record { told = told; failures = failures; asked = asked }

-- 8 MiB
abbrev pub room : ℕ
room = 8388608

-- so many reads go little further than the line that has the first fault, where there is one: each
-- but the last gave a byte of the text up to that line, or of as many bytes behind it and of 8 MiB
-- for each worker
abbrev pub ReadsLittleFurther : (workers : ℕ) → List ℕ → (reads : ℕ) → Type 0
ReadsLittleFurther workers bytes reads = (n : ℕ) (f : Fault) (first : FirstFault bytes n f)
    → reads ≤ 2 * reach bytes n f first + workers * room

-- a failure is due to this reader, as it is now: it failed, if it is a read fault, and else not
pub record IsDue (first now : Reader) (e : EngineFail) : Type 0 where
  pub fault : e ≡ ReadFault
      → ReadFaultIsDue first.told first.failures now.failures first.asked now.asked
  pub quiet : e ≢ ReadFault → now.failures ≡ first.failures
  pub other : e ≢ WriteFault

-- a read fault, which is due, or want of memory, where the reader has not failed
abbrev pub IsFailOf : (first now : Reader) → EngineFail → Type 0
IsFailOf first now ReadFault =
    ReadFaultIsDue first.told first.failures now.failures first.asked now.asked
IsFailOf first now Memory = now.failures ≡ first.failures
IsFailOf first now WriteFault = ⊥

abbrev pub IsYes : Verdict → Type 0
IsYes (Yes committed refused withdrawn) = Unit {0}
IsYes (No line f) = ⊥
