-- The exit status of a talk.
use Rattle.std.specs.Prelude.{ℕ, Result, Ok, Err}
use Rattle.sgt_names.specs.declared.outcome.Outcome.{Outcome}
use Rattle.sgt_names.specs.declared.outcome.Outcome.TheVariants.{Yes, No, Unreadable}
use Rattle.sgt_serve.specs.declared.fail.ServeFail.{ServeFail}
use Rattle.sgt_serve.specs.declared.fail.ServeFail.TheVariants.{Memory, ReadFault, WriteFault, BundleFault}

-- 0 and 1 as the talk told, 2 a line can't be read, 3 want of memory, 4 a device failed or the last bundle can't be
-- written
abbrev pub talk_status : Result Outcome ServeFail → ℕ
talk_status (Ok Yes) = 0
talk_status (Ok No) = 1
talk_status (Ok Unreadable) = 2
talk_status (Err Memory) = 3
talk_status (Err (ReadFault last)) = 4
talk_status (Err (WriteFault last)) = 4
talk_status (Err BundleFault) = 4
