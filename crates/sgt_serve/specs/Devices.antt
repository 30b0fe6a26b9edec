-- What the reader and the writer of a talk did, by its result.
use Rattle.std.specs.Prelude.{ℕ, List, Option, Result, Err}
use Rattle.sgt_pipe.specs.Ends.{Hears, LosesReader, LosesWriter, Speaks}
use Rattle.sgt_serve.specs.declared.fail.ServeFail.{ServeFail}
use Rattle.sgt_serve.specs.declared.fail.ServeFail.TheVariants.{ReadFault, WriteFault}

-- a read fault is told where the reader failed or no read was left, and nowhere else
abbrev pub LeavesReader : {A : Type 0} → Result A ServeFail → (told told' : Option (List ℕ)) → (given given' : List ℕ)
    → (failures failures' reads : ℕ) → Type 0
LeavesReader (Err (ReadFault last)) told told' given given' failures failures' reads =
    LosesReader told told' given given' failures failures' reads
LeavesReader _ told told' given given' failures failures' reads =
    Hears told told' given given' failures failures'

-- a write fault is told where the writer failed, and nowhere else
abbrev pub LeavesWriter : {A : Type 0} → Result A ServeFail → (told told' : Option (List ℕ))
    → (written written' : List ℕ) → (failures failures' : ℕ) → Type 0
LeavesWriter (Err (WriteFault last)) told told' written written' failures failures' =
    LosesWriter told told' written written' failures failures'
LeavesWriter _ told told' written written' failures failures' =
    Speaks told told' written written' failures failures'
