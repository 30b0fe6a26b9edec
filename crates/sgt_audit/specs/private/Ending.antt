-- The end of the input, and how long a line may be.
use Rattle.std.specs.Prelude.{◌≡◌, ℕ, ◌-◌, ◌^◌, Bool, IsTrue, IsSome, List, [], Result, Ok, Err}
use Rattle.sgt_names.specs.Limits.{max_line}
use Rattle.sgt_audit.specs.declared.faults.FirstFault.{FirstFault}
use Rattle.sgt_audit.specs.declared.kept.Kept.{Kept}
use Rattle.sgt_audit.specs.declared.machine.Machine.{Machine}
use Rattle.sgt_audit.specs.declared.machine.Progress.{Progress}
use Rattle.sgt_audit.specs.declared.machine.Progress.TheVariants as at
use Rattle.sgt_audit.specs.Faults.{Stage, headed, complete, last, Rule, Breaks}
use Rattle.sgt_audit.specs.Held.{IsAt}

-- all sections were read
abbrev pub IsComplete : Stage → Type 0
IsComplete (complete second c before) = Unit {0}
IsComplete _ = ⊥

-- at the end of the input, in the line of this number, with these bytes behind the last LF: all was
-- read, or the least fault
abbrev pub EndsWith : Stage → List ℕ → ℕ → Result Kept FirstFault → Type 0
EndsWith s l n (Ok k) = IsAt k s × IsComplete s × (l ≡ [])
EndsWith s l n (Err first) = (first.line ≡ n) × Breaks (Rule s (last l)) first.fault

-- the sections themselves are kept, where that is asked
abbrev pub KeepsSections : Bool → Progress → Type 0
KeepsSections keeps (at.Reading k) = IsTrue keeps → IsSome k.sections
KeepsSections keeps _ = Unit {0}

-- the machine keeps the sections themselves, or is to judge them alone
abbrev pub IsKeeping : Bool → Machine → Type 0
IsKeeping keeps m = (m.keeps ≡ keeps) × KeepsSections keeps m.progress

-- how long the next line may be
abbrev pub limit_of : Stage → ℕ
limit_of (headed second) = 2 ^ 64 - 1
limit_of _ = max_line
