-- How far the auditor has come in a text.
-- (Of public clauses those alone use these words that say what an auditor was fed.)
use Rattle.std.specs.Prelude.{◌≡◌}
use Rattle.sgt_audit.specs.declared.machine.Progress.{Progress}
use Rattle.sgt_audit.specs.declared.machine.Progress.TheVariants as at
use Rattle.sgt_audit.specs.Faults.{Stage, start, headed}
use Rattle.sgt_audit.specs.Held.{IsAt}

-- what is kept means this stage
abbrev pub Stands : Progress → Stage → Type 0
Stands at.Start s = s ≡ start
Stands (at.Headed second) s = s ≡ headed second
Stands (at.Reading k) s = IsAt k s
