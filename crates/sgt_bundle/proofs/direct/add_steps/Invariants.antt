use Rattle.std.proofs.Common.{◌≡◌, ◌++◌, All}
use Rattle.sgt_names.specs.Limits.{max_sites}
use Rattle.sgt_bundle.specs.Private.{with_commas}
use Rattle.sgt_bundle.specs.Text.{IsStep, step_data}
use Rattle.sgt_bundle.proofs.direct.add_steps.Given as goal

-- the steps read so far, with a comma behind each, and what is left are the text; and the steps are in their ranges
abbrev pub invariant-loop : goal.invariant-loop
invariant-loop l =
    (with_commas step_data l.fn.walk.items ++ l.bytes ≡ with_commas step_data l.walk.items ++ l.rest)
    × (All (IsStep max_sites) l.fn.walk.items → All (IsStep max_sites) l.walk.items)
