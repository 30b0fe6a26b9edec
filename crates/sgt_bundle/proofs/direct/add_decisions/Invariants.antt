use Rattle.std.proofs.Common.{◌≡◌, ◌++◌, All}
use Rattle.sgt_names.specs.Limits.{max_sites}
use Rattle.sgt_bundle.specs.Private.{with_commas}
use Rattle.sgt_bundle.specs.Text.{IsDecision, decision_data}
use Rattle.sgt_bundle.proofs.direct.add_decisions.Given as goal

-- the decisions read so far, with a comma behind each, and what is left are the text; and the decisions are in their
-- ranges
abbrev pub invariant-loop : goal.invariant-loop
invariant-loop l =
    (with_commas decision_data l.fn.decisions.items ++ l.bytes ≡ with_commas decision_data l.decisions.items ++ l.rest)
    × (All (IsDecision max_sites) l.fn.decisions.items → All (IsDecision max_sites) l.decisions.items)
