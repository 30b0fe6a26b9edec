use Rattle.std.proofs.Common.{◌≡◌, ◌++◌, All, drop, take, true, false}
use Rattle.serde_json.specs.Written.{items_text}
use Rattle.sgt_names.specs.Limits.{max_sites}
use Rattle.sgt_bundle.specs.Text.{IsStep, items_data, step_data}
use Rattle.sgt_bundle.proofs.line.push_steps.Given as goal

-- what is written, and the text of the rest, is the text of all; and what is written is in its ranges
abbrev pub invariant-loop-step : goal.invariant-loop-step
invariant-loop-step l =
    (l.out.items ++ items_text true (items_data step_data (drop l.step-index l.further)) ≡ l.fn.out.items
    ++ items_text false (items_data step_data l.walk))
    × All (IsStep max_sites) (take l.step-index l.further)
