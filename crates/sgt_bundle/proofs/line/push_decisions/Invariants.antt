use Rattle.std.proofs.Common.{◌≡◌, ◌++◌, All, drop, take, true, false}
use Rattle.serde_json.specs.Written.{items_text}
use Rattle.sgt_names.specs.Limits.{max_sites}
use Rattle.sgt_bundle.specs.Text.{IsDecision, items_data, decision_data}
use Rattle.sgt_bundle.proofs.line.push_decisions.Given as goal

-- what is written, and the text of the rest, is the text of all; and what is written is in its ranges
abbrev pub invariant-loop-decision : goal.invariant-loop-decision
invariant-loop-decision l =
    (l.out.items ++ items_text true (items_data decision_data (drop l.decision-index l.further)) ≡ l.fn.out.items
    ++ items_text false (items_data decision_data l.decisions))
    × All (IsDecision max_sites) (take l.decision-index l.further)
