use Rattle.std.proofs.Common.{◌≡◌, ◌-◌, take, All}
use Rattle.sgt_explain_lines.specs.Beside.{ComesBefore, name_at}
use Rattle.sgt_explain_lines.proofs.items.neighbours.Given as goal

abbrev pub invariant-loop-stated : goal.invariant-loop-stated
invariant-loop-stated l = record {
  upto : All (λ s. ComesBefore l.item s.holding.item → ⊥) (take l.stated-index l.items);
  last : l.before ≡ name_at (take l.stated-index l.items) (l.stated-index - 1);
}
