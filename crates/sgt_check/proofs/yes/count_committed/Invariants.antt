use Rattle.std.proofs.Common.{◌≡◌, ◌≤◌, take}
use Rattle.std.specs.Prelude.{count_by}
use Rattle.sgt_history.specs.declared.history.Line.{Line}
use Rattle.sgt_check.proofs.yes.count_committed.Given as goal

abbrev pub invariant-loop-line : goal.invariant-loop-line
invariant-loop-line l = record {
  count : l.count ≡ count_by (λ (k : Line). k.commits) (take l.line-index l.lines);
  most : l.count ≤ l.line-index;
}
