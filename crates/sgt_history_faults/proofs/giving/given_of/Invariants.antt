use Rattle.std.proofs.Common.{◌≡◌}
use Rattle.std.specs.Prelude.{take}
use Rattle.sgt_history.specs.Cut.{end_of}
use Rattle.sgt_history.specs.History.{closed_of}
use Rattle.sgt_history_faults.specs.Given.{AreGivenTo}
use Rattle.sgt_history_faults.proofs.giving.given_of.Given as goal

abbrev pub invariant-loop-line : goal.invariant-loop-line
invariant-loop-line l = record {
  begin : l.begin ≡ end_of 0 (take l.line l.history.lines.items);
  given : AreGivenTo (closed_of l.history) l.line l.given.items;
}
