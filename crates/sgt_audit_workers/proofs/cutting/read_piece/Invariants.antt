use Rattle.std.proofs.Common.{◌≡◌, ◌≤◌, ◌+◌, length}
use Rattle.sgt_notation.specs.Lines.{coming, most_left}
use Rattle.sgt_audit_workers.specs.Cut.{KeepsReady, longest}
use Rattle.sgt_audit_workers.proofs.Reading.{IsFar}
use Rattle.sgt_audit_workers.proofs.cutting.read_piece.Given as goal

abbrev pub invariant-pieces : goal.invariant-pieces
invariant-pieces g l = record {
  far : IsFar (coming l.initial.lines (g.R.Source.tells l.initial.reader)) l.initial.lines.reads
      l.initial.section.items l.lines (g.R.Source.tells l.reader) l.section.items;
  short : length l.initial.section.items + 2 ≤ longest l.room.most → length l.section.items + 2 ≤ longest l.room.most;
  asks : g.R.Source.asked l.reader + l.lines.reads ≡ g.R.Source.asked l.initial.reader + l.initial.lines.reads;
  quiet : g.R.Source.failures l.reader ≡ g.R.Source.failures l.initial.reader;
  ready : KeepsReady l.initial.latest.is_drained l.latest.is_drained (g.R.Source.asked l.initial.reader)
      (g.R.Source.asked l.reader);
}

abbrev pub decreases-pieces : goal.decreases-pieces
decreases-pieces g l = most_left l.lines
