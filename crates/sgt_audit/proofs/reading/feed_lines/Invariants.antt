use Rattle.std.proofs.Common.{Bool, ◌≡◌, ◌≤◌, ◌+◌, ◌-◌}
use Rattle.sgt_notation.specs.Lines.{Spends, coming, most_left}
use Rattle.sgt_audit.specs.private.Ending.{IsKeeping}
use Rattle.sgt_audit.specs.private.Stops.{Goes, IsOfLastRead}
use Rattle.sgt_audit.proofs.reading.feed_lines.Given as goal

abbrev pub invariant-lines : goal.invariant-lines
invariant-lines g l =
    Goes (g.R.Source.tells l.initial.reader) l.machine.progress (coming l.lines (g.R.Source.tells l.reader)) l.number
    (g.R.Source.asked l.reader - g.R.Source.asked l.initial.reader)
    × (g.R.Source.failures l.reader ≡ g.R.Source.failures l.initial.reader)
    × Spends 4294967295 (g.R.Source.tells l.initial.reader) l.lines.reads (g.R.Source.tells l.reader)
    × (l.number + most_left l.lines ≤ 281474976710656)
    × ((keeps : Bool) → IsKeeping keeps l.initial.machine → IsKeeping keeps l.machine)
    × (g.R.Source.asked l.reader + l.lines.reads ≡ g.R.Source.asked l.initial.reader + 4294967295)
    × IsOfLastRead (g.R.Source.tells l.initial.reader) (g.R.Source.tells l.reader) l.lines.held
    (g.R.Source.last l.reader)

abbrev pub decreases-lines : goal.decreases-lines
decreases-lines g l = most_left l.lines
