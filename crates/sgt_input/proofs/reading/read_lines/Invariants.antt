use Rattle.std.proofs.Common.{◌≡◌, ◌≤◌, ◌+◌}
use Rattle.sgt_notation.specs.Lines.{coming, most_left, Spends}
use Rattle.sgt_input.proofs.Reader.{Goes}
use Rattle.sgt_input.proofs.reading.read_lines.Given as goal

abbrev pub invariant-lines : goal.invariant-lines
invariant-lines g l =
    Goes g.T.Taker.begins (g.T.Taker.took l.taker) (g.R.Source.tells l.initial.reader)
    (coming l.lines (g.R.Source.tells l.reader)) l.number
    × (g.R.Source.failures l.reader ≡ g.R.Source.failures l.initial.reader)
    × Spends 4294967295 (g.R.Source.tells l.initial.reader) l.lines.reads (g.R.Source.tells l.reader)
    × (l.number + most_left l.lines ≤ 281474976710656)
    × (g.R.Source.asked l.reader + l.lines.reads ≡ g.R.Source.asked l.initial.reader + 4294967295)

abbrev pub decreases-lines : goal.decreases-lines
decreases-lines g l = most_left l.lines
