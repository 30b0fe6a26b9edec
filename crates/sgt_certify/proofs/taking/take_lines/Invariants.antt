use Rattle.std.proofs.Common.{◌≡◌, ◌≤◌, ◌+◌, ◌*◌, length}
use Rattle.std.specs.Io.KnownBytes.{Consumes}
use Rattle.sgt_notation.specs.Lines.{coming, most_left, Spends}
use Rattle.sgt_certify.specs.Reach.{AreShort, IsJudgedTo}
use Rattle.sgt_certify.proofs.taking.take_lines.Given as goal

abbrev pub invariant-lines : goal.invariant-lines
invariant-lines g l =
    Consumes (g.R.Source.tells l.initial.reader) (coming l.lines (g.R.Source.tells l.reader)) l.text.items
    × (g.R.Source.failures l.reader ≡ g.R.Source.failures l.initial.reader)
    × Spends 4294967295 (g.R.Source.tells l.initial.reader) l.lines.reads (g.R.Source.tells l.reader)
    × (g.R.Source.asked l.reader + l.lines.reads ≡ g.R.Source.asked l.initial.reader + 4294967295)
    × AreShort l.text.items × (4294967295 ≤ l.lines.reads + length l.text.items)
    × (length l.lines.held ≤ g.R.Source.last l.reader)
    × IsJudgedTo l.text.items l.early.judged × (length l.text.items ≤ 16 * l.early.judged + 67108864)

abbrev pub decreases-lines : goal.decreases-lines
decreases-lines g l = most_left l.lines
