use Rattle.std.proofs.Common.{◌≡◌, ◌<◌, ◌≤◌, ◌+◌, [], length, vec_capacity}
use Rattle.std.specs.Io.KnownBytes.{Consumes}
use Rattle.sgt_notation.specs.Lines.{Spends, coming, most_left}
use Rattle.sgt_notation.specs.Spelling.{HasNoLf}
use Rattle.sgt_notation.proofs.lines.Lines.next.Given as goal

abbrev pub invariant-reads : goal.invariant-reads
invariant-reads g l =
    HasNoLf l.line.items
    × (length l.line.items ≤ l.limit)
    × Consumes (coming l.initial.self (g.S.Source.tells l.initial.source)) (coming l.self (g.S.Source.tells l.source))
    l.line.items
    × (g.S.Source.failures l.source ≡ g.S.Source.failures l.initial.source)
    × (most_left l.self ≤ most_left l.initial.self)
    × Spends l.initial.self.reads (g.S.Source.tells l.initial.source) l.self.reads (g.S.Source.tells l.source)
    × (l.self.reads ≤ l.initial.self.reads)
    × (l.initial.self.reads + length l.initial.self.held ≤ l.self.reads + length l.self.held + length l.line.items)
    × (most_left l.self + length l.line.items ≤ most_left l.initial.self)
    × (vec_capacity l.initial.line ≤ vec_capacity l.line)
    × (g.S.Source.asked l.source + l.self.reads ≡ g.S.Source.asked l.initial.source + l.initial.self.reads)
    × (l.initial.self.reads ≤ l.self.reads + length l.line.items + 1)
    × (l.self.held ≡ [] → l.initial.self.reads ≤ l.self.reads + length l.line.items)
    × (l.self.reads ≡ l.initial.self.reads → g.S.Source.last l.source ≡ g.S.Source.last l.initial.source)
    × (l.self.reads < l.initial.self.reads → length l.self.held ≤ g.S.Source.last l.source)

abbrev pub decreases-reads : goal.decreases-reads
decreases-reads g l = l.self.reads
