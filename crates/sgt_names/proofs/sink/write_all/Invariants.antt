use Rattle.std.proofs.Common.{◌≡◌, ◌≤◌, ◌-◌, length, take}
use Rattle.std.specs.Io.KnownBytes.{Appends}
use Rattle.sgt_names.proofs.sink.write_all.Given as goal

abbrev pub invariant-writes : goal.invariant-writes
invariant-writes g l =
    (l.at ≤ length l.bytes)
    × Appends (g.W.Sink.holds l.initial.writer) (g.W.Sink.holds l.writer) (take l.at l.bytes)
    × (g.W.Sink.failures l.writer ≡ g.W.Sink.failures l.initial.writer)

abbrev pub decreases-writes : goal.decreases-writes
decreases-writes g l = length l.bytes - l.at
