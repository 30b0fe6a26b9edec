use Rattle.std.proofs.Common.{◌-◌, length}
use Rattle.std.specs.Prelude.{None}
use Rattle.sgt_explain.specs.Watched.{HasGoneOn, IsBehind}
use Rattle.sgt_explain.proofs.front.Watch.feed_front.Given as goal

abbrev pub invariant-lines : goal.invariant-lines
invariant-lines l = IsBehind l.self l.text × HasGoneOn l.initial.self l.self None

abbrev pub decreases-lines : goal.decreases-lines
decreases-lines l = length l.text - l.self.seen
