use Rattle.std.specs.Prelude.{is_some}
use Rattle.std.proofs.Common.{◌≡◌, ◌≤◌, ◌+◌, ℕ, List, Option}
use Rattle.sgt_notation.specs.Lines.{coming, most_left}
use Rattle.sgt_audit.specs.declared.machine.Progress.TheVariants as at
use Rattle.sgt_audit.specs.private.Stops.{Goes}
use Rattle.sgt_audit.proofs.reading.feed_kept.Given as goal

abbrev pub invariant-lines : goal.invariant-lines
invariant-lines l =
    ((all told : Option (List ℕ)) (reads : ℕ)
    → Goes all (at.Reading l.initial.kept) (coming l.initial.lines told) l.initial.number reads
    → Goes all (at.Reading l.kept) (coming l.lines told) l.number reads)
    × (l.lines.reads ≡ l.initial.lines.reads)
    × (l.number + most_left l.lines ≤ l.initial.number + most_left l.initial.lines)
    × (most_left l.lines ≤ most_left l.initial.lines)
    × (is_some l.kept.sections ≡ is_some l.initial.kept.sections)

abbrev pub decreases-lines : goal.decreases-lines
decreases-lines l = most_left l.lines
