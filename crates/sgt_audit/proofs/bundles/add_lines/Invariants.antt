use Rattle.std.proofs.Common.{length}
use Rattle.sgt_audit.specs.Kept.{IsPlace}
use Rattle.sgt_audit.specs.Reading.{IsBegun}
use Rattle.sgt_audit.proofs.SpelledLines.{IsAhead}
use Rattle.sgt_audit.proofs.bundles.add_lines.Given as goal

abbrev pub invariant-lines : goal.invariant-lines
invariant-lines l = IsAhead l.second l.initial.sections.sites l.bytes l.sections l.rest × IsBegun l.sections
    × IsPlace l.sections l.place

abbrev pub decreases-lines : goal.decreases-lines
decreases-lines l = length l.rest
