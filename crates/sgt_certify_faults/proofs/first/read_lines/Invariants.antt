use Rattle.std.proofs.Common.{◌+◌, ◌-◌, ◌≤◌, length}
use Rattle.sgt_certify_faults.specs.private.Reading.{HasRead}
use Rattle.sgt_certify_faults.proofs.first.read_lines.Given as goal

abbrev pub invariant-lines : goal.invariant-lines
invariant-lines l = (2 ≤ l.line) × (length l.rest + l.line ≤ length l.bytes + 2)
    × HasRead l.second l.fn.decided.decisions l.bytes (l.line - 2) l.reading l.rest

abbrev pub decreases-lines : goal.decreases-lines
decreases-lines l = length l.rest
