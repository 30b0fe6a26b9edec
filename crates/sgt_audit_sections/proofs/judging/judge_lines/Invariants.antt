use Rattle.std.proofs.Common.{◌≡◌, ◌≤◌, ◌+◌, ◌++◌, length, Bool, List, ℕ}
use Rattle.sgt_audit_sections.specs.Judged.{IsUnderway}
use Rattle.sgt_audit_sections.proofs.judging.judge_lines.Given as goal

abbrev pub invariant-lines : goal.invariant-lines
invariant-lines l = record {
  underway : (second : Bool) (read : List ℕ)
      → IsUnderway second l.certificate l.next.site read l.bytes l.next.line l.initial.alone
      → IsUnderway second l.certificate l.next.site read l.rest l.line l.alone;
  front : List ℕ;
  last : l.bytes ≡ front ++ l.rest;
  counted : l.line + length l.rest ≤ l.next.line + length l.bytes;
  later : l.next.line ≤ l.line;
  second : l.alone.second ≡ l.initial.alone.second;
}

abbrev pub decreases-lines : goal.decreases-lines
decreases-lines l = length l.rest
