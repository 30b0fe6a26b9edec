use Rattle.std.proofs.Common.{All, take}
use Rattle.sgt_explain_lines.specs.Slips.{IsDigit}
use Rattle.sgt_explain_lines.proofs.slips.first_other.Given as goal

abbrev pub invariant-loop-byte : goal.invariant-loop-byte
invariant-loop-byte l = All IsDigit (take l.byte-index l.text)
