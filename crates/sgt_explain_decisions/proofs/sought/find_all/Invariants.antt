use Rattle.std.proofs.Common.{◌-◌, List}
use Rattle.sgt_notation.specs.declared.SectionLine.{SectionLine}
use Rattle.sgt_explain_lines.specs.Sited.{HasLines}
use Rattle.sgt_explain_lines.proofs.Siting.{IsGone}
use Rattle.sgt_explain_decisions.specs.Sought.{AreFound, AreFoundIn, AreMarked, KeepsKeys}
use Rattle.sgt_explain_decisions.proofs.sought.find_all.Given as goal

abbrev pub invariant-loop-line : goal.invariant-loop-line
invariant-loop-line l = record {
  marked : AreMarked l.sought l.classes;
  found : AreFound l.sought;
  keys : KeepsKeys l.initial.sought l.sought;
  gone : (lines : List SectionLine) (h : HasLines l.bytes 18446744073709551615 lines)
      → IsGone l.bytes 18446744073709551615 lines h l.line l.rest l.site;
  all : (lines : List SectionLine) → HasLines l.bytes 18446744073709551615 lines
      → AreFoundIn lines (l.line - 3) l.sought;
}
