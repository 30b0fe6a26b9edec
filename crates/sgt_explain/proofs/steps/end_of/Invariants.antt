use Rattle.std.proofs.Common.{◌≡◌, List, ◌∷◌, ◌++◌, ◌-◌, take, drop, map}
use Rattle.sgt_notation.specs.Spelling.{line_text, text_of_lines}
use Rattle.sgt_notation.specs.declared.SectionLine.{SectionLine}
use Rattle.sgt_explain_lines.specs.Numbered.{HasLine, open_site}
use Rattle.sgt_explain.specs.Steps.{IsOpenAt, NoneEnds}
use Rattle.sgt_explain.proofs.steps.end_of.Given as goal

abbrev pub invariant-loop-line : goal.invariant-loop-line
invariant-loop-line l = record {
  left : (before : List SectionLine) (line : SectionLine) (h : HasLine l.bytes l.number before line)
      → l.rest ≡ text_of_lines (drop (l.line - 3) (map line_text before)) ++ (line_text line ++ 10 ∷ h.rest);
  opened : (before : List SectionLine) (line : SectionLine) → HasLine l.bytes l.number before line
      → IsOpenAt l.is_open (open_site (take (l.line - 3) before)) l.site;
  none : (before : List SectionLine) (line : SectionLine) → HasLine l.bytes l.number before line
      → NoneEnds before l.site (l.line - 3);
}
