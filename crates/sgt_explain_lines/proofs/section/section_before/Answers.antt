use Rattle.std.proofs.Common.{◌≡◌, List, ◌+◌, ◌-◌, ◌≤◌, ◌∷◌, ◌++◌, length, map, take, drop, sym, ap, ◌∙◌, subst, arith, take_all}
use Rattle.std.proofs.lemmas.List.{length-take-le}
use Rattle.sgt_names.proofs.Lists.{take_next}
use Rattle.sgt_notation.specs.Spelling.{line_text, text_of_lines}
use Rattle.sgt_notation.specs.declared.SectionLine.{SectionLine}
use Rattle.sgt_explain_lines.specs.Numbered.{HasLine, IsSectionOf}
use Rattle.sgt_explain_lines.proofs.Numbering.{section-step, section-next}
use Rattle.sgt_explain_lines.proofs.section.section_before.Goals as goal

pub loop-line-preserved : goal.loop-line-preserved
loop-line-preserved c =
    let n = c.loop-line.line - 3 in
    let low : 3 ≤ c.loop-line.line = c.loop-line.auto.line in
    let next : c.loop-line.line + 1 - 3 ≡ n + 1 = omega (arith, low) in
    let step =
    λ (before : List SectionLine) (line : SectionLine) (h : HasLine c.args.bytes.now c.args.number before line).
    section-step before (line_text line ++ 10 ∷ h.rest) c.loop-line.rest.now c.cut_line.result.0.now
    c.cut_line.result.1.now n h.spelled
    (let counted = h.counted in omega (arith, low, counted, c.loop-line-test.true))
    (c.loop-line.invariant.left before line h) c.cut_line.ensures.cut in
    record {
      left = λ before line h. (step before line h).left
          ∙ ap (λ k. text_of_lines (drop k (map line_text before)) ++ (line_text line ++ 10 ∷ h.rest)) (sym next);
      kept = λ before line h.
          let s = step before line h in
          let counted = h.counted in
          let long : length (take n before) ≡ n =
          length-take-le n before (omega (arith, low, counted, c.loop-line-test.true)) in
          subst (λ k. IsSectionOf (take k before) c.add_text.new.self) (sym next)
          (subst (λ ls. IsSectionOf ls c.add_text.new.self) (sym (take_next before n s.line s.at))
          (section-next (take n before) s.line c.loop-line.line c.loop-line.section c.add_text.new.self
          (c.loop-line.invariant.kept before line h)
          (omega (arith, low, long)) (c.in_ok-add_text.ensures s.line s.is s.cut)));
    }

pub returns : goal.returns
returns c = λ before line h.
    let counted = h.counted in
    subst (λ ls. IsSectionOf ls c.loop-line.section)
    (take_all (c.loop-line.line - 3) before (omega (arith, counted, c.loop-line-test.false)))
    (c.loop-line.invariant.kept before line h)
