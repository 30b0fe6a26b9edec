use Rattle.std.proofs.Common.{◌≡◌, List, ◌+◌, ◌-◌, ◌≤◌, ◌∷◌, ◌++◌, map, take, drop, Some, sym, ap, ◌∙◌, subst, arith}
use Rattle.std.proofs.lemmas.Bool.{false≢true}
use Rattle.std.proofs.lemmas.Option.{same_Some}
use Rattle.sgt_notation.specs.Spelling.{line_text, text_of_lines}
use Rattle.sgt_notation.specs.declared.SectionLine.{SectionLine}
use Rattle.sgt_notation.specs.declared.SectionLine.TheVariants.{End}
use Rattle.sgt_explain_lines.specs.Numbered.{HasLine, open_site}
use Rattle.sgt_explain_lines.proofs.Numbering.{section-step}
use Rattle.sgt_explain.specs.Steps.{IsOpenAt, NoneEnds}
use Rattle.sgt_explain.proofs.SiteEnds.{open-next, none-next, none-fewer}
use Rattle.sgt_explain.proofs.steps.end_of.Goals as goal

pub loop-line-preserved : goal.loop-line-preserved
loop-line-preserved c =
    let n = c.loop-line.line - 3 in
    let low : 3 ≤ c.loop-line.line = c.loop-line.auto.line in
    let next : c.loop-line.line + 1 - 3 ≡ n + 1 = omega (arith, low) in
    let step =
    λ (before : List SectionLine) (line : SectionLine) (h : HasLine c.args.bytes.now c.args.number before line).
    section-step before (line_text line ++ 10 ∷ h.rest) c.loop-line.rest.now c.cut_line.result.0.now
    c.cut_line.result.1.now n h.spelled
    (let counted = h.counted in omega (arith, low, counted, c.loop-line-test.true))
    (c.loop-line.invariant.left before line h) c.cut_line.ensures.cut in
    record {
      left = λ before line h. (step before line h).left
          ∙ ap (λ k. text_of_lines (drop k (map line_text before)) ++ (line_text line ++ 10 ∷ h.rest)) (sym next);
      opened = λ before line h.
          let s = step before line h in
          subst (λ k. IsOpenAt c.pass-ends.result.1 (open_site (take k before)) c.args.site) (sym next)
          (subst (λ o. IsOpenAt c.pass-ends.result.1 o c.args.site) (sym (open-next before n s.line s.at))
          (c.pass-ends.ensures.opens s.line s.is s.cut (open_site (take n before))
          (c.loop-line.invariant.opened before line h)));
      none = λ before line h.
          let s = step before line h in
          subst (NoneEnds before c.args.site) (sym next)
          (none-next before c.args.site n (c.loop-line.invariant.none before line h) (λ at.
          false≢true (sym c.if-ends.false
          ∙ (c.pass-ends.ensures.ends s.line s.is s.cut).1 (
            same_Some s.line End (sym s.at ∙ at.0),
            (c.loop-line.invariant.opened before line h).1 at.1,
          ))));
    }

pub returns-then-ends-clause-ends : goal.returns-then-ends-clause-ends
returns-then-ends-clause-ends c = λ before line h less.
    let low : 3 ≤ c.loop-line.line = c.loop-line.auto.line in
    let s = section-step before (line_text line ++ 10 ∷ h.rest) c.loop-line.rest.now c.cut_line.result.0.now
    c.cut_line.result.1.now (c.loop-line.line - 3) h.spelled
    (let counted = h.counted in omega (arith, low, counted, c.loop-line-test.true))
    (c.loop-line.invariant.left before line h) c.cut_line.ensures.cut in
    let is = (c.pass-ends.ensures.ends s.line s.is s.cut).0 c.if-ends.true in
    (s.at ∙ ap Some is.0, (c.loop-line.invariant.opened before line h).0 is.1)

pub returns-then-ends-clause-first : goal.returns-then-ends-clause-first
returns-then-ends-clause-first c = c.loop-line.invariant.none

pub returns-clause-first : goal.returns-clause-first
returns-clause-first c = λ before line h.
    none-fewer before c.args.site (c.loop-line.line - 3) (c.args.number - 3)
    (c.loop-line.invariant.none before line h) (omega (arith, c.loop-line-test.false))
