use Rattle.std.proofs.Common.{sym, ◌∙◌, ap, arith}
use Rattle.std.specs.Prelude.{Some}
use Rattle.std.proofs.lemmas.Bool.{false≢true}
use Rattle.std.proofs.lemmas.Option.{same_Some, none-some}
use Rattle.sgt_explain.proofs.ShownSteps.{whole-is, ends-nowhere}
use Rattle.sgt_explain.proofs.steps.whole_section.Goals as goal

pub returns-then-is_end_of-clause-some : goal.returns-then-is_end_of-clause-some
returns-then-is_end_of-clause-some c = λ before line h.
    let both = c.is_end_of.ensures.0 c.if-is_end_of.true in
    whole-is c.args.bytes.now c.args.number before line h c.end_of-end.result (c.end_of-end.ensures.low (let counted =
    h.counted in omega (arith, counted))) c.end_of-end.ensures.high
    c.args.site c.in_ok-section.section
    (λ upto l has. ap Some (sym both.0) ∙ c.in-Some.ensures upto l has)
    c.in_ok-section.ensures both.1

pub returns-clause-none : goal.returns-clause-none
returns-clause-none c = λ before line h.
    ends-nowhere c.args.bytes.now c.args.number before line h c.end_of-end.result
    (c.end_of-end.ensures.low (let counted = h.counted in omega (arith, counted))) c.end_of-end.ensures.high
    c.args.site c.in_ok-section.section c.section_line_at.result
    (λ upto l has. c.in-Some.is ∙ c.in-Some.ensures upto l has) c.in_ok-section.ensures
    (c.end_of-end.ensures.ends before line h) (c.end_of-end.ensures.first before line h)
    (λ l found end its. false≢true (sym c.if-is_end_of.false
    ∙ c.is_end_of.ensures.1 (same_Some c.in-Some.line l (sym c.in-Some.is ∙ found) ∙ end, its)))

pub returns-in_default-clause-none : goal.returns-in_default-clause-none
returns-in_default-clause-none c = λ before line h.
    ends-nowhere c.args.bytes.now c.args.number before line h c.end_of-end.result
    (c.end_of-end.ensures.low (let counted = h.counted in omega (arith, counted))) c.end_of-end.ensures.high
    c.args.site c.in_ok-section.section c.section_line_at.result
    (λ upto l has. c.in_default.is ∙ c.in_default.ensures upto l has) c.in_ok-section.ensures
    (c.end_of-end.ensures.ends before line h) (c.end_of-end.ensures.first before line h)
    (λ l found end its. none-some l (sym c.in_default.is ∙ found))
