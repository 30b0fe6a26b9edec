use Rattle.std.proofs.Common.{arith, length, drop, ◌≡◌, [], ◌+◌, ◌∙◌, sym, eqb-true}
use Rattle.std.proofs.lemmas.List.{nil_from_length}
use Rattle.sgt_explain_lines.proofs.Numbering.{line-step, nothing-left, all-passed}
use Rattle.sgt_explain_lines.proofs.input.after_line.Goals as goal

pub loop-preserved : goal.loop-preserved
loop-preserved c = λ lines rest plain number e.
    (line-step lines rest c.loop.rest.now c.cut_line.result.0.now c.cut_line.result.1.now c.loop.counter plain
    (omega (arith, c.loop-test.true, number))
    (c.loop.invariant lines rest plain number e) c.cut_line.ensures.cut).left

pub returns-then-is_empty : goal.returns-then-is_empty
returns-then-is_empty c = λ lines rest plain number e.
    let left =
    (line-step lines rest c.loop.rest.now c.cut_line.result.0.now c.cut_line.result.1.now c.loop.counter plain
    (omega (arith, c.loop-test.true, number))
    (c.loop.invariant lines rest plain number e) c.cut_line.ensures.cut).left in
    let none : c.cut_line.result.1.now ≡ [] =
    nil_from_length c.cut_line.result.1.now (eqb-true (length c.cut_line.result.1.now) 0 (sym c.is_empty.ensures
    ∙ c.if-is_empty.true)) in
    none ∙ sym (nothing-left (drop (c.loop.counter + 1) lines) rest (sym left ∙ none))

pub returns : goal.returns
returns c = λ lines rest plain number e. all-passed lines rest c.loop.rest.now c.loop.counter
    (omega (arith, c.loop-test.false, number)) (c.loop.invariant lines rest plain number e)
