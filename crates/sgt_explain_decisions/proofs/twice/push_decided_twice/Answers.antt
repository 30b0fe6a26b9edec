use Rattle.std.proofs.Common.{sym, subst}
use Rattle.sgt_explain_lines.proofs.Numbering.{on-ok}
use Rattle.sgt_explain_decisions.specs.Placed.{ArePlaced}
use Rattle.sgt_explain_decisions.proofs.Doubling.{twice-none}
use Rattle.sgt_names.proofs.Elements.{two-parts}
use Rattle.sgt_explain_decisions.proofs.twice.push_decided_twice.Goals as goal

pub returns-in_default-clause-twice : goal.returns-in_default-clause-twice
returns-in_default-clause-twice c = λ other.
    absurd (other
    (c.in_default.ensures.none (subst (λ ps. ArePlaced c.args.decisions.now ps) (sym c.as_slice.ensures.value)
    c.in_ok-placed.ensures)))

pub returns-clause-twice : goal.returns-clause-twice
returns-clause-twice c = λ other.
    let first =
    c.in-Some.ensures.some (subst (λ ps. ArePlaced c.args.decisions.now ps) (sym c.as_slice.ensures.value)
    c.in_ok-placed.ensures) in
    on-ok c.push_two.result _ _ (λ e. (
      c.in-Some.first,
      c.in-Some.second,
      first,
      two-parts _ _ _ _ _ c.in_ok-push_str.ensures.bytes e,
    )) (c.push_two.ensures first.two)

pub returns-clause-once : goal.returns-clause-once
returns-clause-once c = λ once.
    let first =
    c.in-Some.ensures.some (subst (λ ps. ArePlaced c.args.decisions.now ps) (sym c.as_slice.ensures.value)
    c.in_ok-placed.ensures) in
    absurd (twice-none c.args.decisions.now c.in-Some.first c.in-Some.second once first.two)
