use Rattle.std.proofs.Common.{◌∙◌, sym, subst}
use Rattle.sgt_history.specs.Cut.{cut}
use Rattle.sgt_history_verdict.specs.Decided.{IsDecidedFrom}
use Rattle.sgt_history_verdict.proofs.Excluding.{exact}
use Rattle.sgt_history_verdict.proofs.Least.{decided-from}
use Rattle.sgt_history_verdict.proofs.deciding.decide_judged.Goals as goal

pub decide_faultless-requires-clause-from : goal.decide_faultless-requires-clause-from
decide_faultless-requires-clause-from c =
    let lines = c.args.history.lines in
    let ops = c.args.history.operations.items in
    let h = cut 0 lines.items ops in
    let touches = c.args.touches.items in (
      h,
      subst (λ n. IsDecidedFrom h n touches) (sym (c.len.ensures ∙ lines.ok.0))
          (decided-from lines.items ops touches c.args.history.positive c.requires),
    )

pub returns-clause-verdict : goal.returns-clause-verdict
returns-clause-verdict c =
    let lines = c.args.history.lines in
    let ops = c.args.history.operations.items in
    let h = cut 0 lines.items ops in
    let touches = c.args.touches.items in
    c.in_ok-verdict.ensures h
    (subst (λ n. IsDecidedFrom h n touches) (sym (c.len.ensures ∙ lines.ok.0))
    (decided-from lines.items ops touches c.args.history.positive c.requires))

pub returns-clause-exact : goal.returns-clause-exact
returns-clause-exact c =
    exact (cut 0 c.args.history.lines.items c.args.history.operations.items) c.in_ok-verdict.verdict
    (returns-clause-verdict c)
