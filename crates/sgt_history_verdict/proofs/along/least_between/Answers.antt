use Rattle.std.proofs.Common.{◌≡◌, ◌+◌, get_or, length, sym, subst, arith}
use Rattle.std.proofs.lemmas.Option.{slice_get-get_or}
use Rattle.sgt_graph.specs.declared.edge.Edge.{Edge}
use Rattle.sgt_history_verdict.specs.Steps.{IsBest, Leads}
use Rattle.sgt_history_verdict.proofs.Telling.{best-hits, best-misses}
use Rattle.sgt_history_verdict.proofs.along.least_between.Goals as goal
use Rattle.sgt_history_verdict.proofs.along.least_between.Goals.{then-step-from+then-step-to, else-step-from, else-step-from-via-then-step-from+else-step-to, else-step-from-via-else-step-from}

pub loop-pair-preserved : goal.loop-pair-preserved
loop-pair-preserved c =
    let touches = c.args.touches.now in
    let pairs = c.args.pairs.now in
    let ranks = c.args.ranks.now in
    let a = c.args.lines.0 in
    let b = c.args.lines.1 in
    let i = c.loop-pair.pair-index in
    let d : Edge = record { from = 0; to = 0 } in
    let at = slice_get-get_or pairs i d c.loop-pair-test.true in
    let step = c.step_of-step.result in
    elim c.if-step-from.branch [
      | then-step-from+then-step-to w ↦ subst (IsBest touches pairs ranks (λ s. Leads s a b) (i + 1)) (sym w.best-is)
          (best-hits touches pairs ranks (λ s. Leads s a b) i (get_or pairs i d) step at c.step_of-step.ensures
          c.loop-pair.best w.least.result c.loop-pair.invariant
          (w.if-step-from.true, w.if-step-to.true) w.least.ensures.one w.least.ensures.here w.least.ensures.old)
      | else-step-from w ↦ subst (IsBest touches pairs ranks (λ s. Leads s a b) (i + 1)) (sym w.best-is)
          (best-misses touches pairs ranks (λ s. Leads s a b) i (get_or pairs i d) step at c.step_of-step.ensures
          c.loop-pair.best c.loop-pair.invariant
          (λ leads. elim w.else-step-from.branch [
            | else-step-from-via-then-step-from+else-step-to v ↦ omega (arith, leads.1, v.if-step-to.false)
            | else-step-from-via-else-step-from v ↦ omega (arith, leads.0, v.if-step-from.false)
          ]))
    ]

pub returns : goal.returns
returns c =
    let pairs = c.args.pairs.now in
    let all : c.loop-pair.pair-index ≡ length pairs =
    omega (arith, c.loop-pair-test.false, c.loop-pair.auto.pair-index-end) in
    subst (λ n. IsBest c.args.touches.now pairs c.args.ranks.now (λ s. Leads s c.args.lines.0 c.args.lines.1) n
    c.loop-pair.best) all c.loop-pair.invariant
