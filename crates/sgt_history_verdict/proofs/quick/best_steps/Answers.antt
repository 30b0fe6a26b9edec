use Rattle.std.proofs.Common.{◌≡◌, ◌≤◌, ◌+◌, ℕ, Option, None, Some, get_or, length, true, sym, ap, ◌∙◌, subst, arith, Vec, Global}
use Rattle.std.specs.Prelude.{slice_get}
use Rattle.std.proofs.lemmas.List.{with_items_is}
use Rattle.std.proofs.lemmas.Option.{slice_get-get_or}
use Rattle.sgt_graph.specs.declared.edge.Edge.{Edge}
use Rattle.sgt_history_verdict.specs.declared.step.Step.{Step}
use Rattle.sgt_history_verdict.specs.Steps.{AreBest, IsAlong, IsBest}
use Rattle.sgt_history_verdict.proofs.Telling.{kept-none}
use Rattle.sgt_history_verdict.proofs.quick.best_steps.Goals as goal
use Rattle.sgt_history_verdict.proofs.quick.best_steps.Goals.{then-is_along, else-is_along}

pub loop-pair-preserved : goal.loop-pair-preserved
loop-pair-preserved c =
    let touches = c.args.touches.now in
    let pairs = c.args.pairs.now in
    let ranks = c.args.ranks.now in
    let behind = c.args.behind.now in
    let i = c.loop-pair.pair-index in
    let d : Edge = record { from = 0; to = 0 } in
    let at = slice_get-get_or pairs i d c.loop-pair-test.true in
    let step = c.step_of-step.result in
    elim c.if-is_along.branch [
      | then-is_along w ↦ subst (λ best. AreBest touches pairs ranks behind (i + 1) best)
          (sym (ap (λ (v : Vec (Option Step) Global). v.items) w.best-is
          ∙ with_items_is c.loop-pair.best w.keep.new.best (w.keep.auto.best ∙ w.as_mut_slice.ensures.len)))
          (w.keep.ensures touches pairs behind i (get_or pairs i d) at c.step_of-step.ensures
          (c.is_along.ensures.0 w.if-is_along.true)
          (subst (λ best. AreBest touches pairs ranks behind i best) (sym w.as_mut_slice.ensures.value)
          c.loop-pair.invariant))
      | else-is_along w ↦ subst (λ best. AreBest touches pairs ranks behind (i + 1) best)
          (ap (λ (v : Vec (Option Step) Global). v.items) (sym w.best-is))
          (kept-none touches pairs ranks behind c.loop-pair.best.items i (get_or pairs i d) step at
          c.step_of-step.ensures c.loop-pair.invariant
          (λ line o there is. let t = c.is_along.ensures.1 (ap (slice_get behind) is.0 ∙ is.1) in let f = sym t
          ∙ w.if-is_along.false in cc))
    ]

pub returns : goal.returns
returns c =
    let pairs = c.args.pairs.now in
    let all : c.loop-pair.pair-index ≡ length pairs =
    omega (arith, c.loop-pair-test.false, c.loop-pair.auto.pair-index-end) in
    subst (λ n. AreBest c.args.touches.now pairs c.args.ranks.now c.args.behind.now n c.loop-pair.best.items) all
    c.loop-pair.invariant
