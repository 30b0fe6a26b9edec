use Rattle.std.proofs.Common.{ℕ, List, Option, Vec, Global, sym, subst}
use Rattle.std.proofs.lemmas.Result.{IfOk-weaker}
use Rattle.sgt_history.specs.declared.named.Graph.TheVariants.{Whole}
use Rattle.sgt_history_conflicts.specs.Edges.{ArePairsOf}
use Rattle.sgt_history_verdict.proofs.LeastAlong.{least-along}
use Rattle.sgt_history_verdict.proofs.Stepping.{pairs-join}
use Rattle.sgt_history_verdict.proofs.between.conflicts_along.Goals as goal

pub best_between-requires : goal.best_between-requires
best_between-requires c =
    pairs-join c.args.touches.now Whole c.edges_in.result.now
    (subst (ArePairsOf c.args.touches.now Whole) (sym c.edges_in.ensures) (c.requires Whole))

pub returns-clause-size : goal.returns-clause-size
returns-clause-size c = IfOk-weaker c.best_between.result _ _ (λ found so. so.size) c.best_between.ensures

pub returns-clause-least : goal.returns-clause-least
returns-clause-least c =
    let are = subst (ArePairsOf c.args.touches.now Whole) (sym c.edges_in.ensures) (c.requires Whole) in
    IfOk-weaker c.best_between.result _ _
    (λ found so h by. least-along h c.args.touches.now by c.edges_in.result.now are c.args.ranks.now c.args.lines.now
    found.items so) c.best_between.ensures
