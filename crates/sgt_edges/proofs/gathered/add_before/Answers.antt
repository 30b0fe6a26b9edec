use Rattle.sgt_names.proofs.Lists.{element_at}
use Rattle.sgt_edges.specs.private.Gathered.{FromWriter}
use Rattle.sgt_edges.proofs.Gathers.{each-none, each-next, each-all}
use Rattle.sgt_edges.proofs.Once.{once-next, once-all, from-writers-differ}
use Rattle.sgt_edges.proofs.gathered.add_before.Goals as goal

pub loop-w-init : goal.loop-w-init
loop-w-init c = (
  each-none (λ w e. FromWriter c.args.touch.now c.args.kind c.args.me w e) c.args.writers.now c.args.edges.now,
  λ apart before none. before,
)

pub loop-w-preserved : goal.loop-w-preserved
loop-w-preserved c =
    let at = element_at _ _ _ c.loop-w-test.true c.w-item.is in (
      each-next (λ w e. FromWriter c.args.touch.now c.args.kind c.args.me w e) c.args.writers.now _ _ _ _ _ at
          c.loop-w.invariant.0 c.in_ok-add.ensures.all,
      λ apart. once-next (λ w e. FromWriter c.args.touch.now c.args.kind c.args.me w e) c.args.writers.now _ _ _ _ _
          at (from-writers-differ c.args.touch.now c.args.me c.args.kind _ apart) c.loop-w.invariant.0
          (c.loop-w.invariant.1 apart) c.in_ok-add.ensures.once,
    )

pub returns-clause-all : goal.returns-clause-all
returns-clause-all c = each-all (λ w e. FromWriter c.args.touch.now c.args.kind c.args.me w e) c.args.writers.now _ _
    _ c.loop-w-test.false c.loop-w.invariant.0

pub returns-clause-once : goal.returns-clause-once
returns-clause-once c =
    λ apart. once-all (λ w e. FromWriter c.args.touch.now c.args.kind c.args.me w e) c.args.writers.now _ _ _
    c.loop-w-test.false (c.loop-w.invariant.1 apart)
