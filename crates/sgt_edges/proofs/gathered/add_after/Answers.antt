use Rattle.sgt_names.proofs.Lists.{element_at}
use Rattle.sgt_edges.specs.private.Gathered.{ToWriter}
use Rattle.sgt_edges.proofs.Gathers.{each-none, each-next, each-all}
use Rattle.sgt_edges.proofs.Once.{once-next, once-all, to-writers-differ}
use Rattle.sgt_edges.proofs.gathered.add_after.Goals as goal

pub loop-w-init : goal.loop-w-init
loop-w-init c = (
  each-none (λ w e. ToWriter c.args.touch.now c.args.me w e) c.args.writers.now c.args.edges.now,
  λ apart before none. before,
)

pub loop-w-preserved : goal.loop-w-preserved
loop-w-preserved c =
    let at = element_at _ _ _ c.loop-w-test.true c.w-item.is in (
      each-next (λ w e. ToWriter c.args.touch.now c.args.me w e) c.args.writers.now _ _ _ _ _ at c.loop-w.invariant.0
          c.in_ok-add.ensures.all,
      λ apart. once-next (λ w e. ToWriter c.args.touch.now c.args.me w e) c.args.writers.now _ _ _ _ _ at
          (to-writers-differ c.args.touch.now c.args.me _ apart) c.loop-w.invariant.0 (c.loop-w.invariant.1 apart)
          c.in_ok-add.ensures.once,
    )

pub returns-clause-all : goal.returns-clause-all
returns-clause-all c =
    each-all (λ w e. ToWriter c.args.touch.now c.args.me w e) c.args.writers.now _ _ _ c.loop-w-test.false
    c.loop-w.invariant.0

pub returns-clause-once : goal.returns-clause-once
returns-clause-once c = λ apart. once-all (λ w e. ToWriter c.args.touch.now c.args.me w e) c.args.writers.now _ _ _
    c.loop-w-test.false (c.loop-w.invariant.1 apart)
