use Rattle.sgt_names.proofs.Lists.{element_at}
use Rattle.sgt_edges.specs.private.Gathered.{FromReader}
use Rattle.sgt_edges.proofs.Gathers.{each-none, each-next, each-all}
use Rattle.sgt_edges.proofs.Once.{once-next, once-all, from-readers-differ}
use Rattle.sgt_edges.proofs.gathered.add_readers.Goals as goal

pub loop-r-init : goal.loop-r-init
loop-r-init c = (
  each-none (λ r e. FromReader c.args.touch.now c.args.me r e) c.args.readers.now c.args.edges.now,
  λ apart before none. before,
)

pub loop-r-preserved : goal.loop-r-preserved
loop-r-preserved c =
    let at = element_at _ _ _ c.loop-r-test.true c.r-item.is in (
      each-next (λ r e. FromReader c.args.touch.now c.args.me r e) c.args.readers.now _ _ _ _ _ at
          c.loop-r.invariant.0 c.in_ok-add.ensures.all,
      λ apart. once-next (λ r e. FromReader c.args.touch.now c.args.me r e) c.args.readers.now _ _ _ _ _ at
          (from-readers-differ c.args.touch.now c.args.me _ apart) c.loop-r.invariant.0 (c.loop-r.invariant.1 apart)
          c.in_ok-add.ensures.once,
    )

pub returns-clause-all : goal.returns-clause-all
returns-clause-all c =
    each-all (λ r e. FromReader c.args.touch.now c.args.me r e) c.args.readers.now _ _ _ c.loop-r-test.false
    c.loop-r.invariant.0

pub returns-clause-once : goal.returns-clause-once
returns-clause-once c = λ apart. once-all (λ r e. FromReader c.args.touch.now c.args.me r e) c.args.readers.now _ _ _
    c.loop-r-test.false (c.loop-r.invariant.1 apart)
