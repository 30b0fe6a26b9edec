use Rattle.std.proofs.Common.{◌≡◌, true, false, arith}
use Rattle.std.specs.Option.{is_some}
use Rattle.sgt_graph.proofs.Cycles.{none-all, none-next, told-first}
use Rattle.sgt_graph.proofs.shown.shown_cycle.Goals as goal

pub returns-then-is_some : goal.returns-then-is_some
returns-then-is_some c =
    let some : is_some c.in_ok-found.found ≡ true = cc in
    told-first c.args.edges.now c.loop-node.node c.in_ok-found.found c.loop-node.invariant c.in_ok-found.ensures some

pub loop-node-preserved : goal.loop-node-preserved
loop-node-preserved c =
    let none : is_some c.in_ok-found.found ≡ false = cc in
    none-next c.args.edges.now c.loop-node.node c.in_ok-found.found c.loop-node.invariant c.in_ok-found.ensures none

pub returns : goal.returns
returns c = none-all c.args.nodes c.args.edges.now c.loop-node.node c.requires.ends c.loop-node.invariant
    (omega (arith, c.loop-node-test.false))
