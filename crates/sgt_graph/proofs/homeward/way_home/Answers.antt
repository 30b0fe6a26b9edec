use Rattle.std.proofs.Common.{ℕ, ◌<◌, lit<, sym, subst, arith}
use Rattle.sgt_graph.specs.declared.homeward.TheConstants.{FAR}
use Rattle.sgt_graph.specs.Nearest.{IsNearest, IsOnWay}
use Rattle.sgt_graph.proofs.Ways.{lost-end, lost-far, lost-first, lost-none, way-begins, way-ends, way-goes_on}
use Rattle.sgt_graph.proofs.homeward.way_home.Goals as goal

some : 0 < FAR
some = lit< tt

pub returns-in_default-clause-none : goal.returns-in_default-clause-none
returns-in_default-clause-none c = λ nodes edges so m.
    let distances = c.args.distances.now in
    let targets = c.targets_of.result.now in
    lost-first edges distances c.args.node FAR targets some (c.targets_of.ensures nodes edges so)
    (subst (IsNearest distances targets) c.in_default.is c.nearest.ensures) m

pub home-init : goal.home-init
home-init c = λ nodes edges so.
    let distances = c.args.distances.now in
    let targets = c.targets_of.result.now in
    let cycle = c.in_ok-cycle.cycle.items in
    let first = c.in-Some.first in
    subst (λ (n : ℕ). IsOnWay edges distances c.args.node first n cycle) (sym c.distance_at-left.ensures)
    (way-begins edges distances c.args.node targets first cycle (c.targets_of.ensures nodes edges so)
    (subst (IsNearest distances targets) c.in-Some.is c.nearest.ensures)
    c.in_ok-cycle.ensures.items)

pub returns-in_default-nearest-clause-none : goal.returns-in_default-nearest-clause-none
returns-in_default-nearest-clause-none c = λ nodes edges so m.
    let distances = c.args.distances.now in
    let targets = c.targets_of-in-home.result.now in
    lost-none edges distances c.args.node FAR c.home.here c.home.left c.home.cycle.items targets some
    (c.home.invariant nodes edges so) (omega (arith, c.home-test.true))
    (c.targets_of-in-home.ensures nodes edges so)
    (subst (IsNearest distances targets) c.in_default-nearest.is c.nearest-in-home.ensures) m

pub returns-then-distance_at-left-clause-none : goal.returns-then-distance_at-left-clause-none
returns-then-distance_at-left-clause-none c = λ nodes edges so m.
    let distances = c.args.distances.now in
    let targets = c.targets_of-in-home.result.now in
    lost-far edges distances c.args.node FAR c.home.here c.home.left c.in-Some-nearest.next c.home.cycle.items targets
    some (c.home.invariant nodes edges so)
    (omega (arith, c.home-test.true)) (c.targets_of-in-home.ensures nodes edges so)
    (subst (IsNearest distances targets) c.in-Some-nearest.is c.nearest-in-home.ensures)
    (λ e. omega (arith, e, c.if-distance_at-left.true, c.distance_at.ensures)) m

pub home-preserved : goal.home-preserved
home-preserved c = λ nodes edges so.
    let distances = c.args.distances.now in
    let targets = c.targets_of-in-home.result.now in
    way-goes_on edges distances c.args.node c.home.here c.home.left c.in-Some-nearest.next targets c.home.cycle.items
    c.push.new.self.items (c.home.invariant nodes edges so)
    (c.targets_of-in-home.ensures nodes edges so)
    (subst (IsNearest distances targets) c.in-Some-nearest.is c.nearest-in-home.ensures)
    (omega (arith, c.home-test.true))
    (omega (arith, c.if-distance_at-left.false, c.distance_at.ensures)) c.in_ok-push.ensures.items

pub returns-then-here-node-clause-none : goal.returns-then-here-node-clause-none
returns-then-here-node-clause-none c = λ nodes edges so m.
    lost-end edges c.args.distances.now c.args.node FAR c.home.here c.home.left c.home.cycle.items some
    (c.home.invariant nodes edges so) (omega (arith, c.home-test.false))
    (λ e. omega (arith, e, c.if-here-node.true)) m

pub returns-clause-some : goal.returns-clause-some
returns-clause-some c = λ nodes edges so.
    way-ends edges c.args.distances.now c.args.node c.home.here c.home.left c.home.cycle.items
    (c.home.invariant nodes edges so) (omega (arith, c.home-test.false))
    (omega (arith, c.if-here-node.false))
