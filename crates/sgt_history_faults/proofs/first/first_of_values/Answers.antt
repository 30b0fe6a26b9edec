use Rattle.std.proofs.Common.{◌≡◌, ◌≤◌, ◌∙◌, sym, subst, length, arith}
use Rattle.sgt_history.specs.Cut.{cut}
use Rattle.sgt_history_faults.specs.Given.{AreGivenTo, AreGivenInOrder}
use Rattle.sgt_history_faults.proofs.Bounds.{length-cut}
use Rattle.sgt_history_faults.proofs.GivenWhole.{given-permuted, others-faulty, values-covered}
use Rattle.sgt_history_faults.proofs.first.first_of_values.Goals as goal

pub returns-clause-real : goal.returns-clause-real
returns-clause-real c =
    let h = cut 0 c.args.history.now.lines.items c.args.history.now.operations.items in
    let n = length c.args.history.now.lines.items in
    let are =
    given-permuted h n c.in_ok-given.given.items c.sort_given.new.given.items c.sort_given.ensures.permutation
    c.in_ok-given.ensures in
    let are' = subst (AreGivenTo h n) (sym c.as_slice.ensures.value) are in
    let order = subst AreGivenInOrder (sym c.as_slice.ensures.value) c.sort_given.ensures.sorted in
    c.judge_values.ensures.real h (others-faulty h n c.as_slice.result.now are' order) tt

pub returns-clause-covered : goal.returns-clause-covered
returns-clause-covered c =
    let h = cut 0 c.args.history.now.lines.items c.args.history.now.operations.items in
    let n = length c.args.history.now.lines.items in
    let are =
    given-permuted h n c.in_ok-given.given.items c.sort_given.new.given.items c.sort_given.ensures.permutation
    c.in_ok-given.ensures in
    let are' = subst (AreGivenTo h n) (sym c.as_slice.ensures.value) are in
    let order = subst AreGivenInOrder (sym c.as_slice.ensures.value) c.sort_given.ensures.sorted in
    let size = length-cut 0 c.args.history.now.lines.items c.args.history.now.operations.items in
    values-covered h n c.as_slice.result.now are' order c.judge_values.result c.judge_values.ensures.covered
    (omega (arith, size))
