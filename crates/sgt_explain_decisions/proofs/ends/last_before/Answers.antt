use Rattle.std.proofs.Common.{◌<◌, ◌≤◌, arith}
use Rattle.sgt_names.proofs.Lists.{element_at}
use Rattle.sgt_explain_decisions.proofs.Besides.{beside-next, beside-whole}
use Rattle.sgt_explain_decisions.proofs.ends.last_before.Goals as goal

pub loop-logged-preserved : goal.loop-logged-preserved
loop-logged-preserved c = λ ds placed.
    let entries = c.args.entries.now in
    let i = c.loop-logged.logged-index in
    let l = c.logged-item.result in
    let one = c.decided_end.ensures in
    let put = c.later_of-found.ensures in
    beside-next (λ n. n < c.args.own) (λ m n. m ≤ n) (λ a b d p q. omega (arith, p, q)) ds entries i l
    c.loop-logged.found c.decided_end.result c.later_of-found.result
    (element_at entries i l (omega arith) c.logged-item.is) (record {
      same = one.same;
      is = one.is ds placed;
      none =
          one.none ds placed;
    }) put.one put.kept put.more (c.loop-logged.invariant ds placed)

pub returns : goal.returns
returns c = λ ds placed.
    beside-whole (λ n. n < c.args.own) (λ m n. m ≤ n) ds c.args.entries.now c.loop-logged.logged-index
    c.loop-logged.found (omega (arith, c.loop-logged-test.false)) (c.loop-logged.invariant ds placed)
