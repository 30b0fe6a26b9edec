use Rattle.std.proofs.Common.{ℕ, Contains}
use Rattle.sgt_names.proofs.Places.{Contains-from_at}
use Rattle.sgt_names.proofs.Lists.{All_in, All-next, All-whole, element_at}
use Rattle.sgt_certify_greedy.specs.Pairs.{Leads}
use Rattle.sgt_certify_greedy.proofs.sorting.source.Goals as goal

pub returns-in-None-clause-some : goal.returns-in-None-clause-some
returns-in-None-clause-some c =
    let at = element_at c.args.left.now c.loop-tx.tx-index c.tx-item.result c.loop-tx-test.true c.tx-item.is in
    (Contains-from_at c.args.left.now c.loop-tx.tx-index c.tx-item.result at, c.in-None.ensures.none)

pub loop-tx-preserved : goal.loop-tx-preserved
loop-tx-preserved c =
    let at = element_at c.args.left.now c.loop-tx.tx-index c.tx-item.result c.loop-tx-test.true c.tx-item.is in
    All-next (λ (t : ℕ). (a : ℕ) × Contains c.args.left.now a × Leads c.args.pairs.now a t) c.args.left.now
    c.loop-tx.tx-index c.tx-item.result at
    (c.in-Some._before, c.in-Some.ensures.some.0, c.in-Some.ensures.some.1) c.loop-tx.invariant

pub returns-clause-none : goal.returns-clause-none
returns-clause-none c t has =
    let P = λ (t : ℕ). (a : ℕ) × Contains c.args.left.now a × Leads c.args.pairs.now a t in
    All_in P c.args.left.now t
    (All-whole P c.args.left.now c.loop-tx.tx-index c.loop-tx-test.false c.loop-tx.invariant) has
