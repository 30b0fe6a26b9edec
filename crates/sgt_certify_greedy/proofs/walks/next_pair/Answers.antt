use Rattle.std.proofs.Common.{sym, subst, Contains}
use Rattle.sgt_names.proofs.Lists.{All_in, All-next, All-whole, element_at}
use Rattle.sgt_certify_greedy.specs.declared.pairs.Pair.{Pair}
use Rattle.sgt_certify_greedy.specs.Walks.{IsReached}
use Rattle.sgt_certify_greedy.proofs.walks.next_pair.Goals as goal

pub loop-pair-preserved : goal.loop-pair-preserved
loop-pair-preserved c =
    let at = element_at c.args.pairs.now c.loop-pair.pair-index c.pair-item.result c.loop-pair-test.true
    c.pair-item.is in
    All-next (λ (pair : Pair). Contains c.args.wanted.now pair.to → IsReached c.args.reached.now pair.from
    → ⊥) c.args.pairs.now c.loop-pair.pair-index
    c.pair-item.result at c.in_default.ensures.none c.loop-pair.invariant

pub returns-clause-none : goal.returns-clause-none
returns-clause-none c a b reached (pair, found, from, to) wanted =
    let P = λ (pair : Pair). Contains c.args.wanted.now pair.to → IsReached c.args.reached.now pair.from → ⊥ in
    All_in P c.args.pairs.now pair (All-whole P c.args.pairs.now c.loop-pair.pair-index c.loop-pair-test.false
    c.loop-pair.invariant) found
    (subst (Contains c.args.wanted.now) (sym to) wanted) (subst (IsReached c.args.reached.now) (sym from) reached)
