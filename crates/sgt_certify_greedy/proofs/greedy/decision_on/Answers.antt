use Rattle.std.proofs.Common.{ℕ, List, sym, subst, Contains}
use Rattle.sgt_certify_greedy.proofs.greedy.decision_on.Goals as goal

pub rank_of-rank-requires-clause-has : goal.rank_of-rank-requires-clause-has
rank_of-rank-requires-clause-has c =
    subst (λ (w : List ℕ). Contains w c.args.tx) (sym c.as_slice.ensures.value)
    (c.requires.known.committed c.args.tx (c.stands_in.ensures.0 c.if-stands_in.true))
