use Rattle.std.proofs.Common.{subst, sym}
use Rattle.sgt_history_kept.specs.Decided.{AreJoined}
use Rattle.sgt_history_kept.proofs.Rounds.{joined-nil, joined-push}
use Rattle.sgt_history_kept.proofs.round.none_joined.Goals as goal

pub lines-init : goal.lines-init
lines-init c edges = subst (AreJoined edges) (sym c.in_ok-joined.ensures.items) (joined-nil edges)

pub lines-preserved : goal.lines-preserved
lines-preserved c edges =
    subst (AreJoined edges) (sym c.in_ok-push.ensures.items)
    (joined-push edges c.lines.joined.items (c.lines.invariant edges))
