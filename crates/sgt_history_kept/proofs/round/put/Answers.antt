use Rattle.std.proofs.Common.{arith}
use Rattle.sgt_history_kept.proofs.Rounds.{joined-note}
use Rattle.sgt_history_kept.proofs.round.put.Goals as goal

pub returns : goal.returns
returns c = λ edges in_it so.
    joined-note edges c.args.joined.now.items c.args.edge.from c.args.edge.to
    (omega (arith, c.if-edge-len.false, c.len.ensures, c.args.joined.now.ok.0)) in_it so
