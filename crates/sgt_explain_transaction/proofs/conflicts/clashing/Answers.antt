use Rattle.sgt_explain_transaction.proofs.Clashing.{clash-none, clash-some}
use Rattle.sgt_explain_transaction.proofs.conflicts.clashing.Goals as goal

pub returns-in-Some : goal.returns-in-Some
returns-in-Some c =
    clash-some c.args.site c.args.first.now c.args.second.now _ _ c.in-Some.ensures.clash c.in-Some.ensures.apart

pub returns-in-None : goal.returns-in-None
returns-in-None c = clash-none c.args.site c.args.first.now c.args.second.now c.in-None.ensures.none
