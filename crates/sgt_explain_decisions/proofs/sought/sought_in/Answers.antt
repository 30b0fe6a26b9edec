use Rattle.std.proofs.Common.{length}
use Rattle.sgt_explain_decisions.proofs.Seeking.{walks-kept}
use Rattle.sgt_explain_decisions.proofs.sought.sought_in.Goals as goal

pub returns-clause-walks : goal.returns-clause-walks
returns-clause-walks c =
    walks-kept c.in_ok-sought.sought c.find_all.new.sought c.args.decisions.now (length c.args.decisions.now)
    c.in_ok-find_all.ensures.keys c.in_ok-sought.ensures.walks
