use Rattle.std.proofs.Common.{arith}
use Rattle.sgt_audit_workers.proofs.Given.{may-later}
use Rattle.sgt_names.proofs.Elements.{if_ok_both}
use Rattle.sgt_audit_workers.proofs.job.made.Goals as goal

pub returns-in-None : goal.returns-in-None
returns-in-None c k idle = if_ok_both c.new.result _ _ _ (c.new.ensures.ready c.requires.sites) c.new.ensures.second
    (λ a ready second. may-later c.args.head.now 0 k a (omega arith) (ready, second))
